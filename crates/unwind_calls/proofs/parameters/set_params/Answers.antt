use Rattle.std.proofs.Common.{◌≡◌, ◌+◌, length, take, get_or, sym, subst, arith}
use Rattle.std.proofs.lemmas.List.{take_more, length-take-le}
use Rattle.sized_terms.specs.declared.SizedTerm.{SizedTerm}
use Rattle.unwind_state.proofs.Gates.{guard_kept}
use Rattle.unwind_calls.specs.Arguments.{AreSet}
use Rattle.unwind_calls.proofs.Params.{set_none, set_more, fit_at, param_there, param_old}
use Rattle.unwind_calls.proofs.parameters.set_params.Goals as goal

pub loop-i-init : goal.loop-i-init
loop-i-init c = set_none c.args._pair.now c.args.net.now c.args.objects.now c.args.first c.args.guard c.len.ensures.proper c.requires.objects

pub put-requires-clause-guard : goal.put-requires-clause-guard
put-requires-clause-guard c = guard_kept c.args.net.now c.loop-i.net c.args.guard c.loop-i.invariant.adds c.requires.guard

pub put-requires-clause-there : goal.put-requires-clause-there
put-requires-clause-there c =
    let p = c.args._pair.now.program in
    let there = c.requires.there in
    let lt = c.loop-i-test.true in
    let fit = fit_at p c.args.first c.args.args.now c.loop-i.i (record { term = record { 0 = 0 }; width = 0 }) lt c.requires.fit in
    param_there p c.loop-i.net.terms c.loop-i.objects (c.args.first + c.loop-i.i) c.loop-i.invariant.objects (omega (arith, there, lt)) fit.1

pub put-requires-clause-old : goal.put-requires-clause-old
put-requires-clause-old c =
    let p = c.args._pair.now.program in
    let there = c.requires.there in
    let lt = c.loop-i-test.true in
    let fit = fit_at p c.args.first c.args.args.now c.loop-i.i (record { term = record { 0 = 0 }; width = 0 }) lt c.requires.fit in
    λ t at. param_old p c.loop-i.net.terms c.loop-i.objects (c.args.first + c.loop-i.i) _ c.loop-i.invariant.objects (omega (arith, there, lt)) fit.0 t at

pub loop-i-preserved : goal.loop-i-preserved
loop-i-preserved c =
    let p = c.args._pair.now in
    let ts = c.args.args.now in
    let i = c.loop-i.i in
    let there = c.requires.there in
    let lt = c.loop-i-test.true in
    let t : SizedTerm = get_or ts i (record { term = record { 0 = 0 }; width = 0 }) in
    let fit = fit_at p.program c.args.first ts i (record { term = record { 0 = 0 }; width = 0 }) lt c.requires.fit in
    let count : length (take i ts) ≡ i = length-take-le i ts (omega (arith, lt)) in
    subst (λ l. AreSet p c.args.net.now c.put.new.net c.args.objects.now c.put.new.objects c.args.first l c.args.guard) (sym (take_more ts i (record { term = record { 0 = 0 }; width = 0 }) lt))
    (set_more p c.args.net.now c.loop-i.net c.put.new.net c.args.objects.now c.loop-i.objects c.put.new.objects c.args.first (c.args.first + i) (take i ts) t c.args.guard (omega (arith, count)) (omega (arith, there, lt)) fit.1 fit.0
    c.loop-i.invariant c.in_ok-put.ensures)
