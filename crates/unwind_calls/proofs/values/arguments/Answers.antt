use Rattle.std.proofs.Common.{◌≡◌, ◌+◌, [], ◌∷◌, ◌++◌, take, sym, ap, ◌∙◌, subst}
use Rattle.std.proofs.lemmas.List.{take_more}
use Rattle.std.proofs.lemmas.List.Elements.{All-get_or}
use Rattle.joint_ir.specs.declared.expr.TExpr.{TExpr}
use Rattle.joint_ir.specs.WellFormed.{Scope, FitsExpr}
use Rattle.unwind_simple.proofs.Statements.{grown_guard, grown_objects}
use Rattle.unwind_calls.proofs.Listing.{Sofar, sofar_none, sofar_more}
use Rattle.unwind_calls.proofs.values.arguments.Goals as goal

pub loop-e-init : goal.loop-e-init
loop-e-init c =
    subst (λ ts. Sofar c.args.at.now c.args.net.now c.args.net.now c.args.state.now c.args.es.now [] c.args.guard ts) (sym c.new-terms.ensures.items)
    (sofar_none c.args.at.now c.args.net.now c.args.state.now c.args.es.now c.args.guard c.len.ensures.proper)

pub value-requires : goal.value-requires
value-requires c =
    let M = c.requires in
    let S = c.loop-e.invariant in
    let fits : FitsExpr M.scope c.e-item.result = subst (FitsExpr M.scope) (sym c.e-item.is) (All-get_or (FitsExpr M.scope) c.args.es.now c.loop-e.e-index c.e-item.result c.loop-e-test.true M.fits) in
    record { scope = M.scope; program = M.program; fits = fits; objects = grown_objects c.args.at.now c.args.net.now c.loop-e.net c.args.state.now.objects S.grows M.objects; guard = grown_guard c.args.at.now c.args.net.now c.loop-e.net c.args.guard S.grows M.guard }

pub loop-e-preserved : goal.loop-e-preserved
loop-e-preserved c =
    let es = c.args.es.now in
    let i = c.loop-e.e-index in
    let e = c.e-item.result in
    let more : take (i + 1) es ≡ take i es ++ e ∷ [] = take_more es i e c.loop-e-test.true ∙ ap (λ (x : TExpr). take i es ++ x ∷ []) (sym c.e-item.is) in
    subst (λ ts. Sofar c.args.at.now c.args.net.now c.value.new.net c.args.state.now es (take (i + 1) es) c.args.guard ts) (sym c.in_ok-push.ensures.items)
    (subst (λ l. Sofar c.args.at.now c.args.net.now c.value.new.net c.args.state.now es l c.args.guard (c.loop-e.terms.items ++ c.in_ok-t.t ∷ [])) (sym more)
    (sofar_more c.args.at.now c.args.net.now c.loop-e.net c.value.new.net c.args.state.now es (take i es) e c.args.guard c.loop-e.terms.items c.in_ok-t.t
    (λ (d : Scope) inside fits. subst (FitsExpr d) (sym c.e-item.is) (All-get_or (FitsExpr d) es i e c.loop-e-test.true fits)) c.loop-e.invariant c.in_ok-t.ensures))
