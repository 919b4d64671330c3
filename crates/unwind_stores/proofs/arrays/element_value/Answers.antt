use Rattle.std.proofs.Common.{◌≡◌, ◌<◌, ◌+◌, [], ◌∷◌, drop, length, refl, sym, ap, ◌∙◌, subst, arith}
use Rattle.std.specs.Prelude.{pos}
use Rattle.std.proofs.lemmas.List.{drop_more}
use Rattle.std.proofs.Math.ListN.{drop_of_length-le}
use Rattle.joint_ir.specs.declared.stmt.TInit.TheVariants.{Values as Exprs}
use Rattle.joint_ir.specs.declared.ctype.IntType.{IntType}
use Rattle.joint_ir.specs.WellFormed.{FitsAs, FitsDeclare}
use Rattle.unrolled.specs.declared.Unrolled.{Unrolled}
use Rattle.unwind_simple.proofs.Obtaining.{some_bits, few_bits}
use Rattle.unwind_stores.proofs.Answered.{number_made}
use Rattle.unwind_stores.proofs.Declared.{local_typed}
use Rattle.unwind_stores.proofs.Elementwise.{element_fits, element_free, element_some, element_none}
use Rattle.unwind_stores.proofs.arrays.element_value.Goals as goal

pub draw-requires-clause-some : goal.draw-requires-clause-some
draw-requires-clause-some c = some_bits c.args.ty (local_typed c.args.at.now c.args.net.now c.args.state.now c.args.local c.args.init.now c.args.guard c.args.ty c.requires.ty c.requires.may)

pub draw-requires-clause-few : goal.draw-requires-clause-few
draw-requires-clause-few c = few_bits c.args.ty (local_typed c.args.at.now c.args.net.now c.args.state.now c.args.local c.args.init.now c.args.guard c.args.ty c.requires.ty c.requires.may)

pub literal-requires-clause-ty : goal.literal-requires-clause-ty
literal-requires-clause-ty c = local_typed c.args.at.now c.args.net.now c.args.state.now c.args.local c.args.init.now c.args.guard c.args.ty c.requires.ty c.requires.may

pub value-requires : goal.value-requires
value-requires c =
    let M = c.requires.may in
    let h = c.requires.within in
    let es = c.as_slice-es.result.now in
    let x = c.index-es-place.result in
    let here : drop c.args.place es ≡ x ∷ drop (c.args.place + 1) es = drop_more es c.args.place x c.if-place-es.true ∙ ap (λ y. y ∷ drop (c.args.place + 1) es) (sym c.index-es-place.is) in
    let fits : FitsDeclare M.scope c.args.local (Exprs es) = subst (FitsDeclare M.scope c.args.local) (c.in-Values.is ∙ ap Exprs (sym c.as_slice-es.ensures)) M.fits in
    record { scope = M.scope; program = M.program; fits = (element_fits c.args.at.now M.scope c.args.local es c.args.place x M.program (omega (arith, h)) here fits).1; objects = M.objects; guard = M.guard }

pub returns-in_ok-t-in-Free : goal.returns-in_ok-t-in-Free
returns-in_ok-t-in-Free c =
    element_free c.args.at.now c.args.net.now c.draw.new.net c.args.state.now c.args.local c.args.ty c.args.init.now c.args.place c.args.guard c.in_ok-t-in-Free.t c.in-Free.is
    (local_typed c.args.at.now c.args.net.now c.args.state.now c.args.local c.args.init.now c.args.guard c.args.ty c.requires.ty c.requires.may) c.in_ok-t-in-Free.ensures

pub returns-in_ok-t-in-Values : goal.returns-in_ok-t-in-Values
returns-in_ok-t-in-Values c =
    let M = c.requires.may in
    let h = c.requires.within in
    let es = c.as_slice-es.result.now in
    let x = c.index-es-place.result in
    let here : drop c.args.place es ≡ x ∷ drop (c.args.place + 1) es = drop_more es c.args.place x c.if-place-es.true ∙ ap (λ y. y ∷ drop (c.args.place + 1) es) (sym c.index-es-place.is) in
    let is : c.args.init.now ≡ Exprs es = c.in-Values.is ∙ ap Exprs (sym c.as_slice-es.ensures) in
    let fits : FitsDeclare M.scope c.args.local (Exprs es) = subst (FitsDeclare M.scope c.args.local) is M.fits in
    let own : x.ty ≡ c.args.ty = (element_fits c.args.at.now M.scope c.args.local es c.args.place x M.program (omega (arith, h)) here fits).0 ∙ sym c.requires.ty in
    element_some c.args.at.now c.args.net.now c.value.new.net c.args.state.now c.args.local c.args.ty c.args.init.now es x c.args.place c.args.guard c.in_ok-t-in-Values.t is here own
    (λ d inside f. (element_fits c.args.at.now d c.args.local es c.args.place x inside (omega (arith, h)) here f).1) c.in_ok-t-in-Values.ensures

pub returns-in_ok-t-in-Values-2 : goal.returns-in_ok-t-in-Values-2
returns-in_ok-t-in-Values-2 c =
    let es = c.as_slice-es.result.now in
    let n = c.if-place-es.false in
    let net : Unrolled = record { terms = c.literal.new.terms; list = c.args.net.now.list } in
    let none : drop c.args.place es ≡ [] = drop_of_length-le es (omega (arith, n)) in
    element_none c.args.at.now c.args.net.now net c.args.state.now c.args.local c.args.ty c.args.init.now es c.args.place c.args.guard c.in_ok-t-in-Values-2.t (c.in-Values.is ∙ ap Exprs (sym c.as_slice-es.ensures)) none
    (number_made c.args.net.now net c.args.ty 0 1 c.in_ok-t-in-Values-2.t (λ v. pos 0) refl c.in_ok-t-in-Values-2.ensures)
