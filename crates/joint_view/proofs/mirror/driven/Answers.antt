use Rattle.std.proofs.Common.{◌≡◌, ◌++◌, length, drop, sym, ap, ◌∙◌, subst, arith}
use Rattle.std.proofs.lemmas.List.{drop_all, append-nil}
use Rattle.joint_ir.specs.declared.module.Role.TheVariants.{Input}
use Rattle.joint_ir.specs.Views.{widths_of, driven, driven_from}
use Rattle.joint_view.specs.Conditions.{AreWords}
use Rattle.joint_view.specs.Moves.{row_items}
use Rattle.joint_view.proofs.Rows.{driven_fits}
use Rattle.joint_view.proofs.mirror.driven.Goals as goal

pub returns-clause-words : goal.returns-clause-words
returns-clause-words c =
    let p = c.args.pair.now in
    let members = row_items c.args.members.now in
    let inputs = c.args.inputs.now in
    let numbers = c.loop-k.numbers in
    let n = ap length c.as_slice-signal-items.ensures in
    let is : numbers ≡ driven p members inputs =
    sym (append-nil numbers)
    ∙ ap (λ l. numbers ++ driven_from p.binding.links members c.loop-k.k l (drop (length numbers) inputs)) (sym (drop_all c.loop-k.k p.module.signals (omega (arith, n, c.loop-k-test.false))))
    ∙ c.loop-k.invariant.numbers in
    subst (λ l. AreWords (widths_of Input p.module.signals) l) (sym is) (driven_fits p.binding.links members 0 p.module.signals inputs c.requires.fits.signals c.requires.inputs)
