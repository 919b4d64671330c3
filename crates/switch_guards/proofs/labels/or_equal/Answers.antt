use Rattle.std.proofs.Common.{refl, subst}
use Rattle.std.specs.Prelude.{ℤ}
use Rattle.std.proofs.lemmas.Int.{to_z-of_z}
use mir.Val.{SFits}
use mir.Syntax.{w128}
use Rattle.joint_ir.specs.Values.{Value}
use Rattle.checked_terms.specs.Checked.{IsChecked, plain}
use Rattle.switch_guards.proofs.Bits.{either_made}
use Rattle.switch_guards.proofs.labels.or_equal.Goals as goal

pub returns : goal.returns
returns c =
    let list = c.args.net.now.list in
    let f : SFits w128 c.args.n = c.ranges.n in
    let L = subst (λ (m : ℤ). IsChecked c.args.net.now.terms c.literal.new.terms c.args.ty 0 1 (plain c.in_ok-label.label) (λ v. Value m)) (to_z-of_z w128 c.args.n f) c.in_ok-label.ensures in
    either_made c.args.net.now (record { terms = c.literal.new.terms; list = list }) (record { terms = c.two.new.terms; list = list }) (record { terms = c.two-2.new.terms; list = list }) c.args.ty c.args.value c.args.any c.in_ok-label.label c.in_ok-same.same c.in_ok-t.t c.args.n 0 _ _
    L refl c.in_ok-same.ensures refl c.in_ok-t.ensures refl c.requires.has c.requires.width c.requires.one
