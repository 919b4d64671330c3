use Rattle.std.proofs.Common.{sym, subst}
use Rattle.word_eqs.specs.Gates.{gates2}
use Rattle.joint_ir.specs.Types.{int}
use Rattle.joint_ir.specs.Values.{Value, bit_of}
use Rattle.checked_terms.specs.Checked.{IsChecked, plain, comparison_of}
use Rattle.checked_terms.proofs.Results.{holds_made, fails_made}
use Rattle.checked_terms.proofs.tests_of.compare.Goals as goal

pub returns-in_ok-t : goal.returns-in_ok-t
returns-in_ok-t c test is =
    subst (λ b. IsChecked c.args.terms.now c.resize.new.terms int (gates2 c.args.op c.args.a.width) 3 (plain c.in_ok-t.t) (λ v. Value (bit_of (comparison_of b (test v))))) (sym c.if-negated.true)
    (fails_made c.args.terms.now c.two.new.terms c.one.new.terms c.resize.new.terms c.args.op c.args.a c.args.b c.in_ok-holds.holds c.in_ok-fails.fails c.in_ok-t.t
    c.requires.first c.requires.second c.requires.op c.in_ok-holds.ensures c.in_ok-fails.ensures c.in_ok-t.ensures test is)

pub returns-in_ok-t-2 : goal.returns-in_ok-t-2
returns-in_ok-t-2 c test is =
    subst (λ b. IsChecked c.args.terms.now c.resize-else-negated.new.terms int (gates2 c.args.op c.args.a.width) 3 (plain c.in_ok-t-2.t) (λ v. Value (bit_of (comparison_of b (test v))))) (sym c.if-negated.false)
    (holds_made c.args.terms.now c.two.new.terms c.resize-else-negated.new.terms c.args.op c.args.a c.args.b c.in_ok-holds.holds c.in_ok-t-2.t
    c.requires.first c.requires.second c.requires.op c.in_ok-holds.ensures c.in_ok-t-2.ensures test is)
