use Rattle.std.proofs.Common.{◌+◌, ◌*◌, true, Option, None, sym, subst}
use Rattle.std.specs.Prelude.{neg_ℤ}
use Rattle.bits_core.specs.Word.{number}
use Rattle.word_eqs.specs.Gates.{gates2}
use Rattle.joint_ir.specs.Values.{result_in}
use Rattle.sized_terms.specs.Sized.{bits}
use Rattle.checked_terms.specs.declared.Check.{Check}
use Rattle.checked_terms.specs.Checked.{IsChecked, stands}
use Rattle.checked_terms.proofs.Results.{at_width}
use Rattle.checked_terms.proofs.Results.{signed_result}
use Rattle.checked_terms.proofs.arith.signed.Goals as goal

pub returns : goal.returns
returns c =
    subst (λ (o : Option Check). IsChecked c.args.terms.now c.cut.new.terms c.args.ty (gates2 c.args.op c.args.to + 4 * c.args.to + 9) 6 (record { division = None; other = o; value = c.in_ok-result.result.value }) (λ v. result_in c.args.ty c.args.other (number true c.args.to (at_width c.args.op c.args.to c.args.ty.bits (bits v c.args.a) (bits v c.args.b))))) (sym c.check_for.ensures)
    (signed_result c.args.terms.now c.wide.new.terms c.cut.new.terms c.args.ty c.args.other c.args.op c.args.to c.args.a c.args.b c.in_ok-t.t c.in_ok-result.result
    c.requires.ty c.requires.width_a c.requires.op c.in_ok-t.ensures c.in_ok-result.ensures)
