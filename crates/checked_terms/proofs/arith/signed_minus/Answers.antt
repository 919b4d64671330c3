use Rattle.std.proofs.Common.{◌+◌, ◌*◌, true, Option, None, sym, subst}
use Rattle.std.specs.Prelude.{neg_ℤ}
use Rattle.bits_core.specs.Word.{number}
use Rattle.word_eqs.specs.Gates.{gates2}
use Rattle.joint_ir.specs.Values.{result_in}
use Rattle.sized_terms.specs.Sized.{bits}
use Rattle.checked_terms.specs.declared.Check.{Check}
use Rattle.checked_terms.specs.Checked.{IsChecked, stands}
use Rattle.checked_terms.proofs.Results.{at_width}
use Rattle.checked_terms.proofs.Results.{minus_made}
use Rattle.checked_terms.proofs.arith.signed_minus.Goals as goal

pub returns : goal.returns
returns c =
    subst (λ (o : Option Check). IsChecked c.args.terms.now c.cut.new.terms c.args.ty (8 * (10 * c.args.ty.bits + 32)) 5 (record { division = None; other = o; value = c.in_ok-result.result.value }) (λ v. result_in c.args.ty c.args.other (neg_ℤ (stands c.args.ty v c.args.a)))) (sym c.check_for.ensures)
    (minus_made c.args.terms.now c.resize.new.terms c.one.new.terms c.cut.new.terms c.args.ty c.args.other c.args.a c.in_ok-x.x c.in_ok-t.t c.in_ok-result.result
    c.requires.ty c.requires.signed c.requires.has c.requires.width c.in_ok-x.ensures c.in_ok-t.ensures c.in_ok-result.ensures)
