use Rattle.std.proofs.lemmas.Result.{IfOk-weaker}
use Rattle.checked_terms.proofs.Results.{flip_made}
use Rattle.checked_terms.proofs.arith.flipped.Goals as goal

pub returns : goal.returns
returns c = flip_made c.args.terms.now c.one.new.terms c.args.ty c.args.a c.in_ok-value.value c.requires.ty c.requires.has c.requires.width c.in_ok-value.ensures
