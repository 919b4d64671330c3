use Rattle.std.proofs.Common.{sym}
use Rattle.unwind.proofs.Starts.{result_type}
use Rattle.unwind.proofs.beginning.result_width.Goals as goal

pub returns-in-Some-result-clause-some : goal.returns-in-Some-result-clause-some
returns-in-Some-result-clause-some c = (result_type c.args.pair.now c.in-Some.main.now c.in-Some-result.ty c.requires (sym c.in-Some.ensures.value) c.in-Some-result.is).0

pub returns-in-Some-result-clause-few : goal.returns-in-Some-result-clause-few
returns-in-Some-result-clause-few c = (result_type c.args.pair.now c.in-Some.main.now c.in-Some-result.ty c.requires (sym c.in-Some.ensures.value) c.in-Some-result.is).1
