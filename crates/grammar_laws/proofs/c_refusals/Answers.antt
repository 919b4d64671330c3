use Rattle.grammar_laws.proofs.CRefused.{c_refusals}
use Rattle.grammar_laws.proofs.c_refusals.Goals as goal

pub returns : goal.returns
returns c = c_refusals
