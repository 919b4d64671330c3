use Rattle.elab_laws.proofs.Agrees.{arithmetic_agrees, comparison_agrees, unary_agrees, reductions_agree}
use Rattle.elab_laws.proofs.operators_agree.Goals as goal

pub returns-clause-arithmetic : goal.returns-clause-arithmetic
returns-clause-arithmetic c = arithmetic_agrees

pub returns-clause-comparison : goal.returns-clause-comparison
returns-clause-comparison c = comparison_agrees

pub returns-clause-unary : goal.returns-clause-unary
returns-clause-unary c = unary_agrees

pub returns-clause-reductions : goal.returns-clause-reductions
returns-clause-reductions c = reductions_agree
