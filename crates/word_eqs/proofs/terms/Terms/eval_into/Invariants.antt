use Rattle.word_eqs.proofs.Evaluating.{Evaluated}
use Rattle.word_eqs.proofs.terms.Terms.eval_into.Given as goal

abbrev pub invariant-loop-k : goal.invariant-loop-k
invariant-loop-k l = Evaluated l.self l.env l.out l.k
