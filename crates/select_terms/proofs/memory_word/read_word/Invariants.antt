use Rattle.word_eqs.specs.Graph.{places}
use Rattle.select_terms.proofs.Reading.{ReadsUpTo}
use Rattle.select_terms.proofs.memory_word.read_word.Given as goal

abbrev pub invariant-loop-j : goal.invariant-loop-j
invariant-loop-j l = ReadsUpTo l.fn.terms l.terms l.index.0 l.signed (places l.words) l.fn.site.0 l.j l.t.0
