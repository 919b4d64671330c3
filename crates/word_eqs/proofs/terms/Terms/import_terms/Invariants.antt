use Rattle.word_eqs.specs.Graph.{places}
use Rattle.word_eqs.proofs.Importing.{Imported}
use Rattle.word_eqs.proofs.terms.Terms.import_terms.Given as goal

abbrev pub invariant-loop-k : goal.invariant-loop-k
invariant-loop-k l = Imported l.initial.self l.self l.from (places l.map) (places l.ids) l.k
