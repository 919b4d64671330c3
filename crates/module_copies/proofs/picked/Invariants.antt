use Rattle.std.proofs.Common.{◌≡◌, map, take}
use Rattle.std.specs.Prelude.{slice_index}
use Rattle.word_eqs.specs.declared.term.TermId.{TermId}
use Rattle.word_eqs.specs.Graph.{places}
use Rattle.module_copies.proofs.picked.Given as goal

abbrev pub invariant-loop-t : goal.invariant-loop-t
invariant-loop-t l = places l.found ≡ map (λ (t : TermId). slice_index (places l.ids) t.0) (take l.t-index l.wanted)
