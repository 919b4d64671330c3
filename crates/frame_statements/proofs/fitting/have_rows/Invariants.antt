use Rattle.std.proofs.Common.{◌≡◌, List, length, map, take}
use Rattle.word_eqs.specs.declared.term.TermId.{TermId}
use Rattle.unwind_module.specs.Words.{member_elements}
use Rattle.frame_statements.proofs.fitting.have_rows.Given as goal

abbrev pub invariant-loop-k : goal.invariant-loop-k
invariant-loop-k l = map (λ (r : List TermId). length r) (take l.k l.rows) ≡ map member_elements (take l.k l.members)
