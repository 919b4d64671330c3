use Rattle.std.proofs.Common.{◌≡◌, take, map}
use Rattle.word_eqs.specs.Meaning.{word_at}
use Rattle.word_eqs.specs.declared.term.TermId.{TermId}
use Rattle.joint_view.proofs.settling.numbers_at.Given as goal

abbrev pub invariant-loop-id : goal.invariant-loop-id
invariant-loop-id l = l.numbers ≡ map (λ (t : TermId). (word_at l.words t.0).value) (take l.id-index l.ids)
