use Rattle.std.proofs.Common.{◌≡◌, ℕ, List, Option, map, inl, inr, sym, refl, ◌∙◌, subst}
use Rattle.std.specs.Prelude.{string_bytes}
use Rattle.hwcbmc_core.specs.declared.answer.Answer.TheVariants.{Memory}
use Rattle.hwcbmc_core.specs.declared.kept.Kept.{Kept}
use Rattle.hwcbmc_core.specs.Answers.{OfFiles, IsSuccessOf}
use Rattle.hwcbmc_core.specs.Keeping.{IsKept}
use Rattle.io_edge.specs.Files.{Reading}
use Rattle.io_edge.specs.Sink.{Stream}
use Rattle.hwcbmc_core.proofs.CauseLemmas.{composed_keeps_nothing, usage_cause, success_cause, spent_cause, kept_cause, refusal_cause, failure_cause, write_cause, no_write_fault, no_read_fault}
use Rattle.hwcbmc_core.proofs.run.Goals as goal

pub returns-clause-answered : goal.returns-clause-answered
returns-clause-answered g c = elim c.deliver-status.ensures [
  | inl delivered ↦ (c.answer_for-answer.result, c.answer_for-answer.ensures.right, delivered, c.kept.ensures)
  | inr want ↦ (Memory, tt, want.1, c.kept.ensures ∙ composed_keeps_nothing c.answer_for-answer.result want.0)
]

pub returns-clause-usage : goal.returns-clause-usage
returns-clause-usage g c = λ is.
    let answered = returns-clause-answered g c in
    let words : List (List ℕ) = map string_bytes c.args.words.now in
    let told : List ℕ → Option (List ℕ) = g.F.Files.told c.args.files.now in
    let before : Reading = g.F.Files.reading c.args.files.now in
    let after : Reading = g.F.Files.reading c.answer_for-answer.new.files in
    let out : Stream = g.O.Sink.stream c.args.out.now in
    let out_after : Stream = g.O.Sink.stream c.deliver-status.new.out in
    let err : Stream = g.E.Sink.stream c.args.err.now in
    let err_after : Stream = g.E.Sink.stream c.deliver-status.new.err in
    usage_cause words told before after answered.0 c.deliver-status.result out out_after err err_after answered.1 answered.2 is

pub returns-clause-successful : goal.returns-clause-successful
returns-clause-successful g c = λ is.
    let answered = returns-clause-answered g c in
    let words : List (List ℕ) = map string_bytes c.args.words.now in
    let told : List ℕ → Option (List ℕ) = g.F.Files.told c.args.files.now in
    let before : Reading = g.F.Files.reading c.args.files.now in
    let after : Reading = g.F.Files.reading c.answer_for-answer.new.files in
    let out : Stream = g.O.Sink.stream c.args.out.now in
    let out_after : Stream = g.O.Sink.stream c.deliver-status.new.out in
    let err : Stream = g.E.Sink.stream c.args.err.now in
    let err_after : Stream = g.E.Sink.stream c.deliver-status.new.err in
    let right = success_cause words told before after answered.0 c.deliver-status.result out out_after err err_after answered.1 answered.2 is in
    let P : Kept → Type 0 = λ k. OfFiles right.0 told (IsSuccessOf right.0 k) in
    (right.0, right.1, subst P (sym answered.3) right.2)

pub returns-clause-spent : goal.returns-clause-spent
returns-clause-spent g c = λ is.
    let answered = returns-clause-answered g c in
    let words : List (List ℕ) = map string_bytes c.args.words.now in
    let told : List ℕ → Option (List ℕ) = g.F.Files.told c.args.files.now in
    let before : Reading = g.F.Files.reading c.args.files.now in
    let after : Reading = g.F.Files.reading c.answer_for-answer.new.files in
    let out : Stream = g.O.Sink.stream c.args.out.now in
    let out_after : Stream = g.O.Sink.stream c.deliver-status.new.out in
    let err : Stream = g.E.Sink.stream c.args.err.now in
    let err_after : Stream = g.E.Sink.stream c.deliver-status.new.err in
    let right = spent_cause words told before after answered.0 c.deliver-status.result out out_after err err_after answered.1 answered.2 is in
    (right.0, right.1, right.2, right.3, answered.3 ∙ right.4)

pub returns-clause-kept : goal.returns-clause-kept
returns-clause-kept g c =
    let answered = returns-clause-answered g c in
    let words : List (List ℕ) = map string_bytes c.args.words.now in
    let told : List ℕ → Option (List ℕ) = g.F.Files.told c.args.files.now in
    let before : Reading = g.F.Files.reading c.args.files.now in
    let after : Reading = g.F.Files.reading c.answer_for-answer.new.files in
    let P : Kept → Type 0 = λ k. IsKept words told k in
    subst P (sym answered.3) (kept_cause words told before after answered.0 answered.1)

pub returns-clause-refused : goal.returns-clause-refused
returns-clause-refused g c = λ is.
    let answered = returns-clause-answered g c in
    let words : List (List ℕ) = map string_bytes c.args.words.now in
    let told : List ℕ → Option (List ℕ) = g.F.Files.told c.args.files.now in
    let before : Reading = g.F.Files.reading c.args.files.now in
    let after : Reading = g.F.Files.reading c.answer_for-answer.new.files in
    let out : Stream = g.O.Sink.stream c.args.out.now in
    let out_after : Stream = g.O.Sink.stream c.deliver-status.new.out in
    let err : Stream = g.E.Sink.stream c.args.err.now in
    let err_after : Stream = g.E.Sink.stream c.deliver-status.new.err in
    refusal_cause words told before after answered.0 c.deliver-status.result out out_after err err_after answered.1 answered.2 is

pub returns-clause-failed : goal.returns-clause-failed
returns-clause-failed g c = λ is.
    let answered = returns-clause-answered g c in
    let words : List (List ℕ) = map string_bytes c.args.words.now in
    let told : List ℕ → Option (List ℕ) = g.F.Files.told c.args.files.now in
    let before : Reading = g.F.Files.reading c.args.files.now in
    let after : Reading = g.F.Files.reading c.answer_for-answer.new.files in
    let out : Stream = g.O.Sink.stream c.args.out.now in
    let out_after : Stream = g.O.Sink.stream c.deliver-status.new.out in
    let err : Stream = g.E.Sink.stream c.args.err.now in
    let err_after : Stream = g.E.Sink.stream c.deliver-status.new.err in
    failure_cause words told before after answered.0 c.deliver-status.result out out_after err err_after answered.1 answered.2 is

pub returns-clause-write_fault : goal.returns-clause-write_fault
returns-clause-write_fault g c = λ is.
    let answered = returns-clause-answered g c in
    let out : Stream = g.O.Sink.stream c.args.out.now in
    let out_after : Stream = g.O.Sink.stream c.deliver-status.new.out in
    let err : Stream = g.E.Sink.stream c.args.err.now in
    let err_after : Stream = g.E.Sink.stream c.deliver-status.new.err in
    write_cause answered.0 c.deliver-status.result out out_after err err_after answered.2 is

pub returns-clause-no_write_fault : goal.returns-clause-no_write_fault
returns-clause-no_write_fault g c = λ apart.
    let answered = returns-clause-answered g c in
    let out : Stream = g.O.Sink.stream c.args.out.now in
    let out_after : Stream = g.O.Sink.stream c.deliver-status.new.out in
    let err : Stream = g.E.Sink.stream c.args.err.now in
    let err_after : Stream = g.E.Sink.stream c.deliver-status.new.err in
    no_write_fault answered.0 c.deliver-status.result out out_after err err_after answered.2 apart

pub returns-clause-no_read_fault : goal.returns-clause-no_read_fault
returns-clause-no_read_fault g c = λ seven eight nine.
    let answered = returns-clause-answered g c in
    let words : List (List ℕ) = map string_bytes c.args.words.now in
    let told : List ℕ → Option (List ℕ) = g.F.Files.told c.args.files.now in
    let before : Reading = g.F.Files.reading c.args.files.now in
    let after : Reading = g.F.Files.reading c.answer_for-answer.new.files in
    let out : Stream = g.O.Sink.stream c.args.out.now in
    let out_after : Stream = g.O.Sink.stream c.deliver-status.new.out in
    let err : Stream = g.E.Sink.stream c.args.err.now in
    let err_after : Stream = g.E.Sink.stream c.deliver-status.new.err in
    no_read_fault words told before after answered.0 c.deliver-status.result out out_after err err_after answered.1 answered.2 seven eight nine
