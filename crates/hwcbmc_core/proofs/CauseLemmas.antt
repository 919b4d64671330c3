-- What each status says, from the answer that was delivered.
use Rattle.std.proofs.Common.{◌≡◌, ◌≢◌, ℕ, ◌⊎◌, inl, inr, List, Option, None, Some, ap, arith, refl}
use Rattle.std.specs.Prelude.{String, string_bytes}
use Rattle.std.specs.declared.alloc.Global.{Global}
use Rattle.io_edge.specs.Faults.{Rose}
use Rattle.io_edge.specs.Files.{Reading}
use Rattle.io_edge.specs.Sink.{Stream, Appends}
use Rattle.src_text.specs.declared.refusal.Refusal.{Refusal}
use Rattle.command_options.specs.declared.asked.Options.{Options}
use Rattle.hwcbmc_core.specs.declared.answer.Answer.{Answer}
use Rattle.hwcbmc_core.specs.declared.answer.Answer.TheVariants.{Usage, ReadFault, Refused, Failed, Successful, Spent, Memory}
use Rattle.command_options.specs.Options.{options_of}
use Rattle.pair_proof.specs.declared.Proof.{Proof}
use Rattle.hwcbmc_core.specs.declared.kept.Kept.TheVariants as kept
use Rattle.hwcbmc_core.specs.Answers.{NoFault, IsFirstRefusal, c_too_long, v_too_long, of_texts, OfFiles, IsSuccessOf, IsFailureOf, IsSpentOf, IsRight}
use Rattle.hwcbmc_core.specs.Keeping.{kept_of, IsKept}
use Rattle.hwcbmc_core.specs.Delivery.{IsComposed, IsDelivered, IsSentAs, message_of}

-- A status other than the answer's own and 8 isn't given.
not_given : (text : List ℕ) (own given other : ℕ) (old new : Stream) → IsSentAs text own given old new → given ≡ other → other ≢ own → other ≢ 8 → ⊥
not_given text own given other old new sent is apart whole = elim sent [
  | inl all ↦ apart (cc (all.0))
  | inr part ↦ whole (cc (part.0))
]

-- 64 comes only where the words have no options.
pub usage_cause : (words : List (List ℕ)) (told : List ℕ → Option (List ℕ)) (before after : Reading) (answer : Answer) (given : ℕ) (out out_after err err_after : Stream)
    → IsRight words told before after answer → IsDelivered answer given out out_after err err_after → given ≡ 64 → options_of words ≡ None
usage_cause words told before after Usage given out out_after err err_after right sent is = right.0
usage_cause words told before after (ReadFault file) given out out_after err err_after right sent is = absurd (not_given _ 7 given 64 err err_after sent.0 is (λ h. omega arith) (λ h. omega arith))
usage_cause words told before after (Refused file refusal) given out out_after err err_after right sent is = absurd (not_given _ 6 given 64 err err_after sent.0 is (λ h. omega arith) (λ h. omega arith))
usage_cause words told before after (Failed trace) given out out_after err err_after right sent is = absurd (not_given _ 10 given 64 out out_after sent.0 is (λ h. omega arith) (λ h. omega arith))
usage_cause words told before after (Successful held) given out out_after err err_after right sent is = absurd (not_given _ 0 given 64 out out_after sent.0 is (λ h. omega arith) (λ h. omega arith))
usage_cause words told before after (Spent proof) given out out_after err err_after right sent is = absurd (not_given _ 11 given 64 out out_after sent.0 is (λ h. omega arith) (λ h. omega arith))
usage_cause words told before after Memory given out out_after err err_after right sent is = absurd (not_given _ 9 given 64 err err_after sent.0 is (λ h. omega arith) (λ h. omega arith))

-- 0 comes only where no run breaks a property.
pub success_cause : (words : List (List ℕ)) (told : List ℕ → Option (List ℕ)) (before after : Reading) (answer : Answer) (given : ℕ) (out out_after err err_after : Stream)
    → IsRight words told before after answer → IsDelivered answer given out out_after err err_after → given ≡ 0
    → (options : Options) × (options_of words ≡ Some options)
    × OfFiles options told (IsSuccessOf options (kept_of answer))
success_cause words told before after Usage given out out_after err err_after right sent is = absurd (not_given _ 64 given 0 err err_after sent.0 is (λ h. omega arith) (λ h. omega arith))
success_cause words told before after (ReadFault file) given out out_after err err_after right sent is = absurd (not_given _ 7 given 0 err err_after sent.0 is (λ h. omega arith) (λ h. omega arith))
success_cause words told before after (Refused file refusal) given out out_after err err_after right sent is = absurd (not_given _ 6 given 0 err err_after sent.0 is (λ h. omega arith) (λ h. omega arith))
success_cause words told before after (Failed trace) given out out_after err err_after right sent is = absurd (not_given _ 10 given 0 out out_after sent.0 is (λ h. omega arith) (λ h. omega arith))
success_cause words told before after (Successful held) given out out_after err err_after right sent is = (right.0, right.1, right.2.1)
success_cause words told before after (Spent proof) given out out_after err err_after right sent is = absurd (not_given _ 11 given 0 out out_after sent.0 is (λ h. omega arith) (λ h. omega arith))
success_cause words told before after Memory given out out_after err err_after right sent is = absurd (not_given _ 9 given 0 err err_after sent.0 is (λ h. omega arith) (λ h. omega arith))

-- 11 comes only where the budget is spent, and then the proof of that is kept.
pub spent_cause : (words : List (List ℕ)) (told : List ℕ → Option (List ℕ)) (before after : Reading) (answer : Answer) (given : ℕ) (out out_after err err_after : Stream)
    → IsRight words told before after answer → IsDelivered answer given out out_after err err_after → given ≡ 11
    → (options : Options) × (proof : Proof) × (options_of words ≡ Some options)
    × OfFiles options told (IsSpentOf options proof) × (kept_of answer ≡ kept.Proof proof)
spent_cause words told before after Usage given out out_after err err_after right sent is = absurd (not_given _ 64 given 11 err err_after sent.0 is (λ h. omega arith) (λ h. omega arith))
spent_cause words told before after (ReadFault file) given out out_after err err_after right sent is = absurd (not_given _ 7 given 11 err err_after sent.0 is (λ h. omega arith) (λ h. omega arith))
spent_cause words told before after (Refused file refusal) given out out_after err err_after right sent is = absurd (not_given _ 6 given 11 err err_after sent.0 is (λ h. omega arith) (λ h. omega arith))
spent_cause words told before after (Failed trace) given out out_after err err_after right sent is = absurd (not_given _ 10 given 11 out out_after sent.0 is (λ h. omega arith) (λ h. omega arith))
spent_cause words told before after (Successful held) given out out_after err err_after right sent is = absurd (not_given _ 0 given 11 out out_after sent.0 is (λ h. omega arith) (λ h. omega arith))
spent_cause words told before after (Spent proof) given out out_after err err_after right sent is = (right.0, proof, right.1, right.2.1, refl)
spent_cause words told before after Memory given out out_after err err_after right sent is = absurd (not_given _ 9 given 11 err err_after sent.0 is (λ h. omega arith) (λ h. omega arith))

-- An answer whose text is put together has no proof.
pub composed_keeps_nothing : (answer : Answer) → IsComposed answer → kept_of answer ≡ kept.Nothing
composed_keeps_nothing Usage is = absurd is
composed_keeps_nothing (ReadFault file) is = refl
composed_keeps_nothing (Refused file refusal) is = refl
composed_keeps_nothing (Failed trace) is = absurd is
composed_keeps_nothing (Successful held) is = absurd is
composed_keeps_nothing (Spent proof) is = absurd is
composed_keeps_nothing Memory is = absurd is

-- A proof that is kept is that of a success or of a spent budget.
pub kept_cause : (words : List (List ℕ)) (told : List ℕ → Option (List ℕ)) (before after : Reading) (answer : Answer)
    → IsRight words told before after answer → IsKept words told (kept_of answer)
kept_cause words told before after Usage right = tt
kept_cause words told before after (ReadFault file) right = tt
kept_cause words told before after (Refused file refusal) right = tt
kept_cause words told before after (Failed trace) right = tt
kept_cause words told before after (Successful kept.Nothing) right = tt
kept_cause words told before after (Successful (kept.Proof proof)) right = (right.0, right.1, inl right.2.1)
kept_cause words told before after (Spent proof) right = (right.0, right.1, inr right.2.1)
kept_cause words told before after Memory right = tt

-- 10 comes only behind the trace of a run that breaks a property.
pub failure_cause : (words : List (List ℕ)) (told : List ℕ → Option (List ℕ)) (before after : Reading) (answer : Answer) (given : ℕ) (out out_after err err_after : Stream)
    → IsRight words told before after answer → IsDelivered answer given out out_after err err_after → given ≡ 10
    → (options : Options) × (trace : String Global) × (options_of words ≡ Some options)
    × OfFiles options told (IsFailureOf options trace) × Appends out.written out_after.written (string_bytes trace)
failure_cause words told before after Usage given out out_after err err_after right sent is = absurd (not_given _ 64 given 10 err err_after sent.0 is (λ h. omega arith) (λ h. omega arith))
failure_cause words told before after (ReadFault file) given out out_after err err_after right sent is = absurd (not_given _ 7 given 10 err err_after sent.0 is (λ h. omega arith) (λ h. omega arith))
failure_cause words told before after (Refused file refusal) given out out_after err err_after right sent is = absurd (not_given _ 6 given 10 err err_after sent.0 is (λ h. omega arith) (λ h. omega arith))
failure_cause words told before after (Failed trace) given out out_after err err_after right sent is = elim sent.0 [
  | inl all ↦ (right.0, trace, right.1, right.2.1, all.1.written)
  | inr part ↦ absurd (omega (arith, part.0))
]
failure_cause words told before after (Successful held) given out out_after err err_after right sent is = absurd (not_given _ 0 given 10 out out_after sent.0 is (λ h. omega arith) (λ h. omega arith))
failure_cause words told before after (Spent proof) given out out_after err err_after right sent is = absurd (not_given _ 11 given 10 out out_after sent.0 is (λ h. omega arith) (λ h. omega arith))
failure_cause words told before after Memory given out out_after err err_after right sent is = absurd (not_given _ 9 given 10 err err_after sent.0 is (λ h. omega arith) (λ h. omega arith))

-- 6 comes only behind the text of a first refusal.
pub refusal_cause : (words : List (List ℕ)) (told : List ℕ → Option (List ℕ)) (before after : Reading) (answer : Answer) (given : ℕ) (out out_after err err_after : Stream)
    → IsRight words told before after answer → IsDelivered answer given out out_after err err_after → given ≡ 6
    → (options : Options) × (file : List ℕ) × (refusal : Refusal) × (options_of words ≡ Some options)
    × IsFirstRefusal options told before after file refusal × Appends err.written err_after.written (message_of (Refused file refusal))
refusal_cause words told before after Usage given out out_after err err_after right sent is = absurd (not_given _ 64 given 6 err err_after sent.0 is (λ h. omega arith) (λ h. omega arith))
refusal_cause words told before after (ReadFault file) given out out_after err err_after right sent is = absurd (not_given _ 7 given 6 err err_after sent.0 is (λ h. omega arith) (λ h. omega arith))
refusal_cause words told before after (Refused file refusal) given out out_after err err_after right sent is = elim sent.0 [
  | inl all ↦ (right.0, file, refusal, right.1, right.2, all.1.written)
  | inr part ↦ absurd (omega (arith, part.0))
]
refusal_cause words told before after (Failed trace) given out out_after err err_after right sent is = absurd (not_given _ 10 given 6 out out_after sent.0 is (λ h. omega arith) (λ h. omega arith))
refusal_cause words told before after (Successful held) given out out_after err err_after right sent is = absurd (not_given _ 0 given 6 out out_after sent.0 is (λ h. omega arith) (λ h. omega arith))
refusal_cause words told before after (Spent proof) given out out_after err err_after right sent is = absurd (not_given _ 11 given 6 out out_after sent.0 is (λ h. omega arith) (λ h. omega arith))
refusal_cause words told before after Memory given out out_after err err_after right sent is = absurd (not_given _ 9 given 6 err err_after sent.0 is (λ h. omega arith) (λ h. omega arith))

cut_rose : (text : List ℕ) (own given : ℕ) (old new : Stream) → IsSentAs text own given old new → given ≡ 8 → own ≢ 8 → Rose old.faults new.faults
cut_rose text own given old new sent is apart = elim sent [
  | inl all ↦ absurd (apart (cc (all.0)))
  | inr part ↦ part.1.rose
]

-- 8 comes only where the count of a stream rose.
pub write_cause : (answer : Answer) (given : ℕ) (out out_after err err_after : Stream)
    → IsDelivered answer given out out_after err err_after → given ≡ 8 → Rose out.faults out_after.faults ⊎ Rose err.faults err_after.faults
write_cause Usage given out out_after err err_after sent is = inr (cut_rose _ 64 given err err_after sent.0 is (λ h. omega arith))
write_cause (ReadFault file) given out out_after err err_after sent is = inr (cut_rose _ 7 given err err_after sent.0 is (λ h. omega arith))
write_cause (Refused file refusal) given out out_after err err_after sent is = inr (cut_rose _ 6 given err err_after sent.0 is (λ h. omega arith))
write_cause (Failed trace) given out out_after err err_after sent is = inl (cut_rose _ 10 given out out_after sent.0 is (λ h. omega arith))
write_cause (Successful held) given out out_after err err_after sent is = inl (cut_rose _ 0 given out out_after sent.0 is (λ h. omega arith))
write_cause (Spent proof) given out out_after err err_after sent is = inl (cut_rose _ 11 given out out_after sent.0 is (λ h. omega arith))
write_cause Memory given out out_after err err_after sent is = inr (cut_rose _ 9 given err err_after sent.0 is (λ h. omega arith))

sent_whole : (text : List ℕ) (own given : ℕ) (old new : Stream) → IsSentAs text own given old new → given ≢ 8 → new.faults ≡ old.faults
sent_whole text own given old new sent apart = elim sent [
  | inl all ↦ all.1.no_fault
  | inr part ↦ absurd (apart part.0)
]

-- No fault of a stream is passed over.
pub no_write_fault : (answer : Answer) (given : ℕ) (out out_after err err_after : Stream)
    → IsDelivered answer given out out_after err err_after → given ≢ 8 → (out_after.faults ≡ out.faults) × (err_after.faults ≡ err.faults)
no_write_fault Usage given out out_after err err_after sent apart = (ap (λ (s : Stream). s.faults) sent.1, sent_whole _ _ given err err_after sent.0 apart)
no_write_fault (ReadFault file) given out out_after err err_after sent apart = (ap (λ (s : Stream). s.faults) sent.1, sent_whole _ _ given err err_after sent.0 apart)
no_write_fault (Refused file refusal) given out out_after err err_after sent apart = (ap (λ (s : Stream). s.faults) sent.1, sent_whole _ _ given err err_after sent.0 apart)
no_write_fault (Failed trace) given out out_after err err_after sent apart = (sent_whole _ _ given out out_after sent.0 apart, ap (λ (s : Stream). s.faults) sent.1)
no_write_fault (Successful held) given out out_after err err_after sent apart = (sent_whole _ _ given out out_after sent.0 apart, ap (λ (s : Stream). s.faults) sent.1)
no_write_fault (Spent proof) given out out_after err err_after sent apart = (sent_whole _ _ given out out_after sent.0 apart, ap (λ (s : Stream). s.faults) sent.1)
no_write_fault Memory given out out_after err err_after sent apart = (ap (λ (s : Stream). s.faults) sent.1, sent_whole _ _ given err err_after sent.0 apart)

refused_no_fault : (options : Options) (told : List ℕ → Option (List ℕ)) (before after : Reading) (file : List ℕ) (refusal : Refusal)
    → IsFirstRefusal options told before after file refusal → NoFault before after
refused_no_fault options told before after file refusal (c_too_long long) = long.no_fault
refused_no_fault options told before after file refusal (v_too_long fits long) = long.no_fault
refused_no_fault options told before after file refusal (of_texts f r read refused) = read.no_fault

not_own : (text : List ℕ) (own given : ℕ) (old new : Stream) → IsSentAs text own given old new → given ≢ own → given ≢ 8 → ⊥
not_own text own given old new sent apart whole = elim sent [ inl all ↦ apart all.0 | inr part ↦ whole part.0 ]

-- No fault of the files is passed over.
pub no_read_fault : (words : List (List ℕ)) (told : List ℕ → Option (List ℕ)) (before after : Reading) (answer : Answer) (given : ℕ) (out out_after err err_after : Stream)
    → IsRight words told before after answer → IsDelivered answer given out out_after err err_after → given ≢ 7 → given ≢ 8 → given ≢ 9 → NoFault before after
no_read_fault words told before after Usage given out out_after err err_after right sent seven eight nine = ap (λ (r : Reading). r.faults) right.1
no_read_fault words told before after (ReadFault file) given out out_after err err_after right sent seven eight nine = absurd (not_own _ 7 given err err_after sent.0 seven eight)
no_read_fault words told before after (Refused file refusal) given out out_after err err_after right sent seven eight nine = refused_no_fault right.0 told before after file refusal right.2
no_read_fault words told before after (Failed trace) given out out_after err err_after right sent seven eight nine = right.2.0.no_fault
no_read_fault words told before after (Successful held) given out out_after err err_after right sent seven eight nine = right.2.0.no_fault
no_read_fault words told before after (Spent proof) given out out_after err err_after right sent seven eight nine = right.2.0.no_fault
no_read_fault words told before after Memory given out out_after err err_after right sent seven eight nine = absurd (not_own _ 9 given err err_after sent.0 nine eight)
