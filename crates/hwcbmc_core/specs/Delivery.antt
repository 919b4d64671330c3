-- The text and the status of an answer, and how they are delivered.
use Rattle.std.specs.Prelude.{◌≡◌, ℕ, ◌⊎◌, List, ◌++◌, codes, decimal}
use Rattle.std.specs.String.{string_bytes}
use Rattle.io_edge.specs.Faults.{Rose}
use Rattle.io_edge.specs.Sink.{Stream, Appends, AppendsPart}
use Rattle.src_text.specs.Kind.{text_of}
use Rattle.hwcbmc_core.specs.declared.answer.Answer.{Answer}
use Rattle.hwcbmc_core.specs.declared.answer.Answer.TheVariants.{Usage, ReadFault, Refused, Failed, Successful, Spent, Memory}

-- the exit status of an answer: 0 for a success, 10 for a broken property, 11 for a spent budget, and one of its own for each
-- other reason why there is no verdict
abbrev pub status_of : Answer → ℕ
status_of Usage = 64
status_of (ReadFault file) = 7
status_of (Refused file refusal) = 6
status_of (Failed trace) = 10
status_of (Successful kept) = 0
status_of (Spent proof) = 11
status_of Memory = 9

-- the whole text of an answer
abbrev pub message_of : Answer → List ℕ
message_of Usage = codes "hwcbmc: usage: hwcbmc [--module NAME] [--bound K] [--unwind N] [--unwindset LIST] [--budget B] [--decide order|activity] [--check-bound] C_FILE V_FILE\n"
message_of (ReadFault file) = codes "hwcbmc: " ++ (file ++ codes ": read fault\n")
message_of (Refused file refusal) =
    codes "hwcbmc: " ++ (file ++ (codes ":" ++ (decimal refusal.place.line ++ (codes ":" ++ (decimal refusal.place.column
    ++ (codes ": " ++ (text_of refusal.kind ++ codes "\n")))))))
message_of (Failed trace) = string_bytes trace
message_of (Successful kept) = codes "VERIFICATION SUCCESSFUL\n"
message_of (Spent proof) = codes "BUDGET SPENT\n"
message_of Memory = codes "hwcbmc: out of memory\n"

-- All of the text went out.
pub record IsSent (text : List ℕ) (old new : Stream) : Type 0 where
  pub written : Appends old.written new.written text
  pub no_fault : new.faults ≡ old.faults

-- A fault came, and a part of the text went out, but not all.
pub record IsCut (text : List ℕ) (old new : Stream) : Type 0 where
  pub written : AppendsPart old.written new.written text
  pub rose : Rose old.faults new.faults

-- The status comes with the whole text, and 8 with a part of it.
abbrev pub IsSentAs : List ℕ → ℕ → ℕ → Stream → Stream → Type 0
IsSentAs text status given old new = ((given ≡ status) × IsSent text old new) ⊎ ((given ≡ 8) × IsCut text old new)

-- Verdicts and a spent budget go to the first stream, and all else to the second. The other stream stays as it was.
abbrev pub IsDelivered : Answer → ℕ → Stream → Stream → Stream → Stream → Type 0
IsDelivered (Failed trace) given out out_after err err_after = IsSentAs (string_bytes trace) 10 given out out_after × (err_after ≡ err)
IsDelivered (Successful kept) given out out_after err err_after = IsSentAs (message_of (Successful kept)) 0 given out out_after × (err_after ≡ err)
IsDelivered (Spent proof) given out out_after err err_after = IsSentAs (message_of (Spent proof)) 11 given out out_after × (err_after ≡ err)
IsDelivered answer given out out_after err err_after = IsSentAs (message_of answer) (status_of answer) given err err_after × (out_after ≡ out)

-- The answer's text is put together of parts, which takes memory. The other texts are there already.
abbrev pub IsComposed : Answer → Type 0
IsComposed (ReadFault file) = Unit {0}
IsComposed (Refused file refusal) = Unit {0}
IsComposed answer = ⊥
