-- What is kept of an answer.
use Rattle.std.specs.Prelude.{◌≡◌, ◌⊎◌, ℕ, List, Option, Some}
use Rattle.command_options.specs.declared.asked.Options.{Options}
use Rattle.command_options.specs.Options.{options_of}
use Rattle.hwcbmc_core.specs.declared.answer.Answer.{Answer}
use Rattle.hwcbmc_core.specs.declared.answer.Answer.TheVariants.{Usage, ReadFault, Refused, Failed, Successful, Spent, Memory}
use Rattle.hwcbmc_core.specs.Answers.{OfFiles, IsSuccessOf, IsSpentOf}
use Rattle.hwcbmc_core.specs.declared.kept.Kept.{Kept}
use Rattle.hwcbmc_core.specs.declared.kept.Kept.TheVariants.{Nothing, Proof}

-- the proof of a success or of a spent budget, where there is one
abbrev pub kept_of : Answer → Kept
kept_of Usage = Nothing
kept_of (ReadFault file) = Nothing
kept_of (Refused file refusal) = Nothing
kept_of (Failed trace) = Nothing
kept_of (Successful kept) = kept
kept_of (Spent proof) = Proof proof
kept_of Memory = Nothing

-- A proof that is kept is that of a success or of a spent budget, of the pair that the two files are.
abbrev pub IsKept : (words : List (List ℕ)) → (List ℕ → Option (List ℕ)) → Kept → Type 0
IsKept words told Nothing = Unit {0}
IsKept words told (Proof proof) =
    (options : Options) × (options_of words ≡ Some options)
    × (OfFiles options told (IsSuccessOf options (Proof proof)) ⊎ OfFiles options told (IsSpentOf options proof))
