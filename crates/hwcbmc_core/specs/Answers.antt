-- Which answer is right for the words and the files.
use Rattle.std.specs.Prelude.{◌≡◌, ℕ, ◌<◌, ◌≤◌, ◌⊎◌, List, length, Option, None, Some, IfSome, true, false}
use Rattle.std.specs.Prelude.{String, string_bytes}
use Rattle.std.specs.declared.alloc.Global.{Global}
use Rattle.io_edge.specs.Faults.{Rose}
use Rattle.io_edge.specs.Files.{Reading}
use Rattle.src_text.specs.declared.refusal.Refusal.{Refusal}
use Rattle.src_text.specs.declared.refusal.Lang.{Lang}
use Rattle.src_text.specs.declared.refusal.Lang.TheVariants.{C, V}
use Rattle.src_text.specs.declared.kind.Kind.{Kind}
use Rattle.src_text.specs.declared.kind.Kind.TheVariants.{TooLong, TooHeavy, Unsupported}
use Rattle.io_edge.specs.declared.reading.ReadEnd.{ReadEnd}
use Rattle.io_edge.specs.declared.reading.ReadEnd.TheVariants as ends
use Rattle.command_options.specs.declared.asked.Options.{Options}
use Rattle.hwcbmc_core.specs.declared.sources.Program.{Program}
use Rattle.hwcbmc_core.specs.declared.sources.Counter.{Counter}
use Rattle.hwcbmc_core.specs.declared.answer.Answer.{Answer}
use Rattle.hwcbmc_core.specs.declared.answer.Answer.TheVariants.{Usage, ReadFault, Refused, Failed, Successful, Spent, Memory}
use Rattle.hwcbmc_core.specs.declared.kept.Kept.{Kept}
use Rattle.hwcbmc_core.specs.declared.kept.Kept.TheVariants as kept
use Rattle.pair_proof.specs.declared.Proof.{Proof}
use Rattle.verdicts.specs.declared.Told.{Told}
use Rattle.verdicts.specs.declared.Told.TheVariants as told
use Rattle.command_options.specs.Options.{options_of}
use Rattle.hwcbmc_core.specs.Forms.{fit_forms}
use Rattle.hwcbmc_core.specs.Sources.{IsProgram, IsCounter}
use Rattle.hwcbmc_core.specs.Trees.{HasTreeIn, IsRefused}
use Rattle.hwcbmc_core.specs.Typing.{IsClean, Offends}
use Rattle.hwcbmc_core.specs.Pairs.{IsOtherModule, IsNotTaken, IsToldOf}
use Rattle.hwcbmc_core.specs.Runs.{Property, Broken, run_of, CanBreak}
use Rattle.hwcbmc_core.specs.Trace.{trace_text}

-- a refusal at the beginning of a text
abbrev pub at_beginning : Lang → Kind → Refusal
at_beginning lang kind = record { lang = lang; place = record { line = 1; column = 1 }; kind = kind }

-- No fault came.
abbrev pub NoFault : Reading → Reading → Type 0
NoFault before after = after.faults ≡ before.faults

-- A fault came, of this file, which is the last that was started.
pub record IsFaulty (file : List ℕ) (before after : Reading) : Type 0 where
  pub rose : Rose before.faults after.faults
  pub started : after.started ≡ Some file
  pub since_start : 0 < after.faults_since_start

-- One byte more was taken of this file than a file may have, without a fault.
pub record IsTooLong (file : List ℕ) (told : Option (List ℕ)) (before after : Reading) : Type 0 where
  pub started : after.started ≡ Some file
  pub taken : after.taken ≡ 1048577
  pub none_since_start : after.faults_since_start ≡ 0
  pub no_fault : NoFault before after
  pub told_long : IfSome told (λ bytes. 1048576 < length bytes)

-- The file isn't too long, as far as its bytes are told.
abbrev pub FitsLength : Option (List ℕ) → Type 0
FitsLength told = IfSome told (λ bytes. length bytes ≤ 1048576)

-- Both files were read to their ends, the Verilog file last.
pub record AreRead (options : Options) (told : List ℕ → Option (List ℕ)) (before after : Reading) : Type 0 where
  pub started : after.started ≡ Some options.v_file
  pub taken : after.taken ≤ 1048576
  pub none_since_start : after.faults_since_start ≡ 0
  pub no_fault : NoFault before after
  pub c_fits : FitsLength (told options.c_file)
  pub v_fits : FitsLength (told options.v_file)

-- What is said of two texts, as far as they are told.
abbrev pub OfBoth : Option (List ℕ) → Option (List ℕ) → (List ℕ → List ℕ → Type 0) → Type 0
OfBoth c_told v_told Said = IfSome c_told (λ c_text. IfSome v_told (λ v_text. Said c_text v_text))

-- The first refusal of two texts, as far as they are told, in order: one that has no tree, C first; then the first offence
-- of the C text. Then, beside one bare module that is the top: a program that isn't judged yet, or a pair that is too heavy. Beside
-- any other module: options that the written forms don't fit, then a text that isn't of its written form, C first.
pub data RefusesTexts (options : Options) (c_told v_told : Option (List ℕ)) : List ℕ → Refusal → Type 0 where
  c_refused : (refusal : Refusal) → IfSome c_told (λ text. IsRefused C text refusal)
      → RefusesTexts options c_told v_told options.c_file refusal
  v_refused : (refusal : Refusal) → IfSome c_told (HasTreeIn C) → IfSome v_told (λ text. IsRefused V text refusal)
      → RefusesTexts options c_told v_told options.v_file refusal
  c_offends : (refusal : Refusal) → IfSome c_told (λ text. Offends text refusal) → IfSome v_told (HasTreeIn V)
      → RefusesTexts options c_told v_told options.c_file refusal
  not_taken : OfBoth c_told v_told (IsNotTaken options)
      → RefusesTexts options c_told v_told options.c_file (at_beginning C Unsupported)
  too_heavy : OfBoth c_told v_told (λ c_text v_text. IsToldOf options c_text v_text told.TooHeavy)
      → RefusesTexts options c_told v_told options.c_file (at_beginning C TooHeavy)
  options_unsupported : IfSome c_told IsClean → IfSome v_told (IsOtherModule options) → fit_forms options ≡ false
      → RefusesTexts options c_told v_told options.c_file (at_beginning C Unsupported)
  c_unsupported : IfSome c_told IsClean → IfSome v_told (IsOtherModule options)
      → IfSome c_told (λ text. (program : Program) → ¬ (IsProgram text program))
      → RefusesTexts options c_told v_told options.c_file (at_beginning C Unsupported)
  v_unsupported : IfSome c_told IsClean → IfSome v_told (IsOtherModule options)
      → IfSome c_told (λ text. (program : Program) × IsProgram text program)
      → IfSome v_told (λ text. (counter : Counter) → ¬ (IsCounter text counter))
      → RefusesTexts options c_told v_told options.v_file (at_beginning V Unsupported)

-- The first refusal of a file, in order: too long, C first; then that of the texts.
pub data IsFirstRefusal (options : Options) (told : List ℕ → Option (List ℕ)) (before after : Reading) : List ℕ → Refusal → Type 0 where
  c_too_long : IsTooLong options.c_file (told options.c_file) before after
      → IsFirstRefusal options told before after options.c_file (at_beginning C TooLong)
  v_too_long : FitsLength (told options.c_file) → IsTooLong options.v_file (told options.v_file) before after
      → IsFirstRefusal options told before after options.v_file (at_beginning V TooLong)
  of_texts : (file : List ℕ) (refusal : Refusal) → AreRead options told before after
      → RefusesTexts options (told options.c_file) (told options.v_file) file refusal
      → IsFirstRefusal options told before after file refusal

-- The written forms fit the options, both texts have trees, that of the C text without offence, and are of their forms, and what
-- is said holds of the pair that they are.
abbrev pub HoldsOf : Options → List ℕ → List ℕ → (Program → Counter → Type 0) → Type 0
HoldsOf options c_text v_text Holds =
    (fit_forms options ≡ true) × IsClean c_text × IsOtherModule options v_text
    × ((program : Program) × IsProgram c_text program) × ((counter : Counter) × IsCounter v_text counter)
    × ((program : Program) (counter : Counter) → IsProgram c_text program → IsCounter v_text counter → Holds program counter)

-- The text is the trace of a run that breaks the property which it names.
abbrev pub IsTraceOfBreak : Program → Counter → Options → List ℕ → Type 0
IsTraceOfBreak program counter options text =
    (property : Property) × (choices : List ℕ)
    × ((run_of program counter options.bounds choices).outcome ≡ Broken property)
    × (text ≡ trace_text property (run_of program counter options.bounds choices).events)

-- A success is right for two texts. With a proof they are a pair that is safe: no run within the bounds breaks a property, and
-- nothing fails without the limits on turns and activations. Without one they are of the written forms, and no run breaks a property.
abbrev pub IsSuccessOf : Options → Kept → List ℕ → List ℕ → Type 0
IsSuccessOf options kept.Nothing c_text v_text =
    HoldsOf options c_text v_text (λ program counter. (property : Property) → ¬ (CanBreak program counter options.bounds property))
IsSuccessOf options (kept.Proof proof) c_text v_text = IsToldOf options c_text v_text (told.Successful proof)

-- A failure is right for two texts: its text is the trace of a run that breaks a property, of the written forms or of a pair.
abbrev pub IsFailureOf : Options → (trace : String Global) → List ℕ → List ℕ → Type 0
IsFailureOf options trace c_text v_text =
    HoldsOf options c_text v_text (λ program counter. IsTraceOfBreak program counter options (string_bytes trace))
    ⊎ IsToldOf options c_text v_text (told.Failed trace)

-- A spent budget is right for two texts: they are a pair, of which just so many clauses were derived.
abbrev pub IsSpentOf : Options → Proof → List ℕ → List ℕ → Type 0
IsSpentOf options proof c_text v_text = IsToldOf options c_text v_text (told.Spent proof)

-- What is said of two texts, of the two files, where their bytes are told.
abbrev pub OfFiles : Options → (List ℕ → Option (List ℕ)) → (List ℕ → List ℕ → Type 0) → Type 0
OfFiles options told Said = OfBoth (told options.c_file) (told options.v_file) Said

-- the answer where a file isn't there as a whole
abbrev pub unread : List ℕ → Lang → ReadEnd → Answer
unread file lang ends.Failed = ReadFault file
unread file lang ends.TooLong = Refused file (at_beginning lang TooLong)
unread file lang ends.Memory = Memory

-- the answer where this is told of the pair that the files are
abbrev pub told_answer : (c_file : List ℕ) → Told → Answer
told_answer c_file told.TooHeavy = Refused c_file (at_beginning C TooHeavy)
told_answer c_file (told.Successful proof) = Successful (kept.Proof proof)
told_answer c_file (told.Failed trace) = Failed trace
told_answer c_file (told.Spent proof) = Spent proof

-- The answer is right for these texts.
abbrev pub IsJudged : Options → List ℕ → List ℕ → Answer → Type 0
IsJudged options c_text v_text Usage = ⊥
IsJudged options c_text v_text (ReadFault file) = ⊥
IsJudged options c_text v_text (Refused file refusal) = RefusesTexts options (Some c_text) (Some v_text) file refusal
IsJudged options c_text v_text (Failed trace) = IsFailureOf options trace c_text v_text
IsJudged options c_text v_text (Successful kept) = IsSuccessOf options kept c_text v_text
IsJudged options c_text v_text (Spent proof) = IsSpentOf options proof c_text v_text
IsJudged options c_text v_text Memory = Unit {0}

-- The answer is right for words that have these options.
abbrev pub IsRightFor : Options → (List ℕ → Option (List ℕ)) → Reading → Reading → Answer → Type 0
IsRightFor options told before after Usage = ⊥
IsRightFor options told before after (ReadFault file) =
    IsFaulty file before after × ((file ≡ options.c_file) ⊎ ((file ≡ options.v_file) × FitsLength (told options.c_file)))
IsRightFor options told before after (Refused file refusal) = IsFirstRefusal options told before after file refusal
IsRightFor options told before after (Failed trace) = AreRead options told before after × OfFiles options told (IsFailureOf options trace)
IsRightFor options told before after (Successful kept) = AreRead options told before after × OfFiles options told (IsSuccessOf options kept)
IsRightFor options told before after (Spent proof) = AreRead options told before after × OfFiles options told (IsSpentOf options proof)
IsRightFor options told before after Memory = Unit {0}

-- The answer is right for the words. Want of memory may come at any time; else the words' fault comes exactly
-- where they have no options, and then nothing is read.
abbrev pub IsRight : List (List ℕ) → (List ℕ → Option (List ℕ)) → Reading → Reading → Answer → Type 0
IsRight words told before after Memory = Unit {0}
IsRight words told before after Usage = (options_of words ≡ None) × (after ≡ before)
IsRight words told before after answer =
    (options : Options) × (options_of words ≡ Some options) × IsRightFor options told before after answer
