-- From what each part of the way ensures to the answer's being right.
use Rattle.std.proofs.Common.{◌≡◌, ◌≢◌, ℕ, ◌<◌, ◌≤◌, List, length, Option, None, Some, inl, inr, ap, sym, ◌∙◌, subst, arith, refl, true, []}
use Rattle.std.specs.Prelude.{IfSome, string_bytes}
use Rattle.io_edge.specs.Faults.{Rose}
use Rattle.io_edge.specs.Files.{Reading}
use Rattle.io_edge.specs.declared.reading.ReadEnd.{ReadEnd}
use Rattle.io_edge.specs.declared.reading.ReadEnd.TheVariants as ends
use Rattle.src_text.specs.declared.refusal.Lang.TheVariants.{C, V}
use Rattle.src_text.specs.declared.refusal.Refusal.{Refusal}
use Rattle.command_options.specs.declared.asked.Options.{Options}
use Rattle.hwcbmc_core.specs.declared.answer.Answer.{Answer}
use Rattle.hwcbmc_core.specs.declared.answer.Answer.TheVariants.{Usage, ReadFault, Refused, Failed, Successful, Spent, Memory}
use Rattle.hwcbmc_core.specs.declared.sources.Program.{Program}
use Rattle.hwcbmc_core.specs.declared.sources.Counter.{Counter}
use Rattle.hwcbmc_core.specs.Sources.{IsProgram, IsCounter}
use Rattle.hwcbmc_core.proofs.SourceLemmas.{same_program, same_counter}
use Rattle.hwcbmc_core.specs.Forms.{fit_forms}
use Rattle.hwcbmc_core.specs.Answers.{FitsLength, AreRead, OfBoth, RefusesTexts, c_refused, v_refused, c_offends, not_taken, too_heavy, options_unsupported, c_unsupported, v_unsupported, c_too_long, v_too_long, of_texts, unread, told_answer, HoldsOf, IsSuccessOf, IsFailureOf, IsSpentOf, IsJudged, IsRightFor}
use Rattle.hwcbmc_core.specs.Pairs.{IsOtherModule, IsNotTaken, IsToldOf}
use Rattle.c_tree.specs.declared.file.CTree.{CTree}
use Rattle.v_tree.specs.declared.item.VTree.{VTree}
use Rattle.c_parse.specs.Ends.{HasTree as HasCTree}
use Rattle.v_parse.specs.Ends.{HasTree as HasVTree}
use Rattle.c_types.specs.Files.{c_offences, program_of}
use Rattle.joint_ir.specs.declared.program.CProgram.{CProgram}
use Rattle.bare_pairs.specs.Bare.{pair_of}
use Rattle.bare_sources.specs.declared.joined.Joined.TheVariants as joined
use Rattle.bare_sources.specs.Joined.{IsJoined}
use Rattle.bare_sources.specs.Taken.{bounds_for}
use Rattle.verdicts.specs.declared.Told.{Told}
use Rattle.verdicts.specs.declared.Told.TheVariants as told
use Rattle.hwcbmc_core.specs.Trees.{HasTreeIn, IsRefused}
use Rattle.hwcbmc_core.specs.Typing.{IsClean, Offends}

-- what a reading that failed leaves
pub record LeavesUnread (name : List ℕ) (told : Option (List ℕ)) (before after : Reading) (end : ReadEnd) : Type 0 where
  pub rose : end ≡ ends.Failed → Rose before.faults after.faults
  pub fault : end ≡ ends.Failed → 0 < after.faults_since_start
  pub started : end ≢ ends.Memory → after.started ≡ Some name
  pub taken : end ≡ ends.TooLong → after.taken ≡ 1048577
  pub long : end ≡ ends.TooLong → IfSome told (λ bytes. 1048576 < length bytes)
  pub same_count : end ≢ ends.Failed → after.faults ≡ before.faults
  pub no_fault : end ≢ ends.Failed → end ≢ ends.Memory → after.faults_since_start ≡ 0

failed_apart : ends.Failed ≡ ends.Memory → ⊥
failed_apart is = cc

long_apart : ends.TooLong ≡ ends.Memory → ⊥
long_apart is = cc

long_sound : ends.TooLong ≡ ends.Failed → ⊥
long_sound is = cc

pub c_unread : (options : Options) (told : List ℕ → Option (List ℕ)) (before after : Reading) (name : List ℕ) (end : ReadEnd) → name ≡ options.c_file
    → LeavesUnread name (told name) before after end → IsRightFor options told before after (unread options.c_file C end)
c_unread options told before after name end is leaves =
    let P : List ℕ → Type 0 = λ n. LeavesUnread n (told n) before after end in at_file end (subst P is leaves)
  where
    at_file : (end : ReadEnd) → LeavesUnread options.c_file (told options.c_file) before after end → IsRightFor options told before after (unread options.c_file C end)
    at_file ends.Failed l = (record { rose = l.rose refl; started = l.started failed_apart; since_start = l.fault refl }, inl refl)
    at_file ends.TooLong l = c_too_long (record { started = l.started long_apart; taken = l.taken refl; none_since_start = l.no_fault long_sound long_apart; no_fault = l.same_count long_sound; told_long = l.long refl })
    at_file ends.Memory l = tt

pub v_unread : (options : Options) (told : List ℕ → Option (List ℕ)) (before after : Reading) (name : List ℕ) (end : ReadEnd) → name ≡ options.v_file
    → FitsLength (told options.c_file) → LeavesUnread name (told name) before after end → IsRightFor options told before after (unread options.v_file V end)
v_unread options told before after name end is fits leaves =
    let P : List ℕ → Type 0 = λ n. LeavesUnread n (told n) before after end in at_file end (subst P is leaves)
  where
    at_file : (end : ReadEnd) → LeavesUnread options.v_file (told options.v_file) before after end → IsRightFor options told before after (unread options.v_file V end)
    at_file ends.Failed l = (record { rose = l.rose refl; started = l.started failed_apart; since_start = l.fault refl }, inr (refl, fits))
    at_file ends.TooLong l = v_too_long fits (record { started = l.started long_apart; taken = l.taken refl; none_since_start = l.no_fault long_sound long_apart; no_fault = l.same_count long_sound; told_long = l.long refl })
    at_file ends.Memory l = tt

-- a text that was read whole is what is told, and no longer than a file may be
pub fits_read : (told : Option (List ℕ)) (text : List ℕ) → IfSome told (λ bytes. text ≡ bytes) → length text ≤ 1048576 → FitsLength told
fits_read None text whole fits = tt
fits_read (Some bytes) text whole fits = omega (arith, ap length whole)

told_of : (P : List ℕ → Type 0) (told : Option (List ℕ)) (text : List ℕ) → IfSome told (λ bytes. text ≡ bytes) → P text → IfSome told P
told_of P None text whole holds = tt
told_of P (Some bytes) text whole holds = subst P whole holds

-- what is said of the texts that were read is said of those that are told
both_told : (Said : List ℕ → List ℕ → Type 0) (c_told v_told : Option (List ℕ)) (c_text v_text : List ℕ)
    → IfSome c_told (λ bytes. c_text ≡ bytes) → IfSome v_told (λ bytes. v_text ≡ bytes) → Said c_text v_text → OfBoth c_told v_told Said
both_told Said c_told v_told c_text v_text c_whole v_whole said =
    told_of (λ c. IfSome v_told (λ v. Said c v)) c_told c_text c_whole (told_of (λ v. Said c_text v) v_told v_text v_whole said)

-- what holds of the pair that was read holds of each pair that the texts are
pub holds_of : (options : Options) (c_text v_text : List ℕ) (program : Program) (counter : Counter) (Holds : Program → Counter → Type 0)
    → fit_forms options ≡ true → IsClean c_text → IsOtherModule options v_text → IsProgram c_text program → IsCounter v_text counter → Holds program counter
    → HoldsOf options c_text v_text Holds
holds_of options c_text v_text program counter Holds fit c_read v_read is_program is_counter holds = (
  fit,
  c_read,
  v_read,
  (program, is_program),
  (counter, is_counter),
  λ other_program other_counter other_is other_is_counter.
      let P : Program → Type 0 = λ x. Holds x other_counter in
      let Q : Counter → Type 0 = λ y. Holds program y in
      subst P (same_program c_text program other_program is_program other_is) (subst Q (same_counter v_text counter other_counter is_counter other_is_counter) holds),
)

-- what refuses the texts that were read refuses the texts that are told
refuses_told : (options : Options) (c_told v_told : Option (List ℕ)) (c_text v_text file : List ℕ) (refusal : Refusal)
    → IfSome c_told (λ bytes. c_text ≡ bytes) → IfSome v_told (λ bytes. v_text ≡ bytes)
    → RefusesTexts options (Some c_text) (Some v_text) file refusal → RefusesTexts options c_told v_told file refusal
refuses_told options c_told v_told c_text v_text file refusal c_whole v_whole (c_refused r refused) =
    c_refused r (told_of (λ text. IsRefused C text r) c_told c_text c_whole refused)
refuses_told options c_told v_told c_text v_text file refusal c_whole v_whole (v_refused r read refused) =
    v_refused r (told_of (HasTreeIn C) c_told c_text c_whole read) (told_of (λ text. IsRefused V text r) v_told v_text v_whole refused)
refuses_told options c_told v_told c_text v_text file refusal c_whole v_whole (c_offends r offends read) =
    c_offends r (told_of (λ text. Offends text r) c_told c_text c_whole offends) (told_of (HasTreeIn V) v_told v_text v_whole read)
refuses_told options c_told v_told c_text v_text file refusal c_whole v_whole (not_taken said) =
    not_taken (both_told (IsNotTaken options) c_told v_told c_text v_text c_whole v_whole said)
refuses_told options c_told v_told c_text v_text file refusal c_whole v_whole (too_heavy said) =
    too_heavy (both_told (λ c v. IsToldOf options c v told.TooHeavy) c_told v_told c_text v_text c_whole v_whole said)
refuses_told options c_told v_told c_text v_text file refusal c_whole v_whole (options_unsupported c_read v_read unfit) =
    options_unsupported (told_of IsClean c_told c_text c_whole c_read) (told_of (IsOtherModule options) v_told v_text v_whole v_read) unfit
refuses_told options c_told v_told c_text v_text file refusal c_whole v_whole (c_unsupported c_read v_read none) =
    c_unsupported (told_of IsClean c_told c_text c_whole c_read) (told_of (IsOtherModule options) v_told v_text v_whole v_read)
    (told_of (λ text. (program : Program) → ¬ (IsProgram text program)) c_told c_text c_whole none)
refuses_told options c_told v_told c_text v_text file refusal c_whole v_whole (v_unsupported c_read v_read is none) =
    v_unsupported (told_of IsClean c_told c_text c_whole c_read) (told_of (IsOtherModule options) v_told v_text v_whole v_read)
    (told_of (λ text. (program : Program) × IsProgram text program) c_told c_text c_whole is)
    (told_of (λ text. (counter : Counter) → ¬ (IsCounter text counter)) v_told v_text v_whole none)

-- what is told of the pair that texts are is right for them
pub told_right : (options : Options) (c_text v_text : List ℕ) (t : Told) → IsToldOf options c_text v_text t
    → IsJudged options c_text v_text (told_answer options.c_file t)
told_right options c_text v_text told.TooHeavy is = too_heavy is
told_right options c_text v_text (told.Successful proof) is = is
told_right options c_text v_text (told.Failed trace) is = inr is
told_right options c_text v_text (told.Spent proof) is = is

-- what is right for the texts is right for the files
pub judged_right : (options : Options) (told : List ℕ → Option (List ℕ)) (before after : Reading) (c_text v_text : List ℕ) (answer : Answer)
    → AreRead options told before after → IfSome (told options.c_file) (λ bytes. c_text ≡ bytes) → IfSome (told options.v_file) (λ bytes. v_text ≡ bytes)
    → IsJudged options c_text v_text answer → IsRightFor options told before after answer
judged_right options told before after c_text v_text Usage read c_whole v_whole judged = judged
judged_right options told before after c_text v_text (ReadFault file) read c_whole v_whole judged = absurd judged
judged_right options told before after c_text v_text (Refused file refusal) read c_whole v_whole judged =
    of_texts file refusal read (refuses_told options (told options.c_file) (told options.v_file) c_text v_text file refusal c_whole v_whole judged)
judged_right options told before after c_text v_text (Failed trace) read c_whole v_whole judged =
    (read, both_told (IsFailureOf options trace) (told options.c_file) (told options.v_file) c_text v_text c_whole v_whole judged)
judged_right options told before after c_text v_text (Successful kept) read c_whole v_whole judged =
    (read, both_told (IsSuccessOf options kept) (told options.c_file) (told options.v_file) c_text v_text c_whole v_whole judged)
judged_right options told before after c_text v_text (Spent proof) read c_whole v_whole judged =
    (read, both_told (IsSpentOf options proof) (told options.c_file) (told options.v_file) c_text v_text c_whole v_whole judged)
judged_right options told before after c_text v_text Memory read c_whole v_whole judged = tt

-- a second file that failed, after one that was read without a fault
pub leaves_after : (name : List ℕ) (told told_between : List ℕ → Option (List ℕ)) (before between after : Reading) (end : ReadEnd) → told_between ≡ told
    → between.faults ≡ before.faults → LeavesUnread name (told_between name) between after end → LeavesUnread name (told name) before after end
leaves_after name told told_between before between after end told_is same leaves =
    let P : Option (List ℕ) → Type 0 = λ t. IfSome t (λ bytes. 1048576 < length bytes) in
    let R : ℕ → Type 0 = λ n. Rose n after.faults in
    record {
      rose = λ is. subst R same (leaves.rose is);
      fault = leaves.fault;
      started = leaves.started;
      taken = leaves.taken;
      long = λ is. subst P (ap (λ (t : List ℕ → Option (List ℕ)). t name) told_is) (leaves.long is);
      same_count = λ sound. leaves.same_count sound ∙ same;
      no_fault = leaves.no_fault;
    }

-- what was read of the file that the options name
pub read_whole : (told told_before : List ℕ → Option (List ℕ)) (name file text slice : List ℕ) → told_before ≡ told → name ≡ file → slice ≡ text
    → IfSome (told_before name) (λ bytes. text ≡ bytes) → IfSome (told file) (λ bytes. slice ≡ bytes)
read_whole told told_before name file text slice told_is name_is slice_is whole =
    let P : List ℕ → Type 0 = λ n. IfSome (told n) (λ bytes. text ≡ bytes) in
    let Q : Option (List ℕ) → Type 0 = λ t. IfSome t (λ bytes. text ≡ bytes) in
    let S : List ℕ → Type 0 = λ xs. IfSome (told file) (λ bytes. xs ≡ bytes) in
    subst S (sym slice_is) (subst P name_is (subst Q (ap (λ (t : List ℕ → Option (List ℕ)). t name) told_is) whole))

-- texts with trees, beside which the program isn't one that is judged
pub not_taken_beside : (options : Options) (c_text v_text : List ℕ) (c_tree : CTree) (v_tree : VTree) (program : CProgram)
    → HasCTree c_text c_tree → HasVTree v_text v_tree → program ≡ program_of c_tree → c_offences c_tree ≡ []
    → IsJoined options program v_tree.modules joined.NotTaken → IsNotTaken options c_text v_text
not_taken_beside options c_text v_text c_tree v_tree program c_read v_read typed clean is =
    let P : CProgram → Type 0 = λ p. IsJoined options p v_tree.modules joined.NotTaken in
    let here = subst P typed is in
    record { c_tree = c_tree; c_read = c_read; clean = clean; v_tree = v_tree; v_read = v_read; bare = here.0; not_taken = here.1 }

-- texts with trees, of whose pair this is told
pub told_beside_is : (options : Options) (c_text v_text : List ℕ) (c_tree : CTree) (v_tree : VTree) (program : CProgram) (t : Told)
    → HasCTree c_text c_tree → HasVTree v_text v_tree → program ≡ program_of c_tree → c_offences c_tree ≡ []
    → IsJoined options program v_tree.modules (joined.Told t) → IsToldOf options c_text v_text t
told_beside_is options c_text v_text c_tree v_tree program t c_read v_read typed clean is =
    let P : CProgram → Type 0 = λ p. IsJoined options p v_tree.modules (joined.Told t) in
    let here = subst P typed is in (
      pair_of (program_of c_tree) here.0,
      bounds_for options (program_of c_tree),
      record {
        c_tree = c_tree;
        c_read = c_read;
        clean = clean;
        v_tree = v_tree;
        v_read = v_read;
        name = here.0;
        bare = here.1;
        taken = here.2;
        pair_is = refl;
        bounds_are = refl;
        well_formed = here.3;
      },
      here.4,
    )
