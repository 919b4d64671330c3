-- What a parse by `clap` gives is what the definition says.
use Rattle.std.proofs.Common.{◌≡◌, ◌∙◌, ◌++◌, ◌≤◌, refl, sym, ap, subst, arith, ℕ, Bool, true, false, List, [], ◌∷◌, Option, Some, None, is_some, if◌then◌else◌, codes, length, slice_get, fold}
use Rattle.std.specs.Prelude.{option_and_then}
use Rattle.std.specs.Option.{option_or}
use Rattle.std.specs.Str.{bytes_eq}
use Rattle.std.proofs.lemmas.List.Folds.{find-append}
use Rattle.std.proofs.lemmas.Bool.{or_parts}
use Rattle.std.proofs.lemmas.Str.{IsUtf8-string_bytes}
use Rattle.std.specs.Prelude.{map, String, string_bytes}
use Rattle.clap.specs.Words.{Row, Text, built, fault_of, matches_of, first_of}
use Rattle.clap.specs.Walk.{Walk, idle, finished, has_row, with_default, more_values, settled, default_rows, nothing_held}
use Rattle.clap.specs.Simple.{entered}
use Rattle.clap.specs.Faults.{entered_fault, level_fault}
use Rattle.clap.specs.declared.builder.value_parser.Reading.TheVariants.{AsWritten}
use Rattle.clap.specs.declared.parser.matches.ValueSource.TheVariants.{DefaultValue}
use Rattle.clap.proofs.OnLiterals.{clap_on_literals}
use Rattle.command_words.specs.Words.{Named, Top, Bound, Unwind, UnwindSet, Budget, Decide, name_of, check_name, Thing, value_of, checks, files_of, are_once, things_of, with_files, with_things, given_of}
use Rattle.command_words.specs.Clap.{asked, is_true, with_both, given_by}
use Rattle.command_words.proofs.Rules.{rules, top, option_rule, flag_rule, c_rule, v_rule}
use Rattle.command_words.proofs.Faults.{is_quiet, fault, walked_on}
use Rattle.command_words.proofs.Rows.{row, at_row-none}
use Rattle.command_words.proofs.Turns.{held, at}
use Rattle.command_words.proofs.States.{nothing_pends}
use Rattle.command_words.proofs.Doomed.{first}
use Rattle.command_words.proofs.Takes.{fits, rows_with, Parses, takes, refuses}
use Rattle.command_words.proofs.Agreeing.{AreTexts, idle_parse}
use Rattle.command_words.proofs.Once.{row_of, value_in, said_of, holds, option_said, check_said, c_said, v_said, option_no_check}
use Rattle.command_words.proofs.Fitting.{few_files, once, fit, Apart}

abbrev start : Walk
start = at (held [] None) idle 1 false

-- no subcommand is entered
none_entered : (stop : Option (Text × List Text)) → is_some (entered (built asked) stop) ≡ false
none_entered None = refl
none_entered (Some p) = refl

none_refused : (stop : Option (Text × List Text)) → entered_fault (built asked) stop ≡ []
none_refused None = refl
none_refused (Some p) = refl

abbrev stop_of : List Text → Option (Text × List Text)
stop_of words = (walked_on start words).stopped

by_level : (words : List Text) → level_fault top [] nothing_held words false [] ≡ fault start words
unfolding clap_on_literals
by_level words = refl

pub fault_is : (words : List Text) → fault_of asked words ≡ fault start words
unfolding clap_on_literals
fault_is words =
    ap (λ b. level_fault top [] nothing_held words b (entered_fault (built asked) (stop_of words))) (none_entered (stop_of words))
    ∙ (ap (level_fault top [] nothing_held words false) (none_refused (stop_of words)) ∙ by_level words)

pub rows_are : (words : List Text) → matches_of asked words ≡ finished rules (walked_on start words).held
unfolding clap_on_literals
rows_are words = refl

-- where no value is given by default the rows stay
if_either : {X : Type 0} (b : Bool) (x : X) → (if b then x else x) ≡ x
if_either true x = refl
if_either false x = refl

option_stays : (o : Named) (rows : List Row) → with_default rows (option_rule o) ≡ rows
option_stays o rows = if_either (has_row (name_of o) rows) rows

abbrev flagged : List Row → List Row
flagged rows = with_default rows flag_rule

default_stays : (rows : List Row) → fold with_default rows rules ≡ flagged rows
default_stays rows =
    ap (λ r. fold with_default r (option_rule Bound ∷ option_rule Unwind ∷ option_rule UnwindSet ∷ option_rule Budget ∷ option_rule Decide ∷ flag_rule ∷ c_rule ∷ v_rule ∷ [])) (option_stays Top rows)
    ∙ (ap (λ r. fold with_default r (option_rule Unwind ∷ option_rule UnwindSet ∷ option_rule Budget ∷ option_rule Decide ∷ flag_rule ∷ c_rule ∷ v_rule ∷ [])) (option_stays Bound rows)
    ∙ (ap (λ r. fold with_default r (option_rule UnwindSet ∷ option_rule Budget ∷ option_rule Decide ∷ flag_rule ∷ c_rule ∷ v_rule ∷ [])) (option_stays Unwind rows)
    ∙ (ap (λ r. fold with_default r (option_rule Budget ∷ option_rule Decide ∷ flag_rule ∷ c_rule ∷ v_rule ∷ [])) (option_stays UnwindSet rows)
    ∙ (ap (λ r. fold with_default r (option_rule Decide ∷ flag_rule ∷ c_rule ∷ v_rule ∷ [])) (option_stays Budget rows)
    ∙ (ap (λ r. fold with_default r (flag_rule ∷ c_rule ∷ v_rule ∷ [])) (option_stays Decide rows)
    ∙ (ap (λ r. fold with_default r (v_rule ∷ [])) (if_either (has_row (codes "c-file") (flagged rows)) (flagged rows))
    ∙ if_either (has_row (codes "v-file") (flagged rows)) (flagged rows)))))))

-- the flag's default
abbrev unset : Row
unset = record (row check_name (codes "false")) { source = Some DefaultValue }

flagged_set : (rows : List Row) → has_row check_name rows ≡ true → flagged rows ≡ rows
flagged_set rows h = ap (λ b. if b then rows else default_rows check_name AsWritten (codes "false" ∷ []) rows) h

flagged_unset : (rows : List Row) → has_row check_name rows ≡ false → flagged rows ≡ rows ++ unset ∷ []
flagged_unset rows h =
    ap (λ b. if b then rows else default_rows check_name AsWritten (codes "false" ∷ []) rows) h
    ∙ at_row-none check_name (more_values DefaultValue (codes "false" ∷ [])) (unset ∷ []) rows h

or_none : (x : Option Row) → option_or x None ≡ x
or_none None = refl
or_none (Some r) = refl

-- the default says nothing of another id
other_value : (id : Text) (rows : List Row) → bytes_eq check_name id ≡ false → (b : Bool) → has_row check_name rows ≡ b → row_of id (flagged rows) ≡ row_of id rows
other_value id rows e true h = ap (row_of id) (flagged_set rows h)
other_value id rows e false h =
    ap (row_of id) (flagged_unset rows h) ∙ (find-append (λ r. bytes_eq r.id id) rows (unset ∷ [])
    ∙ (ap (λ b. option_or (row_of id rows) (if b then Some unset else None)) e ∙ or_none (row_of id rows)))

none_found : (rows : List Row) → has_row check_name rows ≡ false → row_of check_name rows ≡ None
none_found [] h = refl
none_found (r ∷ rs) h =
    let p = or_parts (bytes_eq r.id check_name) (has_row check_name rs) h in
    ap (λ b. if b then Some r else row_of check_name rs) p.0 ∙ none_found rs p.1

-- the rows of a parse that takes the words
rows_end : (words : List Text) (ts : List Thing) → (settled rules (walked_on start words).held).rows ≡ rows_with 2 [] ts
    → matches_of asked words ≡ flagged (rows_with 2 [] ts)
rows_end words ts e = rows_are words ∙ (default_stays (settled rules (walked_on start words).held).rows ∙ ap flagged e)

value_by : (id : Text) (ts : List Thing) → bytes_eq check_name id ≡ false → first_of id (flagged (rows_with 2 [] ts)) ≡ said_of id 2 ts
value_by id ts e = ap value_in (other_value id (rows_with 2 [] ts) e (has_row check_name (rows_with 2 [] ts)) refl) ∙ holds id 2 [] ts refl

true_if : (b : Bool) → is_true (if b then Some (codes "true") else None) ≡ b
true_if true = refl
true_if false = refl

none_if : (b : Bool) → None ≡ (if b then Some (codes "true") else None) → false ≡ b
none_if true h = cc
none_if false h = refl

check_by : (ts : List Thing) → length (files_of ts) ≤ 2 → (b : Bool) → has_row check_name (rows_with 2 [] ts) ≡ b
    → is_true (first_of check_name (flagged (rows_with 2 [] ts))) ≡ checks ts
check_by ts few true h =
    ap (λ r. is_true (first_of check_name r)) (flagged_set (rows_with 2 [] ts) h)
    ∙ (ap is_true (holds check_name 2 [] ts refl ∙ check_said 2 ts few) ∙ true_if (checks ts))
check_by ts few false h =
    let gone : row_of check_name (rows_with 2 [] ts) ≡ None = none_found (rows_with 2 [] ts) h in
    ap (λ r. is_true (first_of check_name r)) (flagged_unset (rows_with 2 [] ts) h)
    ∙ (ap (λ f. is_true (value_in f)) (find-append (λ r. bytes_eq r.id check_name) (rows_with 2 [] ts) (unset ∷ []) ∙ ap (λ f. option_or f (row_of check_name (unset ∷ []))) gone)
    ∙ none_if (checks ts) (sym (ap value_in gone) ∙ (holds check_name 2 [] ts refl ∙ check_said 2 ts few)))

said_by : (rows : List Row) (ts : List Thing) → ((o : Named) → first_of (name_of o) rows ≡ value_of o ts) → is_true (first_of check_name rows) ≡ checks ts
    → (files : List Text) → length files ≤ 2 → with_both rows (slice_get files 0) (slice_get files 1) ≡ with_files ts files
said_by rows ts values flag [] few = refl
said_by rows ts values flag (c ∷ []) few = refl
said_by rows ts values flag (c ∷ v ∷ []) few = rw (values Top, values Bound, values Unwind, values UnwindSet, values Budget, values Decide, flag) refl
said_by rows ts values flag (c ∷ v ∷ x ∷ rest) few = absurd (omega (arith, few))

taken : (words : List Text) (ts : List Thing) → things_of None words ≡ Some ts → fits 2 [] ts ≡ true
    → (settled rules (walked_on start words).held).rows ≡ rows_with 2 [] ts → given_by (matches_of asked words) ≡ given_of words
taken words ts is ok all =
    let few : length (files_of ts) ≤ 2 = few_files 2 [] ts ok in
    ap given_by (rows_end words ts all)
    ∙ (ap (λ c. with_both (flagged (rows_with 2 [] ts)) c (first_of (codes "v-file") (flagged (rows_with 2 [] ts)))) (value_by (codes "c-file") ts refl ∙ c_said ts)
    ∙ (ap (with_both (flagged (rows_with 2 [] ts)) (slice_get (files_of ts) 0)) (value_by (codes "v-file") ts refl ∙ v_said ts)
    ∙ (said_by (flagged (rows_with 2 [] ts)) ts (λ o. value_by (name_of o) ts (option_no_check o).0 ∙ option_said o 2 ts few)
    (check_by ts few (has_row check_name (rows_with 2 [] ts)) refl) (files_of ts) few
    ∙ (ap (λ b. if b then with_files ts (files_of ts) else None) (sym (once 2 [] ts ok)) ∙ ap (option_and_then with_things) (sym is)))))

-- what doesn't fit gives nothing
no_row : (l : ℕ) (ts : List Thing) → Apart l [] ts
no_row l ts id h = let z : true ≡ false = sym h in cc

unfit_files : (ts : List Thing) → (length (files_of ts) ≤ 2 → ⊥) → (files : List Text) → files_of ts ≡ files → with_files ts files ≡ None
unfit_files ts many [] e = refl
unfit_files ts many (c ∷ []) e = refl
unfit_files ts many (c ∷ v ∷ []) e = absurd (many (subst (λ (f : List Text). length f ≤ 2) (sym e) (omega arith)))
unfit_files ts many (c ∷ v ∷ x ∷ rest) e = refl

unfit : (ts : List Thing) → fits 2 [] ts ≡ false → (b : Bool) → are_once ts ≡ b → with_things ts ≡ None
unfit ts h true o =
    ap (λ b. if b then with_files ts (files_of ts) else None) o
    ∙ unfit_files ts (λ few. let z : true ≡ false = sym (fit 2 [] ts o few (no_row 2 ts) (omega arith)) ∙ h in cc) (files_of ts) refl
unfit ts h false o = ap (λ b. if b then with_files ts (files_of ts) else None) o

nothing_given : (things : Option (List Thing)) → ((ts : List Thing) → things ≡ Some ts → fits 2 [] ts ≡ false) → option_and_then with_things things ≡ None
nothing_given None bad = refl
nothing_given (Some ts) bad = unfit ts (bad ts refl) (are_once ts) refl

-- the law
pub record Gives (words : List Text) : Type 0 where
  pub takes_all : fault_of asked words ≡ [] → given_by (matches_of asked words) ≡ given_of words
  pub refuses_rest : (fault_of asked words ≡ [] → ⊥) → given_of words ≡ None

by_parse : (words : List Text) → Parses start words 2 [] (things_of None words) → Gives words
by_parse words (takes ts is ok none all) = record {
  takes_all = λ e. taken words ts is ok all;
  refuses_rest = λ bad. absurd (bad (fault_is words ∙ none));
}
by_parse words (refuses h bad) = record {
  takes_all = λ e. let z : true ≡ false = ap is_quiet (sym e ∙ fault_is words) ∙ h in cc;
  refuses_rest = λ k. nothing_given (things_of None words) bad;
}

pub gives : (words : List Text) → AreTexts words → Gives words
gives words u = by_parse words (idle_parse 1 first words u [] None [] (nothing_pends []))

pub are_texts : {Z : Type 0} (words : List (String Z)) → AreTexts (map string_bytes words)
are_texts [] = tt
are_texts (word ∷ rest) = (IsUtf8-string_bytes word, are_texts rest)
