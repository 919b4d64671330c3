-- Each word has one of six forms, and what the definition and `clap` make of each.
use Rattle.std.proofs.Common.{arith, ◌≡◌, ◌∙◌, refl, sym, ap, subst, ℕ, Bool, true, false, List, [], ◌∷◌, Option, Some, None, if◌then◌else◌, ◌==◌, map, length, slice_get}
use Rattle.std.proofs.lemmas.Bool.{eqb-true}
use Rattle.std.proofs.lemmas.Str.{encodes-chars}
use Rattle.std.specs.Str.{chars, IsUtf8}
use Rattle.std.proofs.Math.Utf8.{encode, encodes}
use Rattle.clap.specs.Words.{Row, Text}
use Rattle.clap.specs.Walk.{Held, Waiting, idle, option}
use Rattle.clap.specs.Lexer.{long_of, short_of, name_and_value}
use Rattle.clap.specs.Kinds.{Kinds}
use Rattle.clap.specs.Faults.{turn_fault, flags_fault, bundle_fault, bundle_step_fault}
use Rattle.command_words.specs.Words.{Named, Thing, Sets, Names, beside, is_option, asked_option, asked_things, things_of}
use Rattle.command_words.proofs.Rules.{rules, top}
use Rattle.command_words.proofs.Faults.{is_quiet, quiet-or}
use Rattle.command_words.proofs.Turns.{Form, empty, other, hyphen, short, ends, long, held, at, IsPlain, is_ends, turn_by_end, turn_by_long, turn_by_short, turn_split, turn_split_waiting}

pub form : (w : Text) → Form w
form [] = empty
form (x ∷ xs) = by_first x xs (x == 45) refl
  where
    by_third : (ys : Text) → Form (45 ∷ (45 ∷ ys))
    by_third [] = ends
    by_third (z ∷ zs) = long z zs

    by_second : (y : ℕ) (ys : Text) (b : Bool) → (y == 45) ≡ b → Form (45 ∷ (y ∷ ys))
    by_second y ys true e = subst (λ (k : ℕ). Form (45 ∷ (k ∷ ys))) (sym (eqb-true y 45 e)) (by_third ys)
    by_second y ys false e = short y ys e

    behind_one : (xs : Text) → Form (45 ∷ xs)
    behind_one [] = hyphen
    behind_one (y ∷ ys) = by_second y ys (y == 45) refl

    by_first : (x : ℕ) (xs : Text) (b : Bool) → (x == 45) ≡ b → Form (x ∷ xs)
    by_first x xs true e = subst (λ (k : ℕ). Form (k ∷ xs)) (sym (eqb-true x 45 e)) (behind_one xs)
    by_first x xs false e = other x xs e

pub plain_empty : IsPlain []
plain_empty = record { no_end = refl; no_long = refl; no_short = refl; asks_nothing = refl }

pub plain_hyphen : IsPlain (45 ∷ [])
plain_hyphen = record { no_end = refl; no_long = refl; no_short = refl; asks_nothing = refl }

pub plain_other : (x : ℕ) (xs : Text) → (x == 45) ≡ false → IsPlain (x ∷ xs)
plain_other x xs e = record { no_end = rw e refl; no_long = rw e refl; no_short = rw e refl; asks_nothing = rw e refl }

-- what the definition says of each
pub ends_things : (rest : List Text) → things_of None ((45 ∷ (45 ∷ [])) ∷ rest) ≡ Some (map Names rest)
unfolding things_of
ends_things rest = refl

pub long_things : (z : ℕ) (zs : Text) (rest : List Text)
    → things_of None ((45 ∷ (45 ∷ (z ∷ zs))) ∷ rest) ≡ asked_things (Some (name_and_value (z ∷ zs))) (things_of None rest) (λ o. things_of (Some o) rest)
unfolding things_of
long_things z zs rest = refl

pub short_things : (y : ℕ) (ys : Text) (rest : List Text) → (y == 45) ≡ false → things_of None ((45 ∷ (y ∷ ys)) ∷ rest) ≡ None
unfolding things_of
short_things y ys rest e = rw e refl

by_tests : Text → List Text → Bool → Bool → Option (List Thing)
by_tests word rest e a =
    if e then Some (map Names rest)
    else if a then asked_things (asked_option word) (things_of None rest) (λ o. things_of (Some o) rest)
    else beside (Names word) (things_of None rest)

pub plain_things : (word : Text) (rest : List Text) → IsPlain word → things_of None (word ∷ rest) ≡ beside (Names word) (things_of None rest)
unfolding things_of by_tests
plain_things word rest p = ap (λ e. by_tests word rest e (is_option word)) p.no_end ∙ ap (by_tests word rest false) p.asks_nothing

by_value_tests : Named → Text → List Text → Bool → Bool → Option (List Thing)
by_value_tests o word rest e a = if e then None else if a then None else beside (Sets o word) (things_of None rest)

pub value_things : (o : Named) (word : Text) (rest : List Text) → IsPlain word → things_of (Some o) (word ∷ rest) ≡ beside (Sets o word) (things_of None rest)
unfolding things_of by_value_tests
value_things o word rest p = ap (λ e. by_value_tests o word rest e (is_option word)) p.no_end ∙ ap (by_value_tests o word rest false) p.asks_nothing

pub ends_no_value : (o : Named) (rest : List Text) → things_of (Some o) ((45 ∷ (45 ∷ [])) ∷ rest) ≡ None
unfolding things_of
ends_no_value o rest = refl

pub long_no_value : (o : Named) (z : ℕ) (zs : Text) (rest : List Text) → things_of (Some o) ((45 ∷ (45 ∷ (z ∷ zs))) ∷ rest) ≡ None
unfolding things_of
long_no_value o z zs rest = refl

pub short_no_value : (o : Named) (y : ℕ) (ys : Text) (rest : List Text) → (y == 45) ≡ false → things_of (Some o) ((45 ∷ (y ∷ ys)) ∷ rest) ≡ None
unfolding things_of
short_no_value o y ys rest e = rw e refl

-- a word with one hyphen has a first character behind it, and no option has that
first_char : (y : ℕ) (ys : Text) → IsUtf8 (45 ∷ (y ∷ ys)) → (x : ℕ) × (slice_get (chars (y ∷ ys)) 0 ≡ Some x)
unfolding chars encode
first_char y ys u = at_first (chars (y ∷ ys)) refl
  where
    at_first : (cs : List ℕ) → chars (y ∷ ys) ≡ cs → (x : ℕ) × (slice_get cs 0 ≡ Some x)
    at_first [] e =
        let h : 45 ∷ [] ≡ 45 ∷ (y ∷ ys) = ap (λ cs. encodes (45 ∷ cs)) (sym e) ∙ encodes-chars (45 ∷ (y ∷ ys)) u in
        let g : length {A = ℕ} (45 ∷ []) ≡ length {A = ℕ} (45 ∷ (y ∷ ys)) = ap length h in absurd (omega (arith, g))
    at_first (x ∷ xs) e = (x, refl)

-- so it is refused
by_char : (x : Option ℕ) (flags : Text) (h : Held) (more : Text → ℕ → Held → Kinds) → (c : ℕ) × (x ≡ Some c) → is_quiet (bundle_step_fault rules false x flags 0 h more) ≡ false
by_char x flags h more c = ap (λ k. is_quiet (bundle_step_fault rules false k flags 0 h more)) c.1

bundle_refused : (y : ℕ) (ys : Text) (rows : List Row) (p : Option (Text × List Text)) → IsUtf8 (45 ∷ (y ∷ ys)) → is_quiet (bundle_fault rules false (y ∷ ys) (held rows p)) ≡ false
unfolding flags_fault
bundle_refused y ys rows p u = by_char _ (y ∷ ys) (held rows p) _ (first_char y ys u)

short_by : (waiting : Waiting) (n : ℕ) (y : ℕ) (ys : Text) (rows : List Row) (p : Option (Text × List Text)) → (y == 45) ≡ false → IsUtf8 (45 ∷ (y ∷ ys))
    → is_quiet (turn_by_end waiting n (45 ∷ (y ∷ ys)) (held rows p) (is_ends (45 ∷ (y ∷ ys)))) ≡ false
short_by waiting n y ys rows p e u =
    let no_end : is_ends (45 ∷ (y ∷ ys)) ≡ false = rw e refl in
    let no_long : long_of (45 ∷ (y ∷ ys)) ≡ None = rw e refl in
    let one : short_of (45 ∷ (y ∷ ys)) ≡ Some (y ∷ ys) = rw e refl in
    ap is_quiet (ap (turn_by_end waiting n (45 ∷ (y ∷ ys)) (held rows p)) no_end ∙ ap (turn_by_long waiting n (45 ∷ (y ∷ ys)) (held rows p)) no_long
    ∙ ap (turn_by_short waiting n (45 ∷ (y ∷ ys)) (held rows p)) one)
    ∙ quiet-or (bundle_fault rules false (y ∷ ys) (held rows p)) _ (bundle_refused y ys rows p u)

pub short_turn : (n : ℕ) (y : ℕ) (ys : Text) (rows : List Row) (p : Option (Text × List Text)) → (y == 45) ≡ false → IsUtf8 (45 ∷ (y ∷ ys))
    → is_quiet (turn_fault top [] (at (held rows p) idle n false) (45 ∷ (y ∷ ys))) ≡ false
short_turn n y ys rows p e u = ap is_quiet (turn_split (held rows p) n (45 ∷ (y ∷ ys))) ∙ short_by idle n y ys rows p e u

pub short_waiting : (id : Text) (n : ℕ) (y : ℕ) (ys : Text) (rows : List Row) (p : Option (Text × List Text)) → (y == 45) ≡ false → IsUtf8 (45 ∷ (y ∷ ys))
    → is_quiet (turn_fault top [] (at (held rows p) (option id) n false) (45 ∷ (y ∷ ys))) ≡ false
short_waiting id n y ys rows p e u = ap is_quiet (turn_split_waiting (held rows p) id n (45 ∷ (y ∷ ys))) ∙ short_by (option id) n y ys rows p e u
