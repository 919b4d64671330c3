-- A parse by `clap` takes the words exactly where the definition does, and uses the same things.
use Rattle.std.proofs.Common.{◌≡◌, ◌∙◌, ◌++◌, refl, sym, ap, subst, ℕ, Bool, true, false, List, [], ◌∷◌, Option, Some, None, if◌then◌else◌, codes, map}
use Rattle.std.specs.Prelude.{⊤}
use Rattle.std.specs.Str.{IsUtf8, bytes_eq}
use Rattle.clap.specs.Words.{Row, Text}
use Rattle.clap.specs.Walk.{Held, Walk, Waiting, idle, option, walked, settled, arg_by_long, has_row, used}
use Rattle.clap.specs.Lexer.{name_and_value}
use Rattle.clap.specs.Kinds.{or_else}
use Rattle.clap.specs.Faults.{turn_fault, settle_fault, walk_fault, use_fault}
use Rattle.command_words.specs.Words.{Named, name_of, named, check_name, Thing, Sets, Checks, Names, beside, option_things, with_value, without_value, things_of}
use Rattle.command_words.proofs.Rules.{rules, top, option_rule, flag_rule}
use Rattle.command_words.proofs.Faults.{is_quiet, quiet-or, fault, fault-next}
use Rattle.command_words.proofs.Rows.{row, conflict, use_option, use_flag, used_option, used_flag}
use Rattle.command_words.proofs.Turns.{Form, empty, other, hyphen, short, ends, long, held, at, IsPlain, ends_turn, ends_waiting, ends_walk, ends_walk_waiting, long_turn, long_walk, long_turn_is, long_waiting_is, long_walk_is, set_turn, set_walk, await_turn, await_walk, check_turn, check_walk, plain_turn, plain_walk, value_turn, value_walk}
use Rattle.command_words.proofs.States.{Clean, Doomed, nothing_pends, option_pends, option_doomed, awaiting_doomed, c_pends, c_doomed, v_pends, v_doomed, c_turn, v_turn, no_third, trailing_turn, trailing_walk, c_walk, v_walk}
use Rattle.command_words.proofs.Doomed.{Place, first, second, behind, file_doomed, trailing_doomed, option_doomed_turn, check_doomed_turn, unknown_turn}
use Rattle.command_words.proofs.Names.{Asks, an_option, the_check, unknown, asks}
use Rattle.command_words.proofs.Forms.{form, plain_empty, plain_hyphen, plain_other, ends_things, long_things, short_things, plain_things, value_things, ends_no_value, long_no_value, short_no_value, short_turn, short_waiting}
use Rattle.command_words.proofs.Takes.{fits, rows_with, Parses, refuses, refused_now, goes_on, says, bars, ends_clean}

-- how many files may still come
abbrev pub left : {n : ℕ} → Place n → ℕ
left first = 2
left second = 1
left behind = 0

-- nothing fits what isn't of the form
none_fits : (l : ℕ) (rows : List Row) (ts : List Thing) → None ≡ Some ts → fits l rows ts ≡ false
none_fits l rows ts e = cc

-- the parse as it is over other things
parses_as : (w : Walk) (words : List Text) (l : ℕ) (rows : List Row) (a b : Option (List Thing)) → a ≡ b → Parses w words l rows b → Parses w words l rows a
parses_as w words l rows a b e p = subst (λ (x : Option (List Thing)). Parses w words l rows x) (sym e) p

-- what is refused by a later word
refused_later : (w w' : Walk) (word : Text) (rest : List Text) (l : ℕ) (rows : List Row) (things : Option (List Thing))
    → turn_fault top [] w word ≡ [] → walked rules [] w word ≡ w' → is_quiet (fault w' rest) ≡ false
    → ((ts : List Thing) → things ≡ Some ts → fits l rows ts ≡ false) → Parses w (word ∷ rest) l rows things
refused_later w w' word rest l rows things quiet walk doom bad =
    refuses (ap is_quiet (fault-next w word rest ∙ ap (λ x. or_else x (fault (walked rules [] w word) rest)) quiet ∙ ap (λ x. fault x rest) walk) ∙ doom) bad

-- a thing that is used first, and one that is used again
if_new : (b : Bool) (x : Bool) → b ≡ false → (if b then false else x) ≡ x
if_new true x e = let z : true ≡ false = e in cc
if_new false x e = refl

if_old : (b : Bool) (x : Bool) → b ≡ true → (if b then false else x) ≡ false
if_old true x e = refl
if_old false x e = let z : true ≡ false = sym e in cc

-- a word that is used under an id, for the first time or again; `w'` is the parse behind it
uses : (x : Thing) (id : Text) (w w' : Walk) (word : Text) (rest : List Text) (l l' : ℕ) (rs rs' : List Row) (things : Option (List Thing))
    → turn_fault top [] w word ≡ [] → walked rules [] w word ≡ w'
    → ((ts : List Thing) → fits l rs (x ∷ ts) ≡ (if has_row id rs then false else fits l' rs' ts))
    → ((ts : List Thing) → rows_with l rs (x ∷ ts) ≡ rows_with l' rs' ts)
    → (has_row id rs ≡ false → Parses w' rest l' rs' things) → (has_row id rs ≡ true → is_quiet (fault w' rest) ≡ false)
    → (b : Bool) → has_row id rs ≡ b → Parses w (word ∷ rest) l rs (beside x things)
uses x id w w' word rest l l' rs rs' things quiet walk fit all later doomed false h =
    says x w w' word rest l l' rs rs' things (λ ts. (fit ts ∙ if_new (has_row id rs) _ h, all ts)) quiet walk (later h)
uses x id w w' word rest l l' rs rs' things quiet walk fit all later doomed true h =
    refused_later w w' word rest l rs (beside x things) quiet walk (doomed h) (bars x l rs things (λ ts. fit ts ∙ if_old (has_row id rs) _ h))

abbrev c_held : Text → List Row → Held
c_held word rs = held rs (Some (codes "c-file", word ∷ []))

abbrev v_held : Text → List Row → Held
v_held word rs = held rs (Some (codes "v-file", word ∷ []))

abbrev c_rows : Text → List Row → List Row
c_rows word rs = rs ++ row (codes "c-file") word ∷ []

abbrev v_rows : Text → List Row → List Row
v_rows word rs = rs ++ row (codes "v-file") word ∷ []

-- words behind `--`
pub trailing : (w : Waiting) (n : ℕ) (p : Place n) (rows : List Row) (pending : Option (Text × List Text)) (rs : List Row) (words : List Text)
    → Clean (held rows pending) rs → Parses (at (held rows pending) w n true) words (left p) rs (Some (map Names words))
trailing w n p rows pending rs [] c = ends_clean (at (held rows pending) w n true) (left p) rs c
trailing w n first rows pending rs (word ∷ rest) c =
    uses (Names word) (codes "c-file") _ (at (c_held word rs) idle 2 true) word rest 2 1 rs (c_rows word rs) (Some (map Names rest))
    (trailing_turn (held rows pending) w 1 word ∙ (c_turn (held rows pending) ∙ c.quiet))
    (trailing_walk (held rows pending) w 1 word ∙ ((c_walk w rows pending word).1 ∙ ap (λ r. at (c_held word r) idle 2 true) c.settled_is))
    (λ ts. refl) (λ ts. refl)
    (λ h. trailing idle 2 second rs (Some (codes "c-file", word ∷ [])) (c_rows word rs) rest (c_pends word rs h))
    (λ h. trailing_doomed idle 2 (c_held word rs) rest second (c_doomed word rs h))
    (has_row (codes "c-file") rs) refl
trailing w n second rows pending rs (word ∷ rest) c =
    uses (Names word) (codes "v-file") _ (at (v_held word rs) idle 3 true) word rest 1 0 rs (v_rows word rs) (Some (map Names rest))
    (trailing_turn (held rows pending) w 2 word ∙ (v_turn (held rows pending) ∙ c.quiet))
    (trailing_walk (held rows pending) w 2 word ∙ ((v_walk w rows pending word).1 ∙ ap (λ r. at (v_held word r) idle 3 true) c.settled_is))
    (λ ts. refl) (λ ts. refl)
    (λ h. trailing idle 3 behind rs (Some (codes "v-file", word ∷ [])) (v_rows word rs) rest (v_pends word rs h))
    (λ h. trailing_doomed idle 3 (v_held word rs) rest behind (v_doomed word rs h))
    (has_row (codes "v-file") rs) refl
trailing w n behind rows pending rs (word ∷ rest) c =
    refused_now _ word rest 0 rs _ (ap is_quiet (trailing_turn (held rows pending) w 3 word) ∙ no_third (held rows pending))
    (bars (Names word) 0 rs (Some (map Names rest)) (λ ts. refl))

-- the words are texts
abbrev pub AreTexts : List Text → Type 0
AreTexts [] = ⊤
AreTexts (word ∷ rest) = IsUtf8 word × AreTexts rest

-- where what is held can't be used, no word helps
plain_doomed : (n : ℕ) (p : Place n) (rows : List Row) (pending : Option (Text × List Text)) (word : Text) (rest : List Text) → IsPlain word
    → Doomed (held rows pending) → is_quiet (turn_fault top [] (at (held rows pending) idle n false) word) ≡ false
plain_doomed n p rows pending word rest pl d = ap is_quiet (plain_turn (held rows pending) n word pl) ∙ file_doomed n (held rows pending) p d

long_doomed : (w : Waiting) (n : ℕ) (word name : Text) (v : Option Text) (h : Held) → Doomed h → Asks name
    → is_quiet (long_turn (arg_by_long rules name) v w n word h) ≡ false
long_doomed w n word name v h d (an_option o e found) = ap (λ f. is_quiet (long_turn f v w n word h)) found ∙ option_doomed_turn o v w n word h d
long_doomed w n word name v h d (the_check e c found) = ap (λ f. is_quiet (long_turn f v w n word h)) found ∙ check_doomed_turn v w n word h d
long_doomed w n word name v h d (unknown e c found) = ap (λ f. is_quiet (long_turn f v w n word h)) found ∙ unknown_turn v w n word h

now_doomed : (w : Walk) (word : Text) (rest : List Text) → is_quiet (turn_fault top [] w word) ≡ false → is_quiet (fault w (word ∷ rest)) ≡ false
now_doomed w word rest d = ap is_quiet (fault-next w word rest) ∙ quiet-or (turn_fault top [] w word) _ d

doomed_word : (n : ℕ) (p : Place n) (rows : List Row) (pending : Option (Text × List Text)) (word : Text) (rest : List Text) → Form word → IsUtf8 word
    → Doomed (held rows pending) → is_quiet (fault (at (held rows pending) idle n false) (word ∷ rest)) ≡ false
doomed_word n p rows pending word rest empty u d = now_doomed _ [] rest (plain_doomed n p rows pending [] rest plain_empty d)
doomed_word n p rows pending word rest hyphen u d = now_doomed _ (45 ∷ []) rest (plain_doomed n p rows pending (45 ∷ []) rest plain_hyphen d)
doomed_word n p rows pending word rest (other x xs e) u d = now_doomed _ (x ∷ xs) rest (plain_doomed n p rows pending (x ∷ xs) rest (plain_other x xs e) d)
doomed_word n p rows pending word rest (short y ys e) u d = now_doomed _ (45 ∷ (y ∷ ys)) rest (short_turn n y ys rows pending e u)
doomed_word n p rows pending word rest ends u d =
    ap is_quiet (fault-next (at (held rows pending) idle n false) (45 ∷ (45 ∷ [])) rest ∙ ap (λ x. fault x rest) (ends_walk (held rows pending) n))
    ∙ trailing_doomed idle n (held rows pending) rest p d
doomed_word n p rows pending word rest (long z zs) u d =
    now_doomed _ (45 ∷ (45 ∷ (z ∷ zs))) rest (ap is_quiet (long_turn_is (held rows pending) n z zs) ∙ long_doomed idle n (45 ∷ (45 ∷ (z ∷ zs))) (name_and_value (z ∷ zs)).0 (name_and_value (z ∷ zs)).1 (held rows pending) d (asks (name_and_value (z ∷ zs)).0))

idle_doomed : (n : ℕ) (p : Place n) (rows : List Row) (pending : Option (Text × List Text)) (words : List Text) → AreTexts words
    → Doomed (held rows pending) → is_quiet (fault (at (held rows pending) idle n false) words) ≡ false
unfolding walk_fault
idle_doomed n p rows pending [] u d = quiet-or (settle_fault rules false (held rows pending)) _ d
idle_doomed n p rows pending (word ∷ rest) u d = doomed_word n p rows pending word rest (form word) u.0 d

-- what is known of the words behind the next one
abbrev Later : (n : ℕ) → Place n → List Text → Type 0
Later n p rest = (rows : List Row) (pending : Option (Text × List Text)) (rs : List Row) → Clean (held rows pending) rs
    → Parses (at (held rows pending) idle n false) rest (left p) rs (things_of None rest)

abbrev Awaited : (n : ℕ) → Place n → List Text → Type 0
Awaited n p rest = (o : Named) (rs : List Row)
    → Parses (at (held rs (Some (name_of o, []))) (option (name_of o)) n false) rest (left p) rs (things_of (Some o) rest)

-- a word for a file
file_word : (n : ℕ) (p : Place n) (rows : List Row) (pending : Option (Text × List Text)) (rs : List Row) (word : Text) (rest : List Text)
    → IsPlain word → AreTexts rest → Clean (held rows pending) rs → Later 2 second rest → Later 3 behind rest
    → Parses (at (held rows pending) idle n false) (word ∷ rest) (left p) rs (beside (Names word) (things_of None rest))
file_word n first rows pending rs word rest pl u c later2 later3 =
    uses (Names word) (codes "c-file") _ (at (c_held word rs) idle 2 false) word rest 2 1 rs (c_rows word rs) (things_of None rest)
    (plain_turn (held rows pending) 1 word pl ∙ (c_turn (held rows pending) ∙ c.quiet))
    (plain_walk (held rows pending) 1 word pl ∙ ((c_walk idle rows pending word).0 ∙ ap (λ r. at (c_held word r) idle 2 false) c.settled_is))
    (λ ts. refl) (λ ts. refl)
    (λ h. later2 rs (Some (codes "c-file", word ∷ [])) (c_rows word rs) (c_pends word rs h))
    (λ h. idle_doomed 2 second rs (Some (codes "c-file", word ∷ [])) rest u (c_doomed word rs h))
    (has_row (codes "c-file") rs) refl
file_word n second rows pending rs word rest pl u c later2 later3 =
    uses (Names word) (codes "v-file") _ (at (v_held word rs) idle 3 false) word rest 1 0 rs (v_rows word rs) (things_of None rest)
    (plain_turn (held rows pending) 2 word pl ∙ (v_turn (held rows pending) ∙ c.quiet))
    (plain_walk (held rows pending) 2 word pl ∙ ((v_walk idle rows pending word).0 ∙ ap (λ r. at (v_held word r) idle 3 false) c.settled_is))
    (λ ts. refl) (λ ts. refl)
    (λ h. later3 rs (Some (codes "v-file", word ∷ [])) (v_rows word rs) (v_pends word rs h))
    (λ h. idle_doomed 3 behind rs (Some (codes "v-file", word ∷ [])) rest u (v_doomed word rs h))
    (has_row (codes "v-file") rs) refl
file_word n behind rows pending rs word rest pl u c later2 later3 =
    refused_now _ word rest 0 rs _ (ap is_quiet (plain_turn (held rows pending) 3 word pl) ∙ no_third (held rows pending))
    (bars (Names word) 0 rs (things_of None rest) (λ ts. refl))

-- an option with its value in the word; `e` and `k` say what the word does
set_word : (o : Named) (v : Text) (n : ℕ) (p : Place n) (rows : List Row) (pending : Option (Text × List Text)) (rs : List Row) (word : Text) (rest : List Text)
    → Clean (held rows pending) rs → Later n p rest
    → turn_fault top [] (at (held rows pending) idle n false) word ≡ long_turn (Some (option_rule o)) (Some v) idle n word (held rows pending)
    → walked rules [] (at (held rows pending) idle n false) word ≡ long_walk (Some (option_rule o)) (Some v) idle n word (held rows pending)
    → (b : Bool) → has_row (name_of o) rs ≡ b
    → Parses (at (held rows pending) idle n false) (word ∷ rest) (left p) rs (beside (Sets o v) (things_of None rest))
set_word o v n p rows pending rs word rest c later e k b h = by_use b h
  where
    use_is : use_fault false (option_rule o) (v ∷ []) (settled rules (held rows pending)).rows ≡ conflict (has_row (name_of o) rs)
    use_is = ap (use_fault false (option_rule o) (v ∷ [])) c.settled_is ∙ use_option o v rs

    turn_is : turn_fault top [] (at (held rows pending) idle n false) word ≡ or_else (conflict (has_row (name_of o) rs)) []
    turn_is = e ∙ (set_turn o v word n (held rows pending)
        ∙ (ap (λ x. or_else (or_else x (use_fault false (option_rule o) (v ∷ []) (settled rules (held rows pending)).rows)) []) c.quiet ∙ ap (λ x. or_else x []) use_is))

    by_use : (b : Bool) → has_row (name_of o) rs ≡ b
        → Parses (at (held rows pending) idle n false) (word ∷ rest) (left p) rs (beside (Sets o v) (things_of None rest))
    by_use false h =
        says (Sets o v) _ (at (held (rs ++ row (name_of o) v ∷ []) None) idle n false) word rest (left p) (left p) rs (rs ++ row (name_of o) v ∷ []) (things_of None rest)
        (λ ts. (if_new (has_row (name_of o) rs) _ h, refl))
        (turn_is ∙ ap (λ b. or_else (conflict b) []) h)
        (k ∙ (set_walk o v word n (held rows pending) ∙ ap (λ r. at (held r None) idle n false) (ap (used (option_rule o) (v ∷ [])) c.settled_is ∙ used_option o v rs h)))
        (later (rs ++ row (name_of o) v ∷ []) None (rs ++ row (name_of o) v ∷ []) (nothing_pends (rs ++ row (name_of o) v ∷ [])))
    by_use true h =
        refused_now _ word rest (left p) rs _ (ap is_quiet (turn_is ∙ ap (λ b. or_else (conflict b) []) h))
        (bars (Sets o v) (left p) rs (things_of None rest) (λ ts. if_old (has_row (name_of o) rs) _ h))

-- an option whose value is the next word
await_word : (o : Named) (n : ℕ) (p : Place n) (rows : List Row) (pending : Option (Text × List Text)) (rs : List Row) (word : Text) (rest : List Text)
    → Clean (held rows pending) rs → Awaited n p rest
    → turn_fault top [] (at (held rows pending) idle n false) word ≡ long_turn (Some (option_rule o)) None idle n word (held rows pending)
    → walked rules [] (at (held rows pending) idle n false) word ≡ long_walk (Some (option_rule o)) None idle n word (held rows pending)
    → Parses (at (held rows pending) idle n false) (word ∷ rest) (left p) rs (things_of (Some o) rest)
await_word o n p rows pending rs word rest c awaited e k =
    goes_on _ (at (held rs (Some (name_of o, []))) (option (name_of o)) n false) word rest (left p) rs (things_of (Some o) rest)
    (e ∙ (await_turn o word n (held rows pending) ∙ ap (λ x. or_else x []) c.quiet))
    (k ∙ (await_walk o word n rows pending ∙ ap (λ r. at (held r (Some (name_of o, []))) (option (name_of o)) n false) c.settled_is))
    (awaited o rs)

-- `--check-bound`
check_word : (n : ℕ) (p : Place n) (rows : List Row) (pending : Option (Text × List Text)) (rs : List Row) (word : Text) (rest : List Text)
    → Clean (held rows pending) rs → Later n p rest
    → turn_fault top [] (at (held rows pending) idle n false) word ≡ long_turn (Some flag_rule) None idle n word (held rows pending)
    → walked rules [] (at (held rows pending) idle n false) word ≡ long_walk (Some flag_rule) None idle n word (held rows pending)
    → (b : Bool) → has_row check_name rs ≡ b
    → Parses (at (held rows pending) idle n false) (word ∷ rest) (left p) rs (beside Checks (things_of None rest))
check_word n p rows pending rs word rest c later e k b h = by_use b h
  where
    rs' : List Row
    rs' = rs ++ row check_name (codes "true") ∷ []

    use_is : use_fault false flag_rule [] (settled rules (held rows pending)).rows ≡ conflict (has_row check_name rs)
    use_is = ap (use_fault false flag_rule []) c.settled_is ∙ use_flag rs

    turn_is : turn_fault top [] (at (held rows pending) idle n false) word ≡ or_else (conflict (has_row check_name rs)) []
    turn_is = e ∙ (check_turn word n (held rows pending)
        ∙ (ap (λ x. or_else (or_else x (use_fault false flag_rule [] (settled rules (held rows pending)).rows)) []) c.quiet ∙ ap (λ x. or_else x []) use_is))

    by_use : (b : Bool) → has_row check_name rs ≡ b
        → Parses (at (held rows pending) idle n false) (word ∷ rest) (left p) rs (beside Checks (things_of None rest))
    by_use false h =
        says Checks _ (at (held (rs ++ row check_name (codes "true") ∷ []) None) idle n false) word rest (left p) (left p) rs (rs ++ row check_name (codes "true") ∷ []) (things_of None rest)
        (λ ts. (if_new (has_row check_name rs) _ h, refl))
        (turn_is ∙ ap (λ b. or_else (conflict b) []) h)
        (k ∙ (check_walk word n (held rows pending) ∙ ap (λ r. at (held r None) idle n false) (ap (used flag_rule []) c.settled_is ∙ used_flag rs h)))
        (later (rs ++ row check_name (codes "true") ∷ []) None (rs ++ row check_name (codes "true") ∷ []) (nothing_pends (rs ++ row check_name (codes "true") ∷ [])))
    by_use true h =
        refused_now _ word rest (left p) rs _ (ap is_quiet (turn_is ∙ ap (λ b. or_else (conflict b) []) h))
        (bars Checks (left p) rs (things_of None rest) (λ ts. if_old (has_row check_name rs) _ h))

-- a word with two hyphens, by what its name asks for
option_word : (o : Named) (v : Option Text) (n : ℕ) (p : Place n) (rows : List Row) (pending : Option (Text × List Text)) (rs : List Row) (word : Text) (rest : List Text)
    → Clean (held rows pending) rs → Later n p rest → Awaited n p rest
    → turn_fault top [] (at (held rows pending) idle n false) word ≡ long_turn (Some (option_rule o)) v idle n word (held rows pending)
    → walked rules [] (at (held rows pending) idle n false) word ≡ long_walk (Some (option_rule o)) v idle n word (held rows pending)
    → Parses (at (held rows pending) idle n false) (word ∷ rest) (left p) rs (with_value o v (things_of None rest) (things_of (Some o) rest))
option_word o (Some v) n p rows pending rs word rest c later awaited e k =
    set_word o v n p rows pending rs word rest c later e k (has_row (name_of o) rs) refl
option_word o None n p rows pending rs word rest c later awaited e k = await_word o n p rows pending rs word rest c awaited e k

flag_word : (v : Option Text) (n : ℕ) (p : Place n) (rows : List Row) (pending : Option (Text × List Text)) (rs : List Row) (word : Text) (rest : List Text)
    → Clean (held rows pending) rs → Later n p rest
    → turn_fault top [] (at (held rows pending) idle n false) word ≡ long_turn (Some flag_rule) v idle n word (held rows pending)
    → walked rules [] (at (held rows pending) idle n false) word ≡ long_walk (Some flag_rule) v idle n word (held rows pending)
    → Parses (at (held rows pending) idle n false) (word ∷ rest) (left p) rs (without_value v (things_of None rest))
flag_word (Some v) n p rows pending rs word rest c later e k = refused_now _ word rest (left p) rs None (ap is_quiet e) (none_fits (left p) rs)
flag_word None n p rows pending rs word rest c later e k = check_word n p rows pending rs word rest c later e k (has_row check_name rs) refl

long_word : (name : Text) (v : Option Text) (n : ℕ) (p : Place n) (rows : List Row) (pending : Option (Text × List Text)) (rs : List Row) (word : Text) (rest : List Text)
    → Clean (held rows pending) rs → Later n p rest → Awaited n p rest
    → turn_fault top [] (at (held rows pending) idle n false) word ≡ long_turn (arg_by_long rules name) v idle n word (held rows pending)
    → walked rules [] (at (held rows pending) idle n false) word ≡ long_walk (arg_by_long rules name) v idle n word (held rows pending)
    → Asks name
    → Parses (at (held rows pending) idle n false) (word ∷ rest) (left p) rs
    (option_things (named name) (bytes_eq check_name name) v (things_of None rest) (λ o. things_of (Some o) rest))
long_word name v n p rows pending rs word rest c later awaited e k (an_option o is found) =
    parses_as _ (word ∷ rest) (left p) rs _ _ (ap (λ x. option_things x (bytes_eq check_name name) v (things_of None rest) (λ o. things_of (Some o) rest)) is)
    (option_word o v n p rows pending rs word rest c later awaited
    (e ∙ ap (λ f. long_turn f v idle n word (held rows pending)) found) (k ∙ ap (λ f. long_walk f v idle n word (held rows pending)) found))
long_word name v n p rows pending rs word rest c later awaited e k (the_check none same found) =
    parses_as _ (word ∷ rest) (left p) rs _ _
    (ap (λ x. option_things x (bytes_eq check_name name) v (things_of None rest) (λ o. things_of (Some o) rest)) none
    ∙ ap (λ b. option_things None b v (things_of None rest) (λ o. things_of (Some o) rest)) same)
    (flag_word v n p rows pending rs word rest c later
    (e ∙ ap (λ f. long_turn f v idle n word (held rows pending)) found) (k ∙ ap (λ f. long_walk f v idle n word (held rows pending)) found))
long_word name v n p rows pending rs word rest c later awaited e k (unknown none differs found) =
    parses_as _ (word ∷ rest) (left p) rs _ _
    (ap (λ x. option_things x (bytes_eq check_name name) v (things_of None rest) (λ o. things_of (Some o) rest)) none
    ∙ ap (λ b. option_things None b v (things_of None rest) (λ o. things_of (Some o) rest)) differs)
    (refused_now _ word rest (left p) rs None (ap is_quiet (e ∙ ap (λ f. long_turn f v idle n word (held rows pending)) found)) (none_fits (left p) rs))

-- a word where nothing waits for it
idle_word : (n : ℕ) (p : Place n) (rows : List Row) (pending : Option (Text × List Text)) (rs : List Row) (word : Text) (rest : List Text) → Form word → IsUtf8 word → AreTexts rest
    → Clean (held rows pending) rs → Later n p rest → Later 2 second rest → Later 3 behind rest → Awaited n p rest
    → Parses (at (held rows pending) idle n false) (word ∷ rest) (left p) rs (things_of None (word ∷ rest))
idle_word n p rows pending rs word rest empty u us c later later2 later3 awaited =
    parses_as _ ([] ∷ rest) (left p) rs _ _ (plain_things [] rest plain_empty) (file_word n p rows pending rs [] rest plain_empty us c later2 later3)
idle_word n p rows pending rs word rest hyphen u us c later later2 later3 awaited =
    parses_as _ ((45 ∷ []) ∷ rest) (left p) rs _ _ (plain_things (45 ∷ []) rest plain_hyphen) (file_word n p rows pending rs (45 ∷ []) rest plain_hyphen us c later2 later3)
idle_word n p rows pending rs word rest (other x xs e) u us c later later2 later3 awaited =
    parses_as _ ((x ∷ xs) ∷ rest) (left p) rs _ _ (plain_things (x ∷ xs) rest (plain_other x xs e))
    (file_word n p rows pending rs (x ∷ xs) rest (plain_other x xs e) us c later2 later3)
idle_word n p rows pending rs word rest (short y ys e) u us c later later2 later3 awaited =
    parses_as _ ((45 ∷ (y ∷ ys)) ∷ rest) (left p) rs _ None (short_things y ys rest e)
    (refused_now _ (45 ∷ (y ∷ ys)) rest (left p) rs None (short_turn n y ys rows pending e u) (none_fits (left p) rs))
idle_word n p rows pending rs word rest ends u us c later later2 later3 awaited =
    parses_as _ ((45 ∷ (45 ∷ [])) ∷ rest) (left p) rs _ _ (ends_things rest)
    (goes_on _ (at (held rows pending) idle n true) (45 ∷ (45 ∷ [])) rest (left p) rs (Some (map Names rest))
    (ends_turn (held rows pending) n) (ends_walk (held rows pending) n) (trailing idle n p rows pending rs rest c))
idle_word n p rows pending rs word rest (long z zs) u us c later later2 later3 awaited =
    parses_as _ ((45 ∷ (45 ∷ (z ∷ zs))) ∷ rest) (left p) rs _ _ (long_things z zs rest)
    (long_word (name_and_value (z ∷ zs)).0 (name_and_value (z ∷ zs)).1 n p rows pending rs (45 ∷ (45 ∷ (z ∷ zs))) rest c later awaited
    (long_turn_is (held rows pending) n z zs) (long_walk_is (held rows pending) n z zs) (asks (name_and_value (z ∷ zs)).0))

-- a word where an option waits for its value
value_word : (o : Named) (n : ℕ) (p : Place n) (rs : List Row) (word : Text) (rest : List Text) → IsPlain word → AreTexts rest → Later n p rest
    → Parses (at (held rs (Some (name_of o, []))) (option (name_of o)) n false) (word ∷ rest) (left p) rs (beside (Sets o word) (things_of None rest))
value_word o n p rs word rest pl us later =
    uses (Sets o word) (name_of o) _ (at (held rs (Some (name_of o, word ∷ []))) idle n false) word rest (left p) (left p) rs (rs ++ row (name_of o) word ∷ []) (things_of None rest)
    (value_turn (held rs (Some (name_of o, []))) (name_of o) n word pl) (value_walk o n rs word pl)
    (λ ts. refl) (λ ts. refl)
    (λ h. later rs (Some (name_of o, word ∷ [])) (rs ++ row (name_of o) word ∷ []) (option_pends o word rs h))
    (λ h. idle_doomed n p rs (Some (name_of o, word ∷ [])) rest us (option_doomed o word rs h))
    (has_row (name_of o) rs) refl

waiting_word : (o : Named) (n : ℕ) (p : Place n) (rs : List Row) (word : Text) (rest : List Text) → Form word → IsUtf8 word → AreTexts rest → Later n p rest
    → Parses (at (held rs (Some (name_of o, []))) (option (name_of o)) n false) (word ∷ rest) (left p) rs (things_of (Some o) (word ∷ rest))
waiting_word o n p rs word rest empty u us later =
    parses_as _ ([] ∷ rest) (left p) rs _ _ (value_things o [] rest plain_empty) (value_word o n p rs [] rest plain_empty us later)
waiting_word o n p rs word rest hyphen u us later =
    parses_as _ ((45 ∷ []) ∷ rest) (left p) rs _ _ (value_things o (45 ∷ []) rest plain_hyphen) (value_word o n p rs (45 ∷ []) rest plain_hyphen us later)
waiting_word o n p rs word rest (other x xs e) u us later =
    parses_as _ ((x ∷ xs) ∷ rest) (left p) rs _ _ (value_things o (x ∷ xs) rest (plain_other x xs e)) (value_word o n p rs (x ∷ xs) rest (plain_other x xs e) us later)
waiting_word o n p rs word rest (short y ys e) u us later =
    parses_as _ ((45 ∷ (y ∷ ys)) ∷ rest) (left p) rs _ None (short_no_value o y ys rest e)
    (refused_now _ (45 ∷ (y ∷ ys)) rest (left p) rs None (short_waiting (name_of o) n y ys rs (Some (name_of o, [])) e u) (none_fits (left p) rs))
waiting_word o n p rs word rest ends u us later =
    parses_as _ ((45 ∷ (45 ∷ [])) ∷ rest) (left p) rs _ None (ends_no_value o rest)
    (refused_later _ (at (held rs (Some (name_of o, []))) (option (name_of o)) n true) (45 ∷ (45 ∷ [])) rest (left p) rs None
    (ends_waiting (held rs (Some (name_of o, []))) (name_of o) n) (ends_walk_waiting (held rs (Some (name_of o, []))) (name_of o) n)
    (trailing_doomed (option (name_of o)) n (held rs (Some (name_of o, []))) rest p (awaiting_doomed o rs)) (none_fits (left p) rs))
waiting_word o n p rs word rest (long z zs) u us later =
    parses_as _ ((45 ∷ (45 ∷ (z ∷ zs))) ∷ rest) (left p) rs _ None (long_no_value o z zs rest)
    (refused_now _ (45 ∷ (45 ∷ (z ∷ zs))) rest (left p) rs None
    (ap is_quiet (long_waiting_is (held rs (Some (name_of o, []))) (name_of o) n z zs)
    ∙ long_doomed (option (name_of o)) n (45 ∷ (45 ∷ (z ∷ zs))) (name_and_value (z ∷ zs)).0 (name_and_value (z ∷ zs)).1 (held rs (Some (name_of o, []))) (awaiting_doomed o rs) (asks (name_and_value (z ∷ zs)).0))
    (none_fits (left p) rs))

mutual
  unfolding things_of walk_fault

  pub idle_parse : (n : ℕ) (p : Place n) (words : List Text) → AreTexts words → Later n p words
  idle_parse n p [] us rows pending rs c = ends_clean (at (held rows pending) idle n false) (left p) rs c
  idle_parse n p (word ∷ rest) us rows pending rs c =
      idle_word n p rows pending rs word rest (form word) us.0 us.1 c (idle_parse n p rest us.1) (idle_parse 2 second rest us.1) (idle_parse 3 behind rest us.1) (waiting_parse n p rest us.1)

  pub waiting_parse : (n : ℕ) (p : Place n) (words : List Text) → AreTexts words → Awaited n p words
  waiting_parse n p [] us o rs = refuses (quiet-or (settle_fault rules false (held rs (Some (name_of o, [])))) _ (awaiting_doomed o rs)) (none_fits (left p) rs)
  waiting_parse n p (word ∷ rest) us o rs = waiting_word o n p rs word rest (form word) us.0 us.1 (idle_parse n p rest us.1)
