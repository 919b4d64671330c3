-- What one word does to a parse, by the form of the word.
use Rattle.std.proofs.Common.{◌≡◌, ◌∙◌, refl, ap, ℕ, Bool, true, false, List, [], ◌∷◌, Option, Some, None, if◌then◌else◌, ◌==◌}
use Rattle.clap.specs.Words.{Rule, Row, Text}
use Rattle.clap.specs.Walk.{Held, Walk, Waiting, Step, idle, option, trailing, value, walked, settled, reacted, arg_by_long, after_flag, after_step, long_met, long_or_other, short_or_plain}
use Rattle.clap.specs.Lexer.{long_of, short_of, name_and_value}
use Rattle.clap.specs.Kinds.{Kinds, or_else}
use Rattle.clap.specs.Faults.{turn_fault, long_fault, step_fault, settle_fault, use_fault, bundle_fault, flag_word_fault}
use Rattle.std.specs.Option.{option_map_or}
use Rattle.std.specs.Str.{bytes_eq}
use Rattle.command_words.specs.Words.{Named, Top, Bound, Unwind, UnwindSet, Budget, Decide, name_of, is_option}
use Rattle.command_words.proofs.Rules.{rules, top, option_rule, flag_rule}

-- the form of a word: whether it begins with hyphens, and what follows them
pub data Form : Text → Type 0 where
  empty : Form []
  other : (x : ℕ) (xs : Text) → (x == 45) ≡ false → Form (x ∷ xs)
  hyphen : Form (45 ∷ [])
  short : (y : ℕ) (ys : Text) → (y == 45) ≡ false → Form (45 ∷ (y ∷ ys))
  ends : Form (45 ∷ (45 ∷ []))
  long : (z : ℕ) (zs : Text) → Form (45 ∷ (45 ∷ (z ∷ zs)))

-- what is held before a word
abbrev pub held : List Row → Option (Text × List Text) → Held
held rows pending = record { rows = rows; pending = pending; skip = 0 }

abbrev pub at : Held → Waiting → ℕ → Bool → Walk
at h waiting position is_trailing =
    record { held = h; waiting = waiting; position = position; is_trailing = is_trailing; stopped = None }

-- `--`
pub ends_turn : (h : Held) (n : ℕ) → turn_fault top [] (at h idle n false) (45 ∷ (45 ∷ [])) ≡ []
ends_turn h n = refl

pub ends_waiting : (h : Held) (id : Text) (n : ℕ) → turn_fault top [] (at h (option id) n false) (45 ∷ (45 ∷ [])) ≡ []
ends_waiting h id n = refl

pub ends_walk : (h : Held) (n : ℕ) → walked rules [] (at h idle n false) (45 ∷ (45 ∷ [])) ≡ at h idle n true
unfolding walked
ends_walk h n = refl

pub ends_walk_waiting : (h : Held) (id : Text) (n : ℕ) → walked rules [] (at h (option id) n false) (45 ∷ (45 ∷ [])) ≡ at h (option id) n true
unfolding walked
ends_walk_waiting h id n = refl

-- `--name` or `--name=value`
abbrev pub long_turn : Option Rule → Option Text → Waiting → ℕ → Text → Held → Kinds
long_turn found v waiting n word h =
    let met = long_met rules found v h in
    or_else (long_fault rules false found v h) (step_fault top n (after_flag rules waiting word met.0 met.1).0 (after_flag rules waiting word met.0 met.1).1)

abbrev pub long_walk : Option Rule → Option Text → Waiting → ℕ → Text → Held → Walk
long_walk found v waiting n word h =
    let met = long_met rules found v h in
    after_step rules word (at h waiting n false) (after_flag rules waiting word met.0 met.1).0 (after_flag rules waiting word met.0 met.1).1

pub long_turn_is : (h : Held) (n : ℕ) (z : ℕ) (zs : Text) → turn_fault top [] (at h idle n false) (45 ∷ (45 ∷ (z ∷ zs)))
    ≡ long_turn (arg_by_long rules (name_and_value (z ∷ zs)).0) (name_and_value (z ∷ zs)).1 idle n (45 ∷ (45 ∷ (z ∷ zs))) h
long_turn_is h n z zs = refl

pub long_waiting_is : (h : Held) (id : Text) (n : ℕ) (z : ℕ) (zs : Text) → turn_fault top [] (at h (option id) n false) (45 ∷ (45 ∷ (z ∷ zs)))
    ≡ long_turn (arg_by_long rules (name_and_value (z ∷ zs)).0) (name_and_value (z ∷ zs)).1 (option id) n (45 ∷ (45 ∷ (z ∷ zs))) h
long_waiting_is h id n z zs = refl

pub long_walk_is : (h : Held) (n : ℕ) (z : ℕ) (zs : Text) → walked rules [] (at h idle n false) (45 ∷ (45 ∷ (z ∷ zs)))
    ≡ long_walk (arg_by_long rules (name_and_value (z ∷ zs)).0) (name_and_value (z ∷ zs)).1 idle n (45 ∷ (45 ∷ (z ∷ zs))) h
unfolding walked
long_walk_is h n z zs = refl

-- an option with its value in the word: it is used
pub set_turn : (o : Named) (v word : Text) (n : ℕ) (h : Held)
    → long_turn (Some (option_rule o)) (Some v) idle n word h ≡ or_else (or_else (settle_fault rules false h) (use_fault false (option_rule o) (v ∷ []) (settled rules h).rows)) []
set_turn o v word n h = refl

pub set_walk : (o : Named) (v word : Text) (n : ℕ) (h : Held)
    → long_walk (Some (option_rule o)) (Some v) idle n word h ≡ at (reacted rules (option_rule o) (v ∷ []) h) idle n false
set_walk o v word n h = refl

-- an option whose value has to come
pub await_turn : (o : Named) (word : Text) (n : ℕ) (h : Held)
    → long_turn (Some (option_rule o)) None idle n word h ≡ or_else (settle_fault rules false h) []
await_turn o word n h = refl

pub await_walk : (o : Named) (word : Text) (n : ℕ) (rows : List Row) (p : Option (Text × List Text))
    → long_walk (Some (option_rule o)) None idle n word (held rows p) ≡ at (held (settled rules (held rows p)).rows (Some (name_of o, []))) (option (name_of o)) n false
await_walk o word n rows p = refl

-- `--check-bound`
pub check_turn : (word : Text) (n : ℕ) (h : Held)
    → long_turn (Some flag_rule) None idle n word h ≡ or_else (or_else (settle_fault rules false h) (use_fault false flag_rule [] (settled rules h).rows)) []
check_turn word n h = refl

pub check_walk : (word : Text) (n : ℕ) (h : Held) → long_walk (Some flag_rule) None idle n word h ≡ at (reacted rules flag_rule [] h) idle n false
check_walk word n h = refl

-- a word, by what is read of it: whether it is `--`, what follows two hyphens, and what follows one

abbrev pub met_by_end : Option (Text × Option Text) → Waiting → ℕ → Text → Held → Bool → Held × Step
met_by_end l waiting n word h e = if e then (h, trailing n) else long_or_other rules waiting word l h

abbrev pub turn_by_end : Waiting → ℕ → Text → Held → Bool → Kinds
turn_by_end waiting n word h e =
    or_else (if e then [] else flag_word_fault rules false (long_of word) word h)
    (step_fault top n (met_by_end (long_of word) waiting n word h e).0 (met_by_end (long_of word) waiting n word h e).1)

abbrev pub walk_by_end : Waiting → ℕ → Text → Held → Bool → Walk
walk_by_end waiting n word h e =
    after_step rules word (at h waiting n false) (met_by_end (long_of word) waiting n word h e).0 (met_by_end (long_of word) waiting n word h e).1

abbrev pub turn_by_long : Waiting → ℕ → Text → Held → Option (Text × Option Text) → Kinds
turn_by_long waiting n word h l =
    or_else (flag_word_fault rules false l word h) (step_fault top n (long_or_other rules waiting word l h).0 (long_or_other rules waiting word l h).1)

abbrev pub walk_by_long : Waiting → ℕ → Text → Held → Option (Text × Option Text) → Walk
walk_by_long waiting n word h l =
    after_step rules word (at h waiting n false) (long_or_other rules waiting word l h).0 (long_or_other rules waiting word l h).1

abbrev pub turn_by_short : Waiting → ℕ → Text → Held → Option Text → Kinds
turn_by_short waiting n word h s =
    or_else (option_map_or (λ flags. bundle_fault rules false flags h) s [])
    (step_fault top n (short_or_plain rules waiting word s h).0 (short_or_plain rules waiting word s h).1)

abbrev pub walk_by_short : Waiting → ℕ → Text → Held → Option Text → Walk
walk_by_short waiting n word h s =
    after_step rules word (at h waiting n false) (short_or_plain rules waiting word s h).0 (short_or_plain rules waiting word s h).1

abbrev pub is_ends : Text → Bool
is_ends word = bytes_eq word (45 ∷ (45 ∷ []))

-- the word isn't read as a flag
pub record IsPlain (word : Text) : Type 0 where
  pub no_end : is_ends word ≡ false
  pub no_long : long_of word ≡ None
  pub no_short : short_of word ≡ None
  pub asks_nothing : is_option word ≡ false

pub turn_split : (h : Held) (n : ℕ) (word : Text) → turn_fault top [] (at h idle n false) word ≡ turn_by_end idle n word h (is_ends word)
turn_split h n word = refl

pub turn_split_waiting : (h : Held) (id : Text) (n : ℕ) (word : Text) → turn_fault top [] (at h (option id) n false) word ≡ turn_by_end (option id) n word h (is_ends word)
turn_split_waiting h id n word = refl

walk_split : (h : Held) (n : ℕ) (word : Text) → walked rules [] (at h idle n false) word ≡ walk_by_end idle n word h (is_ends word)
unfolding walked
walk_split h n word = refl

walk_split_waiting : (h : Held) (id : Text) (n : ℕ) (word : Text) → walked rules [] (at h (option id) n false) word ≡ walk_by_end (option id) n word h (is_ends word)
unfolding walked
walk_split_waiting h id n word = refl

-- where it is none of them it goes to what waits
plain_by : (waiting : Waiting) (n : ℕ) (word : Text) (h : Held) → IsPlain word
    → (turn_by_end waiting n word h (is_ends word) ≡ turn_by_short waiting n word h None)
    × (walk_by_end waiting n word h (is_ends word) ≡ walk_by_short waiting n word h None)
plain_by waiting n word h p = (
  ap (turn_by_end waiting n word h) p.no_end ∙ ap (turn_by_long waiting n word h) p.no_long ∙ ap (turn_by_short waiting n word h) p.no_short,
  ap (walk_by_end waiting n word h) p.no_end ∙ ap (walk_by_long waiting n word h) p.no_long ∙ ap (walk_by_short waiting n word h) p.no_short,
)

pub plain_turn : (h : Held) (n : ℕ) (word : Text) → IsPlain word → turn_fault top [] (at h idle n false) word ≡ step_fault top n h value
plain_turn h n word p = turn_split h n word ∙ (plain_by idle n word h p).0

pub plain_walk : (h : Held) (n : ℕ) (word : Text) → IsPlain word → walked rules [] (at h idle n false) word ≡ after_step rules word (at h idle n false) h value
plain_walk h n word p = walk_split h n word ∙ (plain_by idle n word h p).1

pub value_turn : (h : Held) (id : Text) (n : ℕ) (word : Text) → IsPlain word → turn_fault top [] (at h (option id) n false) word ≡ []
value_turn h id n word p = turn_split_waiting h id n word ∙ (plain_by (option id) n word h p).0

pub value_walk : (o : Named) (n : ℕ) (rows : List Row) (word : Text) → IsPlain word
    → walked rules [] (at (held rows (Some (name_of o, []))) (option (name_of o)) n false) word
    ≡ at (held rows (Some (name_of o, word ∷ []))) idle n false
value_walk o n rows word p =
    walk_split_waiting _ (name_of o) n word ∙ (plain_by (option (name_of o)) n word (held rows (Some (name_of o, []))) p).1 ∙ by_option o
  where
    by_option : (o : Named) → walk_by_short (option (name_of o)) n word (held rows (Some (name_of o, []))) None ≡ at (held rows (Some (name_of o, word ∷ []))) idle n false
    by_option Top = refl
    by_option Bound = refl
    by_option Unwind = refl
    by_option UnwindSet = refl
    by_option Budget = refl
    by_option Decide = refl
