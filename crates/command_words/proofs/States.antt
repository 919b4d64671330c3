-- What is held between two words: it may be used, or the parse is refused whatever comes.
use Rattle.std.proofs.Common.{◌≡◌, ◌∙◌, ◌++◌, refl, ap, ℕ, Bool, true, false, List, [], ◌∷◌, Option, Some, None, if◌then◌else◌, ◌&&◌, codes}
use Rattle.std.specs.Option.{option_map_or}
use Rattle.clap.specs.Words.{Row, Text}
use Rattle.clap.specs.Walk.{Held, Waiting, idle, value, walked, settled, pushed, used_by_id, is_pending, after_step, has_row}
use Rattle.clap.specs.Faults.{turn_fault, step_fault, settle_fault, use_fault}
use Rattle.command_words.specs.Words.{Named, Top, Bound, Unwind, UnwindSet, Budget, Decide, name_of}
use Rattle.command_words.proofs.Rules.{rules, top, c_rule, v_rule, option_by_id}
use Rattle.command_words.proofs.Faults.{is_quiet}
use Rattle.command_words.proofs.Rows.{row, conflict, use_option, use_c, use_v, used_option, used_c, used_v}
use Rattle.command_words.proofs.Turns.{held, at}

-- what is held may be used, and the rows are these then
pub record Clean (h : Held) (rows : List Row) : Type 0 where
  pub quiet : settle_fault rules false h ≡ []
  pub settled_is : (settled rules h).rows ≡ rows

abbrev pub Doomed : Held → Type 0
Doomed h = is_quiet (settle_fault rules false h) ≡ false

pub nothing_pends : (rows : List Row) → Clean (held rows None) rows
nothing_pends rows = record { quiet = refl; settled_is = refl }

-- an option that has its value
option_fault : (o : Named) (v : Text) (rows : List Row) → settle_fault rules false (held rows (Some (name_of o, v ∷ []))) ≡ conflict (has_row (name_of o) rows)
option_fault o v rows = ap (λ f. option_map_or (λ a. use_fault false a (v ∷ []) rows) f []) (option_by_id o) ∙ use_option o v rows

pub option_pends : (o : Named) (v : Text) (rows : List Row) → has_row (name_of o) rows ≡ false
    → Clean (held rows (Some (name_of o, v ∷ []))) (rows ++ row (name_of o) v ∷ [])
option_pends o v rows h = record {
  quiet = option_fault o v rows ∙ ap conflict h;
  settled_is = ap (λ f. used_by_id f (v ∷ []) rows) (option_by_id o) ∙ used_option o v rows h;
}

pub option_doomed : (o : Named) (v : Text) (rows : List Row) → has_row (name_of o) rows ≡ true → Doomed (held rows (Some (name_of o, v ∷ [])))
option_doomed o v rows h = ap is_quiet (option_fault o v rows ∙ ap conflict h)

-- an option that has no value yet can't be used
pub awaiting_doomed : (o : Named) (rows : List Row) → Doomed (held rows (Some (name_of o, [])))
awaiting_doomed Top rows = refl
awaiting_doomed Bound rows = refl
awaiting_doomed Unwind rows = refl
awaiting_doomed UnwindSet rows = refl
awaiting_doomed Budget rows = refl
awaiting_doomed Decide rows = refl

-- a file that is named
pub c_pends : (v : Text) (rows : List Row) → has_row (codes "c-file") rows ≡ false
    → Clean (held rows (Some (codes "c-file", v ∷ []))) (rows ++ row (codes "c-file") v ∷ [])
c_pends v rows h = record { quiet = use_c v rows ∙ ap conflict h; settled_is = used_c v rows h }

pub c_doomed : (v : Text) (rows : List Row) → has_row (codes "c-file") rows ≡ true → Doomed (held rows (Some (codes "c-file", v ∷ [])))
c_doomed v rows h = ap is_quiet (use_c v rows ∙ ap conflict h)

pub v_pends : (v : Text) (rows : List Row) → has_row (codes "v-file") rows ≡ false
    → Clean (held rows (Some (codes "v-file", v ∷ []))) (rows ++ row (codes "v-file") v ∷ [])
v_pends v rows h = record { quiet = use_v v rows ∙ ap conflict h; settled_is = used_v v rows h }

pub v_doomed : (v : Text) (rows : List Row) → has_row (codes "v-file") rows ≡ true → Doomed (held rows (Some (codes "v-file", v ∷ [])))
v_doomed v rows h = ap is_quiet (use_v v rows ∙ ap conflict h)

-- a word for a file
and-false : (b : Bool) {X : Type 0} (x y : X) → (if b && false then x else y) ≡ y
and-false true x y = refl
and-false false x y = refl

pub c_turn : (h : Held) → step_fault top 1 h value ≡ settle_fault rules false h
c_turn h = and-false (is_pending c_rule h.pending) [] (settle_fault rules false h)

pub v_turn : (h : Held) → step_fault top 2 h value ≡ settle_fault rules false h
v_turn h = and-false (is_pending v_rule h.pending) [] (settle_fault rules false h)

pub no_third : (h : Held) → is_quiet (step_fault top 3 h value) ≡ false
no_third h = refl

pub trailing_turn : (h : Held) (w : Waiting) (n : ℕ) (word : Text) → turn_fault top [] (at h w n true) word ≡ step_fault top n h value
trailing_turn h w n word = refl

pub trailing_walk : (h : Held) (w : Waiting) (n : ℕ) (word : Text) → walked rules [] (at h w n true) word ≡ after_step rules word (at h w n true) h value
unfolding walked
trailing_walk h w n word = refl

-- the file waits behind its word
pub c_walk : (w : Waiting) (rows : List Row) (p : Option (Text × List Text)) (word : Text)
    → (after_step rules word (at (held rows p) w 1 false) (held rows p) value ≡ at (held (settled rules (held rows p)).rows (Some (codes "c-file", word ∷ []))) idle 2 false)
    × (after_step rules word (at (held rows p) w 1 true) (held rows p) value ≡ at (held (settled rules (held rows p)).rows (Some (codes "c-file", word ∷ []))) idle 2 true)
c_walk w rows p word = (
  ap (λ k. at (pushed (codes "c-file") word k) idle 2 false) (and-false (is_pending c_rule p) (held rows p) (settled rules (held rows p))),
  ap (λ k. at (pushed (codes "c-file") word k) idle 2 true) (and-false (is_pending c_rule p) (held rows p) (settled rules (held rows p))),
)

pub v_walk : (w : Waiting) (rows : List Row) (p : Option (Text × List Text)) (word : Text)
    → (after_step rules word (at (held rows p) w 2 false) (held rows p) value ≡ at (held (settled rules (held rows p)).rows (Some (codes "v-file", word ∷ []))) idle 3 false)
    × (after_step rules word (at (held rows p) w 2 true) (held rows p) value ≡ at (held (settled rules (held rows p)).rows (Some (codes "v-file", word ∷ []))) idle 3 true)
v_walk w rows p word = (
  ap (λ k. at (pushed (codes "v-file") word k) idle 3 false) (and-false (is_pending v_rule p) (held rows p) (settled rules (held rows p))),
  ap (λ k. at (pushed (codes "v-file") word k) idle 3 true) (and-false (is_pending v_rule p) (held rows p) (settled rules (held rows p))),
)
