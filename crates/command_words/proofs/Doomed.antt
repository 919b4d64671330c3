-- Where what is held can't be used, the parse is refused whatever words come.
use Rattle.std.proofs.Common.{◌≡◌, ◌∙◌, refl, ap, ℕ, true, false, List, [], ◌∷◌, Option, Some, None}
use Rattle.clap.specs.Words.{Text}
use Rattle.clap.specs.Walk.{Held, Waiting, value}
use Rattle.clap.specs.Faults.{turn_fault, step_fault, settle_fault, walk_fault}
use Rattle.command_words.specs.Words.{Named}
use Rattle.command_words.proofs.Rules.{rules, top, option_rule, flag_rule}
use Rattle.command_words.proofs.Faults.{is_quiet, quiet-or, fault, fault-next}
use Rattle.command_words.proofs.Turns.{at, long_turn}
use Rattle.command_words.proofs.States.{Doomed, c_turn, v_turn, no_third, trailing_turn}

-- the place of the next file: the first, the second, or behind both
pub data Place : ℕ → Type 0 where
  first : Place 1
  second : Place 2
  behind : Place 3

-- a word that goes to a file
pub file_doomed : (n : ℕ) (h : Held) → Place n → Doomed h → is_quiet (step_fault top n h value) ≡ false
file_doomed n h first d = ap is_quiet (c_turn h) ∙ d
file_doomed n h second d = ap is_quiet (v_turn h) ∙ d
file_doomed n h behind d = no_third h

-- behind `--` the next word goes to a file, and the end uses what is held
pub trailing_doomed : (w : Waiting) (n : ℕ) (h : Held) (rest : List Text) → Place n → Doomed h → is_quiet (fault (at h w n true) rest) ≡ false
unfolding walk_fault
trailing_doomed w n h [] p d = quiet-or (settle_fault rules false h) _ d
trailing_doomed w n h (word ∷ rest) p d =
    ap is_quiet (fault-next (at h w n true) word rest)
    ∙ quiet-or (turn_fault top [] (at h w n true) word) _ (ap is_quiet (trailing_turn h w n word) ∙ file_doomed n h p d)

-- a word with two hyphens
pub option_doomed_turn : (o : Named) (v : Option Text) (wt : Waiting) (n : ℕ) (word : Text) (h : Held) → Doomed h
    → is_quiet (long_turn (Some (option_rule o)) v wt n word h) ≡ false
option_doomed_turn o (Some v) wt n word h d = quiet-or _ _ (quiet-or (settle_fault rules false h) _ d)
option_doomed_turn o None wt n word h d = quiet-or (settle_fault rules false h) _ d

pub check_doomed_turn : (v : Option Text) (wt : Waiting) (n : ℕ) (word : Text) (h : Held) → Doomed h
    → is_quiet (long_turn (Some flag_rule) v wt n word h) ≡ false
check_doomed_turn (Some v) wt n word h d = refl
check_doomed_turn None wt n word h d = quiet-or _ _ (quiet-or (settle_fault rules false h) _ d)

pub unknown_turn : (v : Option Text) (wt : Waiting) (n : ℕ) (word : Text) (h : Held) → is_quiet (long_turn None v wt n word h) ≡ false
unknown_turn v wt n word h = refl
