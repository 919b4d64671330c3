-- The token that an action comes right after, and the test that a table's actions come after what is claimed.
use Rattle.std.specs.Prelude.{◌≡◌, ℕ, ◌-◌, ◌<◌, ◌≤◌, Bool, true, false, cond, ◌&&◌, ◌||◌, List, [], ◌∷◌, length, slice_index, slice_index_or, nat_eq, nat_lt}
use Rattle.std.proofs.Common.{suc, zero}
use Rattle.ll_parse.specs.Tables.{Lists}
use Rattle.ll_parse.specs.Test.{all_below, body_of}
use Rattle.ll_actions.specs.declared.step.Step.{Step}

-- the kinds of token that each action comes right after, or none where nothing is claimed
abbrev pub kinds_before : List (List ℕ) → ℕ → List ℕ
kinds_before after a = slice_index_or after a []

-- whether a kind is one of these
abbrev pub is_among : ℕ → List ℕ → Bool
is_among k [] = false
is_among k (x ∷ xs) = nat_eq k x || is_among k xs

-- With i tokens before it, the last of which is of one of these kinds, if there are any.
abbrev pub IsAfter : List ℕ → List ℕ → ℕ → Type 0
IsAfter [] tokens i = Unit {0}
IsAfter (k ∷ ks) tokens i = (0 < i) × (is_among (slice_index tokens (i - 1)) (k ∷ ks) ≡ true)

-- a step of a text with tokens of these kinds stands within them, and right after what its action comes after
pub record IsPlaced (after : List (List ℕ)) (tokens : List ℕ) (s : Step) : Type 0 where
  pub within : s.token ≤ length tokens
  pub comes_after : IsAfter (kinds_before after s.action) tokens s.token

-- each body that the nonterminal n may have ends in a token of one of these kinds
abbrev pub is_last_among : List ℕ → List ℕ → Bool
is_last_among kinds [] = false
is_last_among kinds (x ∷ []) = nat_lt x 256 && is_among x kinds
is_last_among kinds (x ∷ y ∷ ys) = is_last_among kinds (y ∷ ys)

-- each body of the nonterminal n ends in a token of one of these kinds
abbrev pub does_end_in : Lists → List ℕ → ℕ → Bool
does_end_in t kinds n = all_below (length t.heads) (λ p. cond (nat_eq (slice_index t.heads p) n) (is_last_among kinds (body_of t p)) true)

-- the kinds that a symbol comes after, or none where nothing is claimed; a spot is 0 or one more than an action
abbrev pub kinds_at : List (List ℕ) → ℕ → List ℕ
kinds_at after zero = []
kinds_at after (suc a) = kinds_before after a

-- the kinds that the symbol s comes after, by the spot of a nonterminal; nothing is claimed of a token
abbrev pub kinds_of : List (List ℕ) → List ℕ → ℕ → List ℕ
kinds_of after spots s = cond (nat_lt s 256) [] (kinds_at after (slice_index spots (s - 256)))

-- whether kinds are claimed
abbrev pub is_claimed : List ℕ → Bool
is_claimed [] = false
is_claimed (k ∷ ks) = true

-- what comes right after the symbol x comes after a token of these kinds
abbrev pub does_lead_to : Lists → List ℕ → ℕ → Bool
does_lead_to t [] x = true
does_lead_to t (k ∷ ks) x = cond (nat_lt x 256) (is_among x (k ∷ ks)) (does_end_in t (k ∷ ks) x)

-- each of the symbols after x comes after a token that it may come after, which the symbol before it tells
abbrev pub do_follow : Lists → List (List ℕ) → List ℕ → ℕ → List ℕ → Bool
do_follow t after spots x [] = true
do_follow t after spots x (y ∷ ys) = does_lead_to t (kinds_of after spots y) x && do_follow t after spots y ys

-- nothing is claimed of the first symbol of a body, and each later one comes after what is claimed of it
abbrev pub is_body_placed : Lists → List (List ℕ) → List ℕ → List ℕ → Bool
is_body_placed t after spots [] = true
is_body_placed t after spots (x ∷ xs) = cond (is_claimed (kinds_of after spots x)) false (do_follow t after spots x xs)

-- a production with a claimed action is one for the action's spot
abbrev pub is_mark_placed : List (List ℕ) → List ℕ → ℕ → ℕ → Bool
is_mark_placed after spots s zero = true
is_mark_placed after spots s (suc a) = cond (is_claimed (kinds_before after a)) (nat_eq (slice_index spots (s - 256)) (suc a)) true

-- the body and the action of production p are placed so
abbrev pub is_production_placed : Lists → List ℕ → List (List ℕ) → List ℕ → ℕ → Bool
is_production_placed t marks after spots p = is_body_placed t after spots (body_of t p) && is_mark_placed after spots (slice_index t.heads p) (slice_index marks p)

-- each action comes right after a token of one of its kinds
abbrev pub are_placed : Lists → List ℕ → List (List ℕ) → List ℕ → Bool
are_placed t marks after spots = cond (is_claimed (kinds_of after spots t.start)) false (all_below (length t.heads) (is_production_placed t marks after spots))
