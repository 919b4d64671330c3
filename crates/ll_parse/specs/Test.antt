-- A test that computes whether a table is LL(1).
use Rattle.std.specs.Prelude.{ℕ, ◌+◌, ◌-◌, ◌*◌, Bool, true, false, cond, ◌&&◌, ◌||◌, List, [], ◌∷◌, length, slice_index, slice_index_or, nat_eq, nat_lt, nat_le}
use Rattle.std.proofs.Common.{suc, zero}
use Rattle.ll_parse.specs.Conditions.{steps_of, all_nullable, costs_of, tokens_of}
use Rattle.ll_parse.specs.Tables.{Lists, grammar_of, witness_of, rank_of, cost_of, nullable_of}

-- each number below n passes
abbrev pub all_below : ℕ → (ℕ → Bool) → Bool
all_below zero f = true
all_below (suc n) f = f n && all_below n f

-- where xs isn't 0, ys is v
abbrev pub only : ℕ → List ℕ → List ℕ → Bool
only v [] ys = true
only v (x ∷ xs) [] = nat_eq x 0 && only v xs []
only v (x ∷ xs) (y ∷ ys) = (nat_eq x 0 || nat_eq y v) && only v xs ys

-- where xs isn't 0, ys is v, but for the place `but`; the lists begin at the place i
abbrev pub only_but : ℕ → ℕ → ℕ → List ℕ → List ℕ → Bool
only_but v but i [] ys = true
only_but v but i (x ∷ xs) [] = (nat_eq x 0 || nat_eq i but) && only_but v but (suc i) xs []
only_but v but i (x ∷ xs) (y ∷ ys) = (nat_eq x 0 || nat_eq i but || nat_eq y v) && only_but v but (suc i) xs ys

-- for each kind of token, one more than the production that is picked for the nonterminal s, or 0
abbrev pub row_of : Lists → ℕ → List ℕ
row_of t s = slice_index_or t.rows (s - 256) []

-- which kinds may follow the nonterminal s: not 0 for these; place 0 stands for the end of the text
abbrev pub followers : Lists → ℕ → List ℕ
followers t s = slice_index_or t.follows (s - 256) []

-- where the symbol may begin, ys is v
abbrev pub first_only : Lists → ℕ → ℕ → List ℕ → Bool
first_only t v s ys = cond (nat_lt s 256) (nat_eq (slice_index ys s) v) (only v (row_of t s) ys)

-- the row of n picks production p wherever its body can come
abbrev pub is_picked : Lists → ℕ → ℕ → List ℕ → Bool
is_picked t n p [] = only_but (suc p) (slice_index t.not_before p) 0 (followers t n) (row_of t n)
is_picked t n p (x ∷ xs) = first_only t (suc p) x (row_of t n)

-- ys has all that may follow what stands before the rest of a body of n
abbrev pub has_followers : Lists → ℕ → List ℕ → List ℕ → Bool
has_followers t n [] ys = only 1 (followers t n) ys
has_followers t n (y ∷ _) ys = first_only t 1 y ys

-- in a body of n, what can come after a nonterminal is among its followers
abbrev pub is_linked : Lists → ℕ → List ℕ → Bool
is_linked t n [] = true
is_linked t n (x ∷ xs) = (nat_lt x 256 || has_followers t n xs (followers t x)) && is_linked t n xs

-- whether a number isn't in a list
abbrev pub is_none_of : ℕ → List ℕ → Bool
is_none_of a [] = true
is_none_of a (b ∷ bs) = cond (nat_eq a b) false (is_none_of a bs)

-- the witness of the nonterminal s is a production of the table whose head is s
abbrev pub has_witness : Lists → ℕ → Bool
has_witness t s = nat_lt (witness_of t s) (length t.heads) && nat_eq s (slice_index t.heads (witness_of t s))

-- the symbol is a kind that no production minds, or a nonterminal with a witness
abbrev pub can_end : Lists → ℕ → Bool
can_end t s = cond (nat_lt s 256) (is_none_of s t.not_before) (has_witness t s)

-- the same for each of these symbols
abbrev pub all_can_end : Lists → List ℕ → Bool
all_can_end t [] = true
all_can_end t (s ∷ ss) = can_end t s && all_can_end t ss

-- the same for each of these but the first
abbrev pub tail_can_end : Lists → List ℕ → Bool
tail_can_end t [] = true
tail_can_end t (s ∷ ss) = all_can_end t ss

-- the same for each, and nonterminals have ranks below r
abbrev pub all_can_end_below : Lists → ℕ → List ℕ → Bool
all_can_end_below t r [] = true
all_can_end_below t r (s ∷ ss) = (can_end t s && (nat_lt s 256 || nat_lt (rank_of t s) r)) && all_can_end_below t r ss

-- the body of production p
abbrev pub body_of : Lists → ℕ → List ℕ
body_of t p = (grammar_of t).body p

-- a use of a production of n, and what its body b costs, are paid by n and by the tokens that b stands for at least
abbrev pub pays : Lists → ℕ → List ℕ → Bool
pays t n b = nat_le (1 + costs_of (grammar_of t) (cost_of t) (nullable_of t) t.per_token b + t.per_token * cond (nullable_of t n) 0 1)
    (cost_of t n + t.per_token * tokens_of (grammar_of t) (cost_of t) (nullable_of t) t.per_token b)

-- production p keeps what LL(1) asks of it: it is picked wherever it can come, what comes after its symbols may, its
-- text can end, and it is paid for
abbrev pub is_production_fit : Lists → ℕ → Bool
is_production_fit t p =
    let n = slice_index t.heads p in
    let b = body_of t p in
    (nat_lt 255 n) && is_picked t n p b && is_linked t n b && tail_can_end t b
    && (cond (nat_eq p (witness_of t n)) (all_can_end_below t (rank_of t n) b) true)
    && nat_lt (steps_of (grammar_of t) (cost_of t) (nullable_of t) t.per_token b) (cost_of t n)
    && (cond (all_nullable (grammar_of t) (cost_of t) (nullable_of t) t.per_token b) (nullable_of t n) true)
    && pays t n b

-- the body of production p is a part of the table's symbols
abbrev pub is_body_inside : Lists → ℕ → Bool
is_body_inside t p = nat_le (slice_index t.bodies p) (slice_index t.bodies (p + 1)) && nat_le (slice_index t.bodies (p + 1)) (length t.symbols)

-- each production in the row is one for s that may be used there
abbrev pub is_row_fit : Lists → ℕ → ℕ → List ℕ → Bool
is_row_fit t s a [] = true
is_row_fit t s a (zero ∷ cs) = is_row_fit t s (suc a) cs
is_row_fit t s a (suc p ∷ cs) = (nat_lt p (length t.heads) && nat_eq s (slice_index t.heads p) && (cond (nat_eq a (slice_index t.not_before p)) false true)) && is_row_fit t s (suc a) cs

-- the same for the rows of all nonterminals from s on
abbrev pub are_rows_fit : Lists → ℕ → List (List ℕ) → Bool
are_rows_fit t s [] = true
are_rows_fit t s (r ∷ rs) = is_row_fit t s 0 r && are_rows_fit t (suc s) rs

-- the start symbol can end and may be followed by the end of the text, and the lists of productions have lengths that
-- fit
abbrev pub are_ends_fit : Lists → Bool
are_ends_fit t = nat_eq (slice_index (followers t t.start) 0) 1 && is_none_of 0 t.not_before && can_end t t.start && nat_eq (length t.bodies) (suc (length t.heads)) && nat_eq (length t.not_before) (length t.heads)

-- the table is LL(1)
abbrev pub is_ll : Lists → Bool
is_ll t = are_ends_fit t && are_rows_fit t 256 t.rows && all_below (length t.heads) (is_body_inside t) && all_below (length t.heads) (is_production_fit t)
