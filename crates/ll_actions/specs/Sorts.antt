-- The sorts of the values that actions take and give, and the test that a table's productions fit them. A stack is
-- written from the top down.
use Rattle.std.specs.Prelude.{ℕ, ◌-◌, Bool, true, false, cond, ◌&&◌, List, [], ◌∷◌, ◌++◌, length, slice_index, slice_index_or, nat_eq, nat_lt, option_map, option_and_then}
use Rattle.std.proofs.Common.{suc, zero}
use Rattle.std.specs.declared.option.Option.{Option}
use Rattle.std.specs.declared.option.Option.TheVariants.{None, Some}
use Rattle.ll_parse.specs.Tables.{Lists}
use Rattle.ll_parse.specs.Test.{all_below, body_of}
use Rattle.ll_actions.specs.declared.step.Step.{Step}

-- An action takes values of these sorts off the stack, the top one first, and puts one on it.
pub record Signature : Type 0 where
  pub takes : List ℕ
  pub gives : ℕ

-- A nonterminal's actions all together take these sorts off the stack, the top one first, and put those on it, the top
-- one first.
pub record Effect : Type 0 where
  pub takes : List ℕ
  pub gives : List ℕ

-- the signature of each action, by its number
abbrev pub signature_of : List Signature → ℕ → Signature
signature_of gs a = slice_index_or gs a (record { takes = []; gives = 0 })

-- the effect of each nonterminal, the first of which is 256
abbrev pub effect_of : List Effect → ℕ → Effect
effect_of es n = slice_index_or es (n - 256) (record { takes = []; gives = [] })

-- what is below these sorts, where they lie on top
abbrev pub taken : List ℕ → List ℕ → Option (List ℕ)
taken [] st = Some st
taken (x ∷ xs) [] = None
taken (x ∷ xs) (y ∷ ys) = cond (nat_eq x y) (taken xs ys) None

-- the sorts on the stack after an action, where it finds its own on top
abbrev pub after_action : Signature → List ℕ → Option (List ℕ)
after_action g st = option_map (λ rest. g.gives ∷ rest) (taken g.takes st)

-- The sorts on the stack after the steps, where each finds its own.
abbrev pub sorts_after : List Signature → List Step → List ℕ → Option (List ℕ)
sorts_after gs [] st = Some st
sorts_after gs (s ∷ ss) st = option_and_then (sorts_after gs ss) (after_action (signature_of gs s.action) st)

-- the same after all actions of a nonterminal
abbrev pub after_effect : Effect → List ℕ → Option (List ℕ)
after_effect e st = option_map (λ rest. e.gives ++ rest) (taken e.takes st)

-- the same after a symbol of a body; a token does nothing to the stack
abbrev pub after_symbol : List Effect → ℕ → List ℕ → Option (List ℕ)
after_symbol es s st = cond (nat_lt s 256) (Some st) (after_effect (effect_of es s) st)

-- the same after all symbols of a body, in order
abbrev pub after_body : List Effect → List ℕ → List ℕ → Option (List ℕ)
after_body es [] st = Some st
after_body es (s ∷ ss) st = option_and_then (after_body es ss) (after_symbol es s st)

-- the same after a production's action: 0 for none, or one more than its number
abbrev pub after_mark : List Signature → ℕ → List ℕ → Option (List ℕ)
after_mark gs zero st = Some st
after_mark gs (suc a) st = after_action (signature_of gs a) st

-- whether two lists have the same numbers
abbrev pub are_same : List ℕ → List ℕ → Bool
are_same [] [] = true
are_same [] (y ∷ ys) = false
are_same (x ∷ xs) [] = false
are_same (x ∷ xs) (y ∷ ys) = nat_eq x y && are_same xs ys

-- whether these sorts are what is left, where something is
abbrev pub is_stack : List ℕ → Option (List ℕ) → Bool
is_stack xs None = false
is_stack xs (Some ys) = are_same xs ys

-- The production's action, where it has one, and then its body turn what its head takes into what its head gives.
abbrev pub is_production_typed : Lists → List ℕ → List Signature → List Effect → ℕ → Bool
is_production_typed t marks gs es p =
    let e = effect_of es (slice_index t.heads p) in
    is_stack e.gives (option_and_then (after_body es (body_of t p)) (after_mark gs (slice_index marks p) e.takes))

-- The start symbol takes nothing and gives one value of this sort.
abbrev pub is_start_typed : Lists → List Effect → ℕ → Bool
is_start_typed t es sort = nat_lt 255 t.start && are_same (effect_of es t.start).takes [] && are_same (effect_of es t.start).gives (sort ∷ [])

-- each production has its head's effect, and a text gives one value of this sort
abbrev pub is_typed : Lists → List ℕ → List Signature → List Effect → ℕ → Bool
is_typed t marks gs es sort = is_start_typed t es sort && all_below (length t.heads) (is_production_typed t marks gs es)
