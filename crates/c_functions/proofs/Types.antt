-- Comparing lists of types, one after another.
use Rattle.std.proofs.Common.{◌≡◌, ℕ, zero, suc, ◌+◌, ◌<◌, ◌≤◌, ◌-◌, List, [], ◌∷◌, length, drop, get_or, false, refl, sym, ap, ◌∙◌, arith}
use Rattle.std.specs.Prelude.{◌⊎◌, ◌&&◌, eqb}
use Rattle.std.proofs.Common.{inl, inr}
use Rattle.std.proofs.lemmas.Bool.Decides.{nat_tests}
use Rattle.std.proofs.lemmas.List.{drop_more}
use Rattle.joint_ir.specs.declared.ctype.IntType.{IntType}
use Rattle.c_words.specs.Types.{same_type}
use Rattle.c_functions.specs.Heads.{same_types}

-- a place at which both have a type
pub same_next : (a b : List IntType) (i : ℕ) (t u : IntType) → i < length a → i < length b → t ≡ get_or a i t → u ≡ get_or b i u →
    same_types (drop i a) (drop i b) ≡ (same_type t u && same_types (drop (i + 1) a) (drop (i + 1) b))
same_next a b i t u lt lt' is_t is_u =
    ap (λ l. same_types l (drop i b)) (drop_more a i t lt ∙ ap (λ z. z ∷ drop (i + 1) a) (sym is_t))
    ∙ ap (λ l. same_types (t ∷ drop (i + 1) a) l) (drop_more b i u lt' ∙ ap (λ z. z ∷ drop (i + 1) b) (sym is_u))

none_left : (a : List IntType) (i : ℕ) → length a ≤ i → drop i a ≡ []
none_left [] zero h = refl
none_left [] (suc i) h = refl
none_left (t ∷ a) zero h = absurd (omega arith)
none_left (t ∷ a) (suc i) h = none_left a i (omega arith)

some_left : (a : List IntType) (i : ℕ) → length (drop i a) ≡ length a - i
some_left [] zero = refl
some_left [] (suc i) = omega arith
some_left (t ∷ a) zero = omega arith
some_left (t ∷ a) (suc i) = some_left a i ∙ omega arith

shorter : (a b : List IntType) → length a ≡ 0 ⊎ length b ≡ 0 → same_types a b ≡ eqb (length a) (length b)
shorter [] [] h = refl
shorter [] (u ∷ b) h = no_suc (length b)
  where
    no_suc : (n : ℕ) → false ≡ eqb 0 (suc n)
    no_suc n = grind (arith, nat_tests)
shorter (t ∷ a) [] h = suc_no (length a)
  where
    suc_no : (n : ℕ) → false ≡ eqb (suc n) 0
    suc_no n = grind (arith, nat_tests)
shorter (t ∷ a) (u ∷ b) (inl h) = absurd (omega arith)
shorter (t ∷ a) (u ∷ b) (inr h) = absurd (omega arith)

-- where one of them is at its end, they are the same if they are of one length
pub same_ends : (a b : List IntType) (i : ℕ) → i ≤ length a → i ≤ length b → (length a ≤ i) ⊎ (length b ≤ i) → same_types (drop i a) (drop i b) ≡ eqb (length a) (length b)
same_ends a b i ha hb h =
    shorter (drop i a) (drop i b) (elim h [ inl e ↦ inl (some_left a i ∙ omega arith) | inr e ↦ inr (some_left b i ∙ omega arith) ])
    ∙ ap (λ n. eqb n (length (drop i b))) (some_left a i) ∙ ap (λ n. eqb (length a - i) n) (some_left b i)
    ∙ same_rest (length a) (length b) i ha hb
  where
    same_rest : (m n i : ℕ) → i ≤ m → i ≤ n → eqb (m - i) (n - i) ≡ eqb m n
    same_rest m n i h g = grind (arith, nat_tests)
