-- What a search of a clause for a literal to watch finds.
use Rattle.std.proofs.Common.{◌≡◌, ℕ, true, false, ◌||◌, inl, inr, length, get_or, List, sym, ap, ◌∙◌, arith}
use Rattle.std.specs.List.{list_all}
use Rattle.std.proofs.lemmas.Bool.{and_from, or_cases, cases_lt, not_from_false}
use Rattle.clause_arena.specs.declared.Lit.{Lit}
use Rattle.clause_arena.specs.Clause.{Clause, has, lit_eq, opposite}
use Rattle.clause_arena.proofs.Sets.{list_all-at, list_all-from_has, lit_eq-true}
use Rattle.res_log.specs.Partial.{is_false, is_free, is_forced}
use Rattle.cdcl.specs.Watched.{AreFalseBut, IsOpenPlace}
use Rattle.cdcl.proofs.Looks.{has-at}
use Rattle.cdcl.proofs.Back.{place-of}

-- the literal at an open place is one to move to
pub open-moves : (p : List Lit) (c : Clause) (other z : Lit) (i : ℕ) → IsOpenPlace p c other i → z ≡ get_or c i z → (has c z ≡ true) × (has p (opposite z) ≡ false) × (lit_eq z other ≡ false)
open-moves p c other z i g e = (
  ap (has c) e ∙ has-at c i z g.0,
  ap (λ (x : Lit). has p (opposite x)) e ∙ g.2 z,
  ap (λ (x : Lit). lit_eq x other) e ∙ g.1 z,
)

-- both parts were gone through
pub all-but : (p : List Lit) (c : Clause) (other : Lit) (m : ℕ) → AreFalseBut p c other m (length c) → AreFalseBut p c other 0 m → list_all (λ x. lit_eq x other || has p (opposite x)) c ≡ true
all-but p c other m f g =
    list_all-from_has (λ x. lit_eq x other || has p (opposite x)) c (λ x h.
    let w = place-of c x h in
    ap (λ (y : Lit). lit_eq y other || has p (opposite y)) (sym (w.2 x))
    ∙ elim (cases_lt w.0 m) [ inl a ↦ g w.0 x (omega arith) a | inr a ↦ f w.0 x a w.1 ])

pub falsified-all : (p : List Lit) (c : Clause) (other : Lit) → list_all (λ x. lit_eq x other || has p (opposite x)) c ≡ true → has p (opposite other) ≡ true → is_false p c ≡ true
falsified-all p c other f t =
    list_all-from_has (λ x. has p (opposite x)) c (λ x h.
    elim (or_cases (lit_eq x other) (has p (opposite x)) (list_all-at (λ y. lit_eq y other || has p (opposite y)) c f x h)) [
      | inl a ↦ ap (λ (y : Lit). has p (opposite y)) (lit_eq-true x other a) ∙ t
      | inr a ↦ a
    ])

pub forces-one : (p : List Lit) (c : Clause) (other : Lit) → list_all (λ x. lit_eq x other || has p (opposite x)) c ≡ true → has c other ≡ true → has p other ≡ false → has p (opposite other) ≡ false → (is_free p other ≡ true) × (is_forced p other c ≡ true)
forces-one p c other f h a b = (and_from _ _ (not_from_false _ a) (not_from_false _ b), and_from _ _ h f)
