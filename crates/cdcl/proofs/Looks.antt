-- What a look at literals of a clause tells.
use Rattle.std.proofs.Common.{◌≡◌, ℕ, ◌<◌, true, false, not, ◌&&◌, List, length, get_or}
use Rattle.std.specs.List.{list_any}
use Rattle.std.proofs.lemmas.Bool.{and_from, or_left, or_right, not_from_false}
use Rattle.std.proofs.lemmas.List.Folds.{list_any_at}
use Rattle.clause_arena.specs.declared.Lit.{Lit}
use Rattle.clause_arena.specs.Clause.{Clause, opposite, has, lit_eq}
use Rattle.clause_arena.proofs.Sets.{lit_eq-refl, list_any-from_has}
use Rattle.res_log.specs.Partial.{is_free, is_quiet}

pub free-from : (p : List Lit) (x : Lit) → has p x ≡ false → has p (opposite x) ≡ false → is_free p x ≡ true
free-from p x a b = and_from _ _ (not_from_false _ a) (not_from_false _ b)

pub has-at : (c : Clause) (i : ℕ) (d : Lit) → i < length c → has c (get_or c i d) ≡ true
has-at c i d l = list_any_at (lit_eq (get_or c i d)) c i d l (lit_eq-refl (get_or c i d))

pub quiet-true : (p : List Lit) (c : Clause) (x : Lit) → has c x ≡ true → has p x ≡ true → is_quiet p c ≡ true
quiet-true p c x h t = or_left _ _ (list_any-from_has (has p) c x h t)

pub quiet-two : (p : List Lit) (c : Clause) (x y : Lit) → has c x ≡ true → has c y ≡ true → is_free p x ≡ true → is_free p y ≡ true → lit_eq y x ≡ false → is_quiet p c ≡ true
quiet-two p c x y hx hy fx fy n =
    or_right _ _ (list_any-from_has (λ l. is_free p l && list_any (λ m. is_free p m && not (lit_eq m l)) c) c x hx
    (and_from _ _ fx (list_any-from_has (λ m. is_free p m && not (lit_eq m x)) c y hy (and_from _ _ fy (not_from_false _ n)))))
