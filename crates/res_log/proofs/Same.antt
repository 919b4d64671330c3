-- Resolution of other lists of the same sets.
use Rattle.std.proofs.Common.{◌≡◌, ℕ, eqb, Bool, true, false, not, ◌&&◌, ◌||◌, List, [], ◌∷◌, ◌++◌, length, Option, Some, None, cond, refl, sym, ap, ◌∙◌}
use Rattle.std.specs.Option.{option_and_then, is_some}
use Rattle.std.specs.List.{list_all}
use Rattle.std.specs.Cmp.{IsEquivalence}
use Rattle.std.proofs.lemmas.Bool.{and_parts}
use Rattle.clause_arena.specs.Clause.{Clause, Clauses, clause_at, lit, opposite, has, is_same, is_tautology, has_only, clash, without, resolve}
use Rattle.clause_arena.proofs.Sets.{passing, list_any-from_has, is_same-at, is_same-from, has-resolvent, bool_iff}
use Rattle.res_log.specs.declared.ChainStep.{ChainStep}
use Rattle.res_log.specs.Step.{Step}
use Rattle.res_log.specs.Log.{Book, chain, result_of, has_live_ids}

pub is_same-refl : (c : Clause) → is_same c c ≡ true
is_same-refl c = is_same-from c c (λ l. refl)

pub is_same-sym : (c d : Clause) → is_same c d ≡ true → is_same d c ≡ true
is_same-sym c d h = is_same-from d c (λ l. sym (is_same-at c d h l))

pub is_same-trans : (c d e : Clause) → is_same c d ≡ true → is_same d e ≡ true → is_same c e ≡ true
is_same-trans c d e h g = is_same-from c e (λ l. is_same-at c d h l ∙ is_same-at d e g l)

pub is_same-equiv : IsEquivalence is_same
is_same-equiv = record {
  refl = is_same-refl;
  symm = λ x y. bool_iff _ _ (is_same-sym x y) (is_same-sym y x);
  congr = λ x y z h. bool_iff _ _ (is_same-trans y x z (is_same-sym x y h)) (is_same-trans x y z h);
}

tautology-along : (c d : Clause) → is_same c d ≡ true → is_tautology c ≡ true → is_tautology d ≡ true
tautology-along c d h t =
    let w = passing (λ l. has c (opposite l)) c t in
    list_any-from_has (λ l. has d (opposite l)) d w.0 (sym (is_same-at c d h w.0) ∙ w.1) (sym (is_same-at c d h (opposite w.0)) ∙ w.2)

pub tautology-same : (c d : Clause) → is_same c d ≡ true → is_tautology c ≡ is_tautology d
tautology-same c d h = bool_iff _ _ (tautology-along c d h) (tautology-along d c (is_same-sym c d h))

has_only-same : (s : Bool) (c d : Clause) (v : ℕ) → is_same c d ≡ true → has_only s c v ≡ has_only s d v
has_only-same s c d v h =
    ap (λ (b : Bool). b && not (has c (lit (not s) v))) (is_same-at c d h (lit s v))
    ∙ ap (λ (b : Bool). has d (lit s v) && not b) (is_same-at c d h (lit (not s) v))

clash-same : (c d e f : Clause) (v : ℕ) → is_same c d ≡ true → is_same e f ≡ true → clash c e v ≡ clash d f v
clash-same c d e f v h g =
    let a = has_only-same false c d v h in
    let b = has_only-same true c d v h in
    let x = has_only-same false e f v g in
    let y = has_only-same true e f v g in
    cc

resolvent-same : (c d e f : Clause) (v : ℕ) → is_same c d ≡ true → is_same e f ≡ true → is_same (without v c ++ without v e) (without v d ++ without v f) ≡ true
resolvent-same c d e f v h g =
    is_same-from _ _ (λ l. has-resolvent c e v l
    ∙ ap (λ (b : Bool). (b || has e l) && not (eqb l.var v)) (is_same-at c d h l)
    ∙ ap (λ (b : Bool). (has d l || b) && not (eqb l.var v)) (is_same-at e f g l)
    ∙ sym (has-resolvent d f v l))

-- both none, or two lists of one set
abbrev pub SameOption : Option Clause → Option Clause → Type 0
SameOption None None = Unit {0}
SameOption None (Some d) = ⊥
SameOption (Some c) None = ⊥
SameOption (Some c) (Some d) = is_same c d ≡ true

abbrev pub SameBook : Book → Book → Type 0
SameBook a b = (id : ℕ) → SameOption (a id) (b id)

pub same-option-refl : (o : Option Clause) → SameOption o o
same-option-refl None = tt
same-option-refl (Some c) = is_same-refl c

when-same : (a b : Bool) (c d : Clause) → a ≡ b → is_same c d ≡ true → SameOption (cond a (Some c) None) (cond b (Some d) None)
when-same true true c d e h = h
when-same false false c d e h = tt
when-same true false c d e h = cc
when-same false true c d e h = cc

pub resolve-same : (c d e f : Clause) (v : ℕ) → is_same c d ≡ true → is_same e f ≡ true → SameOption (resolve c e v) (resolve d f v)
resolve-same c d e f v h g =
    let r = resolvent-same c d e f v h g in
    let a = clash-same c d e f v h g in
    let b = tautology-same (without v c ++ without v e) (without v d ++ without v f) r in
    when-same (clash c e v && not (is_tautology (without v c ++ without v e))) (clash d f v && not (is_tautology (without v d ++ without v f)))
    (without v c ++ without v e) (without v d ++ without v f) (cc) r

then-same : (f g : Clause → Option Clause) (o p : Option Clause) → SameOption o p → ((c d : Clause) → is_same c d ≡ true → SameOption (f c) (g d)) → SameOption (option_and_then f o) (option_and_then g p)
then-same f g None None h k = tt
then-same f g None (Some d) h k = absurd h
then-same f g (Some c) None h k = absurd h
then-same f g (Some c) (Some d) h k = k c d h

chain-same : (a b : Book) → SameBook a b → (xs : List ChainStep) (c d : Clause) → is_same c d ≡ true → SameOption (chain a xs c) (chain b xs d)
chain-same a b f [] c d h = h
chain-same a b f (x ∷ xs) c d h =
    then-same (λ e. option_and_then (chain a xs) (resolve c e x.pivot)) (λ e. option_and_then (chain b xs) (resolve d e x.pivot)) (a x.clause.0) (b x.clause.0) (f x.clause.0)
    (λ e g k. then-same (chain a xs) (chain b xs) (resolve c e x.pivot) (resolve d g x.pivot) (resolve-same c d e g x.pivot h k) (chain-same a b f xs))

unless-same : (b : Bool) (o p : Option Clause) → SameOption o p → SameOption (cond b None o) (cond b None p)
unless-same true o p h = tt
unless-same false o p h = h

pub result-same : (a b : Book) → SameBook a b → (s : Step) → SameOption (result_of a s) (result_of b s)
result-same a b f s =
    then-same (chain a s.rest) (chain b s.rest) (cond (eqb (length s.rest) 0) None (a s.first.0)) (cond (eqb (length s.rest) 0) None (b s.first.0))
    (unless-same (eqb (length s.rest) 0) (a s.first.0) (b s.first.0) (f s.first.0)) (chain-same a b f s.rest)

-- the live ids have lists of one set in both books
abbrev pub SameLive : Clauses → Book → Book → Type 0
SameLive arena a b = (id : ℕ) → is_some (clause_at arena id) ≡ true → SameOption (a id) (b id)

chain-live : (arena : Clauses) (a b : Book) → SameLive arena a b → (xs : List ChainStep) (c d : Clause) → list_all (λ x. is_some (clause_at arena x.clause.0)) xs ≡ true → is_same c d ≡ true → SameOption (chain a xs c) (chain b xs d)
chain-live arena a b f [] c d l h = h
chain-live arena a b f (x ∷ xs) c d l h =
    let w = and_parts _ _ l in
    then-same (λ e. option_and_then (chain a xs) (resolve c e x.pivot)) (λ e. option_and_then (chain b xs) (resolve d e x.pivot)) (a x.clause.0) (b x.clause.0) (f x.clause.0 w.0)
    (λ e g k. then-same (chain a xs) (chain b xs) (resolve c e x.pivot) (resolve d g x.pivot) (resolve-same c d e g x.pivot h k) (λ u v. chain-live arena a b f xs u v w.1))

pub result-live : (arena : Clauses) (a b : Book) → SameLive arena a b → (s : Step) → has_live_ids arena s ≡ true → SameOption (result_of a s) (result_of b s)
result-live arena a b f s l =
    let w = and_parts _ _ l in
    then-same (chain a s.rest) (chain b s.rest) (cond (eqb (length s.rest) 0) None (a s.first.0)) (cond (eqb (length s.rest) 0) None (b s.first.0))
    (unless-same (eqb (length s.rest) 0) (a s.first.0) (b s.first.0) (f s.first.0 (and_parts _ _ w.0).1)) (λ c d. chain-live arena a b f s.rest c d w.1)
