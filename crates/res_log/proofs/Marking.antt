-- Marks and the clauses that they stand for.
use Rattle.std.proofs.Common.{inl, inr, ◌≡◌, ℕ, suc, zero, ◌+◌, ◌<◌, Bool, true, false, not, ◌&&◌, ◌||◌, [], ◌∷◌, ◌++◌, Option, Some, None, length, take, drop, get_or, eqb, cond, refl, sym, ◌∙◌, ap, subst, arith, append_assoc, append-nil}
use Rattle.std.specs.List.{list_any, list_all, count_by}
use Rattle.std.specs.Bool.{MatchBool}
use Rattle.std.specs.Option.{is_some, option_map_or, IsSomeAnd}
use Rattle.std.proofs.lemmas.Bool.{cases_Bool, both_ways, false_from_ne_true, false≢true, or_left, or_right, and_from, and_parts, not_from_false, not_from_true, ne_eqb, eq-eqb, eqb-true, cond-true, cond-false, and_left, and_right, or_from}
use Rattle.std.proofs.lemmas.List.{take_more, take-append-drop}
use Rattle.std.proofs.lemmas.List.Sums.{sum_by-cons}
use Rattle.std.proofs.lemmas.List.Folds.{list_any_at, list_any_more}
use Rattle.std.proofs.lemmas.List.Elements.{filter_more}
use Rattle.clause_arena.specs.declared.Lit.{Lit}
use Rattle.clause_arena.specs.Clause.{Clause, lit, opposite, bool_eq, lit_eq, has, is_same, is_tautology, has_only, clash, without, resolve}
use Rattle.clause_arena.proofs.Sets.{passing, list_all-at, list_all-from_has, is_same-at, is_same-from, bool_eq-true, has-append, has-without, list_any-from_has, bool_eq-refl, lit_eq-refl, bool_iff}
use Rattle.res_log.specs.Marks.{Signs, sign_at, is_marked, Marks, IsBlank, Sets, Adds}

none-at : (m : Signs) → count_by is_some m ≡ 0 → (v : ℕ) → sign_at m v ≡ None
none-at [] h v = refl
none-at (None ∷ m) h zero = refl
none-at (None ∷ m) h (suc v) = none-at m h v
none-at (Some s ∷ m) h v = absurd (let e = sum_by-cons (λ (o : Option Bool). cond (is_some o) 1 0) (Some s) m in omega arith)

pub blank-from_count : (m : Signs) → count_by is_some m ≡ 0 → IsBlank m
blank-from_count m h l = ap (λ (o : Option Bool). option_map_or (bool_eq l.negative) o false) (none-at m h l.var)

pub count-from_blank : (m : Signs) → IsBlank m → count_by is_some m ≡ 0
count-from_blank [] h = refl
count-from_blank (None ∷ m) h = count-from_blank m (λ l. h (lit l.negative (suc l.var)))
count-from_blank (Some s ∷ m) h = absurd (both_ways _ (h (lit s 0)) (bool_eq-refl s))

one-sign : (o : Option Bool) (n : Bool) → option_map_or (bool_eq n) o false ≡ true → option_map_or (bool_eq (not n)) o false ≡ true → ⊥
one-sign None n h g = false≢true h
one-sign (Some true) true h g = false≢true g
one-sign (Some false) true h g = false≢true h
one-sign (Some true) false h g = false≢true h
one-sign (Some false) false h g = false≢true g

-- a marked clause holds no literal and its negation
pub marked-plain : (m : Signs) (c : Clause) → Marks m c → is_tautology c ≡ false
marked-plain m c h =
    false_from_ne_true _ (λ t.
    let w = passing (λ l. has c (opposite l)) c t in
    one-sign (sign_at m w.0.var) w.0.negative (h w.0 ∙ w.1) (h (opposite w.0) ∙ w.2))

or_false : (b : Bool) → (b || false) ≡ b
or_false true = refl
or_false false = refl

pub has-one : (l k : Lit) → has (l ∷ []) k ≡ lit_eq k l
has-one l k = or_false (lit_eq k l)

pub marks-push : (m n : Signs) (c : Clause) (l : Lit) → Marks m c → Adds m n l → Marks n (c ++ l ∷ [])
marks-push m n c l h a k = a k ∙ ap (λ (b : Bool). b || lit_eq k l) (h k) ∙ sym (has-append c (l ∷ []) k ∙ ap (λ (b : Bool). has c k || b) (has-one l k))

has-take : (i : ℕ) (c : Clause) (l : Lit) → has (take i c) l ≡ true → has c l ≡ true
has-take i c l h = subst (λ (d : Clause). has d l ≡ true) (take-append-drop i c) (has-append (take i c) (drop i c) l ∙ or_left _ _ h)

has-at : (c : Clause) (i : ℕ) (x : Lit) → i < length c → x ≡ get_or c i x → has c x ≡ true
has-at c i x l e = list_any_at (lit_eq x) c i x l (ap (lit_eq x) (sym e) ∙ lit_eq-refl x)

-- a literal and its negation in two parts
pub tautology-from : (c d : Clause) (l : Lit) → has c (opposite l) ≡ true → has d l ≡ true → is_tautology (c ++ d) ≡ true
tautology-from c d l h g =
    list_any-from_has (λ k. has (c ++ d) (opposite k)) (c ++ d) l (has-append c d l ∙ or_right _ _ g) (has-append c d (opposite l) ∙ or_left _ _ h)

or_three : (a b c : Bool) → (a || b) ≡ true → (b ≡ true → c ≡ true) → (a || c) ≡ true
or_three true b c h f = refl
or_three false b c h f = f h

-- the next literal was added
pub all-more : (m n : Signs) (c d : Clause) (i : ℕ) (x : Lit) → i < length d → x ≡ get_or d i x → Marks m (c ++ take i d) → Adds m n x → Marks n (c ++ take (i + 1) d)
all-more m n c d i x l e h a =
    subst (Marks n)
    (append_assoc c (take i d) (x ∷ []) ∙ ap (λ (y : Lit). c ++ (take i d ++ y ∷ [])) e ∙ ap (λ (r : Clause). c ++ r) (sym (take_more d i x l)))
    (marks-push m n (c ++ take i d) x h a)

-- the next literal's negation is marked
pub all-clash : (m : Signs) (c d : Clause) (i : ℕ) (x : Lit) → i < length d → x ≡ get_or d i x → Marks m (c ++ take i d) → is_marked m (opposite x) ≡ true → is_tautology (c ++ d) ≡ true
all-clash m c d i x l e h t =
    let w : (has c (opposite x) || has (take i d) (opposite x)) ≡ true = sym (has-append c (take i d) (opposite x)) ∙ sym (h (opposite x)) ∙ t in
    let u : has (c ++ d) (opposite x) ≡ true = has-append c d (opposite x) ∙ or_three _ _ _ w (has-take i d (opposite x)) in
    list_any-from_has (λ k. has (c ++ d) (opposite k)) (c ++ d) x (has-append c d x ∙ or_right _ _ (has-at d i x l e)) u

without-more : (v : ℕ) (d : Clause) (i : ℕ) (x : Lit) → i < length d → x ≡ get_or d i x → without v (take (i + 1) d) ≡ without v (take i d) ++ cond (not (eqb x.var v)) (x ∷ []) []
without-more v d i x l e =
    filter_more (λ l. not (eqb l.var v)) d i x l
    ∙ ap (λ (y : Lit). without v (take i d) ++ cond (not (eqb y.var v)) (y ∷ []) []) (sym e)

pub without-added : (m n : Signs) (c d : Clause) (v i : ℕ) (x : Lit) → i < length d → x ≡ get_or d i x → (x.var ≡ v → ⊥) → Marks m (c ++ without v (take i d)) → Adds m n x → Marks n (c ++ without v (take (i + 1) d))
without-added m n c d v i x l e ne h a =
    let f : not (eqb x.var v) ≡ true = not_from_false _ (ne_eqb _ _ ne) in
    subst (Marks n)
    (append_assoc c (without v (take i d)) (x ∷ []) ∙ ap (λ (r : Clause). c ++ r) (sym (without-more v d i x l e ∙ ap (λ (r : Clause). without v (take i d) ++ r) (cond-true _ _ _ f))))
    (marks-push m n (c ++ without v (take i d)) x h a)

pub without-passed : (m : Signs) (c d : Clause) (v i : ℕ) (x : Lit) → i < length d → x ≡ get_or d i x → x.var ≡ v → Marks m (c ++ without v (take i d)) → Marks m (c ++ without v (take (i + 1) d))
without-passed m c d v i x l e q h =
    let f : not (eqb x.var v) ≡ false = not_from_true _ (eq-eqb _ _ q) in
    subst (λ (r : Clause). Marks m (c ++ r))
    (sym (without-more v d i x l e ∙ ap (λ (r : Clause). without v (take i d) ++ r) (cond-false _ _ _ f) ∙ append-nil (without v (take i d)))) h

pub without-clash : (m : Signs) (c d : Clause) (v i : ℕ) (x : Lit) → i < length d → x ≡ get_or d i x → (x.var ≡ v → ⊥) → Marks m (c ++ without v (take i d)) → is_marked m (opposite x) ≡ true → is_tautology (c ++ without v d) ≡ true
without-clash m c d v i x l e ne h t =
    let w : (has c (opposite x) || has (without v (take i d)) (opposite x)) ≡ true = sym (has-append c (without v (take i d)) (opposite x)) ∙ sym (h (opposite x)) ∙ t in
    let f : not (eqb x.var v) ≡ true = not_from_false _ (ne_eqb _ _ ne) in
    let g : has (without v (take i d)) (opposite x) ≡ true → has (without v d) (opposite x) ≡ true =
    λ (k : has (without v (take i d)) (opposite x) ≡ true).
    has-without v d (opposite x) ∙ and_from _ _ (has-take i d (opposite x) (and_parts _ _ (sym (has-without v (take i d) (opposite x)) ∙ k)).0) f
    in
    let u : has (c ++ without v d) (opposite x) ≡ true = has-append c (without v d) (opposite x) ∙ or_three _ _ _ w g in
    let y : has (without v d) x ≡ true = has-without v d x ∙ and_from _ _ (has-at d i x l e) f in
    list_any-from_has (λ k. has (c ++ without v d) (opposite k)) (c ++ without v d) x (has-append c (without v d) x ∙ or_right _ _ y) u

resolve-none : (c d : Clause) (v : ℕ) → clash c d v ≡ false → resolve c d v ≡ None
resolve-none c d v h = cond-false _ _ _ (and_left (clash c d v) (not (is_tautology (without v c ++ without v d))) h)

only-from : (s : Bool) (m : Signs) (c : Clause) (v : ℕ) → Marks m c → has_only s c v ≡ (is_marked m (lit s v) && not (is_marked m (lit (not s) v)))
only-from s m c v h =
    ap (λ (b : Bool). b && not (has c (lit (not s) v))) (sym (h (lit s v)))
    ∙ ap (λ (b : Bool). is_marked m (lit s v) && not b) (sym (h (lit (not s) v)))

clash-nowhere : (p q : Bool) → ((false && p) || (false && q)) ≡ false
clash-nowhere p q = refl

-- a variable with no mark is no pivot
pub unmarked-none : (m : Signs) (c d : Clause) (v : ℕ) → Marks m c → sign_at m v ≡ None → resolve c d v ≡ None
unmarked-none m c d v h e =
    let f : (s t : Bool) → option_map_or (bool_eq s) (sign_at m v) false ≡ false = λ s t. ap (λ (o : Option Bool). option_map_or (bool_eq s) o false) e in
    let p : has_only false c v ≡ false = only-from false m c v h ∙ and_left _ _ (f false true) in
    let q : has_only true c v ≡ false = only-from true m c v h ∙ and_left _ _ (f true true) in
    resolve-none c d v (or_from _ _ (and_left _ _ p) (and_left _ _ q))

-- the sign with which a marked variable stands alone
only-at : (s : Bool) (m : Signs) (c : Clause) (v : ℕ) → Marks m c → sign_at m v ≡ Some s → (has_only s c v ≡ true) × (has_only (not s) c v ≡ false)
only-at true m c v h e =
    let t : is_marked m (lit true v) ≡ true = ap (λ (o : Option Bool). option_map_or (bool_eq true) o false) e in
    let f : is_marked m (lit false v) ≡ false = ap (λ (o : Option Bool). option_map_or (bool_eq false) o false) e in
    (only-from true m c v h ∙ and_from _ _ t (not_from_false _ f), only-from false m c v h ∙ and_left _ _ f)
only-at false m c v h e =
    let t : is_marked m (lit false v) ≡ true = ap (λ (o : Option Bool). option_map_or (bool_eq false) o false) e in
    let f : is_marked m (lit true v) ≡ false = ap (λ (o : Option Bool). option_map_or (bool_eq true) o false) e in
    (only-from false m c v h ∙ and_from _ _ t (not_from_false _ f), only-from true m c v h ∙ and_left _ _ f)

clash-at : (s : Bool) (c d : Clause) (v : ℕ) → has_only s c v ≡ true → has_only (not s) c v ≡ false → clash c d v ≡ has_only (not s) d v
clash-at true c d v h g =
    ap (λ (b : Bool). (b && has_only true d v) || (has_only true c v && has_only false d v)) g
    ∙ ap (λ (b : Bool). b && has_only false d v) h
clash-at false c d v h g =
    ap (λ (b : Bool). (has_only false c v && has_only true d v) || (b && has_only false d v)) g
    ∙ or_false (has_only false c v && has_only true d v)
    ∙ ap (λ (b : Bool). b && has_only true d v) h

pub clash-marked : (s : Bool) (m : Signs) (c d : Clause) (v : ℕ) → Marks m c → sign_at m v ≡ Some s → clash c d v ≡ has_only (not s) d v
clash-marked s m c d v h e = let w = only-at s m c v h e in clash-at s c d v w.0 w.1

pub apart-none : (s : Bool) (m : Signs) (c d : Clause) (v : ℕ) → Marks m c → sign_at m v ≡ Some s → has_only (not s) d v ≡ false → resolve c d v ≡ None
apart-none s m c d v h e f = resolve-none c d v (clash-marked s m c d v h e ∙ f)

cond-marked : (b : Bool) (o p : Option Bool) (n : Bool) → option_map_or (bool_eq n) (cond b None o) false ≡ (option_map_or (bool_eq n) o false && not b)
cond-marked true None p n = refl
cond-marked true (Some s) p n = sym (and_right _ _ refl)
cond-marked false None p n = refl
cond-marked false (Some true) p true = refl
cond-marked false (Some true) p false = refl
cond-marked false (Some false) p true = refl
cond-marked false (Some false) p false = refl

-- once the mark of a variable is gone, the literals of the others are left
pub removed : (m n : Signs) (c : Clause) (v : ℕ) → Marks m c → Sets m n v None → Marks n (without v c)
removed m n c v h e l =
    ap (λ (o : Option Bool). option_map_or (bool_eq l.negative) o false) (e l.var)
    ∙ cond-marked (eqb l.var v) (sign_at m l.var) None l.negative
    ∙ ap (λ (b : Bool). b && not (eqb l.var v)) (h l)
    ∙ sym (has-without v c l)

-- the resolvent is marked, or there is none
pub resolved : (s : Bool) (m n : Signs) (c d : Clause) (v : ℕ) (b : Bool) → Marks m c → sign_at m v ≡ Some s → has_only (not s) d v ≡ true
    → MatchBool b (Marks n (without v c ++ without v d)) (is_tautology (without v c ++ without v d) ≡ true)
    → MatchBool b (IsSomeAnd (resolve c d v) (Marks n)) (resolve c d v ≡ None)
resolved s m n c d v true h e f g =
    let t : (clash c d v && not (is_tautology (without v c ++ without v d))) ≡ true =
    and_from _ _ (clash-marked s m c d v h e ∙ f) (not_from_false _ (marked-plain n (without v c ++ without v d) g))
    in subst (λ (o : Option Clause). IsSomeAnd o (Marks n)) (sym (cond-true (clash c d v && not (is_tautology (without v c ++ without v d))) (Some (without v c ++ without v d)) None t)) g
resolved s m n c d v false h e f g =
    cond-false (clash c d v && not (is_tautology (without v c ++ without v d))) (Some (without v c ++ without v d)) None
    (and_right (clash c d v) (not (is_tautology (without v c ++ without v d))) (not_from_true _ g))

same-sign : (o : Option Bool) (a b : Bool) → option_map_or (bool_eq a) o false ≡ true → option_map_or (bool_eq b) o false ≡ true → a ≡ b
same-sign None a b h g = absurd (false≢true h)
same-sign (Some s) a b h g = bool_eq-true a s h ∙ sym (bool_eq-true b s g)

-- marked literals of one variable are one
same-var : (m : Signs) (k l : Lit) → is_marked m k ≡ true → is_marked m l ≡ true → k.var ≡ l.var → k ≡ l
same-var m k l h g e =
    let s : k.negative ≡ l.negative = same-sign (sign_at m l.var) k.negative l.negative (ap (λ (v : ℕ). option_map_or (bool_eq k.negative) (sign_at m v) false) (sym e) ∙ h) g in
    ap (λ (v : ℕ). lit k.negative v) e ∙ ap (λ (b : Bool). lit b l.var) s

eqb-flip : (a b : ℕ) → eqb a b ≡ eqb b a
eqb-flip a b = bool_iff (eqb a b) (eqb b a) (λ h. eq-eqb b a (sym (eqb-true a b h))) (λ h. eq-eqb a b (sym (eqb-true b a h)))

cond-or : (a b : Bool) (o : Option Bool) → cond b None (cond a None o) ≡ cond (a || b) None o
cond-or true true o = refl
cond-or true false o = refl
cond-or false true o = refl
cond-or false false o = refl

-- after the marks of all of a clause's variables are taken away, none is left just if the two are the same set
pub none-left : (m n : Signs) (c d : Clause) → Marks m c → list_all (is_marked m) d ≡ true → ((v : ℕ) → sign_at n v ≡ cond (list_any (λ x. eqb x.var v) d) None (sign_at m v)) → IsBlank n → is_same c d ≡ true
none-left m n c d h a e b =
    let f : (l : Lit) → has d l ≡ true → has c l ≡ true = λ (l : Lit) (k : has d l ≡ true). sym (h l) ∙ list_all-at (is_marked m) d a l k in
    let g : (l : Lit) → has c l ≡ true → has d l ≡ true = λ (l : Lit) (k : has c l ≡ true).
    let t : is_marked m l ≡ true = h l ∙ k in
    elim (cases_Bool (list_any (λ x. eqb x.var l.var) d)) [
      | inl u ↦
          let w = passing (λ x. eqb x.var l.var) d u in
          let same : w.0 ≡ l = same-var m w.0 l (list_all-at (is_marked m) d a w.0 w.1) t (eqb-true _ _ w.2) in
          subst (λ (x : Lit). has d x ≡ true) same w.1
      | inr u ↦ absurd (both_ways _ (sym (ap (λ (o : Option Bool). option_map_or (bool_eq l.negative) o false) (e l.var ∙ cond-false _ _ _ u)) ∙ b l) t)
    ]
    in is_same-from c d (λ l. bool_iff (has c l) (has d l) (g l) (f l))

pub all-gone : (m n : Signs) (c d : Clause) → Marks m c → ((v : ℕ) → sign_at n v ≡ cond (list_any (λ x. eqb x.var v) d) None (sign_at m v)) → is_same c d ≡ true → IsBlank n
all-gone m n c d h e s l =
    let q = ap (λ (o : Option Bool). option_map_or (bool_eq l.negative) o false) (e l.var) in
    elim (cases_Bool (list_any (λ x. eqb x.var l.var) d)) [
      | inl u ↦ q ∙ ap (λ (o : Option Bool). option_map_or (bool_eq l.negative) o false) (cond-true _ _ _ u)
      | inr u ↦
          q ∙ ap (λ (o : Option Bool). option_map_or (bool_eq l.negative) o false) (cond-false _ _ _ u)
          ∙ h l ∙ is_same-at c d s l
          ∙ false_from_ne_true _ (λ t. both_ways _ u (list_any-from_has (λ x. eqb x.var l.var) d l t (eq-eqb l.var l.var refl)))
    ]

-- a clause with a literal that isn't marked is another set
pub not-all : (m : Signs) (c d : Clause) → Marks m c → list_all (is_marked m) d ≡ false → is_same c d ≡ false
not-all m c d h a =
    false_from_ne_true _ (λ s. both_ways _ a (list_all-from_has (is_marked m) d (λ l k. h l ∙ is_same-at c d s l ∙ k)))

pub gone-more : (m n p : Signs) (d : Clause) (i : ℕ) (x : Lit) → i < length d → x ≡ get_or d i x → ((v : ℕ) → sign_at n v ≡ cond (list_any (λ x. eqb x.var v) (take i d)) None (sign_at m v)) → Sets n p x.var None → (v : ℕ) → sign_at p v ≡ cond (list_any (λ x. eqb x.var v) (take (i + 1) d)) None (sign_at m v)
gone-more m n p d i x l e h s v =
    let t : list_any (λ y. eqb y.var v) (take (i + 1) d) ≡ (list_any (λ y. eqb y.var v) (take i d) || eqb x.var v) =
    list_any_more (λ y. eqb y.var v) d i x l ∙ ap (λ (y : Lit). list_any (λ y. eqb y.var v) (take i d) || eqb y.var v) (sym e)
    in
    s v ∙ ap (λ (b : Bool). cond b None (sign_at n v)) (eqb-flip v x.var) ∙ ap (λ (o : Option Bool). cond (eqb x.var v) None o) (h v)
    ∙ cond-or (list_any (λ y. eqb y.var v) (take i d)) (eqb x.var v) (sign_at m v)
    ∙ ap (λ (b : Bool). cond b None (sign_at m v)) (sym t)
