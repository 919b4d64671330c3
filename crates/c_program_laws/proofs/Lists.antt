-- Lists: elements that are set, and how often a test is passed.
use Rattle.std.proofs.Common.{◌≡◌, ℕ, zero, suc, ◌+◌, ◌<◌, ◌≤◌, List, [], ◌∷◌, ◌++◌, length, map, Bool, true, false, refl, sym, ap, ◌∙◌, arith, inl, inr}
use Rattle.std.specs.Prelude.{◌⊎◌, Option, Some, None, cond, count_by, eqb, slice_get, slice_set}
use Rattle.std.proofs.lemmas.Bool.{eqb-false, eqb-true}
use Rattle.std.proofs.lemmas.List.Sums.{sum_by-append, sum_by-cons}
use Rattle.joint_ir.specs.WellFormed.{places_from}

pub get_set_same : {A : Type 0} (xs : List A) (n : ℕ) (x y : A) → slice_get xs n ≡ Some x → slice_get (slice_set xs n y) n ≡ Some y
get_set_same [] n x y h = absurd (cc)
get_set_same (z ∷ xs) zero x y h = refl
get_set_same (z ∷ xs) (suc n) x y h = get_set_same xs n x y h

-- an element is the one that was set, or stood there before
pub get_set : {A : Type 0} (xs : List A) (n m : ℕ) (y z : A) → slice_get (slice_set xs n y) m ≡ Some z → ((m ≡ n) × (z ≡ y)) ⊎ (slice_get xs m ≡ Some z)
get_set [] n m y z h = absurd (cc)
get_set (x ∷ xs) zero zero y z h = inl (refl, cc)
get_set (x ∷ xs) zero (suc m) y z h = inr h
get_set (x ∷ xs) (suc n) zero y z h = inr h
get_set (x ∷ xs) (suc n) (suc m) y z h = pick (get_set xs n m y z h)
  where
    pick : ((m ≡ n) × (z ≡ y)) ⊎ (slice_get xs m ≡ Some z) → ((suc m ≡ suc n) × (z ≡ y)) ⊎ (slice_get xs m ≡ Some z)
    pick (inl e) = inl (ap suc e.0, e.1)
    pick (inr e) = inr e

-- an element stays, or is the one that was set
pub kept_set : {A : Type 0} (xs : List A) (n m : ℕ) (y z : A) → slice_get xs m ≡ Some z → (slice_get (slice_set xs n y) m ≡ Some y) ⊎ (slice_get (slice_set xs n y) m ≡ Some z)
kept_set [] n m y z h = absurd (cc)
kept_set (x ∷ xs) zero zero y z h = inl refl
kept_set (x ∷ xs) zero (suc m) y z h = inr h
kept_set (x ∷ xs) (suc n) zero y z h = inr h
kept_set (x ∷ xs) (suc n) (suc m) y z h = kept_set xs n m y z h

pub count_yes : {A : Type 0} (p : A → Bool) (x : A) (xs : List A) → p x ≡ true → count_by p (x ∷ xs) ≡ suc (count_by p xs)
count_yes p x xs h = sum_by-cons (λ y. cond (p y) 1 0) x xs ∙ ap (λ q. cond q 1 0 + count_by p xs) h ∙ (let e : 1 + count_by p xs ≡ suc (count_by p xs) = omega arith in e)

pub count_no : {A : Type 0} (p : A → Bool) (x : A) (xs : List A) → p x ≡ false → count_by p (x ∷ xs) ≡ count_by p xs
count_no p x xs h = sum_by-cons (λ y. cond (p y) 1 0) x xs ∙ ap (λ q. cond q 1 0 + count_by p xs) h ∙ (let e : 0 + count_by p xs ≡ count_by p xs = omega arith in e)

pub count_both : {A : Type 0} (p : A → Bool) (xs ys : List A) → count_by p (xs ++ ys) ≡ count_by p xs + count_by p ys
count_both p xs ys = sum_by-append (λ y. cond (p y) 1 0) xs ys

pub count_none : {A : Type 0} (p : A → Bool) (xs : List A) → ((m : ℕ) (y : A) → slice_get xs m ≡ Some y → p y ≡ false) → count_by p xs ≡ 0
count_none p [] h = refl
count_none p (x ∷ xs) h = count_no p x xs (h zero x refl) ∙ count_none p xs (λ m y e. h (suc m) y e)

-- one element alone passes
pub count_one : {A : Type 0} (p : A → Bool) (xs : List A) (n : ℕ) (x : A) → slice_get xs n ≡ Some x → p x ≡ true → ((m : ℕ) (y : A) → slice_get xs m ≡ Some y → p y ≡ true → m ≡ n) → count_by p xs ≡ 1
count_one p [] n x h is only = absurd (cc)
count_one p (z ∷ xs) zero x h is only =
    let e : z ≡ x = cc in
    count_yes p z xs (ap p e ∙ is) ∙ ap suc (count_none p xs (λ m y g. others m y g (p y) refl))
  where
    others : (m : ℕ) (y : _) → slice_get xs m ≡ Some y → (q : Bool) → p y ≡ q → p y ≡ false
    others m y g true e = absurd (let f : suc m ≡ 0 = only (suc m) y g e in omega (arith, f))
    others m y g false e = e
count_one p (z ∷ xs) (suc n) x h is only = count_no p z xs (first (p z) refl) ∙ count_one p xs n x h is (λ m y g e. let f : suc m ≡ suc n = only (suc m) y g e in omega (arith, f))
  where
    first : (q : Bool) → p z ≡ q → p z ≡ false
    first true e = absurd (let f : 0 ≡ suc n = only zero z refl e in omega (arith, f))
    first false e = e

-- a test counts what is set in place of what doesn't pass
pub count_set : {A : Type 0} (p : A → Bool) (xs : List A) (n : ℕ) (x y : A) → slice_get xs n ≡ Some x → p x ≡ false → count_by p (slice_set xs n y) ≡ count_by p xs + cond (p y) 1 0
count_set p [] n x y h fails = absurd (cc)
count_set p (z ∷ xs) zero x y h fails =
    let e : z ≡ x = cc in
    sum_by-cons (λ w. cond (p w) 1 0) y xs ∙ (let f : cond (p y) 1 0 + count_by p xs ≡ count_by p xs + cond (p y) 1 0 = omega arith in f)
    ∙ ap (λ k. k + cond (p y) 1 0) (sym (count_no p z xs (ap p e ∙ fails)))
count_set p (z ∷ xs) (suc n) x y h fails =
    sum_by-cons (λ w. cond (p w) 1 0) z (slice_set xs n y)
    ∙ ap (λ k. cond (p z) 1 0 + k) (count_set p xs n x y h fails)
    ∙ (let f : cond (p z) 1 0 + (count_by p xs + cond (p y) 1 0) ≡ (cond (p z) 1 0 + count_by p xs) + cond (p y) 1 0 = omega arith in f)
    ∙ ap (λ k. k + cond (p y) 1 0) (sym (sum_by-cons (λ w. cond (p w) 1 0) z xs))

-- a place among places one after another
apart : (x y : ℕ) → (x ≡ y → ⊥) → eqb x y ≡ false
apart x y h = pick (eqb x y) refl
  where
    pick : (q : Bool) → eqb x y ≡ q → eqb x y ≡ false
    pick true e = absurd (h (eqb-true x y e))
    pick false e = e

pub places_before : (x a n : ℕ) → x < a → count_by (eqb x) (places_from a n) ≡ 0
places_before x a zero h = refl
places_before x a (suc n) h = count_no (eqb x) a (places_from (suc a) n) (apart x a (λ e. omega (arith, e, h))) ∙ places_before x (suc a) n (omega (arith, h))

pub places_behind : (x a n : ℕ) → a + n ≤ x → count_by (eqb x) (places_from a n) ≡ 0
places_behind x a zero h = refl
places_behind x a (suc n) h = count_no (eqb x) a (places_from (suc a) n) (apart x a (λ e. omega (arith, e, h))) ∙ places_behind x (suc a) n (omega (arith, h))

pub places_within : (x a n : ℕ) → a ≤ x → x < a + n → count_by (eqb x) (places_from a n) ≡ 1
places_within x a zero h g = absurd (omega (arith, h, g))
places_within x a (suc n) h g = pick (eqb x a) refl (λ other. places_within x (suc a) n (omega (arith, h, other)) (omega (arith, g)))
  where
    pick : (q : Bool) → eqb x a ≡ q → ((x ≡ a → ⊥) → count_by (eqb x) (places_from (suc a) n) ≡ 1) → count_by (eqb x) (a ∷ places_from (suc a) n) ≡ 1
    pick true e rest = count_yes (eqb x) a (places_from (suc a) n) e ∙ ap suc (let f : x ≡ a = eqb-true x a e in places_before x (suc a) n (omega (arith, f)))
    pick false e rest = count_no (eqb x) a (places_from (suc a) n) e ∙ rest (eqb-false x a e)

pub places_count : (a n : ℕ) → length (places_from a n) ≡ n
places_count a zero = refl
places_count a (suc n) = ap suc (places_count (suc a) n)

pub get_behind : {A : Type 0} (xs ys : List A) (i : ℕ) → slice_get (xs ++ ys) (length xs + i) ≡ slice_get ys i
get_behind [] ys i = ap (slice_get ys) (let e : 0 + i ≡ i = omega arith in e)
get_behind (x ∷ xs) ys i = ap (slice_get (x ∷ (xs ++ ys))) (let e : suc (length xs) + i ≡ suc (length xs + i) = omega arith in e) ∙ get_behind xs ys i

pub get_before : {A : Type 0} (xs ys : List A) (i : ℕ) (x : A) → slice_get xs i ≡ Some x → slice_get (xs ++ ys) i ≡ Some x
get_before [] ys i x h = absurd (cc)
get_before (z ∷ xs) ys zero x h = h
get_before (z ∷ xs) ys (suc i) x h = get_before xs ys i x h

-- an element of a list that is carried over
pub get_map : {A B : Type 0} (f : A → B) (xs : List A) (i : ℕ) (x : A) → slice_get xs i ≡ Some x → slice_get (map f xs) i ≡ Some (f x)
get_map f [] i x h = absurd (cc)
get_map f (z ∷ xs) zero x h = let e : z ≡ x = cc in ap (λ y. Some (f y)) e
get_map f (z ∷ xs) (suc i) x h = get_map f xs i x h

pub of_map : {A B : Type 0} (f : A → B) (xs : List A) (i : ℕ) (y : B) → slice_get (map f xs) i ≡ Some y → (x : A) × (slice_get xs i ≡ Some x) × (f x ≡ y)
of_map f [] i y h = absurd (cc)
of_map f (z ∷ xs) zero y h = (z, refl, cc)
of_map f (z ∷ xs) (suc i) y h = of_map f xs i y h
