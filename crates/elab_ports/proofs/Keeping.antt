-- Tables that keep the first entry of each name.
use Rattle.std.proofs.Common.{◌≡◌, ℕ, ◌+◌, ◌<◌, ◌≤◌, List, [], ◌∷◌, ◌++◌, map, length, take, get_or, refl, sym, ap, ◌∙◌}
use Rattle.std.specs.Prelude.{Bool, true, false, cond, Option, Some, None, bytes_eq, flat_map}
use Rattle.std.specs.Option.{option_or}
use Rattle.std.proofs.lemmas.List.{take_more, append-nil, map-append}
use Rattle.std.proofs.lemmas.List.Concat.{flat_map-append}
use Rattle.std.proofs.lemmas.Slice.Eq.{bytes_eq-Decides}
use Rattle.name_table.specs.Tables.{find_in, put}
use Rattle.elab_ports.specs.Keeping.{Keeps}

pub or_none : {T : Type 0} (o : Option T) → o ≡ option_or o None
or_none None = refl
or_none (Some x) = refl

pub or_or : {T : Type 0} (a b c : Option T) → option_or (option_or a b) c ≡ option_or a (option_or b c)
or_or None b c = refl
or_or (Some x) b c = refl

module _ {V : Type 0} where
  -- a name that is new comes behind all others
  put_absent : (t : List (List ℕ × V)) (n m : List ℕ) (v : V) → find_in t n ≡ None → find_in (put n v t) m ≡ option_or (find_in t m) (find_in ((n, v) ∷ []) m)
  put_absent [] n m v h = refl
  put_absent (e ∷ t) n m v h = by_same (bytes_eq n e.0) h (put_absent t n m v)
    where
      others : (c : Bool) → find_in (put n v t) m ≡ option_or (find_in t m) (find_in ((n, v) ∷ []) m) →
          cond c (Some e.1) (find_in (put n v t) m) ≡ option_or (cond c (Some e.1) (find_in t m)) (find_in ((n, v) ∷ []) m)
      others true g = refl
      others false g = g

      by_same : (b : Bool) → cond b (Some e.1) (find_in t n) ≡ None → (find_in t n ≡ None → find_in (put n v t) m ≡ option_or (find_in t m) (find_in ((n, v) ∷ []) m)) →
          find_in (cond b ((e.0, v) ∷ t) (e ∷ put n v t)) m ≡ option_or (cond (bytes_eq m e.0) (Some e.1) (find_in t m)) (find_in ((n, v) ∷ []) m)
      by_same true h g = absurd cc
      by_same false h g = others (bytes_eq m e.0) (g h)

  -- a name that is there is found as before
  present : (t : List (List ℕ × V)) (n m : List ℕ) (u v : V) → find_in t n ≡ Some u → find_in t m ≡ option_or (find_in t m) (find_in ((n, v) ∷ []) m)
  present t n m u v h = by_test (bytes_eq m n) (λ e. ap (find_in t) ((bytes_eq-Decides m n).0 e) ∙ h)
    where
      by_test : (b : Bool) → (b ≡ true → find_in t m ≡ Some u) → find_in t m ≡ option_or (find_in t m) (cond b (Some v) None)
      by_test false g = or_none (find_in t m)
      by_test true g = g refl ∙ sym (ap (λ o. option_or o (Some v)) (g refl))

  pub kept_new : (t new : List (List ℕ × V)) (n : List ℕ) (v : V) (o : Option V) → o ≡ find_in t n → o ≡ None → new ≡ put n v t → Keeps t new ((n, v) ∷ [])
  kept_new t new n v o is none h m = ap (λ s. find_in s m) h ∙ put_absent t n m v (sym is ∙ none)

  pub kept_old : (t : List (List ℕ × V)) (n : List ℕ) (u v : V) (o : Option V) → o ≡ find_in t n → o ≡ Some u → Keeps t t ((n, v) ∷ [])
  kept_old t n u v o is some m = present t n m u v (sym is ∙ some)

  find_in-append : (xs ys : List (List ℕ × V)) (name : List ℕ) → find_in (xs ++ ys) name ≡ option_or (find_in xs name) (find_in ys name)
  find_in-append [] ys name = refl
  find_in-append (x ∷ xs) ys name = by_test (bytes_eq name x.0) (find_in-append xs ys name)
    where
      by_test : (b : Bool) → find_in (xs ++ ys) name ≡ option_or (find_in xs name) (find_in ys name) →
          cond b (Some x.1) (find_in (xs ++ ys) name) ≡ option_or (cond b (Some x.1) (find_in xs name)) (find_in ys name)
      by_test true g = refl
      by_test false g = g

  pub keeps_none : (t : List (List ℕ × V)) → Keeps t t []
  keeps_none t name = or_none (find_in t name)

  pub keeps_then : (a b c done more whole : List (List ℕ × V)) → whole ≡ done ++ more → Keeps a b done → Keeps b c more → Keeps a c whole
  keeps_then a b c done more whole is h g name =
      g name ∙ ap (λ o. option_or o (find_in more name)) (h name) ∙ or_or (find_in a name) (find_in done name) (find_in more name)
      ∙ ap (option_or (find_in a name)) (sym (find_in-append done more name) ∙ ap (λ l. find_in l name) (sym is))

pub taken_more : {X : Type 0} (xs : List X) (i : ℕ) (x d : X) → i < length xs → x ≡ get_or xs i d → take (i + 1) xs ≡ take i xs ++ x ∷ []
taken_more xs i x d lt is = take_more xs i d lt ∙ ap (λ y. take i xs ++ y ∷ []) (sym is)

pub joined_more : {X Y : Type 0} (f : X → List Y) (xs : List X) (i : ℕ) (x d : X) → i < length xs → x ≡ get_or xs i d →
    flat_map f (take (i + 1) xs) ≡ flat_map f (take i xs) ++ f x
joined_more f xs i x d lt is =
    ap (flat_map f) (taken_more xs i x d lt is) ∙ flat_map-append f (take i xs) (x ∷ []) ∙ ap (λ l. flat_map f (take i xs) ++ l) (append-nil (f x))

pub mapped_more : {X Y : Type 0} (f : X → Y) (xs : List X) (i : ℕ) (x d : X) → i < length xs → x ≡ get_or xs i d →
    map f (take (i + 1) xs) ≡ map f (take i xs) ++ f x ∷ []
mapped_more f xs i x d lt is = ap (map f) (taken_more xs i x d lt is) ∙ map-append f (take i xs) (x ∷ [])

-- functions that agree give the same list
pub map_same : {X Y : Type 0} (f g : X → Y) → ((x : X) → f x ≡ g x) → (xs : List X) → map f xs ≡ map g xs
map_same f g h [] = refl
map_same f g h (x ∷ xs) = ap (λ y. y ∷ map f xs) (h x) ∙ ap (λ ys. g x ∷ ys) (map_same f g h xs)
