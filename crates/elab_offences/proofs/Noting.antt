-- Offences that are noted one after another.
use Rattle.std.proofs.Common.{◌≡◌, ℕ, ◌+◌, ◌<◌, ◌≤◌, List, ◌∷◌, ◌++◌, length, drop, get_or, sym, ap, ◌∙◌}
use Rattle.std.specs.Prelude.{Option, flat_map}
use Rattle.std.proofs.lemmas.List.{drop_more, drop_all}
use Rattle.offence_order.specs.declared.Offence.{Offence}
use Rattle.offence_order.specs.Order.{first_of}
use Rattle.offence_order.proofs.Firsts.{first_of-append}

pub notes_then : (xs ys : List Offence) (a b c : Option Offence) → b ≡ first_of a xs → c ≡ first_of b ys → c ≡ first_of a (xs ++ ys)
notes_then xs ys a b c g h = h ∙ ap (λ f. first_of f ys) g ∙ sym (first_of-append a xs ys)

-- of a tree that is made of parts: what code has noted of the parts is noted of the whole
module _ {E : Type 0} (wrong : E → List Offence) (e whole : E) (is : e ≡ whole) where
  pub noted_one : {P : Type 0} (f : P → List Offence) (p got : P) (a b : Option Offence) → got ≡ p → b ≡ first_of a (f got) → wrong whole ≡ f p → b ≡ first_of a (wrong e)
  noted_one f p got a b is_p h eq = h ∙ ap (first_of a) (ap f is_p ∙ sym eq ∙ ap wrong (sym is))

  pub noted_two : {P Q : Type 0} (f : P → List Offence) (g : Q → List Offence) (p got : P) (q more : Q) (a b c : Option Offence) → got ≡ p → more ≡ q →
      b ≡ first_of a (f got) → c ≡ first_of b (g more) → wrong whole ≡ f p ++ g q → c ≡ first_of a (wrong e)
  noted_two f g p got q more a b c is_p is_q h i eq =
      notes_then (f got) (g more) a b c h i ∙ ap (first_of a) (ap (λ x. f x ++ g more) is_p ∙ ap (λ x. f p ++ g x) is_q ∙ sym eq ∙ ap wrong (sym is))

  pub noted_three : {P Q R : Type 0} (f : P → List Offence) (g : Q → List Offence) (k : R → List Offence) (p got : P) (q more : Q) (r last : R) (a b c d : Option Offence) →
      got ≡ p → more ≡ q → last ≡ r → b ≡ first_of a (f got) → c ≡ first_of b (g more) → d ≡ first_of c (k last) → wrong whole ≡ f p ++ (g q ++ k r) → d ≡ first_of a (wrong e)
  noted_three f g k p got q more r last a b c d is_p is_q is_r h i j eq =
      notes_then (f got) (g more ++ k last) a b d h (notes_then (g more) (k last) b c d i j)
      ∙ ap (first_of a) (ap (λ x. f x ++ (g more ++ k last)) is_p ∙ ap (λ x. f p ++ (g x ++ k last)) is_q ∙ ap (λ x. f p ++ (g q ++ k x)) is_r ∙ sym eq ∙ ap wrong (sym is))

-- a list of parts
module _ {X : Type 0} (f : X → List Offence) (xs : List X) (i : ℕ) (whole now : Option Offence) (so_far : whole ≡ first_of now (flat_map f (drop i xs))) where
  pub listed_next : (x d : X) (new : Option Offence) → i < length xs → x ≡ get_or xs i d → new ≡ first_of now (f x) → whole ≡ first_of new (flat_map f (drop (i + 1) xs))
  listed_next x d new lt is h =
      let rest = flat_map f (drop (i + 1) xs) in
      so_far ∙ ap (λ l. first_of now (flat_map f l)) (drop_more xs i d lt ∙ ap (λ y. y ∷ drop (i + 1) xs) (sym is))
      ∙ first_of-append now (f x) rest ∙ ap (λ o. first_of o rest) (sym h)

  pub listed_end : length xs ≤ i → now ≡ whole
  listed_end end = sym (so_far ∙ ap (λ l. first_of now (flat_map f l)) (drop_all i xs end))
