-- Values in two worlds whose sites have the same numbers.
use Rattle.std.proofs.Common.{◌≡◌, ℕ, ◌+◌, ◌-◌, ◌*◌, ◌%◌, ◌^◌, List, ◌++◌, Bool, true, false, ap, ◌∙◌}
use Rattle.std.specs.Prelude.{max, ◌&&◌, nat_lt, if◌then◌else◌, ℤ}
use Rattle.bits_core.specs.Word.{resized, number, at_zero}
use Rattle.src_text.specs.declared.refusal.Place.{Place}
use Rattle.v_tree.specs.declared.expr.BinaryOp.{BinaryOp}
use Rattle.v_tree.specs.declared.expr.UnaryOp.{UnaryOp}
use Rattle.flat_tree.specs.declared.expr.PlacedSite.{PlacedSite}
use Rattle.flat_tree.specs.Operators.{Form, InContext, Dividing, Comparing, Logical, Shifting, form_of, truth, binary_value, is_reduction, unary_value, repeated}
use Rattle.flat_tree.specs.Values.{World, Meant, count, own_sites, own_count, own_fixed, own_value, site_number, numbers_of, standing, both_at, divided_at, compared, joined_by, shifted, binary_by, binary_meant, kept_by, reduced_by, unary_meant, conditional, beside, replicated, cast, index_of, indexed, site_at}

module _ (x y : World) (same_unknown : (k : ℕ) → x.unknown k ≡ y.unknown k) where
  -- a value is the same in both worlds
  abbrev pub Same : Meant → Type 0
  Same m = (width : ℕ) (sign : Bool) (k : ℕ) → m.value x width sign k ≡ m.value y width sign k

  pub site_same : (w k : ℕ) → site_number x.unknown w k ≡ site_number y.unknown w k
  site_same w k =
      ap (λ a. if nat_lt 64 w then (a % 2 ^ (w - 64)) * 2 ^ 64 + x.unknown k % 2 ^ 64 else x.unknown k % 2 ^ w) (same_unknown (k + 1))
      ∙ ap (λ b. if nat_lt 64 w then (y.unknown (k + 1) % 2 ^ (w - 64)) * 2 ^ 64 + b % 2 ^ 64 else b % 2 ^ w) (same_unknown k)

  pub standing_same : (l : ℕ) (s : Bool) (sites : List PlacedSite) (fixed : Bool) (f : World → ℕ → ℕ) → ((k : ℕ) → f x k ≡ f y k) → Same (standing l s sites fixed f)
  standing_same l s sites fixed f h w t k = ap (resized w t l) (h k)

  both_same : (f : ℕ → Bool → ℕ → ℕ → ℕ) (a b : Meant) → Same a → Same b → Same (both_at f a b)
  both_same f a b p q w s k = ap (λ m. f w s m (b.value x w s (k + count a w))) (p w s k) ∙ ap (f w s (a.value y w s k)) (q w s (k + count a w))

  divided_same : (place : Place) (f : ℕ → Bool → ℕ → ℕ → ℕ) (a b : Meant) → Same a → Same b → Same (divided_at place f a b)
  divided_same place f a b p q w s k =
      let j = k + count a w in
      let m = j + numbers_of w in
      ap (λ n. at_zero n (site_number x.unknown w j) (f w s (a.value x w s k) n)) (q w s m)
      ∙ ap (λ n. at_zero (b.value y w s m) n (f w s (a.value x w s k) (b.value y w s m))) (site_same w j)
      ∙ ap (λ n. at_zero (b.value y w s m) (site_number y.unknown w j) (f w s n (b.value y w s m))) (p w s k)

  compared_same : (f : ℕ → Bool → ℕ → ℕ → ℕ) (a b : Meant) → Same a → Same b → Same (compared f a b)
  compared_same f a b p q =
      let w = max a.length b.length in
      let s = a.signed && b.signed in
      standing_same 1 false (a.sites w ++ b.sites w) (a.fixed w s && b.fixed w s) (λ z k. f w s (a.value z w s k) (b.value z w s (k + count a w)))
      (λ k. ap (λ m. f w s m (b.value x w s (k + count a w))) (p w s k) ∙ ap (f w s (a.value y w s k)) (q w s (k + count a w)))

  pub joined_same : (f : ℕ → ℕ → ℕ) (l : ℕ) (a b : Meant) → Same a → Same b → Same (joined_by f l a b)
  joined_same f l a b p q =
      standing_same l false (own_sites a ++ own_sites b) (own_fixed a && own_fixed b) (λ z k. f (own_value a z k) (own_value b z (k + own_count a)))
      (λ k. ap (λ m. f m (own_value b x (k + own_count a))) (p a.length a.signed k) ∙ ap (f (own_value a y k)) (q b.length b.signed (k + own_count a)))

  shifted_same : (f : ℕ → Bool → ℕ → ℕ → ℕ) (a b : Meant) → Same a → Same b → Same (shifted f a b)
  shifted_same f a b p q w s k = ap (λ m. f w s m (own_value b x (k + count a w))) (p w s k) ∙ ap (f w s (a.value y w s k)) (q b.length b.signed (k + count a w))

  kept_same : (f : ℕ → ℕ → ℕ) (a : Meant) → Same a → Same (kept_by f a)
  kept_same f a p w s k = ap (f w) (p w s k)

  reduced_same : (f : ℕ → ℕ → ℕ) (a : Meant) → Same a → Same (reduced_by f a)
  reduced_same f a p = standing_same 1 false (own_sites a) (own_fixed a) (λ z k. f a.length (own_value a z k)) (λ k. ap (f a.length) (p a.length a.signed k))

  pub conditional_same : (c a b : Meant) → Same c → Same a → Same b → Same (conditional c a b)
  conditional_same c a b r p q w s k =
      let j = k + own_count c in
      ap (λ n. if truth n then a.value x w s j else b.value x w s (j + count a w)) (r c.length c.signed k)
      ∙ ap (λ n. if truth (own_value c y k) then n else b.value x w s (j + count a w)) (p w s j)
      ∙ ap (λ n. if truth (own_value c y k) then a.value y w s j else n) (q w s (j + count a w))

  pub replicated_same : (c : ℕ) (m : Meant) → Same m → Same (replicated c m)
  replicated_same c m p = standing_same (c * m.length) false (own_sites m) (own_fixed m) (λ z k. repeated c m.length (own_value m z k)) (λ k. ap (repeated c m.length) (p m.length m.signed k))

  pub cast_same : (s : Bool) (m : Meant) → Same m → Same (cast s m)
  cast_same s m p = standing_same m.length s (own_sites m) (own_fixed m) (own_value m) (λ k. p m.length m.signed k)

  by_same : (form : Form) (place : Place) (f : ℕ → Bool → ℕ → ℕ → ℕ) (a b : Meant) → Same a → Same b → Same (binary_by form place f a b)
  by_same InContext place f a b p q = both_same f a b p q
  by_same Dividing place f a b p q = divided_same place f a b p q
  by_same Comparing place f a b p q = compared_same f a b p q
  by_same Logical place f a b p q = joined_same (f 1 false) 1 a b p q
  by_same Shifting place f a b p q = shifted_same f a b p q

  pub binary_same : (place : Place) (op : BinaryOp) (a b : Meant) → Same a → Same b → Same (binary_meant place op a b)
  binary_same place op a b p q = by_same (form_of op) place (binary_value op) a b p q

  pub unary_same : (op : UnaryOp) (a : Meant) → Same a → Same (unary_meant op a)
  unary_same op a p = pick (is_reduction op)
    where
      pick : (c : Bool) → Same (if c then reduced_by (unary_value op) a else kept_by (unary_value op) a)
      pick true = reduced_same (unary_value op) a p
      pick false = kept_same (unary_value op) a p

  pub beside_same : (a b : Meant) → Same a → Same b → Same (beside a b)
  beside_same a b p q = joined_same (λ m n. m * 2 ^ b.length + n) (a.length + b.length) a b p q

  -- a select by an index, of what is read the same
  pub indexed_same : (sure : Bool) (place : Place) (n : ℕ) (signed fixed : Bool) (i : Meant) (read : World → ℤ → ℕ → ℕ) → Same i → ((at : ℤ) (n : ℕ) → read x at n ≡ read y at n) → Same (indexed sure place n signed fixed i read)
  indexed_same true place n signed fixed i read p h =
      standing_same n signed (own_sites i) fixed (λ z k. read z (index_of i z k) 0)
      (λ k. h (index_of i x k) 0 ∙ ap (λ at. read y at 0) (ap (number i.signed i.length) (p i.length i.signed k)))
  indexed_same false place n signed fixed i read p h =
      standing_same n signed (site_at place n ++ own_sites i) false (λ z k. read z (index_of i z (k + numbers_of n)) (site_number z.unknown n k))
      (λ k.
      h (index_of i x (k + numbers_of n)) (site_number x.unknown n k)
      ∙ ap (λ at. read y at (site_number x.unknown n k)) (ap (number i.signed i.length) (p i.length i.signed (k + numbers_of n)))
      ∙ ap (read y (index_of i y (k + numbers_of n))) (site_same n k))
