-- Lengths and signs, form by form.
use Rattle.std.proofs.Common.{◌≡◌, ℕ, zero, suc, ◌+◌, ◌*◌, ◌<◌, ◌≤◌, List, [], ◌∷◌, length, drop, get_or, Bool, true, false, refl, sym, ap, ◌∙◌, subst, arith}
use Rattle.std.specs.Prelude.{max, ◌&&◌, nat_lt, if◌then◌else◌}
use Rattle.std.proofs.Math.Seq.{drop-cons}
use Rattle.bits_core.specs.Word.{Word, IsWidth}
use Rattle.src_text.specs.declared.refusal.Place.{Place}
use Rattle.v_tree.specs.declared.expr.BinaryOp.{BinaryOp}
use Rattle.v_tree.specs.declared.expr.UnaryOp.{UnaryOp}
use Rattle.flat_tree.specs.declared.expr.FlatExpr.{FlatExpr}
use Rattle.flat_tree.specs.declared.expr.FlatExpr as flat
use Rattle.flat_tree.specs.declared.expr.FlatSelection.{FlatSelection}
use Rattle.flat_tree.specs.declared.expr.FlatSelection as selection
use Rattle.flat_tree.specs.Operators.{Form, InContext, Dividing, Comparing, Logical, Shifting, form_of, length_by, signed_by, is_reduction, binary_value, unary_value}
use Rattle.flat_tree.specs.Values.{Shape, Meant, meant, select_meant, number_meant, unary_meant, reduced_by, kept_by, binary_by, binary_meant, conditional, replicated, cast, word_by, bits_by, by_index}
use Rattle.flat_values.specs.Fits.{IsOwn, IsOrdered, IsSignal, Fits, FitsSelect, FitsNumber, FitsParts, FitsList, list_meant, selection_length, selection_signed, number_length}

max_width : (a b : ℕ) → IsWidth a → IsWidth b → IsWidth (max a b)
max_width a b p q = let x = p.0 in let y = p.1 in let z = q.1 in (omega arith, omega arith)

by_own : (form : Form) (place : Place) (f : ℕ → Bool → ℕ → ℕ → ℕ) (a b : Meant) (k l m : ℕ) (s t u : Bool) → IsOwn a k s → IsOwn b l t → m ≡ length_by form k l → u ≡ signed_by form s t → IsOwn (binary_by form place f a b) m u
by_own InContext place f a b k l m s t u p q x y = record { length = x ∙ ap (λ n. max n l) p.length ∙ ap (max a.length) q.length; signed = y ∙ ap (λ n. n && t) p.signed ∙ ap (λ n. a.signed && n) q.signed; width = subst IsWidth (sym x) (max_width k l p.width q.width) }
by_own Dividing place f a b k l m s t u p q x y = record { length = x ∙ ap (λ n. max n l) p.length ∙ ap (max a.length) q.length; signed = y ∙ ap (λ n. n && t) p.signed ∙ ap (λ n. a.signed && n) q.signed; width = subst IsWidth (sym x) (max_width k l p.width q.width) }
by_own Comparing place f a b k l m s t u p q x y = record { length = x; signed = y; width = subst IsWidth (sym x) (omega arith, omega arith) }
by_own Logical place f a b k l m s t u p q x y = record { length = x; signed = y; width = subst IsWidth (sym x) (omega arith, omega arith) }
by_own Shifting place f a b k l m s t u p q x y = record { length = x ∙ p.length; signed = y ∙ p.signed; width = subst IsWidth (sym x) p.width }

pub binary_own : (place : Place) (op : BinaryOp) (a b : Meant) (k l m : ℕ) (s t u : Bool) → IsOwn a k s → IsOwn b l t → m ≡ length_by (form_of op) k l → u ≡ signed_by (form_of op) s t → IsOwn (binary_meant place op a b) m u
binary_own place op a b k l m s t u p q x y = by_own (form_of op) place (binary_value op) a b k l m s t u p q x y

pub unary_own : (op : UnaryOp) (a : Meant) (k m : ℕ) (s u : Bool) → IsOwn a k s → m ≡ (if is_reduction op then 1 else k) → u ≡ (if is_reduction op then false else s) → IsOwn (unary_meant op a) m u
unary_own op a k m s u p x y = pick (is_reduction op) x y
  where
    pick : (c : Bool) → m ≡ (if c then 1 else k) → u ≡ (if c then false else s) → IsOwn (if c then reduced_by (unary_value op) a else kept_by (unary_value op) a) m u
    pick true x y = record { length = x; signed = y; width = subst IsWidth (sym x) (omega arith, omega arith) }
    pick false x y = record { length = x ∙ p.length; signed = y ∙ p.signed; width = subst IsWidth (sym x) p.width }

pub conditional_own : (c a b : Meant) (k l m : ℕ) (s t u : Bool) → IsOwn a k s → IsOwn b l t → m ≡ max k l → u ≡ (s && t) → IsOwn (conditional c a b) m u
conditional_own c a b k l m s t u p q x y = record { length = x ∙ ap (λ n. max n l) p.length ∙ ap (max a.length) q.length; signed = y ∙ ap (λ n. n && t) p.signed ∙ ap (λ n. a.signed && n) q.signed; width = subst IsWidth (sym x) (max_width k l p.width q.width) }

module _ (count : ℕ) (shapes : ℕ → Shape) where
  index_length : (place : Place) (s : Shape) (g : ℕ) (i : Meant) → (by_index place s g i).length ≡ (if nat_lt 0 s.words then s.bits else 1)
  index_length place s g i = pick (nat_lt 0 s.words)
    where
      pick : (c : Bool) → (if c then word_by place s g i else bits_by place 1 s.bits s.low false (λ x. x.word g 0) i).length ≡ (if c then s.bits else 1)
      pick true = refl
      pick false = refl

  index_signed : (place : Place) (s : Shape) (g : ℕ) (i : Meant) → (by_index place s g i).signed ≡ (nat_lt 0 s.words && s.signed)
  index_signed place s g i = pick (nat_lt 0 s.words)
    where
      pick : (c : Bool) → (if c then word_by place s g i else bits_by place 1 s.bits s.low false (λ x. x.word g 0) i).signed ≡ (c && s.signed)
      pick true = refl
      pick false = refl

  pub select_length : (place : Place) (g : ℕ) (s : FlatSelection) → (select_meant shapes place g s).length ≡ selection_length (shapes g) s
  select_length place g (selection.Bit' _ (flat.more_of-FlatExpr i _)) = index_length place (shapes g) g (meant shapes i)
  select_length place g (selection.Part high low) = refl
  select_length place g (selection.Up' _ (flat.more_of-FlatExpr i _) n) = refl
  select_length place g (selection.Down' _ (flat.more_of-FlatExpr i _) n) = refl

  select_signed : (place : Place) (g : ℕ) (s : FlatSelection) → (select_meant shapes place g s).signed ≡ selection_signed (shapes g) s
  select_signed place g (selection.Bit' _ (flat.more_of-FlatExpr i _)) = index_signed place (shapes g) g (meant shapes i)
  select_signed place g (selection.Part high low) = refl
  select_signed place g (selection.Up' _ (flat.more_of-FlatExpr i _) n) = refl
  select_signed place g (selection.Down' _ (flat.more_of-FlatExpr i _) n) = refl

  pub select_width : (g : ℕ) (s : FlatSelection) → IsSignal count shapes g → FitsSelect (IsSignal count shapes) (Unit {0}) (Unit {0}) shapes g s → IsWidth (selection_length (shapes g) s)
  select_width g (selection.Bit' _ i) p f = pick (nat_lt 0 (shapes g).words)
    where
      pick : (c : Bool) → IsWidth (if c then (shapes g).bits else 1)
      pick true = let x = p.some in let y = p.within in (omega arith, omega arith)
      pick false = (omega arith, omega arith)
  select_width g (selection.Part high low) p f = let y = p.within in let a = f.1 in let b = f.2 in let d = f.3 in (omega arith, omega arith)
  select_width g (selection.Up' _ (flat.more_of-FlatExpr i _) n) p f = let a = f.1 in let x = a.0 in let y = a.1 in (omega arith, omega arith)
  select_width g (selection.Down' _ (flat.more_of-FlatExpr i _) n) p f = let a = f.1 in let x = a.0 in let y = a.1 in (omega arith, omega arith)

  pub select_order : (g : ℕ) (s : FlatSelection) → FitsSelect (IsSignal count shapes) (Unit {0}) (Unit {0}) shapes g s → IsOrdered s
  select_order g (selection.Bit' _ i) f = tt
  select_order g (selection.Part high low) f = f.2
  select_order g (selection.Up' _ i n) f = tt
  select_order g (selection.Down' _ i n) f = tt

  pub select_own : (place : Place) (g : ℕ) (s : FlatSelection) (m : ℕ) (u : Bool) → IsSignal count shapes g → FitsSelect (IsSignal count shapes) (Unit {0}) (Unit {0}) shapes g s → m ≡ selection_length (shapes g) s → u ≡ selection_signed (shapes g) s → IsOwn (select_meant shapes place g s) m u
  select_own place g s m u p f x y = record { length = x ∙ sym (select_length place g s); signed = y ∙ sym (select_signed place g s); width = subst IsWidth (sym x) (select_width g s p f) }

  pub number_width : (w low : ℕ) (s : FlatSelection) → w ≤ 128 → FitsNumber (IsSignal count shapes) (Unit {0}) (Unit {0}) shapes w low s → IsWidth (number_length s)
  number_width w low (selection.Bit' _ i) p f = (omega arith, omega arith)
  number_width w low (selection.Part high from) p f = let a = f.0 in let b = f.1 in let d = f.2 in (omega arith, omega arith)
  number_width w low (selection.Up' _ (flat.more_of-FlatExpr i _) n) p f = let a = f.1 in let x = a.0 in let y = a.1 in (omega arith, omega arith)
  number_width w low (selection.Down' _ (flat.more_of-FlatExpr i _) n) p f = let a = f.1 in let x = a.0 in let y = a.1 in (omega arith, omega arith)

  pub number_order : (w low : ℕ) (s : FlatSelection) → FitsNumber (IsSignal count shapes) (Unit {0}) (Unit {0}) shapes w low s → IsOrdered s
  number_order w low (selection.Bit' _ i) f = tt
  number_order w low (selection.Part high from) f = f.1
  number_order w low (selection.Up' _ i n) f = tt
  number_order w low (selection.Down' _ i n) f = tt

  number_is : (place : Place) (c : Word) (low : ℕ) (s : FlatSelection) → ((number_meant shapes place c low s).length ≡ number_length s) × ((number_meant shapes place c low s).signed ≡ false)
  number_is place c low (selection.Bit' _ (flat.more_of-FlatExpr i _)) = (refl, refl)
  number_is place c low (selection.Part high from) = (refl, refl)
  number_is place c low (selection.Up' _ (flat.more_of-FlatExpr i _) n) = (refl, refl)
  number_is place c low (selection.Down' _ (flat.more_of-FlatExpr i _) n) = (refl, refl)

  pub number_own : (place : Place) (c : Word) (low : ℕ) (s : FlatSelection) (m : ℕ) (u : Bool) → c.width ≤ 128 → FitsNumber (IsSignal count shapes) (Unit {0}) (Unit {0}) shapes c.width low s → m ≡ number_length s → u ≡ false → IsOwn (number_meant shapes place c low s) m u
  number_own place c low s m u p f x y = record { length = x ∙ sym (number_is place c low s).0; signed = y ∙ sym (number_is place c low s).1; width = subst IsWidth (sym x) (number_width c.width low s p f) }

  -- the part at an index, and those after it
  list_at : (xs ys : List FlatExpr) (x : FlatExpr) → xs ≡ x ∷ ys → ((list_meant shapes xs).length ≡ (meant shapes x).length + (list_meant shapes ys).length) × (FitsList (IsSignal count shapes) (Unit {0}) (Unit {0}) shapes xs → Fits (IsSignal count shapes) (Unit {0}) (Unit {0}) shapes x × FitsList (IsSignal count shapes) (Unit {0}) (Unit {0}) shapes ys)
  list_at xs ys x e = (ap (λ (l : List FlatExpr). (list_meant shapes l).length) e, λ f. subst (FitsList (IsSignal count shapes) (Unit {0}) (Unit {0}) shapes) e f)

  pub part_at : (parts : List FlatExpr) (i : ℕ) (x : FlatExpr) → i < length parts → x ≡ get_or parts i x → ((list_meant shapes (drop i parts)).length ≡ (meant shapes x).length + (list_meant shapes (drop (i + 1) parts)).length) × (FitsList (IsSignal count shapes) (Unit {0}) (Unit {0}) shapes (drop i parts) → Fits (IsSignal count shapes) (Unit {0}) (Unit {0}) shapes x × FitsList (IsSignal count shapes) (Unit {0}) (Unit {0}) shapes (drop (i + 1) parts))
  part_at parts i x lt is =
      list_at (drop i parts) (drop (i + 1) parts) x
      (drop-cons parts i x lt ∙ ap (λ y. y ∷ drop (suc i) parts) (sym is) ∙ (let e : suc i ≡ i + 1 = omega arith in ap (λ k. x ∷ drop k parts) e))

  pub parts_done : (parts : List FlatExpr) (i : ℕ) → length parts ≤ i → (list_meant shapes (drop i parts)).length ≡ 0
  parts_done [] zero le = refl
  parts_done [] (suc i) le = refl
  parts_done (x ∷ parts) zero le = absurd (omega arith)
  parts_done (x ∷ parts) (suc i) le = parts_done parts i (omega arith)

pub replicated_own : (c : ℕ) (m : Meant) (k l : ℕ) (s : Bool) → k ≡ m.length → IsWidth (c * m.length) → l ≡ c * k → s ≡ false → IsOwn (replicated c m) l s
replicated_own c m k l s p w x y = record { length = x ∙ ap (λ n. c * n) p; signed = y; width = subst IsWidth (sym (x ∙ ap (λ n. c * n) p)) w }

pub plain_own : (m : Meant) (k : ℕ) (s : Bool) → IsWidth m.length → k ≡ m.length → m.signed ≡ false → s ≡ false → IsOwn m k s
plain_own m k s w x e y = record { length = x; signed = y ∙ sym e; width = subst IsWidth (sym x) w }

pub cast_own : (u : Bool) (m : Meant) (k l : ℕ) (s t : Bool) → IsOwn m k s → l ≡ k → t ≡ u → IsOwn (cast u m) l t
cast_own u m k l s t p x y = record { length = x ∙ p.length; signed = y; width = subst IsWidth (sym x) p.width }

pub list_unsigned : (shapes : ℕ → Shape) (parts : List FlatExpr) → (list_meant shapes parts).signed ≡ false
list_unsigned shapes [] = refl
list_unsigned shapes (x ∷ parts) = refl

-- what is asked of the names may be less
module _ (K L : ℕ → Type 0) (I J C D : Type 0) (names : (g : ℕ) → K g → L g) (indexes : I → J) (copies : C → D) (shapes : ℕ → Shape) where
  mutual
    pub fits_less : (e : FlatExpr) → Fits K I C shapes e → Fits L J D shapes e
    fits_less (flat.Literal n) h = h
    fits_less (flat.Signal place g) h = (names g h.0, h.1)
    fits_less (flat.Select place g s) h = (names g h.0, select_less g s h.1)
    fits_less (flat.SelectNumber place c low s) h = (h.0, number_less c.width low s h.1)
    fits_less (flat.Unary' operator _ (flat.more_of-FlatExpr a _)) h = fits_less a h
    fits_less (flat.Binary' _ (flat.more_of-FlatExpr a _) operator _ (flat.more_of-FlatExpr b _)) h = (fits_less a h.0, fits_less b h.1)
    fits_less (flat.Conditional' _ (flat.more_of-FlatExpr c _) _ (flat.more_of-FlatExpr a _) _ (flat.more_of-FlatExpr b _)) h = (fits_less c h.0, fits_less a h.1, fits_less b h.2)
    fits_less (flat.Parentheses' place _ (flat.more_of-FlatExpr a _)) h = fits_less a h
    fits_less (flat.Concatenation' place _ parts) h = (row_less parts h.0, h.1, copies h.2)
    fits_less (flat.Replication' place c _ parts) h = (row_less parts h.0, h.1, h.2, copies h.3)
    fits_less (flat.Signed' place _ (flat.more_of-FlatExpr a _)) h = fits_less a h
    fits_less (flat.Unsigned' place _ (flat.more_of-FlatExpr a _)) h = fits_less a h

    select_less : (g : ℕ) (s : FlatSelection) → FitsSelect K I C shapes g s → FitsSelect L J D shapes g s
    select_less g (selection.Bit' _ (flat.more_of-FlatExpr i _)) h = (fits_less i h.0, h.1, indexes h.2)
    select_less g (selection.Part high low) h = h
    select_less g (selection.Up' _ (flat.more_of-FlatExpr i _) n) h = (h.0, h.1, fits_less i h.2, h.3, indexes h.4)
    select_less g (selection.Down' _ (flat.more_of-FlatExpr i _) n) h = (h.0, h.1, fits_less i h.2, h.3, indexes h.4)

    number_less : (w low : ℕ) (s : FlatSelection) → FitsNumber K I C shapes w low s → FitsNumber L J D shapes w low s
    number_less w low (selection.Bit' _ (flat.more_of-FlatExpr i _)) h = (h.0, fits_less i h.1, h.2, indexes h.3)
    number_less w low (selection.Part high from) h = h
    number_less w low (selection.Up' _ (flat.more_of-FlatExpr i _) n) h = (h.0, h.1, fits_less i h.2, h.3, indexes h.4)
    number_less w low (selection.Down' _ (flat.more_of-FlatExpr i _) n) h = (h.0, h.1, fits_less i h.2, h.3, indexes h.4)

    row_less : {m : _} (parts : flat.Row_of-FlatExpr m) → FitsParts K I C shapes parts → FitsParts L J D shapes parts
    row_less flat.end_of-FlatExpr h = tt
    row_less (flat.more_of-FlatExpr a rest) h = (fits_less a h.0, row_less rest h.1)

  pub list_less : (parts : List FlatExpr) → FitsList K I C shapes parts → FitsList L J D shapes parts
  list_less [] h = tt
  list_less (x ∷ parts) h = (fits_less x h.0, list_less parts h.1)
