-- What an expression means and needs, by its parts: `got` and `more` are they, as the code reads them.
use Rattle.std.proofs.Common.{ℕ, ◌+◌, if◌then◌else◌, ◌≡◌, ◌*◌, List, true, false, refl, sym, ap, ◌∙◌, subst}
use Rattle.bits_core.specs.Word.{Word, IsWidth, IsWord}
use Rattle.src_text.specs.declared.refusal.Place.{Place}
use denote.Hole.Carrier.{hidden}
use Rattle.v_tree.specs.declared.expr.BinaryOperator.{BinaryOperator}
use Rattle.v_tree.specs.declared.expr.UnaryOperator.{UnaryOperator}
use Rattle.flat_tree.specs.declared.expr.FlatExpr.{FlatExpr, Select, SelectNumber, Unary, Binary, Conditional, Parentheses, Concatenation, Replication, Signed, Unsigned, Row_of-FlatExpr, end_of-FlatExpr, more_of-FlatExpr}
use Rattle.flat_tree.specs.declared.expr.FlatExpr.TheBlock.{hidden-the_row-FlatExpr-0, hidden-the_row-FlatExpr-1, items-the_row-FlatExpr, items_hidden-the_row-FlatExpr-1}
use Rattle.flat_tree.specs.declared.expr.FlatSelection.{FlatSelection}
use Rattle.flat_tree.specs.Values.{Shape, Meant, meant, parts_meant, select_meant, number_meant, unary_meant, binary_meant, conditional, replicated, cast, beside}
use Rattle.flat_values.specs.Fits.{Fits, FitsSelect, FitsNumber, FitsParts, FitsList, list_meant}
use Rattle.flat_tree.specs.Measures.{weight_of, nodes_of, unary_row, binary_row, left_width, right_width}
use Rattle.flat_tree.specs.Operators.{form_of, is_reduction}

-- parts by lists
parts_row : {m : _} (shapes : ℕ → Shape) (row : Row_of-FlatExpr m) → parts_meant shapes row ≡ list_meant shapes (items-the_row-FlatExpr _ row)
parts_row shapes end_of-FlatExpr = refl
parts_row shapes (more_of-FlatExpr a rest) = ap (beside (meant shapes a)) (parts_row shapes rest)

fits_row : {m : _} (K : ℕ → Type 0) (I C : Type 0) (shapes : ℕ → Shape) (row : Row_of-FlatExpr m) → FitsParts K I C shapes row → FitsList K I C shapes (items-the_row-FlatExpr _ row)
fits_row K I C shapes end_of-FlatExpr h = tt
fits_row K I C shapes (more_of-FlatExpr a rest) h = (h.0, fits_row K I C shapes rest h.1)

module _ (K : ℕ → Type 0) (I C : Type 0) (shapes : ℕ → Shape) {e : FlatExpr} where
  is_unary : (o : UnaryOperator) (a got : FlatExpr) → e ≡ Unary o a → got ≡ a → e ≡ Unary o got
  is_unary o a got is is_a = is ∙ ap (λ x. Unary o x) (sym is_a)

  pub meant-unary : (o : UnaryOperator) (a got : FlatExpr) → e ≡ Unary o a → got ≡ a → meant shapes e ≡ unary_meant o.op (meant shapes got)
  unfolding hidden-the_row-FlatExpr-0 hidden
  meant-unary o a got is is_a = ap (meant shapes) (is_unary o a got is is_a)

  pub fits-unary : (o : UnaryOperator) (a got : FlatExpr) → e ≡ Unary o a → got ≡ a → Fits K I C shapes e → Fits K I C shapes got
  unfolding hidden-the_row-FlatExpr-0 hidden
  fits-unary o a got is is_a h = subst (Fits K I C shapes) (is_unary o a got is is_a) h

  is_parentheses : (p : Place) (a got : FlatExpr) → e ≡ Parentheses p a → got ≡ a → e ≡ Parentheses p got
  is_parentheses p a got is is_a = is ∙ ap (λ x. Parentheses p x) (sym is_a)

  pub meant-parentheses : (p : Place) (a got : FlatExpr) → e ≡ Parentheses p a → got ≡ a → meant shapes e ≡ meant shapes got
  unfolding hidden-the_row-FlatExpr-0 hidden
  meant-parentheses p a got is is_a = ap (meant shapes) (is_parentheses p a got is is_a)

  pub fits-parentheses : (p : Place) (a got : FlatExpr) → e ≡ Parentheses p a → got ≡ a → Fits K I C shapes e → Fits K I C shapes got
  unfolding hidden-the_row-FlatExpr-0 hidden
  fits-parentheses p a got is is_a h = subst (Fits K I C shapes) (is_parentheses p a got is is_a) h

  is_signed : (p : Place) (a got : FlatExpr) → e ≡ Signed p a → got ≡ a → e ≡ Signed p got
  is_signed p a got is is_a = is ∙ ap (λ x. Signed p x) (sym is_a)

  pub meant-signed : (p : Place) (a got : FlatExpr) → e ≡ Signed p a → got ≡ a → meant shapes e ≡ cast true (meant shapes got)
  unfolding hidden-the_row-FlatExpr-0 hidden
  meant-signed p a got is is_a = ap (meant shapes) (is_signed p a got is is_a)

  pub fits-signed : (p : Place) (a got : FlatExpr) → e ≡ Signed p a → got ≡ a → Fits K I C shapes e → Fits K I C shapes got
  unfolding hidden-the_row-FlatExpr-0 hidden
  fits-signed p a got is is_a h = subst (Fits K I C shapes) (is_signed p a got is is_a) h

  is_unsigned : (p : Place) (a got : FlatExpr) → e ≡ Unsigned p a → got ≡ a → e ≡ Unsigned p got
  is_unsigned p a got is is_a = is ∙ ap (λ x. Unsigned p x) (sym is_a)

  pub meant-unsigned : (p : Place) (a got : FlatExpr) → e ≡ Unsigned p a → got ≡ a → meant shapes e ≡ cast false (meant shapes got)
  unfolding hidden-the_row-FlatExpr-0 hidden
  meant-unsigned p a got is is_a = ap (meant shapes) (is_unsigned p a got is is_a)

  pub fits-unsigned : (p : Place) (a got : FlatExpr) → e ≡ Unsigned p a → got ≡ a → Fits K I C shapes e → Fits K I C shapes got
  unfolding hidden-the_row-FlatExpr-0 hidden
  fits-unsigned p a got is is_a h = subst (Fits K I C shapes) (is_unsigned p a got is is_a) h

  -- a binary operator
  is_binary : (o : BinaryOperator) (a got b more : FlatExpr) → e ≡ Binary a o b → got ≡ a → more ≡ b → e ≡ Binary got o more
  is_binary o a got b more is is_a is_b = is ∙ ap (λ x. Binary x o b) (sym is_a) ∙ ap (λ y. Binary got o y) (sym is_b)

  pub meant-binary : (o : BinaryOperator) (a got b more : FlatExpr) → e ≡ Binary a o b → got ≡ a → more ≡ b → meant shapes e ≡ binary_meant o.place o.op (meant shapes got) (meant shapes more)
  unfolding hidden-the_row-FlatExpr-0 hidden
  meant-binary o a got b more is is_a is_b = ap (meant shapes) (is_binary o a got b more is is_a is_b)

  pub fits-binary : (o : BinaryOperator) (a got b more : FlatExpr) → e ≡ Binary a o b → got ≡ a → more ≡ b → Fits K I C shapes e → Fits K I C shapes got × Fits K I C shapes more
  unfolding hidden-the_row-FlatExpr-0 hidden
  fits-binary o a got b more is is_a is_b h = subst (Fits K I C shapes) (is_binary o a got b more is is_a is_b) h

  -- a condition and its branches
  is_conditional : (c test a got b more : FlatExpr) → e ≡ Conditional c a b → test ≡ c → got ≡ a → more ≡ b → e ≡ Conditional test got more
  is_conditional c test a got b more is is_c is_a is_b = is ∙ ap (λ x. Conditional x a b) (sym is_c) ∙ ap (λ x. Conditional test x b) (sym is_a) ∙ ap (λ y. Conditional test got y) (sym is_b)

  pub meant-conditional : (c test a got b more : FlatExpr) → e ≡ Conditional c a b → test ≡ c → got ≡ a → more ≡ b → meant shapes e ≡ conditional (meant shapes test) (meant shapes got) (meant shapes more)
  unfolding hidden-the_row-FlatExpr-0 hidden
  meant-conditional c test a got b more is is_c is_a is_b = ap (meant shapes) (is_conditional c test a got b more is is_c is_a is_b)

  pub fits-conditional : (c test a got b more : FlatExpr) → e ≡ Conditional c a b → test ≡ c → got ≡ a → more ≡ b → Fits K I C shapes e → Fits K I C shapes test × Fits K I C shapes got × Fits K I C shapes more
  unfolding hidden-the_row-FlatExpr-0 hidden
  fits-conditional c test a got b more is is_c is_a is_b h = subst (Fits K I C shapes) (is_conditional c test a got b more is is_c is_a is_b) h

  -- parts side by side
  pub meant-concatenation : (p : Place) (items got : List FlatExpr) → e ≡ Concatenation p items → got ≡ items → meant shapes e ≡ list_meant shapes got
  meant-concatenation p items got is is_a =
      ap (meant shapes) is ∙ parts_row shapes (hidden-the_row-FlatExpr-1 items) ∙ ap (list_meant shapes) (items_hidden-the_row-FlatExpr-1 items ∙ sym is_a)

  pub fits-concatenation : (p : Place) (items got : List FlatExpr) → e ≡ Concatenation p items → got ≡ items → Fits K I C shapes e → FitsList K I C shapes got × IsWidth (list_meant shapes got).length × C
  fits-concatenation p items got is is_a h =
      let f = subst (Fits K I C shapes) is h in
      let g = items_hidden-the_row-FlatExpr-1 items ∙ sym is_a in (
        subst (FitsList K I C shapes) g (fits_row K I C shapes (hidden-the_row-FlatExpr-1 items) f.0),
        subst (λ (m : Meant). IsWidth m.length) (parts_row shapes (hidden-the_row-FlatExpr-1 items) ∙ ap (list_meant shapes) g) f.1,
        f.2,
      )

  pub meant-replication : (p : Place) (c : ℕ) (items got : List FlatExpr) → e ≡ Replication p c items → got ≡ items → meant shapes e ≡ replicated c (list_meant shapes got)
  meant-replication p c items got is is_a =
      ap (meant shapes) is ∙ ap (replicated c) (parts_row shapes (hidden-the_row-FlatExpr-1 items) ∙ ap (list_meant shapes) (items_hidden-the_row-FlatExpr-1 items ∙ sym is_a))

  pub fits-replication : (p : Place) (c : ℕ) (items got : List FlatExpr) → e ≡ Replication p c items → got ≡ items → Fits K I C shapes e → FitsList K I C shapes got × IsWidth (list_meant shapes got).length × IsWidth (c * (list_meant shapes got).length) × C
  fits-replication p c items got is is_a h =
      let f = subst (Fits K I C shapes) is h in
      let g = items_hidden-the_row-FlatExpr-1 items ∙ sym is_a in
      let m = parts_row shapes (hidden-the_row-FlatExpr-1 items) ∙ ap (list_meant shapes) g in (
        subst (FitsList K I C shapes) g (fits_row K I C shapes (hidden-the_row-FlatExpr-1 items) f.0),
        subst (λ (m : Meant). IsWidth m.length) m f.1,
        subst (λ (m : Meant). IsWidth (c * m.length)) m f.2,
        f.3,
      )

  -- selects
  pub meant-select : (p : Place) (g : ℕ) (s : FlatSelection) → e ≡ Select p g s → meant shapes e ≡ select_meant shapes p g s
  meant-select p g s is = ap (meant shapes) is

  pub fits-select : (p : Place) (g : ℕ) (s : FlatSelection) → e ≡ Select p g s → Fits K I C shapes e → K g × FitsSelect K I C shapes g s
  fits-select p g s is h = subst (Fits K I C shapes) is h

  pub meant-number : (p : Place) (c : Word) (low : ℕ) (s : FlatSelection) → e ≡ SelectNumber p c low s → meant shapes e ≡ number_meant shapes p c low s
  meant-number p c low s is = ap (meant shapes) is

  pub fits-number : (p : Place) (c : Word) (low : ℕ) (s : FlatSelection) → e ≡ SelectNumber p c low s → Fits K I C shapes e → IsWord c × FitsNumber K I C shapes c.width low s
  fits-number p c low s is h = subst (Fits K I C shapes) is h

  pub weight-unary : (o : UnaryOperator) (a got : FlatExpr) → e ≡ Unary o a → got ≡ a → (w : ℕ) → weight_of shapes e w ≡ (let x = if is_reduction o.op then (meant shapes got).length else w in weight_of shapes got x + unary_row o.op x + 4)
  unfolding hidden-the_row-FlatExpr-0 hidden
  weight-unary o a got is is_a w = ap (λ x. weight_of shapes x w) (is_unary o a got is is_a)

  pub nodes-unary : (o : UnaryOperator) (a got : FlatExpr) → e ≡ Unary o a → got ≡ a → nodes_of shapes e ≡ 1 + nodes_of shapes got
  unfolding hidden-the_row-FlatExpr-0 hidden
  nodes-unary o a got is is_a = ap (nodes_of shapes) (is_unary o a got is is_a)

  pub weight-parentheses : (p : Place) (a got : FlatExpr) → e ≡ Parentheses p a → got ≡ a → (w : ℕ) → weight_of shapes e w ≡ weight_of shapes got w
  unfolding hidden-the_row-FlatExpr-0 hidden
  weight-parentheses p a got is is_a w = ap (λ x. weight_of shapes x w) (is_parentheses p a got is is_a)

  pub nodes-parentheses : (p : Place) (a got : FlatExpr) → e ≡ Parentheses p a → got ≡ a → nodes_of shapes e ≡ 1 + nodes_of shapes got
  unfolding hidden-the_row-FlatExpr-0 hidden
  nodes-parentheses p a got is is_a = ap (nodes_of shapes) (is_parentheses p a got is is_a)

  pub weight-signed : (p : Place) (a got : FlatExpr) → e ≡ Signed p a → got ≡ a → (w : ℕ) → weight_of shapes e w ≡ weight_of shapes got (meant shapes got).length + 4
  unfolding hidden-the_row-FlatExpr-0 hidden
  weight-signed p a got is is_a w = ap (λ x. weight_of shapes x w) (is_signed p a got is is_a)

  pub nodes-signed : (p : Place) (a got : FlatExpr) → e ≡ Signed p a → got ≡ a → nodes_of shapes e ≡ 1 + nodes_of shapes got
  unfolding hidden-the_row-FlatExpr-0 hidden
  nodes-signed p a got is is_a = ap (nodes_of shapes) (is_signed p a got is is_a)

  pub weight-unsigned : (p : Place) (a got : FlatExpr) → e ≡ Unsigned p a → got ≡ a → (w : ℕ) → weight_of shapes e w ≡ weight_of shapes got (meant shapes got).length + 4
  unfolding hidden-the_row-FlatExpr-0 hidden
  weight-unsigned p a got is is_a w = ap (λ x. weight_of shapes x w) (is_unsigned p a got is is_a)

  pub nodes-unsigned : (p : Place) (a got : FlatExpr) → e ≡ Unsigned p a → got ≡ a → nodes_of shapes e ≡ 1 + nodes_of shapes got
  unfolding hidden-the_row-FlatExpr-0 hidden
  nodes-unsigned p a got is is_a = ap (nodes_of shapes) (is_unsigned p a got is is_a)

  pub weight-binary : (o : BinaryOperator) (a got b more : FlatExpr) → e ≡ Binary a o b → got ≡ a → more ≡ b → (w : ℕ) →
      weight_of shapes e w ≡ (let m = (meant shapes got).length in let n = (meant shapes more).length in let x = left_width (form_of o.op) w m n in let y = right_width (form_of o.op) w m n in weight_of shapes got x + weight_of shapes more y + binary_row o.op x y + 4)
  unfolding hidden-the_row-FlatExpr-0 hidden
  weight-binary o a got b more is is_a is_b w = ap (λ x. weight_of shapes x w) (is_binary o a got b more is is_a is_b)

  pub nodes-binary : (o : BinaryOperator) (a got b more : FlatExpr) → e ≡ Binary a o b → got ≡ a → more ≡ b → nodes_of shapes e ≡ 1 + (nodes_of shapes got + nodes_of shapes more)
  unfolding hidden-the_row-FlatExpr-0 hidden
  nodes-binary o a got b more is is_a is_b = ap (nodes_of shapes) (is_binary o a got b more is is_a is_b)

  pub weight-conditional : (c test a got b more : FlatExpr) → e ≡ Conditional c a b → test ≡ c → got ≡ a → more ≡ b → (w : ℕ) →
      weight_of shapes e w ≡ (let v = (meant shapes test).length in weight_of shapes test v + (weight_of shapes got w + weight_of shapes more w) + (3 * w + v) + 4)
  unfolding hidden-the_row-FlatExpr-0 hidden
  weight-conditional c test a got b more is is_c is_a is_b w = ap (λ x. weight_of shapes x w) (is_conditional c test a got b more is is_c is_a is_b)

  pub nodes-conditional : (c test a got b more : FlatExpr) → e ≡ Conditional c a b → test ≡ c → got ≡ a → more ≡ b → nodes_of shapes e ≡ 1 + (nodes_of shapes test + (nodes_of shapes got + nodes_of shapes more))
  unfolding hidden-the_row-FlatExpr-0 hidden
  nodes-conditional c test a got b more is is_c is_a is_b = ap (nodes_of shapes) (is_conditional c test a got b more is is_c is_a is_b)
