-- What an expression reads, by its parts: `got` and `more` are they, as the code reads them.
use Rattle.std.proofs.Common.{◌≡◌, ℕ, List, [], ◌∷◌, length, refl, sym, ap, ◌∙◌, subst}
use Rattle.std.specs.Prelude.{◌||◌, All}
use Rattle.std.specs.List.{list_any}
use Rattle.std.proofs.lemmas.List.Elements.{All-nil, All-cons}
use denote.Hole.Carrier.{hidden}
use Rattle.src_text.specs.declared.refusal.Place.{Place}
use Rattle.v_tree.specs.declared.expr.BinaryOperator.{BinaryOperator}
use Rattle.v_tree.specs.declared.expr.UnaryOperator.{UnaryOperator}
use Rattle.v_views.specs.Spots.{Spot}
use Rattle.flat_tree.specs.declared.expr.FlatExpr.{FlatExpr, Unary, Binary, Conditional, Parentheses, Concatenation, Replication, Signed, Unsigned, Row_of-FlatExpr, end_of-FlatExpr, more_of-FlatExpr}
use Rattle.flat_tree.specs.declared.expr.FlatExpr.TheBlock.{hidden-the_row-FlatExpr-0, hidden-the_row-FlatExpr-1, items-the_row-FlatExpr, items_hidden-the_row-FlatExpr-1}
use Rattle.flat_tree.specs.declared.expr.FlatSelection.{FlatSelection}
use Rattle.flat_tree.specs.declared.expr.FlatSelection as selection
use Rattle.flat_tree.specs.declared.expr.FlatSelection.TheVariants as made
use Rattle.flat_tree.specs.declared.design.FlatSignal.{FlatSignal}
use Rattle.flat_tree.specs.Values.{Shape}
use Rattle.flat_language.specs.Reads.{reads, parts_read, index_reads}
use Rattle.flat_values.specs.Fits.{FitsList, FitsSelect, FitsNumber, shapes_of}
use Rattle.flat_reads.specs.Sets.{IsVector, IsReadable, IsReadableIndex}

row : {m : _} (shapes : ℕ → Shape) (x : Spot) (r : Row_of-FlatExpr m) → parts_read shapes r x ≡ list_any (λ z. reads shapes z x) (items-the_row-FlatExpr _ r)
row shapes x end_of-FlatExpr = refl
row shapes x (more_of-FlatExpr a rest) = ap (λ b. reads shapes a x || b) (row shapes x rest)

module _ (shapes : ℕ → Shape) (x : Spot) {e : FlatExpr} where
  pub reads-unary : (o : UnaryOperator) (a got : FlatExpr) → e ≡ Unary o a → got ≡ a → reads shapes e x ≡ reads shapes got x
  unfolding hidden-the_row-FlatExpr-0 hidden
  reads-unary o a got is is_a = ap (λ z. reads shapes z x) (is ∙ ap (λ z. Unary o z) (sym is_a))

  pub reads-parentheses : (p : Place) (a got : FlatExpr) → e ≡ Parentheses p a → got ≡ a → reads shapes e x ≡ reads shapes got x
  unfolding hidden-the_row-FlatExpr-0 hidden
  reads-parentheses p a got is is_a = ap (λ z. reads shapes z x) (is ∙ ap (λ z. Parentheses p z) (sym is_a))

  pub reads-signed : (p : Place) (a got : FlatExpr) → e ≡ Signed p a → got ≡ a → reads shapes e x ≡ reads shapes got x
  unfolding hidden-the_row-FlatExpr-0 hidden
  reads-signed p a got is is_a = ap (λ z. reads shapes z x) (is ∙ ap (λ z. Signed p z) (sym is_a))

  pub reads-unsigned : (p : Place) (a got : FlatExpr) → e ≡ Unsigned p a → got ≡ a → reads shapes e x ≡ reads shapes got x
  unfolding hidden-the_row-FlatExpr-0 hidden
  reads-unsigned p a got is is_a = ap (λ z. reads shapes z x) (is ∙ ap (λ z. Unsigned p z) (sym is_a))

  pub reads-binary : (o : BinaryOperator) (a got b more : FlatExpr) → e ≡ Binary a o b → got ≡ a → more ≡ b → reads shapes e x ≡ (reads shapes got x || reads shapes more x)
  unfolding hidden-the_row-FlatExpr-0 hidden
  reads-binary o a got b more is is_a is_b = ap (λ z. reads shapes z x) (is ∙ ap (λ z. Binary z o b) (sym is_a) ∙ ap (λ z. Binary got o z) (sym is_b))

  pub reads-conditional : (c test a got b more : FlatExpr) → e ≡ Conditional c a b → test ≡ c → got ≡ a → more ≡ b → reads shapes e x ≡ (reads shapes test x || (reads shapes got x || reads shapes more x))
  unfolding hidden-the_row-FlatExpr-0 hidden
  reads-conditional c test a got b more is is_c is_a is_b =
      ap (λ z. reads shapes z x) (is ∙ ap (λ z. Conditional z a b) (sym is_c) ∙ ap (λ z. Conditional test z b) (sym is_a) ∙ ap (λ z. Conditional test got z) (sym is_b))

  pub reads-concatenation : (p : Place) (items got : List FlatExpr) → e ≡ Concatenation p items → got ≡ items → reads shapes e x ≡ list_any (λ z. reads shapes z x) got
  reads-concatenation p items got is is_a = ap (λ z. reads shapes z x) is ∙ row shapes x (hidden-the_row-FlatExpr-1 items) ∙ ap (list_any (λ z. reads shapes z x)) (items_hidden-the_row-FlatExpr-1 items ∙ sym is_a)

  pub reads-replication : (p : Place) (c : ℕ) (items got : List FlatExpr) → e ≡ Replication p c items → got ≡ items → reads shapes e x ≡ list_any (λ z. reads shapes z x) got
  reads-replication p c items got is is_a = ap (λ z. reads shapes z x) is ∙ row shapes x (hidden-the_row-FlatExpr-1 items) ∙ ap (list_any (λ z. reads shapes z x)) (items_hidden-the_row-FlatExpr-1 items ∙ sym is_a)

-- the index of a select
module _ (shapes : ℕ → Shape) (x : Spot) {s : FlatSelection} where
  pub index-bit : (i got : FlatExpr) → s ≡ made.Bit i → got ≡ i → index_reads shapes s x ≡ reads shapes got x
  unfolding hidden-the_row-FlatExpr-0 hidden
  index-bit i got is is_i = ap (λ z. index_reads shapes z x) (is ∙ ap made.Bit (sym is_i))

  pub index-up : (i got : FlatExpr) (n : ℕ) → s ≡ made.Up i n → got ≡ i → index_reads shapes s x ≡ reads shapes got x
  unfolding hidden-the_row-FlatExpr-0 hidden
  index-up i got n is is_i = ap (λ z. index_reads shapes z x) (is ∙ ap (λ j. made.Up j n) (sym is_i))

  pub index-down : (i got : FlatExpr) (n : ℕ) → s ≡ made.Down i n → got ≡ i → index_reads shapes s x ≡ reads shapes got x
  unfolding hidden-the_row-FlatExpr-0 hidden
  index-down i got n is is_i = ap (λ z. index_reads shapes z x) (is ∙ ap (λ j. made.Down j n) (sym is_i))

module _ (signals : List FlatSignal) {s : FlatSelection} where
  pub readable-bit : (i got : FlatExpr) → s ≡ made.Bit i → got ≡ i → IsReadableIndex signals s → IsReadable signals got
  unfolding hidden-the_row-FlatExpr-0 hidden
  readable-bit i got is is_i h = subst (IsReadableIndex signals) (is ∙ ap made.Bit (sym is_i)) h

  pub readable-up : (i got : FlatExpr) (n : ℕ) → s ≡ made.Up i n → got ≡ i → IsReadableIndex signals s → IsReadable signals got
  unfolding hidden-the_row-FlatExpr-0 hidden
  readable-up i got n is is_i h = subst (IsReadableIndex signals) (is ∙ ap (λ j. made.Up j n) (sym is_i)) h

  pub readable-down : (i got : FlatExpr) (n : ℕ) → s ≡ made.Down i n → got ≡ i → IsReadableIndex signals s → IsReadable signals got
  unfolding hidden-the_row-FlatExpr-0 hidden
  readable-down i got n is is_i h = subst (IsReadableIndex signals) (is ∙ ap (λ j. made.Down j n) (sym is_i)) h

-- an index of what is taken is taken
module _ (signals : List FlatSignal) where
  pub select_index_fits : (g : ℕ) (s : FlatSelection) → FitsSelect (IsVector (length signals) (shapes_of signals)) (Unit {0}) (Unit {0}) (shapes_of signals) g s → IsReadableIndex signals s
  select_index_fits g (selection.Bit' _ (more_of-FlatExpr i _)) f = f.0
  select_index_fits g (selection.Part high low) f = tt
  select_index_fits g (selection.Up' _ (more_of-FlatExpr i _) n) f = f.2
  select_index_fits g (selection.Down' _ (more_of-FlatExpr i _) n) f = f.2

  pub number_index_fits : (w low : ℕ) (s : FlatSelection) → FitsNumber (IsVector (length signals) (shapes_of signals)) (Unit {0}) (Unit {0}) (shapes_of signals) w low s → IsReadableIndex signals s
  number_index_fits w low (selection.Bit' _ (more_of-FlatExpr i _)) f = f.1
  number_index_fits w low (selection.Part high from) f = tt
  number_index_fits w low (selection.Up' _ (more_of-FlatExpr i _) n) f = f.2
  number_index_fits w low (selection.Down' _ (more_of-FlatExpr i _) n) f = f.2

  -- parts of what is taken are taken
  pub parts_fit : (parts : List FlatExpr) → FitsList (IsVector (length signals) (shapes_of signals)) (Unit {0}) (Unit {0}) (shapes_of signals) parts → All (IsReadable signals) parts
  parts_fit [] f = All-nil (IsReadable signals)
  parts_fit (e ∷ rest) f = All-cons (IsReadable signals) e rest f.0 (parts_fit rest f.1)
