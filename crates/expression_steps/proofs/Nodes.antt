-- What an expression asks for and needs, by its node: `got` and the like are its parts, as the code reads them.
use Rattle.std.proofs.Common.{◌≡◌, ℕ, zero, suc, ◌+◌, ◌*◌, ◌<◌, ◌≤◌, true, false, length, List, [], ◌∷◌, Option, Some, refl, sym, ap, ◌∙◌, subst, arith}
use Rattle.std.specs.Prelude.{ℤ, map, slice_get, nat_lt, if◌then◌else◌}
use denote.Hole.Carrier.{hidden}
use Rattle.bits_core.specs.Word.{number, at_zero}
use Rattle.word_eqs.specs.declared.term.TermId.{TermId}
use Rattle.word_eqs.specs.Graph.{Graph, IsGraph}
use Rattle.word_eqs.specs.Meaning.{Values}
use Rattle.joint_ir.specs.declared.ctype.IntType.{IntType}
use Rattle.joint_ir.specs.declared.expr.BinaryOp.{BinaryOp}
use Rattle.joint_ir.specs.declared.expr.LogicOp.{LogicOp}
use Rattle.joint_ir.specs.declared.expr.LogicOp.TheVariants.{And, Or}
use Rattle.joint_ir.specs.declared.expr.Slot.TheVariants.{Global, Local, Member, BoundValue}
use Rattle.joint_ir.specs.declared.expr.Slot.{Slot}
use Rattle.joint_ir.specs.declared.expr.TExpr.{TExpr}
use Rattle.joint_ir.specs.declared.expr.TNode.{TNode, Read, Index, Unary, Binary, Logic, Choose, Convert}
use Rattle.joint_ir.specs.declared.expr.TNode.TheBlock.{hidden-the_row-TExpr-0}
use Rattle.joint_ir.specs.declared.expr.UnaryOp.{UnaryOp}
use Rattle.joint_ir.specs.declared.program.CProgram.{CProgram}
use Rattle.joint_ir.specs.declared.program.PropId.{PropId}
use Rattle.joint_ir.specs.declared.program.PropKind.TheVariants as kind
use Rattle.joint_ir.specs.Types.{int, converted, IsType, Single}
use Rattle.joint_ir.specs.States.{element_count}
use Rattle.joint_ir.specs.Steps.{slot_type}
use Rattle.joint_ir.specs.Values.{Answer, Value, Rows, and_then, first_of, element_at, is_zero, unary_value, binary_value, logic_value, node_value, value_of}
use Rattle.joint_ir.specs.Weights.{slot_length, expr_weight, node_weight, read_weight, unary_weight, binary_weight, convert_weight}
use Rattle.joint_ir.specs.WellFormed.{Scope, FitsNode, FitsExpr, FitsUnary, FitsBinary, IsProp, IsObject, IsVisible, is_array, is_bound}
use Rattle.sized_terms.specs.declared.SizedTerm.{SizedTerm}
use Rattle.sized_terms.specs.Sized.{Has, Builds, IsMade, bits}
use Rattle.element_terms.specs.Elements.{sized, AreElements}
use Rattle.checked_terms.specs.declared.Checked.{Checked}
use Rattle.checked_terms.specs.Checked.{stands}
use Rattle.unrolled.specs.Elements.{terms_of}
use Rattle.unrolled.specs.declared.Objects.{Objects as Terms}
use Rattle.expression_steps.specs.declared.steps.Split.{Split}
use Rattle.unrolled.specs.declared.Unrolled.{Unrolled}
use Rattle.expression_steps.specs.Asking.{Asks, IsDone, IsSplit, IsJoined, side_of}
use Rattle.expression_steps.specs.Objects.{numbers_of, AreObjects, StandFor, IsReady, AsksFor}
use Rattle.expression_steps.proofs.Stretches.{checked_asks, asks_then, asks_as, logic_asks, choose_asks, there_asks}

-- what an expression asked for, where it is known to fit
pub asked : (u0 u1 : Unrolled) (o : Terms) (frames : ℕ) (e : TExpr) (g t : SizedTerm) (c : Scope) → FitsExpr c e → AreObjects c u0.terms o → Has u0.terms g → AsksFor u0 u1 o frames e g t →
    Asks Rows u0 u1 e.ty (8 * expr_weight c.program e) g t (StandFor c frames o) (λ v rows. value_of rows e)
asked u0 u1 o frames e g t c fits objects has A = A c fits objects has

pub objects_kept : (c : Scope) (g h : Graph) (o : Terms) → ((y : SizedTerm) → Has g y → Has h y) → AreObjects c g o → AreObjects c h o
objects_kept c g h o k p = record { count = p.count; has = λ slot vis i t at. k (sized t (slot_type c.program slot).bits) (p.has slot vis i t at) }

-- a part that fits, at a later graph and under another guard
pub ready : (c : Scope) (g h : Graph) (o : Terms) (e : TExpr) (guard : SizedTerm) → FitsExpr c e → AreObjects c g o → ((y : SizedTerm) → Has g y → Has h y) → Has h guard → guard.width ≡ 1 → IsReady h o e guard
ready c g h o e guard fits objects k has one = record { scope = c; fits = fits; objects = objects_kept c g h o k objects; there = has; bit = one }

-- a read of an object that is no array
first_is : (read : ℕ → ℤ) (v : Values) (ids : List TermId) (t : TermId) → slice_get ids 0 ≡ Some t → first_of (map (λ (t : TermId). read (v.term t.0).value) ids) ≡ read (v.term t.0).value
first_is read v [] t at = cc
first_is read v (x ∷ ids) t at = let e : x ≡ t = cc in ap (λ (t : TermId). read (v.term t.0).value) e

pub done_read : (u : Unrolled) (o : Terms) (frames : ℕ) (e : TExpr) (g : SizedTerm) (slot : Slot) (t : TermId) → IsGraph u.terms → e.node ≡ Read slot → is_bound slot ≡ false → slice_get (terms_of o slot) 0 ≡ Some t →
    AsksFor u u o frames e g (sized t e.ty.bits)
done_read u o frames e g slot t p is stored at c fits objects has =
    let F : FitsNode c e.ty (Read slot) = subst (FitsNode c e.ty) is fits in
    let h = objects.has slot F.0.visible 0 t at in
    let h' : Has u.terms (sized t e.ty.bits) = subst (λ (ty : IntType). Has u.terms (sized t ty.bits)) (sym F.1) h in
    asks_as Rows u u e.ty (8 * expr_weight c.program e) (8 * expr_weight c.program e) g (sized t e.ty.bits) (StandFor c frames o) (λ v rows. Value (first_of (rows slot))) (λ v rows. value_of rows e) (omega arith)
    (λ v rows. sym (ap (node_value rows e.ty) is))
    (there_asks Rows u e.ty (8 * expr_weight c.program e) g (sized t e.ty.bits) (StandFor c frames o) (λ v rows. first_of (rows slot)) p h' refl
    (λ v rows st.
    ap (λ (ty : IntType). stands ty v (sized t e.ty.bits)) F.1
    ∙ sym (first_is (number (slot_type c.program slot).signed (slot_type c.program slot).bits) v (terms_of o slot) t at)
    ∙ ap first_of (st.objects slot F.0.visible stored)))

-- an object that has elements
counted : (n : ℕ) → nat_lt 0 n ≡ true → element_count n ≡ n
counted zero e = cc
counted (suc n) e = refl

some_count : (n : ℕ) → 0 < element_count n
some_count zero = omega arith
some_count (suc n) = omega arith

pub some_terms : (c : Scope) (g : Graph) (o : Terms) (slot : Slot) → AreObjects c g o → IsVisible c slot → is_bound slot ≡ false → 0 < length (terms_of o slot)
some_terms c g o slot objects vis stored = let e = objects.count slot vis stored in let p = some_count (slot_length c.program slot) in omega arith

pub array_stored : (c : Scope) (slot : Slot) → IsObject c slot true → is_bound slot ≡ false
array_stored c (Global i) o = refl
array_stored c (Local i) o = refl
array_stored c (Member i) o = refl
array_stored c BoundValue o = let e : false ≡ true = o.shape in cc

-- an element of an array
module _ (e a got : TExpr) (slot : Slot) (p : PropId) (is : e.node ≡ Index slot a p) (is_a : got ≡ a) where
  index_node : e.node ≡ Index slot got p
  index_node = is ∙ ap (λ x. Index slot x p) (sym is_a)

  pub fits_index : (c : Scope) → FitsExpr c e → IsObject c slot true × (e.ty ≡ slot_type c.program slot) × IsProp c.program kind.Bounds p × FitsExpr c got
  unfolding hidden-the_row-TExpr-0 hidden
  fits_index c f = subst (FitsNode c e.ty) index_node f

  value_index : (rows : Rows) → value_of rows e ≡ and_then (value_of rows got) (element_at (rows slot) p)
  unfolding hidden-the_row-TExpr-0 hidden
  value_index rows = ap (node_value rows e.ty) index_node

  weight_index : (c : CProgram) → expr_weight c e ≡ expr_weight c got + read_weight (slot_length c slot) got.ty.bits e.ty.bits + 4
  unfolding hidden-the_row-TExpr-0 hidden
  weight_index c = ap (node_weight c e.ty) index_node

  pub array_terms : (c : Scope) (g : Graph) (o : Terms) → FitsExpr c e → AreObjects c g o → AreElements g (terms_of o slot) e.ty.bits
  array_terms c g o fits objects k t at =
      let f = fits_index c fits in
      subst (λ (ty : IntType). Has g (sized t ty.bits)) (sym f.1) (objects.has slot f.0.visible k t at)

  pub done_index : (u0 u1 u2 : Unrolled) (o : Terms) (frames : ℕ) (g x : SizedTerm) (r : Checked) → AsksFor u0 u1 o frames got g x →
      IsDone u1 u2 e.ty (8 * read_weight (length (terms_of o slot)) got.ty.bits e.ty.bits) (3 + 3 * length (terms_of o slot)) g r (λ v. element_at (numbers_of (number e.ty.signed e.ty.bits) v (terms_of o slot)) p (stands got.ty v x)) →
      AsksFor u0 u2 o frames e g r.value
  done_index u0 u1 u2 o frames g x r A D c fits objects has =
      let holds = StandFor c frames o in
      let w = weight_index c.program in
      let f = fits_index c fits in
      let row : ℕ = 8 * read_weight (length (terms_of o slot)) got.ty.bits e.ty.bits in
      let n : length (terms_of o slot) ≡ slot_length c.program slot = objects.count slot f.0.visible (array_stored c slot f.0) ∙ counted (slot_length c.program slot) f.0.shape in
      let row_is : row ≡ 8 * read_weight (slot_length c.program slot) got.ty.bits e.ty.bits = ap (λ k. 8 * read_weight k got.ty.bits e.ty.bits) n in
      asks_as Rows u0 u2 e.ty (8 * expr_weight c.program got + row) (8 * expr_weight c.program e) g r.value holds (λ v rows. and_then (value_of rows got) (element_at (rows slot) p)) (λ v rows. value_of rows e) (omega arith)
      (λ v rows. sym (value_index rows))
      (asks_then Rows u0 u1 u2 got.ty e.ty (8 * expr_weight c.program got) row g x r.value holds (λ v rows. value_of rows got) (λ v rows. element_at (rows slot) p) (A c f.3 objects has)
      (checked_asks Rows u1 u2 u2.terms e.ty row (3 + 3 * length (terms_of o slot)) g r holds (λ v rows. element_at (rows slot) p (stands got.ty v x)) (λ v. element_at (numbers_of (number e.ty.signed e.ty.bits) v (terms_of o slot)) p (stands got.ty v x))
      (λ v q rows h.
      ap (λ l. element_at l p (stands got.ty v x)) (ap (λ (ty : IntType). numbers_of (number ty.signed ty.bits) v (terms_of o slot)) f.1 ∙ h.objects slot f.0.visible (array_stored c slot f.0))) D.checked refl D.list))

-- a unary operator
module _ (e a got : TExpr) (op : UnaryOp) (p : Option PropId) (is : e.node ≡ Unary op a p) (is_a : got ≡ a) where
  unary_node : e.node ≡ Unary op got p
  unary_node = is ∙ ap (λ x. Unary op x p) (sym is_a)

  pub fits_unary : (c : Scope) → FitsExpr c e → FitsUnary c.program op e.ty got.ty p × FitsExpr c got
  unfolding hidden-the_row-TExpr-0 hidden
  fits_unary c f = subst (FitsNode c e.ty) unary_node f

  value_unary : (rows : Rows) → value_of rows e ≡ and_then (value_of rows got) (unary_value op e.ty p)
  unfolding hidden-the_row-TExpr-0 hidden
  value_unary rows = ap (node_value rows e.ty) unary_node

  weight_unary : (c : CProgram) → expr_weight c e ≡ expr_weight c got + unary_weight op e.ty got.ty.bits + 4
  unfolding hidden-the_row-TExpr-0 hidden
  weight_unary c = ap (node_weight c e.ty) unary_node

  pub done_unary : (u0 u1 u2 : Unrolled) (o : Terms) (frames : ℕ) (g x : SizedTerm) (r : Checked) → AsksFor u0 u1 o frames got g x →
      IsDone u1 u2 e.ty (8 * unary_weight op e.ty got.ty.bits) 5 g r (λ v. unary_value op e.ty p (stands got.ty v x)) → AsksFor u0 u2 o frames e g r.value
  done_unary u0 u1 u2 o frames g x r A D c fits objects has =
      let holds = StandFor c frames o in
      let w = weight_unary c.program in
      asks_as Rows u0 u2 e.ty (8 * expr_weight c.program got + 8 * unary_weight op e.ty got.ty.bits) (8 * expr_weight c.program e) g r.value holds (λ v rows. and_then (value_of rows got) (unary_value op e.ty p)) (λ v rows. value_of rows e) (omega arith)
      (λ v rows. sym (value_unary rows))
      (asks_then Rows u0 u1 u2 got.ty e.ty (8 * expr_weight c.program got) (8 * unary_weight op e.ty got.ty.bits) g x r.value holds (λ v rows. value_of rows got) (λ v rows. unary_value op e.ty p) (A c (fits_unary c fits).1 objects has)
      (checked_asks Rows u1 u2 u2.terms e.ty (8 * unary_weight op e.ty got.ty.bits) 5 g r holds (λ v rows. unary_value op e.ty p (stands got.ty v x)) (λ v. unary_value op e.ty p (stands got.ty v x)) (λ v q s h. refl) D.checked refl D.list))

-- a binary operator
module _ (e a got b more : TExpr) (op : BinaryOp) (d p : Option PropId) (is : e.node ≡ Binary op a b d p) (is_a : got ≡ a) (is_b : more ≡ b) where
  binary_node : e.node ≡ Binary op got more d p
  binary_node = is ∙ ap (λ x. Binary op x b d p) (sym is_a) ∙ ap (λ y. Binary op got y d p) (sym is_b)

  pub fits_binary : (c : Scope) → FitsExpr c e → FitsBinary c.program op e.ty got.ty more.ty d p × FitsExpr c got × FitsExpr c more
  unfolding hidden-the_row-TExpr-0 hidden
  fits_binary c f = subst (FitsNode c e.ty) binary_node f

  value_binary : (rows : Rows) → value_of rows e ≡ and_then (value_of rows got) (λ x. and_then (value_of rows more) (binary_value op e.ty d p x))
  unfolding hidden-the_row-TExpr-0 hidden
  value_binary rows = ap (node_value rows e.ty) binary_node

  weight_binary : (c : CProgram) → expr_weight c e ≡ expr_weight c got + expr_weight c more + binary_weight op e.ty got.ty.bits more.ty.bits + 4
  unfolding hidden-the_row-TExpr-0 hidden
  weight_binary c = ap (node_weight c e.ty) binary_node

  pub done_binary : (u0 u1 u2 u3 : Unrolled) (o : Terms) (frames : ℕ) (g x y : SizedTerm) (r : Checked) → AsksFor u0 u1 o frames got g x → AsksFor u1 u2 o frames more g y →
      IsDone u2 u3 e.ty (8 * binary_weight op e.ty got.ty.bits more.ty.bits) 11 g r (λ v. binary_value op e.ty d p (stands got.ty v x) (stands more.ty v y)) → AsksFor u0 u3 o frames e g r.value
  done_binary u0 u1 u2 u3 o frames g x y r A B D c fits objects has =
      let holds = StandFor c frames o in
      let w = weight_binary c.program in
      let row : ℕ = 8 * binary_weight op e.ty got.ty.bits more.ty.bits in
      let f = fits_binary c fits in
      let first = A c f.1 objects has in
      let second = B c f.2 (objects_kept c u0.terms u1.terms o first.builds.kept objects) (first.builds.kept g has) in
      asks_as Rows u0 u3 e.ty (8 * expr_weight c.program got + (8 * expr_weight c.program more + row)) (8 * expr_weight c.program e) g r.value holds (λ v rows. and_then (value_of rows got) (λ x. and_then (value_of rows more) (binary_value op e.ty d p x))) (λ v rows. value_of rows e) (omega arith)
      (λ v rows. sym (value_binary rows))
      (asks_then Rows u0 u1 u3 got.ty e.ty (8 * expr_weight c.program got) (8 * expr_weight c.program more + row) g x r.value holds (λ v rows. value_of rows got) (λ v rows x. and_then (value_of rows more) (binary_value op e.ty d p x)) first
      (asks_then Rows u1 u2 u3 more.ty e.ty (8 * expr_weight c.program more) row g y r.value holds (λ v rows. value_of rows more) (λ v rows. binary_value op e.ty d p (stands got.ty v x)) second
      (checked_asks Rows u2 u3 u3.terms e.ty row 11 g r holds (λ v rows. binary_value op e.ty d p (stands got.ty v x) (stands more.ty v y)) (λ v. binary_value op e.ty d p (stands got.ty v x) (stands more.ty v y)) (λ v q s h. refl) D.checked refl D.list)))

-- `&&` and `||`
module _ (e a got b more : TExpr) (op : LogicOp) (is : e.node ≡ Logic op a b) (is_a : got ≡ a) (is_b : more ≡ b) where
  logic_node : e.node ≡ Logic op got more
  logic_node = is ∙ ap (λ x. Logic op x b) (sym is_a) ∙ ap (λ y. Logic op got y) (sym is_b)

  pub fits_logic : (c : Scope) → FitsExpr c e → (e.ty ≡ int) × FitsExpr c got × FitsExpr c more
  unfolding hidden-the_row-TExpr-0 hidden
  fits_logic c f = subst (FitsNode c e.ty) logic_node f

  value_logic : (rows : Rows) → value_of rows e ≡ and_then (value_of rows got) (λ x. logic_value op x (value_of rows more))
  unfolding hidden-the_row-TExpr-0 hidden
  value_logic rows = ap (node_value rows e.ty) logic_node

  weight_logic : (c : CProgram) → expr_weight c e ≡ expr_weight c got + expr_weight c more + (got.ty.bits + more.ty.bits + 8) + 4
  unfolding hidden-the_row-TExpr-0 hidden
  weight_logic c = ap (node_weight c e.ty) logic_node

  pub done_logic : (u0 u1 u2 u3 u4 : Unrolled) (o : Terms) (frames : ℕ) (g x y t : SizedTerm) (s : Split) → AsksFor u0 u1 o frames got g x → IsSplit u1 u2 g x s → Has u2.terms (side_of op s) → AsksFor u2 u3 o frames more (side_of op s) y →
      IsJoined u3 u4 op s.set y t → AsksFor u0 u4 o frames e g t
  done_logic u0 u1 u2 u3 u4 o frames g x y t s A S hs B J c fits objects has =
      let holds = StandFor c frames o in
      let w = weight_logic c.program in
      let f = fits_logic c fits in
      let first = A c f.1 objects has in
      let second = B c f.2 (objects_kept c u1.terms u2.terms o S.builds.kept (objects_kept c u0.terms u1.terms o first.builds.kept objects)) hs in
      subst (λ (ty : IntType). Asks Rows u0 u4 ty (8 * expr_weight c.program e) g t holds (λ v rows. value_of rows e)) (sym f.0)
      (asks_as Rows u0 u4 int (8 * expr_weight c.program got + 8 * expr_weight c.program more + 3 * got.ty.bits + 3 * more.ty.bits + 3) (8 * expr_weight c.program e) g t holds (λ v rows. and_then (value_of rows got) (λ x. logic_value op x (value_of rows more))) (λ v rows. value_of rows e) (omega arith)
      (λ v rows. sym (value_logic rows))
      (logic_asks Rows u0 u1 u2 u3 u4 op got.ty more.ty (8 * expr_weight c.program got) (8 * expr_weight c.program more) g x y t s holds (λ v rows. value_of rows got) (λ v rows. value_of rows more) first S second J))

-- a choice
module _ (e c0 test a got b more : TExpr) (is : e.node ≡ Choose c0 a b) (is_c : test ≡ c0) (is_a : got ≡ a) (is_b : more ≡ b) where
  choose_node : e.node ≡ Choose test got more
  choose_node = is ∙ ap (λ x. Choose x a b) (sym is_c) ∙ ap (λ x. Choose test x b) (sym is_a) ∙ ap (λ y. Choose test got y) (sym is_b)

  pub fits_choose : (c : Scope) → FitsExpr c e → (got.ty ≡ e.ty) × (more.ty ≡ e.ty) × FitsExpr c test × FitsExpr c got × FitsExpr c more
  unfolding hidden-the_row-TExpr-0 hidden
  fits_choose c f = let h = subst (FitsNode c e.ty) choose_node f in (h.1, h.2, h.3, h.4, h.5)

  value_choose : (rows : Rows) → value_of rows e ≡ and_then (value_of rows test) (λ x. if is_zero x then value_of rows more else value_of rows got)
  unfolding hidden-the_row-TExpr-0 hidden
  value_choose rows = ap (node_value rows e.ty) choose_node

  weight_choose : (c : CProgram) → expr_weight c e ≡ expr_weight c test + expr_weight c got + expr_weight c more + (3 * e.ty.bits + test.ty.bits + 8) + 4
  unfolding hidden-the_row-TExpr-0 hidden
  weight_choose c = ap (node_weight c e.ty) choose_node

  pub done_choose : (u0 u1 u2 u3 u4 u5 : Unrolled) (o : Terms) (frames : ℕ) (g x y z t : SizedTerm) (s : Split) → AsksFor u0 u1 o frames test g x → IsSplit u1 u2 g x s → AsksFor u2 u3 o frames got s.taken y → AsksFor u3 u4 o frames more s.other z →
      u5.list ≡ u4.list → IsMade u4.terms u5.terms y.width (3 * y.width) 1 t (λ v. at_zero (bits v s.set) (bits v z) (bits v y)) → AsksFor u0 u5 o frames e g t
  done_choose u0 u1 u2 u3 u4 u5 o frames g x y z t s A S B C l M c fits objects has =
      let holds = StandFor c frames o in
      let w = weight_choose c.program in
      let f = fits_choose c fits in
      let first = A c f.2 objects has in
      let at2 = objects_kept c u1.terms u2.terms o S.builds.kept (objects_kept c u0.terms u1.terms o first.builds.kept objects) in
      let second = B c f.3 at2 S.has_taken in
      let third = C c f.4 (objects_kept c u2.terms u3.terms o second.builds.kept at2) (second.builds.kept s.other S.has_other) in
      let second' = subst (λ (ty : IntType). Asks Rows u2 u3 ty (8 * expr_weight c.program got) s.taken y holds (λ v rows. value_of rows got)) f.0 second in
      let third' = subst (λ (ty : IntType). Asks Rows u3 u4 ty (8 * expr_weight c.program more) s.other z holds (λ v rows. value_of rows more)) f.1 third in
      asks_as Rows u0 u5 e.ty (8 * expr_weight c.program test + 8 * expr_weight c.program got + 8 * expr_weight c.program more + 3 * test.ty.bits + 2 + 3 * e.ty.bits) (8 * expr_weight c.program e) g t holds (λ v rows. and_then (value_of rows test) (λ x. if is_zero x then value_of rows more else value_of rows got)) (λ v rows. value_of rows e) (omega arith)
      (λ v rows. sym (value_choose rows))
      (choose_asks Rows u0 u1 u2 u3 u4 u5 test.ty e.ty (8 * expr_weight c.program test) (8 * expr_weight c.program got) (8 * expr_weight c.program more) g x y z t s holds (λ v rows. value_of rows test) (λ v rows. value_of rows got) (λ v rows. value_of rows more) first S second' third' l M)

-- a conversion
module _ (e a got : TExpr) (is : e.node ≡ Convert a) (is_a : got ≡ a) where
  convert_node : e.node ≡ Convert got
  convert_node = is ∙ ap Convert (sym is_a)

  pub fits_convert : (c : Scope) → FitsExpr c e → IsType e.ty × FitsExpr c got
  unfolding hidden-the_row-TExpr-0 hidden
  fits_convert c f = subst (FitsNode c e.ty) convert_node f

  value_convert : (rows : Rows) → value_of rows e ≡ and_then (value_of rows got) (λ x. Value (converted e.ty x))
  unfolding hidden-the_row-TExpr-0 hidden
  value_convert rows = ap (node_value rows e.ty) convert_node

  weight_convert : (c : CProgram) → expr_weight c e ≡ expr_weight c got + convert_weight e.ty got.ty.bits + 4
  unfolding hidden-the_row-TExpr-0 hidden
  weight_convert c = ap (node_weight c e.ty) convert_node

  pub done_convert : (u0 u1 u2 : Unrolled) (o : Terms) (frames : ℕ) (g x : SizedTerm) (r : Checked) → AsksFor u0 u1 o frames got g x →
      IsDone u1 u2 e.ty (8 * convert_weight e.ty got.ty.bits) 1 g r (λ v. Value (converted e.ty (stands got.ty v x))) → AsksFor u0 u2 o frames e g r.value
  done_convert u0 u1 u2 o frames g x r A D c fits objects has =
      let holds = StandFor c frames o in
      let w = weight_convert c.program in
      asks_as Rows u0 u2 e.ty (8 * expr_weight c.program got + 8 * convert_weight e.ty got.ty.bits) (8 * expr_weight c.program e) g r.value holds (λ v rows. and_then (value_of rows got) (λ x. Value (converted e.ty x))) (λ v rows. value_of rows e) (omega arith)
      (λ v rows. sym (value_convert rows))
      (asks_then Rows u0 u1 u2 got.ty e.ty (8 * expr_weight c.program got) (8 * convert_weight e.ty got.ty.bits) g x r.value holds (λ v rows. value_of rows got) (λ v rows x. Value (converted e.ty x)) (A c (fits_convert c fits).1 objects has)
      (checked_asks Rows u1 u2 u2.terms e.ty (8 * convert_weight e.ty got.ty.bits) 1 g r holds (λ v rows. Value (converted e.ty (stands got.ty v x))) (λ v. Value (converted e.ty (stands got.ty v x))) (λ v q s h. refl) D.checked refl D.list))

-- the side of a split
pub side_has : (u1 u2 : Unrolled) (g a : SizedTerm) (s : Split) (op : LogicOp) → IsSplit u1 u2 g a s → Has u2.terms (side_of op s)
side_has u1 u2 g a s And S = S.has_taken
side_has u1 u2 g a s Or S = S.has_other

pub side_width : (u1 u2 : Unrolled) (g a : SizedTerm) (s : Split) (op : LogicOp) → IsSplit u1 u2 g a s → (side_of op s).width ≡ 1
side_width u1 u2 g a s And S = S.width_taken
side_width u1 u2 g a s Or S = S.width_other

-- the type of `bound`
pub bound_type : (t : IntType) (p : CProgram) → t ≡ slot_type p BoundValue → IsType t
bound_type t p e = subst IsType (sym e) (Single false)
