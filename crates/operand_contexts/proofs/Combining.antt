-- Operators over the terms of their operands.
use Rattle.std.proofs.Common.{◌≡◌, ℕ, ◌+◌, ◌*◌, ◌<◌, ◌≤◌, Bool, true, false, length, refl, sym, ap, ◌∙◌, subst, arith}
use Rattle.std.specs.Prelude.{max, ◌&&◌, ◌||◌, if◌then◌else◌}
use Rattle.bits_core.specs.Word.{at_zero, bit, resized}
use Rattle.bits_core.specs.Ops.{width1, width2, value2}
use Rattle.bits_core.specs.declared.op.Op2.{Op2}
use Rattle.v_tree.specs.declared.expr.BinaryOp.{BinaryOp}
use Rattle.v_tree.specs.declared.expr.BinaryOp.TheVariants as binary
use Rattle.v_tree.specs.declared.expr.UnaryOp.{UnaryOp}
use Rattle.v_tree.specs.declared.expr.UnaryOp.TheVariants as unary
use Rattle.flat_tree.specs.Measures.{binary_row, unary_row}
use Rattle.flat_tree.specs.Operators.{Form, InContext, Dividing, Comparing, Logical, Shifting, form_of, binary_value, unary_value, truth, is_reduction}
use Rattle.operator_terms.specs.declared.flags.UnaryWay.{UnaryWay}
use Rattle.operator_terms.specs.declared.pairs.Way.{Way}
use Rattle.operator_terms.specs.Ways.{way_value, unary_way_value, is_paired, paired_width, is_made}
use Rattle.operand_contexts.specs.Contexts.{has_site, combined, FitForm, unary_combined}
use Rattle.operand_contexts.proofs.Steps.{restate, kept, resized_after}
use Rattle.term_steps.specs.Adds.{Adds}
use Rattle.word_eqs.specs.Gates.{gates1, gates2}
use Rattle.word_eqs.specs.Graph.{Graph, IsGraph, width_in}
use Rattle.word_eqs.specs.Meaning.{Values}

pub context_way : (g h : Graph) (op : BinaryOp) (way : Way) (s : Bool) (x y t : ℕ) → form_of op ≡ InContext →
    ((w a b : ℕ) → way_value way w a b ≡ binary_value op w s a b) → ((w v : ℕ) → gates2 way.op w ≤ binary_row op w v) → ((w : ℕ) → width2 way.op w ≡ paired_width (form_of op) w) →
    Adds g h (width2 way.op (width_in g x)) (λ v. way_value way (width_in g x) (v.term x).value (v.term y).value) (gates2 way.op (width_in g x)) 2 t →
    Adds g h (width_in g x) (λ v. binary_value op (width_in g x) s (v.term x).value (v.term y).value) (8 * binary_row op (width_in g x) (width_in g y)) 4 t
context_way g h op way s x y t form value cost width a =
    restate g h _ (width_in g x) _ (8 * binary_row op (width_in g x) (width_in g y)) 2 4 t _ _ a (width (width_in g x) ∙ ap (λ f. paired_width f (width_in g x)) form) (λ v r. value (width_in g x) (v.term x).value (v.term y).value)
    (let e = cost (width_in g x) (width_in g y) in omega (arith, e)) (omega arith)

pub compared_way : (g h i : Graph) (op : BinaryOp) (way : Way) (both s : Bool) (w x y flag t : ℕ) → form_of op ≡ Comparing →
    ((w a b : ℕ) → way_value way w a b ≡ binary_value op w both a b) → ((w v : ℕ) → gates2 way.op w ≤ binary_row op w v) → ((w : ℕ) → width2 way.op w ≡ paired_width (form_of op) w) →
    Adds g h (width2 way.op (width_in g x)) (λ v. way_value way (width_in g x) (v.term x).value (v.term y).value) (gates2 way.op (width_in g x)) 2 flag →
    Adds h i w (λ v. resized w s (width_in h flag) (v.term flag).value) 0 1 t →
    Adds g i w (λ v. resized w s 1 (binary_value op (width_in g x) both (v.term x).value (v.term y).value)) (8 * binary_row op (width_in g x) (width_in g y)) 4 t
compared_way g h i op way both s w x y flag t form value cost width a b =
    let f = restate g h _ 1 _ (8 * binary_row op (width_in g x) (width_in g y)) 2 3 flag _ (λ v. binary_value op (width_in g x) both (v.term x).value (v.term y).value) a (width (width_in g x) ∙ ap (λ f. paired_width f (width_in g x)) form) (λ v r. value (width_in g x) (v.term x).value (v.term y).value)
    (let e = cost (width_in g x) (width_in g y) in omega (arith, e)) (omega arith) in
    resized_after g h i w 1 _ 3 flag t s _ f b

pub logical_made : (g h i : Graph) (op : BinaryOp) (and s : Bool) (w x y flag t : ℕ) →
    ((a b : ℕ) → bit (if and then truth a && truth b else truth a || truth b) ≡ binary_value op 1 false a b) → ((w v : ℕ) → w + v + 4 ≡ binary_row op w v) →
    Adds g h 1 (λ v. bit (if and then truth (v.term x).value && truth (v.term y).value else truth (v.term x).value || truth (v.term y).value)) (3 * width_in g x + 3 * width_in g y + 1) 3 flag →
    Adds h i w (λ v. resized w s (width_in h flag) (v.term flag).value) 0 1 t →
    Adds g i w (λ v. resized w s 1 (binary_value op 1 false (v.term x).value (v.term y).value)) (8 * binary_row op (width_in g x) (width_in g y)) 4 t
logical_made g h i op and s w x y flag t value row a b =
    let f = restate g h 1 1 _ (8 * binary_row op (width_in g x) (width_in g y)) 3 3 flag _ (λ v. binary_value op 1 false (v.term x).value (v.term y).value) a refl (λ v r. value (v.term x).value (v.term y).value)
    (let e = row (width_in g x) (width_in g y) in omega (arith, e)) (omega arith) in
    resized_after g h i w 1 _ 3 flag t s _ f b

shift_row : (op : BinaryOp) → form_of op ≡ Shifting → (w v : ℕ) → binary_row op w v ≡ 40 * max w v
shift_row binary.ShiftLeft h w v = refl
shift_row binary.ShiftRight h w v = refl
shift_row binary.ArithmeticShiftLeft h w v = refl
shift_row binary.ArithmeticShiftRight h w v = refl
shift_row op h w v = absurd cc

pub shift_made : (g h : Graph) (op : BinaryOp) (way : Op2) (s : Bool) (x y t : ℕ) → form_of op ≡ Shifting → ((w a b : ℕ) → value2 way w a b ≡ binary_value op w s a b) →
    Adds g h (width_in g x) (λ v. value2 way (width_in g x) (v.term x).value (v.term y).value) (40 * max (width_in g x) (width_in g y)) 3 t →
    Adds g h (width_in g x) (λ v. binary_value op (width_in g x) s (v.term x).value (v.term y).value) (8 * binary_row op (width_in g x) (width_in g y)) 4 t
shift_made g h op way s x y t form value a =
    restate g h _ (width_in g x) _ (8 * binary_row op (width_in g x) (width_in g y)) 3 4 t _ _ a refl (λ v r. value (width_in g x) (v.term x).value (v.term y).value)
    (let e = shift_row op form (width_in g x) (width_in g y) in omega (arith, e)) (omega arith)

-- a division's row has room for the choice of its site
divide_row : (op : BinaryOp) → has_site (form_of op) ≡ true → (w v : ℕ) → 80 * w ≤ binary_row op w v
divide_row binary.Divide h w v = omega arith
divide_row binary.Remainder h w v = omega arith
divide_row op h w v = absurd cc

divides_paired : (f : Form) → has_site f ≡ true → is_paired f ≡ true
divides_paired Dividing h = refl
divides_paired f h = absurd cc

divides_width : (f : Form) (w : ℕ) → has_site f ≡ true → paired_width f w ≡ w
divides_width Dividing w h = refl
divides_width f w h = absurd cc

pub divide_paired : (op : BinaryOp) → has_site (form_of op) ≡ true → is_paired (form_of op) ≡ true
divide_paired op h = divides_paired (form_of op) h

pub divide_width : (op : BinaryOp) (way : Way) → has_site (form_of op) ≡ true → ((w : ℕ) → width2 way.op w ≡ paired_width (form_of op) w) → (w : ℕ) → width2 way.op w ≡ w
divide_width op way h width w = width w ∙ divides_width (form_of op) w h

pub divide_made : (g h : Graph) (op : BinaryOp) (way : Way) (s : Bool) (x y n t : ℕ) → has_site (form_of op) ≡ true →
    ((w a b : ℕ) → way_value way w a b ≡ binary_value op w s a b) → ((w v : ℕ) → gates2 way.op w ≤ binary_row op w v) →
    Adds g h (width_in g x) (λ v. at_zero (v.term y).value (v.term n).value (way_value way (width_in g x) (v.term x).value (v.term y).value)) (gates2 way.op (width_in g x) + 6 * width_in g x) 4 t →
    Adds g h (width_in g x) (λ v. at_zero (v.term y).value (v.term n).value (binary_value op (width_in g x) s (v.term x).value (v.term y).value)) (8 * binary_row op (width_in g x) (width_in g y)) 4 t
divide_made g h op way s x y n t site value cost a =
    restate g h _ (width_in g x) _ (8 * binary_row op (width_in g x) (width_in g y)) 4 4 t _ _ a refl (λ v r. ap (at_zero (v.term y).value (v.term n).value) (value (width_in g x) (v.term x).value (v.term y).value))
    (let e = cost (width_in g x) (width_in g y) in let d = divide_row op site (width_in g x) (width_in g y) in omega (arith, e, d)) (omega arith)

-- the form of operands in the context
pub fit_same : (f : Form) (w x y : ℕ) → f ≡ InContext → FitForm f w x y → y ≡ x
fit_same InContext w x y e h = h.1 ∙ sym h.0
fit_same Dividing w x y e h = absurd cc
fit_same Comparing w x y e h = absurd cc
fit_same Logical w x y e h = absurd cc
fit_same Shifting w x y e h = absurd cc

pub fit_compared : (f : Form) (w x y : ℕ) → f ≡ Comparing → FitForm f w x y → y ≡ x
fit_compared Comparing w x y e h = h
fit_compared InContext w x y e h = absurd cc
fit_compared Dividing w x y e h = absurd cc
fit_compared Logical w x y e h = absurd cc
fit_compared Shifting w x y e h = absurd cc

pub in_context : (g h : Graph) (f : Form) (k : ℕ → Bool → ℕ → ℕ → ℕ) (both s : Bool) (w x y c t : ℕ) → f ≡ InContext → FitForm f w (width_in g x) (width_in g y) →
    Adds g h (width_in g x) (λ v. k (width_in g x) s (v.term x).value (v.term y).value) c 4 t → Adds g h w (λ v. combined f k (width_in g x) both w s (v.term x).value (v.term y).value) c 4 t
in_context g h InContext k both s w x y c t e fit a = restate g h _ w c c 4 4 t _ _ a fit.0 (λ v r. ap (λ z. k z s (v.term x).value (v.term y).value) fit.0) (omega arith) (omega arith)
in_context g h Dividing k both s w x y c t e fit a = absurd cc
in_context g h Comparing k both s w x y c t e fit a = absurd cc
in_context g h Logical k both s w x y c t e fit a = absurd cc
in_context g h Shifting k both s w x y c t e fit a = absurd cc

pub in_shift : (g h : Graph) (f : Form) (k : ℕ → Bool → ℕ → ℕ → ℕ) (both s : Bool) (w x y c t : ℕ) → f ≡ Shifting → FitForm f w (width_in g x) (width_in g y) →
    Adds g h (width_in g x) (λ v. k (width_in g x) s (v.term x).value (v.term y).value) c 4 t → Adds g h w (λ v. combined f k (width_in g x) both w s (v.term x).value (v.term y).value) c 4 t
in_shift g h Shifting k both s w x y c t e fit a = restate g h _ w c c 4 4 t _ _ a fit (λ v r. ap (λ z. k z s (v.term x).value (v.term y).value) fit) (omega arith) (omega arith)
in_shift g h InContext k both s w x y c t e fit a = absurd cc
in_shift g h Dividing k both s w x y c t e fit a = absurd cc
in_shift g h Comparing k both s w x y c t e fit a = absurd cc
in_shift g h Logical k both s w x y c t e fit a = absurd cc

pub in_compared : (g h : Graph) (f : Form) (k : ℕ → Bool → ℕ → ℕ → ℕ) (both s : Bool) (w x y c t : ℕ) → f ≡ Comparing →
    Adds g h w (λ v. resized w s 1 (k (width_in g x) both (v.term x).value (v.term y).value)) c 4 t → Adds g h w (λ v. combined f k (width_in g x) both w s (v.term x).value (v.term y).value) c 4 t
in_compared g h f k both s w x y c t e a = subst (λ z. Adds g h w (λ v. combined z k (width_in g x) both w s (v.term x).value (v.term y).value) c 4 t) (sym e) a

pub in_logical : (g h : Graph) (f : Form) (k : ℕ → Bool → ℕ → ℕ → ℕ) (both s : Bool) (w x y c t : ℕ) → f ≡ Logical →
    Adds g h w (λ v. resized w s 1 (k 1 false (v.term x).value (v.term y).value)) c 4 t → Adds g h w (λ v. combined f k (width_in g x) both w s (v.term x).value (v.term y).value) c 4 t
in_logical g h f k both s w x y c t e a = subst (λ z. Adds g h w (λ v. combined z k (width_in g x) both w s (v.term x).value (v.term y).value) c 4 t) (sym e) a

-- unary operators
not_made : (op : UnaryOp) → is_made op ≡ false → op ≡ unary.Plus
not_made unary.Plus h = refl
not_made op h = absurd cc

pub plus_made : (g : Graph) (op : UnaryOp) (x : ℕ) → is_made op ≡ false → IsGraph g → x < length g.terms → Adds g g (if is_reduction op then 1 else width_in g x) (λ v. unary_value op (width_in g x) (v.term x).value) (8 * unary_row op (width_in g x)) 2 x
plus_made g op x e proper lt =
    subst (λ (o : UnaryOp). Adds g g (if is_reduction o then 1 else width_in g x) (λ v. unary_value o (width_in g x) (v.term x).value) (8 * unary_row o (width_in g x)) 2 x) (sym (not_made op e))
    (restate g g _ _ 0 0 0 2 x _ _ (kept g x proper lt) refl (λ v r. refl) (omega arith) (omega arith))

pub unary_way_made : (g h : Graph) (op : UnaryOp) (way : UnaryWay) (x t : ℕ) → ((w a : ℕ) → unary_way_value way w a ≡ unary_value op w a) → ((w : ℕ) → gates1 way.op w ≤ 8 * unary_row op w) → ((w : ℕ) → width1 way.op w ≡ (if is_reduction op then 1 else w)) →
    Adds g h (width1 way.op (width_in g x)) (λ v. unary_way_value way (width_in g x) (v.term x).value) (gates1 way.op (width_in g x)) 2 t →
    Adds g h (if is_reduction op then 1 else width_in g x) (λ v. unary_value op (width_in g x) (v.term x).value) (8 * unary_row op (width_in g x)) 2 t
unary_way_made g h op way x t value cost width a =
    restate g h _ _ _ (8 * unary_row op (width_in g x)) 2 2 t _ _ a (width (width_in g x)) (λ v r. value (width_in g x) (v.term x).value) (cost (width_in g x)) (omega arith)

pub flag_made : (g h i : Graph) (op : UnaryOp) (w x y t c : ℕ) (s : Bool) → is_reduction op ≡ true →
    Adds g h (if is_reduction op then 1 else width_in g x) (λ v. unary_value op (width_in g x) (v.term x).value) c 2 y →
    Adds h i w (λ v. resized w s (width_in h y) (v.term y).value) 0 1 t →
    Adds g i w (λ v. unary_combined op (width_in g x) w s (v.term x).value) c 3 t
flag_made g h i op w x y t c s e a b =
    let a2 = restate g h _ 1 c c 2 2 y _ _ a (ap (λ z. if z then 1 else width_in g x) e) (λ v r. refl) (omega arith) (omega arith) in
    restate g i w w c c 3 3 t _ _ (resized_after g h i w 1 c 2 y t s _ a2 b) refl
    (λ v r. ap (λ z. if z then resized w s 1 (unary_value op (width_in g x) (v.term x).value) else unary_value op (width_in g x) (v.term x).value) (sym e)) (omega arith) (omega arith)

pub plain_made : (g h : Graph) (op : UnaryOp) (w x y c : ℕ) (s : Bool) → is_reduction op ≡ false → (if is_reduction op then width_in g x else w) ≡ width_in g x →
    Adds g h (if is_reduction op then 1 else width_in g x) (λ v. unary_value op (width_in g x) (v.term x).value) c 2 y →
    Adds g h w (λ v. unary_combined op (width_in g x) w s (v.term x).value) c 3 y
plain_made g h op w x y c s e wide a =
    restate g h _ w c c 2 3 y _ _ a (ap (λ z. if z then 1 else width_in g x) e ∙ sym wide ∙ ap (λ z. if z then width_in g x else w) e)
    (λ v r. ap (λ z. if z then resized w s 1 (unary_value op (width_in g x) (v.term x).value) else unary_value op (width_in g x) (v.term x).value) (sym e)) (omega arith) (omega arith)
