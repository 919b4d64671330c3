-- What statements weigh, case by case.
use Rattle.std.proofs.Common.{◌≡◌, ℕ, suc, zero, ◌+◌, ◌-◌, ◌*◌, ◌<◌, List, [], ◌∷◌, ◌++◌, length, drop, get_or, true, refl, sym, ap, ◌∙◌, ⊎_elim, add-one, arith}
use Rattle.std.specs.Prelude.{Option, Some, None, slice_get}
use Rattle.std.proofs.lemmas.List.{drop_more}
use Rattle.std.proofs.lemmas.List.Sums.{sum_by-cons}
use Rattle.std.proofs.lemmas.Bool.{cases_lt}
use denote.Hole.Carrier.{hidden, out, shown}
use Rattle.joint_ir.specs.declared.bounds.Bounds.{Bounds}
use Rattle.joint_ir.specs.declared.expr.TExpr.{TExpr}
use Rattle.joint_ir.specs.declared.pair.Pair.{Pair}
use Rattle.joint_ir.specs.declared.program.Function.{Function}
use Rattle.joint_ir.specs.declared.stmt.Group.{Group, Group', out-Group}
use Rattle.joint_ir.specs.declared.stmt.SNode.{SNode, Block, If, Switch, Row_of-TStmt, end_of-TStmt, more_of-TStmt, Row_of-Group, end_of-Group, more_of-Group, None', Some'}
use Rattle.joint_ir.specs.declared.stmt.SNode.TheBlock.{hidden-the_row-TStmt-0, hidden-the_row-TStmt-1, items-the_row-TStmt, items_hidden-the_row-TStmt-0, items_shown-the_row-TStmt-0, shown-the_row-TStmt-0, shown-the_row-TStmt-1, hidden-the_row-Group-2, items-the_row-Group, items_hidden-the_row-Group-2}
use Rattle.joint_ir.specs.declared.stmt.TLoop.{TLoop, TLoop', out-TLoop}
use Rattle.joint_ir.specs.declared.stmt.TStmt.{TStmt}
use Rattle.joint_ir.specs.Steps.{Setting, limit_of}
use Rattle.joint_ir.specs.Statements.{is_below_limit}
use Rattle.joint_ir.specs.Weights.{CallWeights, capped, weight, row_weight, groups_weight, group_weight, loop_weight, turns_weight, condition_weight, expr_weight, calls_weight, entered_weight, function_weight, body_weight}
use Rattle.joint_ir.specs.Weighed.{stmts_weight, option_stmt_weight, groups_of_weight}

pub cap_block : (u x e r : ℕ) → x ≡ capped u → r ≡ capped (x + 16) → e ≡ u + 16 → r ≡ capped e
cap_block u x e r hx hr he = omega arith

pub cap_if : (u b v w x y z e r : ℕ) → x ≡ capped u → y ≡ capped v → z ≡ capped (y + w) → r ≡ capped (x + b + 16 + z) → e ≡ u + b + 16 + v + w → r ≡ capped e
cap_if u b v w x y z e r hx hy hz hr he = omega arith

pub cap_switch : (u v x y e r : ℕ) → x ≡ capped u → y ≡ capped v → r ≡ capped (x + y + 16) → e ≡ u + v + 16 → r ≡ capped e
cap_switch u v x y e r hx hy hr he = omega arith

pub cap_callee : (u v x y r e : ℕ) → x ≡ capped u → y ≡ capped v → r ≡ capped (x + y) → e ≡ u + v → r ≡ capped e
cap_callee u v x y r e hx hy hr he = omega arith

pub cap_option : (first u x r : ℕ) → x ≡ capped u → r ≡ capped (first + x) → r ≡ capped (first + u)
cap_option first u x r hx hr = omega arith

cap_more : (whole total x total' w rest : ℕ) → capped whole ≡ capped (total + (w + rest)) → x ≡ capped w → total' ≡ capped (total + x) →
    capped whole ≡ capped (total' + rest)
cap_more whole total x total' w rest h hx ht = omega arith

cap_two_more : (whole total x y total' u v w rest : ℕ) → capped whole ≡ capped (total + (w + rest)) → x ≡ capped u → y ≡ capped v → w ≡ u + v →
    total' ≡ capped (total + (x + y)) → capped whole ≡ capped (total' + rest)
cap_two_more whole total x y total' u v w rest h hx hy hw ht = omega arith

-- a sum that is too heavy already
pub cap_over : (whole total rest : ℕ) → capped whole ≡ capped (total + rest) → total ≡ 16777217 → total ≡ capped whole
cap_over whole total rest h e = omega arith

times_more : (m a b x y : ℕ) → x ≡ capped a → y ≡ capped b → capped ((m + 1) * (x + y + 16)) ≡ capped ((m + 1) * (a + b + 16))
times_more m a b x y hx hy = ⊎_elim
    (λ (lt : a < 16777217). ⊎_elim
    (λ (lt' : b < 16777217).
    let ex : x ≡ a = omega arith in
    let ey : y ≡ b = omega arith in
    ap (λ z. capped ((m + 1) * (z + y + 16))) ex ∙ ap (λ z. capped ((m + 1) * (a + z + 16))) ey)
    (λ le. omega arith) (cases_lt b 16777217))
    (λ le. omega arith) (cases_lt a 16777217)

times_cap : (n a b x y : ℕ) → x ≡ capped a → y ≡ capped b → capped (n * (x + y + 16)) ≡ capped (n * (a + b + 16))
times_cap zero a b x y hx hy = omega arith
times_cap (suc m) a b x y hx hy = ap (λ n. capped (n * (x + y + 16))) (sym (add-one m)) ∙ times_more m a b x y hx hy ∙ ap (λ n. capped (n * (a + b + 16))) (add-one m)

pub cap_heads : (h s rest e : ℕ) → h ≡ capped s → h ≡ 16777217 → e ≡ s + rest → h ≡ capped e
cap_heads h s rest e hh he eq = omega arith

-- all turns of a loop
pub cap_loop : (n h t b s heads test body turn r e : ℕ) → heads ≡ capped h → test ≡ capped t → body ≡ capped b → turn ≡ capped (body + s) →
    r ≡ capped (heads + (n * (test + turn + 16) + test + 16)) → e ≡ h + turns_weight n t (b + s) → r ≡ capped e
cap_loop n h t b s heads test body turn r e hh ht hb hu hr he =
    let hu' : turn ≡ capped (b + s) = omega arith in
    let m : capped (n * (test + turn + 16)) ≡ capped (n * (t + (b + s) + 16)) = times_cap n t (b + s) test turn ht hu' in
    last (n * (test + turn + 16)) (n * (t + (b + s) + 16)) m hr he
  where
    last : (x y : ℕ) → capped x ≡ capped y → r ≡ capped (heads + (x + test + 16)) → e ≡ h + (y + t + 16) → r ≡ capped e
    last x y hxy hr' he' = omega arith

module _ (k : Setting) (calls : CallWeights) where
  row_weighs : {m : _} (row : Row_of-TStmt m) → row_weight k calls row ≡ stmts_weight k calls (items-the_row-TStmt _ row)
  row_weighs end_of-TStmt = refl
  row_weighs (more_of-TStmt p a rest) =
      ap (λ n. weight k calls a + n) (row_weighs rest) ∙ sym (sum_by-cons (λ s. weight k calls s.node) (record { place = p; node = a }) (items-the_row-TStmt _ rest))

  pub weight-block : (node : SNode) (items got : List TStmt) → node ≡ Block items → got ≡ items → weight k calls node ≡ stmts_weight k calls got + 16
  weight-block node items got is is_got =
      ap (weight k calls) is
      ∙ ap (λ n. n + 16) (row_weighs (hidden-the_row-TStmt-0 items) ∙ ap (stmts_weight k calls) (items_hidden-the_row-TStmt-0 items ∙ sym is_got))

  weight-if_of : (e : TExpr) (a : TStmt) (other : Option TStmt) →
      weight k calls (If e a other) ≡ expr_weight k.pair.program e + e.ty.bits + 16 + weight k calls a.node + option_stmt_weight k calls other
  unfolding hidden-the_row-TStmt-0 hidden-the_row-TStmt-1 hidden
  weight-if_of e a None = refl
  weight-if_of e a (Some b) = refl

  pub weight-if : (node : SNode) (e test : TExpr) (a got : TStmt) (other : Option TStmt) → node ≡ If e a other → test ≡ e → got ≡ a →
      weight k calls node ≡ expr_weight k.pair.program test + test.ty.bits + 16 + weight k calls got.node + option_stmt_weight k calls other
  weight-if node e test a got other is is_e is_a =
      ap (weight k calls) (is ∙ ap (λ x. If x a other) (sym is_e) ∙ ap (λ x. If test x other) (sym is_a)) ∙ weight-if_of test got other

  groups_weigh : {m : _} (w : ℕ) (row : Row_of-Group m) → groups_weight k calls w row ≡ groups_of_weight k calls w (items-the_row-Group _ row)
  groups_weigh w end_of-Group = refl
  groups_weigh w (more_of-Group g rest) =
      ap (λ n. group_weight k calls w g + n) (groups_weigh w rest) ∙ sym (sum_by-cons (group_weight k calls w) g (items-the_row-Group _ rest))

  pub weight-switch : (node : SNode) (e test : TExpr) (groups got : List Group) → node ≡ Switch e groups → test ≡ e → got ≡ groups →
      weight k calls node ≡ expr_weight k.pair.program test + groups_of_weight k calls test.ty.bits got + 16
  weight-switch node e test groups got is is_e is_g =
      ap (weight k calls) (is ∙ ap (λ x. Switch x groups) (sym is_e))
      ∙ ap (λ n. expr_weight k.pair.program test + n + 16)
      (groups_weigh test.ty.bits (hidden-the_row-Group-2 groups) ∙ ap (groups_of_weight k calls test.ty.bits) (items_hidden-the_row-Group-2 groups ∙ sym is_g))

  pub weight-group : (w : ℕ) (g : Group) → group_weight k calls w g ≡ length (out-Group g).labels * (4 * w + 16) + stmts_weight k calls (out-Group g).body
  unfolding out-Group out shown-the_row-TStmt-0
  weight-group w (Group' labels shape row) = ap (λ n. length labels * (4 * w + 16) + n) (row_weighs row ∙ ap (stmts_weight k calls) (sym (items_shown-the_row-TStmt-0 shape row)))

  pub weight-loop : (l : TLoop) →
      loop_weight k calls l ≡ stmts_weight k calls (out-TLoop l).heads
      + turns_weight (limit_of k.bounds (out-TLoop l).unwind) (condition_weight k.pair.program (out-TLoop l).cond)
      (weight k calls (out-TLoop l).body.node + option_stmt_weight k calls (out-TLoop l).step)
  unfolding out-TLoop out shown shown-the_row-TStmt-0 shown-the_row-TStmt-1
  weight-loop (TLoop' t shape heads cond None' shape' (more_of-TStmt p body end) prop) =
      ap (λ n. n + turns_weight (limit_of k.bounds prop) (condition_weight k.pair.program cond) (weight k calls body + 0))
      (row_weighs heads ∙ ap (stmts_weight k calls) (sym (items_shown-the_row-TStmt-0 shape heads)))
  weight-loop (TLoop' t shape heads cond (Some' shape'' (more_of-TStmt q step end')) shape' (more_of-TStmt p body end) prop) =
      ap (λ n. n + turns_weight (limit_of k.bounds prop) (condition_weight k.pair.program cond) (weight k calls body + weight k calls step))
      (row_weighs heads ∙ ap (stmts_weight k calls) (sym (items_shown-the_row-TStmt-0 shape heads)))

  pub stmts_more : (items : List TStmt) (i : ℕ) (s : TStmt) (whole total x total' : ℕ) → i < length items → s ≡ get_or items i s →
      capped whole ≡ capped (total + stmts_weight k calls (drop i items)) → x ≡ capped (weight k calls s.node) → total' ≡ capped (total + x) →
      capped whole ≡ capped (total' + stmts_weight k calls (drop (i + 1) items))
  stmts_more items i s whole total x total' lt is h hx ht =
      let split : drop i items ≡ s ∷ drop (i + 1) items = drop_more items i s lt ∙ ap (λ y. y ∷ drop (i + 1) items) (sym is) in
      let e : stmts_weight k calls (drop i items) ≡ weight k calls s.node + stmts_weight k calls (drop (i + 1) items) =
      ap (stmts_weight k calls) split ∙ sum_by-cons (λ y. weight k calls y.node) s (drop (i + 1) items) in
      cap_more whole total x total' (weight k calls s.node) (stmts_weight k calls (drop (i + 1) items)) (h ∙ ap (λ n. capped (total + n)) e) hx ht

  pub groups_more : (w : ℕ) (groups : List Group) (i : ℕ) (g : Group) (whole total x y total' : ℕ) → i < length groups → g ≡ get_or groups i g →
      capped whole ≡ capped (total + groups_of_weight k calls w (drop i groups)) →
      x ≡ capped (length (out-Group g).labels * (4 * w + 16)) → y ≡ capped (stmts_weight k calls (out-Group g).body) → total' ≡ capped (total + (x + y)) →
      capped whole ≡ capped (total' + groups_of_weight k calls w (drop (i + 1) groups))
  groups_more w groups i g whole total x y total' lt is h hx hy ht =
      let split : drop i groups ≡ g ∷ drop (i + 1) groups = drop_more groups i g lt ∙ ap (λ z. z ∷ drop (i + 1) groups) (sym is) in
      let e : groups_of_weight k calls w (drop i groups) ≡ group_weight k calls w g + groups_of_weight k calls w (drop (i + 1) groups) =
      ap (groups_of_weight k calls w) split ∙ sum_by-cons (group_weight k calls w) g (drop (i + 1) groups) in
      cap_two_more whole total x y total' _ _ (group_weight k calls w g) (groups_of_weight k calls w (drop (i + 1) groups))
      (h ∙ ap (λ n. capped (total + n)) e) hx hy (weight-group w g) ht

-- a call that enters a function
pub callee_is : (p : Pair) (b : Bounds) (left : ℕ) (standing : List ℕ) (f : ℕ) (fn : Function) (body : TStmt) →
    slice_get p.program.functions f ≡ Some fn → fn.body ≡ Some body → (left ≡ 0 → ⊥) → is_below_limit p b standing f fn ≡ true →
    calls_weight p b left standing f ≡ body_weight p b (calls_weight p b (left - 1) (standing ++ f ∷ [])) f fn body
callee_is p b zero standing f fn body is is_body some below = absurd (some refl)
callee_is p b (suc left) standing f fn body is is_body some below =
    ap (function_weight p b (is_below_limit p b standing f) (calls_weight p b left (standing ++ f ∷ [])) f) is
    ∙ ap (λ x. entered_weight p b x (calls_weight p b left (standing ++ f ∷ [])) f fn fn.body) below
    ∙ ap (entered_weight p b true (calls_weight p b left (standing ++ f ∷ [])) f fn) is_body
    ∙ ap (λ n. body_weight p b (calls_weight p b n (standing ++ f ∷ [])) f fn body) (sym less)
  where
    less : suc left - 1 ≡ left
    less = omega arith
