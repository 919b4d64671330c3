-- Statements by lists, case by case.
use Rattle.std.proofs.Common.{◌≡◌, ℕ, ◌+◌, ◌<◌, List, length, drop, get_or, Bool, true, false, refl, sym, ap, ◌∙◌}
use Rattle.std.specs.Prelude.{Option, Some, None, ◌&&◌}
use Rattle.std.proofs.lemmas.List.{drop_more}
use denote.Hole.Carrier.{hidden, out, shown}
use Rattle.joint_ir.specs.declared.expr.TExpr.{TExpr}
use Rattle.joint_ir.specs.declared.program.CProgram.{CProgram}
use Rattle.joint_ir.specs.declared.program.Function.{Function}
use Rattle.joint_ir.specs.declared.stmt.Group.{Group, Group', out-Group}
use Rattle.joint_ir.specs.declared.stmt.SNode.{SNode, Block, If, Switch, Row_of-TStmt, end_of-TStmt, more_of-TStmt, Row_of-Group, end_of-Group, more_of-Group, None', Some'}
use Rattle.joint_ir.specs.declared.stmt.SNode.TheBlock.{hidden-the_row-TStmt-0, hidden-the_row-TStmt-1, items-the_row-TStmt, items_hidden-the_row-TStmt-0, items_shown-the_row-TStmt-0, shown-the_row-TStmt-0, shown-the_row-TStmt-1, hidden-the_row-Group-2, items-the_row-Group, items_hidden-the_row-Group-2}
use Rattle.joint_ir.specs.declared.stmt.TLoop.{TLoop, TLoop', out-TLoop}
use Rattle.joint_ir.specs.declared.stmt.TStmt.{TStmt}
use Rattle.unwound_forms.specs.Made.{stmt_is_made, row_is_made, groups_are_made, group_is_made, loop_is_made, items_are_made, cases_are_made, option_is_made, function_is_made, functions_are_made}

module _ (p : CProgram) where
  row_made : {m : _} (row : Row_of-TStmt m) → row_is_made p row ≡ items_are_made p (items-the_row-TStmt _ row)
  row_made end_of-TStmt = refl
  row_made (more_of-TStmt q a rest) = ap (λ b. stmt_is_made p a && b) (row_made rest)

  pub block_made : (node : SNode) (items got : List TStmt) → node ≡ Block items → got ≡ items → stmt_is_made p node ≡ items_are_made p got
  block_made node items got is is_got = ap (stmt_is_made p) is ∙ row_made (hidden-the_row-TStmt-0 items) ∙ ap (items_are_made p) (items_hidden-the_row-TStmt-0 items ∙ sym is_got)

  group_made : (g : Group) → group_is_made p g ≡ items_are_made p (out-Group g).body
  unfolding out-Group out shown-the_row-TStmt-0
  group_made (Group' labels shape row) = row_made row ∙ ap (items_are_made p) (sym (items_shown-the_row-TStmt-0 shape row))

  groups_made : {m : _} (row : Row_of-Group m) → groups_are_made p row ≡ cases_are_made p (items-the_row-Group _ row)
  groups_made end_of-Group = refl
  groups_made (more_of-Group g rest) = ap (λ b. b && groups_are_made p rest) (group_made g) ∙ ap (λ b. items_are_made p (out-Group g).body && b) (groups_made rest)

  pub switch_made : (node : SNode) (e : TExpr) (groups got : List Group) → node ≡ Switch e groups → got ≡ groups → stmt_is_made p node ≡ cases_are_made p got
  switch_made node e groups got is is_got = ap (stmt_is_made p) is ∙ groups_made (hidden-the_row-Group-2 groups) ∙ ap (cases_are_made p) (items_hidden-the_row-Group-2 groups ∙ sym is_got)

  if_made_of : (e : TExpr) (a : TStmt) (other : Option TStmt) → stmt_is_made p (If e a other) ≡ stmt_is_made p a.node && option_is_made p other
  unfolding hidden-the_row-TStmt-0 hidden-the_row-TStmt-1 hidden
  if_made_of e a None = refl
  if_made_of e a (Some b) = refl

  pub if_made : (node : SNode) (e : TExpr) (a got : TStmt) (other : Option TStmt) → node ≡ If e a other → got ≡ a → stmt_is_made p node ≡ stmt_is_made p got.node && option_is_made p other
  if_made node e a got other is is_a = ap (stmt_is_made p) (is ∙ ap (λ x. If e x other) (sym is_a)) ∙ if_made_of e got other

  pub loop_made : (l : TLoop) → loop_is_made p l ≡ items_are_made p (out-TLoop l).heads && (stmt_is_made p (out-TLoop l).body.node && option_is_made p (out-TLoop l).step)
  unfolding out-TLoop out shown shown-the_row-TStmt-0 shown-the_row-TStmt-1
  loop_made (TLoop' t shape heads cond None' shape' (more_of-TStmt q body end) prop) =
      ap (λ b. b && (stmt_is_made p body && true)) (row_made heads ∙ ap (items_are_made p) (sym (items_shown-the_row-TStmt-0 shape heads)))
  loop_made (TLoop' t shape heads cond (Some' shape'' (more_of-TStmt r step end')) shape' (more_of-TStmt q body end) prop) =
      ap (λ b. b && (stmt_is_made p body && stmt_is_made p step)) (row_made heads ∙ ap (items_are_made p) (sym (items_shown-the_row-TStmt-0 shape heads)))

  -- one statement more, and one function more
  pub items_more : (items : List TStmt) (i : ℕ) (s : TStmt) → i < length items → s ≡ get_or items i s → items_are_made p (drop i items) ≡ stmt_is_made p s.node && items_are_made p (drop (i + 1) items)
  items_more items i s lt is = ap (items_are_made p) (drop_more items i s lt) ∙ ap (λ (x : TStmt). stmt_is_made p x.node && items_are_made p (drop (i + 1) items)) (sym is)

  pub cases_more : (groups : List Group) (i : ℕ) (g : Group) → i < length groups → g ≡ get_or groups i g → cases_are_made p (drop i groups) ≡ items_are_made p (out-Group g).body && cases_are_made p (drop (i + 1) groups)
  cases_more groups i g lt is = ap (cases_are_made p) (drop_more groups i g lt) ∙ ap (λ (x : Group). items_are_made p (out-Group x).body && cases_are_made p (drop (i + 1) groups)) (sym is)

  pub functions_more : (fns : List Function) (i : ℕ) (fn : Function) → i < length fns → fn ≡ get_or fns i fn → functions_are_made p (drop i fns) ≡ function_is_made p fn && functions_are_made p (drop (i + 1) fns)
  functions_more fns i fn lt is = ap (functions_are_made p) (drop_more fns i fn lt) ∙ ap (λ (x : Function). function_is_made p x && functions_are_made p (drop (i + 1) fns)) (sym is)

-- the value of both of two, by the code's tests
pub both_true : (a b x y e : Bool) → x ≡ a → x ≡ true → y ≡ b → e ≡ a && b → y ≡ e
both_true true b x y e hx ht hy he = hy ∙ sym he
both_true false b x y e hx ht hy he = let d : false ≡ true = sym hx ∙ ht in cc

pub one_false : (a b x e : Bool) → x ≡ a → x ≡ false → e ≡ a && b → false ≡ e
one_false true b x e hx hf he = let d : true ≡ false = sym hx ∙ hf in cc
one_false false b x e hx hf he = sym he

pub last_false : (a b d x y e : Bool) → x ≡ a → x ≡ true → y ≡ b → y ≡ false → e ≡ a && (b && d) → false ≡ e
last_false a b d x y e hx ht hy hf he = one_false b d y (b && d) hy hf refl ∙ both_true a (b && d) x (b && d) e hx ht refl he
