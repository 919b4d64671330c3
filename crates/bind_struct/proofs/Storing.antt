-- What statements store to, case by case.
use Rattle.std.proofs.Common.{◌≡◌, ℕ, ◌+◌, ◌<◌, List, [], ◌∷◌, ◌++◌, length, drop, get_or, refl, sym, ap, ◌∙◌}
use Rattle.std.specs.Prelude.{Option, Some, None}
use Rattle.std.proofs.lemmas.List.{drop_more}
use denote.Hole.Carrier.{hidden, out, shown}
use Rattle.joint_ir.specs.declared.expr.TExpr.{TExpr}
use Rattle.joint_ir.specs.declared.stmt.Group.{Group, Group', out-Group}
use Rattle.joint_ir.specs.declared.stmt.SNode.{SNode, Block, If, Switch, Row_of-TStmt, end_of-TStmt, more_of-TStmt, Row_of-Group, end_of-Group, more_of-Group, None', Some'}
use Rattle.joint_ir.specs.declared.stmt.SNode.TheBlock.{hidden-the_row-TStmt-0, hidden-the_row-TStmt-1, items-the_row-TStmt, items_hidden-the_row-TStmt-0, items_shown-the_row-TStmt-0, shown-the_row-TStmt-0, shown-the_row-TStmt-1, hidden-the_row-Group-2, items-the_row-Group, items_hidden-the_row-Group-2}
use Rattle.joint_ir.specs.declared.stmt.TLoop.{TLoop, TLoop', out-TLoop}
use Rattle.joint_ir.specs.declared.stmt.TStmt.{TStmt}
use Rattle.joint_ir.specs.declared.stmt.TTarget.{TTarget}
use Rattle.offence_order.specs.declared.Offence.{Offence}
use Rattle.offence_order.specs.Order.{first_of}
use Rattle.offence_order.proofs.Firsts.{first_of-append}
use Rattle.bind_struct.specs.Stored.{stored_in, stored_row, stored_loop, stored_group, stored_groups, stored_items, stored_option, stored_cases}

module _ (f : TTarget → List Offence) where
  row_stored : {m : _} (row : Row_of-TStmt m) → stored_row f row ≡ stored_items f (items-the_row-TStmt _ row)
  row_stored end_of-TStmt = refl
  row_stored (more_of-TStmt p a rest) = ap (λ l. stored_in f a ++ l) (row_stored rest)

  pub stored_block : (node : SNode) (body got : List TStmt) → node ≡ Block body → got ≡ body → stored_in f node ≡ stored_items f got
  stored_block node body got is is_got =
      ap (stored_in f) is ∙ row_stored (hidden-the_row-TStmt-0 body) ∙ ap (stored_items f) (items_hidden-the_row-TStmt-0 body ∙ sym is_got)

  stored_if_of : (e : TExpr) (a : TStmt) (other : Option TStmt) → stored_in f (If e a other) ≡ stored_in f a.node ++ stored_option f other
  unfolding hidden-the_row-TStmt-0 hidden-the_row-TStmt-1 hidden
  stored_if_of e a None = refl
  stored_if_of e a (Some b) = refl

  pub stored_if : (node : SNode) (e : TExpr) (a got : TStmt) (other : Option TStmt) → node ≡ If e a other → got ≡ a → stored_in f node ≡ stored_in f got.node ++ stored_option f other
  stored_if node e a got other is is_a = ap (stored_in f) (is ∙ ap (λ x. If e x other) (sym is_a)) ∙ stored_if_of e got other

  pub stored_group_is : (g : Group) → stored_group f g ≡ stored_items f (out-Group g).body
  unfolding out-Group out shown-the_row-TStmt-0
  stored_group_is (Group' labels shape row) = row_stored row ∙ ap (stored_items f) (sym (items_shown-the_row-TStmt-0 shape row))

  groups_stored : {m : _} (row : Row_of-Group m) → stored_groups f row ≡ stored_cases f (items-the_row-Group _ row)
  groups_stored end_of-Group = refl
  groups_stored (more_of-Group g rest) = ap (λ l. l ++ stored_groups f rest) (stored_group_is g) ∙ ap (λ l. stored_items f (out-Group g).body ++ l) (groups_stored rest)

  pub stored_switch : (node : SNode) (e : TExpr) (groups got : List Group) → node ≡ Switch e groups → got ≡ groups → stored_in f node ≡ stored_cases f got
  stored_switch node e groups got is is_got =
      ap (stored_in f) is ∙ groups_stored (hidden-the_row-Group-2 groups) ∙ ap (stored_cases f) (items_hidden-the_row-Group-2 groups ∙ sym is_got)

  pub stored_turns : (l : TLoop) → stored_loop f l ≡ stored_items f (out-TLoop l).heads ++ (stored_in f (out-TLoop l).body.node ++ stored_option f (out-TLoop l).step)
  unfolding out-TLoop out shown shown-the_row-TStmt-0 shown-the_row-TStmt-1
  stored_turns (TLoop' t shape heads cond None' shape' (more_of-TStmt p body end) prop) =
      ap (λ l. l ++ (stored_in f body ++ [])) (row_stored heads ∙ ap (stored_items f) (sym (items_shown-the_row-TStmt-0 shape heads)))
  stored_turns (TLoop' t shape heads cond (Some' shape'' (more_of-TStmt q step end')) shape' (more_of-TStmt p body end) prop) =
      ap (λ l. l ++ (stored_in f body ++ stored_in f step)) (row_stored heads ∙ ap (stored_items f) (sym (items_shown-the_row-TStmt-0 shape heads)))

-- what statements note, part after part
pub block_noted : (f : TTarget → List Offence) (node : SNode) (body got : List TStmt) (x y : Option Offence) → node ≡ Block body → got ≡ body → y ≡ first_of x (stored_items f got) → y ≡ first_of x (stored_in f node)
block_noted f node body got x y is is_got h = h ∙ ap (first_of x) (sym (stored_block f node body got is is_got))

pub switch_noted : (f : TTarget → List Offence) (node : SNode) (e : TExpr) (groups got : List Group) (x y : Option Offence) → node ≡ Switch e groups → got ≡ groups → y ≡ first_of x (stored_cases f got) → y ≡ first_of x (stored_in f node)
switch_noted f node e groups got x y is is_got h = h ∙ ap (first_of x) (sym (stored_switch f node e groups got is is_got))

pub if_noted : (f : TTarget → List Offence) (node : SNode) (e : TExpr) (a got : TStmt) (other : Option TStmt) (x y z : Option Offence) → node ≡ If e a other → got ≡ a →
    y ≡ first_of x (stored_in f got.node) → z ≡ first_of y (stored_option f other) → z ≡ first_of x (stored_in f node)
if_noted f node e a got other x y z is is_a h g =
    g ∙ ap (λ q. first_of q (stored_option f other)) h ∙ sym (first_of-append x (stored_in f got.node) (stored_option f other)) ∙ ap (first_of x) (sym (stored_if f node e a got other is is_a))

pub turns_noted : (f : TTarget → List Offence) (l : TLoop) (heads : List TStmt) (body : TStmt) (x y z w : Option Offence) → heads ≡ (out-TLoop l).heads → body ≡ (out-TLoop l).body →
    y ≡ first_of x (stored_items f heads) → z ≡ first_of y (stored_in f body.node) → w ≡ first_of z (stored_option f (out-TLoop l).step) → w ≡ first_of x (stored_loop f l)
turns_noted f l heads body x y z w is_heads is_body h g i =
    i
    ∙ ap (λ q. first_of q (stored_option f (out-TLoop l).step)) g
    ∙ sym (first_of-append y (stored_in f body.node) (stored_option f (out-TLoop l).step))
    ∙ ap (λ q. first_of q (stored_in f body.node ++ stored_option f (out-TLoop l).step)) h
    ∙ sym (first_of-append x (stored_items f heads) (stored_in f body.node ++ stored_option f (out-TLoop l).step))
    ∙ ap (λ q. first_of x (stored_items f q ++ (stored_in f body.node ++ stored_option f (out-TLoop l).step))) is_heads
    ∙ ap (λ (q : TStmt). first_of x (stored_items f (out-TLoop l).heads ++ (stored_in f q.node ++ stored_option f (out-TLoop l).step))) is_body
    ∙ ap (first_of x) (sym (stored_turns f l))

-- one more of a list
pub one_more : {X : Type 0} (g : X → List Offence) (all : List X → List Offence) → ((x : X) (xs : List X) → all (x ∷ xs) ≡ g x ++ all xs) →
    (xs : List X) (i : ℕ) (x : X) (start now new : Option Offence) → i < length xs → x ≡ get_or xs i x → first_of start (all xs) ≡ first_of now (all (drop i xs)) → new ≡ first_of now (g x) →
    first_of start (all xs) ≡ first_of new (all (drop (i + 1) xs))
one_more g all cons xs i x start now new lt is h n =
    let rest = drop (i + 1) xs in
    let split : drop i xs ≡ x ∷ rest = drop_more xs i x lt ∙ ap (λ q. q ∷ rest) (sym is) in
    h
    ∙ ap (λ l. first_of now (all l)) split
    ∙ ap (first_of now) (cons x rest)
    ∙ first_of-append now (g x) (all rest)
    ∙ ap (λ z. first_of z (all rest)) (sym n)
