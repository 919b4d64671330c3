-- The places that statements declare, by lists, and the place behind them.
use Rattle.std.proofs.Common.{◌≡◌, ℕ, suc, ◌+◌, ◌<◌, List, [], ◌∷◌, ◌++◌, length, drop, get_or, max, refl, sym, ap, ◌∙◌}
use Rattle.std.specs.Prelude.{Option, Some, None}
use Rattle.std.proofs.lemmas.List.{drop_more}
use denote.Hole.Carrier.{hidden, out, shown}
use Rattle.joint_ir.specs.declared.expr.TExpr.{TExpr}
use Rattle.joint_ir.specs.declared.stmt.Group.{Group, Group', out-Group}
use Rattle.joint_ir.specs.declared.stmt.SNode.{SNode, Block, If, Switch, Row_of-TStmt, end_of-TStmt, more_of-TStmt, Row_of-Group, end_of-Group, more_of-Group, None', Some'}
use Rattle.joint_ir.specs.declared.stmt.SNode.TheBlock.{hidden-the_row-TStmt-0, hidden-the_row-TStmt-1, items-the_row-TStmt, items_hidden-the_row-TStmt-0, items_shown-the_row-TStmt-0, shown-the_row-TStmt-0, shown-the_row-TStmt-1, hidden-the_row-Group-2, items-the_row-Group, items_hidden-the_row-Group-2}
use Rattle.joint_ir.specs.declared.stmt.TLoop.{TLoop, TLoop', out-TLoop}
use Rattle.joint_ir.specs.declared.stmt.TStmt.{TStmt}
use Rattle.joint_ir.specs.WellFormed.{declared_in, declared_in_row, declared_in_loop, declared_in_groups, declared_in_group}
use Rattle.joint_lists.specs.Own.{behind_all, declared_items, declared_option, declared_cases}

pub behind_both : (n : ℕ) (xs ys : List ℕ) → behind_all n (xs ++ ys) ≡ behind_all (behind_all n xs) ys
behind_both n [] ys = refl
behind_both n (x ∷ xs) ys = behind_both (max n (suc x)) xs ys

row_declares : {m : _} (row : Row_of-TStmt m) → declared_in_row row ≡ declared_items (items-the_row-TStmt _ row)
row_declares end_of-TStmt = refl
row_declares (more_of-TStmt p a rest) = ap (λ (xs : List ℕ). declared_in a ++ xs) (row_declares rest)

pub declares-block : (node : SNode) (items got : List TStmt) → node ≡ Block items → got ≡ items → declared_in node ≡ declared_items got
declares-block node items got is is_got =
    ap declared_in is ∙ row_declares (hidden-the_row-TStmt-0 items) ∙ ap declared_items (items_hidden-the_row-TStmt-0 items ∙ sym is_got)

declares-if_of : (e : TExpr) (a : TStmt) (other : Option TStmt) → declared_in (If e a other) ≡ declared_in a.node ++ declared_option other
unfolding hidden-the_row-TStmt-0 hidden-the_row-TStmt-1 hidden
declares-if_of e a None = refl
declares-if_of e a (Some b) = refl

pub declares-if : (node : SNode) (e : TExpr) (a got : TStmt) (other : Option TStmt) → node ≡ If e a other → got ≡ a →
    declared_in node ≡ declared_in got.node ++ declared_option other
declares-if node e a got other is is_a = ap declared_in (is ∙ ap (λ x. If e x other) (sym is_a)) ∙ declares-if_of e got other

group_declares : (g : Group) → declared_in_group g ≡ declared_items (out-Group g).body
unfolding out-Group out shown-the_row-TStmt-0
group_declares (Group' labels shape row) = row_declares row ∙ ap declared_items (sym (items_shown-the_row-TStmt-0 shape row))

groups_declare : {m : _} (row : Row_of-Group m) → declared_in_groups row ≡ declared_cases (items-the_row-Group _ row)
groups_declare end_of-Group = refl
groups_declare (more_of-Group g rest) =
    ap (λ (xs : List ℕ). xs ++ declared_in_groups rest) (group_declares g) ∙ ap (λ (xs : List ℕ). declared_items (out-Group g).body ++ xs) (groups_declare rest)

pub declares-switch : (node : SNode) (e : TExpr) (groups got : List Group) → node ≡ Switch e groups → got ≡ groups → declared_in node ≡ declared_cases got
declares-switch node e groups got is is_g =
    ap declared_in is ∙ groups_declare (hidden-the_row-Group-2 groups) ∙ ap declared_cases (items_hidden-the_row-Group-2 groups ∙ sym is_g)

pub declares-loop : (l : TLoop) → declared_in_loop l ≡ declared_items (out-TLoop l).heads ++ declared_in (out-TLoop l).body.node
unfolding out-TLoop out shown shown-the_row-TStmt-0 shown-the_row-TStmt-1
declares-loop (TLoop' t shape heads cond None' shape' (more_of-TStmt p body end) prop) =
    ap (λ (xs : List ℕ). xs ++ declared_in body) (row_declares heads ∙ ap declared_items (sym (items_shown-the_row-TStmt-0 shape heads)))
declares-loop (TLoop' t shape heads cond (Some' shape'' (more_of-TStmt q step end')) shape' (more_of-TStmt p body end) prop) =
    ap (λ (xs : List ℕ). xs ++ declared_in body) (row_declares heads ∙ ap declared_items (sym (items_shown-the_row-TStmt-0 shape heads)))

-- one statement more, and one group more
pub items_behind : (items : List TStmt) (i : ℕ) (s : TStmt) (end more : ℕ) → i < length items → s ≡ get_or items i s → more ≡ behind_all end (declared_in s.node) →
    behind_all end (declared_items (drop i items)) ≡ behind_all more (declared_items (drop (i + 1) items))
items_behind items i s end more lt is grown =
    ap (λ l. behind_all end (declared_items l)) (drop_more items i s lt)
    ∙ behind_both end (declared_in (get_or items i s).node) (declared_items (drop (i + 1) items))
    ∙ ap (λ n. behind_all n (declared_items (drop (i + 1) items))) (ap (λ (x : TStmt). behind_all end (declared_in x.node)) (sym is) ∙ sym grown)

pub cases_behind : (groups : List Group) (i : ℕ) (g : Group) (end more : ℕ) → i < length groups → g ≡ get_or groups i g → more ≡ behind_all end (declared_items (out-Group g).body) →
    behind_all end (declared_cases (drop i groups)) ≡ behind_all more (declared_cases (drop (i + 1) groups))
cases_behind groups i g end more lt is grown =
    ap (λ l. behind_all end (declared_cases l)) (drop_more groups i g lt)
    ∙ behind_both end (declared_items (out-Group (get_or groups i g)).body) (declared_cases (drop (i + 1) groups))
    ∙ ap (λ n. behind_all n (declared_cases (drop (i + 1) groups))) (ap (λ (x : Group). behind_all end (declared_items (out-Group x).body)) (sym is) ∙ sym grown)
