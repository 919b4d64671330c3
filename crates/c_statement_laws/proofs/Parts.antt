-- Blocks, branches, loops and switches are well-formed where their parts are.
use Rattle.std.proofs.Common.{◌≡◌, ◌<◌, List, [], ◌∷◌, ◌++◌, length, refl, sym, ap, subst}
use Rattle.std.specs.Prelude.{All, IsTrue, Option, Some, None}
use denote.Hole.Carrier.{hidden, roll}
use Rattle.c_tree.specs.declared.statements.Statement as statement
use Rattle.joint_ir.specs.declared.ctype.IntType.{IntType}
use Rattle.joint_ir.specs.declared.expr.TExpr.{TExpr}
use Rattle.joint_ir.specs.declared.program.PropId.{PropId}
use Rattle.joint_ir.specs.declared.program.PropKind.TheVariants as kind
use Rattle.joint_ir.specs.declared.stmt.Group.{roll-Group}
use Rattle.joint_ir.specs.declared.stmt.Label.{Label as TLabel}
use Rattle.joint_ir.specs.declared.stmt.SNode.{Block, If, Switch, Row_of-TStmt, end_of-TStmt, more_of-TStmt}
use Rattle.joint_ir.specs.declared.stmt.SNode.TheBlock.{hidden-the_row-TStmt-0, hidden-the_row-TStmt-1, hidden-the_row-Group-2, items-the_row-TStmt, items_hidden-the_row-TStmt-0}
use Rattle.joint_ir.specs.declared.stmt.TLoop.{roll-TLoop}
use Rattle.joint_ir.specs.declared.stmt.TStmt.{TStmt}
use Rattle.joint_ir.specs.WellFormed as well
use Rattle.joint_ir.specs.WellFormed.{AreDistinct, FitsExpr, FitsGroups, FitsLabel, FitsOption, FitsRow, FitsStmt, IsProp, IsPromoted, all_labels, behind_row, declared_behind, is_first_part, is_simple, with_scope_locals}
use Rattle.joint_lists.specs.Lists.{FitsItems, FitsOptional}
use Rattle.c_statements.specs.declared.walk.Around.{Around}
use Rattle.c_statements.specs.Known.{Known}
use Rattle.c_statements.specs.Switches.{labels_typed}
use Rattle.c_statements.specs.Statements.{do_typed, for_typed, groups_typed, known_after_stmts, stmts_typed, while_typed}
use Rattle.c_statement_laws.specs.Agreeing.{behind_items}

row_fits : {m : _} (c : well.Scope) (row : Row_of-TStmt m) → FitsItems c (items-the_row-TStmt _ row) → FitsRow c row
row_fits c end_of-TStmt h = tt
row_fits c (more_of-TStmt p a rest) h = (h.0, row_fits (with_scope_locals c (declared_behind a c.locals)) rest h.1)

list_fits : (c : well.Scope) (items : List TStmt) → FitsItems c items → FitsRow c (hidden-the_row-TStmt-0 items)
list_fits c items h = row_fits c (hidden-the_row-TStmt-0 items) (subst (FitsItems c) (sym (items_hidden-the_row-TStmt-0 items)) h)

pub block_fits : (c : well.Scope) (items : List TStmt) → FitsItems c items → FitsStmt c (Block items)
block_fits c items h = list_fits c items h

pub if_fits : (c : well.Scope) (e : TExpr) (a : TStmt) (other : Option TStmt) → FitsExpr c e → FitsStmt c a.node → FitsOptional c other → FitsStmt c (If e a other)
unfolding hidden-the_row-TStmt-0 hidden-the_row-TStmt-1 hidden
if_fits c e a None h g o = (h, g, tt)
if_fits c e a (Some b) h g o = (h, g, o)

pub while_fits : (c : well.Scope) (id : PropId) (e : TExpr) (s : TStmt) → FitsExpr (well.in_a_loop c) e → FitsStmt (well.in_a_loop c) s.node → IsProp c.program kind.Unwind id → FitsStmt c (while_typed id e s)
unfolding roll-TLoop roll hidden-the_row-TStmt-0 hidden-the_row-TStmt-1 hidden
while_fits c id e s h g q = (tt, refl, h, tt, g, q)

pub do_fits : (c : well.Scope) (id : PropId) (e : TExpr) (s : TStmt) → FitsExpr (well.in_a_loop c) e → FitsStmt (well.in_a_loop c) s.node → IsProp c.program kind.Unwind id → FitsStmt c (do_typed id e s)
unfolding roll-TLoop roll hidden-the_row-TStmt-0 hidden-the_row-TStmt-1 hidden
do_fits c id e s h g q = (tt, refl, h, tt, g, q)

-- the scope behind the first part of a `for`
behind_is : (c : well.Scope) (xs : List TStmt) → behind_items c xs ≡ with_scope_locals c (behind_row (hidden-the_row-TStmt-0 xs) c.locals)
unfolding hidden-the_row-TStmt-0 hidden
behind_is c [] = refl
behind_is c (x ∷ xs) = behind_is (with_scope_locals c (declared_behind x.node c.locals)) xs

-- the last part of a `for`
abbrev pub StepFits : well.Scope → Option TStmt → Type 0
StepFits c None = Unit {0}
StepFits c (Some s) = FitsStmt c s.node × IsTrue (is_simple s.node)

for_in : (c inner : well.Scope) (id : PropId) (heads : List TStmt) (cond : Option TExpr) (step : Option TStmt) (s : TStmt) →
    inner ≡ well.in_a_loop (with_scope_locals c (behind_row (hidden-the_row-TStmt-0 heads) c.locals)) → FitsRow c (hidden-the_row-TStmt-0 heads) →
    IsTrue (is_first_part (hidden-the_row-TStmt-0 heads)) → FitsOption inner cond → StepFits inner step → FitsStmt inner s.node → IsProp c.program kind.Unwind id → FitsStmt c (for_typed id heads cond step s)
unfolding roll-TLoop roll hidden-the_row-TStmt-0 hidden-the_row-TStmt-1 hidden
for_in c inner id heads cond None s is h first o t g q =
    let o' = subst (λ i. FitsOption i cond) is o in
    let g' = subst (λ i. FitsStmt i s.node) is g in
    (h, first, o', tt, g', q)
for_in c inner id heads cond (Some step) s is h first o t g q =
    let o' = subst (λ i. FitsOption i cond) is o in
    let g' = subst (λ i. FitsStmt i s.node) is g in
    let t' = subst (λ i. FitsStmt i step.node) is t.0 in
    (h, first, o', (t.1, t'), g', q)

pub for_fits : (c : well.Scope) (id : PropId) (heads : List TStmt) (cond : Option TExpr) (step : Option TStmt) (s : TStmt) → FitsItems c heads →
    IsTrue (is_first_part (hidden-the_row-TStmt-0 heads)) → FitsOption (well.in_a_loop (behind_items c heads)) cond → StepFits (well.in_a_loop (behind_items c heads)) step →
    FitsStmt (well.in_a_loop (behind_items c heads)) s.node → IsProp c.program kind.Unwind id → FitsStmt c (for_typed id heads cond step s)
for_fits c id heads cond step s h first o t g q = for_in c (well.in_a_loop (behind_items c heads)) id heads cond step s (ap well.in_a_loop (behind_is c heads)) (list_fits c heads h) first o t g q

-- the groups of a switch, by their source
abbrev pub GroupsOk : {m : _} → well.Scope → IntType → Around → Known → statement.Row_of-Group m → Type 0
GroupsOk c t a k statement.end_of-Group = Unit {0}
GroupsOk c t a k (statement.more_of-Group p labels _ body row) =
    (0 < length (labels_typed t labels)) × All (FitsLabel t) (labels_typed t labels) × FitsItems c (stmts_typed a k body) × GroupsOk c t a (known_after_stmts body k) row

abbrev pub labels_in : {m : _} → IntType → statement.Row_of-Group m → List TLabel
labels_in t statement.end_of-Group = []
labels_in t (statement.more_of-Group p labels _ body row) = labels_typed t labels ++ labels_in t row

groups_fit : {m : _} (c : well.Scope) (t : IntType) (a : Around) (k : Known) (row : statement.Row_of-Group m) → GroupsOk c t a k row → FitsGroups c t (hidden-the_row-Group-2 (groups_typed a k t row))
unfolding roll-Group roll hidden-the_row-TStmt-0 hidden-the_row-Group-2 hidden
groups_fit c t a k statement.end_of-Group h = tt
groups_fit c t a k (statement.more_of-Group p labels _ body row) h = ((h.0, h.1, list_fits c (stmts_typed a k body) h.2), groups_fit c t a (known_after_stmts body k) row h.3)

labels_are : {m : _} (t : IntType) (a : Around) (k : Known) (row : statement.Row_of-Group m) → all_labels (hidden-the_row-Group-2 (groups_typed a k t row)) ≡ labels_in t row
unfolding roll-Group roll hidden-the_row-TStmt-0 hidden-the_row-Group-2 hidden
labels_are t a k statement.end_of-Group = refl
labels_are t a k (statement.more_of-Group p labels _ body row) = ap (λ ls. labels_typed t labels ++ ls) (labels_are t a (known_after_stmts body k) row)

pub switch_fits : {m : _} (c : well.Scope) (t : IntType) (e : TExpr) (a : Around) (k : Known) (row : statement.Row_of-Group m) → e.ty ≡ t → FitsExpr c e → IsPromoted t →
    GroupsOk (well.in_a_switch c) t a k row → AreDistinct (labels_in t row) → FitsStmt c (Switch e (groups_typed a k t row))
switch_fits c t e a k row is h wide groups distinct = (
  h,
  subst IsPromoted (sym is) wide,
  subst (λ u. FitsGroups (well.in_a_switch c) u (hidden-the_row-Group-2 (groups_typed a k t row))) (sym is) (groups_fit (well.in_a_switch c) t a k row groups),
  subst AreDistinct (sym (labels_are t a k row)) distinct,
)
