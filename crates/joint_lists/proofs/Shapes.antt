-- Which statements are well-formed, by lists.
use Rattle.std.proofs.Common.{◌≡◌, List, refl, sym, ap, ◌∙◌, subst}
use Rattle.std.specs.Prelude.{Option, Some, None}
use Rattle.std.proofs.lemmas.List.Elements.{All-cons, All-nil}
use denote.Hole.Carrier.{hidden, out, shown}
use Rattle.joint_ir.specs.declared.ctype.IntType.{IntType}
use Rattle.joint_ir.specs.declared.expr.TExpr.{TExpr}
use Rattle.joint_ir.specs.declared.stmt.Group.{Group, Group', out-Group}
use Rattle.joint_ir.specs.declared.stmt.SNode.{SNode, Block, If, Switch, Row_of-TStmt, end_of-TStmt, more_of-TStmt, Row_of-Group, end_of-Group, more_of-Group, None', Some'}
use Rattle.joint_ir.specs.declared.stmt.SNode.TheBlock.{hidden-the_row-TStmt-0, hidden-the_row-TStmt-1, items-the_row-TStmt, items_hidden-the_row-TStmt-0, items_shown-the_row-TStmt-0, shown-the_row-TStmt-0, shown-the_row-TStmt-1, hidden-the_row-Group-2, items-the_row-Group, items_hidden-the_row-Group-2}
use Rattle.joint_ir.specs.declared.stmt.TLoop.{TLoop, TLoop', out-TLoop}
use Rattle.joint_ir.specs.declared.stmt.TStmt.{TStmt}
use Rattle.joint_ir.specs.WellFormed.{Scope, FitsStmt, FitsRow, FitsExpr, FitsOption, FitsLoop, FitsGroups, FitsGroup, with_scope_locals, declared_behind, in_a_loop, in_a_switch, behind_row}
use Rattle.joint_lists.specs.Lists.{FitsItems, FitsOptional, FitsCases}

fits_row : {m : _} (c : Scope) (row : Row_of-TStmt m) → FitsRow c row → FitsItems c (items-the_row-TStmt _ row)
fits_row c end_of-TStmt h = tt
fits_row c (more_of-TStmt p a rest) h = (h.0, fits_row (with_scope_locals c (declared_behind a c.locals)) rest h.1)

pub fits-block : (c : Scope) (node : SNode) (items got : List TStmt) → node ≡ Block items → got ≡ items → FitsStmt c node → FitsItems c got
fits-block c node items got is is_got h =
    subst (FitsItems c) (items_hidden-the_row-TStmt-0 items ∙ sym is_got) (fits_row c (hidden-the_row-TStmt-0 items) (subst (FitsStmt c) is h))

abbrev pub FitsIf : Scope → TExpr → TStmt → Option TStmt → Type 0
FitsIf c e a other = FitsExpr c e × FitsStmt c a.node × FitsOptional c other

fits-if_of : (c : Scope) (e : TExpr) (a : TStmt) (other : Option TStmt) → FitsStmt c (If e a other) → FitsIf c e a other
unfolding hidden-the_row-TStmt-0 hidden-the_row-TStmt-1 hidden
fits-if_of c e a None h = h
fits-if_of c e a (Some b) h = h

pub fits-if : (c : Scope) (node : SNode) (e test : TExpr) (a got : TStmt) (other : Option TStmt) → node ≡ If e a other → test ≡ e → got ≡ a →
    FitsStmt c node → FitsIf c test got other
fits-if c node e test a got other is is_e is_a h =
    fits-if_of c test got other (subst (FitsStmt c) (is ∙ ap (λ x. If x a other) (sym is_e) ∙ ap (λ x. If test x other) (sym is_a)) h)

fits-group : (c : Scope) (t : IntType) (g : Group) → FitsGroup c t g → FitsItems c (out-Group g).body
unfolding out-Group out shown-the_row-TStmt-0
fits-group c t (Group' labels shape row) h = subst (FitsItems c) (sym (items_shown-the_row-TStmt-0 shape row)) (fits_row c row h.2)

fits_groups : {m : _} (c : Scope) (t : IntType) (row : Row_of-Group m) → FitsGroups c t row → FitsCases c (items-the_row-Group _ row)
fits_groups c t end_of-Group h = All-nil (λ (g : Group). FitsItems c (out-Group g).body)
fits_groups c t (more_of-Group g rest) h =
    All-cons (λ (g : Group). FitsItems c (out-Group g).body) g (items-the_row-Group _ rest) (fits-group c t g h.0) (fits_groups c t rest h.1)

pub fits-switch : (c : Scope) (node : SNode) (e test : TExpr) (groups got : List Group) → node ≡ Switch e groups → test ≡ e → got ≡ groups →
    FitsStmt c node → FitsExpr c test × FitsCases (in_a_switch c) got
fits-switch c node e test groups got is is_e is_g h =
    let f = subst (FitsStmt c) (is ∙ ap (λ x. Switch x groups) (sym is_e)) h in
    (f.0, subst (FitsCases (in_a_switch c)) (items_hidden-the_row-Group-2 groups ∙ sym is_g) (fits_groups (in_a_switch c) test.ty (hidden-the_row-Group-2 groups) f.2))

-- the parts of a loop
pub record LoopParts (c : Scope) (l : TLoop) : Type 0 where
  pub inner : Scope
  pub program : inner.program ≡ c.program
  pub function : inner.here ≡ c.here
  pub heads : FitsItems c (out-TLoop l).heads
  pub cond : FitsOption inner (out-TLoop l).cond
  pub step : FitsOptional inner (out-TLoop l).step
  pub body : FitsStmt inner (out-TLoop l).body.node

pub fits-loop : (c : Scope) (l : TLoop) → FitsLoop c l → LoopParts c l
unfolding out-TLoop out shown shown-the_row-TStmt-0 shown-the_row-TStmt-1
fits-loop c (TLoop' t shape heads cond None' shape' (more_of-TStmt p body end) prop) h = record {
  inner = in_a_loop (with_scope_locals c (behind_row heads c.locals));
  program = refl;
  function = refl;
  heads = subst (FitsItems c) (sym (items_shown-the_row-TStmt-0 shape heads)) (fits_row c heads h.0);
  cond = h.2;
  step = tt;
  body = h.4;
}
fits-loop c (TLoop' t shape heads cond (Some' shape'' (more_of-TStmt q step end')) shape' (more_of-TStmt p body end) prop) h = record {
  inner = in_a_loop (with_scope_locals c (behind_row heads c.locals));
  program = refl;
  function = refl;
  heads = subst (FitsItems c) (sym (items_shown-the_row-TStmt-0 shape heads)) (fits_row c heads h.0);
  cond = h.2;
  step = h.3.1;
  body = h.4;
}
