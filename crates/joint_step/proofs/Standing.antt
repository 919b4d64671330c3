-- What is well-formed of a part, where the whole is.
use Rattle.std.proofs.Common.{◌≡◌, ◌∙◌, ◌+◌, ◌<◌, ℕ, List, ◌∷◌, length, drop, refl, sym, ap, subst}
use Rattle.std.specs.Prelude.{Option, get_or}
use Rattle.std.proofs.lemmas.List.{drop_more}
use Rattle.joint_ir.specs.declared.expr.TExpr.{TExpr}
use Rattle.joint_ir.specs.declared.pair.Pair.{Pair}
use Rattle.joint_ir.specs.declared.stmt.Group.{Group, out-Group}
use Rattle.joint_ir.specs.declared.stmt.SNode.{SNode, Block, If, Switch}
use Rattle.joint_ir.specs.declared.stmt.TStmt.{TStmt}
use Rattle.joint_ir.specs.declared.stmt.TLoop.{TLoop, out-TLoop}
use Rattle.joint_ir.specs.WellFormed.{Scope, FitsStmt, FitsExpr, FitsOption, FitsLoop, with_scope_locals, declared_behind, in_a_switch}
use Rattle.joint_machine.specs.Moments.{Stands}
use Rattle.joint_lists.specs.Lists.{FitsItems, FitsOptional, FitsCases}
use Rattle.joint_lists.proofs.Shapes.{fits-block, fits-if, fits-switch, fits-loop}

pub stands_as : (p : Pair) (here : ℕ) (F G : Scope → Type 0) → ((c : Scope) → F c → G c) → Stands p here F → Stands p here G
stands_as p here F G h s = record { scope = s.scope; program = s.program; function = s.function; holds = h s.scope s.holds }

module _ (p : Pair) (here : ℕ) where
  pub stands-block : (node : SNode) (items got : List TStmt) → node ≡ Block items → got ≡ items → Stands p here (λ c. FitsStmt c node) → Stands p here (λ c. FitsItems c got)
  stands-block node items got is is_got s = stands_as p here (λ c. FitsStmt c node) (λ c. FitsItems c got) (λ c. fits-block c node items got is is_got) s

  module _ (node : SNode) (e test : TExpr) (a got : TStmt) (other : Option TStmt) (is : node ≡ If e a other) (s : Stands p here (λ c. FitsStmt c node)) where
    pub stands-test : test ≡ e → Stands p here (λ c. FitsExpr c test)
    stands-test is_e = stands_as p here (λ c. FitsStmt c node) (λ c. FitsExpr c test) (λ c h. (fits-if c node e test a a other is is_e refl h).0) s

    pub stands-then : got ≡ a → Stands p here (λ c. FitsStmt c got.node)
    stands-then is_a = stands_as p here (λ c. FitsStmt c node) (λ c. FitsStmt c got.node) (λ c h. (fits-if c node e e a got other is refl is_a h).1) s

    pub stands-else : Stands p here (λ c. FitsOptional c other)
    stands-else = stands_as p here (λ c. FitsStmt c node) (λ c. FitsOptional c other) (λ c h. (fits-if c node e e a a other is refl refl h).2) s

  module _ (node : SNode) (e test : TExpr) (groups got : List Group) (is : node ≡ Switch e groups) (s : Stands p here (λ c. FitsStmt c node)) where
    pub stands-switched : test ≡ e → Stands p here (λ c. FitsExpr c test)
    stands-switched is_e = stands_as p here (λ c. FitsStmt c node) (λ c. FitsExpr c test) (λ c h. (fits-switch c node e test groups groups is is_e refl h).0) s

    pub stands-cases : got ≡ groups → Stands p here (λ c. FitsCases c got)
    stands-cases is_g = record {
      scope = in_a_switch s.scope;
      program = s.program;
      function = s.function;
      holds = (fits-switch s.scope node e e groups got is refl is_g s.holds).1;
    }

  -- a statement of a list, and those behind it
  module _ (items : List TStmt) (i : ℕ) (x : TStmt) (lt : i < length items) (is : x ≡ get_or items i x) (s : Stands p here (λ c. FitsItems c (drop i items))) where
    here_is : drop i items ≡ x ∷ drop (i + 1) items
    here_is = drop_more items i x lt ∙ ap (λ y. y ∷ drop (i + 1) items) (sym is)

    both : FitsItems s.scope (x ∷ drop (i + 1) items)
    both = subst (FitsItems s.scope) here_is s.holds

    pub stands_first : Stands p here (λ c. FitsStmt c x.node)
    stands_first = record { scope = s.scope; program = s.program; function = s.function; holds = both.0 }

    pub stands_rest : Stands p here (λ c. FitsItems c (drop (i + 1) items))
    stands_rest = record {
      scope = with_scope_locals s.scope (declared_behind x.node s.scope.locals);
      program = s.program;
      function = s.function;
      holds = both.1;
    }

  -- the statements of a group
  pub stands_group : (groups : List Group) (i : ℕ) (g : Group) (body : List TStmt) → i < length groups → g ≡ get_or groups i g → body ≡ (out-Group g).body →
      Stands p here (λ c. FitsCases c groups) → Stands p here (λ c. FitsItems c body)
  stands_group groups i g body lt is its s =
      stands_as p here (λ c. FitsCases c groups) (λ c. FitsItems c body)
      (λ c h. subst (FitsItems c) (sym its) (subst (λ (y : Group). FitsItems c (out-Group y).body) (sym is) (h i g lt))) s

  -- the parts of a loop
  module _ (l : TLoop) (s : Stands p here (λ c. FitsLoop c l)) where
    pub stands_heads : (items : List TStmt) → items ≡ (out-TLoop l).heads → Stands p here (λ c. FitsItems c items)
    stands_heads items is = stands_as p here (λ c. FitsLoop c l) (λ c. FitsItems c items) (λ c h. subst (FitsItems c) (sym is) (fits-loop c l h).heads) s

    pub stands_cond : Stands p here (λ c. FitsOption c (out-TLoop l).cond)
    stands_cond =
        let parts = fits-loop s.scope l s.holds in
        record { scope = parts.inner; program = parts.program ∙ s.program; function = parts.function ∙ s.function; holds = parts.cond }

    pub stands_step : Stands p here (λ c. FitsOptional c (out-TLoop l).step)
    stands_step =
        let parts = fits-loop s.scope l s.holds in
        record { scope = parts.inner; program = parts.program ∙ s.program; function = parts.function ∙ s.function; holds = parts.step }

    pub stands_body : (body : TStmt) → body ≡ (out-TLoop l).body → Stands p here (λ c. FitsStmt c body.node)
    stands_body body is =
        let parts = fits-loop s.scope l s.holds in
        record { scope = parts.inner; program = parts.program ∙ s.program; function = parts.function ∙ s.function; holds = subst (λ (x : TStmt). FitsStmt parts.inner x.node) (sym is) parts.body }
