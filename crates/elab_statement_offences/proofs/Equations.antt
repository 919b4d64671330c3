-- What is wrong with a statement, at the values that the reader makes.
use Rattle.std.proofs.Common.{◌≡◌, ℕ, List, [], ◌∷◌, ◌++◌, refl, ap, ◌∙◌}
use Rattle.std.specs.Prelude.{Option, Bool, false, flat_map}
use Rattle.src_text.specs.declared.refusal.Place.{Place}
use Rattle.v_tree.specs.declared.expr.Expr.{Expr}
use Rattle.v_tree.specs.declared.name.Identifier.{Identifier}
use Rattle.v_tree.specs.declared.stmt.CaseItem.{CaseItem}
use Rattle.v_tree.specs.declared.stmt.CaseItem as in_case
use Rattle.v_tree.specs.declared.stmt.CaseItem.TheVariants as item
use Rattle.v_tree.specs.declared.stmt.CaseKind.{CaseKind}
use Rattle.v_tree.specs.declared.stmt.ForHead.{ForHead}
use Rattle.v_tree.specs.declared.stmt.Stmt.{Stmt}
use Rattle.v_tree.specs.declared.stmt.Stmt.TheVariants as stmt
use Rattle.elab_names.specs.declared.names.Turn.{Turn}
use Rattle.elab_names.specs.Names.{Scope}
use Rattle.elab_offences.specs.Expressions.{expr_offences}
use Rattle.elab_statement_offences.specs.Cases.{pattern_offences}
use Rattle.elab_statement_offences.specs.Statements.{loop_offences, stmt_offences, body_offences, item_offences, items_offences}

body_row : (names : Scope) (live : Bool) (turns : List Turn) (xs : List Stmt) → body_offences names (in_case.TheBlock.hidden-the_row-Stmt-1 xs) live turns ≡ flat_map (λ s. stmt_offences names s live turns) xs
unfolding in_case.TheBlock.hidden-the_row-Stmt-1 denote.Hole.Carrier.hidden
body_row names live turns [] = refl
body_row names live turns (x ∷ xs) = ap (λ l. stmt_offences names x live turns ++ l) (body_row names live turns xs)

items_row : (names : Scope) (kind : CaseKind) (live : Bool) (turns : List Turn) (xs : List CaseItem) → items_offences names kind (in_case.TheBlock.hidden-the_row-CaseItem-2 xs) live turns ≡ flat_map (λ c. item_offences names kind c live turns) xs
unfolding in_case.TheBlock.hidden-the_row-CaseItem-2 denote.Hole.Carrier.hidden
items_row names kind live turns [] = refl
items_row names kind live turns (x ∷ xs) = ap (λ l. item_offences names kind x live turns ++ l) (items_row names kind live turns xs)

module _ (names : Scope) (live : Bool) (turns : List Turn) where
  pub wrong_block : (place : Place) (label : Option Identifier) (body : List Stmt) → stmt_offences names (stmt.Block place label body) live turns ≡ flat_map (λ s. stmt_offences names s live turns) body
  wrong_block place label body = body_row names live turns body

  pub wrong_if : (place : Place) (c : Expr) (s : Stmt) → stmt_offences names (stmt.If place c s) live turns ≡ expr_offences names turns false c ++ stmt_offences names s live turns
  unfolding in_case.TheBlock.hidden-the_row-Stmt-0 denote.Hole.Carrier.hidden
  wrong_if place c s = refl

  pub wrong_if_else : (place : Place) (c : Expr) (s other : Stmt) → stmt_offences names (stmt.IfElse place c s other) live turns ≡ expr_offences names turns false c ++ (stmt_offences names s live turns ++ stmt_offences names other live turns)
  unfolding in_case.TheBlock.hidden-the_row-Stmt-0 denote.Hole.Carrier.hidden
  wrong_if_else place c s other = refl

  pub wrong_case : (place : Place) (kind : CaseKind) (e : Expr) (items : List CaseItem) → stmt_offences names (stmt.Case place kind e items) live turns ≡ expr_offences names turns false e ++ flat_map (λ c. item_offences names kind c live turns) items
  wrong_case place kind e items = ap (λ l. expr_offences names turns false e ++ l) (items_row names kind live turns items)

  pub wrong_for : (place : Place) (head : ForHead) (s : Stmt) → stmt_offences names (stmt.For place head s) live turns ≡ loop_offences names (stmt_offences names s) live turns place head
  unfolding in_case.TheBlock.hidden-the_row-Stmt-0 denote.Hole.Carrier.hidden
  wrong_for place head s = refl

  pub wrong_values : (kind : CaseKind) (values : List Expr) (s : Stmt) → item_offences names kind (item.Values values s) live turns ≡ flat_map (pattern_offences names turns kind) values ++ stmt_offences names s live turns
  unfolding in_case.TheBlock.hidden-the_row-Stmt-0 denote.Hole.Carrier.hidden
  wrong_values kind values s = refl

  pub wrong_default : (kind : CaseKind) (place : Place) (s : Stmt) → item_offences names kind (item.Default place s) live turns ≡ stmt_offences names s live turns
  unfolding in_case.TheBlock.hidden-the_row-Stmt-0 denote.Hole.Carrier.hidden
  wrong_default kind place s = refl
