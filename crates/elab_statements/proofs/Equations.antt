-- What the flat form of a statement is, at the values that the reader makes.
use Rattle.std.proofs.Common.{◌≡◌, ℕ, List, [], ◌∷◌, map, refl, ap, ◌∙◌}
use Rattle.std.specs.Prelude.{Option}
use Rattle.src_text.specs.declared.refusal.Place.{Place}
use Rattle.bits_core.specs.Word.{Word}
use Rattle.v_tree.specs.declared.expr.Expr.{Expr}
use Rattle.v_tree.specs.declared.name.Identifier.{Identifier}
use Rattle.v_tree.specs.declared.stmt.CaseItem.{CaseItem}
use Rattle.v_tree.specs.declared.stmt.CaseItem as in_case
use Rattle.v_tree.specs.declared.stmt.CaseItem.TheVariants as item
use Rattle.v_tree.specs.declared.stmt.CaseKind.{CaseKind}
use Rattle.v_tree.specs.declared.stmt.ForHead.{ForHead}
use Rattle.v_tree.specs.declared.stmt.Stmt.{Stmt}
use Rattle.v_tree.specs.declared.stmt.Stmt.TheVariants as stmt
use Rattle.v_views.specs.declared.CaseItem.TheVariants as choice
use Rattle.v_views.specs.declared.Stmt.TheVariants as made
use Rattle.elab_names.specs.declared.constant.Worth.TheVariants.{Value}
use Rattle.elab_names.specs.declared.names.Entry.{Entry}
use Rattle.elab_names.specs.declared.names.Turn.{Turn}
use Rattle.elab_names.specs.Names.{Scope, find_in}
use Rattle.elab_loops.specs.Loops.{with_turn, taken_turns, integer_number}
use Rattle.elab_flat.specs.Flat.{flat_expr}
use Rattle.elab_statements.specs.Patterns.{flat_pattern}
use Rattle.elab_statements.specs.Statements.{FlatStmt, loop_copies, flat_stmt, flat_body, flat_item, flat_items}

body_row : (names : Scope) (turns : List Turn) (xs : List Stmt) → flat_body names (in_case.TheBlock.hidden-the_row-Stmt-1 xs) turns ≡ map (λ s. flat_stmt names s turns) xs
unfolding in_case.TheBlock.hidden-the_row-Stmt-1 denote.Hole.Carrier.hidden
body_row names turns [] = refl
body_row names turns (x ∷ xs) = ap (λ l. flat_stmt names x turns ∷ l) (body_row names turns xs)

items_row : (names : Scope) (turns : List Turn) (kind : CaseKind) (xs : List CaseItem) → flat_items names kind (in_case.TheBlock.hidden-the_row-CaseItem-2 xs) turns ≡ map (λ c. flat_item names kind c turns) xs
unfolding in_case.TheBlock.hidden-the_row-CaseItem-2 denote.Hole.Carrier.hidden
items_row names turns kind [] = refl
items_row names turns kind (x ∷ xs) = ap (λ l. flat_item names kind x turns ∷ l) (items_row names turns kind xs)

module _ (names : Scope) (turns : List Turn) where
  pub block_made : (place : Place) (label : Option Identifier) (body : List Stmt) → flat_stmt names (stmt.Block place label body) turns ≡ made.Block place (map (λ s. flat_stmt names s turns) body)
  block_made place label body = ap (made.Block place) (body_row names turns body)

  pub if_made : (place : Place) (c : Expr) (s : Stmt) → flat_stmt names (stmt.If place c s) turns ≡ made.If place (flat_expr names turns c) (flat_stmt names s turns)
  unfolding in_case.TheBlock.hidden-the_row-Stmt-0 denote.Hole.Carrier.hidden
  if_made place c s = refl

  pub if_else_made : (place : Place) (c : Expr) (s other : Stmt) → flat_stmt names (stmt.IfElse place c s other) turns ≡ made.IfElse place (flat_expr names turns c) (flat_stmt names s turns) (flat_stmt names other turns)
  unfolding in_case.TheBlock.hidden-the_row-Stmt-0 denote.Hole.Carrier.hidden
  if_else_made place c s other = refl

  pub case_made : (place : Place) (kind : CaseKind) (e : Expr) (items : List CaseItem) → flat_stmt names (stmt.Case place kind e items) turns ≡ made.Case place (flat_expr names turns e) (map (λ c. flat_item names kind c turns) items)
  case_made place kind e items = ap (made.Case place (flat_expr names turns e)) (items_row names turns kind items)

  pub for_made : (place : Place) (head : ForHead) (s : Stmt) → flat_stmt names (stmt.For place head s) turns ≡ made.Block place (loop_copies names (flat_stmt names s) turns head)
  unfolding in_case.TheBlock.hidden-the_row-Stmt-0 denote.Hole.Carrier.hidden
  for_made place head s = refl

  pub values_made : (kind : CaseKind) (values : List Expr) (s : Stmt) → flat_item names kind (item.Values values s) turns ≡ choice.Values (map (flat_pattern names turns kind) values) (flat_stmt names s turns)
  unfolding in_case.TheBlock.hidden-the_row-Stmt-0 denote.Hole.Carrier.hidden
  values_made kind values s = refl

  pub default_made : (kind : CaseKind) (place : Place) (s : Stmt) → flat_item names kind (item.Default place s) turns ≡ choice.Default place (flat_stmt names s turns)
  unfolding in_case.TheBlock.hidden-the_row-Stmt-0 denote.Hole.Carrier.hidden
  default_made kind place s = refl

  pub loop_made : (body : Stmt) (head : ForHead) (entry : Option Entry) (integer : ℕ) (taken slice : List Word) (copies : List FlatStmt) →
      entry ≡ find_in names head.start.name.name → integer ≡ integer_number entry → taken ≡ taken_turns names turns integer head → slice ≡ taken →
      copies ≡ map (λ v. flat_stmt names body (with_turn turns integer (Value v))) slice → copies ≡ loop_copies names (flat_stmt names body) turns head
  loop_made body head entry integer taken slice copies is_entry is_integer is_taken is_slice h =
      h ∙ ap (map (λ v. flat_stmt names body (with_turn turns integer (Value v)))) (is_slice ∙ is_taken)
      ∙ ap (λ n. map (λ v. flat_stmt names body (with_turn turns n (Value v))) (taken_turns names turns n head)) (is_integer ∙ ap integer_number is_entry)
