-- What a statement writes, at the values that the reader makes.
use Rattle.std.proofs.Common.{◌≡◌, List, [], ◌∷◌, ◌++◌, refl, ap, ◌∙◌}
use Rattle.std.specs.Prelude.{ℕ, Option, flat_map}
use Rattle.src_text.specs.declared.refusal.Place.{Place}
use Rattle.bits_core.specs.Word.{Word}
use Rattle.v_tree.specs.declared.expr.Expr.{Expr}
use Rattle.v_tree.specs.declared.expr.Expr as in_expr
use Rattle.v_tree.specs.declared.expr.Selection.TheVariants as selection
use Rattle.v_tree.specs.declared.name.Identifier.{Identifier}
use Rattle.v_tree.specs.declared.stmt.CaseItem as in_case
use Rattle.v_tree.specs.declared.stmt.ForHead.{ForHead}
use Rattle.v_tree.specs.declared.stmt.Stmt.{Stmt}
use Rattle.v_tree.specs.declared.stmt.Stmt.TheVariants as stmt
use Rattle.elab_names.specs.declared.constant.Worth.TheVariants.{Value}
use Rattle.elab_names.specs.declared.names.Entry.{Entry}
use Rattle.elab_names.specs.declared.names.Turn.{Turn}
use Rattle.elab_names.specs.Names.{Scope, find_in}
use Rattle.elab_flat.specs.Flat.{known}
use Rattle.elab_loops.specs.Loops.{with_turn, taken_turns, integer_number}
use Rattle.elab_firsts.specs.declared.values.FirstWrite.{FirstWrite}
use Rattle.elab_firsts.specs.Values.{write_of}
use Rattle.elab_firsts.specs.Writes.{word_write, loop_writes, stmt_writes, row_writes}

row_made : (names : Scope) (xs : List Stmt) (turns : List Turn) → row_writes names (in_case.TheBlock.hidden-the_row-Stmt-1 xs) turns ≡ flat_map (λ s. stmt_writes names s turns) xs
unfolding in_case.TheBlock.hidden-the_row-Stmt-1 denote.Hole.Carrier.hidden
row_made names [] turns = refl
row_made names (x ∷ xs) turns = ap (λ l. stmt_writes names x turns ++ l) (row_made names xs turns)

module _ (names : Scope) (turns : List Turn) where
  pub block_made : (place : Place) (label : Option Identifier) (body : List Stmt) → stmt_writes names (stmt.Block place label body) turns ≡ flat_map (λ s. stmt_writes names s turns) body
  block_made place label body = row_made names body turns

  pub for_made : (place : Place) (head : ForHead) (s : Stmt) → stmt_writes names (stmt.For place head s) turns ≡ loop_writes names (stmt_writes names s) turns head
  unfolding in_case.TheBlock.hidden-the_row-Stmt-0 denote.Hole.Carrier.hidden
  for_made place head s = refl

  pub word_made : (x : Identifier) (e i : Expr) → word_write names turns x e (selection.Index i) ≡ write_of names turns (find_in names x.name) (known names turns 4095 i) e
  unfolding in_expr.TheBlock.hidden-the_row-Expr-1 denote.Hole.Carrier.hidden
  word_made x e i = refl

  pub loop_made : (body : Stmt) (head : ForHead) (entry : Option Entry) (integer : ℕ) (taken slice : List Word) (writes : List FirstWrite) →
      entry ≡ find_in names head.start.name.name → integer ≡ integer_number entry → taken ≡ taken_turns names turns integer head → slice ≡ taken →
      writes ≡ flat_map (λ v. stmt_writes names body (with_turn turns integer (Value v))) slice → writes ≡ loop_writes names (stmt_writes names body) turns head
  loop_made body head entry integer taken slice writes is_entry is_integer is_taken is_slice h =
      h ∙ ap (flat_map (λ v. stmt_writes names body (with_turn turns integer (Value v)))) (is_slice ∙ is_taken)
      ∙ ap (λ n. flat_map (λ v. stmt_writes names body (with_turn turns n (Value v))) (taken_turns names turns n head)) (is_integer ∙ ap integer_number is_entry)
