-- What statements do, by lists.
use Rattle.std.proofs.Common.{◌≡◌, ◌+◌, ℕ, zero, suc, List, drop, true, false, cond, refl, sym, ap, ◌∙◌, arith}
use Rattle.std.specs.Prelude.{ℤ, Option, Some, None, option_map, Bool, if◌then◌else◌}
use Rattle.std.specs.List.{position_from, list_any}
use mathlib.Core.Path.{fun_ext}
use denote.Hole.Carrier.{hidden, out, shown}
use Rattle.joint_ir.specs.declared.expr.TExpr.{TExpr}
use Rattle.joint_ir.specs.declared.stmt.Group.{Group, Group', out-Group}
use Rattle.joint_ir.specs.declared.stmt.Label.{Label}
use Rattle.joint_ir.specs.declared.stmt.SNode.{SNode, Block, If, Switch, Row_of-TStmt, end_of-TStmt, more_of-TStmt, Row_of-Group, end_of-Group, more_of-Group, None', Some'}
use Rattle.joint_ir.specs.declared.stmt.SNode.TheBlock.{hidden-the_row-TStmt-0, hidden-the_row-TStmt-1, items-the_row-TStmt, items_hidden-the_row-TStmt-0, items_shown-the_row-TStmt-0, shown-the_row-TStmt-0, shown-the_row-TStmt-1, hidden-the_row-Group-2, items-the_row-Group, items_hidden-the_row-Group-2}
use Rattle.joint_ir.specs.declared.stmt.TLoop.{TLoop, TLoop', out-TLoop}
use Rattle.joint_ir.specs.declared.stmt.TStmt.{TStmt}
use Rattle.src_text.specs.declared.refusal.Place.{Place}
use Rattle.joint_ir.specs.Values.{value_of, is_zero}
use Rattle.joint_ir.specs.Effects.{Onward, then_do, with_value}
use Rattle.joint_ir.specs.Steps.{Setting, Calls, rows_in, limit_of}
use Rattle.joint_ir.specs.Statements.{after, after_row, after_loop, after_group, groups_from, loop_effect, condition_value, group_with, entered, has_label, is_case, is_default, at_entry}
use Rattle.joint_lists.specs.Lists.{after_items, after_option, after_cases, case_with, or_else, entered_case}

-- ---- where control enters a switch

labels_pass : (test : Label → Bool) (g : Group) → has_label test g ≡ list_any test (out-Group g).labels
unfolding out-Group out
labels_pass test (Group' labels shape row) = refl

first_or : (b : Bool) (i : ℕ) (o r : Option ℕ) → r ≡ option_map (λ j. j + (i + 1)) o →
    cond b (Some i) r ≡ option_map (λ j. j + i) (if b then Some 0 else option_map suc o)
first_or true i o r h = ap Some (omega arith)
first_or false i None r h = h
first_or false i (Some j) r h = h ∙ ap Some (omega arith)

cases_from : {m : _} (test : Label → Bool) (i : ℕ) (row : Row_of-Group m) →
    position_from (λ g. list_any test (out-Group g).labels) i (items-the_row-Group _ row) ≡ option_map (λ j. j + i) (group_with test row)
cases_from test i end_of-Group = refl
cases_from test i (more_of-Group g rest) =
    first_or (list_any test (out-Group g).labels) i (group_with test rest) _ (cases_from test (i + 1) rest)
    ∙ ap (λ (b : Bool). option_map (λ j. j + i) (if b then Some 0 else option_map suc (group_with test rest))) (sym (labels_pass test g))

plus_none : (o : Option ℕ) → option_map (λ j. j + 0) o ≡ o
plus_none None = refl
plus_none (Some j) = ap Some (omega arith)

cases_with : {m : _} (test : Label → Bool) (row : Row_of-Group m) → group_with test row ≡ case_with test (items-the_row-Group _ row)
cases_with test row = sym (cases_from test 0 row ∙ plus_none (group_with test row))

entered_by : (a b : Option ℕ) → elim a [ Some i ↦ Some i | None ↦ b ] ≡ or_else a b
entered_by (Some i) b = refl
entered_by None b = refl

entered_row : {m : _} (n : ℤ) (row : Row_of-Group m) → entered n row ≡ or_else (group_with (is_case n) row) (group_with is_default row)
entered_row n row = entered_by (group_with (is_case n) row) (group_with is_default row)

module _ (k : Setting) (calls : Calls) where
  rows_do : {m : _} (row : Row_of-TStmt m) → after_row k calls row ≡ after_items k calls (items-the_row-TStmt _ row)
  rows_do end_of-TStmt = refl
  rows_do (more_of-TStmt p a rest) = fun_ext (λ s. fun_ext (λ c. ap (λ (go : Onward). then_do (after k calls p a s c) go) (rows_do rest)))

  pub after-block : (p : Place) (node : SNode) (items got : List TStmt) → node ≡ Block items → got ≡ items → after k calls p node ≡ after_items k calls got
  after-block p node items got is is_got =
      ap (after k calls p) is ∙ rows_do (hidden-the_row-TStmt-0 items) ∙ ap (after_items k calls) (items_hidden-the_row-TStmt-0 items ∙ sym is_got)

  -- an `if`
  abbrev pub chosen : TExpr → TStmt → Option TStmt → Onward
  chosen e a other s c = with_value (value_of (rows_in k s) e) c (λ n. if is_zero n then after_option k calls other s c else after k calls a.place a.node s c)

  after-if_of : (p : Place) (e : TExpr) (a : TStmt) (other : Option TStmt) → after k calls p (If e a other) ≡ chosen e a other
  unfolding hidden-the_row-TStmt-0 hidden-the_row-TStmt-1 hidden
  after-if_of p e a None = refl
  after-if_of p e a (Some b) = refl

  pub after-if : (p : Place) (node : SNode) (e test : TExpr) (a got : TStmt) (other : Option TStmt) → node ≡ If e a other → test ≡ e → got ≡ a →
      after k calls p node ≡ chosen test got other
  after-if p node e test a got other is is_e is_a =
      ap (after k calls p) (is ∙ ap (λ x. If x a other) (sym is_e) ∙ ap (λ x. If test x other) (sym is_a)) ∙ after-if_of p test got other

  after-group : (g : Group) → after_group k calls g ≡ after_items k calls (out-Group g).body
  unfolding out-Group out shown-the_row-TStmt-0
  after-group (Group' labels shape row) = rows_do row ∙ ap (after_items k calls) (sym (items_shown-the_row-TStmt-0 shape row))

  groups_do : {m : _} (i : ℕ) (row : Row_of-Group m) → groups_from k calls i row ≡ after_cases k calls (drop i (items-the_row-Group _ row))
  groups_do zero end_of-Group = refl
  groups_do (suc i) end_of-Group = refl
  groups_do zero (more_of-Group g rest) =
      fun_ext (λ s. fun_ext (λ c. ap (λ (f : Onward). then_do (f s c) (groups_from k calls zero rest)) (after-group g)
      ∙ ap (λ (go : Onward). then_do (after_items k calls (out-Group g).body s c) go) (groups_do zero rest)))
  groups_do (suc i) (more_of-Group g rest) = groups_do i rest

  -- a switch
  abbrev pub switched : TExpr → List Group → Onward
  switched e groups s c = with_value (value_of (rows_in k s) e) c (λ n. at_entry (entered_case n groups) (λ i. after_cases k calls (drop i groups)) s c)

  pub after-switch : (p : Place) (node : SNode) (e test : TExpr) (groups got : List Group) → node ≡ Switch e groups → test ≡ e → got ≡ groups →
      after k calls p node ≡ switched test got
  after-switch p node e test groups got is is_e is_g =
      ap (after k calls p) (is ∙ ap (λ x. Switch x groups) (sym is_e))
      ∙ fun_ext (λ s. fun_ext (λ c. ap (λ go. with_value (value_of (rows_in k s) test) c go) (fun_ext (λ n.
      ap (λ (o : Option ℕ). at_entry o (λ i. groups_from k calls i (hidden-the_row-Group-2 groups)) s c) (enters n)
      ∙ ap (λ (go : ℕ → Onward). at_entry (entered_case n groups) go s c) (fun_ext (λ i. goes i))))))
      ∙ ap (switched test) (sym is_g)
    where
      here : items-the_row-Group _ (hidden-the_row-Group-2 groups) ≡ groups
      here = items_hidden-the_row-Group-2 groups

      enters : (n : ℤ) → entered n (hidden-the_row-Group-2 groups) ≡ entered_case n groups
      enters n = entered_row n (hidden-the_row-Group-2 groups)
          ∙ ap (λ (o : Option ℕ). or_else o (group_with is_default (hidden-the_row-Group-2 groups))) (cases_with (is_case n) (hidden-the_row-Group-2 groups) ∙ ap (case_with (is_case n)) here)
          ∙ ap (λ (o : Option ℕ). or_else (case_with (is_case n) groups) o) (cases_with is_default (hidden-the_row-Group-2 groups) ∙ ap (case_with is_default) here)

      goes : (i : ℕ) → groups_from k calls i (hidden-the_row-Group-2 groups) ≡ after_cases k calls (drop i groups)
      goes i = groups_do i (hidden-the_row-Group-2 groups) ∙ ap (λ gs. after_cases k calls (drop i gs)) here

  -- a loop
  abbrev pub looped : TLoop → Onward
  looped l s c =
      let o = out-TLoop l in
      then_do (after_items k calls o.heads s c)
      (loop_effect o.tests_first (limit_of k.bounds o.unwind) (λ s'. condition_value (rows_in k s') o.cond)
      (after k calls o.body.place o.body.node) (after_option k calls o.step) o.unwind)

  pub after-loop : (l : TLoop) → after_loop k calls l ≡ looped l
  unfolding out-TLoop out shown shown-the_row-TStmt-0 shown-the_row-TStmt-1
  after-loop (TLoop' t shape heads cond None' shape' (more_of-TStmt p body end) prop) =
      fun_ext (λ s. fun_ext (λ c. ap (λ (f : Onward). then_do (f s c) (loop_effect t (limit_of k.bounds prop) (λ s'. condition_value (rows_in k s') cond) (after k calls p body) (after_option k calls None) prop))
      (rows_do heads ∙ ap (after_items k calls) (sym (items_shown-the_row-TStmt-0 shape heads)))))
  after-loop (TLoop' t shape heads cond (Some' shape'' (more_of-TStmt q step end')) shape' (more_of-TStmt p body end) prop) =
      fun_ext (λ s. fun_ext (λ c. ap (λ (f : Onward). then_do (f s c) (loop_effect t (limit_of k.bounds prop) (λ s'. condition_value (rows_in k s') cond) (after k calls p body) (after k calls q step) prop))
      (rows_do heads ∙ ap (after_items k calls) (sym (items_shown-the_row-TStmt-0 shape heads)))))
