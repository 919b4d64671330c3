-- The tree that is taken off the stack at the end.
use Rattle.std.proofs.Common.{◌≡◌, [], ◌∷◌, Option, Some, None, sym, ap, ◌∙◌}
use Rattle.v_tree.specs.declared.item.VTree.{VTree}
use Rattle.v_stack.specs.Values.{Values, Goes, with_source}
use Rattle.v_stack.specs.declared.values.Value.TheVariants as value
use Rattle.v_stack.specs.declared.values.ModuleValue.TheVariants as module_value
use Rattle.v_actions.specs.Reading.{BuildsTree}

nothing : (o : Option Values) → BuildsTree o → None ≡ o → ⊥
nothing o b e = let f : None ≡ Some (value.Module (module_value.Source b.tree) ∷ []) = e ∙ b.is in let g : ⊥ = cc in absurd g

only : {a b : Values} → Some a ≡ Some b → a ≡ b
only e = cc

abbrev whole : Goes VTree
whole tree below = Some (value.Module (module_value.Source tree) ∷ [])

-- what is taken off the stack that steps leave
taken_whole : (o : Option Values) (st : Values) → BuildsTree o → o ≡ Some st → with_source st whole ≡ o
taken_whole o st b e = ap (λ x. with_source x whole) (only (sym e ∙ b.is)) ∙ sym b.is

pub tree_taken : (o : Option Values) (st new : Values) (tree : VTree) → BuildsTree o → o ≡ Some st → ((go : Goes VTree) → with_source st go ≡ go tree new) → o ≡ Some (value.Module (module_value.Source tree) ∷ [])
tree_taken o st new tree b e h = sym (taken_whole o st b e) ∙ h whole

pub tree_lost : (o : Option Values) (st : Values) → BuildsTree o → o ≡ Some st → ((go : Goes VTree) → with_source st go ≡ None) → ⊥
tree_lost o st b e h = nothing o b (sym (h whole) ∙ taken_whole o st b e)
