-- The tree that is taken off the stack at the end.
use Rattle.std.proofs.Common.{◌≡◌, [], ◌∷◌, Option, Some, None, sym, ap, ◌∙◌}
use Rattle.c_tree.specs.declared.file.CTree.{CTree}
use Rattle.c_stack.specs.Values.{Values, Goes, with_tree}
use Rattle.c_stack.specs.declared.values.Value.TheVariants as value
use Rattle.c_stack.specs.declared.values.FileValue.TheVariants as file_value
use Rattle.c_actions.specs.Reading.{BuildsTree}

nothing : (o : Option Values) → BuildsTree o → None ≡ o → ⊥
nothing o b e = let f : None ≡ Some (value.File (file_value.Tree b.tree) ∷ []) = e ∙ b.is in let g : ⊥ = cc in absurd g

only : {a b : Values} → Some a ≡ Some b → a ≡ b
only e = cc

abbrev whole : Goes CTree
whole tree below = Some (value.File (file_value.Tree tree) ∷ [])

-- what is taken off the stack that steps leave
taken_whole : (o : Option Values) (st : Values) → BuildsTree o → o ≡ Some st → with_tree st whole ≡ o
taken_whole o st b e = ap (λ x. with_tree x whole) (only (sym e ∙ b.is)) ∙ sym b.is

pub tree_taken : (o : Option Values) (st new : Values) (tree : CTree) → BuildsTree o → o ≡ Some st → ((go : Goes CTree) → with_tree st go ≡ go tree new) → o ≡ Some (value.File (file_value.Tree tree) ∷ [])
tree_taken o st new tree b e h = sym (taken_whole o st b e) ∙ h whole

pub tree_lost : (o : Option Values) (st : Values) → BuildsTree o → o ≡ Some st → ((go : Goes CTree) → with_tree st go ≡ None) → ⊥
tree_lost o st b e h = nothing o b (sym (h whole) ∙ taken_whole o st b e)
