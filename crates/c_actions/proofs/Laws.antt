-- A text whose tokens have a derivation has one tree.
use Rattle.std.proofs.Common.{◌≡◌, [], ◌∷◌, Some, sym, ◌∙◌, ap}
use Rattle.c_tokens.specs.Directives.{c_tokens}
use Rattle.c_tree.specs.declared.file.CTree.{CTree}
use Rattle.c_stack.specs.declared.values.Value.TheVariants as value
use Rattle.c_stack.specs.declared.values.FileValue.TheVariants as file_value
use Rattle.c_grammar.specs.Table.{TABLE}
use Rattle.c_grammar.proofs.Fit.{c_is_ll}
use Rattle.c_actions.specs.Reading.{kinds_of, built, actions_of}
use Rattle.c_actions.specs.Laws.{TreeLaw}
use Rattle.c_actions.proofs.Builds.{builds_tree}
use Rattle.ll_parse.proofs.Only.{one_derivation}

same_tree : (a b : CTree) → Some (value.File (file_value.Tree a) ∷ []) ≡ Some (value.File (file_value.Tree b) ∷ []) → a ≡ b
same_tree a b e = cc

pub tree_law : TreeLaw
tree_law text ps parses =
    let t = builds_tree text ps parses in
    record {
      tree = t.tree;
      is = record { productions = ps; parses = parses; builds = t.is };
      only = λ other h. same_tree other t.tree
          (sym h.builds ∙ (ap (λ x. built text (c_tokens text) (actions_of x) []) (one_derivation TABLE c_is_ll (kinds_of (c_tokens text)) ps h.productions parses h.parses) ∙ t.is));
    }
