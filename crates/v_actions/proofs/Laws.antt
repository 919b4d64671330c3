-- A text whose tokens have a derivation has one tree.
use Rattle.std.proofs.Common.{◌≡◌, [], ◌∷◌, Some, sym, ◌∙◌, ap}
use Rattle.v_tree.specs.declared.item.VTree.{VTree}
use Rattle.v_stack.specs.declared.values.ModuleValue.TheVariants as ModuleValue
use Rattle.v_stack.specs.declared.values.Value.TheVariants as Value
use Rattle.v_grammar.specs.Verilog.{VERILOG}
use Rattle.v_grammar.proofs.Fit.{verilog_is_ll}
use Rattle.v_actions.specs.Acts.{built}
use Rattle.v_actions.specs.Reading.{kinds_of, tokens_in, lexemes, actions_of}
use Rattle.v_actions.specs.Laws.{TreeLaw}
use Rattle.v_actions.proofs.Builds.{builds_tree}
use Rattle.ll_parse.proofs.Only.{one_derivation}

same_tree : (a b : VTree) → Some (Value.Module (ModuleValue.Source a) ∷ []) ≡ Some (Value.Module (ModuleValue.Source b) ∷ []) → a ≡ b
same_tree a b e = cc

pub tree_law : TreeLaw
tree_law text ps parses =
    let t = builds_tree text ps parses in
    record {
      tree = t.tree;
      is = record { productions = ps; parses = parses; builds = t.is };
      only = λ other h. same_tree other t.tree
          (sym h.builds ∙ (ap (λ x. built (lexemes text) (actions_of x) []) (one_derivation VERILOG verilog_is_ll (kinds_of (tokens_in text)) ps h.productions parses h.parses) ∙ t.is));
    }
