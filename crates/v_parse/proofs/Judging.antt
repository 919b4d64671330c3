-- What the steps of a derivation tell of the text.
use Rattle.std.proofs.Common.{◌≡◌, ℕ, List, [], ◌∷◌, Option, Some, None, refl, subst, ap, sym, ◌∙◌, arith}
use Rattle.src_text.specs.declared.kind.Kind.TheVariants as kind
use Rattle.ll_parse.specs.Grammar.{Parses}
use Rattle.ll_actions.specs.declared.step.Step.{Step}
use Rattle.node_depth.specs.Nodes.{count, Deep}
use Rattle.node_depth.specs.Weaves.{Look, woven}
use Rattle.text_scan.specs.declared.scanner.Token.{Token}
use Rattle.v_tree.specs.declared.item.VTree.{VTree}
use Rattle.v_stack.specs.declared.values.Value.TheVariants as value
use Rattle.v_stack.specs.declared.values.ModuleValue.TheVariants as module_value
use Rattle.v_grammar.specs.declared.TheConstants.{WEAVES}
use Rattle.v_actions.specs.Acts.{built}
use Rattle.v_actions.specs.Reading.{V, kinds_of, tokens_in, lexemes, actions_of, BuildsTree, IsVerilogSource}
use Rattle.v_actions.proofs.Builds.{builds_tree}
use Rattle.v_actions.proofs.Laws.{tree_law}
use Rattle.v_build.specs.Sources.{read_as}
use Rattle.v_depth.specs.Depth.{place_of_token, DeepAt}
use Rattle.v_depth.proofs.Laws.{depth_law}
use Rattle.v_parse.specs.declared.read.ParseEnd.{ParseEnd}
use Rattle.v_parse.specs.declared.read.ParseEnd.TheVariants as ends
use Rattle.v_parse.specs.Ends.{DEEPEST, AreSteps, HasTree, EndsAt, refusal_at}

-- what the depth of the steps' nodes over the numbers of tokens is
abbrev pub Tells : List Step → Option ℕ → Type 0
Tells ss r = (l : Look) → woven WEAVES ss [] ≡ l ∷ [] → count l.trees ≡ 1 → Deep DEEPEST l.trees r

module _ (text : List ℕ) (tokens : List Token) (ss : List Step) (are_tokens : tokens ≡ tokens_in text) (steps : AreSteps tokens ss) where
  abbrev ps : List ℕ
  ps = steps.productions

  parses : Parses V (kinds_of (tokens_in text)) ps
  parses = subst (λ (x : List Token). Parses V (kinds_of x) ps) are_tokens steps.parses

  same : built (read_as text tokens) ss [] ≡ built (lexemes text) (actions_of ps) []
  same = ap (λ x. built (read_as text tokens) x []) steps.is ∙ ap (λ (x : List Token). built (read_as text x) (actions_of ps) []) are_tokens

  abbrev Builds : VTree → Type 0
  Builds tree = built (lexemes text) (actions_of ps) [] ≡ Some (value.Module (module_value.Source tree) ∷ [])

  source : (tree : VTree) → Builds tree → IsVerilogSource text tree
  source tree b = record { productions = ps; parses = parses; builds = b }

  -- what is told of the tree that they build
  told : (tree : VTree) → Builds tree → (r : Option ℕ) → Tells ss r → DeepAt text DEEPEST tree r
  told tree b r t =
      let i = depth_law text ps tree parses b in
      i.tells DEEPEST (omega arith) r (t i.look (ap (λ x. woven WEAVES x []) steps.is ∙ i.weaves) i.one)

  -- the steps build a tree
  pub builds : BuildsTree (built (read_as text tokens) ss [])
  builds = let b = builds_tree text ps parses in record { tree = b.tree; is = same ∙ b.is }

  -- the tree that they build, where no node stands too deep
  pub has_tree : (tree : VTree) → built (read_as text tokens) ss [] ≡ Some (value.Module (module_value.Source tree) ∷ []) → Tells ss None → HasTree text tree
  has_tree tree b t =
      let is = sym same ∙ b in
      let law = tree_law text ps parses in
      record {
        is = source tree is;
        only = λ other g. law.only other g ∙ sym (law.only tree (source tree is));
        low = told tree is None t;
      }

  -- their refusal, where one does
  pub depth_refused : (i : ℕ) (end : ParseEnd) → Tells ss (Some i) → end ≡ ends.Refused (refusal_at (place_of_token text tokens i) kind.TooDeep) → EndsAt text end
  depth_refused i end t is =
      let b = builds_tree text ps parses in
      subst (λ x. EndsAt text x) (sym is) (
        refl,
        record {
          tree = b.tree;
          has = source b.tree b.is;
          token = i;
          deep = told b.tree b.is (Some i) t;
          is = ap (λ (x : List Token). place_of_token text x i) are_tokens;
        },
      )
