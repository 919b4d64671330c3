-- What the steps of a derivation tell of the text.
use Rattle.std.proofs.Common.{◌≡◌, ℕ, List, [], ◌∷◌, Option, Some, None, refl, subst, ap, sym, ◌∙◌, arith}
use Rattle.src_text.specs.declared.kind.Kind.TheVariants as kind
use Rattle.ll_parse.specs.Grammar.{Parses}
use Rattle.ll_actions.specs.declared.step.Step.{Step}
use Rattle.node_depth.specs.Nodes.{count, Deep}
use Rattle.node_depth.specs.Weaves.{Look, woven}
use Rattle.c_tokens.specs.Directives.{c_tokens}
use Rattle.c_tokens.specs.declared.directives.CToken.{CToken}
use Rattle.c_tree.specs.declared.file.CTree.{CTree}
use Rattle.c_stack.specs.declared.values.Value.TheVariants as value
use Rattle.c_stack.specs.declared.values.FileValue.TheVariants as file_value
use Rattle.c_grammar.specs.declared.TheConstants.{WEAVES}
use Rattle.c_actions.specs.Reading.{C, kinds_of, actions_of, built, place_of_token, BuildsTree, IsCSource}
use Rattle.c_actions.proofs.Builds.{builds_tree}
use Rattle.c_actions.proofs.Laws.{tree_law}
use Rattle.c_depth.specs.Depth.{DeepAt}
use Rattle.c_depth.proofs.Laws.{depth_law}
use Rattle.c_parse.specs.declared.read.ParseEnd.{ParseEnd}
use Rattle.c_parse.specs.declared.read.ParseEnd.TheVariants as ends
use Rattle.c_parse.specs.Ends.{DEEPEST, AreSteps, HasTree, EndsAt, refusal_at}

-- what the depth of the steps' nodes over the numbers of tokens is
abbrev pub Tells : List Step → Option ℕ → Type 0
Tells ss r = (l : Look) → woven WEAVES ss [] ≡ l ∷ [] → count l.trees ≡ 1 → Deep DEEPEST l.trees r

module _ (text : List ℕ) (tokens : List CToken) (ss : List Step) (are_tokens : tokens ≡ c_tokens text) (steps : AreSteps tokens ss) where
  abbrev ps : List ℕ
  ps = steps.productions

  parses : Parses C (kinds_of (c_tokens text)) ps
  parses = subst (λ (x : List CToken). Parses C (kinds_of x) ps) are_tokens steps.parses

  same : built text tokens ss [] ≡ built text (c_tokens text) (actions_of ps) []
  same = ap (λ x. built text tokens x []) steps.is ∙ ap (λ (x : List CToken). built text x (actions_of ps) []) are_tokens

  abbrev Builds : CTree → Type 0
  Builds tree = built text (c_tokens text) (actions_of ps) [] ≡ Some (value.File (file_value.Tree tree) ∷ [])

  source : (tree : CTree) → Builds tree → IsCSource text tree
  source tree b = record { productions = ps; parses = parses; builds = b }

  -- what is told of the tree that they build
  told : (tree : CTree) → Builds tree → (r : Option ℕ) → Tells ss r → DeepAt text DEEPEST tree r
  told tree b r t =
      let i = depth_law text ps tree parses b in
      i.tells DEEPEST (omega arith) r (t i.look (ap (λ x. woven WEAVES x []) steps.is ∙ i.weaves) i.one)

  -- the steps build a tree
  pub builds : BuildsTree (built text tokens ss [])
  builds = let b = builds_tree text ps parses in record { tree = b.tree; is = same ∙ b.is }

  -- the tree that they build, where no node stands too deep
  pub has_tree : (tree : CTree) → built text tokens ss [] ≡ Some (value.File (file_value.Tree tree) ∷ []) → Tells ss None → HasTree text tree
  has_tree tree b t =
      let is = sym same ∙ b in
      let law = tree_law text ps parses in
      record {
        is = source tree is;
        only = λ other g. law.only other g ∙ sym (law.only tree (source tree is));
        low = told tree is None t;
      }

  -- their refusal, where one does
  pub depth_refused : (i : ℕ) (end : ParseEnd) → Tells ss (Some i) → end ≡ ends.Refused (refusal_at (place_of_token text tokens i) kind.TooDeep) → EndsAt text end
  depth_refused i end t is =
      let b = builds_tree text ps parses in
      subst (λ x. EndsAt text x) (sym is) (
        refl,
        record {
          tree = b.tree;
          has = source b.tree b.is;
          token = i;
          deep = told b.tree b.is (Some i) t;
          is = ap (λ (x : List CToken). place_of_token text x i) are_tokens;
        },
      )
