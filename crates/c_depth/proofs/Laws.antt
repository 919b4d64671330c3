-- What the actions of a derivation tell of the depth of the tree that they build.
use Rattle.std.proofs.Common.{◌≡◌, ℕ, ◌+◌, ◌<◌, ◌≤◌, true, List, [], ◌∷◌, length, Option, Some, None, refl, sym, ◌∙◌, ap, subst, arith}
use Rattle.std.proofs.lemmas.List.{length-map}
use Rattle.src_text.specs.declared.refusal.Place.{Place}
use Rattle.ll_parse.specs.Grammar.{Parses}
use Rattle.ll_actions.proofs.Placed.{placed_steps}
use Rattle.ll_actions.proofs.Typed.{typed_steps}
use Rattle.node_depth.specs.Nodes as numbers
use Rattle.node_depth.specs.Nodes.{Deep}
use Rattle.node_depth.specs.Weaves.{woven}
use Rattle.node_count.specs.Counts.{are_few}
use Rattle.node_count.proofs.Few.{count_law}
use Rattle.node_count.proofs.Within.{stands_real}
use Rattle.c_tokens.specs.Directives.{c_tokens}
use Rattle.c_tokens.specs.declared.directives.CToken.{CToken}
use Rattle.c_grammar.specs.Table.{TABLE}
use Rattle.c_grammar.specs.Actions.{SIGNATURES, EFFECTS, AFTER, SPOTS}
use Rattle.c_grammar.specs.declared.TheConstants.{MARKS, WEAVES}
use Rattle.c_grammar.proofs.Fit.{c_is_ll, c_is_typed, c_is_placed}
use Rattle.c_tree.specs.declared.file.CTree.{CTree}
use Rattle.c_tree.specs.declared.file.External.{External}
use Rattle.c_tree.specs.Nodes.{external_trees, trees_of}
use Rattle.c_tree.specs.Starts.{first_start}
use Rattle.src_text.specs.Trees.{height, size, one, Stands, all_trees}
use Rattle.c_stack.specs.declared.values.Value.TheVariants as value
use Rattle.c_stack.specs.declared.values.FileValue.TheVariants as file_value
use Rattle.c_actions.specs.Reading.{C, kinds_of, built, actions_of, place_of_token}
use Rattle.c_depth.specs.Depth.{DeepAt}
use Rattle.c_depth.specs.Laws.{IsTold, DepthLaw}
use Rattle.c_depth.specs.Spare.{SPARE}
use Rattle.node_places.proofs.Looks.{lone_look}
use Rattle.node_places.proofs.Maps.{map_trees, height_map, size_map, stands_map, stands_from, one_mapped}
use Rattle.c_depth.proofs.BuiltLooks.{looks_woven}
use Rattle.c_depth.proofs.Values.{look_of_value}

c_is_few : are_few TABLE MARKS WEAVES SPARE ≡ true
unfolding TABLE SPARE
c_is_few = refl

-- Trees at the places of tokens.
module _ (text : List ℕ) (tree : CTree) where
  abbrev place_of : ℕ → Place
  place_of i = place_of_token text (c_tokens text) i

  -- what stands deeper than a limit begins at a token
  abbrev IsReal : numbers.Trees → Type 0
  IsReal t = (limit i : ℕ) → 0 < limit → limit < numbers.height t → numbers.Stands 1 t (limit + 1) i → i < length (c_tokens text)

  deep : (limit : ℕ) (t : numbers.Trees) → map_trees place_of t ≡ trees_of tree → IsReal t → 0 < limit → (r : Option ℕ) → Deep limit t r → DeepAt text limit tree r
  deep limit t e real some None h = let a = height_map place_of t in let b = ap height e in omega (arith, a, b, h)
  deep limit t e real some (Some i) h =
      let a = height_map place_of t in let b = ap height e in let c = h.high in
      record {
        within = real limit i some h.high h.stands;
        high = omega (arith, a, b, c);
        stands = subst (λ x. Stands 1 x (limit + 1) (place_of i)) e (stands_map place_of h.stands);
        first = λ p s. (let w = stands_from place_of t 1 (limit + 1) p (subst (λ x. Stands 1 x (limit + 1) p) (sym e) s) in record { token = w.number; from = h.least w.number w.stands; within = real limit w.number some h.high w.stands; is = w.is });
      }

  -- one node is no deeper than a limit
  lone : (limit : ℕ) (t : numbers.Trees) → numbers.height t ≡ 1 → height (trees_of tree) ≡ 1 → 0 < limit → (r : Option ℕ) → Deep limit t r → DeepAt text limit tree r
  lone limit t e g some None h = omega (arith, g, some)
  lone limit t e g some (Some i) h = let c = h.high in absurd (omega (arith, c, e, some))

  tells : (xs : List External) (t : numbers.Trees) → tree.externals ≡ xs → map_trees place_of t ≡ one (first_start xs (place_of 0)) (all_trees external_trees xs) → IsReal t →
      (limit : ℕ) → 0 < limit → (r : Option ℕ) → Deep limit t r → DeepAt text limit tree r
  tells [] t is e real limit some r h =
      lone limit t (sym (height_map place_of t) ∙ ap height e) (ap (λ ys. height (one (first_start ys tree.end) (all_trees external_trees ys))) is) some r h
  tells (x ∷ xs) t is e real limit some r h =
      deep limit t (e ∙ sym (ap (λ ys. one (first_start ys tree.end) (all_trees external_trees ys)) is)) real some r h

-- The law, and that the nodes are no more than the tokens, and one.
pub record Told (text productions : List ℕ) (tree : CTree) : Type 0 where
  pub is : IsTold text productions tree
  pub few : size (trees_of tree) ≤ length (c_tokens text) + 1

pub told : (text ps : List ℕ) (tree : CTree) → Parses C (kinds_of (c_tokens text)) ps → built text (c_tokens text) (actions_of ps) [] ≡ Some (value.File (file_value.Tree tree) ∷ []) → Told text ps tree
told text ps tree parses builds =
    let f : ℕ → Place = λ i. place_of_token text (c_tokens text) i in
    let ts = kinds_of (c_tokens text) in
    let v = value.File (file_value.Tree tree) in
    let placed = placed_steps TABLE c_is_ll MARKS AFTER SPOTS c_is_placed ts ps parses in
    let e = looks_woven text (c_tokens text) (actions_of ps) [] (v ∷ []) [] (1 ∷ []) [] refl (typed_steps TABLE c_is_ll MARKS SIGNATURES EFFECTS 1 c_is_typed ts ps parses)
    (placed_steps TABLE c_is_ll MARKS AFTER SPOTS c_is_placed ts ps parses) refl builds in
    let l = lone_look f (woven WEAVES (actions_of ps) []) (look_of_value (f 0) v) e in
    let few = count_law TABLE MARKS WEAVES SPARE c_is_ll c_is_few ts ps parses l.look l.is in
    let real : IsReal text tree l.look.trees = (λ limit i some high s. subst (λ n. i < n) (length-map (c_tokens text) (λ (t : CToken). t.kind))
    (stands_real (length ts) WEAVES (actions_of ps) l.look (λ k d small. (placed k d small).within) l.is few limit i some high s)) in
    record {
      is = record {
        look = l.look;
        weaves = l.is;
        one = one_mapped f l.look.trees (first_start tree.externals (f 0)) (all_trees external_trees tree.externals) l.trees;
        tells = tells text tree tree.externals l.look.trees refl l.trees real;
      };
      few = (let n = length-map (c_tokens text) (λ (t : CToken). t.kind) in let a = ap size l.trees in let b = size_map f l.look.trees in omega (arith, few, n, a, b));
    }

pub depth_law : DepthLaw
depth_law text ps tree parses builds = (told text ps tree parses builds).is
