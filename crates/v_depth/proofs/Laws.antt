-- What the actions of a derivation tell of the depth of the tree that they build.
use Rattle.std.proofs.Common.{◌≡◌, ℕ, ◌+◌, ◌<◌, ◌≤◌, true, List, [], ◌∷◌, length, Option, Some, None, refl, sym, ap, subst, arith}
use Rattle.std.proofs.lemmas.List.{length-map}
use Rattle.src_text.specs.declared.refusal.Place.{Place}
use Rattle.text_scan.specs.declared.scanner.Token.{Token}
use Rattle.ll_parse.specs.Grammar.{Parses}
use Rattle.ll_actions.proofs.Placed.{placed_steps}
use Rattle.node_depth.specs.Nodes as numbers
use Rattle.node_depth.specs.Nodes.{Deep}
use Rattle.node_depth.specs.Weaves.{woven}
use Rattle.node_count.specs.Counts.{are_few}
use Rattle.node_count.proofs.Few.{count_law}
use Rattle.node_count.proofs.Within.{stands_real}
use Rattle.v_grammar.specs.Verilog.{VERILOG}
use Rattle.v_grammar.specs.declared.TheConstants.{MARKS, WEAVES}
use Rattle.v_grammar.proofs.Fit.{verilog_is_ll, verilog_is_typed}
use Rattle.v_tree.specs.declared.item.VTree.{VTree}
use Rattle.v_tree.specs.Nodes.{module_trees, trees_of}
use Rattle.src_text.specs.Trees.{Trees, none, height, one, all_trees, Stands, here, inside, after, size}
use Rattle.v_stack.specs.declared.values.Value.TheVariants as Value
use Rattle.v_stack.specs.declared.values.ModuleValue.TheVariants as ModuleValue
use Rattle.v_actions.specs.Acts.{built}
use Rattle.v_actions.specs.Reading.{V, kinds_of, tokens_in, lexemes, actions_of}
use Rattle.v_depth.specs.After.{AFTER, SPOTS}
use Rattle.v_depth.specs.Depth.{place_of_token, DeepAt}
use Rattle.v_depth.specs.Laws.{IsTold, DepthLaw}
use Rattle.v_depth.specs.Spare.{SPARE}
use Rattle.node_places.proofs.Looks.{lone_look}
use Rattle.node_places.proofs.Maps.{map_trees, height_map, size_map, stands_map, stands_from, one_mapped}
use Rattle.v_depth.proofs.BuiltLooks.{verilog_is_placed, looks_woven}
use Rattle.v_depth.proofs.Values.{look_of_value, first_start}

verilog_is_few : are_few VERILOG MARKS WEAVES SPARE ≡ true
unfolding VERILOG SPARE
verilog_is_few = refl

nowhere : {x y : ℕ} {q : Place} → Stands x none y q → ⊥
nowhere s = elim s [ ]

-- what stands inside one tree, wherever that begins
moved : (x y : ℕ) (p q r : Place) (a : Trees) → x < y → Stands x (one p a) y q → Stands x (one r a) y q
moved x y p q r a deeper here = absurd (omega (arith, deeper))
moved x y p q r a deeper (inside s) = inside s
moved x y p q r a deeper (after s) = absurd (nowhere s)

-- Trees at the places of tokens, and the file, which begins where its text does.
module _ (text : List ℕ) (tree : VTree) where
  abbrev place_of : ℕ → Place
  place_of i = place_of_token text (tokens_in text) i

  abbrev start : Place
  start = record { line = 1; column = 1 }

  abbrev modules : Trees
  modules = all_trees module_trees tree.modules

  -- what stands deeper than a limit begins at a token
  abbrev IsReal : numbers.Trees → Type 0
  IsReal t = (limit i : ℕ) → 0 < limit → limit < numbers.height t → numbers.Stands 1 t (limit + 1) i → i < length (tokens_in text)

  tells : (t : numbers.Trees) (p : Place) → map_trees place_of t ≡ one p modules → IsReal t → (limit : ℕ) → 0 < limit → (r : Option ℕ) → Deep limit t r → DeepAt text limit tree r
  tells t p e real limit some None h = let a = height_map place_of t in let b = ap height e in omega (arith, a, b, h)
  tells t p e real limit some (Some i) h =
      let a = height_map place_of t in let b = ap height e in let c = h.high in
      record {
        within = real limit i some h.high h.stands;
        high = omega (arith, a, b, c);
        stands = moved 1 (limit + 1) p (place_of i) start modules (omega (arith, some)) (subst (λ x. Stands 1 x (limit + 1) (place_of i)) e (stands_map place_of h.stands));
        first = λ q s. (
            let w = stands_from place_of t 1 (limit + 1) q (subst (λ x. Stands 1 x (limit + 1) q) (sym e) (moved 1 (limit + 1) start q p modules (omega (arith, some)) s)) in
            record { token = w.number; from = h.least w.number w.stands; within = real limit w.number some h.high w.stands; is = w.is });
      }

-- The law, and that the nodes are no more than the tokens, and one.
pub record Told (text productions : List ℕ) (tree : VTree) : Type 0 where
  pub is : IsTold text productions tree
  pub few : size (trees_of tree) ≤ length (tokens_in text) + 1

pub told : (text ps : List ℕ) (tree : VTree) → Parses V (kinds_of (tokens_in text)) ps → built (lexemes text) (actions_of ps) [] ≡ Some (Value.Module (ModuleValue.Source tree) ∷ []) → Told text ps tree
told text ps tree parses builds =
    let f : ℕ → Place = λ i. place_of_token text (tokens_in text) i in
    let ts = kinds_of (tokens_in text) in
    let v = Value.Module (ModuleValue.Source tree) in
    let placed = placed_steps VERILOG verilog_is_ll MARKS AFTER SPOTS verilog_is_placed ts ps parses in
    let e = looks_woven text (tokens_in text) (actions_of ps) [] (v ∷ []) [] (51 ∷ []) [] refl (verilog_is_typed ts ps parses)
    (placed_steps VERILOG verilog_is_ll MARKS AFTER SPOTS verilog_is_placed (kinds_of (tokens_in text)) ps parses) refl builds in
    let l = lone_look f (woven WEAVES (actions_of ps) []) (look_of_value (f 0) v) e in
    let few = count_law VERILOG MARKS WEAVES SPARE verilog_is_ll verilog_is_few ts ps parses l.look l.is in
    let real : IsReal text tree l.look.trees = (λ limit i some high s. subst (λ n. i < n) (length-map (tokens_in text) (λ (t : Token). t.kind))
    (stands_real (length ts) WEAVES (actions_of ps) l.look (λ k d small. (placed k d small).within) l.is few limit i some high s)) in
    record {
      is = record {
        look = l.look;
        weaves = l.is;
        one = one_mapped f l.look.trees (first_start tree.modules (f 0)) (all_trees module_trees tree.modules) l.trees;
        tells = tells text tree l.look.trees (first_start tree.modules (f 0)) l.trees real;
      };
      few = (let n = length-map (tokens_in text) (λ (t : Token). t.kind) in let a = ap size l.trees in let b = size_map f l.look.trees in omega (arith, few, n, a, b));
    }

pub depth_law : DepthLaw
depth_law text ps tree parses builds = (told text ps tree parses builds).is
