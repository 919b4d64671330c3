-- The start of a list, and steps that may end it.
use Rattle.std.proofs.Common.{◌≡◌, ℕ, zero, suc, ◌+◌, ◌<◌, Bool, true, false, ◌&&◌, ◌||◌, not, List, [], ◌∷◌, length, replicate, refl, sym, ap, ◌∙◌, subst, arith}
use Rattle.std.specs.Prelude.{sum_by}
use Rattle.std.proofs.lemmas.List.{length-replicate}
use Rattle.std.proofs.lemmas.List.Elements.{All-nil}
use Rattle.std.proofs.lemmas.List.Sums.{sum_by-cons}
use Rattle.arrayvec.specs.ArrayVec.{ArrayVec}
use Rattle.gate_net.specs.declared.net.Edge.{Edge}
use Rattle.gate_net.specs.declared.net.Node.{Node}
use Rattle.gate_net.specs.declared.net.Node.TheVariants.{One}
use Rattle.gate_net.specs.Edge.{edge_value}
use Rattle.gate_net.specs.Net.{IsValuation}
use Rattle.word_eqs.specs.declared.term.Term.{Term}
use Rattle.word_eqs.specs.declared.list.Step.{Step}
use Rattle.word_eqs.specs.Graph.{Graph, IsGraph, width_in, width_of_var}
use Rattle.word_eqs.specs.Gates.{node_gates, term_gates}
use Rattle.bitblast.specs.declared.blasting.Maker.{Maker}
use Rattle.bitblast.specs.Circuit.{AreBelow, MakesEdge}
use Rattle.bitblast.specs.Wires.{AreWires, IsMade, edges_at}
use Rattle.bitblast.specs.Blasted.{inputs}
use Rattle.bitblast.specs.Making.{IsAt, MayEnd, Tests, gates_left}
use Rattle.bitblast.proofs.Placing.{no_word}
use Rattle.bitblast.proofs.Translating.{translates_more, translates_within}

pub may_ended : (g : Graph) (old : Maker) (n p q : List Node) (words : List (ArrayVec Edge)) (guard t : ℕ) (breaks : Bool) (failing turned broken live : Edge)
    → Tests old.net n g old.wires old.words words guard t failing
    → MakesEdge n p 2 (λ a. edge_value a old.root || (breaks && (edge_value a old.live && edge_value a failing))) broken
    → ((a : ℕ → Bool) → edge_value a turned ≡ not (edge_value a failing))
    → MakesEdge p q 1 (λ a. edge_value a old.live && edge_value a turned) live
    → MayEnd g old (record { net = q; wires = old.wires; words = words; live = live; root = broken }) guard t breaks
may_ended g old n p q words guard t breaks failing turned broken live x y z w = record {
  rest =
      translates_within old.net q g old.wires old.words words (width_in g t + 1 + 2 + 1) (width_in g t + 8) (omega arith)
      (translates_more old.net p q g old.wires old.words words (width_in g t + 1 + 2) 1 (translates_more old.net n p g old.wires old.words words (width_in g t + 1) 2 x.rest y.grows) w.grows);
  wires = refl;
  live_there = w.there;
  root_there = let l = y.there in let m = w.grows.longer in omega arith;
  live = λ a v r s f.
      let rp = w.grows.values a r in
      w.value a r ∙ ap (λ b. edge_value a old.live && b) (z a ∙ ap not (x.value a v (y.grows.values a rp) s f));
  root = λ a v r s f.
      let rp = w.grows.values a r in
      y.value a rp ∙ ap (λ b. edge_value a old.root || (breaks && (edge_value a old.live && b))) (x.value a v (y.grows.values a rp) s f);
}

-- nothing is made

none_at : (n k : ℕ) → edges_at (replicate n no_word) k ≡ []
none_at zero k = refl
none_at (suc n) zero = refl
none_at (suc n) (suc k) = none_at n k

none_made : (n k : ℕ) → IsMade (replicate n no_word) k → ⊥
none_made n k m = let z : length (edges_at (replicate n no_word) k) ≡ 0 = ap length (none_at n k) in omega arith

none_wires : (nodes n : ℕ) (width : ℕ → ℕ) → AreWires nodes width (replicate n no_word)
none_wires nodes n width = record { bits = λ k m. absurd (none_made n k m); there = λ k. subst (AreBelow nodes) (sym (none_at n k)) (All-nil (λ (e : Edge). e.node < nodes)) }

all_left : (g : Graph) (terms : List Term) → gates_left g terms (replicate (length terms) no_word) ≡ sum_by (λ (x : Term). node_gates g x.node) terms
all_left g [] = refl
all_left g (x ∷ terms) = ap (λ k. node_gates g x.node + k) (all_left g terms) ∙ sym (sum_by-cons (λ (x : Term). node_gates g x.node) x terms)

pub at_start : (g : Graph) (list : List Step) (net : List Node) (wires words : List (ArrayVec Edge)) (live root : Edge) → IsGraph g → net ≡ One ∷ [] → wires ≡ replicate (length g.vars) no_word → words ≡ replicate (length g.terms) no_word
    → live.node < length net → root.node < length net
    → ((a : ℕ → Bool) → IsValuation net a → edge_value a live ≡ true) → ((a : ℕ → Bool) → IsValuation net a → edge_value a root ≡ false)
    → IsAt g list 0 (record { net = net; wires = wires; words = words; live = live; root = root })
at_start g list net wires words live root h n w u lt rt lv rv =
    let none : (k : ℕ) → IsMade wires k → ⊥ = λ k. subst (λ l. IsMade l k → ⊥) (sym w) (none_made (length g.vars) k) in
    let no_term : (k : ℕ) → IsMade words k → ⊥ = λ k. subst (λ l. IsMade l k → ⊥) (sym u) (none_made (length g.terms) k) in
    record {
      proper = record {
        graph = h;
        places = ap length u ∙ length-replicate (length g.terms) no_word;
        names = ap length w ∙ length-replicate (length g.vars) no_word;
        widths = subst (AreWires (length net) (width_in g)) (sym u) (none_wires (length net) (length g.terms) (width_in g));
        var_widths = subst (AreWires (length net) (width_of_var g)) (sym w) (none_wires (length net) (length g.vars) (width_of_var g));
      };
      given = λ x l one. absurd (omega arith);
      one_to_one = ap inputs n;
      live_there = lt;
      root_there = rt;
      count =
          let c : length net ≡ 1 = ap length n in
          let d : gates_left g g.terms words ≡ term_gates g = ap (gates_left g g.terms) u ∙ all_left g g.terms in
          omega arith;
      shows = λ a v z r f. record {
        fits = record { of_vars = λ k m. absurd (none k m); of_terms = λ k m. absurd (no_term k m) };
        live = lv a z;
        root = rv a z;
      };
    }
