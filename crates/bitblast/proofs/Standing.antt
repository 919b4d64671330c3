-- A net whose list is translated stands for it.
use Rattle.std.proofs.Common.{◌≡◌, ℕ, ◌+◌, ◌^◌, ◌<◌, Bool, true, List, length, map, take, Some, refl, sym, ap, ◌∙◌, subst, arith}
use Rattle.std.specs.Prelude.{slice_get}
use Rattle.std.proofs.lemmas.List.{take_all}
use Rattle.arrayvec.specs.ArrayVec.{ArrayVec}
use Rattle.bits_core.specs.Word.{Word}
use Rattle.gate_net.specs.declared.net.Edge.{Edge}
use Rattle.gate_net.specs.Edge.{edge_value}
use Rattle.gate_net.specs.Net.{IsDetermined, IsValuation}
use Rattle.word_eqs.specs.declared.term.VarId.{VarId}
use Rattle.word_eqs.specs.declared.list.Act.TheVariants.{Free}
use Rattle.word_eqs.specs.declared.list.Step.{Step}
use Rattle.word_eqs.specs.Graph.{Graph, width_of_var}
use Rattle.word_eqs.specs.Guarded.{AtCut, AtProp, FitsAct, IsOrdered, Passes, Stops, Walk, givers, walk}
use Rattle.word_eqs.specs.Meaning.{FitsVars, Values as Valuation, meaning}
use Rattle.word_eqs.proofs.Assigning.{after_list, assigned}
use Rattle.bitblast.specs.declared.blasting.Maker.{Maker}
use Rattle.bitblast.specs.Circuit.{number_of}
use Rattle.bitblast.specs.Wires.{IsMade, edges_at}
use Rattle.bitblast.specs.Blasted.{AreBits, AreFreeBits, StandsFor, free_edges, inputs}
use Rattle.word_eqs.specs.Assignments.{IsAssignment}
use Rattle.bitblast.specs.Making.{IsAt, Shows, is_broken}
use Rattle.bitblast.proofs.Choosing.{chosen, free_bits, free_numbers, inputs_agree}
use Rattle.bitblast.proofs.Numbers.{number_of-below}

-- all steps are translated
pub record IsDone (g : Graph) (list : List Step) (m : Maker) : Type 0 where
  pub all : IsAt g list (length list) m
  pub ordered : IsOrdered g list
  pub fixed : IsDetermined m.net

whole : (list : List Step) → take (length list) list ≡ list
whole list = take_all (length list) list (omega arith)

var_made : (g : Graph) (list : List Step) (m : Maker) (x : ℕ) → IsDone g list m → x < length g.vars → IsMade m.wires x
var_made g list m x d l = d.all.given x l (ap (givers x) (whole list) ∙ d.ordered.once x l)

shows : (g : Graph) (list : List Step) (m : Maker) (a : ℕ → Bool) (v : Valuation) → IsDone g list m → IsValuation m.net a → IsAssignment g list v → AreFreeBits a v m.wires list → Shows a v m (walk v list)
shows g list m a v d z r f = subst (λ l. Shows a v m (walk v l)) (whole list) (d.all.shows a v z r (subst (AreFreeBits a v m.wires) (sym (whole list)) f))

-- the bits of all variables

all_bits : (g : Graph) (list : List Step) (m : Maker) (a : ℕ → Bool) (v : Valuation) → IsDone g list m → IsValuation m.net a → IsAssignment g list v → AreFreeBits a v m.wires list → AreBits a v g m.wires
all_bits g list m a v d z r f = record { at = λ x l. (shows g list m a v d z r f).fits.of_vars x (var_made g list m x d l) }

free_there : (g : Graph) (list : List Step) (k : ℕ) (s : Step) (x : VarId) → IsOrdered g list → slice_get list k ≡ Some s → s.act ≡ Free x → x.0 < length g.vars
free_there g list k s x o at e = subst (FitsAct g) e (o.steps k s at).act

only_free : (g : Graph) (list : List Step) (wires : List (ArrayVec Edge)) (a : ℕ → Bool) (v : Valuation) → IsOrdered g list → AreBits a v g wires → AreFreeBits a v wires list
only_free g list wires a v o b = record { at = λ k s x at e. b.at x.0 (free_there g list k s x o at e) }

-- values of the net for an assignment
pub record Shown (g : Graph) (list : List Step) (m : Maker) (v : Valuation) (a : ℕ → Bool) : Type 0 where
  pub valid : IsValuation m.net a
  pub free : AreFreeBits a v m.wires list

wide : (g : Graph) (list : List Step) (m : Maker) (x : ℕ) → IsDone g list m → x < length g.vars → length (edges_at m.wires x) ≡ width_of_var g x
wide g list m x d l = d.all.proper.var_widths.bits x (var_made g list m x d l)

one_to_one : (g : Graph) (list : List Step) (m : Maker) → IsDone g list m → inputs m.net ≡ free_edges m.wires list
one_to_one g list m d = d.all.one_to_one ∙ ap (free_edges m.wires) (whole list)

shown : (g : Graph) (list : List Step) (m : Maker) (v : Valuation) → IsDone g list m → IsAssignment g list v → (a : ℕ → Bool) × Shown g list m v a
shown g list m v d r =
    let e = one_to_one g list m d in
    let h = chosen m.net m.wires v list e in
    let (a, (z, i, u)) = d.fixed h.values in
    let bits : map (edge_value a) (free_edges m.wires list) ≡ free_bits m.wires v list = ap (map (edge_value a)) (sym e) ∙ inputs_agree a h.values 0 m.net (λ j at. subst (λ n. a n ≡ h.values n) (let q : j ≡ 0 + j = omega arith in q) (i j at)) ∙ h.are in (
      a,
      record {
        valid = z;
        free = record {
          at = λ k s x at q.
              let l = free_there g list k s x d.ordered at q in
              free_numbers a v m.wires list bits k s x at q (subst (λ w. (v.var x.0).value < 2 ^ w) (sym (wide g list m x.0 d l)) (r.respects.vars.at x.0 l).below);
        };
      },
    )

-- the assignment of values of the net

abbrev words_of : Graph → List (ArrayVec Edge) → (ℕ → Bool) → ℕ → Word
words_of g wires a x = record { width = width_of_var g x; value = number_of a (edges_at wires x) }

fit : (g : Graph) (list : List Step) (m : Maker) (a : ℕ → Bool) → IsDone g list m → FitsVars (words_of g m.wires a) g
fit g list m a d = record { at = λ x l. record { width = refl; below = subst (λ w. number_of a (edges_at m.wires x) < 2 ^ w) (wide g list m x d l) (number_of-below a (edges_at m.wires x)) } }

pub record ReadAs (g : Graph) (list : List Step) (m : Maker) (a : ℕ → Bool) (v : Valuation) : Type 0 where
  pub assigns : IsAssignment g list v
  pub free : AreFreeBits a v m.wires list

read : (g : Graph) (list : List Step) (m : Maker) (a : ℕ → Bool) → IsDone g list m → ReadAs g list m a (meaning (after_list g list (words_of g m.wires a)) g)
read g list m a d =
    let h = assigned g list (words_of g m.wires a) d.all.proper.graph d.ordered (fit g list m a d) in
    record {
      assigns = record { respects = h.respects; sets = h.sets };
      free = record { at = λ k s x at e. sym (ap (λ (w : Word). w.value) (h.free k s x at e)) };
    }

-- a list is broken where its walk is stopped by a property

broken_by : (w : Walk) → is_broken w ≡ true → (p : ℕ) × ((reads : List ℕ) × (w ≡ Stops reads (AtProp p)))
broken_by (Passes r) e = cc
broken_by (Stops r AtCut) e = cc
broken_by (Stops r (AtProp p)) e = (p, (r, refl))

broken_if : (w : Walk) → (p : ℕ) × ((reads : List ℕ) × (w ≡ Stops reads (AtProp p))) → is_broken w ≡ true
broken_if w (p, (r, e)) = ap is_broken e

pub stands : (g : Graph) (list : List Step) (m : Maker) → IsDone g list m → StandsFor g list m.net m.root m.wires
stands g list m d = record {
  count = let c = d.all.count in omega arith;
  names = d.all.proper.names;
  widths = λ x l. wide g list m x d l;
  there = λ x. d.all.proper.var_widths.there x;
  root_there = d.all.root_there;
  one_to_one = one_to_one g list m d;
  shown = λ v r. let h = shown g list m v d r in (h.0, (h.1.valid, all_bits g list m h.0 v d h.1.valid r h.1.free));
  read = λ a z. let h = read g list m a d in (meaning (after_list g list (words_of g m.wires a)) g, (h.assigns, all_bits g list m a (meaning (after_list g list (words_of g m.wires a)) g) d z h.assigns h.free));
  bits = λ a v z r f. all_bits g list m a v d z r f;
  breaks = λ a v z r b.
      let h = (shows g list m a v d z r (only_free g list m.wires a v d.ordered b)).root in
      (λ e. broken_by (walk v list) (sym h ∙ e), λ p. h ∙ broken_if (walk v list) p);
}
