-- The edge that is 1 where a guard is 1 and a term 0.
use Rattle.std.proofs.Common.{◌≡◌, ℕ, zero, suc, ◌+◌, ◌≤◌, Bool, true, false, ◌&&◌, not, List, length, get_or, refl, sym, ap, ◌∙◌, arith}
use Rattle.std.specs.Prelude.{nat_lt}
use Rattle.std.proofs.lemmas.Bool.Decides.{nat_tests}
use Rattle.arrayvec.specs.ArrayVec.{ArrayVec}
use Rattle.bits_core.specs.Word.{at_zero, bit}
use Rattle.gate_net.specs.declared.net.Edge.{Edge}
use Rattle.gate_net.specs.declared.net.Node.{Node}
use Rattle.gate_net.specs.Edge.{edge_value}
use Rattle.word_eqs.specs.Graph.{Graph, width_in}
use Rattle.bitblast.specs.Circuit.{MakesEdge, number_of}
use Rattle.bitblast.specs.Wires.{AreWords, IsMade, edges_at}
use Rattle.bitblast.specs.Making.{IsTest, IsWanted, Tests, Translates, fails}
use Rattle.bitblast.proofs.NodeLaws.{one_bit}
use Rattle.bitblast.proofs.Translating.{translates_more, translates_then, translates_within}
use Rattle.gate_net.specs.Net.{MOST_NODES}

pub guard_wanted : (o : List Node) (g : Graph) (vars ws : List (ArrayVec Edge)) (guard t : ℕ) → IsTest o g vars ws guard t → IsWanted o g vars ws guard 0
guard_wanted o g vars ws guard t h = record { proper = h.wanted.proper; there = h.wanted.there; given = h.wanted.given; room = let r = h.wanted.room in omega arith }

pub term_wanted : (o n : List Node) (g : Graph) (vars ws us : List (ArrayVec Edge)) (guard t : ℕ) → IsTest o g vars ws guard t → Translates o n g vars ws us 0 → IsWanted n g vars us t 0
term_wanted o n g vars ws us guard t h x = record {
  proper = x.proper;
  there = h.there;
  given = h.given;
  room = let r = h.wanted.room in let c = x.cost in let d = x.grows.cost in omega arith;
}

-- a guard that is made has one edge
pub one_edge : (n : List Node) (g : Graph) (vars us vs : List (ArrayVec Edge)) (m : List Node) (guard : ℕ) (es : List Edge) → Translates m n g vars us vs 0 → IsMade us guard → width_in g guard ≡ 1 → es ≡ edges_at vs guard → length es ≡ 1
one_edge n g vars us vs m guard es x k b e = ap length e ∙ x.proper.widths.bits guard (x.kept guard k) ∙ b

pub term_edges : (n : List Node) (g : Graph) (vars vs : List (ArrayVec Edge)) (t : ℕ) (es : List Edge) → AreWords n g vars vs → IsMade vs t → es ≡ edges_at vs t → length es ≡ width_in g t
term_edges n g vars vs t es w k e = ap length e ∙ w.widths.bits t k

-- there is room for the edge
pub room_left : (o m n : List Node) (g : Graph) (vars ws us vs : List (ArrayVec Edge)) (guard t : ℕ) → IsTest o g vars ws guard t → Translates o m g vars ws us 0 → Translates m n g vars us vs 0 → length n + (width_in g t + 8) ≤ MOST_NODES
room_left o m n g vars ws us vs guard t h x y =
    let r = h.wanted.room in
    let c = x.cost in
    let d = x.grows.cost in
    let e = y.cost in
    let f = y.grows.cost in
    omega arith

fails_by : (b : Bool) (gv tv n : ℕ) → bit b ≡ gv → n ≡ tv → (b && not (nat_lt 0 n)) ≡ fails gv tv
fails_by true gv tv n e f = zero_test n ∙ ap (λ k. at_zero k true false) f ∙ ap (λ k. at_zero k false (at_zero tv true false)) e
  where
    zero_test : (n : ℕ) → not (nat_lt 0 n) ≡ at_zero n true false
    zero_test zero = refl
    zero_test (suc n) = grind (arith, nat_tests)
fails_by false gv tv n e f = ap (λ k. at_zero k false (at_zero tv true false)) e

pub tested : (o m n p q : List Node) (g : Graph) (vars ws us vs : List (ArrayVec Edge)) (guard t : ℕ) (gs ts : List Edge) (d holds turned e : Edge)
    → IsTest o g vars ws guard t → Translates o m g vars ws us 0 → IsMade us guard → Translates m n g vars us vs 0 → IsMade vs t
    → gs ≡ edges_at vs guard → ts ≡ edges_at vs t
    → MakesEdge n p (length ts) (λ a. nat_lt 0 (number_of a ts)) holds
    → ((a : ℕ → Bool) → edge_value a turned ≡ not (edge_value a holds))
    → MakesEdge p q 1 (λ a. edge_value a (get_or gs 0 d) && edge_value a turned) e
    → Tests o q g vars ws vs guard t e
tested o m n p q g vars ws us vs guard t gs ts d holds turned e h x k y l i j z u w =
    let one = one_edge n g vars us vs m guard gs y k h.bit i in
    let wide = term_edges n g vars vs t ts y.proper l j in
    record {
      rest =
          translates_within o q g vars ws vs (0 + length ts + 1) (width_in g t + 1) (omega arith)
          (translates_more o p q g vars ws vs (0 + length ts) 1 (translates_more o n p g vars ws vs 0 (length ts) (translates_then o m n g vars ws us vs 0 0 x y) z.grows) w.grows);
      there = w.there;
      value = λ a v r s f.
          let rp = w.grows.values a r in
          let rn = z.grows.values a rp in
          let rm = y.grows.values a rn in
          let made = y.fits a v rn s (x.fits a v rm s f) in
          w.value a r ∙ ap (λ b. edge_value a (get_or gs 0 d) && b) (u a ∙ ap not (z.value a rp))
          ∙ fails_by (edge_value a (get_or gs 0 d)) (v.term guard).value (v.term t).value (number_of a ts)
          (sym (one_bit a gs d one) ∙ ap (number_of a) i ∙ made.of_terms guard (y.kept guard k))
          (ap (number_of a) j ∙ made.of_terms t l);
    }
