-- The gates of an operation are few.
use Rattle.std.proofs.Common.{◌≡◌, ℕ, suc, ◌+◌, ◌*◌, ◌≤◌, List, [], ◌∷◌, length, Some, refl, arith}
use Rattle.std.specs.Prelude.{slice_get, sum_by}
use Rattle.std.proofs.lemmas.List.Sums.{sum_by-cons}
use Rattle.std.proofs.lemmas.Option.{slice_get_within}
use Rattle.std.proofs.lemmas.Nat.{mul-le}
use Rattle.bits_core.specs.declared.op.Op1.{Op1}
use Rattle.bits_core.specs.declared.op.Op1.TheVariants.{Not, Neg, RedAnd, RedOr, RedXor}
use Rattle.bits_core.specs.declared.op.Op2.{Op2}
use Rattle.bits_core.specs.declared.op.Op2.TheVariants.{And, Or, Xor, Add, Sub, Mul, DivU, DivS, RemU, RemS, Shl, ShrU, ShrS, Eq, LtU, LtS}
use Rattle.word_eqs.specs.declared.term.Term.{Term}
use Rattle.word_eqs.specs.declared.term.TermNode.{TermNode}
use Rattle.word_eqs.specs.declared.term.TermNode.TheVariants.{Const, Var, One, Two, Choose, Resize, Slice, Join}
use Rattle.word_eqs.specs.declared.list.Act.{Act}
use Rattle.word_eqs.specs.declared.list.Act.TheVariants.{Free, Set, Cut, Prop}
use Rattle.word_eqs.specs.declared.list.Step.{Step}
use Rattle.word_eqs.specs.Graph.{FitsNode, Graph, IsGraph, width_in}
use Rattle.word_eqs.specs.Gates.{act_gates, gate_count, gates1, gates2, node_gates, step_gates, term_gates}
use Rattle.word_eqs.specs.Guarded.{FitsAct, IsOrdered}
use Rattle.word_eqs.proofs.Graphs.{width_of_term}
use Rattle.gate_net.specs.Net.{MOST_NODES}

pub gates1_small : (op : Op1) (w : ℕ) → w ≤ 128 → gates1 op w ≤ 1280
gates1_small Not w h = omega arith
gates1_small Neg w h = omega arith
gates1_small RedAnd w h = omega arith
gates1_small RedOr w h = omega arith
gates1_small RedXor w h = omega arith

pub gates2_small : (op : Op2) (w : ℕ) → w ≤ 128 → gates2 op w ≤ 272384
gates2_small And w h = omega arith
gates2_small Or w h = omega arith
gates2_small Xor w h = omega arith
gates2_small Add w h = omega arith
gates2_small Sub w h = omega arith
gates2_small Mul w h = let s = mul-le w w 128 128 h h in omega arith
gates2_small DivU w h = let s = mul-le w w 128 128 h h in omega arith
gates2_small DivS w h = let s = mul-le w w 128 128 h h in omega arith
gates2_small RemU w h = let s = mul-le w w 128 128 h h in omega arith
gates2_small RemS w h = let s = mul-le w w 128 128 h h in omega arith
gates2_small Shl w h = omega arith
gates2_small ShrU w h = omega arith
gates2_small ShrS w h = omega arith
gates2_small Eq w h = omega arith
gates2_small LtU w h = omega arith
gates2_small LtS w h = omega arith

-- sums of small numbers
sum_by_small : {X : Type 0} (f : X → ℕ) (most : ℕ) (xs : List X) → ((k : ℕ) (x : X) → slice_get xs k ≡ Some x → f x ≤ most) → sum_by f xs ≤ most * length xs
sum_by_small f most [] h = omega arith
sum_by_small f most (x ∷ xs) h =
    let e = sum_by-cons f x xs in
    let i = h 0 x refl in
    let j = sum_by_small f most xs (λ k y at. h (suc k) y at) in
    omega arith

node_small : (g : Graph) (n : ℕ) (node : TermNode) → IsGraph g → n ≤ length g.terms → FitsNode g n node → node_gates g node ≤ 272384
node_small g n (Const a) h l f = omega arith
node_small g n (Var x) h l f = omega arith
node_small g n (One op a) h l f = let w = width_of_term g a.0 h (omega arith) in let s = gates1_small op (width_in g a.0) w.1 in omega arith
node_small g n (Two op a b) h l f = let p = f.0 in let w = width_of_term g a.0 h (omega arith) in gates2_small op (width_in g a.0) w.1
node_small g n (Choose c a b) h l f = let p = f.1 in let w = (width_of_term g a.0 h (omega arith)).1 in omega arith
node_small g n (Resize a to signed) h l f = omega arith
node_small g n (Slice a high low) h l f = omega arith
node_small g n (Join a b) h l f = omega arith

act_small : (g : Graph) (act : Act) → IsGraph g → FitsAct g act → act_gates g act ≤ 136
act_small g (Free x) h f = let w = (h.vars x.0 0 f).1 in omega arith
act_small g (Set x t) h f = omega arith
act_small g (Cut t) h f = let w = (width_of_term g t.0 h f).1 in omega arith
act_small g (Prop p t) h f = let w = (width_of_term g t.0 h f).1 in omega arith

-- so many terms and steps are always few enough
pub few_gates : (g : Graph) (list : List Step) → IsGraph g → IsOrdered g list → length g.terms ≤ 4000 → length list ≤ 4000 → 1 + gate_count g list ≤ MOST_NODES
few_gates g list h o l m =
    let t : term_gates g ≤ 272384 * length g.terms = sum_by_small (λ (x : Term). node_gates g x.node) 272384 g.terms (λ k x at. let w = slice_get_within g.terms k x at in node_small g k x.node h (omega arith) (h.terms k x at).fits) in
    let s : step_gates g list ≤ 136 * length list = sum_by_small (λ (s : Step). act_gates g s.act) 136 list (λ k s at. act_small g s.act h (o.steps k s at).act) in
    omega arith
