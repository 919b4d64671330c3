-- Nodes of a graph by their places, and the gates of the first terms and steps.
use Rattle.std.proofs.Common.{◌≡◌, ℕ, ◌+◌, ◌≤◌, List, length, take, Option, Some, None, refl, ap, ◌∙◌, subst, arith}
use Rattle.std.specs.Prelude.{slice_get, option_map, sum_by}
use Rattle.std.proofs.lemmas.List.{take_all}
use Rattle.std.proofs.lemmas.List.Sums.{sum_by_more}
use Rattle.std.proofs.lemmas.Nat.{mul-le}
use Rattle.std.proofs.lemmas.Option.{slice_get_within, get_or_from_slice_get}
use Rattle.bits_core.specs.declared.op.Op2.{Op2}
use Rattle.bits_core.specs.declared.op.Op2.TheVariants.{And, Or, Xor, Add, Sub, Mul, DivU, DivS, RemU, RemS, Shl, ShrU, ShrS, Eq, LtU, LtS}
use Rattle.word_eqs.specs.declared.term.Term.{Term}
use Rattle.word_eqs.specs.declared.term.TermNode.{TermNode}
use Rattle.word_eqs.specs.declared.term.TermNode.TheVariants.{Const, Var, One, Two, Choose, Resize, Slice, Join}
use Rattle.word_eqs.specs.declared.list.Step.{Step}
use Rattle.word_eqs.specs.Graph.{FitsNode, Graph, IsGraph, node_at}
use Rattle.word_eqs.specs.Gates.{gates2, node_gates, term_gates, act_gates, step_gates}

-- a node of a graph has its parts there
fits_more : (g : Graph) (k n : ℕ) (node : TermNode) → k ≤ n → FitsNode g k node → FitsNode g n node
fits_more g k n (Const a) l f = f
fits_more g k n (Var x) l f = f
fits_more g k n (One op a) l f = omega arith
fits_more g k n (Two op a b) l f = let p = f.0 in let q = f.1 in (omega arith, omega arith, f.2)
fits_more g k n (Choose c a b) l f = let o = f.0 in let p = f.1 in let q = f.2 in (omega arith, omega arith, omega arith, f.3, f.4)
fits_more g k n (Resize a to signed) l f = let p = f.0 in (omega arith, f.1, f.2)
fits_more g k n (Slice a high low) l f = let p = f.0 in (omega arith, f.1, f.2)
fits_more g k n (Join a b) l f = let p = f.0 in let q = f.1 in (omega arith, omega arith, f.2)

-- the term of a node
node_of : (o : Option Term) (node : TermNode) → option_map (λ (x : Term). x.node) o ≡ Some node → (x : Term) × (o ≡ Some x) × (x.node ≡ node)
node_of None node e = let d : None ≡ Some node = e in cc
node_of (Some x) node e = let d : Some x.node ≡ Some node = e in (x, refl, cc)

pub node_fits : (g : Graph) (k : ℕ) (node : TermNode) → IsGraph g → node_at g k ≡ Some node → FitsNode g (length g.terms) node
node_fits g k node h e =
    let t = node_of (slice_get g.terms k) node e in
    let l = slice_get_within g.terms k t.0 t.1 in
    subst (FitsNode g (length g.terms)) t.2 (fits_more g k (length g.terms) t.0.node (omega arith) (h.terms k t.0 t.1).fits)

-- the gates of two words are few
pub gates2_small : (op : Op2) (w : ℕ) → w ≤ 128 → gates2 op w ≤ 272384
gates2_small And w h = omega arith
gates2_small Or w h = omega arith
gates2_small Xor w h = omega arith
gates2_small Add w h = omega arith
gates2_small Sub w h = omega arith
gates2_small Mul w h = let s = mul-le w w 128 128 h h in omega arith
gates2_small DivU w h = let s = mul-le w w 128 128 h h in omega arith
gates2_small DivS w h = let s = mul-le w w 128 128 h h in omega arith
gates2_small RemU w h = let s = mul-le w w 128 128 h h in omega arith
gates2_small RemS w h = let s = mul-le w w 128 128 h h in omega arith
gates2_small Shl w h = omega arith
gates2_small ShrU w h = omega arith
gates2_small ShrS w h = omega arith
gates2_small Eq w h = omega arith
gates2_small LtU w h = omega arith
gates2_small LtS w h = omega arith

-- the gates of the first k terms, and of the first k steps
abbrev pub first_gates : Graph → ℕ → ℕ
first_gates g k = sum_by (λ (x : Term). node_gates g x.node) (take k g.terms)

abbrev pub first_steps : Graph → List Step → ℕ → ℕ
first_steps g list k = sum_by (λ (s : Step). act_gates g s.act) (take k list)

pub one_more_term : (g : Graph) (k : ℕ) (node : TermNode) → node_at g k ≡ Some node → first_gates g (k + 1) ≡ first_gates g k + node_gates g node
one_more_term g k node e =
    let t = node_of (slice_get g.terms k) node e in
    let l = slice_get_within g.terms k t.0 t.1 in
    sum_by_more (λ (x : Term). node_gates g x.node) g.terms k t.0 l
    ∙ ap (λ (x : Term). first_gates g k + node_gates g x.node) (get_or_from_slice_get g.terms k t.0 t.0 t.1) ∙ ap (λ n. first_gates g k + node_gates g n) t.2

pub one_more_step : (g : Graph) (list : List Step) (k : ℕ) (s : Step) → slice_get list k ≡ Some s → first_steps g list (k + 1) ≡ first_steps g list k + act_gates g s.act
one_more_step g list k s e =
    sum_by_more (λ (x : Step). act_gates g x.act) list k s (slice_get_within list k s e) ∙ ap (λ (x : Step). first_steps g list k + act_gates g x.act) (get_or_from_slice_get list k s s e)

pub all_terms : (g : Graph) (k : ℕ) → length g.terms ≤ k → first_gates g k ≡ term_gates g
all_terms g k le = ap (sum_by (λ (x : Term). node_gates g x.node)) (take_all k g.terms le)

pub all_steps : (g : Graph) (list : List Step) (k : ℕ) → length list ≤ k → first_steps g list k ≡ step_gates g list
all_steps g list k le = ap (sum_by (λ (s : Step). act_gates g s.act)) (take_all k list le)
