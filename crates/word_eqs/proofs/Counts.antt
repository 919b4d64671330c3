-- Gates of graphs that grow.
use Rattle.std.proofs.Common.{◌≡◌, ℕ, suc, ◌+◌, ◌*◌, ◌≤◌, List, [], ◌∷◌, ◌++◌, length, take, Some, refl, sym, ap, ◌∙◌, arith}
use Rattle.std.specs.Prelude.{slice_get, sum_by}
use Rattle.std.proofs.lemmas.List.Sums.{sum_by-cons, sum_by_push, sum_by-take-le}
use Rattle.std.proofs.lemmas.Option.{slice_get_within}
use Rattle.word_eqs.specs.declared.term.TermNode.{TermNode}
use Rattle.word_eqs.specs.declared.term.TermNode.TheVariants.{Const, Var, One, Two, Choose, Resize, Slice, Join}
use Rattle.word_eqs.specs.declared.term.Term.{Term}
use Rattle.word_eqs.specs.Graph.{Graph, node_width, FitsNode, IsGraph, with_term, Extends}
use Rattle.word_eqs.specs.Gates.{gates1, gates2, node_gates, term_gates, act_gates, step_gates}
use Rattle.word_eqs.specs.declared.list.Act.{Act}
use Rattle.word_eqs.specs.declared.list.Act.TheVariants.{Free, Set, Cut, Prop}
use Rattle.word_eqs.specs.declared.list.Step.{Step}
use Rattle.word_eqs.specs.Guarded.{FitsAct, FitsStep}
use Rattle.word_eqs.proofs.Graphs.{width_kept, var_kept, extends_with_term}

pub sum_by_same : {X : Type 0} (f g : X → ℕ) (xs : List X) → ((k : ℕ) (x : X) → slice_get xs k ≡ Some x → f x ≡ g x) → sum_by f xs ≡ sum_by g xs
sum_by_same f g [] h = refl
sum_by_same f g (x ∷ xs) h =
    sum_by-cons f x xs ∙ ap (λ k. k + sum_by f xs) (h 0 x refl) ∙ ap (λ k. g x + k) (sum_by_same f g xs (λ k y at. h (suc k) y at)) ∙ sym (sum_by-cons g x xs)

pub node_gates_kept : (g h : Graph) (n : ℕ) (node : TermNode) → Extends g h → n ≤ length g.terms → FitsNode g n node → node_gates h node ≡ node_gates g node
node_gates_kept g h n (Const a) e le f = refl
node_gates_kept g h n (Var x) e le f = refl
node_gates_kept g h n (One op a) e le f = ap (gates1 op) (width_kept g h a.0 e (omega arith))
node_gates_kept g h n (Two op a b) e le f = let p = f.0 in ap (gates2 op) (width_kept g h a.0 e (omega arith))
node_gates_kept g h n (Choose c a b) e le f = let p = f.1 in ap (λ k. 3 * k) (width_kept g h a.0 e (omega arith))
node_gates_kept g h n (Resize a to signed) e le f = refl
node_gates_kept g h n (Slice a high low) e le f = refl
node_gates_kept g h n (Join a b) e le f = refl

pub cost : (g : Graph) (node : TermNode) → IsGraph g → FitsNode g (length g.terms) node → term_gates (with_term g node) ≡ term_gates g + node_gates g node
cost g node h f =
    let e = extends_with_term g node in
    let le : length g.terms ≤ length g.terms = omega arith in
    sum_by_push (λ (x : Term). node_gates (with_term g node) x.node) g.terms (record { node = node; width = node_width g node })
    ∙ ap (λ k. k + node_gates (with_term g node) node) (sum_by_same (λ (x : Term). node_gates (with_term g node) x.node) (λ (x : Term). node_gates g x.node) g.terms (λ k x at.
    let within = slice_get_within g.terms k x at in
    let le' : k ≤ length g.terms = omega arith in
    node_gates_kept g (with_term g node) k x.node e le' (h.terms k x at).fits))
    ∙ ap (λ k. term_gates g + k) (node_gates_kept g (with_term g node) (length g.terms) node e le f)

-- gates of lists that grow

pub act_gates_kept : (g h : Graph) (act : Act) → Extends g h → FitsAct g act → act_gates h act ≡ act_gates g act
act_gates_kept g h (Free x) e f = var_kept g h x.0 e f
act_gates_kept g h (Set x t) e f = refl
act_gates_kept g h (Cut t) e f = ap (λ k. k + 8) (width_kept g h t.0 e f)
act_gates_kept g h (Prop p t) e f = ap (λ k. k + 8) (width_kept g h t.0 e f)

-- steps have the gates that they had, when terms are added
pub step_gates_kept : (g h : Graph) (list : List Step) → Extends g h → ((k : ℕ) (s : Step) → slice_get list k ≡ Some s → FitsStep g s) → step_gates h list ≡ step_gates g list
step_gates_kept g h list e f = sum_by_same (λ (s : Step). act_gates h s.act) (λ (s : Step). act_gates g s.act) list (λ k s at. act_gates_kept g h s.act e (f k s at).act)

pub step_gates_push : (g : Graph) (list : List Step) (s : Step) → step_gates g (list ++ s ∷ []) ≡ step_gates g list + act_gates g s.act
step_gates_push g list s = sum_by_push (λ (s : Step). act_gates g s.act) list s

-- terms have the gates that they had, when variables or terms are added
pub term_gates_more : (g h : Graph) → IsGraph g → Extends g h → term_gates g ≤ term_gates h
term_gates_more g h i e =
    let same : sum_by (λ (x : Term). node_gates h x.node) g.terms ≡ term_gates g = sum_by_same (λ (x : Term). node_gates h x.node) (λ (x : Term). node_gates g x.node) g.terms (λ k x at.
    let within = slice_get_within g.terms k x at in
    let le : k ≤ length g.terms = omega arith in
    node_gates_kept g h k x.node e le (i.terms k x at).fits) in
    let le : sum_by (λ (x : Term). node_gates h x.node) (take (length g.terms) h.terms) ≤ term_gates h = sum_by-take-le (λ (x : Term). node_gates h x.node) h.terms (length g.terms) in
    let is : sum_by (λ (x : Term). node_gates h x.node) (take (length g.terms) h.terms) ≡ sum_by (λ (x : Term). node_gates h x.node) g.terms = ap (sum_by (λ (x : Term). node_gates h x.node)) e.terms in
    omega arith
