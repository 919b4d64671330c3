-- Words at places, and the gates of what is left.
use Rattle.std.proofs.Common.{◌≡◌, ◌≢◌, ℕ, zero, suc, ◌+◌, ◌<◌, ◌≤◌, false, cond, List, [], ◌∷◌, length, Some, refl, ap, ◌∙◌, arith}
use Rattle.std.specs.Prelude.{slice_get, slice_set, All, Contains}
use Rattle.std.proofs.lemmas.List.{get_or-set_other, get_or-set_same}
use Rattle.std.proofs.lemmas.List.Elements.{All-contains, All-cons, All-nil}
use Rattle.arrayvec.specs.ArrayVec.{ArrayVec}
use Rattle.gate_net.specs.declared.net.Edge.{Edge}
use Rattle.word_eqs.specs.declared.term.Term.{Term}
use Rattle.word_eqs.specs.declared.term.TermNode.{TermNode}
use Rattle.word_eqs.specs.declared.term.TermNode.TheVariants.{Const, Var, One, Two, Choose, Resize, Slice, Join}
use Rattle.word_eqs.specs.Graph.{Graph, FitsNode, parts}
use Rattle.word_eqs.specs.Gates.{node_gates}
use Rattle.bitblast.specs.Wires.{edges_at}
use Rattle.bitblast.specs.Making.{gates_left, has_none}

-- no word
abbrev pub no_word : ArrayVec Edge
no_word = record { items = [] }

pub at_same : (ws : List (ArrayVec Edge)) (k : ℕ) (w : ArrayVec Edge) → k < length ws → edges_at (slice_set ws k w) k ≡ w.items
at_same ws k w h = ap (λ (u : ArrayVec Edge). u.items) (get_or-set_same ws k w no_word h)

pub at_other : (ws : List (ArrayVec Edge)) (k j : ℕ) (w : ArrayVec Edge) → j ≢ k → edges_at (slice_set ws k w) j ≡ edges_at ws j
at_other ws k j w h = ap (λ (u : ArrayVec Edge). u.items) (get_or-set_other ws k j w no_word h)

pub none_if_some : (es : List Edge) → 0 < length es → has_none es ≡ false
none_if_some [] h = absurd (omega arith)
none_if_some (e ∷ es) h = refl

-- how many words aren't made
abbrev pub unmade : List (ArrayVec Edge) → ℕ
unmade [] = 0
unmade (w ∷ ws) = cond (has_none w.items) 1 0 + unmade ws

pub unmade_put : (ws : List (ArrayVec Edge)) (k : ℕ) (w : ArrayVec Edge) → k < length ws → edges_at ws k ≡ [] → 0 < length w.items → unmade ws ≡ 1 + unmade (slice_set ws k w)
unmade_put [] k w h e s = absurd (omega arith)
unmade_put (u ∷ ws) zero w h e s =
    let p : cond {A = ℕ} (has_none u.items) 1 0 ≡ 1 = ap (λ l. cond {A = ℕ} (has_none l) 1 0) e in
    let q : cond {A = ℕ} (has_none w.items) 1 0 ≡ 0 = ap (λ b. cond {A = ℕ} b 1 0) (none_if_some w.items s) in
    omega arith
unmade_put (u ∷ ws) (suc k) w h e s =
    let i : unmade ws ≡ 1 + unmade (slice_set ws k w) = unmade_put ws k w (omega arith) e s in
    omega arith

pub gates_put : (g : Graph) (terms : List Term) (ws : List (ArrayVec Edge)) (k : ℕ) (x : Term) (w : ArrayVec Edge) → slice_get terms k ≡ Some x → k < length ws → edges_at ws k ≡ [] → 0 < length w.items
    → gates_left g terms ws ≡ node_gates g x.node + gates_left g terms (slice_set ws k w)
gates_put g [] ws k x w at h e s = cc
gates_put g (y ∷ terms) [] k x w at h e s = absurd (omega arith)
gates_put g (y ∷ terms) (u ∷ ws) zero x w at h e s =
    let is : y ≡ x = cc in
    let p : cond (has_none u.items) (node_gates g y.node) 0 ≡ node_gates g x.node = ap (λ l. cond (has_none l) (node_gates g y.node) 0) e ∙ ap (λ (z : Term). node_gates g z.node) is in
    let q : cond {A = ℕ} (has_none w.items) (node_gates g y.node) 0 ≡ 0 = ap (λ b. cond b (node_gates g y.node) 0) (none_if_some w.items s) in
    omega arith
gates_put g (y ∷ terms) (u ∷ ws) (suc k) x w at h e s =
    let i : gates_left g terms ws ≡ node_gates g x.node + gates_left g terms (slice_set ws k w) = gates_put g terms ws k x w at (omega arith) e s in
    omega arith

-- parts stand before what they are parts of

pub fits_more : (g : Graph) (k n : ℕ) (node : TermNode) → k ≤ n → FitsNode g k node → FitsNode g n node
fits_more g k n (Const a) l f = f
fits_more g k n (Var x) l f = f
fits_more g k n (One op a) l f = omega arith
fits_more g k n (Two op a b) l f = let p = f.0 in let q = f.1 in (omega arith, omega arith, f.2)
fits_more g k n (Choose c a b) l f = let o = f.0 in let p = f.1 in let q = f.2 in (omega arith, omega arith, omega arith, f.3, f.4)
fits_more g k n (Resize a to signed) l f = let p = f.0 in (omega arith, f.1, f.2)
fits_more g k n (Slice a high low) l f = let p = f.0 in (omega arith, f.1, f.2)
fits_more g k n (Join a b) l f = let p = f.0 in let q = f.1 in (omega arith, omega arith, f.2)

all_one : (n a : ℕ) → a < n → All (λ k. k < n) (a ∷ [])
all_one n a h = All-cons (λ k. k < n) a [] h (All-nil (λ k. k < n))

all_two : (n a b : ℕ) → a < n → b < n → All (λ k. k < n) (a ∷ b ∷ [])
all_two n a b h i = All-cons (λ k. k < n) a (b ∷ []) h (all_one n b i)

all_parts : (g : Graph) (n : ℕ) (node : TermNode) → FitsNode g n node → All (λ k. k < n) (parts node)
all_parts g n (Const a) f = All-nil (λ k. k < n)
all_parts g n (Var x) f = All-nil (λ k. k < n)
all_parts g n (One op a) f = all_one n a.0 f
all_parts g n (Two op a b) f = all_two n a.0 b.0 f.0 f.1
all_parts g n (Choose c a b) f = All-cons (λ k. k < n) c.0 (a.0 ∷ b.0 ∷ []) f.0 (all_two n a.0 b.0 f.1 f.2)
all_parts g n (Resize a to signed) f = all_one n a.0 f.0
all_parts g n (Slice a high low) f = all_one n a.0 f.0
all_parts g n (Join a b) f = all_two n a.0 b.0 f.0 f.1

pub part_before : (g : Graph) (n : ℕ) (node : TermNode) (k : ℕ) → FitsNode g n node → Contains (parts node) k → k < n
part_before g n node k f c = All-contains (λ k. k < n) (parts node) k (all_parts g n node f) c
