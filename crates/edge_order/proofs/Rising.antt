-- What stages show of what nodes lead to.
use Rattle.std.proofs.Common.{◌≡◌, inl, inr, ℕ, ◌+◌, ◌<◌, List, length, get_or, Bool, true, false, Option, None, Some, sym, ap, ◌∙◌, subst, arith}
use Rattle.std.specs.Prelude.{Contains, All, is_some, not}
use Rattle.std.specs.List.{range_with_len}
use Rattle.std.specs.List.Sorted.{IsPermutation}
use Rattle.std.specs.Global.{Vec}
use Rattle.std.proofs.lemmas.Bool.{cases_lt}
use Rattle.edge_order.specs.Graph.{HasEdge, Seed, Along, Leads}
use Rattle.edge_order.specs.Stages.{Rises, Stays, RisesBefore, IsByStage}
use Rattle.edge_order.specs.Orders.{IsForward, HasNoRing}
use Rattle.edge_order.proofs.Edges.{targets_here, edge_from}

later : (graph : List (Vec ℕ)) (stages : List ℕ) (v a b : ℕ) → Stays graph stages (length graph) → Rises graph stages v → a < v → Leads graph a b → get_or stages a 0 < get_or stages b 0
later graph stages v a _ S R lt (Seed k h) = R a k lt h
later graph stages v a _ S R lt (Along x y r h) =
    let l = later graph stages v a x S R lt r in
    let m = S x y (edge_from graph x y h) h in
    omega arith

pub no_ring : (graph : List (Vec ℕ)) (stages : List ℕ) (v : ℕ) → Stays graph stages (length graph) → Rises graph stages v → HasNoRing graph v
no_ring graph stages v S R a lt l = let h = later graph stages v a a S R lt l in absurd (omega arith)

pub rises_stays : (graph : List (Vec ℕ)) (stages : List ℕ) (n : ℕ) → Rises graph stages n → Stays graph stages n
rises_stays graph stages n R a b lt h = let l = R a b lt h in omega arith

pub forward : (graph : List (Vec ℕ)) (stages order : List ℕ) → length stages ≡ length graph → Rises graph stages (length graph) → IsByStage stages order → IsForward graph order
forward graph stages order size R B = record {
  all = subst (λ n. IsPermutation (range_with_len 0 n) order) size B.all;
  forward = λ i j d lt lj h.
      let a = B.rising i j d lt lj in
      let b = R (get_or order j d) (get_or order i d) (edge_from graph (get_or order j d) (get_or order i d) h) h in
      absurd (omega arith);
}

-- what holds of each target of a node, by its edges
pub each_target : (graph : List (Vec ℕ)) (a b : ℕ) (v : Vec ℕ) (ts : List ℕ) (P : ℕ → Type 0) → a < length graph → v ≡ get_or graph a v → ts ≡ v.items → All P ts → HasEdge graph a b → P b
each_target graph a b v ts P lt is e A h =
    let (k, lk, at) = subst (λ l. Contains l b) (targets_here graph a v lt is ∙ sym e) h in
    subst P at (A k b lk)

-- one node more
pub more_nodes : (graph : List (Vec ℕ)) (n : ℕ) (R : ℕ → ℕ → Type 0) → ((a b : ℕ) → a < n → HasEdge graph a b → R a b) → ((b : ℕ) → HasEdge graph n b → R n b) → (a b : ℕ) → a < n + 1 → HasEdge graph a b → R a b
more_nodes graph n R below here a b lt h = elim (cases_lt a n) [
  | inl l ↦ below a b l h
  | inr g ↦
      let e : n ≡ a = omega arith in
      subst (λ k. HasEdge graph k b → R k b) e (here b) h
]

pub rises_up : (graph : List (Vec ℕ)) (stages : List ℕ) (n : ℕ) (level : Option ℕ) → ((b : ℕ) → HasEdge graph n b → get_or stages n 0 < get_or stages b 0) → RisesBefore graph stages n level → RisesBefore graph stages (n + 1) level
rises_up graph stages n None h R = more_nodes graph n (λ a b. get_or stages a 0 < get_or stages b 0) R h
rises_up graph stages n (Some v) h R = let l = R.0 in (omega arith, R.1)

pub rises_first : (graph : List (Vec ℕ)) (stages : List ℕ) (n : ℕ) (level : Option ℕ) (r : Bool) → is_some level ≡ not r → r ≡ true → RisesBefore graph stages n level → RisesBefore graph stages (n + 1) (Some n)
rises_first graph stages n None r e t R = (omega arith, R)
rises_first graph stages n (Some v) r e t R = let f : not r ≡ false = ap not t in cc

pub rises_kept : (graph : List (Vec ℕ)) (stages : List ℕ) (n : ℕ) (level : Option ℕ) (r : Bool) → is_some level ≡ not r → r ≡ false → RisesBefore graph stages n level → RisesBefore graph stages (n + 1) level
rises_kept graph stages n None r e f R = let t : not r ≡ true = ap not f in cc
rises_kept graph stages n (Some v) r e f R = let l = R.0 in (omega arith, R.1)
