-- Terms that wait for a part: a stack, each term before those that it waits for.
use Rattle.std.proofs.Common.{◌≡◌, ◌≢◌, ℕ, ◌+◌, ◌*◌, ◌<◌, ◌≤◌, List, [], ◌∷◌, ◌++◌, length, Some, refl, sym, ap, ◌∙◌, subst, arith}
use Rattle.std.specs.Prelude.{slice_set, Contains}
use Rattle.arrayvec.specs.ArrayVec.{ArrayVec}
use Rattle.gate_net.specs.declared.net.Edge.{Edge}
use Rattle.gate_net.specs.declared.net.Node.{Node}
use Rattle.word_eqs.specs.declared.term.TermId.{TermId}
use Rattle.word_eqs.specs.declared.term.TermNode.{TermNode}
use Rattle.word_eqs.specs.Graph.{Graph, FitsNode, node_at, parts}
use Rattle.word_eqs.specs.Guarded.{Uses, by_part}
use Rattle.bitblast.specs.Wires.{AreWords, IsMade, edges_at}
use Rattle.bitblast.specs.Making.{IsNext, IsWanted, MakesOne, Translates, gates_left}
use Rattle.bitblast.proofs.Placing.{at_other, at_same, part_before, unmade, unmade_put}
use Rattle.bitblast.proofs.Translating.{term_of, translates_none, translates_then}
use Rattle.gate_net.specs.Net.{MOST_NODES}

-- a term that isn't made, whose variables have edges
pub record IsDue (g : Graph) (vars words : List (ArrayVec Edge)) (t : ℕ) : Type 0 where
  pub there : t < length g.terms
  pub given : (x : ℕ) → Uses g t x → IsMade vars x
  pub none : edges_at words t ≡ []

-- each stands before the one under it
abbrev pub AreDue : Graph → List (ArrayVec Edge) → List (ArrayVec Edge) → ℕ → List TermId → Type 0
AreDue g vars words bound [] = Unit {0}
AreDue g vars words bound (s ∷ stack) = (s.0 < bound) × IsDue g vars words s.0 × AreDue g vars words s.0 stack

-- the lowest is t, or t is made
abbrev pub Ends : List (ArrayVec Edge) → ℕ → List TermId → Type 0
Ends words t [] = IsMade words t
Ends words t (s ∷ stack) = s.0 ≡ t

abbrev pub top_of : List TermId → ℕ
top_of [] = 0
top_of (s ∷ []) = s.0
top_of (s ∷ r ∷ stack) = top_of (r ∷ stack)

-- what the loop keeps
pub record Waits (old new : List Node) (g : Graph) (vars words made : List (ArrayVec Edge)) (t : ℕ) (stack : List TermId) : Type 0 where
  pub rest : Translates old new g vars words made 0
  pub due : AreDue g vars made (length g.terms) stack
  pub ends : Ends made t stack

top_push : (xs : List TermId) (y : TermId) → top_of (xs ++ y ∷ []) ≡ y.0
top_push [] y = refl
top_push (x ∷ []) y = refl
top_push (x ∷ z ∷ xs) y = top_push (z ∷ xs) y

pub due_top : (g : Graph) (vars ws : List (ArrayVec Edge)) (b : ℕ) (xs : List TermId) (y : TermId) → AreDue g vars ws b (xs ++ y ∷ []) → IsDue g vars ws y.0
due_top g vars ws b [] y d = d.1
due_top g vars ws b (x ∷ xs) y d = due_top g vars ws x.0 xs y d.2

top_within : (g : Graph) (vars ws : List (ArrayVec Edge)) (b : ℕ) (xs : List TermId) → AreDue g vars ws b xs → top_of xs ≤ length g.terms
top_within g vars ws b [] d = omega arith
top_within g vars ws b (x ∷ []) d = let l = d.1.there in omega arith
top_within g vars ws b (x ∷ y ∷ xs) d = top_within g vars ws x.0 (y ∷ xs) d.2

due_push : (g : Graph) (vars ws : List (ArrayVec Edge)) (b : ℕ) (xs : List TermId) (y z : TermId) → AreDue g vars ws b (xs ++ y ∷ []) → z.0 < y.0 → IsDue g vars ws z.0 → AreDue g vars ws b ((xs ++ y ∷ []) ++ z ∷ [])
due_push g vars ws b [] y z d l e = (d.0, d.1, (l, e, tt))
due_push g vars ws b (x ∷ xs) y z d l e = (d.0, d.1, due_push g vars ws x.0 xs y z d.2 l e)

above : (g : Graph) (vars ws : List (ArrayVec Edge)) (b : ℕ) (xs : List TermId) (y : TermId) → AreDue g vars ws b (xs ++ y ∷ []) → y.0 < b
above g vars ws b [] y d = d.0
above g vars ws b (x ∷ xs) y d = let l = above g vars ws x.0 xs y d.2 in let m = d.0 in omega arith

-- those under the top are still due when it is made
due_rest : (g : Graph) (vars ws : List (ArrayVec Edge)) (b : ℕ) (xs : List TermId) (y : TermId) (w : ArrayVec Edge) → AreDue g vars ws b (xs ++ y ∷ []) → AreDue g vars (slice_set ws y.0 w) b xs
due_rest g vars ws b [] y w d = tt
due_rest g vars ws b (x ∷ xs) y w d =
    let l = above g vars ws x.0 xs y d.2 in
    let other : x.0 ≢ y.0 = omega arith in
    (d.0, record { there = d.1.there; given = d.1.given; none = at_other ws y.0 x.0 w other ∙ d.1.none }, due_rest g vars ws x.0 xs y w d.2)

ends_rest : (ws : List (ArrayVec Edge)) (t : ℕ) (xs : List TermId) (y : TermId) (w : ArrayVec Edge) → y.0 < length ws → 0 < length w.items → Ends ws t (xs ++ y ∷ []) → Ends (slice_set ws y.0 w) t xs
ends_rest ws t [] y w l s e = subst (λ k. IsMade (slice_set ws y.0 w) k) e (subst (λ (es : List Edge). 0 < length es) (sym (at_same ws y.0 w l)) s)
ends_rest ws t (x ∷ xs) y w l s e = e

ends_push : (ws : List (ArrayVec Edge)) (t : ℕ) (xs : List TermId) (y z : TermId) → Ends ws t (xs ++ y ∷ []) → Ends ws t ((xs ++ y ∷ []) ++ z ∷ [])
ends_push ws t [] y z e = e
ends_push ws t (x ∷ xs) y z e = e

-- the start of the loop

pub waits_one : (o : List Node) (g : Graph) (vars ws : List (ArrayVec Edge)) (t : TermId) → IsWanted o g vars ws t.0 0 → edges_at ws t.0 ≡ [] → Waits o o g vars ws ws t.0 (t ∷ [])
waits_one o g vars ws t h e = record { rest = translates_none o g vars ws h.proper; due = (h.there, record { there = h.there; given = h.given; none = e }, tt); ends = refl }

pub waits_none : (o : List Node) (g : Graph) (vars ws : List (ArrayVec Edge)) (t : TermId) → IsWanted o g vars ws t.0 0 → IsMade ws t.0 → Waits o o g vars ws ws t.0 []
waits_none o g vars ws t h m = record { rest = translates_none o g vars ws h.proper; due = tt; ends = m }

-- what the parts of a term are

pub parts_there : (n : List Node) (g : Graph) (vars ws : List (ArrayVec Edge)) (t : ℕ) (node : TermNode) (k : ℕ) → AreWords n g vars ws → t < length g.terms → node_at g t ≡ Some node → Contains (parts node) k → k < t
parts_there n g vars ws t node k w l e c =
    let i = term_of g t node l e in
    part_before g t node k (subst (FitsNode g t) i.is (w.graph.terms t _ i.at).fits) c

-- a part that isn't made is put on the stack
pub waits_part : (o n : List Node) (g : Graph) (vars ws us : List (ArrayVec Edge)) (t : ℕ) (xs : List TermId) (y z : TermId) (node : TermNode) → Waits o n g vars ws us t (xs ++ y ∷ []) → node_at g y.0 ≡ Some node → Contains (parts node) z.0 → edges_at us z.0 ≡ []
    → Waits o n g vars ws us t ((xs ++ y ∷ []) ++ z ∷ [])
waits_part o n g vars ws us t xs y z node h e c u =
    let top = due_top g vars us (length g.terms) xs y h.due in
    let l = parts_there n g vars us y.0 node z.0 h.rest.proper top.there e c in
    let m = top.there in
    record {
      rest = h.rest;
      due = due_push g vars us (length g.terms) xs y z h.due l (record { there = omega arith; given = λ x q. top.given x (by_part y.0 z.0 x node e c q); none = u });
      ends = ends_push us t xs y z h.ends;
    }

-- a term whose parts are made can be made
pub waits_next : (o n : List Node) (g : Graph) (vars ws us : List (ArrayVec Edge)) (t : ℕ) (xs : List TermId) (y : TermId) (node : TermNode) → Waits o n g vars ws us t (xs ++ y ∷ []) → length o + gates_left g g.terms ws ≤ MOST_NODES → node_at g y.0 ≡ Some node
    → ((k : ℕ) → Contains (parts node) k → IsMade us k) → IsNext n g vars us y.0
waits_next o n g vars ws us t xs y node h room e p =
    let top = due_top g vars us (length g.terms) xs y h.due in
    let c = h.rest.cost in
    let d = h.rest.grows.cost in
    record {
      wanted = record { proper = h.rest.proper; there = top.there; given = top.given; room = omega arith };
      none = top.none;
      parts = λ m q k. subst (λ m. Contains (parts m) k → IsMade us k) (same node m (sym e ∙ q)) (p k);
    }
  where
    same : (a b : TermNode) → Some a ≡ Some b → a ≡ b
    same a b e = cc

pub waits_made : (o m n : List Node) (g : Graph) (vars ws us vs : List (ArrayVec Edge)) (t : ℕ) (xs : List TermId) (y : TermId) → Waits o m g vars ws us t (xs ++ y ∷ []) → MakesOne m n g vars us vs y.0 → Waits o n g vars ws vs t xs
waits_made o m n g vars ws us vs t xs y h x =
    let top = due_top g vars us (length g.terms) xs y h.due in
    let there : y.0 < length us = let p = h.rest.proper.places in let q = top.there in omega arith in
    record {
      rest = translates_then o m n g vars ws us vs 0 0 h.rest x.rest;
      due = subst (λ v. AreDue g vars v (length g.terms) xs) (sym x.put) (due_rest g vars us (length g.terms) xs y x.word h.due);
      ends = subst (λ v. Ends v t xs) (sym x.put) (ends_rest us t xs y x.word there x.some h.ends);
    }

-- the loop ends

pub falls_by_part : (n : ℕ) (us : List (ArrayVec Edge)) (was now xs : List TermId) (y z : TermId) → was ≡ xs ++ y ∷ [] → now ≡ (xs ++ y ∷ []) ++ z ∷ [] → z.0 < y.0 → unmade us * (n + 1) + top_of now < unmade us * (n + 1) + top_of was
falls_by_part n us was now xs y z d e l =
    let p : top_of now ≡ z.0 = ap top_of e ∙ top_push (xs ++ y ∷ []) z in
    let q : top_of was ≡ y.0 = ap top_of d ∙ top_push xs y in
    omega arith

pub falls_by_one : (o m n : List Node) (g : Graph) (vars ws us vs : List (ArrayVec Edge)) (t : ℕ) (was xs : List TermId) (y : TermId) → was ≡ xs ++ y ∷ [] → Waits o m g vars ws us t (xs ++ y ∷ []) → MakesOne m n g vars us vs y.0
    → unmade vs * (length g.terms + 1) + top_of xs < unmade us * (length g.terms + 1) + top_of was
falls_by_one o m n g vars ws us vs t was xs y d h x =
    let top = due_top g vars us (length g.terms) xs y h.due in
    let there : y.0 < length us = let p = h.rest.proper.places in let q = top.there in omega arith in
    let less : unmade us ≡ 1 + unmade vs = unmade_put us y.0 x.word there top.none x.some ∙ ap (λ v. 1 + unmade v) (sym x.put) in
    let within = top_within g vars vs (length g.terms) xs (waits_made o m n g vars ws us vs t xs y h x).due in
    let more : unmade us * (length g.terms + 1) ≡ (1 + unmade vs) * (length g.terms + 1) = ap (λ k. k * (length g.terms + 1)) less in
    omega arith
