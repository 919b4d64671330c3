-- Marks that spread along edges.
use Rattle.std.proofs.Common.{◌≡◌, ◌⊎◌, inl, inr, ℕ, ◌+◌, ◌<◌, List, [], ◌∷◌, ◌++◌, length, get_or, set, cond, Bool, true, false, refl, sym, ap, ◌∙◌, subst, arith, get_or-set_same, get_or-set_other, length-append}
use Rattle.std.specs.Prelude.{not, Contains}
use Rattle.std.proofs.lemmas.List.{length-set}
use Rattle.std.proofs.lemmas.List.Elements.{Contains-append_left, Contains-push, Contains-push_cases, Contains-get_or}
use Rattle.std.proofs.lemmas.List.Sums.{sum_by-set}
use Rattle.std.proofs.lemmas.Bool.{cases_lt, cases_eq}
use Rattle.edge_order.specs.Graph.{IsMarked}
use Rattle.edge_order.specs.Marks.{Marks, unmarked}

pub marked_set : (marks : List Bool) (n k : ℕ) → n < length marks → IsMarked (set marks n true) k → (k ≡ n) ⊎ IsMarked marks k
marked_set marks n k lt h = elim (cases_eq k n) [
  | inl e ↦ inl e
  | inr ne ↦ inr (let o : get_or (set marks n true) k false ≡ get_or marks k false = get_or-set_other marks n k true false ne in sym o ∙ h)
]

pub marked_here : (marks : List Bool) (n : ℕ) → n < length marks → IsMarked (set marks n true) n
marked_here marks n lt = get_or-set_same marks n true false lt

pub keeps_set : (marks : List Bool) (n k : ℕ) → n < length marks → IsMarked marks k → IsMarked (set marks n true) k
keeps_set marks n k lt h = elim (cases_eq k n) [
  | inl e ↦ subst (IsMarked (set marks n true)) (sym e) (marked_here marks n lt)
  | inr ne ↦ get_or-set_other marks n k true false ne ∙ h
]

bit : Bool → ℕ
bit x = cond (not x) 1 0

unmark_one : (marks : List Bool) (n : ℕ) → n < length marks → get_or marks n false ≡ false → unmarked (set marks n true) + 1 ≡ unmarked marks
unfolding bit
unmark_one marks n lt f =
    let one : unmarked (set marks n true) + bit (get_or marks n false) ≡ unmarked marks + 0 = sum_by-set bit marks n true false lt in
    let was : bit (get_or marks n false) ≡ 1 = ap bit f in
    omega (arith, one, was)

pub mark_none : (nodes : List ℕ) (marks : List Bool) (pending : List ℕ) → Marks nodes 0 marks marks pending pending
mark_none nodes marks pending = record {
  size = refl;
  kept = λ k h. h;
  sound = λ k h. inl h;
  marked = λ i lt. absurd (omega arith);
  open_kept = λ k h. h;
  open_sound = λ k h. inl h;
  fresh = λ k h. inl h;
  left = refl;
}

-- a node that is marked already
pub mark_old : (nodes : List ℕ) (n : ℕ) (old new : List Bool) (before after : List ℕ) → IsMarked new (get_or nodes n 0) → Marks nodes n old new before after → Marks nodes (n + 1) old new before after
mark_old nodes n old new before after m M = record {
  size = M.size;
  kept = M.kept;
  sound = M.sound;
  marked = λ i lt. elim (cases_lt i n) [
    | inl l ↦ M.marked i l
    | inr g ↦ let e : n ≡ i = omega arith in subst (λ j. IsMarked new (get_or nodes j 0)) e m
  ];
  open_kept = M.open_kept;
  open_sound = M.open_sound;
  fresh = M.fresh;
  left = M.left;
}

-- a node that wasn't marked
pub mark_new : (nodes : List ℕ) (n : ℕ) (old new : List Bool) (before after : List ℕ) (node : ℕ) → n < length nodes → node ≡ get_or nodes n 0 → node < length new → get_or new node false ≡ false → Marks nodes n old new before after → Marks nodes (n + 1) old (set new node true) before (after ++ node ∷ [])
mark_new nodes n old new before after node within is lt f M = record {
  size = length-set new node true ∙ M.size;
  kept = λ k h. keeps_set new node k lt (M.kept k h);
  sound = λ k h. elim (marked_set new node k lt h) [
    | inl e ↦ inr (subst (Contains nodes) (sym (e ∙ is)) (Contains-get_or nodes n 0 within))
    | inr o ↦ M.sound k o
  ];
  marked = λ i below. elim (cases_lt i n) [
    | inl l ↦ keeps_set new node (get_or nodes i 0) lt (M.marked i l)
    | inr g ↦
        let e : n ≡ i = omega arith in
        subst (IsMarked (set new node true)) (is ∙ ap (λ j. get_or nodes j 0) e) (marked_here new node lt)
  ];
  open_kept = λ k h. Contains-append_left after (node ∷ []) k (M.open_kept k h);
  open_sound = λ k h. elim (Contains-push_cases after node k h) [
    | inl o ↦ elim (M.open_sound k o) [ inl b ↦ inl b | inr m ↦ inr (keeps_set new node k lt m) ]
    | inr e ↦ inr (subst (IsMarked (set new node true)) e (marked_here new node lt))
  ];
  fresh = λ k h. elim (marked_set new node k lt h) [
    | inl e ↦ inr (subst (Contains (after ++ node ∷ [])) (sym e) (Contains-push after node))
    | inr o ↦ elim (M.fresh k o) [ inl b ↦ inl b | inr p ↦ inr (Contains-append_left after (node ∷ []) k p) ]
  ];
  left = let s = unmark_one new node lt f in let t = length-append after (node ∷ []) in let u = M.left in omega arith;
}
