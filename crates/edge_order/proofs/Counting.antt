-- A node leads to more nodes than what its edges lead to does.
use Rattle.std.proofs.Common.{◌≡◌, inl, inr, ℕ, zero, suc, ◌+◌, ◌-◌, ◌<◌, ◌≤◌, List, [], ◌∷◌, ◌++◌, length, get_or, cond, Bool, true, false, refl, sym, ap, ◌∙◌, subst, arith, length-append}
use Rattle.std.specs.Prelude.{count_by}
use Rattle.std.specs.Global.{Vec}
use Rattle.std.proofs.lemmas.List.{get_or_append_left, get_or_read}
use Rattle.std.proofs.Math.Seq.{get_or-append_seam}
use Rattle.std.proofs.lemmas.List.Sums.{sum_by-cons, count_by-le-length}
use Rattle.std.proofs.lemmas.Bool.{cases_lt, cases_Bool}
use Rattle.edge_order.specs.Graph.{targets, IsGraph, HasEdge, Seed, Along, Leads, IsMarked, IsReach}
use Rattle.edge_order.specs.Stages.{Rises}
use Rattle.edge_order.specs.Orders.{IsSearched, AreSearched}
use Rattle.edge_order.proofs.Edges.{edge_to}

bit : Bool → ℕ
bit x = cond x 1 0

count : List Bool → ℕ
count [] = 0
count (x ∷ xs) = bit x + count xs

bit_le : (x y : Bool) → (x ≡ true → y ≡ true) → bit x ≤ bit y
unfolding bit
bit_le true y h = rw (h refl) (omega arith)
bit_le false y h = omega arith

count_le : (xs ys : List Bool) → length xs ≡ length ys → ((j : ℕ) → IsMarked xs j → IsMarked ys j) → count xs ≤ count ys
unfolding count
count_le [] ys n h = omega arith
count_le (x ∷ xs) [] n h = absurd (omega arith)
count_le (x ∷ xs) (y ∷ ys) n h =
    let a = count_le xs ys (omega arith) (λ j m. h (suc j) m) in
    let b = bit_le x y (h 0) in
    omega arith

count_less : (xs ys : List Bool) (k : ℕ) → length xs ≡ length ys → ((j : ℕ) → IsMarked xs j → IsMarked ys j) → get_or xs k false ≡ false → IsMarked ys k → count xs < count ys
unfolding count bit
count_less [] [] k n h f m = cc
count_less [] (y ∷ ys) k n h f m = absurd (omega arith)
count_less (x ∷ xs) [] k n h f m = absurd (omega arith)
count_less (x ∷ xs) (y ∷ ys) zero n h f m =
    let a = count_le xs ys (omega arith) (λ j q. h (suc j) q) in
    let b : bit x ≡ 0 = ap bit f in
    let d : bit y ≡ 1 = ap bit m in
    omega arith
count_less (x ∷ xs) (y ∷ ys) (suc k) n h f m =
    let a = count_less xs ys k (omega arith) (λ j q. h (suc j) q) f m in
    let b = bit_le x y (h 0) in
    omega arith

count_is : (xs : List Bool) → count_by (λ x. x) xs ≡ count xs
unfolding count bit
count_is [] = refl
count_is (x ∷ xs) = sum_by-cons (λ y. cond y 1 0) x xs ∙ ap (λ n. bit x + n) (count_is xs)

unmarked_false : (marks : List Bool) (k : ℕ) → (IsMarked marks k → ⊥) → get_or marks k false ≡ false
unmarked_false marks k h = elim (cases_Bool (get_or marks k false)) [ inl t ↦ absurd (h t) | inr f ↦ f ]

pub onward : (graph : List (Vec ℕ)) (a b c : ℕ) → HasEdge graph a b → Leads graph b c → Leads graph a c
onward graph a b _ h (Seed k s) = Along b k (Seed b h) s
onward graph a b _ h (Along x y r s) = Along x y (onward graph a b x h r) s

falls : (graph : List (Vec ℕ)) (a b x y : ℕ) → (Leads graph b b → ⊥) → HasEdge graph a b → IsSearched graph a x → IsSearched graph b y → x < y
falls graph a b x y none h A B =
    let l = count_less B.marks A.marks b (B.is.size ∙ sym A.is.size)
    (λ j m. (A.is.marked j).1 (onward graph a b j h ((B.is.marked j).0 m)))
    (unmarked_false B.marks b (λ m. none ((B.is.marked b).0 m)))
    ((A.is.marked b).1 (Seed b h)) in
    let p = A.number in
    let q = B.number in
    let s = count_is A.marks in
    let t = count_is B.marks in
    let u = count_by-le-length (λ x. x) A.marks in
    let v = A.is.size in
    omega arith

pub searched_rises : (graph : List (Vec ℕ)) (stages : List ℕ) → IsGraph graph → AreSearched graph (length graph) stages → Rises graph stages (length graph)
searched_rises graph stages G S a b lt h =
    let to = edge_to graph a b G h in
    falls graph a b (get_or stages a 0) (get_or stages b 0) (S.none b to) h (S.each a lt) (S.each b to)

pub searched_more : (graph : List (Vec ℕ)) (n x : ℕ) (stages : List ℕ) (marks : List Bool) → AreSearched graph n stages → IsReach graph (targets graph n) marks → x ≡ length graph - count_by (λ z. z) marks → (Leads graph n n → ⊥) → AreSearched graph (n + 1) (stages ++ x ∷ [])
searched_more graph n x stages marks S H is none = record {
  size = length-append stages (x ∷ []) ∙ ap (λ k. k + 1) S.size;
  each = λ j lt. elim (cases_lt j n) [
    | inl l ↦ subst (IsSearched graph j) (sym (get_or_append_left stages (x ∷ []) 0 j (let s = S.size in omega arith))) (S.each j l)
    | inr g ↦
        let e : j ≡ n = omega arith in
        let here : get_or (stages ++ x ∷ []) j 0 ≡ x = ap (λ k. get_or (stages ++ x ∷ []) k 0) (e ∙ sym S.size) ∙ get_or-append_seam stages x [] 0 in
        let c : IsSearched graph j x = record { marks = marks; is = subst (λ k. IsReach graph (targets graph k) marks) (sym e) H; number = is } in
        subst (IsSearched graph j) (sym here) c
  ];
  none = λ j lt l. elim (cases_lt j n) [
    | inl b ↦ S.none j b l
    | inr g ↦ let e : j ≡ n = omega arith in none (subst (λ k. Leads graph k k) e l)
  ];
}

pub not_led : (graph : List (Vec ℕ)) (n : ℕ) (marks : List Bool) (r : Bool) → IsReach graph (targets graph n) marks → n < length marks → r ≡ get_or marks n r → r ≡ false → Leads graph n n → ⊥
not_led graph n marks r H lt is f l =
    let k : r ≡ get_or marks n false = get_or_read marks n r lt is false in
    let t = (H.marked n).1 l in
    cc

pub led : (graph : List (Vec ℕ)) (n : ℕ) (marks : List Bool) (r : Bool) → IsReach graph (targets graph n) marks → n < length marks → r ≡ get_or marks n r → r ≡ true → Leads graph n n
led graph n marks r H lt is t =
    let k : r ≡ get_or marks n false = get_or_read marks n r lt is false in
    (H.marked n).0 (sym k ∙ t)
