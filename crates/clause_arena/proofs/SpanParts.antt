-- Parts of one list of literals, by spans in order.
use Rattle.std.proofs.Common.{◌≡◌, ℕ, suc, zero, ◌+◌, ◌-◌, ◌<◌, ◌≤◌, true, List, [], ◌∷◌, ◌++◌, length, take, drop, set, get_or, Option, Some, None, inl, inr, refl, sym, ap, ◌∙◌, subst, arith, length-append, length-drop, append_assoc, add-one, IsSomeAnd}
use Rattle.std.specs.Option.{is_some, ForSome}
use Rattle.std.specs.List.{slice_range, swap, copy_within}
use Rattle.std.proofs.lemmas.List.{drop-append-le, take-append-le, map-append, map-set, length-map, get_or_past, take-take, drop-drop, get_or-map, take-set-le, drop-set-lt, drop-set-add, length-take-le, take_at, drop_at, drop_more, take_more, take_more_set, take-append-drop, set_split}
use Rattle.std.proofs.lemmas.Bool.{cases_lt, false≢true}
use Rattle.std.proofs.Math.Seq.{drop-append_seam, take-length, take-set-lt}
use Rattle.std.proofs.Math.ListN.{length-set}
use Rattle.std.proofs.lemmas.Slice.{between_is}
use Rattle.std.proofs.lemmas.List.Edits.{length-between, get_or-between, swap_is, length-swap, take-paste, drop-paste}
use Rattle.std.proofs.lemmas.List.Sorted.{IsPermutation-swap}
use Rattle.std.proofs.lemmas.Map.Keys.{IsDistinct-IsPermutation}
use Rattle.clause_arena.specs.declared.Lit.{Lit}
use Rattle.clause_arena.specs.declared.arena.Span.{Span}
use Rattle.clause_arena.specs.Clause.{Clause, Clauses, clause_at, lit_eq, IsEachOnce, EachOnce}
use Rattle.clause_arena.specs.Spans.{part, parts, AreInOrder, IsTable}
use Rattle.clause_arena.proofs.Sets.{bool_iff, lit_eq-true, lit_eq-refl}
use Rattle.clause_arena.specs.Arena.{MOST_CLAUSES}

range-more : (lits more : List Lit) (i j : ℕ) → i ≤ j → j ≤ length lits → slice_range (lits ++ more) i j ≡ slice_range lits i j
range-more lits more i j h l =
    let a : i ≤ length lits = omega arith in
    let n : j - i ≤ length (drop i lits) = omega (arith, length-drop i lits) in
    ap (take (j - i)) (drop-append-le i lits more a) ∙ take-append-le (j - i) (drop i lits) more n

range-last : (lits more : List Lit) (m : ℕ) → m ≡ length lits + length more → slice_range (lits ++ more) (length lits) m ≡ more
range-last lits more m e =
    let n : m - length lits ≡ length more = omega arith in
    ap (take (m - length lits)) (drop-append_seam lits more) ∙ ap (λ (k : ℕ). take k more) n ∙ take-length more

pub order-le : (n m : ℕ) (spans : List (Option Span)) → AreInOrder n m spans → n ≤ m
order-le n m [] h = h
order-le n m (None ∷ spans) h = order-le n m spans h
order-le n m (Some s ∷ spans) h = let k = order-le s.to m spans h.2 in let a : n ≤ s.from = h.0 in let b : s.from ≤ s.to = h.1 in omega arith

pub order-more : (n m k : ℕ) (spans : List (Option Span)) → m ≤ k → AreInOrder n m spans → AreInOrder n k spans
order-more n m k [] l h = let a : n ≤ m = h in omega arith
order-more n m k (None ∷ spans) l h = order-more n m k spans l h
order-more n m k (Some s ∷ spans) l h = (h.0, h.1, order-more s.to m k spans l h.2)

order-push : (n m k : ℕ) (spans : List (Option Span)) (p : Span) → AreInOrder n m spans → m ≤ p.from → p.from ≤ p.to → p.to ≤ k → AreInOrder n k (spans ++ Some p ∷ [])
order-push n m k [] p h a b c = let d : n ≤ m = h in (omega arith, b, c)
order-push n m k (None ∷ spans) p h a b c = order-push n m k spans p h a b c
order-push n m k (Some s ∷ spans) p h a b c = (h.0, h.1, order-push s.to m k spans p h.2 a b c)

pub parts-more : (lits more : List Lit) (n : ℕ) (spans : List (Option Span)) → AreInOrder n (length lits) spans → parts (lits ++ more) spans ≡ parts lits spans
parts-more lits more n [] h = refl
parts-more lits more n (None ∷ spans) h = ap (λ (os : Clauses). None ∷ os) (parts-more lits more n spans h)
parts-more lits more n (Some s ∷ spans) h =
    let a : s.from ≤ s.to = h.1 in
    ap (λ (c : Clause). Some c ∷ parts (lits ++ more) spans) (range-more lits more s.from s.to a (order-le s.to (length lits) spans h.2))
    ∙ ap (λ (os : Clauses). Some (slice_range lits s.from s.to) ∷ os) (parts-more lits more s.to spans h.2)

-- the clauses once one was stored
pub parts-push : (lits more : List Lit) (spans : List (Option Span)) (from to : ℕ) → from ≡ length lits → to ≡ length lits + length more → AreInOrder 0 (length lits) spans → parts (lits ++ more) (spans ++ Some (record { from = from; to = to }) ∷ []) ≡ parts lits spans ++ Some more ∷ []
parts-push lits more spans from to f t h =
    let p : Span = record { from = from; to = to } in
    let r : slice_range (lits ++ more) from to ≡ more = ap (λ (k : ℕ). slice_range (lits ++ more) k to) f ∙ range-last lits more to t in
    map-append (part (lits ++ more)) spans (Some p ∷ [])
    ∙ ap (λ (os : Clauses). os ++ part (lits ++ more) (Some p) ∷ []) (parts-more lits more 0 spans h)
    ∙ ap (λ (c : Clause). parts lits spans ++ Some c ∷ []) r

None-Some : {X : Type 0} (x : X) → None ≡ Some x → ⊥
None-Some x e = cc

pub Some-is : {X : Type 0} (x y : X) → Some x ≡ Some y → x ≡ y
Some-is x y e = cc

each_once-push : (cs : Clauses) (c : Clause) → EachOnce cs → IsEachOnce c → EachOnce (cs ++ Some c ∷ [])
each_once-push [] c h e zero d q = subst IsEachOnce (Some-is c d q) e
each_once-push [] c h e (suc id) d q = absurd (None-Some d q)
each_once-push (x ∷ xs) c h e zero d q = h zero d q
each_once-push (x ∷ xs) c h e (suc id) d q = each_once-push xs c (λ k. h (suc k)) e id d q

pub each_once-set : (cs : Clauses) (i : ℕ) (o : Option Clause) → EachOnce cs → ForSome o IsEachOnce → EachOnce (set cs i o)
each_once-set [] i o h e id d q = absurd (None-Some d q)
each_once-set (x ∷ xs) zero o h e zero d q = e d q
each_once-set (x ∷ xs) zero o h e (suc id) d q = h (suc id) d q
each_once-set (x ∷ xs) (suc i) o h e zero d q = h zero d q
each_once-set (x ∷ xs) (suc i) o h e (suc id) d q = each_once-set xs i o (λ k. h (suc k)) e id d q

-- the table once a clause was stored
pub table-push : (lits more : List Lit) (spans : List (Option Span)) (from to : ℕ) → from ≡ length lits → to ≡ length lits + length more → length spans < MOST_CLAUSES → IsEachOnce more → IsTable lits spans → IsTable (lits ++ more) (spans ++ Some (record { from = from; to = to }) ∷ [])
table-push lits more spans from to f t room e h =
    let p : Span = record { from = from; to = to } in
    let all = length-append lits more in
    record {
      few = omega (arith, length-append spans (Some p ∷ []), room);
      in_order = order-push 0 (length lits) (length (lits ++ more)) spans p h.in_order (omega arith) (omega arith) (omega arith);
      each_once = subst EachOnce (sym (parts-push lits more spans from to f t h.in_order)) (each_once-push (parts lits spans) more h.each_once e);
    }

-- The same as the code has it: after is the list of literals, and longer the spans, once more is stored.
pub table-stored : (lits more after : List Lit) (spans longer : List (Option Span)) (from to : ℕ) → after ≡ lits ++ more → from ≡ length lits → to ≡ length after → longer ≡ spans ++ Some (record { from = from; to = to }) ∷ [] → length spans < MOST_CLAUSES → IsEachOnce more → IsTable lits spans → IsTable after longer × (parts after longer ≡ parts lits spans ++ Some more ∷ [])
table-stored lits more after spans longer from to e f t g room once h =
    let t' : to ≡ length lits + length more = t ∙ ap length e ∙ length-append lits more in
    let P : List Lit → List (Option Span) → Type 0 = λ x y. IsTable x y × (parts x y ≡ parts lits spans ++ Some more ∷ []) in
    subst (λ (x : List Lit). P x longer) (sym e)
    (subst (P (lits ++ more)) (sym g) (table-push lits more spans from to f t' room once h, parts-push lits more spans from to f t' h.in_order))

-- the span of an id
pub order-at : (n m : ℕ) (spans : List (Option Span)) (i : ℕ) (d : Option Span) (s : Span) → AreInOrder n m spans → i < length spans → get_or spans i d ≡ Some s → (s.from ≤ s.to) × (s.to ≤ m)
order-at n m [] i d s h l e = absurd (omega arith)
order-at n m (None ∷ spans) zero d s h l e = absurd (None-Some s e)
order-at n m (Some p ∷ spans) zero d s h l e = subst (λ (q : Span). (q.from ≤ q.to) × (q.to ≤ m)) (Some-is p s e) (h.1, order-le p.to m spans h.2)
order-at n m (None ∷ spans) (suc i) d s h l e = order-at n m spans i d s h (omega arith) e
order-at n m (Some p ∷ spans) (suc i) d s h l e = order-at p.to m spans i d s h.2 (omega arith) e

order-lower : (n k m : ℕ) (spans : List (Option Span)) → n ≤ k → AreInOrder k m spans → AreInOrder n m spans
order-lower n k m [] l h = let a : k ≤ m = h in omega arith
order-lower n k m (None ∷ spans) l h = order-lower n k m spans l h
order-lower n k m (Some s ∷ spans) l h = let a : k ≤ s.from = h.0 in (omega arith, h.1, h.2)

order-dead : (n m : ℕ) (spans : List (Option Span)) (i : ℕ) → AreInOrder n m spans → AreInOrder n m (set spans i None)
order-dead n m [] i h = h
order-dead n m (None ∷ spans) zero h = h
order-dead n m (Some s ∷ spans) zero h = let a : n ≤ s.from = h.0 in let b : s.from ≤ s.to = h.1 in order-lower n s.to m spans (omega arith) h.2
order-dead n m (None ∷ spans) (suc i) h = order-dead n m spans i h
order-dead n m (Some s ∷ spans) (suc i) h = (h.0, h.1, order-dead s.to m spans i h.2)

pub parts-dead : (lits : List Lit) (spans : List (Option Span)) (i : ℕ) → parts lits (set spans i None) ≡ set (parts lits spans) i None
parts-dead lits spans i = map-set (part lits) spans i None

-- the table once a clause was set dead
pub table-dead : (lits : List Lit) (spans : List (Option Span)) (i : ℕ) → IsTable lits spans → IsTable lits (set spans i None)
table-dead lits spans i h =
    record {
      few = let f : length spans < 4294967296 = h.few in let o : Option Span = None in let e = length-set spans i o in omega arith;
      in_order = order-dead 0 (length lits) spans i h.in_order;
      each_once = subst EachOnce (sym (parts-dead lits spans i)) (each_once-set (parts lits spans) i None h.each_once (λ d q. absurd (None-Some d q)));
    }

-- the ids that were given are those of the spans
pub count-parts : (lits : List Lit) (spans : List (Option Span)) → length (parts lits spans) ≡ length spans
count-parts lits spans = length-map spans (part lits)

pub live-span : (lits : List Lit) (spans : List (Option Span)) (i : ℕ) → is_some (clause_at (parts lits spans) i) ≡ true → i < length spans
live-span lits spans i h =
    elim (cases_lt i (length spans)) [
      | inl l ↦ l
      | inr l ↦ absurd (false≢true (sym (ap is_some (get_or_past (parts lits spans) i None (let e = count-parts lits spans in omega arith))) ∙ h))
    ]

-- the span of a live id lies in the list of literals
pub span-at : (lits : List Lit) (spans : List (Option Span)) (i : ℕ) (x : Option Span) (s : Span) (view : Clauses) → parts lits spans ≡ view → IsTable lits spans → x ≡ get_or spans i x → x ≡ Some s → is_some (clause_at view i) ≡ true → (s.from ≤ s.to) × (s.to ≤ length lits)
span-at lits spans i x s view v h e q l =
    order-at 0 (length lits) spans i x s h.in_order (live-span lits spans i (ap (λ (y : Clauses). is_some (clause_at y i)) v ∙ l)) (sym e ∙ q)

pub few-from_view : (lits : List Lit) (spans : List (Option Span)) (view : Clauses) (n : ℕ) → parts lits spans ≡ view → length view < n → length spans < n
few-from_view lits spans view n v h = omega (arith, count-parts lits spans, ap length v, h)

range-below : (l l' : List Lit) (a b m : ℕ) → b ≤ m → take m l' ≡ take m l → slice_range l' a b ≡ slice_range l a b
range-below l l' a b m h e =
    between_is l' a b
    ∙ ap (drop a) (sym (take-take b m l' h) ∙ ap (take b) e ∙ take-take b m l h)
    ∙ sym (between_is l a b)

range-above : (l l' : List Lit) (a b n : ℕ) → n ≤ a → drop n l' ≡ drop n l → slice_range l' a b ≡ slice_range l a b
range-above l l' a b n h e =
    let q : n + (a - n) ≡ a = omega arith in
    let at : (x : List Lit) → drop a x ≡ drop (a - n) (drop n x) = λ x. ap (λ (k : ℕ). drop k x) (sym q) ∙ sym (drop-drop (a - n) n x) in
    ap (take (b - a)) (at l' ∙ ap (drop (a - n)) e ∙ sym (at l))

-- the clauses that end by m stay, where the literals below m do
parts-below : (l l' : List Lit) (n m : ℕ) (spans : List (Option Span)) → AreInOrder n m spans → take m l' ≡ take m l → parts l' spans ≡ parts l spans
parts-below l l' n m [] h e = refl
parts-below l l' n m (None ∷ spans) h e = ap (λ (os : Clauses). None ∷ os) (parts-below l l' n m spans h e)
parts-below l l' n m (Some s ∷ spans) h e =
    ap (λ (c : Clause). Some c ∷ parts l' spans) (range-below l l' s.from s.to m (order-le s.to m spans h.2) e)
    ∙ ap (λ (os : Clauses). Some (slice_range l s.from s.to) ∷ os) (parts-below l l' s.to m spans h.2 e)

-- the clauses that begin from n on stay, where the literals from there on do
parts-above : (l l' : List Lit) (n m : ℕ) (spans : List (Option Span)) → AreInOrder n m spans → drop n l' ≡ drop n l → parts l' spans ≡ parts l spans
parts-above l l' n m [] h e = refl
parts-above l l' n m (None ∷ spans) h e = ap (λ (os : Clauses). None ∷ os) (parts-above l l' n m spans h e)
parts-above l l' n m (Some s ∷ spans) h e =
    let a : n ≤ s.from = h.0 in
    let b : s.from ≤ s.to = h.1 in
    ap (λ (c : Clause). Some c ∷ parts l' spans) (range-above l l' s.from s.to n a e)
    ∙ ap (λ (os : Clauses). Some (slice_range l s.from s.to) ∷ os) (parts-above l l' n m spans (order-lower n s.to m spans (omega arith) h.2) e)

order-from : (n m : ℕ) (spans : List (Option Span)) (i : ℕ) (d : Option Span) (s : Span) → AreInOrder n m spans → i < length spans → get_or spans i d ≡ Some s → n ≤ s.from
order-from n m [] i d s h l e = absurd (omega arith)
order-from n m (None ∷ spans) zero d s h l e = absurd (None-Some s e)
order-from n m (Some p ∷ spans) zero d s h l e = subst (λ (q : Span). n ≤ q.from) (Some-is p s e) h.0
order-from n m (None ∷ spans) (suc i) d s h l e = order-from n m spans i d s h (omega arith) e
order-from n m (Some p ∷ spans) (suc i) d s h l e =
    let a : n ≤ p.from = h.0 in
    let b : p.from ≤ p.to = h.1 in
    let k : p.to ≤ s.from = order-from p.to m spans i d s h.2 (omega arith) e in
    omega arith

-- the clauses once the literals of one clause were exchanged
pub parts-one : (l l' : List Lit) (n m : ℕ) (spans : List (Option Span)) (i : ℕ) (d : Option Span) (s : Span) (c : Clause) → AreInOrder n m spans → i < length spans → get_or spans i d ≡ Some s → take s.from l' ≡ take s.from l → drop s.to l' ≡ drop s.to l → slice_range l' s.from s.to ≡ c → parts l' spans ≡ set (parts l spans) i (Some c)
parts-one l l' n m [] i d s c h k e below above inside = absurd (omega arith)
parts-one l l' n m (None ∷ spans) zero d s c h k e below above inside = absurd (None-Some s e)
parts-one l l' n m (Some p ∷ spans) zero d s c h k e below above inside =
    let q : p ≡ s = Some-is p s e in
    ap (λ (r : Span). Some (slice_range l' r.from r.to) ∷ parts l' spans) q
    ∙ ap (λ (x : Clause). Some x ∷ parts l' spans) inside
    ∙ ap (λ (os : Clauses). Some c ∷ os) (parts-above l l' p.to m spans h.2 (subst (λ (r : Span). drop r.to l' ≡ drop r.to l) (sym q) above))
parts-one l l' n m (None ∷ spans) (suc i) d s c h k e below above inside =
    ap (λ (os : Clauses). None ∷ os) (parts-one l l' n m spans i d s c h (omega arith) e below above inside)
parts-one l l' n m (Some p ∷ spans) (suc i) d s c h k e below above inside =
    ap (λ (x : Clause). Some x ∷ parts l' spans) (range-below l l' p.from p.to s.from (order-from p.to m spans i d s h.2 (omega arith) e) below)
    ∙ ap (λ (os : Clauses). Some (slice_range l p.from p.to) ∷ os) (parts-one l l' p.to m spans i d s c h.2 (omega arith) e below above inside)

-- the clause of a live id is the part at its span
pub clause-of : (lits : List Lit) (spans : List (Option Span)) (i : ℕ) (x : Option Span) (s : Span) (view : Clauses) → parts lits spans ≡ view → i < length spans → x ≡ get_or spans i x → x ≡ Some s → clause_at view i ≡ Some (slice_range lits s.from s.to)
clause-of lits spans i x s view v k e q =
    ap (λ (y : Clauses). clause_at y i) (sym v)
    ∙ get_or-map (part lits) spans i x None k
    ∙ ap (part lits) (sym e ∙ q)

-- what an exchange of two literals of one span leaves
swap-outside : (l : List Lit) (from to i j : ℕ) → to ≤ length l → from + i < to → from + j < to → (take from (swap l (from + i) (from + j)) ≡ take from l) × (drop to (swap l (from + i) (from + j)) ≡ drop to l)
swap-outside [] from to i j t a b = absurd (omega arith)
swap-outside (d ∷ ys) from to i j t a b =
    let l : List Lit = d ∷ ys in
    let x = get_or l (from + j) d in
    let y = get_or l (from + i) d in (
      take-set-le from (set l (from + i) x) (from + j) y (omega arith) ∙ take-set-le from l (from + i) x (omega arith),
      drop-set-lt to (set l (from + i) x) (from + j) y b ∙ drop-set-lt to l (from + i) x a,
    )

swap-inside : (l : List Lit) (from to i j : ℕ) → to ≤ length l → from + i < to → from + j < to → slice_range (swap l (from + i) (from + j)) from to ≡ swap (slice_range l from to) i j
swap-inside [] from to i j t a b = absurd (omega arith)
swap-inside (d ∷ ys) from to i j t a b =
    let l : List Lit = d ∷ ys in
    let m : ℕ = to - from in
    let x = get_or l (from + j) d in
    let y = get_or l (from + i) d in
    let c : List Lit = slice_range l from to in
    let n : length c ≡ to - from = length-between l from to t in
    let xc : get_or c j d ≡ x = get_or-between l from to j d b in
    let yc : get_or c i d ≡ y = get_or-between l from to i d a in
    ap (take m) (drop-set-add from (set l (from + i) x) j y ∙ ap (λ (k : List Lit). set k j y) (drop-set-add from l i x))
    ∙ take-set-lt m (set (drop from l) i x) j y (omega arith)
    ∙ ap (λ (k : List Lit). set k j y) (take-set-lt m (drop from l) i x (omega arith))
    ∙ ap (λ (z : Lit). set (set c i z) j y) (sym xc)
    ∙ ap (λ (z : Lit). set (set c i (get_or c j d)) j z) (sym yc)
    ∙ swap_is c i j d (omega arith) (omega arith)

lit_eq-flips : (a b : Lit) → lit_eq a b ≡ lit_eq b a
lit_eq-flips a b = bool_iff (lit_eq a b) (lit_eq b a) (λ h. subst (λ (x : Lit). lit_eq x a ≡ true) (lit_eq-true a b h) (lit_eq-refl a)) (λ h. subst (λ (x : Lit). lit_eq x b ≡ true) (lit_eq-true b a h) (lit_eq-refl b))

each_once-swap : (c : Clause) (i j : ℕ) → i < length c → j < length c → IsEachOnce c → IsEachOnce (swap c i j)
each_once-swap c i j a b h = IsDistinct-IsPermutation lit_eq lit_eq-flips c (swap c i j) (IsPermutation-swap c (swap c i j) i j a b refl) h

-- the clauses once two places of one of them were exchanged, and the table
pub parts-swap : (l : List Lit) (spans : List (Option Span)) (id : ℕ) (x : Option Span) (s : Span) (i j : ℕ) → IsTable l spans → id < length spans → x ≡ get_or spans id x → x ≡ Some s → s.from + i < s.to → s.from + j < s.to → parts (swap l (s.from + i) (s.from + j)) spans ≡ set (parts l spans) id (Some (swap (slice_range l s.from s.to) i j))
parts-swap l spans id x s i j h k e q a b =
    let w = order-at 0 (length l) spans id x s h.in_order k (sym e ∙ q) in
    let o = swap-outside l s.from s.to i j w.1 a b in
    parts-one l (swap l (s.from + i) (s.from + j)) 0 (length l) spans id x s (swap (slice_range l s.from s.to) i j) h.in_order k (sym e ∙ q) o.0 o.1 (swap-inside l s.from s.to i j w.1 a b)

pub table-swap : (l : List Lit) (spans : List (Option Span)) (id : ℕ) (x : Option Span) (s : Span) (i j : ℕ) → IsTable l spans → id < length spans → x ≡ get_or spans id x → x ≡ Some s → s.from + i < s.to → s.from + j < s.to → IsTable (swap l (s.from + i) (s.from + j)) spans
table-swap l spans id x s i j h k e q a b =
    let w = order-at 0 (length l) spans id x s h.in_order k (sym e ∙ q) in
    let c : Clause = slice_range l s.from s.to in
    let n : length c ≡ s.to - s.from = length-between l s.from s.to w.1 in
    let once : IsEachOnce c = h.each_once id c (clause-of l spans id x s (parts l spans) refl k e q) in
    record {
      few = h.few;
      in_order = subst (λ (m : ℕ). AreInOrder 0 m spans) (sym (length-swap l (s.from + i) (s.from + j))) h.in_order;
      each_once =
          subst EachOnce (sym (parts-swap l spans id x s i j h k e q a b))
          (each_once-set (parts l spans) id (Some (swap c i j)) h.each_once
          (λ d r. subst IsEachOnce (Some-is (swap c i j) d r) (each_once-swap c i j (omega arith) (omega arith) once)));
    }

-- what a clause that moves down leaves
pub moved-below : (l : List Lit) (from to at : ℕ) → from ≤ to → to ≤ length l → at ≤ from → take at (copy_within l from to at) ≡ take at l
moved-below l from to at a b c =
    let n : length (take at l) ≡ at = length-take-le at l (omega arith) in
    ap (take at) (append_assoc (take at l) (take (to - from) (drop from l)) (drop (at + (to - from)) l))
    ∙ take_at (take at l) (take (to - from) (drop from l) ++ drop (at + (to - from)) l) at n

pub moved-inside : (l : List Lit) (from to at : ℕ) → from ≤ to → to ≤ length l → at ≤ from → slice_range (copy_within l from to at) at (at + (to - from)) ≡ slice_range l from to
moved-inside l from to at a b c =
    let n : length (take at l) ≡ at = length-take-le at l (omega arith) in
    let k : to - from ≤ length (drop from l) = omega (arith, length-drop from l) in
    between_is (copy_within l from to at) at (at + (to - from))
    ∙ ap (drop at) (take-paste l at (drop from l) (to - from) (omega arith) k)
    ∙ drop_at (take at l) (take (to - from) (drop from l)) at n

pub moved-above : (l : List Lit) (from to at : ℕ) → from ≤ to → to ≤ length l → at ≤ from → drop to (copy_within l from to at) ≡ drop to l
moved-above l from to at a b c =
    let k : to - from ≤ length (drop from l) = omega (arith, length-drop from l) in
    let m : ℕ = at + (to - from) in
    let q : m + (to - m) ≡ to = omega arith in
    let split : (x : List Lit) → drop to x ≡ drop (to - m) (drop m x) = λ x. ap (λ (k : ℕ). drop k x) (sym q) ∙ sym (drop-drop (to - m) m x) in
    split (copy_within l from to at) ∙ ap (drop (to - m)) (drop-paste l at (drop from l) (to - from) (omega arith) k) ∙ sym (split l)

and-some : (o : Option Clause) (P : Clause → Type 0) (c : Clause) → o ≡ Some c → IsSomeAnd o P → P c
and-some o P c e h = subst (λ (x : Option Clause). IsSomeAnd x P) e h

is_some-and : (o : Option Clause) (P : Clause → Type 0) → IsSomeAnd o P → is_some o ≡ true
is_some-and None P h = absurd h
is_some-and (Some c) P h = refl

-- two places of a live clause are within its span
pub places-within : (l : List Lit) (spans : List (Option Span)) (id : ℕ) (x : Option Span) (s : Span) (view : Clauses) (i j : ℕ) → parts l spans ≡ view → IsTable l spans → x ≡ get_or spans id x → x ≡ Some s → IsSomeAnd (clause_at view id) (λ c. (i < length c) × (j < length c)) → (id < length spans) × (s.from + i < s.to) × (s.from + j < s.to)
places-within l spans id x s view i j v h e q r =
    let live : is_some (clause_at (parts l spans) id) ≡ true = ap (λ (y : Clauses). is_some (clause_at y id)) v ∙ is_some-and (clause_at view id) (λ c. (i < length c) × (j < length c)) r in
    let k : id < length spans = live-span l spans id live in
    let w = order-at 0 (length l) spans id x s h.in_order k (sym e ∙ q) in
    let c : Clause = slice_range l s.from s.to in
    let n : length c ≡ s.to - s.from = length-between l s.from s.to w.1 in
    let m = and-some (clause_at view id) (λ d. (i < length d) × (j < length d)) c (clause-of l spans id x s view v k e q) r in
    (k, omega arith, omega arith)

order-none : (n m : ℕ) (spans : List (Option Span)) → AreInOrder n m spans → AreInOrder n m (spans ++ None ∷ [])
order-none n m [] h = h
order-none n m (None ∷ spans) h = order-none n m spans h
order-none n m (Some s ∷ spans) h = (h.0, h.1, order-none s.to m spans h.2)

-- the spans so far stand in order below end, and the others from end on
pub record AreSplit (l : List Lit) (spans : List (Option Span)) (i end : ℕ) : Type 0 where
  pub done : AreInOrder 0 end (take i spans)
  pub rest : AreInOrder end (length l) (drop i spans)

rest-at : (l : List Lit) (spans : List (Option Span)) (i end : ℕ) (x : Option Span) → i < length spans → get_or spans i None ≡ x → AreInOrder end (length l) (drop i spans) → AreInOrder end (length l) (x ∷ drop (i + 1) spans)
rest-at l spans i end x k e h =
    subst (λ (o : Option Span). AreInOrder end (length l) (o ∷ drop (i + 1) spans)) e (subst (AreInOrder end (length l)) (drop_more spans i None k) h)

-- the next clause lies from end on
pub next-within : (l : List Lit) (spans : List (Option Span)) (i end : ℕ) (s : Span) → i < length spans → get_or spans i None ≡ Some s → AreInOrder end (length l) (drop i spans) → (end ≤ s.from) × (s.from ≤ s.to) × AreInOrder s.to (length l) (drop (i + 1) spans)
next-within l spans i end s k e h = rest-at l spans i end (Some s) k e h

-- a dead id is passed over
pub split-dead : (l : List Lit) (spans : List (Option Span)) (i end : ℕ) → i < length spans → get_or spans i None ≡ None → AreSplit l spans i end → AreSplit l spans (i + 1) end
split-dead l spans i end k e h =
    record {
      done = subst (AreInOrder 0 end) (sym (take_more spans i None k ∙ ap (λ (o : Option Span). take i spans ++ o ∷ []) e)) (order-none 0 end (take i spans) h.done);
      rest = rest-at l spans i end None k e h.rest;
    }

-- a live clause is moved down to end
pub split-moved : (l l' : List Lit) (spans : List (Option Span)) (i end : ℕ) (s m : Span) → i < length spans → get_or spans i None ≡ Some s → m.from ≡ end → m.to ≡ end + (s.to - s.from) → length l' ≡ length l → AreSplit l spans i end → AreSplit l' (set spans i (Some m)) (i + 1) m.to
split-moved l l' spans i end s m k e f t n h =
    let w = next-within l spans i end s k e h.rest in
    let a : end ≤ s.from = w.0 in
    let b : s.from ≤ s.to = w.1 in
    record {
      done = subst (AreInOrder 0 m.to) (sym (take_more_set spans i (Some m) k)) (order-push 0 end m.to (take i spans) m h.done (omega arith) (omega arith) (omega arith));
      rest =
          subst (λ (z : ℕ). AreInOrder m.to z (drop (i + 1) (set spans i (Some m)))) (sym n)
          (subst (AreInOrder m.to (length l)) (sym (drop-set-lt (i + 1) spans i (Some m) (omega arith)))
          (order-lower m.to s.to (length l) (drop (i + 1) spans) (omega arith) w.2));
    }

-- and each id keeps its clause
pub parts-moved : (l l' : List Lit) (spans : List (Option Span)) (i end : ℕ) (s m : Span) → i < length spans → get_or spans i None ≡ Some s → slice_range l' m.from m.to ≡ slice_range l s.from s.to → take end l' ≡ take end l → drop s.to l' ≡ drop s.to l → AreSplit l spans i end → parts l' (set spans i (Some m)) ≡ parts l spans
parts-moved l l' spans i end s m k e moved below above h =
    let w = next-within l spans i end s k e h.rest in
    let front : List (Option Span) = take i spans in
    let back : List (Option Span) = drop (i + 1) spans in
    let whole : spans ≡ front ++ Some s ∷ back =
    sym (take-append-drop i spans) ∙ ap (λ (r : List (Option Span)). front ++ r) (drop_more spans i None k) ∙ ap (λ (o : Option Span). front ++ o ∷ back) e
    in
    let new : set spans i (Some m) ≡ front ++ Some m ∷ back =
    set_split spans i (Some m) k ∙ ap (λ (z : ℕ). front ++ Some m ∷ drop z spans) (sym (add-one i))
    in
    ap (parts l') new
    ∙ map-append (part l') front (Some m ∷ back)
    ∙ ap (λ (os : Clauses). os ++ part l' (Some m) ∷ parts l' back) (parts-below l l' 0 end front h.done below)
    ∙ ap (λ (c : Clause). parts l front ++ Some c ∷ parts l' back) moved
    ∙ ap (λ (os : Clauses). parts l front ++ part l (Some s) ∷ os) (parts-above l l' s.to (length l) back w.2 above)
    ∙ sym (ap (parts l) whole ∙ map-append (part l) front (Some s ∷ back))

-- once all clauses stand without a gap, what follows can be cut off
pub parts-cut : (l : List Lit) (spans : List (Option Span)) (end : ℕ) → AreInOrder 0 end spans → end ≤ length l → parts (take end l) spans ≡ parts l spans
parts-cut l spans end h b = parts-below l (take end l) 0 end spans h (take-take end end l (omega arith))

pub table-cut : (l l' : List Lit) (spans spans' : List (Option Span)) (end : ℕ) → IsTable l spans → parts l' spans' ≡ parts l spans → AreInOrder 0 end spans' → end ≤ length l' → IsTable (take end l') spans'
table-cut l l' spans spans' end h same order b =
    let n = ap length same in
    let few : length spans' < 4294967296 = let f : length spans < 4294967296 = h.few in omega (arith, count-parts l spans, count-parts l' spans') in
    record {
      few = few;
      in_order = subst (λ (m : ℕ). AreInOrder 0 m spans') (sym (length-take-le end l' b)) order;
      each_once = subst EachOnce (sym (parts-cut l' spans' end order b ∙ same)) h.each_once;
    }
