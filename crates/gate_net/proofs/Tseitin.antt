-- The clauses of a net hold exactly of its values.
use Rattle.std.proofs.Common.{◌≡◌, ◌≢◌, ℕ, suc, zero, ◌+◌, ◌*◌, ◌<◌, ◌≤◌, Bool, true, false, not, ◌&&◌, ◌||◌, ◌↔◌, ltb, List, [], ◌∷◌, ◌++◌, length, take, get_or, Some, None, Result, Ok, Err, OnOk, refl, sym, ap, ◌∙◌, subst, arith, length-append}
use Rattle.std.specs.List.{IsDistinct, slice_get}
use Rattle.std.specs.Option.{ForSome}
use Rattle.std.proofs.lemmas.Bool.{and_parts, and_from, ne_eqb, lt-ltb}
use Rattle.std.proofs.lemmas.List.{append_assoc, append-nil, length-take, length-take-le, take_more, take_all}
use Rattle.clause_arena.specs.declared.Lit.{Lit}
use Rattle.clause_arena.specs.Clause.{Clause, Clauses, lit, opposite, bool_eq, satisfies, EachClause, IsModel, IsEachVariableOnce}
use Rattle.clause_arena.proofs.Sets.{bool_eq-true, bool_eq-refl}
use Rattle.clause_arena.proofs.Each.{EachClause-none, EachClause-cons, EachClause-append, EachClause-left, EachClause-right}
use Rattle.gate_net.specs.declared.net.Edge.{Edge}
use Rattle.gate_net.specs.declared.net.Gate.{Gate}
use Rattle.gate_net.specs.declared.net.Node.{Node}
use Rattle.gate_net.specs.declared.net.Node.TheVariants.{One, Input, And}
use Rattle.gate_net.specs.Edge.{edge_value}
use Rattle.gate_net.specs.Net.{NodeHolds, IsValuation, IsPlaced}
use Rattle.gate_net.specs.Clauses.{lit_of, node_clauses, Fits}
use Rattle.clause_arena.specs.Arena.{MOST_CLAUSES}

pub once-one : (x : Lit) → IsEachVariableOnce (x ∷ [])
unfolding IsDistinct
once-one x = (tt, tt)

pub once-two : (x y : Lit) → x.var ≢ y.var → IsEachVariableOnce (x ∷ y ∷ [])
unfolding IsDistinct
once-two x y n = ((ne_eqb _ _ n, tt), (tt, tt))

pub once-three : (x y z : Lit) → x.var ≢ y.var → x.var ≢ z.var → y.var ≢ z.var → IsEachVariableOnce (x ∷ y ∷ z ∷ [])
unfolding IsDistinct
once-three x y z n m k = ((ne_eqb _ _ n, (ne_eqb _ _ m, tt)), ((ne_eqb _ _ k, tt), (tt, tt)))

-- the clauses of all nodes, from number n on
abbrev pub clauses_from : ℕ → List Node → Clauses
clauses_from n [] = []
clauses_from n (x ∷ xs) = node_clauses n x ++ clauses_from (suc n) xs

pub clauses_from-push : (n : ℕ) (xs : List Node) (x : Node) (i : ℕ) → i ≡ n + length xs → clauses_from n (xs ++ x ∷ []) ≡ clauses_from n xs ++ node_clauses i x
clauses_from-push n [] x i e = append-nil (node_clauses n x) ∙ ap (λ (k : ℕ). node_clauses k x) (let f : n ≡ i = omega arith in f)
clauses_from-push n (y ∷ ys) x i e =
    ap (λ (cs : Clauses). node_clauses n y ++ cs) (clauses_from-push (suc n) ys x i (omega arith))
    ∙ sym (append_assoc (node_clauses n y) (clauses_from (suc n) ys) (node_clauses i x))

length-node_clauses : (i : ℕ) (x : Node) → length (node_clauses i x) ≤ 3
length-node_clauses i One = omega arith
length-node_clauses i Input = omega arith
length-node_clauses i (And g) = omega arith

pub length-clauses_from : (n : ℕ) (xs : List Node) → length (clauses_from n xs) ≤ 3 * length xs
length-clauses_from n [] = omega arith
length-clauses_from n (x ∷ xs) =
    omega (arith, length-append (node_clauses n x) (clauses_from (suc n) xs), length-node_clauses n x, length-clauses_from (suc n) xs)

-- what the three clauses of a gate say
table : (p u v : Bool) → (((bool_eq p false || (u || false)) && (bool_eq p false || (v || false))) && (bool_eq p true || (not u || (not v || false)))) ≡ bool_eq p (u && v)
table true true true = refl
table true true false = refl
table true false true = refl
table true false false = refl
table false true true = refl
table false true false = refl
table false false true = refl
table false false false = refl

flip : (x n : Bool) → bool_eq x (not (not n)) ≡ not (bool_eq x (not n))
flip true true = refl
flip true false = refl
flip false true = refl
flip false false = refl

gate-clauses : (a : ℕ → Bool) (i : ℕ) (g : Gate) → ((satisfies a (lit true i ∷ lit_of g.left ∷ []) && satisfies a (lit true i ∷ lit_of g.right ∷ [])) && satisfies a (lit false i ∷ opposite (lit_of g.left) ∷ opposite (lit_of g.right) ∷ [])) ≡ bool_eq (a i) (edge_value a g.left && edge_value a g.right)
gate-clauses a i g = rw (flip (a g.left.node) g.left.negated, flip (a g.right.node) g.right.negated) (table (a i) (edge_value a g.left) (edge_value a g.right))

Some-is : (c d : Clause) → Some c ≡ Some d → c ≡ d
Some-is c d e = cc

unit-holds : (b : Bool) → b ≡ true → (b || false) ≡ true
unit-holds true h = refl
unit-holds false h = h

unit-value : (b : Bool) → (b || false) ≡ true → b ≡ true
unit-value true h = refl
unit-value false h = h

same-value : (b : Bool) → bool_eq b true ≡ b
same-value true = refl
same-value false = refl

some : (P : Clause → Type 0) (c : Clause) → P c → ForSome (Some c) P
some P c h d e = subst P (Some-is c d e) h

each-one : (P : Clause → Type 0) (c : Clause) → P c → EachClause P (Some c ∷ [])
each-one P c h = EachClause-cons P (Some c) [] (some P c h) (EachClause-none P)

each-three : (P : Clause → Type 0) (c d e : Clause) → P c → P d → P e → EachClause P (Some c ∷ Some d ∷ Some e ∷ [])
each-three P c d e h k l = EachClause-cons P (Some c) (Some d ∷ Some e ∷ []) (some P c h) (EachClause-cons P (Some d) (Some e ∷ []) (some P d k) (each-one P e l))

node-from : (a : ℕ → Bool) (i : ℕ) (x : Node) → IsModel a (node_clauses i x) → NodeHolds a i x
node-from a i One h = sym (same-value (a i)) ∙ unit-value (bool_eq (a i) true) (h zero (lit false i ∷ []) refl)
node-from a i Input h = tt
node-from a i (And g) h =
    let c = h zero (lit true i ∷ lit_of g.left ∷ []) refl in
    let d = h (suc zero) (lit true i ∷ lit_of g.right ∷ []) refl in
    let e = h (suc (suc zero)) (lit false i ∷ opposite (lit_of g.left) ∷ opposite (lit_of g.right) ∷ []) refl in
    bool_eq-true _ _ (sym (gate-clauses a i g) ∙ and_from _ _ (and_from _ _ c d) e)

node-to : (a : ℕ → Bool) (i : ℕ) (x : Node) → NodeHolds a i x → IsModel a (node_clauses i x)
node-to a i One h = each-one (λ c. satisfies a c ≡ true) (lit false i ∷ []) (unit-holds (bool_eq (a i) true) (same-value (a i) ∙ h))
node-to a i Input h = EachClause-none (λ c. satisfies a c ≡ true)
node-to a i (And g) h =
    let all : bool_eq (a i) (edge_value a g.left && edge_value a g.right) ≡ true = subst (λ (b : Bool). bool_eq (a i) b ≡ true) h (bool_eq-refl (a i)) in
    let w = and_parts _ _ (gate-clauses a i g ∙ all) in
    let v = and_parts _ _ w.0 in
    each-three (λ c. satisfies a c ≡ true) (lit true i ∷ lit_of g.left ∷ []) (lit true i ∷ lit_of g.right ∷ [])
    (lit false i ∷ opposite (lit_of g.left) ∷ opposite (lit_of g.right) ∷ []) v.0 v.1 w.1

None-Some : (x : Node) → None ≡ Some x → ⊥
None-Some x e = cc

node-is : (x y : Node) → Some x ≡ Some y → x ≡ y
node-is x y e = cc

pub values-from : (a : ℕ → Bool) (n : ℕ) (xs : List Node) → IsModel a (clauses_from n xs) → (i : ℕ) → ForSome (slice_get xs i) (NodeHolds a (n + i))
values-from a n [] h i x e = absurd (None-Some x e)
values-from a n (y ∷ ys) h zero x e =
    let at : NodeHolds a n y = node-from a n y (EachClause-left (λ c. satisfies a c ≡ true) (node_clauses n y) (clauses_from (suc n) ys) h) in
    let k : n ≡ n + 0 = omega arith in
    subst (λ (m : ℕ). NodeHolds a m x) k (subst (NodeHolds a n) (node-is y x e) at)
values-from a n (y ∷ ys) h (suc i) x e =
    let k : suc n + i ≡ n + suc i = omega arith in
    subst (λ (m : ℕ). NodeHolds a m x) k (values-from a (suc n) ys (EachClause-right (λ c. satisfies a c ≡ true) (node_clauses n y) (clauses_from (suc n) ys) h) i x e)

pub values-to : (a : ℕ → Bool) (n : ℕ) (xs : List Node) → ((i : ℕ) → ForSome (slice_get xs i) (NodeHolds a (n + i))) → IsModel a (clauses_from n xs)
values-to a n [] h = EachClause-none (λ c. satisfies a c ≡ true)
values-to a n (y ∷ ys) h =
    let k : n + 0 ≡ n = omega arith in
    EachClause-append (λ c. satisfies a c ≡ true) (node_clauses n y) (clauses_from (suc n) ys)
    (node-to a n y (subst (λ (m : ℕ). NodeHolds a m y) k (h zero y refl)))
    (values-to a (suc n) ys (λ i x e. let k : n + suc i ≡ suc n + i = omega arith in subst (λ (m : ℕ). NodeHolds a m x) k (h (suc i) x e)))

node-fits : (m n : ℕ) (x : Node) → n < m → IsPlaced n x → EachClause (Fits m) (node_clauses n x)
node-fits m n One l h = each-one (Fits m) (lit false n ∷ []) (once-one (lit false n), and_from _ _ (lt-ltb n m l) refl)
node-fits m n Input l h = EachClause-none (Fits m)
node-fits m n (And g) l h =
    let a : g.left.node < n = h.0 in
    let b : g.right.node < n = h.1 in
    let na : n ≢ g.left.node = omega arith in
    let nb : n ≢ g.right.node = omega arith in
    let bn = lt-ltb n m l in
    let bl : ltb g.left.node m ≡ true = lt-ltb g.left.node m (omega arith) in
    let br : ltb g.right.node m ≡ true = lt-ltb g.right.node m (omega arith) in
    each-three (Fits m) (lit true n ∷ lit_of g.left ∷ []) (lit true n ∷ lit_of g.right ∷ []) (lit false n ∷ opposite (lit_of g.left) ∷ opposite (lit_of g.right) ∷ [])
    (once-two (lit true n) (lit_of g.left) na, and_from _ _ bn (and_from _ _ bl refl))
    (once-two (lit true n) (lit_of g.right) nb, and_from _ _ bn (and_from _ _ br refl))
    (once-three (lit false n) (opposite (lit_of g.left)) (opposite (lit_of g.right)) na nb h.2, and_from _ _ bn (and_from _ _ bl (and_from _ _ br refl)))

pub clauses-fit : (m n : ℕ) (xs : List Node) → n + length xs ≤ m → ((i : ℕ) → ForSome (slice_get xs i) (IsPlaced (n + i))) → EachClause (Fits m) (clauses_from n xs)
clauses-fit m n [] l h = EachClause-none (Fits m)
clauses-fit m n (y ∷ ys) l h =
    let k : n + 0 ≡ n = omega arith in
    EachClause-append (Fits m) (node_clauses n y) (clauses_from (suc n) ys)
    (node-fits m n y (omega arith) (subst (λ (j : ℕ). IsPlaced j y) k (h zero y refl)))
    (clauses-fit m (suc n) ys (omega arith) (λ i x e. let k : n + suc i ≡ suc n + i = omega arith in subst (λ (j : ℕ). IsPlaced j x) k (h (suc i) x e)))

-- the literals of two nodes, one below the other, as the code makes them
pub once-lits : (at : ℕ) (x y : Lit) (e : Edge) → x.var ≡ at → y ≡ lit_of e → e.node < at → IsEachVariableOnce (x ∷ y ∷ [])
once-lits at x y e p q l = let v : y.var ≡ e.node = ap (λ (z : Lit). z.var) q in let n : x.var ≢ y.var = omega arith in once-two x y n

pub once-three_lits : (at j k : ℕ) (x y z : Lit) → x.var ≡ at → y.var ≡ j → z.var ≡ k → j < at → k < at → j ≢ k → IsEachVariableOnce (x ∷ y ∷ z ∷ [])
once-three_lits at j k x y z p q r l m d =
    let a : x.var ≢ y.var = omega arith in
    let b : x.var ≢ z.var = omega arith in
    let c : y.var ≢ z.var = λ h. d (sym q ∙ h ∙ r) in
    once-three x y z a b c

-- the clauses of the whole net, and that of the root
pub models-of_net : (net : List Node) (root : Edge) (cs : Clauses) → cs ≡ clauses_from 0 net ++ Some (lit_of root ∷ []) ∷ [] → (a : ℕ → Bool) → IsModel a cs ↔ (IsValuation net a × (edge_value a root ≡ true))
models-of_net net root cs e a =
    let P : Clause → Type 0 = λ c. satisfies a c ≡ true in
    let front = clauses_from 0 net in
    let last : Clauses = Some (lit_of root ∷ []) ∷ [] in (
      λ h.
          let m : IsModel a (front ++ last) = subst (IsModel a) e h in (
            λ i x q. let k : 0 + i ≡ i = omega arith in subst (λ (j : ℕ). NodeHolds a j x) k (values-from a 0 net (EachClause-left P front last m) i x q),
            unit-value (edge_value a root) (EachClause-right P front last m zero (lit_of root ∷ []) refl),
          ),
      λ h.
          subst (IsModel a) (sym e)
          (EachClause-append P front last (values-to a 0 net (λ i x q. let k : i ≡ 0 + i = omega arith in subst (λ (j : ℕ). NodeHolds a j x) k (h.0 i x q)))
          (each-one P (lit_of root ∷ []) (unit-holds (edge_value a root) h.1))),
    )

pub clauses_of_net-fit : (net : List Node) (root : Edge) (cs : Clauses) → cs ≡ clauses_from 0 net ++ Some (lit_of root ∷ []) ∷ [] → ((i : ℕ) → ForSome (slice_get net i) (IsPlaced i)) → root.node < length net → EachClause (Fits (length net)) cs
clauses_of_net-fit net root cs e placed l =
    let m = length net in
    subst (EachClause (Fits m)) (sym e)
    (EachClause-append (Fits m) (clauses_from 0 net) (Some (lit_of root ∷ []) ∷ [])
    (clauses-fit m 0 net (omega arith) (λ i x q. let k : i ≡ 0 + i = omega arith in subst (λ (j : ℕ). IsPlaced j x) k (placed i x q)))
    (each-one (Fits m) (lit_of root ∷ []) (once-one (lit_of root), and_from _ _ (lt-ltb root.node m l) refl)))

-- the constant has one clause, so that there is room for that of the root
pub count-of_net : (net : List Node) (root : Edge) (cs : Clauses) → cs ≡ clauses_from 0 net ++ Some (lit_of root ∷ []) ∷ [] → slice_get net 0 ≡ Some One → length cs ≤ 3 * length net
count-of_net [] root cs e h = absurd (None-Some One h)
count-of_net (x ∷ xs) root cs e h =
    let first : length (node_clauses 0 x) ≡ 1 = ap (λ (n : Node). length (node_clauses 0 n)) (node-is x One h) in
    omega (arith, ap length e, length-append (clauses_from 0 (x ∷ xs)) (Some (lit_of root ∷ []) ∷ []), length-append (node_clauses 0 x) (clauses_from 1 xs), first, length-clauses_from 1 xs)

-- there is room for the clauses of one more node
pub room-of_net : (net : List Node) (i : ℕ) (cs : Clauses) → cs ≡ clauses_from 0 (take i net) → length net ≤ 1073741824 → length cs + 3 ≤ MOST_CLAUSES
room-of_net net i cs e l = omega (arith, ap length e, length-clauses_from 0 (take i net), length-take i net)

-- the clauses once those of one more node are there
pub clauses-step : (net : List Node) (i : ℕ) (d : Node) (cs new : Clauses) → i < length net → cs ≡ clauses_from 0 (take i net) → new ≡ cs ++ node_clauses i (get_or net i d) → new ≡ clauses_from 0 (take (i + 1) net)
clauses-step net i d cs new l e f =
    let n : i ≡ 0 + length (take i net) = let k = length-take-le i net (omega arith) in omega arith in
    f
    ∙ ap (λ (x : Clauses). x ++ node_clauses i (get_or net i d)) e
    ∙ sym (clauses_from-push 0 (take i net) (get_or net i d) i n)
    ∙ ap (clauses_from 0) (sym (take_more net i d l))

-- and once that of the root is
pub clauses-end : (net : List Node) (i : ℕ) (root : Edge) (l : Lit) (cs new : Clauses) → length net ≤ i → cs ≡ clauses_from 0 (take i net) → l ≡ lit_of root → new ≡ cs ++ Some (l ∷ []) ∷ [] → new ≡ clauses_from 0 net ++ Some (lit_of root ∷ []) ∷ []
clauses-end net i root l cs new b e q f =
    f
    ∙ ap (λ (x : Clauses). x ++ Some (l ∷ []) ∷ []) (e ∙ ap (clauses_from 0) (take_all i net b))
    ∙ ap (λ (x : Lit). clauses_from 0 net ++ Some (x ∷ []) ∷ []) q

pub on-ok : {T E : Type 0} (r : Result T E) (A B : Type 0) → OnOk r A → (A → B) → OnOk r B
on-ok (Ok x) A B h f = f h
on-ok (Err e) A B h f = tt
