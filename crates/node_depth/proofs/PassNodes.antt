-- What the pass lists are the nodes of the trees that the steps weave.
use Rattle.std.proofs.Common.{◌≡◌, ℕ, suc, zero, ◌+◌, ◌-◌, Bool, true, false, cond, List, [], ◌∷◌, ◌++◌, map, reverse, take, drop, unwrap_or, option_and_then, Ok, Err, Result, IfOk, refl, sym, ◌∙◌, ap, append_assoc, append-nil}
use Rattle.std.proofs.lemmas.List.{reverse-append, take-append-drop, drop-map}
use Rattle.std.specs.Option.{option_or}
use Rattle.std.specs.declared.option.Option.{Option}
use Rattle.std.specs.declared.option.Option.TheVariants.{None, Some}
use Rattle.ll_actions.specs.Sorts.{Signature, signature_of, after_action, sorts_after}
use Rattle.ll_actions.specs.declared.step.Step.{Step}
use Rattle.node_depth.proofs.Also.{count_also, post_also, also_none, also_assoc}
use Rattle.node_depth.specs.declared.depth.Node.{Node}
use Rattle.node_depth.specs.declared.weave.Part.{Part}
use Rattle.node_depth.specs.declared.weave.Weave.{Weave}
use Rattle.node_depth.specs.Nodes.{Trees, count, post, also, one, Deep}
use Rattle.node_depth.specs.Pass.{beside, gathered, wrapped, count_under, State, held, step_of, run}
use Rattle.node_depth.specs.Weaves.{Look, first_of, trees_of, under, weave_of, weaves, woven, bare}

count_of_under : (n p : ℕ) (f : Trees) → count (under n p f) ≡ count_under n (count f)
count_of_under zero p f = refl
count_of_under (suc n) p f = count_of_under n p (one p f) ∙ inner n
  where
    inner : (n : ℕ) → count_under n 1 ≡ 1
    inner zero = refl
    inner (suc n) = refl

post_under : (n p : ℕ) (f : Trees) → post (under n p f) ≡ post f ++ wrapped n p (count f)
post_under zero p f = sym (append-nil (post f))
post_under (suc n) p f = post_under n p (one p f) ∙ append_assoc (post f) (record { inside = count f; place = p } ∷ []) (wrapped n p 1)

pub first_of-append : (xs ys : List Look) → first_of (xs ++ ys) ≡ option_or (first_of xs) (first_of ys)
first_of-append [] ys = refl
first_of-append (x ∷ xs) ys = ap (option_or x.first) (first_of-append xs ys) ∙ assoc x.first (first_of xs) (first_of ys)
  where
    assoc : (x y z : Option ℕ) → option_or x (option_or y z) ≡ option_or (option_or x y) z
    assoc None y z = refl
    assoc (Some i) y z = refl

pub trees_of-append : (xs ys : List Look) → trees_of (xs ++ ys) ≡ also (trees_of xs) (trees_of ys)
trees_of-append [] ys = refl
trees_of-append (x ∷ xs) ys = ap (also x.trees) (trees_of-append xs ys) ∙ sym (also_assoc x.trees (trees_of xs) (trees_of ys))

abbrev part_of : Look → Part
part_of l = record { first = l.first; count = count l.trees }

-- what the code holds of values in text order, as one
abbrev whole_of : List Look → Part
whole_of ls = record { first = first_of ls; count = count (trees_of ls) }

abbrev part : Option ℕ → ℕ → Part
part x n = record { first = x; count = n }

whole_of-append : (xs : List Look) (l : Look) → whole_of (xs ++ l ∷ []) ≡ beside (whole_of xs) (part_of l)
whole_of-append xs l =
    let f : first_of (xs ++ l ∷ []) ≡ option_or (first_of xs) l.first = first_of-append xs (l ∷ []) ∙ ap (option_or (first_of xs)) (or_none l.first) in
    let c : count (trees_of (xs ++ l ∷ [])) ≡ count (trees_of xs) + count l.trees = ap count (trees_of-append xs (l ∷ []) ∙ ap (also (trees_of xs)) (also_none l.trees)) ∙ count_also (trees_of xs) l.trees in
    ap (λ x. part x (count (trees_of (xs ++ l ∷ [])))) f ∙ ap (part (option_or (first_of xs) l.first)) c
  where
    or_none : (x : Option ℕ) → option_or x None ≡ x
    or_none None = refl
    or_none (Some i) = refl

gathered_looks : (n : ℕ) (st : List Look) → gathered n (map part_of st) ≡ whole_of (reverse (take n st))
gathered_looks zero st = refl
gathered_looks (suc n) [] = refl
gathered_looks (suc n) (l ∷ st) =
    ap (λ x. beside x (part_of l)) (gathered_looks n st) ∙ sym (whole_of-append (reverse (take n st)) l) ∙ ap whole_of (sym (reverse-append (l ∷ []) (take n st)))

-- what the code holds of the looks on the stack
abbrev state_of : List Look → State
state_of st = record { parts = map part_of st; nodes = post (trees_of (reverse st)) }

abbrev state : List Part → List Node → State
state ps ns = record { parts = ps; nodes = ns }

nodes_of_step : (n k p : ℕ) (x : Option ℕ) (st : List Look) →
    post (trees_of (reverse st)) ++ wrapped k p (count (trees_of (reverse (take n st))))
    ≡ post (trees_of (reverse (record { first = x; trees = under k p (trees_of (reverse (take n st))) } ∷ drop n st)))
nodes_of_step n k p x st =
    let parts = reverse (take n st) in
    let rest = reverse (drop n st) in
    let l : Look = record { first = x; trees = under k p (trees_of parts) } in
    let split : reverse st ≡ rest ++ parts = ap reverse (sym (take-append-drop n st)) ∙ reverse-append (take n st) (drop n st) in
    let before : post (trees_of (reverse st)) ≡ post (trees_of rest) ++ post (trees_of parts) = ap (λ y. post (trees_of y)) split ∙ ap post (trees_of-append rest parts) ∙ post_also (trees_of rest) (trees_of parts) in
    let after : post (trees_of (reverse (l ∷ drop n st))) ≡ post (trees_of rest) ++ post l.trees =
    ap (λ y. post (trees_of y)) (reverse-append (l ∷ []) (drop n st)) ∙ ap post (trees_of-append rest (l ∷ []) ∙ ap (also (trees_of rest)) (also_none l.trees)) ∙ post_also (trees_of rest) l.trees in
    ap (λ y. y ++ wrapped k p (count (trees_of parts))) before
    ∙ append_assoc (post (trees_of rest)) (post (trees_of parts)) (wrapped k p (count (trees_of parts)))
    ∙ ap (λ y. post (trees_of rest) ++ y) (sym (post_under k p (trees_of parts))) ∙ sym after

step_of_looks : (w : Weave) (i : ℕ) (st : List Look) → step_of w i (state_of st) ≡ state_of (weaves w i st)
step_of_looks w i st =
    let parts = reverse (take w.takes st) in
    let whole = whole_of parts in
    let first = cond w.own (Some (i - 1)) (first_of parts) in
    ap (λ (x : Part). let f = cond w.own (Some (i - 1)) x.first in
    state (part f (count_under w.nodes x.count) ∷ drop w.takes (map part_of st)) (post (trees_of (reverse st)) ++ wrapped w.nodes (unwrap_or f 0) x.count)) (gathered_looks w.takes st)
    ∙ ap (λ x. state (part first (count_under w.nodes whole.count) ∷ x) (post (trees_of (reverse st)) ++ wrapped w.nodes (unwrap_or first 0) whole.count)) (drop-map part_of w.takes st)
    ∙ ap (λ x. state (part first x ∷ map part_of (drop w.takes st)) (post (trees_of (reverse st)) ++ wrapped w.nodes (unwrap_or first 0) whole.count)) (sym (count_of_under w.nodes (unwrap_or first 0) (trees_of parts)))
    ∙ ap (state (part first (count (under w.nodes (unwrap_or first 0) (trees_of parts))) ∷ map part_of (drop w.takes st))) (nodes_of_step w.takes w.nodes (unwrap_or first 0) first st)

run_looks : (ws : List Weave) (ss : List Step) (st : List Look) → run ws ss (state_of st) ≡ state_of (woven ws ss st)
run_looks ws [] st = refl
run_looks ws (s ∷ ss) st = ap (run ws ss) (step_of_looks (weave_of ws s.action) s.token st) ∙ run_looks ws ss (weaves (weave_of ws s.action) s.token st)

run_one : (ws : List Weave) (ss : List Step) (l : Look) → woven ws ss [] ≡ l ∷ [] → (run ws ss (held [] [])).nodes ≡ post l.trees
run_one ws ss l e = ap (λ s. s.nodes) (run_looks ws ss [] ∙ ap state_of e) ∙ ap post (also_none l.trees)

pub found_woven : {E : Type 0} (d : ℕ) (ws : List Weave) (ss : List Step) (ns : List Node) (r : Result (Option ℕ) E) → ns ≡ (run ws ss (held [] [])).nodes →
    IfOk r (λ x. (f : Trees) → ns ≡ post f → count f ≡ 1 → Deep d f x) → IfOk r (λ x. (l : Look) → woven ws ss [] ≡ l ∷ [] → count l.trees ≡ 1 → Deep d l.trees x)
found_woven d ws ss ns (Ok x) e h = λ l w one. h l.trees (e ∙ run_one ws ss l w) one
found_woven d ws ss ns (Err x) e h = tt

-- For the crates above: steps one after the other, and steps without the numbers that no value needs.
pub woven-append : (ws : List Weave) (ss us : List Step) (st : List Look) → woven ws (ss ++ us) st ≡ woven ws us (woven ws ss st)
woven-append ws [] us st = refl
woven-append ws (s ∷ ss) us st = woven-append ws ss us (weaves (weave_of ws s.action) s.token st)

pub bare-append : (ws : List Weave) (ss us : List Step) → bare ws (ss ++ us) ≡ bare ws ss ++ bare ws us
bare-append ws [] us = refl
bare-append ws (s ∷ ss) us = ap (λ x. record { action = s.action; token = cond (weave_of ws s.action).own s.token 0 } ∷ x) (bare-append ws ss us)

weaves_bare : (takes nodes : ℕ) (own : Bool) (i : ℕ) (st : List Look) → let w : Weave = record { takes = takes; nodes = nodes; own = own } in weaves w (cond own i 0) st ≡ weaves w i st
weaves_bare takes nodes true i st = refl
weaves_bare takes nodes false i st = refl

pub woven-bare : (ws : List Weave) (ss : List Step) (st : List Look) → woven ws (bare ws ss) st ≡ woven ws ss st
woven-bare ws [] st = refl
woven-bare ws (s ∷ ss) st =
    let w = weave_of ws s.action in
    ap (woven ws (bare ws ss)) (weaves_bare w.takes w.nodes w.own s.token st) ∙ woven-bare ws ss (weaves w s.token st)

pub sorts_after-bare : (ws : List Weave) (gs : List Signature) (ss : List Step) (st : List ℕ) → sorts_after gs (bare ws ss) st ≡ sorts_after gs ss st
sorts_after-bare ws gs [] st = refl
sorts_after-bare ws gs (s ∷ ss) st = by (after_action (signature_of gs s.action) st) (sorts_after-bare ws gs ss)
  where
    by : (o : Option (List ℕ)) → ((x : List ℕ) → sorts_after gs (bare ws ss) x ≡ sorts_after gs ss x) → option_and_then (sorts_after gs (bare ws ss)) o ≡ option_and_then (sorts_after gs ss) o
    by None h = refl
    by (Some x) h = h x
