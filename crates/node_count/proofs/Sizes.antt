-- The nodes of what steps weave are those that their actions make.
use Rattle.std.proofs.Common.{◌≡◌, ℕ, suc, zero, ◌+◌, List, [], ◌∷◌, ◌++◌, reverse, take, drop, unwrap_or, refl, ap, arith}
use Rattle.std.proofs.lemmas.List.{reverse-append, take-append-drop}
use Rattle.ll_actions.specs.declared.step.Step.{Step}
use Rattle.node_depth.specs.declared.weave.Weave.{Weave}
use Rattle.node_depth.specs.Nodes.{Trees, none, node, also, one}
use Rattle.node_depth.specs.Weaves.{Look, trees_of, under, look_of, weave_of, weaves, woven}
use Rattle.node_count.specs.Counts.{size}

abbrev sizes : List Look → ℕ
sizes [] = 0
sizes (l ∷ ls) = size l.trees + sizes ls

-- how many nodes steps make
abbrev pub nodes_of_steps : List Weave → List Step → ℕ
nodes_of_steps ws [] = 0
nodes_of_steps ws (s ∷ ss) = (weave_of ws s.action).nodes + nodes_of_steps ws ss

size_also : (f g : Trees) → size (also f g) ≡ size f + size g
size_also none g = omega arith
size_also (node p a b) g = let h = size_also b g in omega (arith, h)

size_under : (n p : ℕ) (f : Trees) → size (under n p f) ≡ n + size f
size_under zero p f = omega arith
size_under (suc n) p f = let h = size_under n p (one p f) in omega (arith, h)

size_all : (ls : List Look) → size (trees_of ls) ≡ sizes ls
size_all [] = refl
size_all (l ∷ ls) = let h = size_all ls in let k = size_also l.trees (trees_of ls) in omega (arith, h, k)

sizes_append : (xs ys : List Look) → sizes (xs ++ ys) ≡ sizes xs + sizes ys
sizes_append [] ys = omega arith
sizes_append (x ∷ xs) ys = let h = sizes_append xs ys in omega (arith, h)

sizes_reverse : (xs : List Look) → sizes (reverse xs) ≡ sizes xs
sizes_reverse [] = refl
sizes_reverse (x ∷ xs) =
    let h = sizes_reverse xs in let e = ap sizes (reverse-append (x ∷ []) xs) in let k = sizes_append (reverse xs) (x ∷ []) in omega (arith, h, e, k)

sizes_weaves : (w : Weave) (i : ℕ) (st : List Look) → sizes (weaves w i st) ≡ w.nodes + sizes st
sizes_weaves w i st =
    let parts = reverse (take w.takes st) in
    let a = size_under w.nodes (unwrap_or (look_of w i parts).first 0) (trees_of parts) in
    let b = size_all parts in
    let c = sizes_reverse (take w.takes st) in
    let d = sizes_append (take w.takes st) (drop w.takes st) in
    let e = ap sizes (take-append-drop w.takes st) in
    omega (arith, a, b, c, d, e)

pub sizes_woven : (ws : List Weave) (ss : List Step) (st : List Look) → sizes (woven ws ss st) ≡ nodes_of_steps ws ss + sizes st
sizes_woven ws [] st = omega arith
sizes_woven ws (s ∷ ss) st =
    let h = sizes_woven ws ss (weaves (weave_of ws s.action) s.token st) in
    let k = sizes_weaves (weave_of ws s.action) s.token st in
    omega (arith, h, k)

pub size_woven : (ws : List Weave) (ss : List Step) (l : Look) → woven ws ss [] ≡ l ∷ [] → size l.trees ≡ nodes_of_steps ws ss
size_woven ws ss l e = let h = sizes_woven ws ss [] in let k = ap sizes e in omega (arith, h, k)
