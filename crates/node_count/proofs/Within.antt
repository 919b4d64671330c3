-- Each node of what steps weave begins at a token, where there is one.
use Rattle.std.proofs.Common.{◌≡◌, ℕ, suc, zero, ◌+◌, ◌-◌, ◌<◌, ◌≤◌, Bool, true, false, cond, List, [], ◌∷◌, ◌++◌, length, get_or, reverse, take, drop, unwrap_or, sym, subst, arith}
use Rattle.std.proofs.lemmas.List.{reverse-append}
use Rattle.std.specs.Option.{option_or}
use Rattle.std.specs.declared.option.Option.{Option}
use Rattle.std.specs.declared.option.Option.TheVariants.{None, Some}
use Rattle.ll_actions.specs.declared.step.Step.{Step}
use Rattle.node_depth.specs.declared.weave.Weave.{Weave}
use Rattle.node_depth.specs.Nodes.{Trees, none, node, height, also, one, Stands, here, inside, after}
use Rattle.node_depth.specs.Weaves.{Look, first_of, trees_of, under, look_of, weave_of, weaves, woven}
use Rattle.node_count.specs.Counts.{size}

-- trees are no higher than they have nodes
pub height_size : (t : Trees) → height t ≤ size t
height_size none = omega arith
height_size (node i a b) = let h = height_size a in let k = height_size b in omega (arith, h, k)

module _ (n : ℕ) where
  abbrev AreBelow : Trees → Type 0
  AreBelow none = Unit {0}
  AreBelow (node i a b) = (i < n) × AreBelow a × AreBelow b

  abbrev IsBelow : Option ℕ → Type 0
  IsBelow None = Unit {0}
  IsBelow (Some i) = i < n

  abbrev AllBelow : List Look → Type 0
  AllBelow [] = Unit {0}
  AllBelow (l ∷ ls) = IsBelow l.first × AreBelow l.trees × AllBelow ls

  pub below : {x y i : ℕ} {t : Trees} → Stands x t y i → AreBelow t → i < n
  below here h = h.0
  below (inside s) h = below s h.1
  below (after s) h = below s h.2

  also_below : (a b : Trees) → AreBelow a → AreBelow b → AreBelow (also a b)
  also_below none b h k = k
  also_below (node i x y) b h k = (h.0, h.1, also_below y b h.2 k)

  under_below : (k i : ℕ) (t : Trees) → i < n → AreBelow t → AreBelow (under k i t)
  under_below zero i t small h = h
  under_below (suc k) i t small h = under_below k i (one i t) small (small, h, tt)

  or_below : (x y : Option ℕ) → IsBelow x → IsBelow y → IsBelow (option_or x y)
  or_below None y h k = k
  or_below (Some i) y h k = h

  first_below : (ls : List Look) → AllBelow ls → IsBelow (first_of ls)
  first_below [] h = tt
  first_below (l ∷ ls) h = or_below l.first (first_of ls) h.0 (first_below ls h.2)

  trees_below : (ls : List Look) → AllBelow ls → AreBelow (trees_of ls)
  trees_below [] h = tt
  trees_below (l ∷ ls) h = also_below l.trees (trees_of ls) h.1 (trees_below ls h.2)

  append_below : (xs ys : List Look) → AllBelow xs → AllBelow ys → AllBelow (xs ++ ys)
  append_below [] ys h k = k
  append_below (x ∷ xs) ys h k = (h.0, h.1, append_below xs ys h.2 k)

  reverse_below : (xs : List Look) → AllBelow xs → AllBelow (reverse xs)
  reverse_below [] h = tt
  reverse_below (x ∷ xs) h = subst AllBelow (sym (reverse-append (x ∷ []) xs)) (append_below (reverse xs) (x ∷ []) (reverse_below xs h.2) (h.0, h.1, tt))

  take_below : (k : ℕ) (xs : List Look) → AllBelow xs → AllBelow (take k xs)
  take_below zero xs h = tt
  take_below (suc k) [] h = tt
  take_below (suc k) (x ∷ xs) h = (h.0, h.1, take_below k xs h.2)

  drop_below : (k : ℕ) (xs : List Look) → AllBelow xs → AllBelow (drop k xs)
  drop_below zero xs h = h
  drop_below (suc k) [] h = tt
  drop_below (suc k) (x ∷ xs) h = drop_below k xs h.2

  own_below : (own : Bool) (i : ℕ) (x : Option ℕ) → i < n → IsBelow x → IsBelow (cond own (Some i) x)
  own_below true i x small h = small
  own_below false i x small h = h

  number_below : (x : Option ℕ) → 0 < n → IsBelow x → unwrap_or x 0 < n
  number_below None some h = some
  number_below (Some i) some h = h

  weaves_below : (w : Weave) (i : ℕ) (st : List Look) → 0 < n → i ≤ n → AllBelow st → AllBelow (weaves w i st)
  weaves_below w i st some within h =
      let parts = reverse (take w.takes st) in
      let p = reverse_below (take w.takes st) (take_below w.takes st h) in
      let f = own_below w.own (i - 1) (first_of parts) (omega (arith, some, within)) (first_below parts p) in
      (f, under_below w.nodes (unwrap_or (look_of w i parts).first 0) (trees_of parts) (number_below (look_of w i parts).first some f) (trees_below parts p), drop_below w.takes st h)

  woven_below : (ws : List Weave) (ss : List Step) (st : List Look) → 0 < n → ((k : ℕ) (d : Step) → k < length ss → (get_or ss k d).token ≤ n) → AllBelow st → AllBelow (woven ws ss st)
  woven_below ws [] st some within h = h
  woven_below ws (s ∷ ss) st some within h =
      woven_below ws ss (weaves (weave_of ws s.action) s.token st) some (λ k d small. within (suc k) d (omega (arith, small)))
      (weaves_below (weave_of ws s.action) s.token st some (within 0 s (omega arith)) h)

-- where the steps stand within n tokens, so do the nodes that they weave
pub stands_within : (n : ℕ) (ws : List Weave) (ss : List Step) (l : Look) → 0 < n → ((k : ℕ) (d : Step) → k < length ss → (get_or ss k d).token ≤ n) → woven ws ss [] ≡ l ∷ [] →
    (x y i : ℕ) → Stands x l.trees y i → i < n
stands_within n ws ss l some within e x y i s = below n s (subst (AllBelow n) e (woven_below n ws ss [] some within tt)).1

-- a node that stands deeper than the limit begins at one of n tokens, where there are no more nodes than tokens, and one
pub stands_real : (n : ℕ) (ws : List Weave) (ss : List Step) (l : Look) → ((k : ℕ) (d : Step) → k < length ss → (get_or ss k d).token ≤ n) → woven ws ss [] ≡ l ∷ [] → size l.trees ≤ n + 1 →
    (limit i : ℕ) → 0 < limit → limit < height l.trees → Stands 1 l.trees (limit + 1) i → i < n
stands_real zero ws ss l within e few limit i some high s = let h = height_size l.trees in absurd (omega (arith, h, few, some, high))
stands_real (suc m) ws ss l within e few limit i some high s = stands_within (suc m) ws ss l (omega arith) within e 1 (limit + 1) i s
