-- The steps of the pass from the left, as the code takes them.
use Rattle.std.proofs.Common.{◌≡◌, ℕ, suc, zero, ◌+◌, ◌-◌, ◌<◌, ◌≤◌, List, [], ◌∷◌, ◌++◌, length, reverse, drop, get_or, drop-cons, refl, sym, ◌∙◌, ap, subst, append-nil, arith}
use Rattle.std.proofs.lemmas.List.{reverse-append}
use Rattle.std.specs.Option.{option_or}
use Rattle.std.specs.declared.option.Option.{Option}
use Rattle.std.specs.declared.option.Option.TheVariants.{None, Some}
use Rattle.node_depth.specs.declared.depth.Node.{Node}
use Rattle.node_depth.specs.declared.weave.Part.{Part}
use Rattle.node_depth.specs.declared.weave.Weave.{Weave}
use Rattle.node_depth.specs.Pass.{NOTHING, beside, gathered, wrapped, count_under, State, held, step_of, run, total}
use Rattle.node_depth.specs.Weaves.{weave_of}
use Rattle.ll_actions.specs.declared.step.Step.{Step}

-- the values that are still to take, before those that were taken
pub record Gathering (left : ℕ) (now : Part) (st : List Part) (goal : Part) (rest : List Part) (sum : ℕ) : Type 0 where
  pub whole : beside (gathered left st) now ≡ goal
  pub rests : drop left st ≡ rest
  pub sums : now.count + total st ≡ sum

abbrev part : Option ℕ → ℕ → Part
part x n = record { first = x; count = n }

or_assoc : (x y z : Option ℕ) → option_or (option_or x y) z ≡ option_or x (option_or y z)
or_assoc None y z = refl
or_assoc (Some i) y z = refl

beside_assoc : (a b c : Part) → beside (beside a b) c ≡ beside a (beside b c)
beside_assoc a b c =
    ap (λ x. part x ((a.count + b.count) + c.count)) (or_assoc a.first b.first c.first)
    ∙ ap (part (option_or a.first (option_or b.first c.first))) (let f : (a.count + b.count) + c.count ≡ a.count + (b.count + c.count) = omega arith in f)

pub gather_start : (n : ℕ) (st : List Part) → Gathering n NOTHING st (gathered n st) (drop n st) (total st)
gather_start n st = record {
  whole = ends (gathered n st);
  rests = refl;
  sums = omega arith;
}
  where
    or_none : (x : Option ℕ) → option_or x None ≡ x
    or_none None = refl
    or_none (Some i) = refl

    ends : (p : Part) → beside p NOTHING ≡ p
    ends p = ap (λ x. part x (p.count + 0)) (or_none p.first) ∙ ap (part p.first) (let f : p.count + 0 ≡ p.count = omega arith in f)

pub gather_end : (now goal : Part) (st rest : List Part) (sum : ℕ) → Gathering 0 now st goal rest sum → (now ≡ goal) × (st ≡ rest)
gather_end now goal st rest sum h = (begins now ∙ h.whole, h.rests)
  where
    begins : (p : Part) → p ≡ beside NOTHING p
    begins p = ap (part p.first) (let f : p.count ≡ 0 + p.count = omega arith in f)

pub gather_one : (n done : ℕ) (now goal p : Part) (old new : List Part) (rest : List Part) (sum : ℕ) → done < n → old ≡ new ++ p ∷ [] → Gathering (n - done) now (reverse old) goal rest sum →
    Gathering (n - (done + 1)) (beside p now) (reverse new) goal rest sum
gather_one n done now goal p old new rest sum l e h =
    let z : n - done ≡ suc (n - (done + 1)) = omega arith in
    let r : reverse old ≡ p ∷ reverse new = ap reverse e ∙ reverse-append new (p ∷ []) in
    let w = subst (λ x. Gathering x now (p ∷ reverse new) goal rest sum) z (subst (λ x. Gathering (n - done) now x goal rest sum) r h) in
    record {
      whole = sym (beside_assoc (gathered (n - (done + 1)) (reverse new)) p now) ∙ w.whole;
      rests = w.rests;
      sums = (let s = w.sums in omega arith);
    }

empty : (xs : List Part) → length xs ≡ 0 → xs ≡ []
empty [] e = refl
empty (x ∷ xs) e = absurd (omega (arith, e))

pub gather_none : (n done : ℕ) (now goal : Part) (old new rest : List Part) (sum : ℕ) → done < n → length old ≡ 0 → old ≡ new ++ [] → Gathering (n - done) now (reverse old) goal rest sum →
    Gathering (n - (done + 1)) now (reverse new) goal rest sum
gather_none n done now goal old new rest sum l e f h =
    let z : n - done ≡ suc (n - (done + 1)) = omega arith in
    let w = subst (λ x. Gathering x now [] goal rest sum) z (subst (λ x. Gathering (n - done) now (reverse x) goal rest sum) (empty old e) h) in
    let k = n - (done + 1) in
    subst (λ x. Gathering k now (reverse x) goal rest sum) (sym (sym (append-nil new) ∙ sym f ∙ empty old e)) (record {
      whole = ap (λ x. beside x now) (none k) ∙ w.whole;
      rests = drops k ∙ w.rests;
      sums = w.sums;
    })
  where
    none : (k : ℕ) → gathered k [] ≡ NOTHING
    none zero = refl
    none (suc k) = refl

    drops : (k : ℕ) → drop k [] ≡ drop {A = Part} (suc k) []
    drops zero = refl
    drops (suc k) = refl

-- the nodes that are still to list
pub record Wrapping (left : ℕ) (place count : ℕ) (nodes all : List Node) (goal : ℕ) : Type 0 where
  pub whole : nodes ++ wrapped left place count ≡ all
  pub counts : count_under left count ≡ goal

-- no more trees stand side by side than there were steps
gathered_total : (n : ℕ) (st : List Part) → (gathered n st).count + total (drop n st) ≡ total st
gathered_total zero st = omega arith
gathered_total (suc n) [] = refl
gathered_total (suc n) (p ∷ st) = let h = gathered_total n st in omega (arith, h)

count_most : (n c : ℕ) → count_under n c ≤ c + 1
count_most zero c = omega arith
count_most (suc n) c = omega arith

pub few_more : (w : Weave) (i at : ℕ) (old new : List Part) (ns ms : List Node) → held new ms ≡ step_of w i (held old ns) → total (reverse old) ≤ at → total (reverse new) ≤ at + 1
few_more w i at old new ns ms e l =
    let a : total (reverse new) ≡ total (step_of w i (held old ns)).parts = ap (λ s. total s.parts) e in
    let b = gathered_total w.takes (reverse old) in
    let c = count_most w.nodes (gathered w.takes (reverse old)).count in
    omega (arith, a, b, c)

-- one step
pub run_turn : (ws : List Weave) (xs : List Step) (at : ℕ) (d : Step) (s new goal : State) → at < length xs → run ws (drop at xs) s ≡ goal → new ≡ step_of (weave_of ws (get_or xs at d).action) (get_or xs at d).token s →
    run ws (drop (at + 1) xs) new ≡ goal
run_turn ws xs at d s new goal l h e =
    ap (run ws (drop (at + 1) xs)) e
    ∙ ap (λ x. run ws (drop x xs) (step_of (weave_of ws (get_or xs at d).action) (get_or xs at d).token s)) (let z : at + 1 ≡ suc at = omega arith in z)
    ∙ ap (λ x. run ws x s) (sym (drop-cons xs at d l)) ∙ h
