-- Lists in order, by the places of their variables.
use Rattle.std.proofs.Common.{◌≡◌, ◌⊎◌, inl, inr, ℕ, zero, suc, ◌+◌, ◌<◌, ◌≤◌, Bool, true, false, cond, List, [], ◌∷◌, ◌++◌, length, take, replicate, slice_index, Option, Some, None, refl, sym, ap, ◌∙◌, subst, arith}
use Rattle.std.specs.Prelude.{slice_get, option_map, Contains}
use Rattle.std.proofs.lemmas.Bool.{cases_lt}
use Rattle.std.proofs.lemmas.List.{get_or_append_left, get_or_push, length_push, length-replicate, take_all}
use Rattle.std.proofs.lemmas.Option.{slice_get_within}
use Rattle.word_eqs.specs.declared.term.Term.{Term}
use Rattle.word_eqs.specs.declared.term.TermNode.{TermNode}
use Rattle.word_eqs.specs.declared.term.TermNode.TheVariants.{Var}
use Rattle.word_eqs.specs.declared.list.Act.{Act}
use Rattle.word_eqs.specs.declared.list.Act.TheVariants.{Free, Set, Cut, Prop}
use Rattle.word_eqs.specs.declared.list.Step.{Step}
use Rattle.word_eqs.specs.Graph.{FitsNode, Graph, IsGraph, node_at, parts}
use Rattle.word_eqs.specs.Guarded.{FitsAct, FitsStep, IsOrdered, Uses, is_var, by_part, act_terms, gives, givers}
use Rattle.word_eqs.proofs.Uses.{uses_there}
use Rattle.bitblast.specs.Order.{AreEarly, AreLatest, ArePlaced, IsLatest, Places}
use Rattle.bitblast.proofs.Placing.{part_before}
use Rattle.bitblast.proofs.Stepping.{IsNextStep, givers_push, next_step}
use Rattle.bitblast.proofs.Translating.{term_of}

-- places of variables

zeros : (n x : ℕ) → slice_index (replicate n 0) x ≡ 0
zeros zero x = refl
zeros (suc n) zero = refl
zeros (suc n) (suc x) = zeros n x

pub placed_none : (g : Graph) (list : List Step) (place : List ℕ) → place ≡ replicate (length g.vars) 0 → ArePlaced g list 0 place
placed_none g list place e = record {
  len = ap length e ∙ length-replicate (length g.vars) 0;
  fit = λ j s l at. absurd (omega arith);
  none = λ x z. refl;
  some = λ x l. let z : slice_index place x ≡ 0 = ap (λ p. slice_index p x) e ∙ zeros (length g.vars) x in absurd (omega arith);
}

counted : (list : List Step) (k : ℕ) (s : Step) (x : ℕ) (b : Bool) → IsNextStep list k s → gives x s.act ≡ b → givers x (take (k + 1) list) ≡ givers x (take k list) + cond b 1 0
counted list k s x b n e = ap (givers x) n.more ∙ givers_push x (take k list) s ∙ ap (λ b. givers x (take k list) + cond b 1 0) e

pub placed_more : (g : Graph) (list : List Step) (k : ℕ) (s : Step) (old new : List ℕ) → slice_get list k ≡ Some s → FitsStep g s → ArePlaced g list k old → Places s.act k old new → ArePlaced g list (k + 1) new
placed_more g list k s old new at f h p = record {
  len = p.len ∙ h.len;
  fit = λ j t l q. on_fit j t q (cases_lt j k) l;
  none = λ x z. on_none x z (gives x s.act) refl;
  some = λ x l. on_some x l (gives x s.act) refl;
}
  where
    on_fit : (j : ℕ) (t : Step) → slice_get list j ≡ Some t → (j < k) ⊎ (k ≤ j) → j < k + 1 → FitsStep g t
    on_fit j t q (inl l) m = h.fit j t l q
    on_fit j t q (inr l) m =
        let is : j ≡ k = omega arith in
        let there : Some s ≡ Some t = sym at ∙ ap (slice_get list) (sym is) ∙ q in
        let same : s ≡ t = cc in
        subst (FitsStep g) same f

    on_none : (x : ℕ) → slice_index new x ≡ 0 → (b : Bool) → gives x s.act ≡ b → givers x (take (k + 1) list) ≡ 0
    on_none x z true e = let q = (p.here x e).1 in absurd (omega arith)
    on_none x z false e =
        let c = counted list k s x false (next_step list k s at) e in
        let d = h.none x (sym (p.other x e) ∙ z) in
        let c' : givers x (take (k + 1) list) ≡ givers x (take k list) + 0 = c in
        omega arith

    on_some : (x : ℕ) → 0 < slice_index new x → (b : Bool) → gives x s.act ≡ b → (slice_index new x ≤ k + 1) × ((j : ℕ) → slice_index new x ≤ j → j ≤ k + 1 → givers x (take j list) ≡ 1)
    on_some x l true e =
        let q = p.here x e in
        let was = q.0 in
        let now = q.1 in
        let c : givers x (take (k + 1) list) ≡ givers x (take k list) + 1 = counted list k s x true (next_step list k s at) e in
        let d = h.none x was in
        (omega arith, λ j m o. let is : j ≡ k + 1 = omega arith in ap (λ i. givers x (take i list)) is ∙ omega arith)
    on_some x l false e =
        let same = p.other x e in
        let was : 0 < slice_index old x = omega arith in
        let q = h.some x was in
        let le = q.0 in
        let c : givers x (take (k + 1) list) ≡ givers x (take k list) + 0 = counted list k s x false (next_step list k s at) e in
        let last = q.1 k le (omega arith) in
        (omega arith, λ j m o. at_place x j c last q.1 (cases_lt k j) (omega arith) o)
      where
        at_place : (x j : ℕ) → givers x (take (k + 1) list) ≡ givers x (take k list) + 0 → givers x (take k list) ≡ 1 → ((j : ℕ) → slice_index old x ≤ j → j ≤ k → givers x (take j list) ≡ 1) → (k < j) ⊎ (j ≤ k) → slice_index old x ≤ j → j ≤ k + 1 → givers x (take j list) ≡ 1
        at_place x j c last before (inl l) m o = let is : j ≡ k + 1 = omega arith in ap (λ i. givers x (take i list)) is ∙ omega arith
        at_place x j c last before (inr l) m o = before j m l

-- the latest places that terms use

some_node : (a b : TermNode) → Some a ≡ Some b → a ≡ b
some_node a b e = cc

pub latest_none : (g : Graph) (place last : List ℕ) → length last ≡ 0 → AreLatest g place last 0
latest_none g place last e = record { len = e; at = λ t x l u. absurd (omega arith) }

pub latest_more : (g : Graph) (place last : List ℕ) (k : ℕ) (node : TermNode) (latest : ℕ) → IsGraph g → k < length g.terms → node_at g k ≡ Some node → AreLatest g place last k → IsLatest place last node latest → AreLatest g place (last ++ latest ∷ []) (k + 1)
latest_more g place last k node latest h l e a i = record {
  len = length_push last latest ∙ ap (λ n. n + 1) a.len;
  at = λ t x m u. on t x (cases_lt t k) m u;
}
  where
    before : (t : ℕ) → t < k → slice_index (last ++ latest ∷ []) t ≡ slice_index last t
    before t m = get_or_append_left last (latest ∷ []) 0 t (let n = a.len in omega arith)

    here : slice_index (last ++ latest ∷ []) k ≡ latest
    here = get_or_push last latest 0 k a.len

    used : {t x : ℕ} → t ≡ k → Uses g t x → slice_index place x ≤ latest
    used is (is_var t x at) = i.var (record { 0 = x }) (some_node node (Var (record { 0 = x })) (sym e ∙ ap (node_at g) (sym is) ∙ at))
    used is (by_part t s x other at c u) =
        let same : other ≡ node = some_node other node (sym at ∙ ap (node_at g) is ∙ e) in
        let there = term_of g k node l e in
        let d : Contains (parts node) s = subst (λ n. Contains (parts n) s) same c in
        let m = part_before g k node s (subst (FitsNode g k) there.is (h.terms k _ there.at).fits) d in
        let p = i.parts s d in
        let q = a.at s x m u in
        omega arith

    on : (t x : ℕ) → (t < k) ⊎ (k ≤ t) → t < k + 1 → Uses g t x → slice_index place x ≤ slice_index (last ++ latest ∷ []) t
    on t x (inl m) n u = let p = a.at t x m u in let q = before t m in omega arith
    on t x (inr m) n u =
        let is : t ≡ k = omega arith in
        let p = used is u in
        let q : slice_index (last ++ latest ∷ []) t ≡ latest = ap (slice_index (last ++ latest ∷ [])) is ∙ here in
        omega arith

-- the terms of a step are there

pub act_terms_there : (g : Graph) (act : Act) (t : ℕ) → FitsAct g act → Contains (act_terms act) t → t < length g.terms
act_terms_there g (Free x) t f c = let l = c.1 in absurd (omega arith)
act_terms_there g (Set x u) t f c = one u.0 t (length g.terms) f.1 c
  where
    one : (u t n : ℕ) → u < n → Contains (u ∷ []) t → t < n
    one u t n l (zero, m, e) = subst (λ k. k < n) e l
    one u t n l (suc i, m, e) = absurd (omega arith)
act_terms_there g (Cut u) t f (zero, m, e) = subst (λ k. k < length g.terms) e f
act_terms_there g (Cut u) t f (suc i, m, e) = absurd (omega arith)
act_terms_there g (Prop p u) t f (zero, m, e) = subst (λ k. k < length g.terms) e f
act_terms_there g (Prop p u) t f (suc i, m, e) = absurd (omega arith)

pub early : (last : List ℕ) (k guard : ℕ) (terms : List ℕ) → slice_index last guard ≤ k → ((t : ℕ) → Contains terms t → slice_index last t ≤ k) → (t : ℕ) → Contains (guard ∷ terms) t → slice_index last t ≤ k
early last k guard terms h i t (zero, m, e) = subst (λ u. slice_index last u ≤ k) e h
early last k guard terms h i t (suc j, m, e) = i t (j, omega arith, e)

-- a list in order

pub in_order : (g : Graph) (list : List Step) (place last : List ℕ) → IsGraph g → ArePlaced g list (length list) place → AreLatest g place last (length g.terms) → ((x : ℕ) → x < length place → 0 < slice_index place x) → ((j : ℕ) (s : Step) → slice_get list j ≡ Some s → AreEarly last j s) → IsOrdered g list
in_order g list place last h p a all e = record {
  steps = λ k s at. p.fit k s (slice_get_within list k s at) at;
  once = λ x l.
      let q = p.some x (all x (let n = p.len in omega arith)) in
      ap (givers x) (sym (take_all (length list) list (omega arith))) ∙ q.1 (length list) q.0 (omega arith);
  before = λ k s at t x c u.
      let l = uses_there g h u in
      let q = p.some x (all x (let n = p.len in omega arith)) in
      let within = slice_get_within list k s at in
      q.1 k (before k s at t x c u) (omega arith);
}
  where
    before : (k : ℕ) (s : Step) → slice_get list k ≡ Some s → (t x : ℕ) → Contains (s.guard.0 ∷ act_terms s.act) t → Uses g t x → slice_index place x ≤ k
    before k s at t x c u =
        let m = e k s at t c in
        let there : t < length g.terms = used_there u in
        let n = a.at t x there u in
        omega arith
      where
        node_there : (t : ℕ) (node : TermNode) (r : Option Term) → slice_get g.terms t ≡ r → option_map (λ (y : Term). y.node) r ≡ Some node → t < length g.terms
        node_there t node None e at = cc
        node_there t node (Some y) e at = slice_get_within g.terms t y e

        used_there : {t x : ℕ} → Uses g t x → t < length g.terms
        used_there (is_var t x at) = node_there t (Var (record { 0 = x })) (slice_get g.terms t) refl at
        used_there (by_part t s x node at c u) = node_there t node (slice_get g.terms t) refl at

pub node_fits : (g : Graph) (k : ℕ) (node : TermNode) → IsGraph g → k < length g.terms → node_at g k ≡ Some node → FitsNode g k node
node_fits g k node h l e =
    let there = term_of g k node l e in
    subst (FitsNode g k) there.is (h.terms k _ there.at).fits
