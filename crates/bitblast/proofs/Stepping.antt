-- One more step of a list.
use Rattle.std.proofs.Common.{◌≡◌, ◌≢◌, ℕ, zero, suc, ◌+◌, Bool, true, false, cond, ◌&&◌, ◌||◌, not, List, [], ◌∷◌, ◌++◌, length, take, drop, Some, refl, sym, ap, ◌∙◌, arith, append-nil, append_assoc}
use Rattle.std.specs.Prelude.{slice_get, slice_set, nat_eq}
use Rattle.std.proofs.lemmas.Bool.Decides.{nat_tests}
use Rattle.std.proofs.lemmas.List.{drop_more, length-take-le, take_more, take-append-drop}
use Rattle.std.proofs.lemmas.List.Sums.{sum_by-append, sum_by-cons, sum_by_push}
use Rattle.std.proofs.lemmas.Option.{get_or_from_slice_get, slice_get_within}
use Rattle.arrayvec.specs.ArrayVec.{ArrayVec}
use Rattle.bits_core.specs.Word.{at_zero}
use Rattle.gate_net.specs.declared.net.Edge.{Edge}
use Rattle.word_eqs.specs.declared.term.VarId.{VarId}
use Rattle.word_eqs.specs.declared.term.TermId.{TermId}
use Rattle.word_eqs.specs.declared.list.Act.{Act}
use Rattle.word_eqs.specs.declared.list.Act.TheVariants.{Free, Set, Cut, Prop}
use Rattle.word_eqs.specs.declared.list.Step.{Step}
use Rattle.word_eqs.specs.Graph.{Graph}
use Rattle.word_eqs.specs.Gates.{act_gates, step_gates}
use Rattle.word_eqs.specs.Guarded.{Walk, Passes, Stops, AtCut, AtProp, walk, walk_then, step_walk, act_walk, gives, givers}
use Rattle.word_eqs.specs.Meaning.{Values as Valuation}
use Rattle.word_eqs.proofs.Walks.{walk_push}
use Rattle.bitblast.specs.Circuit.{number_of}
use Rattle.bitblast.specs.Blasted.{AreFreeBits, act_free, free_edges}
use Rattle.bitblast.specs.Making.{fails, is_broken, is_live}
use Rattle.bitblast.proofs.Placing.{at_other}

-- lists at a place

pub record IsNextStep (list : List Step) (k : ℕ) (s : Step) : Type 0 where
  pub more : take (k + 1) list ≡ take k list ++ s ∷ []
  pub rest : drop k list ≡ s ∷ drop (k + 1) list
  pub len : length (take k list) ≡ k

pub next_step : (list : List Step) (k : ℕ) (s : Step) → slice_get list k ≡ Some s → IsNextStep list k s
next_step list k s at =
    let l = slice_get_within list k s at in
    let is = get_or_from_slice_get list k s s at in
    record {
      more = take_more list k s l ∙ ap (λ x. take k list ++ x ∷ []) is;
      rest = drop_more list k s l ∙ ap (λ x. x ∷ drop (k + 1) list) is;
      len = length-take-le k list (omega arith);
    }

slice_get_left : {X : Type 0} (xs ys : List X) (k : ℕ) (x : X) → slice_get xs k ≡ Some x → slice_get (xs ++ ys) k ≡ Some x
slice_get_left [] ys k x e = cc
slice_get_left (z ∷ zs) ys zero x e = e
slice_get_left (z ∷ zs) ys (suc k) x e = slice_get_left zs ys k x e

-- who gives a variable its word

pub givers_push : (x : ℕ) (xs : List Step) (s : Step) → givers x (xs ++ s ∷ []) ≡ givers x xs + cond (gives x s.act) 1 0
givers_push x xs s = sum_by_push (λ (s : Step). cond (gives x s.act) 1 0) xs s

givers_cons : (x : ℕ) (s : Step) (xs : List Step) → givers x (s ∷ xs) ≡ cond (gives x s.act) 1 0 + givers x xs
givers_cons x s xs = sum_by-cons (λ (s : Step). cond (gives x s.act) 1 0) s xs

-- a variable that this step gives its word has none before
pub ungiven : (list : List Step) (k : ℕ) (s : Step) (x : ℕ) → IsNextStep list k s → givers x list ≡ 1 → gives x s.act ≡ true → givers x (take k list) ≡ 0
ungiven list k s x n once e =
    let all : givers x list ≡ givers x (take k list) + givers x (drop k list) = ap (givers x) (sym (take-append-drop k list)) ∙ sum_by-append (λ (s : Step). cond (gives x s.act) 1 0) (take k list) (drop k list) in
    let here : givers x (drop k list) ≡ 1 + givers x (drop (k + 1) list) = ap (givers x) n.rest ∙ givers_cons x s (drop (k + 1) list) ∙ ap (λ b. cond b 1 0 + givers x (drop (k + 1) list)) e in
    omega arith

none_gives : (x : ℕ) (xs : List Step) (k : ℕ) (s : Step) → givers x xs ≡ 0 → slice_get xs k ≡ Some s → gives x s.act ≡ true → ⊥
none_gives x [] k s z at e = cc
none_gives x (y ∷ xs) zero s z at e =
    let is : y ≡ s = cc in
    let c : givers x (y ∷ xs) ≡ 1 + givers x xs = givers_cons x y xs ∙ ap (λ b. cond b 1 0 + givers x xs) (ap (λ (t : Step). gives x t.act) is ∙ e) in
    omega arith
none_gives x (y ∷ xs) (suc k) s z at e =
    let c : givers x (y ∷ xs) ≡ cond (gives x y.act) 1 0 + givers x xs = givers_cons x y xs in
    none_gives x xs k s (omega arith) at e

pub same_var : (x : ℕ) → nat_eq x x ≡ true
same_var x = grind (arith, nat_tests)

-- a step that leaves a variable free is not one of x, where none gives x its word
other_var : (x : ℕ) (xs : List Step) (k : ℕ) (s : Step) (y : VarId) → givers x xs ≡ 0 → slice_get xs k ≡ Some s → s.act ≡ Free y → y.0 ≢ x
other_var x xs k s y z at e = λ is. none_gives x xs k s z at (ap (gives x) e ∙ ap (λ k. nat_eq x k) is ∙ same_var x)

-- the edges of the variables that are left free

free_edges-append : (wires : List (ArrayVec Edge)) (xs ys : List Step) → free_edges wires (xs ++ ys) ≡ free_edges wires xs ++ free_edges wires ys
free_edges-append wires [] ys = refl
free_edges-append wires (s ∷ xs) ys = ap (λ l. act_free wires s.act ++ l) (free_edges-append wires xs ys) ∙ sym (append_assoc (act_free wires s.act) (free_edges wires xs) (free_edges wires ys))

pub free_edges_push : (wires : List (ArrayVec Edge)) (xs : List Step) (s : Step) → free_edges wires (xs ++ s ∷ []) ≡ free_edges wires xs ++ act_free wires s.act
free_edges_push wires xs s = free_edges-append wires xs (s ∷ []) ∙ ap (λ l. free_edges wires xs ++ l) (append-nil (act_free wires s.act))

act_free_put : (wires : List (ArrayVec Edge)) (x : ℕ) (w : ArrayVec Edge) (act : Act) → gives x act ≡ false → act_free (slice_set wires x w) act ≡ act_free wires act
act_free_put wires x w (Free y) e = at_other wires x y.0 w (λ is. differ (sym (ap (λ k. nat_eq x k) is ∙ same_var x) ∙ e))
  where
    differ : true ≡ false → ⊥
    differ e = cc
act_free_put wires x w (Set y t) e = refl
act_free_put wires x w (Cut t) e = refl
act_free_put wires x w (Prop p t) e = refl

pub free_edges_put : (wires : List (ArrayVec Edge)) (x : ℕ) (w : ArrayVec Edge) (xs : List Step) → givers x xs ≡ 0 → free_edges (slice_set wires x w) xs ≡ free_edges wires xs
free_edges_put wires x w [] z = refl
free_edges_put wires x w (s ∷ xs) z = on (gives x s.act) refl (free_edges_put wires x w xs)
  where
    on : (b : Bool) → gives x s.act ≡ b → (givers x xs ≡ 0 → free_edges (slice_set wires x w) xs ≡ free_edges wires xs) → free_edges (slice_set wires x w) (s ∷ xs) ≡ free_edges wires (s ∷ xs)
    on true e h = let c : givers x (s ∷ xs) ≡ 1 + givers x xs = givers_cons x s xs ∙ ap (λ b. cond b 1 0 + givers x xs) e in absurd (omega arith)
    on false e h =
        let c : givers x (s ∷ xs) ≡ 0 + givers x xs = givers_cons x s xs ∙ ap (λ b. cond b 1 0 + givers x xs) e in
        ap (λ l. l ++ free_edges (slice_set wires x w) xs) (act_free_put wires x w s.act e) ∙ ap (λ l. act_free wires s.act ++ l) (h (omega arith))

-- their bits

pub free_bits_first : (a : ℕ → Bool) (v : Valuation) (wires : List (ArrayVec Edge)) (xs ys : List Step) → AreFreeBits a v wires (xs ++ ys) → AreFreeBits a v wires xs
free_bits_first a v wires xs ys f = record { at = λ k s x at e. f.at k s x (slice_get_left xs ys k s at) e }

pub free_bits_put : (a : ℕ → Bool) (v : Valuation) (wires : List (ArrayVec Edge)) (x : ℕ) (w : ArrayVec Edge) (xs : List Step) → givers x xs ≡ 0 → AreFreeBits a v (slice_set wires x w) xs → AreFreeBits a v wires xs
free_bits_put a v wires x w xs z f = record { at = λ k s y at e. ap (number_of a) (sym (at_other wires x y.0 w (other_var x xs k s y z at e))) ∙ f.at k s y at e }

-- walks

pub live_then : (w u : Walk) → is_live (walk_then w u) ≡ (is_live w && is_live u)
live_then (Stops r e) u = refl
live_then (Passes r) (Passes r') = refl
live_then (Passes r) (Stops r' e) = refl

pub broken_then : (w u : Walk) → is_broken (walk_then w u) ≡ (is_broken w || (is_live w && is_broken u))
broken_then (Stops r AtCut) u = refl
broken_then (Stops r (AtProp p)) u = refl
broken_then (Passes r) (Passes r') = refl
broken_then (Passes r) (Stops r' e) = refl

-- what a step does to a list that has not ended
pub record Does (v : Valuation) (s : Step) (live broken : Bool) : Type 0 where
  pub goes_on : is_live (step_walk v s) ≡ live
  pub breaks_off : is_broken (step_walk v s) ≡ broken

passes : (n : ℕ) (r : List ℕ) → (is_live (at_zero n (Passes []) (Passes r)) ≡ true) × (is_broken (at_zero n (Passes []) (Passes r)) ≡ false)
passes zero r = (refl, refl)
passes (suc n) r = (refl, refl)

cuts : (n m : ℕ) → (is_live (at_zero n (Passes []) (at_zero m (Stops [] AtCut) (Passes []))) ≡ not (fails n m)) × (is_broken (at_zero n (Passes []) (at_zero m (Stops [] AtCut) (Passes []))) ≡ (false && fails n m))
cuts zero m = (refl, refl)
cuts (suc n) zero = (refl, refl)
cuts (suc n) (suc m) = (refl, refl)

breaks : (p n m : ℕ) → (is_live (at_zero n (Passes []) (at_zero m (Stops [] (AtProp p)) (Passes []))) ≡ not (fails n m)) × (is_broken (at_zero n (Passes []) (at_zero m (Stops [] (AtProp p)) (Passes []))) ≡ (true && fails n m))
breaks p zero m = (refl, refl)
breaks p (suc n) zero = (refl, refl)
breaks p (suc n) (suc m) = (refl, refl)

does_pass : (v : Valuation) (s : Step) (act : Act) (r : List ℕ) → s.act ≡ act → act_walk v act ≡ Passes r → Does v s true false
does_pass v s act r e p =
    let w : step_walk v s ≡ at_zero (v.term s.guard.0).value (Passes []) (Passes r) = ap (λ a. at_zero (v.term s.guard.0).value (Passes []) (act_walk v a)) e ∙ ap (λ u. at_zero (v.term s.guard.0).value (Passes []) u) p in
    let h = passes (v.term s.guard.0).value r in
    record { goes_on = ap is_live w ∙ h.0; breaks_off = ap is_broken w ∙ h.1 }

pub does_free : (v : Valuation) (s : Step) (x : VarId) → s.act ≡ Free x → Does v s true false
does_free v s x e = does_pass v s (Free x) ((v.var x.0).value ∷ []) e refl

pub does_set : (v : Valuation) (s : Step) (x : VarId) (t : TermId) → s.act ≡ Set x t → Does v s true false
does_set v s x t e = does_pass v s (Set x t) [] e refl

pub does_cut : (v : Valuation) (s : Step) (t : TermId) → s.act ≡ Cut t → Does v s (not (fails (v.term s.guard.0).value (v.term t.0).value)) (false && fails (v.term s.guard.0).value (v.term t.0).value)
does_cut v s t e =
    let w : step_walk v s ≡ at_zero (v.term s.guard.0).value (Passes []) (act_walk v (Cut t)) = ap (λ a. at_zero (v.term s.guard.0).value (Passes []) (act_walk v a)) e in
    let h = cuts (v.term s.guard.0).value (v.term t.0).value in
    record { goes_on = ap is_live w ∙ h.0; breaks_off = ap is_broken w ∙ h.1 }

pub does_prop : (v : Valuation) (s : Step) (p : ℕ) (t : TermId) → s.act ≡ Prop p t → Does v s (not (fails (v.term s.guard.0).value (v.term t.0).value)) (true && fails (v.term s.guard.0).value (v.term t.0).value)
does_prop v s p t e =
    let w : step_walk v s ≡ at_zero (v.term s.guard.0).value (Passes []) (act_walk v (Prop p t)) = ap (λ a. at_zero (v.term s.guard.0).value (Passes []) (act_walk v a)) e in
    let h = breaks p (v.term s.guard.0).value (v.term t.0).value in
    record { goes_on = ap is_live w ∙ h.0; breaks_off = ap is_broken w ∙ h.1 }

pub live_more : (v : Valuation) (list : List Step) (k : ℕ) (s : Step) (b c : Bool) → IsNextStep list k s → Does v s b c → is_live (walk v (take (k + 1) list)) ≡ (is_live (walk v (take k list)) && b)
live_more v list k s b c n d =
    ap (λ l. is_live (walk v l)) n.more ∙ ap is_live (walk_push v (take k list) s) ∙ live_then (walk v (take k list)) (step_walk v s) ∙ ap (λ x. is_live (walk v (take k list)) && x) d.goes_on

pub broken_more : (v : Valuation) (list : List Step) (k : ℕ) (s : Step) (b c : Bool) → IsNextStep list k s → Does v s b c → is_broken (walk v (take (k + 1) list)) ≡ (is_broken (walk v (take k list)) || (is_live (walk v (take k list)) && c))
broken_more v list k s b c n d =
    ap (λ l. is_broken (walk v l)) n.more ∙ ap is_broken (walk_push v (take k list) s) ∙ broken_then (walk v (take k list)) (step_walk v s) ∙ ap (λ x. is_broken (walk v (take k list)) || (is_live (walk v (take k list)) && x)) d.breaks_off

-- the gates of the steps that are left
pub step_gates_rest : (g : Graph) (list : List Step) (k : ℕ) (s : Step) → IsNextStep list k s → step_gates g (drop k list) ≡ act_gates g s.act + step_gates g (drop (k + 1) list)
step_gates_rest g list k s n = ap (step_gates g) n.rest ∙ sum_by-cons (λ (s : Step). act_gates g s.act) s (drop (k + 1) list)
