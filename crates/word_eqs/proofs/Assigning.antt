-- Each assignment of the variables of a list in order makes a valuation that sets what the list sets.
use Rattle.std.proofs.Common.{◌≡◌, ℕ, zero, suc, ◌+◌, ◌^◌, ◌<◌, Bool, true, false, cond, if◌then◌else◌, List, [], ◌∷◌, ◌++◌, length, take, drop, Some, refl, sym, ap, ◌∙◌, subst, arith}
use Rattle.std.specs.Prelude.{slice_get, Contains, nat_eq}
use Rattle.std.proofs.lemmas.Bool.Decides.{nat_tests}
use Rattle.std.proofs.lemmas.List.Sums.{sum_by-cons, sum_by-append}
use Rattle.bits_core.specs.Word.{Word}
use Rattle.word_eqs.specs.declared.term.VarId.{VarId}
use Rattle.word_eqs.specs.declared.list.Act.{Act}
use Rattle.word_eqs.specs.declared.list.Act.TheVariants.{Free, Set, Cut, Prop}
use Rattle.word_eqs.specs.declared.list.Step.{Step}
use Rattle.word_eqs.specs.Graph.{Graph, IsGraph, width_of_var}
use Rattle.word_eqs.specs.Meaning.{Values, Respects, FitsVars, IsWordOf, meaning}
use Rattle.word_eqs.specs.Guarded.{Assigns, SetsAs, gives, givers, act_terms, FitsAct, FitsStep, IsOrdered}
use Rattle.word_eqs.proofs.Evals.{meaning_values, meaning_respects, words_of_terms}
use Rattle.word_eqs.proofs.Uses.{used_alone, uses_there}

-- an assignment with another word for one variable
abbrev pub with_word : (ℕ → Word) → ℕ → Word → ℕ → Word
with_word a x b y = if nat_eq y x then b else a y

-- the words of the variables after a step
abbrev pub after_act : Graph → Act → (ℕ → Word) → ℕ → Word
after_act g (Free x) a = a
after_act g (Set x t) a = with_word a x.0 ((meaning a g).term t.0)
after_act g (Cut t) a = a
after_act g (Prop p t) a = a

-- the words of the variables after a list
abbrev pub after_list : Graph → List Step → (ℕ → Word) → ℕ → Word
after_list g [] a = a
after_list g (s ∷ list) a = after_list g list (after_act g s.act a)

after-append : (g : Graph) (xs ys : List Step) (a : ℕ → Word) → after_list g (xs ++ ys) a ≡ after_list g ys (after_list g xs a)
after-append g [] ys a = refl
after-append g (s ∷ xs) ys a = after-append g xs ys (after_act g s.act a)

-- what a step doesn't give stays
act_keeps : (g : Graph) (act : Act) (a : ℕ → Word) (x : ℕ) → gives x act ≡ false → after_act g act a x ≡ a x
act_keeps g (Free y) a x e = refl
act_keeps g (Set y t) a x e = ap (λ b. if b then (meaning a g).term t.0 else a x) e
act_keeps g (Cut t) a x e = refl
act_keeps g (Prop p t) a x e = refl

givers-cons : (x : ℕ) (s : Step) (list : List Step) → givers x (s ∷ list) ≡ cond (gives x s.act) 1 0 + givers x list
givers-cons x s list = sum_by-cons (λ (s : Step). cond (gives x s.act) 1 0) s list

givers-append : (x : ℕ) (xs ys : List Step) → givers x (xs ++ ys) ≡ givers x xs + givers x ys
givers-append x xs ys = sum_by-append (λ (s : Step). cond (gives x s.act) 1 0) xs ys

one_more : (x : ℕ) (s : Step) (list : List Step) (b : Bool) → gives x s.act ≡ b → givers x (s ∷ list) ≡ cond b 1 0 + givers x list
one_more x s list b f = givers-cons x s list ∙ ap (λ b. cond b 1 0 + givers x list) f

gives_none : (x : ℕ) (s : Step) (list : List Step) (b : Bool) → gives x s.act ≡ b → givers x (s ∷ list) ≡ 0 → (b ≡ false) × (givers x list ≡ 0)
gives_none x s list true f e = let c : givers x (s ∷ list) ≡ 1 + givers x list = one_more x s list true f in absurd (omega arith)
gives_none x s list false f e = let c : givers x (s ∷ list) ≡ 0 + givers x list = one_more x s list false f in (refl, omega arith)

list_keeps : (g : Graph) (list : List Step) (a : ℕ → Word) (x : ℕ) → givers x list ≡ 0 → after_list g list a x ≡ a x
list_keeps g [] a x e = refl
list_keeps g (s ∷ list) a x e =
    let h = gives_none x s list (gives x s.act) refl e in
    list_keeps g list (after_act g s.act a) x h.1 ∙ act_keeps g s.act a x h.0

-- a list, taken apart at a step
apart : (list : List Step) (k : ℕ) (s : Step) → slice_get list k ≡ Some s → list ≡ take k list ++ s ∷ drop (suc k) list
apart [] k s at = cc
apart (r ∷ list) zero s at = cc
apart (r ∷ list) (suc k) s at = ap (λ l. r ∷ l) (apart list k s at)

-- the words of the variables fit after each step
fits_after : (g : Graph) (act : Act) (a : ℕ → Word) → IsGraph g → FitsAct g act → FitsVars a g → FitsVars (after_act g act a) g
fits_after g (Free x) a h f v = v
fits_after g (Set x t) a h f v = record { at = λ y lt. on y lt (nat_eq y x.0) refl }
  where
    on : (y : ℕ) → y < length g.vars → (b : Bool) → nat_eq y x.0 ≡ b → IsWordOf (width_of_var g y) (if b then (meaning a g).term t.0 else a y)
    on y lt true e =
        let is : y ≡ x.0 = grind (arith, nat_tests) in
        let w = words_of_terms (meaning a g) g h (meaning_respects a g h v) t.0 f.1 in
        let wide : ((meaning a g).term t.0).width ≡ width_of_var g y = w.1 ∙ f.2 ∙ sym (ap (width_of_var g) is) in
        record { width = wide; below = subst (λ m. ((meaning a g).term t.0).value < 2 ^ m) wide w.0.below }
    on y lt false e = v.at y lt
fits_after g (Cut t) a h f v = v
fits_after g (Prop p t) a h f v = v

fits_list : (g : Graph) (list : List Step) (a : ℕ → Word) → IsGraph g → ((k : ℕ) (s : Step) → slice_get list k ≡ Some s → FitsStep g s) → FitsVars a g → FitsVars (after_list g list a) g
fits_list g [] a h f v = v
fits_list g (s ∷ list) a h f v = fits_list g list (after_act g s.act a) h (λ k t at. f (suc k) t at) (fits_after g s.act a h (f 0 s refl).act v)

-- what the list sets, and what it leaves free

pub record IsAssigned (g : Graph) (list : List Step) (a : ℕ → Word) (v : Values) : Type 0 where
  pub respects : Respects v g
  pub sets : Assigns v list
  pub free : (k : ℕ) (s : Step) (x : VarId) → slice_get list k ≡ Some s → s.act ≡ Free x → v.var x.0 ≡ a x.0

-- the words at the end, by those before a step
final_is : (g : Graph) (list : List Step) (a : ℕ → Word) (k : ℕ) (s : Step) → slice_get list k ≡ Some s → after_list g list a ≡ after_list g (drop (suc k) list) (after_act g s.act (after_list g (take k list) a))
final_is g list a k s at = ap (λ l. after_list g l a) (apart list k s at) ∙ after-append g (take k list) (s ∷ drop (suc k) list) a

counts : (list : List Step) (k : ℕ) (s : Step) (x : ℕ) (b : Bool) → slice_get list k ≡ Some s → gives x s.act ≡ b → givers x list ≡ givers x (take k list) + (cond b 1 0 + givers x (drop (suc k) list))
counts list k s x b at e = ap (givers x) (apart list k s at) ∙ givers-append x (take k list) (s ∷ drop (suc k) list) ∙ ap (λ n. givers x (take k list) + n) (one_more x s (drop (suc k) list) b e)

-- a variable that was given its word before a step has it at the end
given_before : (g : Graph) (list : List Step) (a : ℕ → Word) (k : ℕ) (s : Step) (x : ℕ) → slice_get list k ≡ Some s → givers x list ≡ 1 → givers x (take k list) ≡ 1 → after_list g (take k list) a x ≡ after_list g list a x
given_before g list a k s x at once p = on (gives x s.act) refl
  where
    on : (b : Bool) → gives x s.act ≡ b → after_list g (take k list) a x ≡ after_list g list a x
    on true e = let c : givers x list ≡ givers x (take k list) + (1 + givers x (drop (suc k) list)) = counts list k s x true at e in absurd (omega arith)
    on false e =
        let c : givers x list ≡ givers x (take k list) + (0 + givers x (drop (suc k) list)) = counts list k s x false at e in
        let a1 : ℕ → Word = after_list g (take k list) a in
        sym (ap (λ (f : ℕ → Word). f x) (final_is g list a k s at) ∙ list_keeps g (drop (suc k) list) (after_act g s.act a1) x (omega arith) ∙ act_keeps g s.act a1 x e)

-- a variable that a step gives its word has it from that step alone
given_here : (g : Graph) (list : List Step) (a : ℕ → Word) (k : ℕ) (s : Step) (x : ℕ) → slice_get list k ≡ Some s → givers x list ≡ 1 → gives x s.act ≡ true → (givers x (take k list) ≡ 0) × (after_list g list a x ≡ after_act g s.act (after_list g (take k list) a) x)
given_here g list a k s x at once e =
    let c : givers x list ≡ givers x (take k list) + (1 + givers x (drop (suc k) list)) = counts list k s x true at e in
    let a1 : ℕ → Word = after_list g (take k list) a in
    (omega arith, ap (λ (f : ℕ → Word). f x) (final_is g list a k s at) ∙ list_keeps g (drop (suc k) list) (after_act g s.act a1) x (omega arith))

same_number : (x : ℕ) → nat_eq x x ≡ true
same_number x = grind (arith, nat_tests)

sets_as : (g : Graph) (list : List Step) (a : ℕ → Word) (k : ℕ) (s : Step) → IsGraph g → IsOrdered g list → slice_get list k ≡ Some s → (act : Act) → s.act ≡ act → SetsAs (meaning (after_list g list a) g) act
sets_as g list a k s h o at (Free x) e = tt
sets_as g list a k s h o at (Set x t) e =
    let f : FitsAct g (Set x t) = subst (FitsAct g) e (o.steps k s at).act in
    let gv : gives x.0 s.act ≡ true = ap (gives x.0) e ∙ same_number x.0 in
    let a1 : ℕ → Word = after_list g (take k list) a in
    let here = given_here g list a k s x.0 at (o.once x.0 f.0) gv in
    let set : after_act g s.act a1 x.0 ≡ (meaning a1 g).term t.0 = ap (λ act. after_act g act a1 x.0) e ∙ ap (λ b. if b then (meaning a1 g).term t.0 else a1 x.0) (same_number x.0) in
    let named : Contains (s.guard.0 ∷ act_terms s.act) t.0 = subst (λ act. Contains (s.guard.0 ∷ act_terms act) t.0) (sym e) (1, omega arith, refl) in
    here.1 ∙ set ∙ used_alone (meaning a1 g) (meaning (after_list g list a) g) g h (meaning_values a1 g h) (meaning_values (after_list g list a) g h) t.0 f.1
    (λ y u. given_before g list a k s y at (o.once y (uses_there g h u)) (o.before k s at t.0 y named u))
sets_as g list a k s h o at (Cut t) e = tt
sets_as g list a k s h o at (Prop p t) e = tt

-- each assignment of the variables makes a valuation of a list in order
pub assigned : (g : Graph) (list : List Step) (a : ℕ → Word) → IsGraph g → IsOrdered g list → FitsVars a g → IsAssigned g list a (meaning (after_list g list a) g)
assigned g list a h o v = record {
  respects = meaning_respects (after_list g list a) g h (fits_list g list a h o.steps v);
  sets = record { at = λ k s at. sets_as g list a k s h o at s.act refl };
  free = λ k s x at e.
      let f : x.0 < length g.vars = subst (FitsAct g) e (o.steps k s at).act in
      let gv : gives x.0 s.act ≡ true = ap (gives x.0) e ∙ same_number x.0 in
      let a1 : ℕ → Word = after_list g (take k list) a in
      let here = given_here g list a k s x.0 at (o.once x.0 f) gv in
      here.1 ∙ ap (λ act. after_act g act a1 x.0) e ∙ list_keeps g (take k list) a x.0 here.0;
}
