-- Each list of choices that is long enough is matched by an assignment of a list in order, which reads the first of them.
use Rattle.std.proofs.Common.{◌≡◌, ℕ, zero, suc, ◌+◌, ◌%◌, ◌^◌, ◌<◌, ◌≤◌, Bool, true, false, cond, if◌then◌else◌, List, [], ◌∷◌, ◌++◌, length, take, Some, refl, sym, ap, ◌∙◌, subst, arith, append_assoc, length-append}
use Rattle.std.specs.Prelude.{slice_get, Contains, nat_eq}
use Rattle.std.proofs.lemmas.Bool.Decides.{nat_tests}
use Rattle.std.proofs.lemmas.List.Sums.{sum_by-cons, sum_by-append}
use Rattle.bits_core.specs.Word.{Word, word, at_zero}
use Rattle.bits_core.proofs.Bounds.{mod_below}
use Rattle.word_eqs.specs.declared.list.Act.{Act}
use Rattle.word_eqs.specs.declared.list.Act.TheVariants.{Free, Set, Cut, Prop}
use Rattle.word_eqs.specs.declared.list.Step.{Step}
use Rattle.word_eqs.specs.Graph.{Graph, IsGraph, width_of_var}
use Rattle.word_eqs.specs.Meaning.{Values, FitsVars, IsWordOf, meaning}
use Rattle.word_eqs.specs.Guarded.{Walk, Passes, Stops, Stop, AtCut, AtProp, walk, walk_then, act_walk, step_walk, choices_read, widths_read, SetsAs, gives, givers, act_terms, FitsAct, FitsStep, IsOrdered}
use Rattle.word_eqs.proofs.Evals.{meaning_values, meaning_respects, words_of_terms}
use Rattle.word_eqs.proofs.Uses.{used_alone}
use Rattle.word_eqs.proofs.Assigning.{with_word, after_list, IsAssigned, assigned}
use Rattle.word_eqs.specs.Assignments.{reduced}
use Rattle.list_laws.specs.Matched.{EachListMatched}

-- the walk, by its reads

pub reads_then : (r : List ℕ) (w : Walk) → choices_read (walk_then (Passes r) w) ≡ r ++ choices_read w
reads_then r (Passes r') = refl
reads_then r (Stops r' e) = refl

reads_stop : (r : List ℕ) (e : Stop) (w : Walk) → choices_read (walk_then (Stops r e) w) ≡ r
reads_stop r e w = refl

-- the valuation whose variables have their widths for values
abbrev pub sized : Graph → Values → Values
sized g v = record { var = λ x. record { width = 0; value = width_of_var g x }; term = v.term }

-- what a step reads where its guard is 0 or not
reads_at : (v : Values) (s : Step) (m : ℕ) (w : Walk) → (v.term s.guard.0).value ≡ m → choices_read (walk_then (step_walk v s) w) ≡ choices_read (walk_then (at_zero m (Passes []) (act_walk v s.act)) w)
reads_at v s m w e = ap (λ n. choices_read (walk_then (at_zero n (Passes []) (act_walk v s.act)) w)) e

-- the first number, and the others
abbrev first_of : List ℕ → ℕ
first_of [] = 0
first_of (n ∷ c) = n

abbrev rest_of : List ℕ → List ℕ
rest_of [] = []
rest_of (n ∷ c) = c

-- the words of the variables after a step, where a free one takes the next choice
abbrev act_taken : Graph → Act → List ℕ → (ℕ → Word) → ℕ → Word
act_taken g (Free x) c a = with_word a x.0 (word (width_of_var g x.0) (first_of c % 2 ^ width_of_var g x.0))
act_taken g (Set x t) c a = with_word a x.0 ((meaning a g).term t.0)
act_taken g (Cut t) c a = a
act_taken g (Prop p t) c a = a

-- the choices left after a step whose guard is 1
abbrev act_left : Act → List ℕ → List ℕ
act_left (Free x) c = rest_of c
act_left (Set x t) c = c
act_left (Cut t) c = c
act_left (Prop p t) c = c

abbrev step_left : Graph → (ℕ → Word) → Step → List ℕ → List ℕ
step_left g a s c = at_zero ((meaning a g).term s.guard.0).value c (act_left s.act c)

-- the words of the variables after a list
abbrev taken : Graph → List Step → List ℕ → (ℕ → Word) → ℕ → Word
taken g [] c a = a
taken g (s ∷ list) c a = taken g list (step_left g a s c) (act_taken g s.act c a)

-- what a step doesn't give stays
act_keeps : (g : Graph) (act : Act) (c : List ℕ) (a : ℕ → Word) (x : ℕ) → gives x act ≡ false → act_taken g act c a x ≡ a x
act_keeps g (Free y) c a x e = ap (λ b. if b then word (width_of_var g y.0) (first_of c % 2 ^ width_of_var g y.0) else a x) e
act_keeps g (Set y t) c a x e = ap (λ b. if b then (meaning a g).term t.0 else a x) e
act_keeps g (Cut t) c a x e = refl
act_keeps g (Prop p t) c a x e = refl

one_more : (x : ℕ) (s : Step) (list : List Step) (b : Bool) → gives x s.act ≡ b → givers x (s ∷ list) ≡ cond b 1 0 + givers x list
one_more x s list b f = sum_by-cons (λ (s : Step). cond (gives x s.act) 1 0) s list ∙ ap (λ b. cond b 1 0 + givers x list) f

givers-append : (x : ℕ) (xs ys : List Step) → givers x (xs ++ ys) ≡ givers x xs + givers x ys
givers-append x xs ys = sum_by-append (λ (s : Step). cond (gives x s.act) 1 0) xs ys

gives_none : (x : ℕ) (s : Step) (list : List Step) (b : Bool) → gives x s.act ≡ b → givers x (s ∷ list) ≡ 0 → (b ≡ false) × (givers x list ≡ 0)
gives_none x s list true f e = let c : givers x (s ∷ list) ≡ 1 + givers x list = one_more x s list true f in absurd (omega arith)
gives_none x s list false f e = let c : givers x (s ∷ list) ≡ 0 + givers x list = one_more x s list false f in (refl, omega arith)

taken_keeps : (g : Graph) (list : List Step) (c : List ℕ) (a : ℕ → Word) (x : ℕ) → givers x list ≡ 0 → taken g list c a x ≡ a x
taken_keeps g [] c a x e = refl
taken_keeps g (s ∷ list) c a x e =
    let h = gives_none x s list (gives x s.act) refl e in
    taken_keeps g list (step_left g a s c) (act_taken g s.act c a) x h.1 ∙ act_keeps g s.act c a x h.0

-- the words of the variables fit
fits_with : (g : Graph) (a : ℕ → Word) (x : ℕ) (w : Word) → IsWordOf (width_of_var g x) w → FitsVars a g → FitsVars (with_word a x w) g
fits_with g a x w i v = record { at = λ y lt. on y lt (nat_eq y x) refl }
  where
    on : (y : ℕ) → y < length g.vars → (b : Bool) → nat_eq y x ≡ b → IsWordOf (width_of_var g y) (if b then w else a y)
    on y lt true e =
        let is : y ≡ x = grind (arith, nat_tests) in
        subst (λ z. IsWordOf (width_of_var g z) w) (sym is) i
    on y lt false e = v.at y lt

fits_act : (g : Graph) (act : Act) (c : List ℕ) (a : ℕ → Word) → IsGraph g → FitsAct g act → FitsVars a g → FitsVars (act_taken g act c a) g
fits_act g (Free x) c a h f v = fits_with g a x.0 _ (record { width = refl; below = mod_below (width_of_var g x.0) (first_of c) }) v
fits_act g (Set x t) c a h f v =
    let w = words_of_terms (meaning a g) g h (meaning_respects a g h v) t.0 f.1 in
    let wide : ((meaning a g).term t.0).width ≡ width_of_var g x.0 = w.1 ∙ f.2 in
    fits_with g a x.0 ((meaning a g).term t.0) (record { width = wide; below = subst (λ m. ((meaning a g).term t.0).value < 2 ^ m) wide w.0.below }) v
fits_act g (Cut t) c a h f v = v
fits_act g (Prop p t) c a h f v = v

fits_taken : (g : Graph) (list : List Step) (c : List ℕ) (a : ℕ → Word) → IsGraph g → ((k : ℕ) (s : Step) → slice_get list k ≡ Some s → FitsStep g s) → FitsVars a g → FitsVars (taken g list c a) g
fits_taken g [] c a h f v = v
fits_taken g (s ∷ list) c a h f v = fits_taken g list (step_left g a s c) (act_taken g s.act c a) h (λ k t at. f (suc k) t at) (fits_act g s.act c a h (f 0 s refl).act v)

-- a list at a seam
at_seam : (pre post : List Step) (s : Step) → slice_get (pre ++ s ∷ post) (length pre) ≡ Some s
at_seam [] post s = refl
at_seam (r ∷ pre) post s = at_seam pre post s

take_seam : (pre post : List Step) (s : Step) → take (length pre) (pre ++ s ∷ post) ≡ pre
take_seam [] post s = refl
take_seam (r ∷ pre) post s = ap (λ l. r ∷ l) (take_seam pre post s)

same_number : (x : ℕ) → nat_eq x x ≡ true
same_number x = grind (arith, nat_tests)

put_there : (a : ℕ → Word) (x : ℕ) (w : Word) → with_word a x w x ≡ w
put_there a x w = ap (λ b. if b then w else a x) (same_number x)

-- the words given so far are those of the valuation
record Agrees (pre : List Step) (a : ℕ → Word) (v : Values) : Type 0 where
  at : (x : ℕ) → givers x pre ≡ 1 → a x ≡ v.var x

-- what is read of the choices by a list
abbrev Reads : Graph → Values → List Step → List ℕ → Type 0
Reads g v post c = choices_read (walk v post) ≡ reduced (widths_read g v post) c

module _ (g : Graph) (h : IsGraph g) (list : List Step) (o : IsOrdered g list) (all : ℕ → Word) (v : Values) (given : IsAssigned g list all v) where
  -- where the list stands, and what is known there
  record Stands (pre post : List Step) (c : List ℕ) (a : ℕ → Word) : Type 0 where
    whole : pre ++ post ≡ list
    agrees : Agrees pre a v
    last : (x : ℕ) → taken g post c a x ≡ all x
    enough : length post ≤ length c

  module _ (pre post : List Step) (s : Step) (c : List ℕ) (a : ℕ → Word) (st : Stands pre (s ∷ post) c a) where
    here : slice_get list (length pre) ≡ Some s
    here = subst (λ l. slice_get l (length pre) ≡ Some s) st.whole (at_seam pre post s)

    before : take (length pre) list ≡ pre
    before = ap (take (length pre)) (sym st.whole) ∙ take_seam pre post s

    -- a term that the step names has its word already
    term_is : (t : ℕ) → t < length g.terms → Contains (s.guard.0 ∷ act_terms s.act) t → (meaning a g).term t ≡ v.term t
    term_is t lt named =
        used_alone (meaning a g) v g h (meaning_values a g h) given.respects.terms t lt
        (λ x u. st.agrees.at x (subst (λ l. givers x l ≡ 1) before (o.before (length pre) s here t x named u)))

    guard_is : (meaning a g).term s.guard.0 ≡ v.term s.guard.0
    guard_is = term_is s.guard.0 (o.steps (length pre) s here).guard (0, omega arith, refl)

    there_of : (x : ℕ) (act : Act) → FitsAct g act → gives x act ≡ true → x < length g.vars
    there_of x (Free y) f e = let is : x ≡ y.0 = grind (arith, nat_tests) in omega arith
    there_of x (Set y t) f e = let is : x ≡ y.0 = grind (arith, nat_tests) in let l : y.0 < length g.vars = f.0 in omega arith
    there_of x (Cut t) f e = cc
    there_of x (Prop p t) f e = cc

    none_after : (x : ℕ) → gives x s.act ≡ true → givers x post ≡ 0
    none_after x e =
        let once : givers x list ≡ 1 = o.once x (there_of x s.act (o.steps (length pre) s here).act e) in
        let whole : givers x list ≡ givers x pre + givers x (s ∷ post) = ap (givers x) (sym st.whole) ∙ givers-append x pre (s ∷ post) in
        let more : givers x (s ∷ post) ≡ 1 + givers x post = one_more x s post true e in
        omega arith

    -- the word that the step gives stays
    final : (x : ℕ) → gives x s.act ≡ true → act_taken g s.act c a x ≡ all x
    final x e = sym (taken_keeps g post (step_left g a s c) (act_taken g s.act c a) x (none_after x e)) ∙ st.last x

    gives_as : (x : ℕ) (act : Act) → s.act ≡ act → gives x act ≡ true → act_taken g act c a x ≡ v.var x
    gives_as x (Free y) e gv =
        let is : x ≡ y.0 = grind (arith, nat_tests) in
        let gv' : gives x s.act ≡ true = ap (gives x) e ∙ gv in
        sym (ap (λ act. act_taken g act c a x) e) ∙ final x gv' ∙ ap all is ∙ sym (given.free (length pre) s y here e) ∙ ap v.var (sym is)
    gives_as x (Set y t) e gv =
        let is : x ≡ y.0 = grind (arith, nat_tests) in
        let f : FitsAct g (Set y t) = subst (FitsAct g) e (o.steps (length pre) s here).act in
        let named : Contains (s.guard.0 ∷ act_terms s.act) t.0 = subst (λ act. Contains (s.guard.0 ∷ act_terms act) t.0) (sym e) (1, omega arith, refl) in
        let sets : v.var y.0 ≡ v.term t.0 = subst (SetsAs v) e (given.sets.at (length pre) s here) in
        ap (act_taken g (Set y t) c a) is ∙ put_there a y.0 ((meaning a g).term t.0) ∙ term_is t.0 f.1 named ∙ sym sets ∙ ap v.var (sym is)
    gives_as x (Cut t) e gv = cc
    gives_as x (Prop p t) e gv = cc

    agrees_on : (x : ℕ) (b : Bool) → gives x s.act ≡ b → givers x (pre ++ s ∷ []) ≡ 1 → act_taken g s.act c a x ≡ v.var x
    agrees_on x true e one = gives_as x s.act refl e
    agrees_on x false e one =
        let whole : givers x (pre ++ s ∷ []) ≡ givers x pre + givers x (s ∷ []) = givers-append x pre (s ∷ []) in
        let none : givers x (s ∷ []) ≡ 0 + 0 = one_more x s [] false e in
        act_keeps g s.act c a x e ∙ st.agrees.at x (omega arith)

    -- the step goes on so
    on_to : length post ≤ length (step_left g a s c) → Stands (pre ++ s ∷ []) post (step_left g a s c) (act_taken g s.act c a)
    on_to enough = record {
      whole = append_assoc pre (s ∷ []) post ∙ st.whole;
      agrees = record { at = λ x one. agrees_on x (gives x s.act) refl one };
      last = st.last;
      enough = enough;
    }

  left_enough : (m : ℕ) (act : Act) (n : ℕ) (c : List ℕ) → suc n ≤ length c → n ≤ length (at_zero m c (act_left act c))
  left_enough zero act n c le = omega arith
  left_enough (suc m) (Free x) n [] le = absurd (omega arith)
  left_enough (suc m) (Free x) n (k ∷ c) le = omega arith
  left_enough (suc m) (Set x t) n c le = omega arith
  left_enough (suc m) (Cut t) n c le = omega arith
  left_enough (suc m) (Prop p t) n c le = omega arith

  -- a test that the list may end at
  tested : (s : Step) (post : List Step) (c : List ℕ) (k n : ℕ) (stop : Stop) →
      act_walk v s.act ≡ at_zero n (Stops [] stop) (Passes []) → act_walk (sized g v) s.act ≡ at_zero n (Stops [] stop) (Passes []) → Reads g v post c →
      choices_read (walk_then (at_zero (suc k) (Passes []) (act_walk v s.act)) (walk v post)) ≡ reduced (choices_read (walk_then (at_zero (suc k) (Passes []) (act_walk (sized g v) s.act)) (walk (sized g v) post))) c
  tested s post c k zero stop e e' r = ap (λ w. choices_read (walk_then w (walk v post))) e ∙ ap (λ w. reduced (choices_read (walk_then w (walk (sized g v) post))) c) (sym e')
  tested s post c k (suc n) stop e e' r =
      ap (λ w. choices_read (walk_then w (walk v post))) e ∙ reads_then [] (walk v post) ∙ r
      ∙ ap (λ l. reduced l c) (sym (reads_then [] (walk (sized g v) post)))
      ∙ ap (λ w. reduced (choices_read (walk_then w (walk (sized g v) post))) c) (sym e')

  -- a step whose guard is 1
  acted : (s : Step) (post : List Step) (c : List ℕ) (a : ℕ → Word) (k : ℕ) (act : Act) → s.act ≡ act → suc (length post) ≤ length c →
      ((x : ℕ) → gives x s.act ≡ true → act_taken g s.act c a x ≡ v.var x) → Reads g v post (act_left s.act c) →
      choices_read (walk_then (at_zero (suc k) (Passes []) (act_walk v s.act)) (walk v post)) ≡ reduced (choices_read (walk_then (at_zero (suc k) (Passes []) (act_walk (sized g v) s.act)) (walk (sized g v) post))) c
  acted s post [] a k act e le gv r = absurd (omega arith)
  acted s post (n ∷ c) a k (Free x) e le gv r =
      let w = width_of_var g x.0 in
      let r' : Reads g v post c = subst (λ act. Reads g v post (act_left act (n ∷ c))) e r in
      let is : v.var x.0 ≡ word w (n % 2 ^ w) =
      sym (gv x.0 (ap (gives x.0) e ∙ same_number x.0)) ∙ ap (λ act. act_taken g act (n ∷ c) a x.0) e ∙ put_there a x.0 (word w (n % 2 ^ w)) in
      ap (λ act. choices_read (walk_then (act_walk v act) (walk v post))) e
      ∙ reads_then ((v.var x.0).value ∷ []) (walk v post)
      ∙ ap (λ (b : Word). b.value ∷ choices_read (walk v post)) is
      ∙ ap (λ l. n % 2 ^ w ∷ l) r'
      ∙ ap (λ l. reduced l (n ∷ c)) (sym (reads_then (w ∷ []) (walk (sized g v) post)))
      ∙ ap (λ act. reduced (choices_read (walk_then (act_walk (sized g v) act) (walk (sized g v) post))) (n ∷ c)) (sym e)
  acted s post (n ∷ c) a k (Set x t) e le gv r =
      let r' : Reads g v post (n ∷ c) = subst (λ act. Reads g v post (act_left act (n ∷ c))) e r in
      ap (λ act. choices_read (walk_then (act_walk v act) (walk v post))) e
      ∙ reads_then [] (walk v post) ∙ r'
      ∙ ap (λ l. reduced l (n ∷ c)) (sym (reads_then [] (walk (sized g v) post)))
      ∙ ap (λ act. reduced (choices_read (walk_then (act_walk (sized g v) act) (walk (sized g v) post))) (n ∷ c)) (sym e)
  acted s post (n ∷ c) a k (Cut t) e le gv r =
      tested s post (n ∷ c) k (v.term t.0).value AtCut (ap (act_walk v) e) (ap (act_walk (sized g v)) e) (subst (λ act. Reads g v post (act_left act (n ∷ c))) e r)
  acted s post (n ∷ c) a k (Prop p t) e le gv r =
      tested s post (n ∷ c) k (v.term t.0).value (AtProp p) (ap (act_walk v) e) (ap (act_walk (sized g v)) e) (subst (λ act. Reads g v post (act_left act (n ∷ c))) e r)

  module _ (s : Step) (post : List Step) (c : List ℕ) (a : ℕ → Word) (le : suc (length post) ≤ length c) (gv : (x : ℕ) → gives x s.act ≡ true → act_taken g s.act c a x ≡ v.var x) where
    stepped : (m : ℕ) → Reads g v post (at_zero m c (act_left s.act c)) →
        choices_read (walk_then (at_zero m (Passes []) (act_walk v s.act)) (walk v post)) ≡ reduced (choices_read (walk_then (at_zero m (Passes []) (act_walk (sized g v) s.act)) (walk (sized g v) post))) c
    stepped zero r = reads_then [] (walk v post) ∙ r ∙ ap (λ l. reduced l c) (sym (reads_then [] (walk (sized g v) post)))
    stepped (suc k) r = acted s post c a k s.act refl le gv r

  matched : (post pre : List Step) (c : List ℕ) (a : ℕ → Word) → Stands pre post c a → Reads g v post c
  matched [] pre c a st = refl
  matched (s ∷ post) pre c a st =
      let m : ℕ = (v.term s.guard.0).value in
      let left_is : step_left g a s c ≡ at_zero m c (act_left s.act c) = ap (λ (b : Word). at_zero b.value c (act_left s.act c)) (guard_is pre post s c a st) in
      let le : length post ≤ length (step_left g a s c) = subst (λ l. length post ≤ length l) (sym left_is) (left_enough m s.act (length post) c st.enough) in
      let next : Reads g v post (step_left g a s c) = matched post (pre ++ s ∷ []) (step_left g a s c) (act_taken g s.act c a) (on_to pre post s c a st le) in
      let next' : Reads g v post (at_zero m c (act_left s.act c)) = subst (Reads g v post) left_is next in
      stepped s post c a st.enough (λ x gv. gives_as pre post s c a st x s.act refl gv) m next'

-- the words of the variables at first
abbrev no_words : Graph → ℕ → Word
no_words g x = word (width_of_var g x) (0 % 2 ^ width_of_var g x)

none_fit : (g : Graph) → FitsVars (no_words g) g
none_fit g = record { at = λ x lt. record { width = refl; below = mod_below (width_of_var g x) 0 } }

-- how many choices a list reads at most
few_at : (n : ℕ) (stop : Stop) → length (choices_read (at_zero n (Stops [] stop) (Passes []))) ≤ 1
few_at zero stop = omega arith
few_at (suc n) stop = omega arith

few_act : (v : Values) (act : Act) → length (choices_read (act_walk v act)) ≤ 1
few_act v (Free x) = omega arith
few_act v (Set x t) = omega arith
few_act v (Cut t) = few_at (v.term t.0).value AtCut
few_act v (Prop p t) = few_at (v.term t.0).value (AtProp p)

few_step : (v : Values) (s : Step) (m : ℕ) → length (choices_read (at_zero m (Passes []) (act_walk v s.act))) ≤ 1
few_step v s zero = omega arith
few_step v s (suc m) = few_act v s.act

then_few : (n : ℕ) (w w' : Walk) → length (choices_read w) ≤ 1 → length (choices_read w') ≤ n → length (choices_read (walk_then w w')) ≤ suc n
then_few n (Passes r) w' le le' = omega (arith, ap length (reads_then r w'), length-append r (choices_read w'))
then_few n (Stops r e) w' le le' = omega arith

few_reads : (v : Values) (list : List Step) → length (choices_read (walk v list)) ≤ length list
few_reads v [] = omega arith
few_reads v (s ∷ list) = then_few (length list) (step_walk v s) (walk v list) (few_step v s (v.term s.guard.0).value) (few_reads v list)

-- numbers that are reduced are so by the first of them
reduced_front : (widths c : List ℕ) → length widths ≤ length c → reduced widths c ≡ reduced widths (take (length widths) c)
reduced_front [] c le = refl
reduced_front (w ∷ widths) [] le = absurd (omega arith)
reduced_front (w ∷ widths) (n ∷ c) le = ap (λ l. n % 2 ^ w ∷ l) (reduced_front widths c (omega arith))

pub each_matched : EachListMatched
each_matched g list c h o le =
    let all : ℕ → Word = taken g list c (no_words g) in
    let v : Values = meaning (after_list g list all) g in
    let given : IsAssigned g list all v = assigned g list all h o (fits_taken g list c (no_words g) h o.steps (none_fit g)) in
    let st : Stands g h list o all v given [] list c (no_words g) = record {
      whole = refl;
      agrees = record { at = λ x e. absurd (omega arith) };
      last = λ x. refl;
      enough = le;
    } in
    let few : length (widths_read g v list) ≤ length list = few_reads (sized g v) list in
    let enough : length (widths_read g v list) ≤ length c = omega arith in
    record {
      v = v;
      assigns = record { respects = given.respects; sets = given.sets };
      enough = enough;
      reads = sym (reduced_front (widths_read g v list) c enough) ∙ sym (matched g h list o all v given list [] c (no_words g) st);
    }
