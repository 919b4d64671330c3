-- Trails, one after the other, and as walks.
use Rattle.std.proofs.Common.{◌≡◌, ℕ, zero, suc, List, [], ◌∷◌, ◌++◌, refl, sym, ap, ◌∙◌, append_assoc, append-nil}
use Rattle.std.specs.Prelude.{Some, slice_get}
use Rattle.std.proofs.lemmas.List.{map-append}
use Rattle.bits_core.specs.Word.{Word, at_zero}
use Rattle.word_eqs.specs.declared.list.Act.{Act}
use Rattle.word_eqs.specs.declared.list.Act.TheVariants.{Free, Set, Cut, Prop}
use Rattle.word_eqs.specs.declared.list.Step.{Step}
use Rattle.word_eqs.specs.Graph.{Graph, width_of_var}
use Rattle.word_eqs.specs.Guarded.{Stop, AtCut, AtProp, Walk, Passes, Stops, walk, walk_then, step_walk, act_walk, FitsAct, FitsStep}
use Rattle.word_eqs.specs.Meaning.{Values, FitsVars}
use Rattle.trails.specs.Trails.{Trail, Through, Halts, values_of, widths_of, trail_then, act_trail, step_trail, trail}

pub then_nothing : (t : Trail) → trail_then (Through []) t ≡ t
then_nothing (Through r) = refl
then_nothing (Halts r e) = refl

pub nothing_then : (t : Trail) → trail_then t (Through []) ≡ t
nothing_then (Through r) = ap Through (append-nil r)
nothing_then (Halts r e) = refl

pub then_assoc : (a b c : Trail) → trail_then (trail_then a b) c ≡ trail_then a (trail_then b c)
then_assoc (Halts r e) b c = refl
then_assoc (Through r) (Halts r' e) c = refl
then_assoc (Through r) (Through r') (Through r'') = ap Through (append_assoc r r' r'')
then_assoc (Through r) (Through r') (Halts r'' e) = ap (λ l. Halts l e) (append_assoc r r' r'')

pub trail-append : (v : Values) (l m : List Step) → trail v (l ++ m) ≡ trail_then (trail v l) (trail v m)
trail-append v [] m = sym (then_nothing (trail v m))
trail-append v (s ∷ l) m = ap (trail_then (step_trail v s)) (trail-append v l m) ∙ sym (then_assoc (step_trail v s) (trail v l) (trail v m))

pub trail_one : (v : Values) (s : Step) → trail v (s ∷ []) ≡ step_trail v s
trail_one v s = nothing_then (step_trail v s)

-- a trail as a walk, by its values and by its widths

abbrev pub numbered : Trail → Walk
numbered (Through r) = Passes (values_of r)
numbered (Halts r e) = Stops (values_of r) e

abbrev pub widthed : Trail → Walk
widthed (Through r) = Passes (widths_of r)
widthed (Halts r e) = Stops (widths_of r) e

numbered_then : (a b : Trail) → numbered (trail_then a b) ≡ walk_then (numbered a) (numbered b)
numbered_then (Halts r e) b = refl
numbered_then (Through r) (Through r') = ap Passes (map-append (λ (a : Word). a.value) r r')
numbered_then (Through r) (Halts r' e) = ap (λ l. Stops l e) (map-append (λ (a : Word). a.value) r r')

widthed_then : (a b : Trail) → widthed (trail_then a b) ≡ walk_then (widthed a) (widthed b)
widthed_then (Halts r e) b = refl
widthed_then (Through r) (Through r') = ap Passes (map-append (λ (a : Word). a.width) r r')
widthed_then (Through r) (Halts r' e) = ap (λ l. Stops l e) (map-append (λ (a : Word). a.width) r r')

at_stop : (n : ℕ) (e : Stop) → numbered (at_zero n (Halts [] e) (Through [])) ≡ at_zero n (Stops [] e) (Passes [])
at_stop zero e = refl
at_stop (suc n) e = refl

at_stop_widths : (n : ℕ) (e : Stop) → widthed (at_zero n (Halts [] e) (Through [])) ≡ at_zero n (Stops [] e) (Passes [])
at_stop_widths zero e = refl
at_stop_widths (suc n) e = refl

act_numbered : (v : Values) (act : Act) → numbered (act_trail v act) ≡ act_walk v act
act_numbered v (Free x) = refl
act_numbered v (Set x t) = refl
act_numbered v (Cut t) = at_stop (v.term t.0).value AtCut
act_numbered v (Prop p t) = at_stop (v.term t.0).value (AtProp p)

step_numbered : (v : Values) (n : ℕ) (act : Act) → numbered (at_zero n (Through []) (act_trail v act)) ≡ at_zero n (Passes []) (act_walk v act)
step_numbered v zero act = refl
step_numbered v (suc n) act = act_numbered v act

pub walk_is : (v : Values) (list : List Step) → numbered (trail v list) ≡ walk v list
walk_is v [] = refl
walk_is v (s ∷ list) = numbered_then (step_trail v s) (trail v list) ∙ ap (λ w. walk_then w (numbered (trail v list))) (step_numbered v (v.term s.guard.0).value s.act) ∙ ap (walk_then (step_walk v s)) (walk_is v list)

no_values : (r : List Word) → values_of r ≡ [] → r ≡ []
no_values [] e = refl
no_values (a ∷ r) e = cc

passes_is : (t : Trail) (r : List ℕ) → numbered t ≡ Passes r → r ≡ [] → t ≡ Through []
passes_is (Through r') r e is = ap Through (no_values r' (let d : values_of r' ≡ r = cc in d ∙ is))
passes_is (Halts r' stop) r e is = cc

stops_is : (t : Trail) (r : List ℕ) (p : Stop) → numbered t ≡ Stops r p → r ≡ [] → t ≡ Halts [] p
stops_is (Through r') r p e is = cc
stops_is (Halts r' stop) r p e is =
    let d : values_of r' ≡ r = cc in
    let q : stop ≡ p = cc in
    ap (λ l. Halts l stop) (no_values r' (d ∙ is)) ∙ ap (Halts []) q

-- a walk that reads nothing, as a trail
pub passes_trail : (v : Values) (list : List Step) → walk v list ≡ Passes [] → trail v list ≡ Through []
passes_trail v list e = passes_is (trail v list) [] (walk_is v list ∙ e) refl

pub stops_trail : (v : Values) (list : List Step) (p : Stop) → walk v list ≡ Stops [] p → trail v list ≡ Halts [] p
stops_trail v list p e = stops_is (trail v list) [] p (walk_is v list ∙ e) refl

-- the variables' widths in the place of their values
abbrev pub by_width : Graph → Values → Values
by_width g v = record { var = λ x. record { width = 0; value = width_of_var g x }; term = v.term }

module _ (g : Graph) (v : Values) (f : FitsVars v.var g) where
  act_widthed : (act : Act) → FitsAct g act → widthed (act_trail v act) ≡ act_walk (by_width g v) act
  act_widthed (Free x) fit = ap (λ w. Passes (w ∷ [])) (f.at x.0 fit).width
  act_widthed (Set x t) fit = refl
  act_widthed (Cut t) fit = at_stop_widths (v.term t.0).value AtCut
  act_widthed (Prop p t) fit = at_stop_widths (v.term t.0).value (AtProp p)

  step_widthed : (n : ℕ) (act : Act) → FitsAct g act → widthed (at_zero n (Through []) (act_trail v act)) ≡ at_zero n (Passes []) (act_walk (by_width g v) act)
  step_widthed zero act fit = refl
  step_widthed (suc n) act fit = act_widthed act fit

  pub widths_are : (list : List Step) → ((k : ℕ) (s : Step) → slice_get list k ≡ Some s → FitsStep g s) → widthed (trail v list) ≡ walk (by_width g v) list
  widths_are [] fit = refl
  widths_are (s ∷ list) fit = widthed_then (step_trail v s) (trail v list) ∙ ap (λ w. walk_then w (widthed (trail v list))) (step_widthed (v.term s.guard.0).value s.act (fit 0 s refl).act)
      ∙ ap (walk_then (step_walk (by_width g v) s)) (widths_are list (λ k t at. fit (suc k) t at))
