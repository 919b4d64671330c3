-- What an assignment reads: words of the widths read, which are the choices that give just this assignment's reads.
use Rattle.std.proofs.Common.{◌≡◌, ℕ, zero, suc, ◌^◌, ◌<◌, List, [], ◌∷◌, ◌++◌, length, Some, refl, sym, ap, ◌∙◌, subst}
use Rattle.std.specs.Prelude.{slice_get}
use Rattle.std.proofs.Math.Nat.{mod-eq_of_lt}
use Rattle.bits_core.specs.Word.{at_zero}
use Rattle.word_eqs.specs.declared.list.Act.{Act}
use Rattle.word_eqs.specs.declared.list.Act.TheVariants.{Free, Set, Cut, Prop}
use Rattle.word_eqs.specs.declared.list.Step.{Step}
use Rattle.word_eqs.specs.Graph.{Graph, width_of_var}
use Rattle.word_eqs.specs.Meaning.{Values, FitsVars}
use Rattle.word_eqs.specs.Guarded.{Walk, Passes, Stops, Stop, AtCut, AtProp, walk, walk_then, act_walk, choices_read, widths_read, FitsAct, FitsStep}
use Rattle.word_eqs.specs.Assignments.{reduced}
use Rattle.list_laws.specs.Matched.{ReadsFit}
use Rattle.list_laws.proofs.Matching.{reads_then, sized}

-- numbers of given widths
abbrev pub Below : (widths numbers : List ℕ) → Type 0
Below [] [] = Unit {0}
Below [] (n ∷ numbers) = ⊥
Below (w ∷ widths) [] = ⊥
Below (w ∷ widths) (n ∷ numbers) = (n < 2 ^ w) × Below widths numbers

module _ (g : Graph) (v : Values) (f : FitsVars v.var g) where
  below_after : (u w : Walk) (ws rs : List ℕ) → Below ws rs → Below (choices_read u) (choices_read w) → Below (choices_read (walk_then (Passes ws) u)) (choices_read (walk_then (Passes rs) w))
  below_after u w ws rs h h' = subst (λ l. Below l (choices_read (walk_then (Passes rs) w))) (sym (reads_then ws u)) (subst (Below (ws ++ choices_read u)) (sym (reads_then rs w)) (joined ws rs h))
    where
      joined : (ws rs : List ℕ) → Below ws rs → Below (ws ++ choices_read u) (rs ++ choices_read w)
      joined [] [] h = h'
      joined [] (r ∷ rs) h = absurd h
      joined (w ∷ ws) [] h = absurd h
      joined (w ∷ ws) (r ∷ rs) h = (h.0, joined ws rs h.1)

  below_at : (n : ℕ) (stop : Stop) (u w : Walk) → Below (choices_read u) (choices_read w) → Below (choices_read (walk_then (at_zero n (Stops [] stop) (Passes [])) u)) (choices_read (walk_then (at_zero n (Stops [] stop) (Passes [])) w))
  below_at zero stop u w h = tt
  below_at (suc n) stop u w h = below_after u w [] [] tt h

  below_act : (act : Act) → FitsAct g act → (u w : Walk) → Below (choices_read u) (choices_read w) → Below (choices_read (walk_then (act_walk (sized g v) act) u)) (choices_read (walk_then (act_walk v act) w))
  below_act (Free x) fit u w h = below_after u w (width_of_var g x.0 ∷ []) ((v.var x.0).value ∷ []) ((f.at x.0 fit).below, tt) h
  below_act (Set x t) fit u w h = below_after u w [] [] tt h
  below_act (Cut t) fit u w h = below_at (v.term t.0).value AtCut u w h
  below_act (Prop p t) fit u w h = below_at (v.term t.0).value (AtProp p) u w h

  below_step : (m : ℕ) (s : Step) → FitsStep g s → (u w : Walk) → Below (choices_read u) (choices_read w) → Below (choices_read (walk_then (at_zero m (Passes []) (act_walk (sized g v) s.act)) u)) (choices_read (walk_then (at_zero m (Passes []) (act_walk v s.act)) w))
  below_step zero s fit u w h = below_after u w [] [] tt h
  below_step (suc m) s fit u w h = below_act s.act fit.act u w h

  -- what is read has the widths read
  reads_below : (list : List Step) → ((k : ℕ) (s : Step) → slice_get list k ≡ Some s → FitsStep g s) → Below (widths_read g v list) (choices_read (walk v list))
  reads_below [] fit = tt
  reads_below (s ∷ list) fit = below_step (v.term s.guard.0).value s (fit 0 s refl) (walk (sized g v) list) (walk v list) (reads_below list (λ k t at. fit (suc k) t at))

reduced_below : (ws rs : List ℕ) → Below ws rs → reduced ws rs ≡ rs
reduced_below [] [] h = refl
reduced_below [] (r ∷ rs) h = absurd h
reduced_below (w ∷ ws) [] h = absurd h
reduced_below (w ∷ ws) (r ∷ rs) h = ap (λ n. n ∷ reduced ws rs) (mod-eq_of_lt h.0) ∙ ap (λ l. r ∷ l) (reduced_below ws rs h.1)

length_below : (ws rs : List ℕ) → Below ws rs → length rs ≡ length ws
length_below [] [] h = refl
length_below [] (r ∷ rs) h = absurd h
length_below (w ∷ ws) [] h = absurd h
length_below (w ∷ ws) (r ∷ rs) h = ap suc (length_below ws rs h.1)

pub reads_are_fit : ReadsFit
reads_are_fit g list v o assigns =
    let below = reads_below g v assigns.respects.vars list o.steps in
    (length_below _ _ below, reduced_below _ _ below)
