-- A list reads the same under valuations that agree on its variables and terms.
use Rattle.std.proofs.Common.{◌≡◌, ℕ, zero, suc, ◌+◌, ◌<◌, ◌≤◌, ◌^◌, ◌%◌, Bool, List, [], ◌∷◌, ◌++◌, length, map, take, drop, Some, refl, sym, ap, ◌∙◌, arith}
use Rattle.std.specs.Prelude.{slice_get}
use Rattle.std.proofs.Math.Pow.{pow_mono}
use Rattle.std.proofs.Math.Nat.{mod-eq_of_lt}
use borrow.Author.Count.{below_more}
use Rattle.std.proofs.lemmas.List.{map-append, take_more, length-map, get_or_append_left}
use Rattle.std.proofs.Math.Seq.{length-take-le, get_or-append_seam}
use Rattle.bitblast.proofs.Numbers.{number_of-below}
use Rattle.bits_core.specs.Word.{Word, word, at_zero}
use Rattle.word_eqs.specs.declared.term.VarId.{VarId}
use Rattle.word_eqs.specs.declared.list.Act.{Act}
use Rattle.word_eqs.specs.declared.list.Act.TheVariants.{Free, Set, Cut, Prop}
use Rattle.word_eqs.specs.declared.list.Step.{Step}
use Rattle.word_eqs.specs.Graph.{Graph, IsGraph, width_of_var}
use Rattle.word_eqs.specs.Guarded.{Walk, Passes, Stops, AtCut, AtProp, walk, walk_then, act_walk, step_walk, choices_read, FitsAct, FitsStep, IsOrdered}
use Rattle.word_eqs.specs.Meaning.{Values, AreValues, look, word_at}
use Rattle.word_eqs.proofs.Evals.{one_meaning}
use Rattle.arrayvec.specs.ArrayVec.{ArrayVec}
use Rattle.gate_net.specs.declared.net.Edge.{Edge}
use Rattle.bitblast.specs.Blasted.{AreBits}
use Rattle.bitblast.specs.Circuit.{number_of}
use Rattle.bitblast.specs.Wires.{edges_at}
use Rattle.word_eqs.specs.Assignments.{IsAssignment}
use Rattle.unwound.specs.Covers.{AreNarrow}
use Rattle.lifting.specs.Lift.{values_in, FitsWords, FitsActWords, IsNarrowAct, IsNarrowStep, AreWords, none_if}

same_act : (g : Graph) (v w : Values) → ((x : ℕ) → x < length g.vars → v.var x ≡ w.var x) → ((t : ℕ) → t < length g.terms → v.term t ≡ w.term t) → (act : Act) → FitsAct g act → act_walk v act ≡ act_walk w act
same_act g v w hv ht (Free x) f = ap (λ (a : Word). Passes (a.value ∷ [])) (hv x.0 f)
same_act g v w hv ht (Set x t) f = refl
same_act g v w hv ht (Cut t) f = ap (λ (a : Word). at_zero a.value (Stops [] AtCut) (Passes [])) (ht t.0 f)
same_act g v w hv ht (Prop p t) f = ap (λ (a : Word). at_zero a.value (Stops [] (AtProp p)) (Passes [])) (ht t.0 f)

pub same_walk : (g : Graph) (v w : Values) → ((x : ℕ) → x < length g.vars → v.var x ≡ w.var x) → ((t : ℕ) → t < length g.terms → v.term t ≡ w.term t) →
    (list : List Step) → ((k : ℕ) (s : Step) → slice_get list k ≡ Some s → FitsStep g s) → walk v list ≡ walk w list
same_walk g v w hv ht [] f = refl
same_walk g v w hv ht (s ∷ list) f =
    let here = f 0 s refl in
    ap (λ (a : Word). walk_then (at_zero a.value (Passes []) (act_walk v s.act)) (walk v list)) (ht s.guard.0 here.guard)
    ∙ ap (λ a. walk_then (at_zero (w.term s.guard.0).value (Passes []) a) (walk v list)) (same_act g v w hv ht s.act here.act)
    ∙ ap (walk_then (step_walk w s)) (same_walk g v w hv ht list (λ k t at. f (suc k) t at))

-- a word by its parts
word_is : (a : Word) (w n : ℕ) → a.width ≡ w → a.value ≡ n → a ≡ word w n
word_is a w n e f = ap (λ k. word k a.value) e ∙ ap (word w) f

-- what was read is what the assignment reads that the edges show
pub read_is : (g : Graph) (list : List Step) (wires : List (ArrayVec Edge)) (model : List Bool) (env words : List Word) (v : Values) → IsGraph g → IsOrdered g list → AreWords g wires model env →
    AreValues (look (word_at env) words) g.terms → IsAssignment g list v → AreBits (values_in model) v g wires → walk (look (word_at env) words) list ≡ walk v list
read_is g list wires model env words v h o ws vs assigns bits =
    let same : (x : ℕ) → x < length g.vars → word_at env x ≡ v.var x = λ x lt.
    ws.words x lt ∙ sym (word_is (v.var x) (width_of_var g x) (number_of (values_in model) (edges_at wires x)) (assigns.respects.vars.at x lt).width (sym (bits.at x lt))) in
    same_walk g (look (word_at env) words) v same (λ t lt. one_meaning (look (word_at env) words) v g h same vs assigns.respects.terms t lt) list o.steps

drop_at : (list : List Step) (k : ℕ) (s : Step) → slice_get list k ≡ Some s → drop k list ≡ s ∷ drop (suc k) list
drop_at [] k s at = cc
drop_at (r ∷ list) zero s at = let e : r ≡ s = cc in ap (λ (x : Step). x ∷ list) e
drop_at (r ∷ list) (suc k) s at = drop_at list k s at

-- one step more is read
pub read_more : (v : Values) (list : List Step) (k : ℕ) (s : Step) (reads new : List ℕ) (b : Bool) → slice_get list k ≡ Some s → choices_read (walk v list) ≡ reads ++ choices_read (walk v (drop k list)) →
    ((w : Walk) → reads ++ choices_read (walk_then (step_walk v s) w) ≡ new ++ none_if b (choices_read w)) → choices_read (walk v list) ≡ new ++ none_if b (choices_read (walk v (drop (k + 1) list)))
read_more v list k s reads new b at so_far step =
    let e : suc k ≡ k + 1 = omega arith in
    so_far ∙ ap (λ l. reads ++ choices_read (walk v l)) (drop_at list k s at) ∙ step (walk v (drop (suc k) list)) ∙ ap (λ n. new ++ none_if b (choices_read (walk v (drop n list)))) e

-- a number of few edges is small
pub number_small : (a : ℕ → Bool) (es : List Edge) (w n : ℕ) → length es ≤ w → n ≡ number_of a es → n < 2 ^ w
number_small a es w n le e =
    let h = number_of-below a es in
    let p : 2 ^ length es ≤ 2 ^ w = pow_mono le in
    omega arith

module _ (g : Graph) (wires : List (ArrayVec Edge)) (model : List Bool) where
  -- one word more
  pub words_more : (words new : List Word) (x number : ℕ) → x < length g.vars → map (λ (a : Word). a.width) words ≡ take x g.vars →
      ((y : ℕ) → y < x → word_at words y ≡ word (width_of_var g y) (number_of (values_in model) (edges_at wires y))) →
      length (edges_at wires x) ≡ width_of_var g x → number ≡ number_of (values_in model) (edges_at wires x) →
      new ≡ words ++ word (width_of_var g x) (number % 2 ^ width_of_var g x) ∷ [] →
      (map (λ (a : Word). a.width) new ≡ take (x + 1) g.vars) × ((y : ℕ) → y < x + 1 → word_at new y ≡ word (width_of_var g y) (number_of (values_in model) (edges_at wires y)))
  words_more words new x number lt widths each wide is new_is =
      let w : ℕ = width_of_var g x in
      let added : Word = word w (number % 2 ^ w) in
      let len : length words ≡ x = sym (length-map words (λ (a : Word). a.width)) ∙ ap length widths ∙ length-take-le x g.vars (omega arith) in
      let small : number < 2 ^ w = number_small (values_in model) (edges_at wires x) w number (omega (arith, wide)) is in
      let here : added ≡ word w (number_of (values_in model) (edges_at wires x)) = ap (word w) (mod-eq_of_lt small ∙ is) in (
        ap (map (λ (a : Word). a.width)) new_is ∙ map-append (λ (a : Word). a.width) words (added ∷ []) ∙ ap (λ l. l ++ w ∷ []) widths ∙ sym (take_more g.vars x 0 lt),
        λ y l. below_more (λ i. word_at new i ≡ word (width_of_var g i) (number_of (values_in model) (edges_at wires i))) x
            (λ i m. ap (λ l. word_at l i) new_is ∙ get_or_append_left words (added ∷ []) (word 0 0) i (omega arith) ∙ each i m)
            (ap (λ l. word_at l x) new_is ∙ ap (word_at (words ++ added ∷ [])) (sym len) ∙ get_or-append_seam words added [] (word 0 0) ∙ here)
            y l,
      )

-- words for all variables
module _ (g : Graph) (list : List Step) (wires : List (ArrayVec Edge)) (model : List Bool) (env : List Word) (ws : AreWords g wires model env) where
  pub env_length : length env ≡ length g.vars
  env_length = sym (length-map env (λ (a : Word). a.width)) ∙ ap length ws.widths

  fits_act : (terms : ℕ) → terms ≡ length g.terms → (act : Act) → FitsAct g act → FitsActWords (length env) terms act
  fits_act terms e (Free x) f = let l : x.0 < length g.vars = f in omega (arith, env_length)
  fits_act terms e (Set x t) f = tt
  fits_act terms e (Cut t) f = let l : t.0 < length g.terms = f in omega arith
  fits_act terms e (Prop p t) f = let l : t.0 < length g.terms = f in omega arith

  pub fits_words : (terms : ℕ) → terms ≡ length g.terms → (s : Step) → FitsStep g s → FitsWords (length env) terms s
  fits_words terms e s f = record { guard = let l = f.guard in omega arith; act = fits_act terms e s.act f.act }

  narrow_act : (act : Act) → FitsAct g act → ((x : VarId) → act ≡ Free x → width_of_var g x.0 ≤ 64) → ((x : ℕ) → x < length g.vars → length (edges_at wires x) ≡ width_of_var g x) → IsNarrowAct env act
  narrow_act (Free x) f n wide =
      let few : length (edges_at wires x.0) ≤ 64 = let a = n x refl in omega (arith, wide x.0 f) in
      number_small (values_in model) (edges_at wires x.0) 64 (word_at env x.0).value few (ap (λ (a : Word). a.value) (ws.words x.0 f))
  narrow_act (Set x t) f n wide = tt
  narrow_act (Cut t) f n wide = tt
  narrow_act (Prop p t) f n wide = tt

  pub narrow_words : AreNarrow g list → ((x : ℕ) → x < length g.vars → length (edges_at wires x) ≡ width_of_var g x) → (k : ℕ) (s : Step) → slice_get list k ≡ Some s → FitsStep g s → IsNarrowStep env s
  narrow_words narrow wide k s at f = narrow_act s.act f.act (λ x e. narrow.at k s x at e) wide
