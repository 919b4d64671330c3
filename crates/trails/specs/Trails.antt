-- What a guarded list does in one assignment: the words that it draws, in order, and how it is ended, if it is.
use Rattle.std.specs.Prelude.{ℕ, List, [], ◌∷◌, ◌++◌, map}
use Rattle.bits_core.specs.Word.{Word, at_zero}
use Rattle.word_eqs.specs.declared.list.Act.{Act}
use Rattle.word_eqs.specs.declared.list.Act.TheVariants.{Free, Set, Cut, Prop}
use Rattle.word_eqs.specs.declared.list.Step.{Step}
use Rattle.word_eqs.specs.Guarded.{Stop, AtCut, AtProp}
use Rattle.word_eqs.specs.Meaning.{Values}

-- the words drawn, with their widths, and what ends the list, if something does
pub data Trail : Type 0 where
  Through : (reads : List Word) → Trail
  Halts : (reads : List Word) (stop : Stop) → Trail

-- the values of words, and their widths
abbrev pub values_of : List Word → List ℕ
values_of reads = map (λ (a : Word). a.value) reads

-- the widths of words
abbrev pub widths_of : List Word → List ℕ
widths_of reads = map (λ (a : Word). a.width) reads

-- one trail after another; what has ended stays so
abbrev pub trail_then : Trail → Trail → Trail
trail_then (Halts r e) t = Halts r e
trail_then (Through r) (Through r') = Through (r ++ r')
trail_then (Through r) (Halts r' e) = Halts (r ++ r') e

-- what a step does where its guard is 1
abbrev pub act_trail : Values → Act → Trail
act_trail v (Free x) = Through (v.var x.0 ∷ [])
act_trail v (Set x t) = Through []
act_trail v (Cut t) = at_zero (v.term t.0).value (Halts [] AtCut) (Through [])
act_trail v (Prop p t) = at_zero (v.term t.0).value (Halts [] (AtProp p)) (Through [])

-- a step whose guard is 0 does nothing
abbrev pub step_trail : Values → Step → Trail
step_trail v s = at_zero (v.term s.guard.0).value (Through []) (act_trail v s.act)

-- the steps of a list, in order
abbrev pub trail : Values → List Step → Trail
trail v [] = Through []
trail v (s ∷ list) = trail_then (step_trail v s) (trail v list)
