-- The definitions on a worked list: a free bit x, an assumption of x, and a property that x is 0.
use Rattle.std.specs.Prelude.{◌≡◌, ℕ, List, [], ◌∷◌, refl}
use Rattle.bits_core.specs.Word.{word}
use Rattle.bits_core.specs.declared.op.Op1.TheVariants.{Not}
use Rattle.word_eqs.specs.declared.term.TermId.{TermId}
use Rattle.word_eqs.specs.declared.term.TermNode.{TermNode}
use Rattle.word_eqs.specs.declared.term.TermNode.TheVariants.{Const, Var, One}
use Rattle.word_eqs.specs.declared.term.Term.{Term}
use Rattle.word_eqs.specs.declared.list.Act.{Act}
use Rattle.word_eqs.specs.declared.list.Act.TheVariants.{Free, Cut, Prop}
use Rattle.word_eqs.specs.declared.list.Step.{Step}
use Rattle.word_eqs.specs.Graph.{Graph, graph}
use Rattle.word_eqs.specs.Meaning.{meaning}
use Rattle.word_eqs.specs.Gates.{gate_count}
use Rattle.word_eqs.specs.Guarded.{Stops, AtCut, AtProp, walk}

abbrev term : ℕ → TermId
term k = record { 0 = k }

abbrev bit_term : TermNode → Term
bit_term node = record { node = node; width = 1 }

abbrev bits : Graph
bits = graph (1 ∷ []) (bit_term (Const (word 1 1)) ∷ bit_term (Var (record { 0 = 0 })) ∷ bit_term (One Not (term 1)) ∷ [])

abbrev always : Act → Step
always act = record { guard = term 0; act = act }

abbrev list : List Step
list = always (Free (record { 0 = 0 })) ∷ always (Cut (term 1)) ∷ always (Prop 0 (term 2)) ∷ []

a_cut : walk (meaning (λ x. word 1 0) bits) list ≡ Stops (0 ∷ []) AtCut
a_cut = refl

a_break : walk (meaning (λ x. word 1 1) bits) list ≡ Stops (1 ∷ []) (AtProp 0)
a_break = refl

gates : gate_count bits list ≡ 19
gates = refl
