-- How many gates terms and steps are counted as. It bounds the size of their circuit.
use Rattle.std.specs.Prelude.{ℕ, ◌+◌, ◌*◌, List}
use Rattle.std.specs.Prelude.{sum_by}
use Rattle.bits_core.specs.declared.op.Op1.{Op1}
use Rattle.bits_core.specs.declared.op.Op1.TheVariants.{Not, Neg, RedAnd, RedOr, RedXor}
use Rattle.bits_core.specs.declared.op.Op2.{Op2}
use Rattle.bits_core.specs.declared.op.Op2.TheVariants.{And, Or, Xor, Add, Sub, Mul, DivU, DivS, RemU, RemS, Shl, ShrU, ShrS, Eq, LtU, LtS}
use Rattle.word_eqs.specs.declared.term.TermNode.{TermNode}
use Rattle.word_eqs.specs.declared.term.TermNode.TheVariants.{Const, Var, One, Two, Choose, Resize, Slice, Join}
use Rattle.word_eqs.specs.declared.term.Term.{Term}
use Rattle.word_eqs.specs.declared.list.Act.{Act}
use Rattle.word_eqs.specs.declared.list.Act.TheVariants.{Free, Set, Cut, Prop}
use Rattle.word_eqs.specs.declared.list.Step.{Step}
use Rattle.word_eqs.specs.Graph.{Graph, width_in, width_of_var}

-- the gates of an operation, by the width of its operands
abbrev pub gates1 : Op1 → ℕ → ℕ
gates1 Not w = 0
gates1 Neg w = 10 * w
gates1 RedAnd w = 3 * w
gates1 RedOr w = 3 * w
gates1 RedXor w = 3 * w

-- the gates of an operation on two words, by the width that both have
abbrev pub gates2 : Op2 → ℕ → ℕ
gates2 And w = w
gates2 Or w = w
gates2 Xor w = 3 * w
gates2 Add w = 10 * w
gates2 Sub w = 10 * w
gates2 Mul w = 11 * (w * w)
gates2 DivU w = 16 * (w * w) + 80 * w
gates2 DivS w = 16 * (w * w) + 80 * w
gates2 RemU w = 16 * (w * w) + 80 * w
gates2 RemS w = 16 * (w * w) + 80 * w
gates2 Shl w = 40 * w
gates2 ShrU w = 40 * w
gates2 ShrS w = 40 * w
gates2 Eq w = 4 * w
gates2 LtU w = 10 * w
gates2 LtS w = 10 * w

-- the gates of a node, by the widths of its parts; what only names, copies or moves bits has none
abbrev pub node_gates : Graph → TermNode → ℕ
node_gates g (Const a) = 0
node_gates g (Var x) = 0
node_gates g (One op a) = gates1 op (width_in g a.0)
node_gates g (Two op a b) = gates2 op (width_in g a.0)
node_gates g (Choose c a b) = 3 * width_in g a.0
node_gates g (Resize a to signed) = 0
node_gates g (Slice a high low) = 0
node_gates g (Join a b) = 0

-- the gates of all terms
abbrev pub term_gates : Graph → ℕ
term_gates g = sum_by (λ (x : Term). node_gates g x.node) g.terms

-- the gates of what a step does, by the width of the variable that is free or of the term that is tested
abbrev pub act_gates : Graph → Act → ℕ
act_gates g (Free x) = width_of_var g x.0
act_gates g (Set x t) = 0
act_gates g (Cut t) = width_in g t.0 + 8
act_gates g (Prop p t) = width_in g t.0 + 8

-- the gates of all steps
abbrev pub step_gates : Graph → List Step → ℕ
step_gates g list = sum_by (λ (s : Step). act_gates g s.act) list

-- the gates of terms and a list of steps
abbrev pub gate_count : Graph → List Step → ℕ
gate_count g list = term_gates g + step_gates g list
