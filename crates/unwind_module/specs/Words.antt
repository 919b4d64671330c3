-- Terms of a module's words, and words that become others under a guard.
use Rattle.std.specs.Prelude.{◌≡◌, ℕ, ◌<◌, List, map, length, All, Option, Some, None}
use Rattle.word_eqs.specs.declared.term.TermId.{TermId}
use Rattle.word_eqs.specs.Graph.{Graph, IsGraph, width_in}
use Rattle.word_eqs.specs.Meaning.{Values, Respects}
use Rattle.joint_ir.specs.declared.ctype.IntType.{IntType}
use Rattle.joint_ir.specs.declared.module.FlatModule.{FlatModule}
use Rattle.joint_ir.specs.declared.module.Role.TheVariants.{Input, Register, Wire}
use Rattle.joint_ir.specs.declared.pair.Pair.{Pair}
use Rattle.joint_ir.specs.declared.program.Member.{Member as AMember}
use Rattle.joint_ir.specs.States.{element_count}
use Rattle.joint_ir.specs.Views.{widths_of, site_widths, settled_wires, next_registers, members_of}
use Rattle.joint_ir.specs.WellFormed.{AreTerms}
use Rattle.sized_terms.specs.Sized.{Has}
use Rattle.unrolled.specs.declared.Unrolled.{Unrolled}
use Rattle.unwind_state.specs.declared.state.Guard.{Guard}
use Rattle.unwind_state.specs.declared.state.State.{State}
use Rattle.unwind_state.specs.Guards.{Adds, bit_at}
use Rattle.unwind_state.specs.Images.{words}

-- the number of elements of what has a type; a struct has none
abbrev pub elements_of : Option IntType → (length : ℕ) → ℕ
elements_of None n = 0
elements_of (Some t) n = element_count n

-- the number of elements of a member
abbrev pub member_elements : AMember → ℕ
member_elements m = elements_of m.ty m.length

-- The module's words of a state have terms of their widths: those that a settling starts from, and the mirror's rows have as
-- many terms as elements.
pub record HasSources (p : Pair) (g : Graph) (s : State) : Type 0 where
  pub registers : AreTerms g s.registers (widths_of Register p.module.signals)
  pub inputs : AreTerms g s.inputs (widths_of Input p.module.signals)
  pub unknown : AreTerms g s.unknown (site_widths p.module.settle_sites)
  pub mirror : map (λ (row : List TermId). length row) s.objects.members.items ≡ map member_elements (members_of p.program.mirror)

-- all of the module's words have terms of their widths, and the number of edges has one of 32 bits
pub record HasModule (p : Pair) (g : Graph) (s : State) : Type 0 where
  pub sources : HasSources p g s
  pub wires : AreTerms g s.wires (widths_of Wire p.module.signals)
  pub edges : Has g s.edges
  pub counter : s.edges.width ≡ 32

-- terms that are there, pair by pair of one width
pub record AreAlike (g : Graph) (new old : List TermId) : Type 0 where
  pub takes : All (λ (t : TermId). t.0 < length g.terms) new
  pub keeps : All (λ (t : TermId). t.0 < length g.terms) old
  pub widths : map (λ (t : TermId). width_in g t.0) old ≡ map (λ (t : TermId). width_in g t.0) new

-- terms of the new words where the guard is 1, and of the old ones where it is 0
pub record AreChosen (n0 n1 : Unrolled) (g : Guard) (new old ids : List TermId) : Type 0 where
  pub adds : Adds n0 n1
  pub terms : AreTerms n1.terms ids (map (λ (t : TermId). width_in n0.terms t.0) new)
  pub off : (v : Values) → Respects v n1.terms → bit_at v g ≡ 0 → words v ids ≡ words v old
  pub on : (v : Values) → Respects v n1.terms → bit_at v g ≡ 1 → words v ids ≡ words v new
