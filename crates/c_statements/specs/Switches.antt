-- The labels of a `switch` (C99 6.8.1 and 6.8.4.2).
use Rattle.std.specs.Prelude.{ℕ, List, [], ◌∷◌, ◌++◌, Option, Some, None, nat_lt, nat_le, ◌&&◌, if◌then◌else◌}
use Rattle.std.specs.List.{list_any}
use Rattle.src_text.specs.declared.refusal.Place.{Place}
use Rattle.src_text.specs.declared.kind.Kind.TheVariants.{CCase}
use Rattle.c_tree.specs.declared.statements.Label.{Label}
use Rattle.c_tree.specs.declared.statements.Label.TheVariants as label
use Rattle.joint_ir.specs.declared.ctype.IntType.{IntType}
use Rattle.joint_ir.specs.declared.stmt.Label.{Label as TLabel}
use Rattle.joint_ir.specs.declared.stmt.Label.TheVariants.{Case, Default}
use Rattle.joint_ir.specs.Types.{converted}
use Rattle.joint_ir.specs.WellFormed.{same_label}
use Rattle.offence_order.specs.declared.Offence.{Offence}
use Rattle.offence_order.specs.Order.{at}
use Rattle.c_names.specs.Scope.{Scope}
use Rattle.c_constants.specs.declared.Constant.{Constant}
use Rattle.c_constants.specs.declared.Constant.TheVariants.{Is, Never, Undefined}
use Rattle.c_constants.specs.Constants.{constant_of, constant_offences}

-- the label as a list, and none where there is none
abbrev pub listed : Option TLabel → List TLabel
listed None = []
listed (Some l) = l ∷ []

-- a value, converted to the type of the switch. No type has more than 64 bits
abbrev pub case_of : IntType → Constant → List TLabel
case_of t (Is n) = if nat_lt 0 t.bits && nat_le t.bits 64 then Case (converted t n) ∷ [] else []
case_of t Never = []
case_of t Undefined = []

-- a label, where its value is known
abbrev pub label_typed : IntType → Label → List TLabel
label_typed t (label.Case p e) = case_of t (constant_of e)
label_typed t (label.Default p) = Default ∷ []

-- a value, or `default`, that stood before in the same switch
abbrev pub twice_offences : Place → (seen : List TLabel) → List TLabel → List Offence
twice_offences p seen [] = []
twice_offences p seen (l ∷ ls) = if list_any (same_label l) seen then at p CCase else []

-- what a label offends: its constant expression, and that its value or `default` stood before (C99 6.8.4.2p3)
abbrev pub label_offences : List Scope → IntType → (seen : List TLabel) → Label → List Offence
label_offences env t seen (label.Case p e) = constant_offences env p e ++ twice_offences p seen (case_of t (constant_of e))
label_offences env t seen (label.Default p) = twice_offences p seen (Default ∷ [])

-- the typed labels, with constants converted to the promoted type (C99 6.8.4.2p5)
abbrev pub labels_typed : IntType → List Label → List TLabel
labels_typed t [] = []
labels_typed t (l ∷ ls) = label_typed t l ++ labels_typed t ls

-- what labels offend, in order
abbrev pub labels_offences : List Scope → IntType → (seen : List TLabel) → List Label → List Offence
labels_offences env t seen [] = []
labels_offences env t seen (l ∷ ls) = label_offences env t seen l ++ labels_offences env t (seen ++ label_typed t l) ls
