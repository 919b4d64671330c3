-- What lists and parts of statements do, and when they are well-formed, as the functions that carry them out see them.
use Rattle.std.specs.Prelude.{ℕ, List, [], ◌∷◌, All, Option, Some, None, Bool, ℤ}
use Rattle.std.specs.List.{position_from, list_any}
use Rattle.joint_ir.specs.declared.stmt.Group.{Group, out-Group}
use Rattle.joint_ir.specs.declared.stmt.Label.{Label}
use Rattle.joint_ir.specs.declared.stmt.TStmt.{TStmt}
use Rattle.joint_ir.specs.Effects.{nothing, Goes, Onward, then_do}
use Rattle.joint_ir.specs.declared.way.Way.TheVariants.{Next}
use Rattle.joint_ir.specs.Steps.{Setting, Calls}
use Rattle.joint_ir.specs.Statements.{after, is_case, is_default}
use Rattle.joint_ir.specs.WellFormed.{Scope, FitsStmt, with_scope_locals, declared_behind}

-- statements one after another
abbrev pub after_items : Setting → Calls → List TStmt → Onward
after_items k calls [] s c = Goes Next s nothing c
after_items k calls (x ∷ rest) s c = then_do (after k calls x.place x.node s c) (after_items k calls rest)

-- a statement that may be left out
abbrev pub after_option : Setting → Calls → Option TStmt → Onward
after_option k calls None s c = Goes Next s nothing c
after_option k calls (Some x) s c = after k calls x.place x.node s c

-- the groups of a switch, one after another
abbrev pub after_cases : Setting → Calls → List Group → Onward
after_cases k calls [] s c = Goes Next s nothing c
after_cases k calls (g ∷ rest) s c = then_do (after_items k calls (out-Group g).body s c) (after_cases k calls rest)

-- the first group with a label that passes
abbrev pub case_with : (Label → Bool) → List Group → Option ℕ
case_with test groups = position_from (λ g. list_any test (out-Group g).labels) 0 groups

-- the first place, or else the second
abbrev pub or_else : Option ℕ → Option ℕ → Option ℕ
or_else (Some i) other = Some i
or_else None other = other

-- the group where control enters a switch: that of the value, else that of `default`
abbrev pub entered_case : ℤ → List Group → Option ℕ
entered_case n groups = or_else (case_with (is_case n) groups) (case_with is_default groups)

-- each statement of a list sees what is declared before it
abbrev pub FitsItems : Scope → List TStmt → Type 0
FitsItems c [] = Unit {0}
FitsItems c (x ∷ rest) = FitsStmt c x.node × FitsItems (with_scope_locals c (declared_behind x.node c.locals)) rest

-- a statement is well-formed, if there is one
abbrev pub FitsOptional : Scope → Option TStmt → Type 0
FitsOptional c None = Unit {0}
FitsOptional c (Some x) = FitsStmt c x.node

-- each group begins with what is visible at the switch
abbrev pub FitsCases : Scope → List Group → Type 0
FitsCases c groups = All (λ g. FitsItems c (out-Group g).body) groups
