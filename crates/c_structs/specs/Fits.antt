-- What is true of all that structs declare.
use Rattle.std.specs.Prelude.{◌≡◌, ◌≤◌, List, length, All}
use Rattle.joint_ir.specs.Types.{IsType}
use Rattle.joint_ir.specs.Views.{members_of}
use Rattle.joint_ir.specs.WellFormed.{FitsMember}
use Rattle.c_tree.specs.declared.names.Identifier.{Identifier}
use Rattle.c_tree.specs.declared.declarations.Member.{Member}
use Rattle.c_names.specs.Scope.{Scope}
use Rattle.c_structs.specs.declared.Structs.{Structs}
use Rattle.c_structs.specs.Tags.{Parts, Ends, Integer, Struct}
use Rattle.c_structs.specs.Structs.{with_struct}
use Rattle.c_structs.specs.Mirror.{nothing_declared, with_mirror, mirror_scopes, bound_scopes}

-- each integer has a type
abbrev pub AreTyped : Parts → Type 0
AreTyped Ends = Unit {0}
AreTyped (Integer x t n rest) = IsType t × AreTyped rest
AreTyped (Struct x inner rest) = AreTyped inner × AreTyped rest

-- the members of each tag are typed, and those of the mirror fit and are few
pub record StructsFit (s : Structs) : Type 0 where
  pub tags : All (λ t. AreTyped t.1) s.tags
  pub members : All FitsMember (members_of s.mirror)
  pub few : length (members_of s.mirror) ≤ 65536

-- it holds at the start, and after each declaration
pub record StructsKeepFitting : Type 0 where
  pub first : StructsFit nothing_declared
  pub struct_after : (s : Structs) (tag : Identifier) (ms : List Member) → StructsFit s → StructsFit (with_struct s tag ms)
  pub mirror_after : (s : Structs) (tag name : Identifier) → StructsFit s → StructsFit (with_mirror s tag name)

-- no declaration begins or ends a scope
pub record DepthsStay : Type 0 where
  pub mirror_depth : (env : List Scope) (s : Structs) (tag name : Identifier) → length (mirror_scopes env s tag name) ≡ length env
  pub bound_depth : (env : List Scope) (name : Identifier) → length (bound_scopes env name) ≡ length env
