-- A program, a module and what binds them.
use Rattle.std.specs.Prelude.{◌≡◌, ℕ, List, Some, slice_get}
use Rattle.joint_ir.specs.declared.module.FlatModule.{FlatModule}
use Rattle.joint_ir.specs.declared.pair.Pair.{Pair}
use Rattle.joint_ir.specs.declared.program.CProgram.{CProgram}
use Rattle.joint_ir.specs.declared.program.Member.{Member}
use Rattle.bind_struct.specs.Binding.{binding_of}

-- no two members have one path
abbrev pub ArePathsApart : List Member → Type 0
ArePathsApart members = (i j : ℕ) (x y : Member) → slice_get members i ≡ Some x → slice_get members j ≡ Some y → x.path ≡ y.path → i ≡ j

-- a program and a module, with the links of the program's mirror
abbrev pub pair_of : CProgram → FlatModule → Pair
pair_of program flat = record { program = program; «module» = flat; binding = binding_of program flat }
