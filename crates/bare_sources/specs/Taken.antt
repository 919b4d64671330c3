-- Which programs are judged, and within which bounds.
use Rattle.std.specs.Prelude.{Bool, true, false, ◌&&◌, is_none}
use Rattle.command_options.specs.declared.asked.Options.{Options}
use Rattle.joint_ir.specs.declared.bounds.Bounds.{Bounds}
use Rattle.joint_ir.specs.declared.program.CProgram.{CProgram}
use Rattle.joint_ir.specs.Naming.{limits_of}
use Rattle.unwound_forms.specs.Made.{program_is_made}

-- a program has no mirror, and only statements that are unwound
abbrev pub is_taken : CProgram → Bool
is_taken program = is_none program.mirror && program_is_made program

-- the bounds that are asked for, with the limits by name as limits of the program's properties
abbrev pub bounds_for : Options → CProgram → Bounds
bounds_for options program = record {
  unwind = options.bounds.unwind;
  limits = limits_of program options.limits;
  frames = options.bounds.frames;
  check_bound = options.bounds.check_bound;
}
