use Rattle.std.proofs.Common.{◌≡◌, drop}
use Rattle.unwound_forms.specs.Made.{functions_are_made}
use Rattle.unwound_forms.proofs.forms.is_made.Given as goal

abbrev pub invariant-loop-function : goal.invariant-loop-function
invariant-loop-function l = functions_are_made l.program l.program.functions ≡ functions_are_made l.program (drop l.function-index l.program.functions)
