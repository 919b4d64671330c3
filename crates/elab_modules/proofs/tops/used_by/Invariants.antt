use Rattle.std.proofs.Common.{◌≡◌, [], drop}
use Rattle.elab_modules.specs.Tops.{with_modules}
use Rattle.elab_modules.proofs.tops.used_by.Given as goal

abbrev pub invariant-loop-m : goal.invariant-loop-m
invariant-loop-m l = with_modules l.modules [] ≡ with_modules (drop l.m-index l.modules) l.used
