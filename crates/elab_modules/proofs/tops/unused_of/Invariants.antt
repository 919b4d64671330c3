use Rattle.std.proofs.Common.{◌≡◌, ◌++◌, drop}
use Rattle.elab_modules.specs.Tops.{unused_from}
use Rattle.elab_modules.proofs.tops.unused_of.Given as goal

-- the modules so far that no other one instantiates, and what is left
abbrev pub invariant-loop-m : goal.invariant-loop-m
invariant-loop-m l = (l.n ≡ l.m-index) × (unused_from l.used 0 l.modules ≡ l.unused ++ unused_from l.used l.n (drop l.m-index l.modules))
