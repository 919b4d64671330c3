use Rattle.std.proofs.Common.{◌≡◌, drop}
use Rattle.elab_modules.specs.Tops.{with_items}
use Rattle.elab_modules.proofs.tops.items.Given as goal

abbrev pub invariant-loop-i : goal.invariant-loop-i
invariant-loop-i l = with_items l.own l.list l.initial.used ≡ with_items l.own (drop l.i-index l.list) l.used
