use Rattle.std.proofs.Common.{◌≡◌, drop}
use Rattle.std.specs.Prelude.{flat_map}
use Rattle.elab_declarations.specs.Overrides.{item_names, numbered}
use Rattle.elab_declarations.proofs.overrides.add_items.Given as goal

-- what is left of the list
abbrev pub invariant-loop-item : goal.invariant-loop-item
invariant-loop-item l = numbered l.initial.numbers (flat_map item_names l.items) ≡ numbered l.numbers (flat_map item_names (drop l.item-index l.items))
