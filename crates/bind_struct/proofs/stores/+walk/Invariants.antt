use Rattle.std.proofs.Common.{◌≡◌, drop}
use Rattle.offence_order.specs.Order.{first_of}
use Rattle.bind_struct.specs.Stores.{stores_of}
use Rattle.bind_struct.specs.Stored.{stored_items, stored_cases}
use Rattle.bind_struct.proofs.stores.+walk.Given as goal

abbrev pub invariant-items-loop-s : goal.invariant-items-loop-s
invariant-items-loop-s l = first_of l.fn.first.found (stored_items (stores_of l.at) l.body) ≡ first_of l.first.found (stored_items (stores_of l.at) (drop l.s-index l.body))

abbrev pub invariant-cases-loop-group : goal.invariant-cases-loop-group
invariant-cases-loop-group l = first_of l.fn.first.found (stored_cases (stores_of l.at) l.groups) ≡ first_of l.first.found (stored_cases (stores_of l.at) (drop l.group-index l.groups))
