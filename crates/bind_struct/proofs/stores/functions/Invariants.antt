use Rattle.std.proofs.Common.{◌≡◌, drop}
use Rattle.offence_order.specs.Order.{first_of}
use Rattle.bind_struct.specs.Binding.{functions_stored}
use Rattle.bind_struct.specs.Stores.{stores_of}
use Rattle.bind_struct.proofs.stores.functions.Given as goal

abbrev pub invariant-loop-f : goal.invariant-loop-f
invariant-loop-f l = first_of l.fn.first.found (functions_stored (stores_of l.at) l.functions) ≡ first_of l.first.found (functions_stored (stores_of l.at) (drop l.f-index l.functions))
