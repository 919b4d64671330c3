-- What is wrong with a target, as the functions that walk over statements see it.
use Rattle.std.specs.Prelude.{List}
use Rattle.joint_ir.specs.declared.stmt.TTarget.{TTarget}
use Rattle.offence_order.specs.declared.Offence.{Offence}
use Rattle.bind_struct.specs.declared.stores.Stores.{Stores}
use Rattle.bind_struct.specs.Paths.{named}
use Rattle.bind_struct.specs.Binding.{target_stored}

-- the offences of one store, by what is looked at
abbrev pub stores_of : Stores → TTarget → List Offence
stores_of s t = target_stored s.module.now (named s.paths.now) s.members.now t
