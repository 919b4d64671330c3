-- Offences that are noted.
use Rattle.std.specs.Prelude.{◌≡◌, List}
use Rattle.offence_order.specs.declared.First.{First}
use Rattle.offence_order.specs.declared.Offence.{Offence}
use Rattle.offence_order.specs.Order.{first_of}

-- of one that was kept before and these the first is kept
abbrev pub Notes : First → First → List Offence → Type 0
Notes old new offences = new.found ≡ first_of old.found offences
