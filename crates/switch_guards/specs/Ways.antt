-- The guards of the ways on among the groups of a switch, and behind it (C99 6.8.4.2).
use Rattle.std.specs.Prelude.{ℕ, bit_or}
use Rattle.joint_ir.specs.declared.way.Way.{Way}
use Rattle.joint_ir.specs.declared.way.Way.TheVariants.{Next, Breaking, Continuing, Returning}

-- a group runs where one before it falls through, and where control enters it
abbrev pub entered_of : (entry : ℕ) → (Way → ℕ) → Way → ℕ
entered_of entry guards Next = bit_or (guards Next) entry
entered_of entry guards Breaking = guards Breaking
entered_of entry guards Continuing = guards Continuing
entered_of entry guards Returning = guards Returning

-- behind a switch: `break` goes on behind it
abbrev pub switched_of : (Way → ℕ) → Way → ℕ
switched_of guards Next = bit_or (guards Next) (guards Breaking)
switched_of guards Breaking = 0
switched_of guards Continuing = guards Continuing
switched_of guards Returning = guards Returning
