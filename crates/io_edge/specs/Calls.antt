-- Calls that are told to fail. They are numbered from 1, and the count stops at the end of 64 bits.
use Rattle.std.specs.Prelude.{Bool, ◌+◌, ◌-◌, ◌^◌, ◌==◌, min}
use Rattle.std.specs.List.{list_any}
use Rattle.io_edge.specs.declared.calls.Calls.{Calls}

-- whether the next call is one that fails
abbrev pub fails_next : Calls → Bool
fails_next calls = list_any (λ call. call == min (calls.made + 1) (2 ^ 64 - 1)) calls.failing.items
