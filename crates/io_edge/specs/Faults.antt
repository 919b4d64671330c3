-- Faults are counted, so that a failure has a cause that no code can make up.
use Rattle.std.specs.Prelude.{◌≢◌, ℕ, ◌<◌, ◌≤◌, ◌-◌, ◌^◌}

-- A count of faults rose: it is greater than before, unless it stands at the end of 64 bits.
pub record Rose (before after : ℕ) : Type 0 where
  pub not_less : before ≤ after
  pub more : after ≢ 2 ^ 64 - 1 → before < after
