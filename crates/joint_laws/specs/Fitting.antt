-- The pairs of the worked runs are well-formed.
use Rattle.std.specs.Prelude.{ℕ, ◌≤◌}
use Rattle.joint_ir.specs.WellFormed.{IsWellFormed}
use Rattle.joint_laws.specs.Modules.{free_counter, divider}
use Rattle.joint_laws.specs.Pairs.{two_edges_to, summing, endless, disabling, not_disabling, adding_one, adding_one_unsigned, shifting, dividing, least_divided, past_the_end, filling, recursive, without_value, assuming, falling_through, idle, reading_past_a_memory}

-- each of the small pairs is well-formed
pub record WorkedPairs : Type 0 where
  pub two_edges : (n : ℕ) → n ≤ 2147483647 → IsWellFormed (two_edges_to n)
  pub summing : IsWellFormed summing
  pub endless : IsWellFormed endless
  pub disabling : IsWellFormed disabling
  pub not_disabling : IsWellFormed not_disabling
  pub free : IsWellFormed (idle free_counter)
  pub adding_one : IsWellFormed adding_one
  pub adding_one_unsigned : IsWellFormed adding_one_unsigned
  pub shifting : IsWellFormed shifting
  pub dividing : IsWellFormed dividing
  pub least_divided : IsWellFormed least_divided
  pub past_the_end : IsWellFormed past_the_end
  pub filling : IsWellFormed filling
  pub recursive : IsWellFormed recursive
  pub without_value : IsWellFormed without_value
  pub assuming : IsWellFormed assuming
  pub falling_through : IsWellFormed falling_through
  pub unknown_quotient : IsWellFormed (idle divider)
  pub unknown_word : IsWellFormed reading_past_a_memory
