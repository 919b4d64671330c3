-- The pairs of the worked runs are well-formed.
use Rattle.joint_laws.specs.Modules.{free_counter, divider}
use Rattle.joint_laws.specs.Fitting.{WorkedPairs}
use Rattle.joint_laws.proofs.Modules.{free_counter_fits, divider_fits}
use Rattle.joint_laws.proofs.Programs.{idle_fits, two_edges_fits, summing_fits, endless_fits, disabling_fits, not_disabling_fits, adding_one_fits, adding_one_unsigned_fits, shifting_fits, dividing_fits, least_divided_fits, past_the_end_fits, filling_fits, recursive_fits, without_value_fits, assuming_fits, falling_through_fits, memory_reader_fits}

pub worked_pairs : WorkedPairs
worked_pairs = record {
  two_edges = two_edges_fits;
  summing = summing_fits;
  endless = endless_fits;
  disabling = disabling_fits;
  not_disabling = not_disabling_fits;
  free = idle_fits free_counter free_counter_fits;
  adding_one = adding_one_fits;
  adding_one_unsigned = adding_one_unsigned_fits;
  shifting = shifting_fits;
  dividing = dividing_fits;
  least_divided = least_divided_fits;
  past_the_end = past_the_end_fits;
  filling = filling_fits;
  recursive = recursive_fits;
  without_value = without_value_fits;
  assuming = assuming_fits;
  falling_through = falling_through_fits;
  unknown_quotient = idle_fits divider divider_fits;
  unknown_word = memory_reader_fits;
}
