-- Worked runs: how each ends, what is seen of it, at which widths it draws, and which choices it leaves.
use Rattle.std.specs.Prelude.{◌≡◌, ℕ, true, pos, negsuc, List, [], ◌∷◌, Some, None}
use Rattle.joint_ir.specs.declared.bounds.Bounds.{Bounds}
use Rattle.joint_ir.specs.declared.event.Event.{Event}
use Rattle.joint_ir.specs.declared.event.Event.TheVariants.{Frame, Driven, Stored, Broke}
use Rattle.joint_ir.specs.declared.event.Shown.{Shown}
use Rattle.joint_ir.specs.declared.event.Outcome.TheVariants.{Ended, Cut, OutOfFrames, Broken}
use Rattle.joint_ir.specs.declared.expr.Slot.TheVariants.{Local, Member as InMirror}
use Rattle.joint_ir.specs.Effects.{Stops, TooFew}
use Rattle.joint_ir.specs.Runs.{run_of}
use Rattle.joint_laws.specs.Words.{prop, bounds_of, set, frame, told}
use Rattle.joint_laws.specs.Modules.{free_counter, divider}
use Rattle.joint_laws.specs.Pairs.{two_edges_to, summing, endless, disabling, not_disabling, adding_one, adding_one_unsigned, shifting, dividing, least_divided, past_the_end, filling, recursive, without_value, assuming, falling_through, idle, reading_past_a_memory}

-- a word of a signal with its value
abbrev shown : (signal word value : ℕ) → Shown
shown s w n = record { signal = s; word = w; value = n }

-- bounds of so many frames, past which a clock edge breaks its property
abbrev checked_to : ℕ → Bounds
checked_to k = record { unwind = 1; limits = []; frames = k; check_bound = true }

-- what three turns of the loop show, before all that follows
abbrev loop_events : List Event → List Event
loop_events rest = frame 0 0 ∷ set 0 (pos 0) ∷ set 1 (pos 0) ∷ set 0 (pos 0) ∷ set 1 (pos 1) ∷ set 0 (pos 1) ∷ set 1 (pos 2) ∷ rest

-- the runs of the small pairs, with all that they tell
pub record WorkedRuns : Type 0 where
  -- the counter after two edges isn't 3
  pub two_edges : run_of (two_edges_to 3) (bounds_of 1 2) [] ≡ Stops (Broken (prop 2)) (told (frame 0 0 ∷ frame 1 1 ∷ frame 2 2 ∷ Broke (prop 2) ∷ []) []) []
  -- the second call ends the run, or breaks its property
  pub out_of_frames : run_of (two_edges_to 3) (bounds_of 1 1) [] ≡ Stops OutOfFrames (told (frame 0 0 ∷ frame 1 1 ∷ []) []) []
  pub checked_bound : run_of (two_edges_to 3) (checked_to 1) [] ≡ Stops (Broken (prop 1)) (told (frame 0 0 ∷ frame 1 1 ∷ Broke (prop 1) ∷ []) []) []
  -- three turns, and a third turn where two are allowed
  pub three_turns : run_of summing (bounds_of 3 10) [] ≡ Stops Ended (told (loop_events (set 0 (pos 3) ∷ set 1 (pos 3) ∷ [])) []) []
  pub third_turn : run_of summing (bounds_of 2 10) [] ≡ Stops (Broken (prop 2)) (told (loop_events (Broke (prop 2) ∷ [])) []) []
  -- frames end before turns do
  pub frames_first : run_of endless (bounds_of 10 2) [] ≡ Stops OutOfFrames (told (frame 0 0 ∷ frame 1 1 ∷ frame 2 2 ∷ []) []) []
  pub turns_first : run_of endless (bounds_of 2 10) [] ≡ Stops (Broken (prop 1)) (told (frame 0 0 ∷ frame 1 1 ∷ frame 2 2 ∷ Broke (prop 1) ∷ []) []) []
  -- an input is driven by `set_inputs` alone, and takes any value after an edge
  pub driven : run_of disabling (bounds_of 1 10) (1 ∷ 1 ∷ 6 ∷ []) ≡ Stops Ended (told (
      Frame 0 (shown 1 0 1 ∷ shown 2 0 0 ∷ [])
      ∷ Stored 1 (InMirror 0) None (pos 0) ∷ Driven (shown 1 0 0 ∷ []) ∷ Frame 1 (shown 1 0 1 ∷ []) ∷ []) (1 ∷ 1 ∷ [])) (6 ∷ [])
  pub not_driven : run_of not_disabling (bounds_of 1 10) (1 ∷ 0 ∷ []) ≡ Stops (Broken (prop 1)) (told (
      Frame 0 (shown 1 0 1 ∷ shown 2 0 0 ∷ [])
      ∷ Stored 1 (InMirror 0) None (pos 0) ∷ Frame 1 (shown 1 0 0 ∷ shown 2 0 1 ∷ []) ∷ Broke (prop 1) ∷ []) (1 ∷ 1 ∷ [])) []
  -- a register without first value is a choice modulo 2^8
  pub any_count : run_of (idle free_counter) (bounds_of 1 10) (300 ∷ []) ≡ Stops Ended (told (frame 0 44 ∷ []) (8 ∷ [])) []
  -- overflow of signed numbers breaks, that of unsigned ones doesn't
  pub overflow : run_of adding_one (bounds_of 1 10) (2147483647 ∷ []) ≡ Stops (Broken (prop 0)) (told (frame 0 0 ∷ set 0 (pos 2147483647) ∷ Broke (prop 0) ∷ []) (32 ∷ [])) []
  pub no_choices : run_of adding_one (bounds_of 1 10) [] ≡ TooFew
  pub wrapped : run_of adding_one_unsigned (bounds_of 1 10) (4294967295 ∷ []) ≡ Stops Ended (told (frame 0 0 ∷ set 0 (pos 4294967295) ∷ set 0 (pos 0) ∷ []) (32 ∷ [])) []
  pub shift : run_of shifting (bounds_of 1 10) [] ≡ Stops (Broken (prop 0)) (told (frame 0 0 ∷ set 0 (pos 32) ∷ Broke (prop 0) ∷ []) []) []
  pub division : run_of dividing (bounds_of 1 10) [] ≡ Stops (Broken (prop 0)) (told (frame 0 0 ∷ set 0 (pos 0) ∷ Broke (prop 0) ∷ []) []) []
  pub quotient : run_of least_divided (bounds_of 1 10) [] ≡ Stops (Broken (prop 2)) (told (frame 0 0 ∷ set 0 (negsuc 2147483647) ∷ Broke (prop 2) ∷ []) []) []
  pub bounds : run_of past_the_end (bounds_of 1 10) (7 ∷ 8 ∷ 9 ∷ 10 ∷ []) ≡ Stops (Broken (prop 0)) (told (
      frame 0 0 ∷ Stored 1 (Local 0) (Some 0) (pos 7) ∷ Stored 1 (Local 0) (Some 1) (pos 8) ∷ Stored 1 (Local 0) (Some 2) (pos 9) ∷ Stored 1 (Local 0) (Some 3) (pos 10) ∷ Broke (prop 0) ∷ []) (32 ∷ 32 ∷ 32 ∷ 32 ∷ [])) []
  -- elements past the initializers are 0
  pub elements : run_of filling (bounds_of 1 10) [] ≡ Stops Ended (told (
      frame 0 0 ∷ Stored 1 (Local 0) (Some 0) (pos 4) ∷ Stored 1 (Local 0) (Some 1) (pos 5) ∷ Stored 1 (Local 0) (Some 2) (pos 0) ∷ Stored 1 (Local 0) (Some 2) (pos 4) ∷ []) []) []
  -- two activations of a function may stand, and no third
  pub recursion : run_of recursive (bounds_of 2 10) [] ≡ Stops (Broken (prop 1)) (told (frame 0 0 ∷ set 1 (pos 1) ∷ set 1 (pos 1) ∷ Broke (prop 1) ∷ []) []) []
  -- the value of a function that returns none is a choice
  pub any_value : run_of without_value (bounds_of 1 10) (5 ∷ []) ≡ Stops Ended (told (frame 0 0 ∷ set 0 (pos 5) ∷ []) (32 ∷ [])) []
  pub assumption_fails : run_of assuming (bounds_of 1 10) [] ≡ Stops Cut (told (frame 0 0 ∷ []) []) []
  -- control falls through to the next group
  pub switch : run_of falling_through (bounds_of 1 10) [] ≡ Stops Ended (told (frame 0 0 ∷ set 0 (pos 1) ∷ set 0 (pos 11) ∷ set 0 (pos 12) ∷ []) []) []
  -- a quotient by 0 is a choice; it is drawn where the divisor isn't 0 too
  pub unknown_quotient : run_of (idle divider) (bounds_of 1 10) (17 ∷ 0 ∷ 99 ∷ []) ≡ Stops Ended (told (
      Frame 0 (shown 0 0 17 ∷ shown 1 0 0 ∷ shown 2 0 99 ∷ []) ∷ []) (8 ∷ 8 ∷ 8 ∷ [])) []
  pub known_quotient : run_of (idle divider) (bounds_of 1 10) (17 ∷ 5 ∷ 99 ∷ []) ≡ Stops Ended (told (
      Frame 0 (shown 0 0 17 ∷ shown 1 0 5 ∷ shown 2 0 3 ∷ []) ∷ []) (8 ∷ 8 ∷ 8 ∷ [])) []
  -- a word past the end of a memory is a choice at each settling; the mirror shows a memory as an array
  pub unknown_word : run_of reading_past_a_memory (bounds_of 1 10) (1 ∷ 2 ∷ 4 ∷ 9 ∷ 7 ∷ []) ≡ Stops (Broken (prop 2)) (told (
      Frame 0 (shown 1 0 0 ∷ shown 2 0 1 ∷ shown 3 0 1 ∷ shown 3 1 5 ∷ shown 3 2 2 ∷ [])
      ∷ Stored 1 (InMirror 0) None (pos 3) ∷ Driven (shown 1 0 3 ∷ shown 2 0 7 ∷ []) ∷ Broke (prop 2) ∷ []) (8 ∷ 8 ∷ 2 ∷ 8 ∷ 8 ∷ [])) []
