-- What is given, as texts.
use Rattle.std.specs.Prelude.{option_map}
use Rattle.command_words.specs.declared.reading.Written.{Written}
use Rattle.command_words.specs.Words.{Said}

-- what was written, with words as bytes
abbrev pub said_of : Written → Said
said_of g = record {
  top = option_map (λ s. s.now) g.top;
  bound = option_map (λ s. s.now) g.bound;
  unwind = option_map (λ s. s.now) g.unwind;
  unwindset = option_map (λ s. s.now) g.unwindset;
  budget = option_map (λ s. s.now) g.budget;
  decide = option_map (λ s. s.now) g.decide;
  check_bound = g.check_bound;
  c_file = g.c_file.now;
  v_file = g.v_file.now;
}
