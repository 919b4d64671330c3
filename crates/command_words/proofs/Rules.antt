-- The rules that `clap` reads the words by, and what it looks up among them.
use Rattle.std.proofs.Common.{◌≡◌, refl, ℕ, true, List, [], ◌∷◌, Some, None, codes}
use Rattle.clap.specs.Words.{Rule, Shape, built, is_simple, is_simple_and_free}
use Rattle.clap.specs.Walk.{arg_by_id, arg_by_long, arg_by_short}
use Rattle.clap.specs.declared.builder.value_parser.ValueParser.TheVariants as vp
use Rattle.clap.proofs.OnLiterals.{clap_on_literals}
use Rattle.command_words.specs.Words.{Named, Top, Bound, Unwind, UnwindSet, Budget, Decide, name_of}
use Rattle.command_words.specs.Clap.{asked, valued_rule, check_rule, file_rule}

-- what building makes of the command
abbrev pub top : Shape
top = (built asked).top

-- an option or a file name that takes one value
abbrev pub one_value : Rule → Rule
one_value a = record a {
  range = Some (record {
    start_inclusive = 1;
    end_inclusive = 1;
  });
  parser = Some vp.String;
}

abbrev pub option_rule : Named → Rule
option_rule o = one_value (valued_rule (name_of o))

abbrev pub flag_rule : Rule
flag_rule = record check_rule {
  range = Some (record {
    start_inclusive = 0;
    end_inclusive = 0;
  });
  parser = Some vp.Bool;
  defaults = codes "false" ∷ [];
  missing = codes "true" ∷ [];
}

abbrev pub c_rule : Rule
c_rule = record (one_value (file_rule (codes "c-file"))) { index = Some 1 }

abbrev pub v_rule : Rule
v_rule = record (one_value (file_rule (codes "v-file"))) { index = Some 2 }

abbrev pub rules : List Rule
rules =
    option_rule Top ∷ option_rule Bound ∷ option_rule Unwind ∷ option_rule UnwindSet ∷ option_rule Budget ∷ option_rule Decide
    ∷ flag_rule ∷ c_rule ∷ v_rule ∷ []

pub rules_are : top.rules ≡ rules
unfolding clap_on_literals
rules_are = refl

pub simple : is_simple asked ≡ true
unfolding clap_on_literals
simple = refl

pub free : is_simple_and_free asked ≡ true
unfolding clap_on_literals
free = refl

pub option_by_id : (o : Named) → arg_by_id rules (name_of o) ≡ Some (option_rule o)
option_by_id Top = refl
option_by_id Bound = refl
option_by_id Unwind = refl
option_by_id UnwindSet = refl
option_by_id Budget = refl
option_by_id Decide = refl

pub option_by_long : (o : Named) → arg_by_long rules (name_of o) ≡ Some (option_rule o)
option_by_long Top = refl
option_by_long Bound = refl
option_by_long Unwind = refl
option_by_long UnwindSet = refl
option_by_long Budget = refl
option_by_long Decide = refl

pub no_short : (x : ℕ) → arg_by_short rules x ≡ None
no_short x = refl
