-- The definitions on worked words: each equation holds by computing.
use Rattle.std.proofs.Common.{◌≡◌, refl, List, ℕ, [], ◌∷◌, Some, None, false, codes}
use Rattle.c_tokens.specs.Kinds as c_kinds
use Rattle.command_words.specs.Words.{things_of}
use Rattle.command_options.specs.declared.asked.Decide.TheVariants.{Activity}
use Rattle.command_options.specs.Limits.{limits_in}
use Rattle.command_options.specs.Numbers.{number_in}
use Rattle.command_options.specs.Options.{options_of, decide_of}

abbrev files : List (List ℕ)
files = codes "c1.c" ∷ codes "counter.v" ∷ []

twice : options_of (codes "--bound" ∷ codes "1" ∷ codes "--bound" ∷ codes "2" ∷ files) ≡ None
unfolding things_of
twice = refl

negative : options_of (codes "--bound" ∷ codes "-1" ∷ files) ≡ None
unfolding things_of
negative = refl

no_words : options_of [] ≡ None
unfolding things_of
no_words = refl

three_files : options_of (codes "more.c" ∷ files) ≡ None
unfolding things_of
three_files = refl

leading_zeros : options_of (codes "--bound=002" ∷ codes "--" ∷ files) ≡ Some (record {
  top = None;
  bounds = record { unwind = 11; limits = []; frames = 2; check_bound = false };
  limits = [];
  budget = 1000000;
  decide = Activity;
  c_file = codes "c1.c";
  v_file = codes "counter.v";
})
unfolding things_of
leading_zeros = refl

too_many_edges : number_in 0 10000 (codes "10001") ≡ None
too_many_edges = refl

no_such_decision : decide_of (codes "fast") ≡ None
no_such_decision = refl

one_limit : limits_in (codes "main.unwind.1:3") ≡ Some (record { name = codes "main.unwind.1"; count = 3 } ∷ [])
unfolding c_kinds.KEYWORDS
one_limit = refl

no_turns : limits_in (codes "main.unwind.1:0") ≡ None
no_turns = refl

no_property : limits_in (codes "main:3") ≡ None
no_property = refl

number_with_zero : limits_in (codes "main.unwind.01:2") ≡ None
unfolding c_kinds.KEYWORDS
number_with_zero = refl

name_twice : limits_in (codes "main.unwind.1:2,main.unwind.1:3") ≡ None
unfolding c_kinds.KEYWORDS
name_twice = refl
