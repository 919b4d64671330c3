-- The command as `clap` sees it.
use Rattle.std.specs.Prelude.{Bool, true, false, List, Option, Some, None, codes}
use Rattle.std.specs.Prelude.{bytes_eq}
use Rattle.clap.specs.Words.{App, Row, Rule, Text, first_of, new_app, new_rule, with_rule}
use Rattle.command_words.specs.Words.{Said, Top, Bound, Unwind, UnwindSet, Budget, Decide, name_of, check_name}
use Rattle.clap.specs.Simple.{on_top}
use Rattle.clap.specs.declared.builder.ArgAction.TheVariants.{Set, SetTrue}

-- an option that takes one value
abbrev pub valued_rule : Text → Rule
valued_rule name = record (new_rule name) { long = Some name; action = Some Set }

-- the option `--check-bound`, which takes no value
abbrev pub check_rule : Rule
check_rule = record (new_rule (codes "check-bound")) { long = Some (codes "check-bound"); action = Some SetTrue }

-- a file name
abbrev pub file_rule : Text → Rule
file_rule id = record (new_rule id) { action = Some Set }

-- no first word is the program's name, and there is no `--help`
abbrev pub bare : App
bare = on_top (λ s. record s { no_binary_name = true; disable_help_flag = true }) (new_app (codes "hwcbmc"))

-- with the six options that take a value
abbrev pub with_valued_options : App → App
with_valued_options a =
    with_rule (with_rule (with_rule (with_rule (with_rule (with_rule a
    (valued_rule (codes "module")))
    (valued_rule (codes "bound")))
    (valued_rule (codes "unwind")))
    (valued_rule (codes "unwindset")))
    (valued_rule (codes "budget")))
    (valued_rule (codes "decide"))

-- the command: its options, then the C file and the Verilog file
abbrev pub asked : App
asked = with_rule (with_rule (with_rule (with_valued_options bare) check_rule) (file_rule (codes "c-file"))) (file_rule (codes "v-file"))

-- what the matches of a parse give
abbrev pub is_true : Option Text → Bool
is_true None = false
is_true (Some text) = bytes_eq text (codes "true")

-- what the matches say, if both files are named; an option that isn't there has no value
abbrev pub with_both : List Row → (c_file v_file : Option Text) → Option Said
with_both rows None v = None
with_both rows (Some c) None = None
with_both rows (Some c) (Some v) = Some (record {
  top = first_of (name_of Top) rows;
  bound = first_of (name_of Bound) rows;
  unwind = first_of (name_of Unwind) rows;
  unwindset = first_of (name_of UnwindSet) rows;
  budget = first_of (name_of Budget) rows;
  decide = first_of (name_of Decide) rows;
  check_bound = is_true (first_of check_name rows);
  c_file = c;
  v_file = v;
})

-- what the rows of the matches say
abbrev pub given_by : List Row → Option Said
given_by rows = with_both rows (first_of (codes "c-file") rows) (first_of (codes "v-file") rows)
