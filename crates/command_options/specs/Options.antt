-- What the words of the command ask for: the value of each option, by its rule or by default, and the two files.
use Rattle.std.specs.Prelude.{ℕ, Bool, ◌==◌, List, [], length, Option, Some, None, if◌then◌else◌, option_and_then, codes, bytes_eq}
use Rattle.command_words.specs.Words.{Said, Text, given_of}
use Rattle.joint_ir.specs.declared.bounds.Bounds.{Bounds}
use Rattle.joint_ir.specs.declared.naming.NamedLimit.{NamedLimit}
use Rattle.command_options.specs.declared.asked.Decide.{Decide}
use Rattle.command_options.specs.declared.asked.Decide.TheVariants.{Order, Activity}
use Rattle.command_options.specs.declared.asked.Options.{Options}
use Rattle.command_options.specs.Names.{is_verilog_name}
use Rattle.command_options.specs.Numbers.{number_in}
use Rattle.command_options.specs.Limits.{limits_in}

-- what an option's value says by its rule, or the default where there is none
abbrev pub or_default : {A : Type 0} → (default : A) → (rule : Text → Option A) → (value : Option Text) → Option A
or_default default rule None = Some default
or_default default rule (Some value) = rule value

-- `--bound`: the clock edges of a run, from 0 to 10,000
abbrev pub frames_in : Option Text → Option ℕ
frames_in value = or_default 10 (number_in 0 10000) value

-- `--unwind`: the turns of a loop, from 1 to 10,000
abbrev pub unwind_in : Option Text → Option ℕ
unwind_in value = or_default 11 (number_in 1 10000) value

-- `--budget`: the clauses that the solver may derive, from 1 to 2,000,000,000
abbrev pub budget_in : Option Text → Option ℕ
budget_in value = or_default 1000000 (number_in 1 2000000000) value

-- `--unwindset`: limits by name
abbrev pub named_in : Option Text → Option (List NamedLimit)
named_in value = or_default [] limits_in value

-- `order` or `activity`
abbrev pub decide_of : Text → Option Decide
decide_of text = if bytes_eq text (codes "order") then Some Order else if bytes_eq text (codes "activity") then Some Activity else None

-- `--decide`
abbrev pub decide_in : Option Text → Option Decide
decide_in value = or_default Activity decide_of value

-- the name of the top module, if it is an identifier of Verilog
abbrev pub top_of : Text → Option (Option Text)
top_of text = if is_verilog_name text then Some (Some text) else None

-- `--module`: the name of the top module, an identifier of Verilog
abbrev pub top_in : Option Text → Option (Option Text)
top_in value = or_default None top_of value

-- a file's name isn't empty
abbrev pub file_in : Text → Option Text
file_in text = if length text == 0 then None else Some text

-- the bounds, if both numbers could be read; the limits by name are set later
abbrev pub bounds_from : (frames unwind : Option ℕ) → (check_bound : Bool) → Option Bounds
bounds_from None unwind check_bound = None
bounds_from (Some frames) None check_bound = None
bounds_from (Some frames) (Some unwind) check_bound = Some (record { unwind = unwind; limits = []; frames = frames; check_bound = check_bound })

-- the limits of a run, without those by name
abbrev pub bounds_in : (bound unwind : Option Text) → (check_bound : Bool) → Option Bounds
bounds_in bound unwind check_bound = bounds_from (frames_in bound) (unwind_in unwind) check_bound

-- the options, where each part is there
abbrev pub all_of : (top : Option (Option Text)) → Option Bounds → (limits : Option (List NamedLimit)) → (budget : Option ℕ) → Option Decide → (c_file v_file : Option Text) → Option Options
all_of None bounds limits budget decide c v = None
all_of (Some top) None limits budget decide c v = None
all_of (Some top) (Some bounds) None budget decide c v = None
all_of (Some top) (Some bounds) (Some limits) None decide c v = None
all_of (Some top) (Some bounds) (Some limits) (Some budget) None c v = None
all_of (Some top) (Some bounds) (Some limits) (Some budget) (Some decide) None v = None
all_of (Some top) (Some bounds) (Some limits) (Some budget) (Some decide) (Some c) None = None
all_of (Some top) (Some bounds) (Some limits) (Some budget) (Some decide) (Some c) (Some v) =
    Some (record { top = top; bounds = bounds; limits = limits; budget = budget; decide = decide; c_file = c; v_file = v })

-- the options that the words of a command line ask for; none if one of them is wrong
abbrev pub options_in : Said → Option Options
options_in said =
    all_of (top_in said.top) (bounds_in said.bound said.unwind said.check_bound) (named_in said.unwindset) (budget_in said.budget) (decide_in said.decide) (file_in said.c_file) (file_in said.v_file)

-- the options of the words, if they are of the command's form
abbrev pub options_of : List Text → Option Options
options_of words = option_and_then options_in (given_of words)
