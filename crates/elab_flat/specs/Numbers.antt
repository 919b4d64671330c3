-- Known numbers in flat expressions. Where a text is without offence each has a value; else it is 0.
use Rattle.std.specs.Prelude.{ℕ, List, Option, Some, None, Bool, true, false, if◌then◌else◌, pos, int_lt, unsigned_abs}
use Rattle.src_text.specs.declared.refusal.Place.{Place}
use Rattle.bits_core.specs.Word.{Word, word}
use Rattle.v_tree.specs.Starts.{literal_start}
use Rattle.v_tree.specs.declared.expr.Literal.{Literal}
use Rattle.v_tree.specs.declared.expr.Literal.TheVariants as literal
use Rattle.flat_tree.specs.declared.expr.FlatExpr.{FlatExpr}
use Rattle.flat_tree.specs.declared.expr.FlatExpr.TheVariants as flat
use Rattle.flat_tree.specs.declared.expr.FlatSelection.{FlatSelection}
use Rattle.flat_tree.specs.declared.expr.Number.{Number}
use Rattle.elab_names.specs.declared.constant.Standing.{Standing}
use Rattle.elab_names.specs.declared.constant.Worth.{Worth}
use Rattle.elab_names.specs.declared.constant.Worth.TheVariants.{Value, Open, NotConstant}
use Rattle.elab_names.specs.declared.names.Entry.{Entry}
use Rattle.elab_names.specs.declared.names.Entry.TheVariants.{Signal}
use Rattle.elab_names.specs.declared.names.Turn.{Turn}
use Rattle.elab_names.specs.declared.select.Number.TheVariants as the
use Rattle.elab_names.specs.Constants.{literal_constant, literal_standing}
use Rattle.elab_names.specs.Names.{entry_standing}
use Rattle.elab_names.specs.Selects.{entry_low}
use Rattle.elab_names.specs.declared.select.Number as index

-- 0 at 32 bits
abbrev pub nought : Word
nought = word 32 0

-- a known value, and 0 for what has none
abbrev pub word_or_nought : Worth → Word
word_or_nought (Value w) = w
word_or_nought Open = nought
word_or_nought NotConstant = nought

-- without sign, where nothing is known of the sign
abbrev pub or_false : Option Bool → Bool
or_false None = false
or_false (Some s) = s

-- a number of the flat tree from what is known of a constant
abbrev pub number_from : Place → Bool → Standing → Number
number_from place is_unsized s = record { place = place; word = word_or_nought s.worth; signed = or_false s.signed; is_unsized = is_unsized }

-- whether a literal has no size
abbrev pub lacks_size : Literal → Bool
lacks_size (literal.Decimal d) = true
lacks_size (literal.Based b) = true
lacks_size (literal.Sized s b) = false

-- the number that a literal writes, with its size and sign (IEEE 1364-2005, 3.5.1)
abbrev pub literal_number : Literal → Number
literal_number l = number_from (literal_start l) (lacks_size l) (literal_standing (literal_constant l))

-- a name: a signal by its number, or the number that a parameter or a loop variable is here
abbrev pub flat_name : List Turn → Place → Option Entry → FlatExpr
flat_name turns place (Some (Signal s)) = flat.Signal place s.number
flat_name turns place e = flat.Literal (number_from place false (entry_standing turns e))

-- a select of a name
abbrev pub flat_select : List Turn → Place → Option Entry → FlatSelection → FlatExpr
flat_select turns place (Some (Signal s)) selection = flat.Select place s.number selection
flat_select turns place e selection = flat.SelectNumber place (word_or_nought (entry_standing turns e).worth) (entry_low e) selection

-- a number up to a greatest one
abbrev pub up_to : ℕ → index.Number → ℕ
up_to most (the.Known n) = if int_lt n (pos 0) then 0 else (if int_lt (pos most) n then 0 else unsigned_abs n)
up_to most the.Open = 0
up_to most the.NotConstant = 0

-- the number of the signal that a name stands for, and 0 where it is none
abbrev pub signal_number : Option Entry → ℕ
signal_number (Some (Signal s)) = s.number
signal_number e = 0
