-- The turns of a `for` loop (IEEE 1364-2005, 9.6). Its head alone says them, as nothing else may assign its variable.
use Rattle.std.specs.Prelude.{ℕ, ◌+◌, List, [], ◌∷◌, ◌++◌, length, Option, Some, None, Bool, true, false, nat_lt, if◌then◌else◌}
use Rattle.std.proofs.Common.{zero, suc}
use Rattle.bits_core.specs.Word.{Word, word, resized_word}
use Rattle.v_tree.specs.declared.expr.Expr.{Expr}
use Rattle.v_tree.specs.declared.stmt.ForHead.{ForHead}
use Rattle.elab_names.specs.declared.constant.Worth.{Worth}
use Rattle.elab_names.specs.declared.constant.Worth.TheVariants.{Value, Open, NotConstant}
use Rattle.elab_names.specs.declared.context.Context.{Context}
use Rattle.elab_names.specs.declared.measure.Measured.{Measured}
use Rattle.elab_names.specs.declared.names.Entry.{Entry}
use Rattle.elab_names.specs.declared.names.Entry.TheVariants.{Integer}
use Rattle.elab_names.specs.declared.names.Turn.{Turn}
use Rattle.elab_names.specs.Constants.{context_of, is_true}
use Rattle.elab_names.specs.Names.{Scope}
use Rattle.elab_names.specs.Measured.{greater, length_of, signed_of, worth_in, measured, constant_of, worth_of}

-- a loop variable has 32 bits
abbrev pub cut_to_variable : Worth → Worth
cut_to_variable (Value w) = Value (resized_word 32 false w)
cut_to_variable Open = Open
cut_to_variable NotConstant = NotConstant

-- the context of what is assigned to a loop variable: the greater of 32 bits and the length of the right side
abbrev pub variable_context : Measured → Option Context
variable_context m = context_of (greater (Some 32) (length_of m)) (signed_of m)

-- a value in the context of the assignment, cut to the variable's 32 bits
abbrev pub stored : Measured → Worth
stored m = cut_to_variable (worth_in (variable_context m) m)

-- what `variable = e` gives the variable
abbrev pub assigned : Scope → List Turn → Expr → Worth
assigned names turns e = stored (measured names turns e)

-- the loops round a part, and one more in which the variable has a value
abbrev pub with_turn : List Turn → ℕ → Worth → List Turn
with_turn turns integer value = turns ++ (record { integer = integer; value = value }) ∷ []

-- a known value other than 0
abbrev pub is_true_worth : Worth → Bool
is_true_worth (Value w) = is_true w
is_true_worth Open = false
is_true_worth NotConstant = false

-- whether a loop goes on where its variable has a value
abbrev pub head_holds : Scope → List Turn → ℕ → ForHead → Word → Bool
head_holds names turns integer head v = is_true_worth (worth_of (constant_of names (with_turn turns integer (Value v)) head.condition))

-- a known value, and 0 for what has none
abbrev pub or_nought : Worth → Word
or_nought (Value w) = w
or_nought Open = word 32 0
or_nought NotConstant = word 32 0

-- the variable's value after a turn
abbrev pub head_next : Scope → List Turn → ℕ → ForHead → Word → Word
head_next names turns integer head v = or_nought (assigned names (with_turn turns integer (Value v)) head.step.value)

-- the values that a variable takes, one for each turn, and at most so many
unfoldable pub loop_values : (Word → Bool) → (Word → Word) → (most : ℕ) → Word → List Word
loop_values holds next zero v = []
loop_values holds next (suc most) v = if holds v then v ∷ loop_values holds next most (next v) else []

-- the most turns that a loop may have
abbrev pub MOST_TURNS : ℕ
MOST_TURNS = 4096

-- the values that the variable takes from its first one on; none where the first has no value
abbrev pub values_from : Scope → List Turn → ℕ → ForHead → Worth → List Word
values_from names turns integer head (Value v) = loop_values (head_holds names turns integer head) (head_next names turns integer head) (MOST_TURNS + 1) v
values_from names turns integer head Open = []
values_from names turns integer head NotConstant = []

-- those of a loop, one more than are allowed at most
abbrev pub values_of : Scope → List Turn → ℕ → ForHead → List Word
values_of names turns integer head = values_from names turns integer head (assigned names turns head.start.value)

-- a loop with more turns than are allowed
abbrev pub is_long : List Word → Bool
is_long values = nat_lt MOST_TURNS (length values)

-- the turns that are unrolled: none of a loop that is too long
abbrev pub turns_of : List Word → List Word
turns_of values = if is_long values then [] else values

-- the variable's value in each turn of a loop that is unrolled
abbrev pub taken_turns : Scope → List Turn → ℕ → ForHead → List Word
taken_turns names turns integer head = turns_of (values_of names turns integer head)

-- the number of a loop variable
abbrev pub integer_number : Option Entry → ℕ
integer_number (Some (Integer n)) = n
integer_number e = 0
