-- Literals, and what is known of an expression that must be constant (IEEE 1364-2005, 3.5.1 and 5.4.1).
use Rattle.std.specs.Prelude.{◌≡◌, ℕ, ◌%◌, ◌^◌, ◌<◌, ◌≤◌, Option, Some, None, Result, Ok, Err, Bool, true, nat_lt, eqb, not, if◌then◌else◌}
use Rattle.src_text.specs.Digits.{reading}
use Rattle.src_text.specs.declared.digits.DigitFault.{DigitFault}
use Rattle.bits_core.specs.Word.{Word, word, bit, resized_word}
use Rattle.v_tree.specs.declared.expr.Base.{Base}
use Rattle.v_tree.specs.declared.expr.Base.TheVariants as base
use Rattle.v_tree.specs.declared.expr.Literal.{Literal}
use Rattle.v_tree.specs.declared.expr.Literal.TheVariants as literal
use Rattle.elab_names.specs.declared.constant.Constant.{Constant}
use Rattle.elab_names.specs.declared.context.Context.{Context}
use Rattle.elab_names.specs.declared.constant.Standing.{Standing}
use Rattle.elab_names.specs.declared.constant.Worth.{Worth}
use Rattle.elab_names.specs.declared.constant.Worth.TheVariants.{Value, Open, NotConstant}

-- all bits are 0
abbrev pub is_zero : Word → Bool
is_zero w = eqb w.value 0

-- some bit is 1: what counts as true (IEEE 1364-2005, 5.1.9)
abbrev pub is_true : Word → Bool
is_true w = not (is_zero w)

-- 1 or 0 at one bit
abbrev pub flag : Bool → Word
flag b = word 1 (bit b)

-- the number of digits of a base
abbrev pub radix : Base → ℕ
radix base.Binary = 2
radix base.Octal = 8
radix base.Decimal = 10
radix base.Hexadecimal = 16

-- a number without a size has 32 bits
abbrev pub without_size : Bool → Result ℕ DigitFault → Option Constant
without_size signed (Ok n) = if nat_lt n (2 ^ 32) then Some (record { word = word 32 n; signed = signed }) else None
without_size signed (Err f) = None

-- with a size from 1 to 128 it is cut on the left
abbrev pub sized_to : Bool → ℕ → ℕ → Option Constant
sized_to signed size n = if nat_lt 0 size then (if nat_lt 128 size then None else Some (record { word = word size (n % 2 ^ size); signed = signed })) else None

-- a number with a size, if both are numbers
abbrev pub sized : Bool → Result ℕ DigitFault → Result ℕ DigitFault → Option Constant
sized signed (Ok size) (Ok n) = sized_to signed size n
sized signed (Ok size) (Err f) = None
sized signed (Err f) n = None

-- a plain decimal number is signed, a based one where it says so; a digit that the base lacks makes it no number
abbrev pub literal_constant : Literal → Option Constant
literal_constant (literal.Decimal d) = without_size true (reading 10 d.digits)
literal_constant (literal.Based b) = without_size b.signed (reading (radix b.base) b.digits)
literal_constant (literal.Sized s b) = sized b.signed (reading 10 s.digits) (reading (radix b.base) b.digits)

-- lengths past 128 bits are all alike
abbrev pub WIDE : ℕ
WIDE = 129

-- a part with this length, sign and value
abbrev pub standing : Option ℕ → Option Bool → Worth → Standing
standing length signed worth = record { length = length; signed = signed; worth = worth }

-- a constant as a part, of which all is known
abbrev pub constant_standing : Constant → Standing
constant_standing c = standing (Some c.word.width) (Some c.signed) (Value c.word)

-- nothing is known of it
abbrev pub unknown : Standing
unknown = standing None None Open

-- a literal as a part; nothing is known of one that writes no number
abbrev pub literal_standing : Option Constant → Standing
literal_standing None = unknown
literal_standing (Some c) = constant_standing c

-- a width from 1 to 128, and a sign
abbrev pub context_of : Option ℕ → Option Bool → Option Context
context_of (Some w) (Some s) = if nat_lt 0 w then (if nat_lt 128 w then None else Some (record { width = w; signed = s })) else None
context_of (Some w) None = None
context_of None s = None

-- what each context keeps
abbrev pub IsContext : Option Context → Type 0
IsContext None = Unit {0}
IsContext (Some x) = (0 < x.width) × (x.width ≤ 128)

-- a value at the width of the context, extended by its sign; open where there is no context
abbrev pub context_worth : Option Context → Word → Worth
context_worth None w = Open
context_worth (Some x) w = Value (resized_word x.width x.signed w)

-- the value of a part that stands for itself, extended to the width handed down by the sign handed down
abbrev pub extended : Option Context → Worth → Worth
extended x (Value w) = context_worth x w
extended x Open = Open
extended x NotConstant = NotConstant

-- two parts: one that isn't constant makes the whole not constant, also beside an open one
abbrev pub both : Worth → Worth → (Word → Word → Worth) → Worth
both NotConstant b go = NotConstant
both Open NotConstant go = NotConstant
both Open Open go = Open
both Open (Value n) go = Open
both (Value m) NotConstant go = NotConstant
both (Value m) Open go = Open
both (Value m) (Value n) go = go m n

-- what follows from a value, if it is known
abbrev pub worth_then : Worth → (Word → Worth) → Worth
worth_then NotConstant go = NotConstant
worth_then Open go = Open
worth_then (Value m) go = go m

-- a known value has the width of the context, and there is none without a context
abbrev pub IsIn : Option Context → Worth → Type 0
IsIn None (Value m) = ⊥
IsIn (Some x) (Value m) = m.width ≡ x.width
IsIn x Open = Unit {0}
IsIn x NotConstant = Unit {0}
