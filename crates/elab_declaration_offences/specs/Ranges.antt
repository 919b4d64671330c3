-- What may be wrong with a range (IEEE 1364-2005, 4.3.1 and 4.9). Of each rule the ends that it speaks of are known.
use Rattle.std.specs.Prelude.{List, [], ◌++◌, Option, Some, None, Bool, false, ◌&&◌, ◌||◌, not, pos, ◌-ℤ◌, int_lt}
use Rattle.std.specs.Ordering.{int_eq}
use Rattle.src_text.specs.declared.kind.Kind.TheVariants.{VRange}
use Rattle.v_tree.specs.declared.expr.Expr.{Expr}
use Rattle.v_tree.specs.declared.item.Range.{Range}
use Rattle.offence_order.specs.declared.Offence.{Offence}
use Rattle.elab_names.specs.declared.select.Number.{Number}
use Rattle.elab_names.specs.declared.select.Number.TheVariants as the
use Rattle.elab_names.specs.Names.{Scope}
use Rattle.elab_names.specs.Selects.{number_of}
use Rattle.elab_names.specs.Measured.{constant_of}
use Rattle.elab_offences.specs.Rules.{at_if, is_below as is_below_number}
use Rattle.elab_offences.specs.Expressions.{constant_offences}

-- an end of a range stands outside all loops
abbrev pub end_of : Scope → Expr → Number
end_of names e = number_of (constant_of names [] e)

-- the high end is below the low one
abbrev pub is_below : Number → Number → Bool
is_below h l = is_below_number h l

-- the low end of a vector is from 0 to 2^32 - 1
abbrev pub is_wrong_low : Number → Bool
is_wrong_low (the.Known l) = int_lt l (pos 0) || int_lt (pos 4294967295) l
is_wrong_low the.Open = false
is_wrong_low the.NotConstant = false

-- a vector has at most 64 bits
abbrev pub is_long : Number → Number → Bool
is_long (the.Known h) (the.Known l) = int_lt (pos 63) (h -ℤ l)
is_long (the.Known h) the.Open = false
is_long (the.Known h) the.NotConstant = false
is_long the.Open l = false
is_long the.NotConstant l = false

-- no range of a vector (IEEE 1364-2005, 4.3.1)
abbrev pub is_wrong_vector : Number → Number → Bool
is_wrong_vector h l = is_wrong_low l || (is_below h l || is_long h l)

-- no end of a memory is below 0
abbrev pub is_negative : Number → Bool
is_negative (the.Known n) = int_lt n (pos 0)
is_negative the.Open = false
is_negative the.NotConstant = false

-- one end of a memory is 0
abbrev pub is_off_nought : Number → Number → Bool
is_off_nought (the.Known f) (the.Known l) = not (int_eq f (pos 0)) && not (int_eq l (pos 0))
is_off_nought (the.Known f) the.Open = false
is_off_nought (the.Known f) the.NotConstant = false
is_off_nought the.Open l = false
is_off_nought the.NotConstant l = false

-- a memory has at most 4,096 words
abbrev pub is_many : Number → Number → Bool
is_many (the.Known f) (the.Known l) = int_lt (pos 4095) (f -ℤ l) || int_lt (pos 4095) (l -ℤ f)
is_many (the.Known f) the.Open = false
is_many (the.Known f) the.NotConstant = false
is_many the.Open l = false
is_many the.NotConstant l = false

-- no range of a memory (IEEE 1364-2005, 4.9)
abbrev pub is_wrong_memory : Number → Number → Bool
is_wrong_memory f l = (is_negative f || is_negative l) || (is_off_nought f l || is_many f l)

-- both ends must be constant
abbrev pub ends_offences : Scope → Range → List Offence
ends_offences names r = constant_offences names [] r.high ++ constant_offences names [] r.low

-- the range of a vector, told at its `[`
abbrev pub vector_offences : Scope → Range → List Offence
vector_offences names r = ends_offences names r ++ at_if (is_wrong_vector (end_of names r.high) (end_of names r.low)) r.place VRange

-- the same, if there is one
abbrev pub optional_offences : Scope → Option Range → List Offence
optional_offences names None = []
optional_offences names (Some r) = vector_offences names r

-- the range of a memory's words, told at its `[`
abbrev pub memory_offences : Scope → Range → List Offence
memory_offences names r = ends_offences names r ++ at_if (is_wrong_memory (end_of names r.high) (end_of names r.low)) r.place VRange
