-- The shapes that ranges give (IEEE 1364-2005, 4.3.1 and 4.9).
use Rattle.std.specs.Prelude.{ℕ, ◌+◌, ◌<◌, ◌≤◌, [], Option, Some, None, if◌then◌else◌, ℤ, pos, ◌-ℤ◌, int_lt, unsigned_abs}
use Rattle.std.specs.Ordering.{int_eq}
use Rattle.v_tree.specs.declared.expr.Expr.{Expr}
use Rattle.v_tree.specs.declared.item.Range.{Range}
use Rattle.elab_names.specs.declared.names.Shape.{Shape}
use Rattle.elab_names.specs.declared.select.Number.{Number}
use Rattle.elab_names.specs.declared.select.Number.TheVariants as the
use Rattle.elab_names.specs.Names.{Scope}
use Rattle.elab_names.specs.Selects.{number_of}
use Rattle.elab_names.specs.Measured.{constant_of}

-- so many bits, the low end of the range, and so many words; 0 where it is no memory
abbrev pub shape : ℕ → ℕ → ℕ → Shape
shape bits low words = record { bits = bits; low = low; words = words }

-- a vector has from 1 to 64 bits
abbrev pub IsShape : Shape → Type 0
IsShape s = (0 < s.bits) × (s.bits ≤ 64)

-- the range of a vector: high isn't below low, low is from 0 to 2^32 - 1, and it has at most 64 bits (IEEE 1364-2005, 4.3.1)
abbrev pub vector : ℤ → ℤ → Option Shape
vector high low =
    if int_lt high low then None
    else if int_lt low (pos 0) then None
    else if int_lt (pos 4294967295) low then None
    else if int_lt (pos 63) (high -ℤ low) then None
    else Some (shape (unsigned_abs (high -ℤ low) + 1) (unsigned_abs low) 0)

-- the same, where both ends are known
abbrev pub vector_shape : Number → Number → Option Shape
vector_shape (the.Known h) (the.Known l) = vector h l
vector_shape (the.Known h) the.Open = None
vector_shape (the.Known h) the.NotConstant = None
vector_shape the.Open l = None
vector_shape the.NotConstant l = None

-- how many words a memory has whose one end is 0, by its other end: at most 4,096
abbrev pub words_to : ℤ → Option ℕ
words_to end = if int_lt end (pos 0) then None else if int_lt (pos 4095) end then None else Some (unsigned_abs end + 1)

-- how many words a memory has: one end of its range is 0 (IEEE 1364-2005, 4.9)
abbrev pub words_between : ℤ → ℤ → Option ℕ
words_between first last = if int_eq first (pos 0) then words_to last else if int_eq last (pos 0) then words_to first else None

-- the same, where both ends are known
abbrev pub memory_words : Number → Number → Option ℕ
memory_words (the.Known f) (the.Known l) = words_between f l
memory_words (the.Known f) the.Open = None
memory_words (the.Known f) the.NotConstant = None
memory_words the.Open l = None
memory_words the.NotConstant l = None

-- a memory of so many words of this shape
abbrev pub with_words : Option Shape → Option ℕ → Option Shape
with_words None words = None
with_words (Some s) None = None
with_words (Some s) (Some words) = Some (shape s.bits s.low words)

-- an end of a range is constant, outside all loops
abbrev pub end_of : Scope → Expr → Number
end_of names e = number_of (constant_of names [] e)

-- the shape of a vector
abbrev pub range_shape : Scope → Range → Option Shape
range_shape names r = vector_shape (end_of names r.high) (end_of names r.low)

-- a scalar has the range `[0:0]`
abbrev pub shape_of : Scope → Option Range → Option Shape
shape_of names None = Some (shape 1 0 0)
shape_of names (Some r) = range_shape names r

-- the shape of a memory, by that of its words and the range of its words
abbrev pub memory_shape : Scope → Option Shape → Range → Option Shape
memory_shape names word r = with_words word (memory_words (end_of names r.high) (end_of names r.low))
