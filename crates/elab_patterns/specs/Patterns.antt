-- Literals that are items of a `casez`. Their digits `z` and `?` don't count (IEEE 1364-2005, 9.5.1), and they are padded on
-- the left with `z` where their leftmost digit is one (3.5.1).
use Rattle.std.specs.Prelude.{ℕ, ◌%◌, ◌^◌, List, [], ◌∷◌, ◌++◌, map, replicate, Option, Some, None, Result, Bool, true, false, ◌==◌, ◌||◌, ◌&&◌, not, if◌then◌else◌}
use Rattle.bits_core.specs.Word.{Word, word, resized_word}
use Rattle.src_text.specs.Digits.{is_underscore, value_of, reading}
use Rattle.src_text.specs.declared.digits.DigitFault.{DigitFault}
use Rattle.v_tree.specs.declared.expr.Base.{Base}
use Rattle.v_tree.specs.declared.expr.Base.TheVariants as base
use Rattle.v_tree.specs.declared.expr.BasedNumber.{BasedNumber}
use Rattle.v_tree.specs.declared.expr.Literal.{Literal}
use Rattle.v_tree.specs.declared.expr.Literal.TheVariants as literal
use Rattle.elab_names.specs.declared.constant.Constant.{Constant}
use Rattle.elab_names.specs.Constants.{radix, without_size, sized, literal_constant}

-- `z`, `Z` and `?`
abbrev pub is_loose_byte : ℕ → Bool
is_loose_byte b = b == 122 || (b == 90 || b == 63)

-- whether a base has digits that don't count
abbrev pub has_loose : Base → Bool
has_loose base.Binary = true
has_loose base.Octal = true
has_loose base.Decimal = false
has_loose base.Hexadecimal = true

-- a digit that doesn't count
abbrev pub is_loose : Base → ℕ → Bool
is_loose b byte = has_loose b && is_loose_byte byte

-- the greatest digit of a base: `1`, `7`, `9` or `f`
abbrev pub greatest : Base → ℕ
greatest base.Binary = 49
greatest base.Octal = 55
greatest base.Decimal = 57
greatest base.Hexadecimal = 102

-- a digit as it is read for the value: 0 where it doesn't count
abbrev pub counted_digit : Base → ℕ → ℕ
counted_digit b byte = if is_loose b byte then 48 else byte

-- a digit as it is read for the bits that don't count: all bits of one that doesn't, and none of one that does
abbrev pub loose_digit : Base → ℕ → ℕ
loose_digit b byte = if is_loose b byte then greatest b else (if is_underscore byte then byte else 48)

-- whether the leftmost digit doesn't count
abbrev pub begins_loose : Base → List ℕ → Bool
begins_loose b [] = false
begins_loose b (byte ∷ bytes) = is_loose b byte

-- the digits on the left that a literal is padded with; no size is over 128 bits
unfoldable pub padding : Base → Bool → List ℕ
padding b true = replicate 128 (greatest b)
padding b false = []

-- the number whose bits don't count; no literal has more than 128
abbrev pub loose_number : Base → List ℕ → ℕ
loose_number b bytes = value_of (radix b) (padding b (begins_loose b bytes) ++ map (loose_digit b) bytes) % 2 ^ 128

-- the number of the digits that count
abbrev pub counted : BasedNumber → Result ℕ DigitFault
counted b = reading (radix b.base) (map (counted_digit b.base) b.digits)

-- whether digits of a literal need not count: of one that is unsigned
abbrev pub is_pattern : Literal → Bool
is_pattern (literal.Decimal d) = false
is_pattern (literal.Based b) = not b.signed
is_pattern (literal.Sized s b) = not b.signed

-- what an unsigned literal writes where digits that don't count are 0
abbrev pub counted_constant : Literal → Option Constant
counted_constant (literal.Decimal d) = literal_constant (literal.Decimal d)
counted_constant (literal.Based b) = without_size b.signed (counted b)
counted_constant (literal.Sized s b) = sized b.signed (reading 10 s.digits) (counted b)

-- what a literal that is an item of a `casez` writes
abbrev pub pattern_constant : Literal → Option Constant
pattern_constant l = if is_pattern l then counted_constant l else literal_constant l

-- no bit, of 128
abbrev pub none_loose : Word
none_loose = word 128 0

-- those of a number without size, which has 32 bits: beyond them they are like the highest one
abbrev pub loose_without_size : BasedNumber → Word
loose_without_size b = if b.signed then none_loose else resized_word 128 true (word 32 (loose_number b.base b.digits % 2 ^ 32))

-- those of a number with a size: beyond it all count
abbrev pub loose_sized : BasedNumber → Option Constant → Word
loose_sized b None = none_loose
loose_sized b (Some c) = if b.signed then none_loose else resized_word 128 false (word c.word.width (loose_number b.base b.digits % 2 ^ c.word.width))

-- the bits that don't count of a literal that is an item of a `casez`
abbrev pub loose_bits : Literal → Word
loose_bits (literal.Decimal d) = none_loose
loose_bits (literal.Based b) = loose_without_size b
loose_bits (literal.Sized s b) = loose_sized b (pattern_constant (literal.Sized s b))
