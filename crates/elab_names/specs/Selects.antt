-- Selects of constants (IEEE 1364-2005, 5.2.1).
use Rattle.std.specs.Prelude.{ℕ, ◌<◌, ◌≤◌, ◌+◌, List, Option, Some, None, Bool, true, false, nat_lt, ◌&&◌, ◌||◌, not, if◌then◌else◌, ℤ, pos, ◌+ℤ◌, ◌-ℤ◌, neg_ℤ, int_lt, unsigned_abs}
use Rattle.bits_core.specs.Word.{Word, word, number, resized_word}
use Rattle.bits_core.specs.Ops.{word2}
use Rattle.bits_core.specs.declared.op.Op2.TheVariants as two
use Rattle.elab_names.specs.declared.constant.Standing.{Standing}
use Rattle.elab_names.specs.declared.constant.Worth.{Worth}
use Rattle.elab_names.specs.declared.constant.Worth.TheVariants.{Value, Open, NotConstant}
use Rattle.elab_names.specs.declared.select.Number.{Number}
use Rattle.elab_names.specs.declared.select.Number.TheVariants as the
use Rattle.elab_names.specs.declared.select.Choice.{Choice}
use Rattle.elab_names.specs.declared.select.Choice.TheVariants as choice
use Rattle.elab_names.specs.declared.names.Entry.{Entry}
use Rattle.elab_names.specs.declared.names.Entry.TheVariants.{Parameter, Signal}
use Rattle.elab_names.specs.declared.names.Turn.{Turn}
use Rattle.elab_names.specs.Constants.{standing}
use Rattle.elab_names.specs.Names.{entry_standing}

-- no range reaches further from 0 than 2^40
abbrev pub FAR : ℕ
FAR = 1099511627776

-- a number no further from 0 than the furthest range
abbrev pub nearer : ℤ → ℤ
nearer z = if int_lt (pos FAR) z then pos FAR else if int_lt z (neg_ℤ (pos FAR)) then neg_ℤ (pos FAR) else z

-- the number that a constant stands for by its own sign; a number that lies beyond all ranges is as far as any other
abbrev pub near : Bool → Word → ℤ
near signed w = if signed then nearer (number true w.width w.value) else (if nat_lt FAR w.value then pos FAR else pos w.value)

-- the number of a word, where its sign is known
abbrev pub known_number : Option Bool → Word → Number
known_number None w = the.Open
known_number (Some signed) w = the.Known (near signed w)

-- the number of a value, where it is known
abbrev pub number_at : Option Bool → Worth → Number
number_at signed (Value w) = known_number signed w
number_at signed Open = the.Open
number_at signed NotConstant = the.NotConstant

-- the number that a part stands for
abbrev pub number_of : Standing → Number
number_of s = number_at s.signed s.worth

-- the bits of a word from a place on, which counts from its bit 0; 0 where the word has none
abbrev pub bits_at : Word → ℤ → ℕ → Word
bits_at w from width =
    if int_lt from (pos 0) then resized_word width false (word2 two.Shl (resized_word 128 false w) (word 128 (unsigned_abs from)))
    else resized_word width false (word2 two.ShrU (resized_word 128 false w) (word 128 (unsigned_abs from)))

-- `[ high : low ]` has so many bits, where low isn't above high
abbrev pub part_width : ℤ → ℤ → Option ℕ
part_width high low = if int_lt high low then None else (if int_lt (pos 127) (high -ℤ low) then None else Some (unsigned_abs (high -ℤ low) + 1))

-- the width of `+:` and `-:` is from 1 to 64
abbrev pub indexed_width : ℤ → Option ℕ
indexed_width n = if int_lt n (pos 1) then None else (if int_lt (pos 64) n then None else Some (unsigned_abs n))

-- the width of `[ high : low ]`, where both ends are known
abbrev pub part_choice : Number → Number → Option ℕ
part_choice (the.Known h) (the.Known l) = part_width h l
part_choice (the.Known h) the.Open = None
part_choice (the.Known h) the.NotConstant = None
part_choice the.Open l = None
part_choice the.NotConstant l = None

-- the width of `+:` and `-:`, where it is known
abbrev pub width_choice : Number → Option ℕ
width_choice (the.Known n) = indexed_width n
width_choice the.Open = None
width_choice the.NotConstant = None

-- a select has from 1 to 128 bits
abbrev pub IsLength : ℕ → Type 0
IsLength w = (0 < w) × (w ≤ 128)

-- how many bits a select has
abbrev pub choice_width : Choice → Option ℕ
choice_width (choice.Index i) = Some 1
choice_width (choice.Range h l) = part_choice h l
choice_width (choice.Up base w) = width_choice w
choice_width (choice.Down base w) = width_choice w

-- a number that isn't constant
abbrev pub is_varying : Number → Bool
is_varying (the.Known n) = false
is_varying the.Open = false
is_varying the.NotConstant = true

-- whether a part of a select isn't constant
abbrev pub is_varying_choice : Choice → Bool
is_varying_choice (choice.Index i) = is_varying i
is_varying_choice (choice.Range h l) = is_varying h || is_varying l
is_varying_choice (choice.Up base w) = is_varying base || is_varying w
is_varying_choice (choice.Down base w) = is_varying base || is_varying w

-- the lowest bit of a select, by its name's range
abbrev pub lowest : Choice → ℕ → Option ℤ
lowest (choice.Index (the.Known i)) width = Some i
lowest (choice.Range h (the.Known l)) width = Some l
lowest (choice.Up (the.Known base) w) width = Some base
lowest (choice.Down (the.Known base) w) width = Some ((base -ℤ pos width) +ℤ pos 1)
lowest choice width = None

-- a part select lies inside the range
abbrev pub is_inside : Choice → ℕ → ℕ → ℤ → Bool
is_inside (choice.Range h l) bits width from = not (int_lt from (pos 0)) && not (int_lt (pos bits -ℤ pos width) from)
is_inside c bits width from = true

-- the bits of a word from a place on, if the select lies where it may
abbrev pub bits_worth : Choice → Word → ℕ → ℤ → Worth
bits_worth c w width from = if is_inside c w.width width from then Value (bits_at w from width) else Open

-- a select's bits, where its lowest bit is known; `low` is the low end of the range
abbrev pub lowest_worth : Choice → Word → ℕ → ℕ → Option ℤ → Worth
lowest_worth c w low width None = Open
lowest_worth c w low width (Some from) = bits_worth c w width (from -ℤ pos low)

-- a select's bits, where its width is known
abbrev pub width_worth : Choice → Word → ℕ → Option ℕ → Worth
width_worth c w low None = Open
width_worth c w low (Some width) = lowest_worth c w low width (lowest c width)

-- a select of a constant whose range ends at a low end
abbrev pub selected_worth : Choice → ℕ → Worth → Worth
selected_worth c low (Value w) = width_worth c w low (choice_width c)
selected_worth c low Open = Open
selected_worth c low NotConstant = NotConstant

-- the low end of a name's range
abbrev pub entry_low : Option Entry → ℕ
entry_low (Some (Parameter (Some p))) = p.low
entry_low e = 0

-- the name stands for a memory (IEEE 1364-2005, 4.9)
abbrev pub is_memory : Option Entry → Bool
is_memory (Some (Signal s)) = s.memory
is_memory e = false

-- the bits of a name without sign
abbrev pub bits_of : Choice → ℕ → Worth → Standing
bits_of c low name = standing (choice_width c) (Some false) (if is_varying_choice c then NotConstant else selected_worth c low name)

-- a select: bits without sign, or a word of a memory
abbrev pub select_standing : List Turn → Option Entry → Choice → Standing
select_standing turns e c =
    if is_memory e then entry_standing turns e else bits_of c (entry_low e) (entry_standing turns e).worth
