-- Worked values.
use Rattle.std.proofs.Common.{◌≡◌, ℕ, zero, suc, ◌+◌, ◌*◌, ◌%◌, ◌^◌, [], ◌∷◌, length, Bool, true, false, refl}
use Rattle.std.specs.Prelude.{nat_eq, if◌then◌else◌}
use Rattle.bits_core.specs.Word.{word}
use Rattle.src_text.specs.declared.refusal.Place.{Place}
use Rattle.v_tree.specs.declared.expr.BinaryOp.{BinaryOp}
use Rattle.v_tree.specs.declared.expr.BinaryOp.TheVariants as binary
use Rattle.flat_tree.specs.declared.expr.FlatExpr.{FlatExpr}
use Rattle.flat_tree.specs.declared.expr.FlatExpr as flat
use Rattle.flat_tree.specs.declared.expr.FlatSelection as selection
use Rattle.flat_tree.specs.Values.{Shape, World, length_of, is_signed, sites_of, is_fixed, value_in}
use Rattle.flat_tree.specs.Measures.{nodes_of, weight_of}

abbrev here : Place
here = record { line = 1; column = 1 }

-- 0 is a 4-bit signal without sign, 1 a 4-bit signal with one, 2 a 3-bit signal, 3 a memory of 2 words of 8 bits, and
-- others have 2 bits
abbrev shapes : ℕ → Shape
shapes zero = record { bits = 4; signed = false; low = 0; words = 0 }
shapes (suc zero) = record { bits = 4; signed = true; low = 0; words = 0 }
shapes (suc (suc zero)) = record { bits = 3; signed = false; low = 0; words = 0 }
shapes (suc (suc (suc zero))) = record { bits = 8; signed = false; low = 0; words = 2 }
shapes g = record { bits = 2; signed = false; low = 0; words = 0 }

-- each signal holds n, word i of the memory 10 + i, and site k has the number 100 + k
abbrev world : ℕ → World
world n = record { word = λ g i. if nat_eq g 3 then 10 + i else n; unknown = λ k. 100 + k }

abbrev name : ℕ → FlatExpr
name g = flat.Signal here g

abbrev plain : ℕ → FlatExpr
plain n = flat.Literal (record { place = here; word = word 32 n; signed = true; is_unsized = true })

abbrev sized : ℕ → ℕ → FlatExpr
sized w n = flat.Literal (record { place = here; word = word w n; signed = false; is_unsized = false })

abbrev both : BinaryOp → FlatExpr → FlatExpr → FlatExpr
both op a b = flat.Binary' tt (flat.more_of-FlatExpr a flat.end_of-FlatExpr) (record { place = here; op = op }) tt (flat.more_of-FlatExpr b flat.end_of-FlatExpr)

abbrev bit_at : ℕ → FlatExpr → FlatExpr
bit_at g i = flat.Select here g (selection.Bit' tt (flat.more_of-FlatExpr i flat.end_of-FlatExpr))

abbrev inside : FlatExpr → FlatExpr
inside a = flat.Parentheses' here tt (flat.more_of-FlatExpr a flat.end_of-FlatExpr)

abbrev value : FlatExpr → ℕ → ℕ → Bool → ℕ
value e n w s = value_in shapes e (world n) w s 0

-- `(a + 1) >> 1` of a 4-bit `a` that is 15, for 8 bits: at 32 bits the carry stays
wide : value (both binary.ShiftRight (inside (both binary.Add (name 0) (plain 1))) (plain 1)) 15 32 false % 2 ^ 8 ≡ 8
wide = refl

-- `(a + 4'd1) >> 1` for 4 bits: the carry is lost
narrow : value (both binary.ShiftRight (inside (both binary.Add (name 0) (sized 4 1))) (plain 1)) 15 4 false ≡ 0
narrow = refl

-- a signed 4-bit register that is -1, at 8 bits: by its sign; a part select of it has none
signed_whole : value (name 1) 15 8 true ≡ 255
signed_whole = refl

signed_part : value (flat.Select here 1 (selection.Part 3 0)) 15 8 (is_signed shapes (flat.Select here 1 (selection.Part 3 0))) ≡ 15
signed_part = refl

-- `8 / a`: the quotient, and where `a` is 0 the number of its site
quotient : value (both binary.Divide (plain 8) (name 0)) 2 32 false ≡ 4
quotient = refl

unknown : value (both binary.Divide (plain 8) (name 0)) 0 32 false ≡ 100
unknown = refl

-- `8 / a / a`: two sites, the inner one first
two_sites : value (both binary.Divide (both binary.Divide (plain 8) (name 0)) (name 0)) 0 32 false ≡ 101
two_sites = refl

-- `t[i] ^ t[i]` of 3 bits where `i` is 3: each select has a number of its own, 100 and 101, of which bit 0 is read
apart : value (both binary.BitXor (bit_at 2 (name 4)) (bit_at 2 (name 4))) 3 1 false ≡ 1
apart = refl

-- `t[1]` has no site, `t[3]` has one and isn't constant, nor is any name
in_range : length (sites_of shapes (bit_at 2 (plain 1)) 1) ≡ 0
in_range = refl

out_of_range : length (sites_of shapes (bit_at 2 (plain 3)) 1) ≡ 1
out_of_range = refl

-- a word of a memory: in range, and past its end the site's number
in_memory : value (bit_at 3 (sized 1 1)) 0 8 false ≡ 11
in_memory = refl

past_memory : value (bit_at 3 (name 4)) 2 8 false ≡ 100
past_memory = refl

-- an index is read by its own sign: `t[b]` where `b` is -1 reads no bit
below : value (bit_at 2 (name 1)) 15 1 false ≡ 0
below = refl

-- `>>>` copies the sign bit where the context is signed, and else zeros
arithmetic : value (both binary.ArithmeticShiftRight (name 1) (plain 1)) 8 8 true ≡ 252
arithmetic = refl

logical : value (both binary.ArithmeticShiftRight (name 1) (plain 1)) 8 8 false ≡ 4
logical = refl

-- operands of a comparison that are both signed are compared so: -1 < 1
signed_less : value (both binary.Less (name 1) (plain 1)) 15 1 false ≡ 1
signed_less = refl

-- `{2{a, t}}`: 14 bits without sign
copies : FlatExpr
copies = flat.Replication' here 2 (tt ∷ tt ∷ []) (flat.more_of-FlatExpr (name 0) (flat.more_of-FlatExpr (name 2) flat.end_of-FlatExpr))

copies_length : length_of shapes copies ≡ 14
unfolding copies
copies_length = refl

copies_value : value copies 5 14 false ≡ 45 * 2 ^ 7 + 45
unfolding copies
copies_value = refl

-- `4 / 2` is constant, though it has a site; `4 / 0` isn't
divides : is_fixed shapes (both binary.Divide (plain 4) (plain 2)) 32 true ≡ true
divides = refl

divides_not : is_fixed shapes (both binary.Divide (plain 4) (plain 0)) 32 true ≡ false
divides_not = refl

-- a division of over 64 bits has two numbers
wide_sites : length (sites_of shapes (both binary.Divide (plain 4) (name 0)) 65) ≡ 2
wide_sites = refl

-- the weight of `8 / a` at 32 bits: two operands of 4 each, its row with its site, and its own 4
weight : weight_of shapes (both binary.Divide (plain 8) (name 0)) 32 ≡ 16 * (32 * 32) + 80 * 32 + 8 * 32 + 12
weight = refl

-- a memory word by an index that isn't constant counts its words as nodes, and a constant one 1
word_nodes : nodes_of shapes (bit_at 3 (name 4)) ≡ 3
word_nodes = refl

one_node : nodes_of shapes (bit_at 3 (plain 7)) ≡ 2
one_node = refl
