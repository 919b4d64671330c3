-- What the operations give is below its width.
use Rattle.std.proofs.Common.{◌≡◌, ℕ, zero, suc, ◌+◌, ◌*◌, ◌%◌, ◌^◌, ◌<◌, ◌≤◌, Bool, true, false, sym, subst, arith}
use Rattle.std.specs.Prelude.{ℤ, int_div, int_rem}
use Rattle.std.proofs.Math.Nat.{mod-lt, mod-eq_of_lt}
use Rattle.std.proofs.lemmas.Nat.{pow_pos, and_le_l, or_lt, xor_lt, pow-add, mul-add-lt}
use Rattle.bits_core.specs.declared.op.Op1.{Op1}
use Rattle.bits_core.specs.declared.op.Op1.TheVariants.{Not, Neg, RedAnd, RedOr, RedXor}
use Rattle.bits_core.specs.declared.op.Op2.{Op2}
use Rattle.bits_core.specs.declared.op.Op2.TheVariants.{And, Or, Xor, Add, Sub, Mul, DivU, DivS, RemU, RemS, Shl, ShrU, ShrS, Eq, LtU, LtS}
use Rattle.bits_core.specs.Word.{bit, at_zero, modulo, number, floor_div}
use Rattle.bits_core.specs.Ops.{value1, value2, width1, width2}
use Rattle.bits_core.proofs.Laws.{wrap_below, pow_le}

pub modulo_below : (w : ℕ) (z : ℤ) → modulo w z < 2 ^ w
modulo_below w z = wrap_below (2 ^ w) z (pow_pos w)

pub mod_below : (w n : ℕ) → n % 2 ^ w < 2 ^ w
mod_below w n = mod-lt n (pow_pos w)

pub bit_below : (b : Bool) → bit b < 2 ^ 1
bit_below true = omega arith
bit_below false = omega arith

pub at_zero_below : (m n x y : ℕ) → x < m → y < m → at_zero n x y < m
at_zero_below m zero x y p q = p
at_zero_below m (suc n) x y p q = q

pub value1_below : (op : Op1) (w x : ℕ) → value1 op w x < 2 ^ width1 op w
value1_below Not w x = let p = pow_pos w in omega arith
value1_below Neg w x = modulo_below w _
value1_below RedAnd w x = bit_below _
value1_below RedOr w x = bit_below _
value1_below RedXor w x = bit_below _

pub value2_below : (op : Op2) (w x y : ℕ) → x < 2 ^ w → y < 2 ^ w → value2 op w x y < 2 ^ width2 op w
value2_below And w x y p q = let le = and_le_l x y in omega arith
value2_below Or w x y p q = or_lt w x y p q
value2_below Xor w x y p q = xor_lt w x y p q
value2_below Add w x y p q = mod_below w (x + y)
value2_below Sub w x y p q = modulo_below w _
value2_below Mul w x y p q = mod_below w (x * y)
value2_below DivU w x y p q = at_zero_below (2 ^ w) y _ _ (pow_pos w) (modulo_below w (int_div (number false w x) (number false w y)))
value2_below DivS w x y p q = at_zero_below (2 ^ w) y _ _ (pow_pos w) (modulo_below w _)
value2_below RemU w x y p q = at_zero_below (2 ^ w) y _ _ (pow_pos w) (modulo_below w (int_rem (number false w x) (number false w y)))
value2_below RemS w x y p q = at_zero_below (2 ^ w) y _ _ (pow_pos w) (modulo_below w _)
value2_below Shl w x y p q = mod_below w (x * 2 ^ y)
value2_below ShrU w x y p q = modulo_below w (floor_div (number false w x) (2 ^ y))
value2_below ShrS w x y p q = modulo_below w _
value2_below Eq w x y p q = bit_below _
value2_below LtU w x y p q = bit_below _
value2_below LtS w x y p q = bit_below _

pub join_below : (w n x y : ℕ) → x < 2 ^ w → y < 2 ^ n → x * 2 ^ n + y < 2 ^ (w + n)
join_below w n x y p q = let e = pow-add 2 w n in let h = mul-add-lt x (2 ^ n) y (2 ^ w) p q in grind arith

pub below1 : (op : Op1) (w x r v : ℕ) → v ≡ value1 op w x → r ≡ width1 op w → v < 2 ^ r
below1 op w x r v e f = subst (λ k. k < 2 ^ r) (sym e) (subst (λ k. value1 op w x < 2 ^ k) (sym f) (value1_below op w x))

pub below2 : (op : Op2) (w x y r v : ℕ) → v ≡ value2 op w x y → r ≡ width2 op w → x < 2 ^ w → y < 2 ^ w → v < 2 ^ r
below2 op w x y r v e f p q = subst (λ k. k < 2 ^ r) (sym e) (subst (λ k. value2 op w x y < 2 ^ k) (sym f) (value2_below op w x y p q))

pub join_fits : (w n x y : ℕ) → x < 2 ^ w → y < 2 ^ n → w + n ≤ 128 → x * 2 ^ n + y < 340282366920938463463374607431768211456
join_fits w n x y p q h = let lt = join_below w n x y p q in let le : 2 ^ (w + n) ≤ 2 ^ 128 = pow_le (w + n) 128 h in omega arith

pub join_whole : (w n x y : ℕ) → x < 2 ^ w → y < 2 ^ n → w + n ≤ 128 → x * 2 ^ n % 340282366920938463463374607431768211456 ≡ x * 2 ^ n
join_whole w n x y p q h = let lt = join_fits w n x y p q h in let l : x * 2 ^ n < 340282366920938463463374607431768211456 = omega arith in mod-eq_of_lt l

pub half_fits : (w x : ℕ) → w ≤ 128 → x + x < 2 ^ w → x < 170141183460469231731687303715884105728
half_fits w x h l = let le : 2 ^ w ≤ 2 ^ 128 = pow_le w 128 h in omega arith
