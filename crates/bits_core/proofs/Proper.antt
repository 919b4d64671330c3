-- What the operations give are words.
use Rattle.std.proofs.Common.{◌≡◌, ℕ, ◌+◌, ◌-◌, ◌/◌, ◌^◌, ◌<◌, ◌≤◌, Bool, subst, arith}
use Rattle.bits_core.specs.declared.op.Op1.{Op1}
use Rattle.bits_core.specs.declared.op.Op1.TheVariants.{Not, Neg, RedAnd, RedOr, RedXor}
use Rattle.bits_core.specs.declared.op.Op2.{Op2}
use Rattle.bits_core.specs.declared.op.Op2.TheVariants.{And, Or, Xor, Add, Sub, Mul, DivU, DivS, RemU, RemS, Shl, ShrU, ShrS, Eq, LtU, LtS}
use Rattle.bits_core.specs.Word.{Word, IsWord, IsWidth, resized_word, sliced, joined, number}
use Rattle.bits_core.specs.Ops.{width1, width2, word1, word2}
use Rattle.bits_core.proofs.Bounds.{value1_below, value2_below, modulo_below, mod_below, join_below}

pub width1_is : (op : Op1) (w : ℕ) → 0 < w → w ≤ 128 → IsWidth (width1 op w)
width1_is Not w p q = (p, q)
width1_is Neg w p q = (p, q)
width1_is RedAnd w p q = (omega arith, omega arith)
width1_is RedOr w p q = (omega arith, omega arith)
width1_is RedXor w p q = (omega arith, omega arith)

pub width2_is : (op : Op2) (w : ℕ) → 0 < w → w ≤ 128 → IsWidth (width2 op w)
width2_is And w p q = (p, q)
width2_is Or w p q = (p, q)
width2_is Xor w p q = (p, q)
width2_is Add w p q = (p, q)
width2_is Sub w p q = (p, q)
width2_is Mul w p q = (p, q)
width2_is DivU w p q = (p, q)
width2_is DivS w p q = (p, q)
width2_is RemU w p q = (p, q)
width2_is RemS w p q = (p, q)
width2_is Shl w p q = (p, q)
width2_is ShrU w p q = (p, q)
width2_is ShrS w p q = (p, q)
width2_is Eq w p q = (omega arith, omega arith)
width2_is LtU w p q = (omega arith, omega arith)
width2_is LtS w p q = (omega arith, omega arith)

pub word1_is : (op : Op1) (a : Word) → IsWord a → IsWord (word1 op a)
word1_is op a h =
    let w : IsWidth (width1 op a.width) = width1_is op a.width h.some h.within in
    record { some = w.0; within = w.1; below = value1_below op a.width a.value }

pub word2_is : (op : Op2) (a b : Word) → IsWord a → IsWord b → b.width ≡ a.width → IsWord (word2 op a b)
word2_is op a b h i e =
    let w : IsWidth (width2 op a.width) = width2_is op a.width h.some h.within in
    let lt : b.value < 2 ^ a.width = subst (λ k. b.value < 2 ^ k) e i.below in
    record { some = w.0; within = w.1; below = value2_below op a.width a.value b.value h.below lt }

pub resized_is : (to : ℕ) (signed : Bool) (a : Word) → 0 < to → to ≤ 128 → IsWord (resized_word to signed a)
resized_is to signed a p q = record { some = p; within = q; below = modulo_below to (number signed a.width a.value) }

pub sliced_is : (high low : ℕ) (a : Word) → IsWord a → low ≤ high → high < a.width → IsWord (sliced high low a)
sliced_is high low a h p q =
    let w = h.within in
    record { some = omega arith; within = omega arith; below = mod_below (high - low + 1) (a.value / 2 ^ low) }

pub joined_is : (a b : Word) → IsWord a → IsWord b → a.width + b.width ≤ 128 → IsWord (joined a b)
joined_is a b h i q =
    let s = h.some in
    record { some = omega arith; within = q; below = join_below a.width b.width a.value b.value h.below i.below }
