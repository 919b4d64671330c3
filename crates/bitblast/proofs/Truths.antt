-- The truth tables of small circuits.
use Rattle.std.proofs.Common.{◌≡◌, ◌+◌, ◌*◌, Bool, true, false, not, ◌&&◌, ◌||◌, refl, ap, ◌∙◌}
use Rattle.std.specs.Prelude.{if◌then◌else◌}
use Rattle.bitblast.specs.Circuit.{differ}
use Rattle.bits_core.specs.Word.{bit}

exclusive_table : (p q : Bool) → (not (p && q) && not (not p && not q)) ≡ differ p q
exclusive_table true true = refl
exclusive_table true false = refl
exclusive_table false true = refl
exclusive_table false false = refl

pub exclusive_is : (p q two m n neither k l e : Bool) → two ≡ (p && q) → m ≡ not p → n ≡ not q → neither ≡ (m && n) → k ≡ not two → l ≡ not neither → e ≡ (k && l) → e ≡ differ p q
exclusive_is p q two m n neither k l e f g h i j t u =
    u ∙ ap (λ x. x && l) (j ∙ ap not f) ∙ ap (λ x. not (p && q) && x) (t ∙ ap not (i ∙ ap (λ x. x && n) g ∙ ap (λ x. not p && x) h)) ∙ exclusive_table p q

adder_table : (p q r : Bool) → bit (differ (differ p q) r) + 2 * bit ((p && q) || (differ p q && r)) ≡ bit p + bit q + bit r
adder_table true true true = refl
adder_table true true false = refl
adder_table true false true = refl
adder_table true false false = refl
adder_table false true true = refl
adder_table false true false = refl
adder_table false false true = refl
adder_table false false false = refl

pub adder_is : (p q r h s m d c : Bool) → h ≡ differ p q → s ≡ differ h r → m ≡ (p && q) → d ≡ (h && r) → c ≡ (m || d) → bit s + 2 * bit c ≡ bit p + bit q + bit r
adder_is p q r h s m d c e f g i j =
    ap (λ x. bit x + 2 * bit c) (f ∙ ap (λ x. differ x r) e)
    ∙ ap (λ x. bit (differ (differ p q) r) + 2 * bit x) (j ∙ ap (λ x. x || d) g ∙ ap (λ x. (p && q) || x) (i ∙ ap (λ x. x && r) e))
    ∙ adder_table p q r

choose_table : (c p q : Bool) → ((c && p) || (not c && q)) ≡ (if c then p else q)
choose_table true true true = refl
choose_table true true false = refl
choose_table true false true = refl
choose_table true false false = refl
choose_table false true true = refl
choose_table false true false = refl
choose_table false false true = refl
choose_table false false false = refl

pub choose_is : (c p q n l r e : Bool) → l ≡ (c && p) → n ≡ not c → r ≡ (n && q) → e ≡ (l || r) → e ≡ (if c then p else q)
choose_is c p q n l r e f g h i =
    i ∙ ap (λ x. x || r) f ∙ ap (λ x. (c && p) || x) (h ∙ ap (λ x. x && q) g) ∙ choose_table c p q
