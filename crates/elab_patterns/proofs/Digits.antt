-- One digit more, of numbers that are cut to 128 bits.
use Rattle.std.proofs.Common.{◌≡◌, ℕ, ◌+◌, ◌*◌, ◌%◌, ◌^◌, ◌<◌, List, [], ◌∷◌, ◌++◌, length, take, get_or, map, filter, Bool, true, false, refl, sym, ap, ◌∙◌, append_assoc, add-one}
use Rattle.std.proofs.Math.Seq.{take-suc}
use Rattle.std.proofs.lemmas.List.{map-append}
use Rattle.std.proofs.lemmas.List.Elements.{filter-append}
use Rattle.std.proofs.lemmas.Nat.{mul-mod_first}
use Rattle.std.proofs.Math.Nat.{add-mod, mod-mod}
use Rattle.std.specs.Char.{digit_value}
use Rattle.std.specs.Str.Parse.{digits_value, digits_value_after}
use Rattle.src_text.specs.Digits.{is_digit, value_of}
use Rattle.v_tree.specs.declared.expr.Base.{Base}
use Rattle.v_tree.specs.declared.expr.Base.TheVariants as base
use Rattle.elab_names.specs.Constants.{radix}
use Rattle.elab_patterns.specs.Patterns.{padding}

after_append : (r n : ℕ) (xs ys : List ℕ) → digits_value_after r n (xs ++ ys) ≡ digits_value_after r (digits_value_after r n xs) ys
after_append r n [] ys = refl
after_append r n (x ∷ xs) ys = after_append r (n * r + digit_value x) xs ys

step : (r m a b d : ℕ) → a % m ≡ b % m → (a * r + d) % m ≡ (b * r + d) % m
step r m a b d h =
    add-mod (a * r) d m ∙ ap (λ x. (x + d % m) % m) (sym (mul-mod_first a r m) ∙ ap (λ x. (x * r) % m) h ∙ mul-mod_first b r m) ∙ sym (add-mod (b * r) d m)

after_mod : (r m a b : ℕ) (ds : List ℕ) → a % m ≡ b % m → digits_value_after r a ds % m ≡ digits_value_after r b ds % m
after_mod r m a b [] h = h
after_mod r m a b (d ∷ ds) h = after_mod r m (a * r + digit_value d) (b * r + digit_value d) ds (step r m a b (digit_value d) h)

pub value_more : (r : ℕ) (xs : List ℕ) (byte : ℕ) → value_of r (xs ++ byte ∷ []) ≡ digits_value_after r (value_of r xs) (filter (is_digit r) (byte ∷ []))
value_more r xs byte = ap (digits_value r) (filter-append (is_digit r) xs (byte ∷ [])) ∙ after_append r 0 (filter (is_digit r) xs) (filter (is_digit r) (byte ∷ []))

pub cut_more : (r m bits byte more : ℕ) (xs : List ℕ) → bits % m ≡ value_of r xs % m → more ≡ digits_value_after r bits (filter (is_digit r) (byte ∷ [])) % m →
    more ≡ value_of r (xs ++ byte ∷ []) % m
cut_more r m bits byte more xs is is_more =
    is_more ∙ after_mod r m bits (value_of r xs) (filter (is_digit r) (byte ∷ [])) is ∙ ap (λ n. n % m) (sym (value_more r xs byte))

-- the padding is all bits, or none
all_ones : (b : Base) → 340282366920938463463374607431768211455 ≡ value_of (radix b) (padding b true) % 2 ^ 128
unfolding padding
all_ones base.Binary = refl
all_ones base.Octal = refl
all_ones base.Decimal = refl
all_ones base.Hexadecimal = refl

no_ones : (b : Base) → 0 ≡ value_of (radix b) (padding b false) % 2 ^ 128
unfolding padding
no_ones b = refl

pub padded_ones : (b : Base) (begins : Bool) → begins ≡ true → 340282366920938463463374607431768211455 ≡ value_of (radix b) (padding b begins) % 2 ^ 128
padded_ones b begins h = all_ones b ∙ ap (λ x. value_of (radix b) (padding b x) % 2 ^ 128) (sym h)

pub padded_none : (b : Base) (begins : Bool) → begins ≡ false → 0 ≡ value_of (radix b) (padding b begins) % 2 ^ 128
padded_none b begins h = no_ones b ∙ ap (λ x. value_of (radix b) (padding b x) % 2 ^ 128) (sym h)

-- one more digit of a text, after what it is padded with
pub loose_more : (r m bits more i byte d : ℕ) (pad bytes : List ℕ) (f : ℕ → ℕ) → i < length bytes → byte ≡ get_or bytes i d → bits ≡ value_of r (pad ++ map f (take i bytes)) % m →
    more ≡ digits_value_after r bits (filter (is_digit r) (f byte ∷ [])) % m → more ≡ value_of r (pad ++ map f (take (i + 1) bytes)) % m
loose_more r m bits more i byte d pad bytes f lt is_byte is is_more =
    cut_more r m bits (f byte) more (pad ++ map f (take i bytes)) (ap (λ n. n % m) is ∙ mod-mod (value_of r (pad ++ map f (take i bytes))) m) is_more
    ∙ ap (λ l. value_of r l % m)
    (append_assoc pad (map f (take i bytes)) (f byte ∷ [])
    ∙ ap (λ l. pad ++ l)
    (ap (λ x. map f (take i bytes) ++ f x ∷ []) is_byte ∙ sym (ap (λ k. map f (take k bytes)) (add-one i) ∙ ap (map f) (take-suc bytes i d lt) ∙ map-append f (take i bytes) (get_or bytes i d ∷ []))))
