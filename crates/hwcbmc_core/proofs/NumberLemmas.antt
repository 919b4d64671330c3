-- Decimal numbers in a text, and where they end.
use Rattle.std.proofs.Common.{◌≡◌, ℕ, ◌+◌, ◌*◌, ◌-◌, ◌<◌, ◌≤◌, List, [], ◌∷◌, ◌++◌, length, get_or, take, ap, sym, ◌∙◌, arith, subst, true, refl, suc, zero}
use Rattle.std.specs.Prelude.{decimal}
use Rattle.std.specs.Char.{digit_value}
use Rattle.std.specs.Str.Parse.{AllDigits, digits_value}
use Rattle.std.proofs.lemmas.Str.{digit_value_digit}
use Rattle.std.proofs.lemmas.Str.Parse.{IsNumeralModel, numerals_by_value, tells_digits, digit_at, digits_value-take-le}
use Rattle.std.proofs.lemmas.Int.Digits.{digits_value_more}
use Rattle.std.proofs.lemmas.Fmt.{decimal_digit, first_decimal, decimal_nonempty, decimal-digits_value, digits_decimal, digits_value-decimal}
use Rattle.hwcbmc_core.specs.Numbers.{BeginsWithNoDigit, has_plain_digits}

numerals : IsNumeralModel (AllDigits 10) (digits_value 10)
numerals = numerals_by_value (AllDigits 10) tells_digits

-- all that a decimal has are digits
pub AllDigits-decimal : (n : ℕ) → n < 256 → AllDigits 10 (decimal n)
AllDigits-decimal n small = digits_decimal numerals n (omega arith)

-- a decimal isn't empty
pub decimal_some : (n : ℕ) → n < 256 → 0 < length (decimal n)
decimal_some n small = decimal_nonempty n (omega arith)

-- a decimal has no leading zero
pub plain_decimal : (ds : List ℕ) (n : ℕ) → n < 256 → ds ≡ decimal n → has_plain_digits ds ≡ true
plain_decimal [] n small is = absurd (omega (arith, ap length is, decimal_some n small))
plain_decimal (d ∷ []) n small is = refl
plain_decimal (d ∷ e ∷ ds) zero small is = absurd (omega (arith, ap length (is ∙ decimal_digit 0 (omega arith))))
plain_decimal (d ∷ e ∷ ds) (suc n) small is =
    let P : List ℕ → Type 0 = λ xs. 48 < get_or xs 0 0 in
    let first : 48 < d = subst P (sym is) (first_decimal (suc n) (omega arith) (omega arith)) in
    grind (arith, first)

-- the front of the digits of a number says no more than the number
pub front_small : (ds : List ℕ) (i n : ℕ) → n < 256 → ds ≡ decimal n → digits_value 10 (take i ds) ≤ 255
front_small ds i n small is =
    let whole : digits_value 10 ds ≡ n = ap (digits_value 10) is ∙ digits_value-decimal numerals n (omega arith) in
    let front : digits_value 10 (take i ds) ≤ digits_value 10 ds = digits_value-take-le 10 ds i (omega arith) in
    omega arith

plain_some : (ds : List ℕ) → has_plain_digits ds ≡ true → 0 < length ds
plain_some [] plain = cc
plain_some (d ∷ ds) plain = omega arith

plain_zero : (ds : List ℕ) → has_plain_digits ds ≡ true → get_or ds 0 0 ≡ 48 → length ds ≡ 1
plain_zero [] plain is = cc
plain_zero (d ∷ []) plain is = refl
plain_zero (d ∷ e ∷ ds) plain is = grind (arith, plain, is)

-- digits without a leading zero are the decimal of what they say
pub decimal_of_digits : (ds : List ℕ) → AllDigits 10 ds → has_plain_digits ds ≡ true → digits_value 10 ds ≤ 255
    → ds ≡ decimal (digits_value 10 ds)
decimal_of_digits ds digits plain small = sym (decimal-digits_value numerals ds digits (plain_some ds plain) (plain_zero ds plain) (omega arith))

-- one digit more
pub value_more : (ds : List ℕ) (i : ℕ) → AllDigits 10 ds → i < length ds
    → 10 * digits_value 10 (take i ds) + (get_or ds i 0 - 48) ≡ digits_value 10 (take (i + 1) ds)
value_more ds i digits inside =
    let digit = digit_value_digit (get_or ds i 0) (digit_at ds i digits inside) in
    let more = digits_value_more 10 ds i inside in
    omega arith

no_digit : (r rest : List ℕ) (d : ℕ) → BeginsWithNoDigit r → digit_value d < 10 → r ≡ d ∷ rest → ⊥
no_digit [] rest d ends digit is = cc
no_digit (c ∷ r) rest d ends digit is =
    let heads : d ≡ c = cc in
    let P : ℕ → Type 0 = λ x. digit_value x < 10 in
    ends (subst P heads digit)

-- where the digits of a text end
pub digits_end : (ds es r s : List ℕ) → AllDigits 10 ds → AllDigits 10 es → BeginsWithNoDigit r → BeginsWithNoDigit s
    → ds ++ r ≡ es ++ s → (ds ≡ es) × (r ≡ s)
digits_end [] [] r s p q ends ends' is = (refl, is)
digits_end [] (e ∷ es) r s p q ends ends' is = absurd (no_digit r (es ++ s) e ends q.0 is)
digits_end (d ∷ ds) [] r s p q ends ends' is = absurd (no_digit s (ds ++ r) d ends' p.0 (sym is))
digits_end (d ∷ ds) (e ∷ es) r s p q ends ends' is =
    let heads : d ≡ e = cc in
    let tails : ds ++ r ≡ es ++ s = cc in
    let both = digits_end ds es r s p.1 q.1 ends ends' tails in
    (cc (both.0), both.1)
