-- Numbers in words.
use Rattle.std.proofs.Common.{◌≡◌, ℕ, ◌^◌, ◌<◌, List, length, zero, suc, inl, inr, Bool, true, false, cond, leb, ◌&&◌, eqb, not, None, Some, Err, ap, sym, ◌∙◌, arith, refl, rules}
use Rattle.std.specs.Char.{is_ascii_digit}
use Rattle.std.specs.List.{list_all}
use Rattle.std.specs.Str.Parse.{digits_value, ParsesUnsigned}
use Rattle.std.proofs.lemmas.Bool.{lt-leb, cases_lt}
use Rattle.std.proofs.lemmas.Str.Parse.{IsNumeralModel, IsDigitsTest, numerals_by_value, parse_digits}
use Rattle.command_options.specs.Numbers.{is_numeral, number_in}

are_digits : IsDigitsTest (λ ds. list_all is_ascii_digit ds ≡ true)
are_digits = search rules

numerals : IsNumeralModel (λ ds. list_all is_ascii_digit ds ≡ true) (digits_value 10)
numerals = numerals_by_value (λ ds. list_all is_ascii_digit ds ≡ true) are_digits

-- a number has digits, and nothing else
number_parts : (word : List ℕ) → is_numeral word ≡ true → (0 < length word) × (list_all is_ascii_digit word ≡ true)
number_parts word number = (
  ne_zero (length word) (and_true (not (eqb (length word) 0)) _ number).0,
  (and_true (leb (length word) 20) (list_all is_ascii_digit word) (and_true (not (eqb (length word) 0)) _ number).1).1,
)
  where
    and_true : (a b : Bool) → (a && b) ≡ true → (a ≡ true) × (b ≡ true)
    and_true true b h = (refl, h)
    and_true false b h = cc

    ne_zero : (n : ℕ) → not (eqb n 0) ≡ true → 0 < n
    ne_zero zero h = cc
    ne_zero (suc n) h = omega arith

-- a text that says too much for 64 bits says no number within limits
pub unparsed : (low high : ℕ) (word : List ℕ) → high < 2 ^ 64 → is_numeral word ≡ true → ParsesUnsigned {E = Unit {0}} 64 10 word (Err tt) → None ≡ number_in low high word
unparsed low high word bound number parses =
    let parts = number_parts word number in
    let wide = parse_digits numerals {E = Unit {0}} 64 word (Err tt) parses parts.1 in
    elim (cases_lt (digits_value 10 word) (2 ^ 64)) [
      | inl fits ↦ absurd (wide (parts.0, fits))
      | inr large ↦
          let more : leb (digits_value 10 word) high ≡ false = lt-leb (digits_value 10 word) high (omega (arith, large, bound)) in
          sym (ap (λ b. cond b (Some (digits_value 10 word)) None) (ap (λ b. is_numeral word && (leb low (digits_value 10 word) && b)) more ∙ both_false (is_numeral word) (leb low (digits_value 10 word))))
    ]
  where
    both_false : (a b : Bool) → (a && (b && false)) ≡ false
    both_false true true = refl
    both_false true false = refl
    both_false false b = refl
