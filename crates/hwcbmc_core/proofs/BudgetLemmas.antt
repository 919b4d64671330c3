-- The budget that words ask for is one that a search may have.
use Rattle.std.proofs.Common.{◌≡◌, ℕ, ◌<◌, ◌≤◌, ◌==◌, Bool, true, false, List, Option, None, Some, refl, sym, ap, arith, subst}
use Rattle.std.specs.Prelude.{◌&&◌, if◌then◌else◌, nat_le, option_and_then}
use Rattle.std.specs.Str.Parse.{digits_value}
use Rattle.std.proofs.lemmas.Bool.{leb-true}
use Rattle.command_words.specs.Words.{Said, Text, given_of}
use Rattle.joint_ir.specs.declared.bounds.Bounds.{Bounds}
use Rattle.joint_ir.specs.declared.naming.NamedLimit.{NamedLimit}
use Rattle.command_options.specs.declared.asked.Decide.{Decide}
use Rattle.command_options.specs.declared.asked.Options.{Options}
use Rattle.command_options.specs.Numbers.{is_numeral, number_in}
use Rattle.command_options.specs.Options.{options_of, options_in, all_of, budget_in, top_in, bounds_in, named_in, decide_in, file_in}

-- a number from 1 to 2,000,000,000
pub record IsBudget (n : ℕ) : Type 0 where
  pub some : 0 < n
  pub few : n ≤ 2000000000

some_is : (a b : ℕ) → Some a ≡ Some b → a ≡ b
some_is a b is = cc

within : (numeral low high : Bool) (value n : ℕ) → (if numeral && (low && high) then Some value else None) ≡ Some n
    → (low ≡ true) × (high ≡ true) × (value ≡ n)
within true true true value n is = (refl, refl, some_is value n is)
within true true false value n is = cc
within true false high value n is = cc
within false low high value n is = cc

number_within : (text : List ℕ) (n : ℕ) → number_in 1 2000000000 text ≡ Some n → IsBudget n
number_within text n is =
    let v : ℕ = digits_value 10 text in
    let parts = within (is_numeral text) (nat_le 1 v) (nat_le v 2000000000) v n is in
    let P : ℕ → Type 0 = λ m. IsBudget m in
    let low : 1 ≤ v = leb-true 1 v parts.0 in
    subst P parts.2 (record { some = omega (arith, low); few = leb-true v 2000000000 parts.1 })

budget_within : (value : Option Text) (n : ℕ) → budget_in value ≡ Some n → IsBudget n
budget_within None n is =
    let P : ℕ → Type 0 = λ m. IsBudget m in
    subst P (some_is 1000000 n is) (record { some = omega arith; few = omega arith })
budget_within (Some text) n is = number_within text n is

asked_budget : (top : Option (Option Text)) (bounds : Option Bounds) (limits : Option (List NamedLimit)) (budget : Option ℕ) (decide : Option Decide) (c v : Option Text) (o : Options)
    → all_of top bounds limits budget decide c v ≡ Some o → budget ≡ Some o.budget
asked_budget None bounds limits budget decide c v o is = cc
asked_budget (Some top) None limits budget decide c v o is = cc
asked_budget (Some top) (Some bounds) None budget decide c v o is = cc
asked_budget (Some top) (Some bounds) (Some limits) None decide c v o is = cc
asked_budget (Some top) (Some bounds) (Some limits) (Some budget) None c v o is = cc
asked_budget (Some top) (Some bounds) (Some limits) (Some budget) (Some decide) None v o is = cc
asked_budget (Some top) (Some bounds) (Some limits) (Some budget) (Some decide) (Some c) None o is = cc
asked_budget (Some top) (Some bounds) (Some limits) (Some budget) (Some decide) (Some c) (Some v) o is =
    ap Some (ap (λ (x : Options). x.budget) (options_are _ o is))
  where
    options_are : (x y : Options) → Some x ≡ Some y → x ≡ y
    options_are x y same = cc

said_budget : (said : Said) (o : Options) → options_in said ≡ Some o → IsBudget o.budget
said_budget said o is =
    budget_within said.budget o.budget
    (asked_budget (top_in said.top) (bounds_in said.bound said.unwind said.check_bound) (named_in said.unwindset) (budget_in said.budget) (decide_in said.decide) (file_in said.c_file) (file_in said.v_file) o is)

of_said : (said : Option Said) (o : Options) → option_and_then options_in said ≡ Some o → IsBudget o.budget
of_said None o is = cc
of_said (Some said) o is = said_budget said o is

-- words that have options have a budget
pub words_budget : (words : List Text) (o : Options) → options_of words ≡ Some o → IsBudget o.budget
words_budget words o is = of_said (given_of words) o is
