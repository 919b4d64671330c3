-- The written forms, part by part.
use Rattle.std.proofs.Common.{◌≡◌, ◌≢◌, ℕ, ◌+◌, ◌<◌, List, ◌++◌, zero, suc, get_or, ap, sym, ◌∙◌, arith, refl, add-one}
use Rattle.std.specs.Prelude.{decimal}
use Rattle.std.proofs.lemmas.List.{append_cancel_left}
use Rattle.std.proofs.lemmas.Fmt.{decimal_injective}
use Rattle.hwcbmc_core.specs.Numbers.{BeginsWithNoDigit}
use Rattle.hwcbmc_core.specs.Sources.{edge_line, edge_lines, c_head, assert_head, c_tail, c_source, v_head, v_middle, v_tail, v_source, IsProgram, IsCounter}
use Rattle.hwcbmc_core.specs.declared.sources.Program.{Program}
use Rattle.hwcbmc_core.specs.declared.sources.Counter.{Counter}
use Rattle.hwcbmc_core.proofs.NumberLemmas.{digits_end, AllDigits-decimal}

lines_push : (edges : ℕ) (rest : List ℕ) → edge_lines (suc edges) ++ rest ≡ edge_lines edges ++ (edge_line ++ rest)
lines_push zero rest = refl
lines_push (suc edges) rest = ap (λ xs. edge_line ++ xs) (lines_push edges rest)

-- one line more
pub edge_lines-push : (edges : ℕ) (rest : List ℕ) → edge_lines (edges + 1) ++ rest ≡ edge_lines edges ++ (edge_line ++ rest)
edge_lines-push edges rest = ap (λ k. edge_lines k ++ rest) (add-one edges) ∙ lines_push edges rest

-- where the lines of a text end
edges_end : (a b : ℕ) (r s : List ℕ) → ((rest : List ℕ) → r ≢ edge_line ++ rest) → ((rest : List ℕ) → s ≢ edge_line ++ rest)
    → edge_lines a ++ r ≡ edge_lines b ++ s → (a ≡ b) × (r ≡ s)
edges_end zero zero r s p q is = (refl, is)
edges_end zero (suc b) r s p q is = absurd (p (edge_lines b ++ s) is)
edges_end (suc a) zero r s p q is = absurd (q (edge_lines a ++ r) (sym is))
edges_end (suc a) (suc b) r s p q is =
    let both = edges_end a b r s p q (append_cancel_left edge_line (edge_lines a ++ r) (edge_lines b ++ s) is) in
    (ap suc both.0, both.1)

assert_no_line : (rest other : List ℕ) → assert_head ++ rest ≢ edge_line ++ other
assert_no_line rest other is = absurd (omega (arith, ap (λ xs. get_or xs 2 0) is))

-- behind the lines of a program stands its assertion
pub assert_is : (text r s : List ℕ) (edges : ℕ) (program : Program) → text ≡ c_head ++ r → r ≡ edge_lines edges ++ s
    → ((rest : List ℕ) → s ≢ edge_line ++ rest) → IsProgram text program
    → (edges ≡ program.edges) × (s ≡ assert_head ++ (decimal program.expected ++ c_tail))
assert_is text r s edges program front lines none p =
    let foot : List ℕ = assert_head ++ (decimal program.expected ++ c_tail) in
    edges_end edges program.edges s foot none (assert_no_line (decimal program.expected ++ c_tail))
    (sym lines ∙ append_cancel_left c_head r (edge_lines program.edges ++ foot) (sym front ∙ p.text_is))

-- what follows the front of an assertion is its number
pub expected_is : (s t : List ℕ) (expected : ℕ) → s ≡ assert_head ++ t → s ≡ assert_head ++ (decimal expected ++ c_tail) → t ≡ decimal expected ++ c_tail
expected_is s t expected front is = append_cancel_left assert_head t (decimal expected ++ c_tail) (sym front ∙ is)

pub c_tail_ends : BeginsWithNoDigit c_tail
c_tail_ends = λ h. omega arith

-- the parts of a C text make a program
pub c_source_is : (text r s t u : List ℕ) (edges expected : ℕ) → text ≡ c_head ++ r → r ≡ edge_lines edges ++ s → s ≡ assert_head ++ t
    → t ≡ decimal expected ++ u → u ≡ c_tail → text ≡ c_source edges expected
c_source_is text r s t u edges expected head lines assert number tail =
    head ∙ ap (λ xs. c_head ++ xs) (lines ∙ ap (λ xs. edge_lines edges ++ xs) (assert ∙ ap (λ xs. assert_head ++ xs) (number ∙ ap (λ xs. decimal expected ++ xs) tail)))

-- a number, and what follows it
pub number_end : (a b : ℕ) (r s : List ℕ) → a < 256 → b < 256 → BeginsWithNoDigit r → BeginsWithNoDigit s
    → decimal a ++ r ≡ decimal b ++ s → (a ≡ b) × (r ≡ s)
number_end a b r s small small' ends ends' is =
    let both = digits_end (decimal a) (decimal b) r s (AllDigits-decimal a small) (AllDigits-decimal b small') ends ends' is in
    (decimal_injective a b (omega arith) (omega arith) both.0, both.1)

-- behind the front of a module stands its first number
pub first_is : (text r : List ℕ) (counter : Counter) → text ≡ v_head ++ r → IsCounter text counter
    → r ≡ decimal counter.first ++ (v_middle ++ (decimal counter.step ++ v_tail))
first_is text r counter front c =
    append_cancel_left v_head r (decimal counter.first ++ (v_middle ++ (decimal counter.step ++ v_tail))) (sym front ∙ c.text_is)

pub v_middle_ends : (rest : List ℕ) → BeginsWithNoDigit (v_middle ++ rest)
v_middle_ends rest = λ h. omega arith

-- behind its first number stands its middle
pub middle_is : (text r s : List ℕ) (first : ℕ) (counter : Counter) → text ≡ v_head ++ r → r ≡ decimal first ++ s → first < 256 → BeginsWithNoDigit s
    → IsCounter text counter → (first ≡ counter.first) × (s ≡ v_middle ++ (decimal counter.step ++ v_tail))
middle_is text r s first counter front number byte ends c =
    number_end first counter.first s (v_middle ++ (decimal counter.step ++ v_tail)) byte c.first_byte ends (v_middle_ends (decimal counter.step ++ v_tail))
    (sym number ∙ first_is text r counter front c)

-- what follows the middle of a module is its step
pub step_is : (s t : List ℕ) (step : ℕ) → s ≡ v_middle ++ t → s ≡ v_middle ++ (decimal step ++ v_tail) → t ≡ decimal step ++ v_tail
step_is s t step front is = append_cancel_left v_middle t (decimal step ++ v_tail) (sym front ∙ is)

pub v_tail_ends : BeginsWithNoDigit v_tail
v_tail_ends = λ h. omega arith

-- the parts of a Verilog text make a module
pub v_source_is : (text r s t u : List ℕ) (first step : ℕ) → text ≡ v_head ++ r → r ≡ decimal first ++ s → s ≡ v_middle ++ t
    → t ≡ decimal step ++ u → u ≡ v_tail → text ≡ v_source first step
v_source_is text r s t u first step head number middle number' tail =
    head ∙ ap (λ xs. v_head ++ xs) (number ∙ ap (λ xs. decimal first ++ xs) (middle ∙ ap (λ xs. v_middle ++ xs) (number' ∙ ap (λ xs. decimal step ++ xs) tail)))

program_is : (p q : Program) → p.edges ≡ q.edges → p.expected ≡ q.expected → p ≡ q
program_is p q edges expected =
    ap (λ n. record { edges = n; expected = p.expected }) edges ∙ ap (λ n. record { edges = q.edges; expected = n }) expected

-- A text is one program at most.
pub same_program : (text : List ℕ) (p q : Program) → IsProgram text p → IsProgram text q → p ≡ q
same_program text p q p_is q_is =
    let foot : List ℕ = assert_head ++ (decimal p.expected ++ c_tail) in
    let parts = assert_is text (edge_lines p.edges ++ foot) foot p.edges q p_is.text_is refl (assert_no_line (decimal p.expected ++ c_tail)) q_is in
    let number = number_end p.expected q.expected c_tail c_tail p_is.byte q_is.byte c_tail_ends c_tail_ends
    (append_cancel_left assert_head (decimal p.expected ++ c_tail) (decimal q.expected ++ c_tail) parts.1) in
    program_is p q parts.0 number.0

counter_is : (a b : Counter) → a.first ≡ b.first → a.step ≡ b.step → a ≡ b
counter_is a b first step =
    ap (λ n. record { first = n; step = a.step }) first ∙ ap (λ n. record { first = b.first; step = n }) step

-- A text is one module at most.
pub same_counter : (text : List ℕ) (a b : Counter) → IsCounter text a → IsCounter text b → a ≡ b
same_counter text a b a_is b_is =
    let foot : List ℕ = v_middle ++ (decimal a.step ++ v_tail) in
    let parts = middle_is text (decimal a.first ++ foot) foot a.first b a_is.text_is refl a_is.first_byte (v_middle_ends (decimal a.step ++ v_tail)) b_is in
    let number = number_end a.step b.step v_tail v_tail a_is.step_byte b_is.step_byte v_tail_ends v_tail_ends
    (append_cancel_left v_middle (decimal a.step ++ v_tail) (decimal b.step ++ v_tail) parts.1) in
    counter_is a b parts.0 number.0
