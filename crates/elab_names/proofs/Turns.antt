-- The turn that a loop variable is in.
use Rattle.std.proofs.Common.{◌≡◌, ℕ, ◌+◌, ◌<◌, List, length, drop, get_or, sym, ap, ◌∙◌, arith}
use Rattle.std.specs.Prelude.{Some, eqb, if◌then◌else◌}
use Rattle.std.proofs.lemmas.List.{drop_more}
use Rattle.std.proofs.lemmas.Bool.Decides.{nat_tests}
use Rattle.elab_names.specs.declared.names.Turn.{Turn}
use Rattle.elab_names.specs.Names.{turn_of}

open_test : {A : Type 0} (x n : ℕ) (o r : A) → x ≡ n → (if eqb x n then o else r) ≡ o
open_test x n o r e = grind (arith, nat_tests)

pub turn_here : (turns : List Turn) (n i : ℕ) (t d : Turn) → i < length turns → t ≡ get_or turns i d → turn_of turns n ≡ turn_of (drop i turns) n →
    t.integer ≡ n → Some t ≡ turn_of turns n
turn_here turns n i t d lt is h e =
    sym (h ∙ ap (λ l. turn_of l n) (drop_more turns i d lt) ∙ ap (λ x. if eqb (let y : Turn = x in y.integer) n then Some x else turn_of (drop (i + 1) turns) n) (sym is) ∙ open_test t.integer n (Some t) (turn_of (drop (i + 1) turns) n) e)
