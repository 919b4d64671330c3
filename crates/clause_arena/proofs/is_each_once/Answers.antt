use Rattle.std.proofs.Common.{◌+◌, ℕ, false, drop, get_or, ◌∙◌, sym, ap, refl, arith, add-one}
use Rattle.std.proofs.lemmas.List.{take_rest}
use Rattle.std.proofs.lemmas.Bool.{false≢true}
use Rattle.clause_arena.specs.declared.Lit.{Lit}
use Rattle.clause_arena.specs.Clause.{Clause, has, lit}
use Rattle.clause_arena.proofs.Once.{once-at, once-from}
use Rattle.clause_arena.proofs.is_each_once.Goals as goal

pub returns-then-has_lit : goal.returns-then-has_lit
returns-then-has_lit c = (
  λ f. absurd (false≢true f),
  λ o.
      let l : Lit = get_or c.args.clause.now c.loop-i.i (lit false 0) in
      let none = once-at c.args.clause.now c.loop-i.i (lit false 0) o c.loop-i-test.true in
      sym none
      ∙ ap (λ (n : ℕ). has (drop n c.args.clause.now) l) (sym (add-one c.loop-i.i))
      ∙ ap (λ (x : Clause). has x l) (sym (take_rest c.args.clause.now (c.loop-i.i + 1)))
      ∙ sym c.has_lit.ensures
      ∙ c.if-has_lit.true,
)

pub returns : goal.returns
returns c = (λ t. once-from c.args.clause.now (λ i d l. c.loop-i.invariant i (omega arith) d), λ o. refl)
