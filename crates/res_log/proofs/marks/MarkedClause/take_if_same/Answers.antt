use Rattle.std.proofs.Common.{◌≡◌, ℕ, cond, eqb, None, List, sym, ◌∙◌, subst}
use Rattle.std.specs.List.{list_any}
use Rattle.std.proofs.lemmas.List.{take_all}
use Rattle.clause_arena.specs.declared.Lit.{Lit}
use Rattle.clause_arena.specs.Clause.{is_same}
use Rattle.clause_arena.proofs.Sets.{bool_iff}
use Rattle.res_log.specs.Marks.{sign_at}
use Rattle.res_log.proofs.Marking.{none-left, all-gone}
use Rattle.res_log.proofs.marks.MarkedClause.take_if_same.Goals as goal

pub returns-clause-same : goal.returns-clause-same
returns-clause-same c = λ d h.
    let a = sym c.has_all.ensures ∙ c.if-not-has_all.false in
    let e = subst (λ (xs : List Lit). (v : ℕ) → sign_at c.loop-lit.self v ≡ cond (list_any (λ x. eqb x.var v) xs) None (sign_at c.args.self.now v))
    (take_all c.loop-lit.lit-index c.args.clause.now c.loop-lit-test.false) c.loop-lit.invariant in
    bool_iff c.is_empty.result (is_same d c.args.clause.now)
    (λ t. none-left c.args.self.now c.loop-lit.self d c.args.clause.now h a e (c.is_empty.ensures.0 t))
    (λ t. c.is_empty.ensures.1 (all-gone c.args.self.now c.loop-lit.self d c.args.clause.now h e t))
