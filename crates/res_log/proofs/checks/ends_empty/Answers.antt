use Rattle.std.proofs.Common.{◌≡◌, ◌<◌, ◌-◌, ℕ, true, List, get_or, length, eqb, sym, ap, ◌∙◌, subst}
use Rattle.std.specs.Option.{is_some}
use Rattle.clause_arena.specs.declared.ClauseId.{ClauseId}
use Rattle.clause_arena.specs.Clause.{Clause, clause_at}
use Rattle.res_log.specs.Step.{Step}
use Rattle.res_log.proofs.Steps.{bare, some-step, lits-at}
use Rattle.res_log.proofs.Ends.{ends-live}
use Rattle.res_log.proofs.checks.ends_empty.Goals as goal

last_at : (log : List Step) (n : ℕ) (x : ClauseId) (d : Step) → n ≡ length log → x ≡ (get_or log (n - 1) d).derived → x ≡ (get_or log (length log - 1) d).derived
last_at log n x d e h = h ∙ ap (λ (k : ℕ). (get_or log (k - 1) d).derived) e

pub lits-requires : goal.lits-requires
lits-requires c =
    let d = bare c.derived.result in
    subst (λ (x : ClauseId). is_some (clause_at c.args.arena.now.clauses x.0) ≡ true)
    (sym (last_at c.args.log.now c.len.result c.derived.result d c.len.ensures (c.derived.ensures d)))
    (c.requires.live d (some-step c.args.log.now c.is_empty.result c.is_empty.ensures.1 c.if-is_empty.false))

pub returns : goal.returns
returns c =
    let l : 0 < length c.args.log.now = some-step c.args.log.now c.is_empty.result c.is_empty.ensures.1 c.if-is_empty.false in
    let at : (d : Step) → c.derived.result ≡ (get_or c.args.log.now (length c.args.log.now - 1) d).derived = λ (d : Step). last_at c.args.log.now c.len.result c.derived.result d c.len.ensures (c.derived.ensures d) in
    ends-live c.args.arena.now.clauses c.args.log.now c.derived.result c.is_empty-2.result c.requires.sound l at
    (subst (λ (x : ClauseId). is_some (clause_at c.args.arena.now.clauses x.0) ≡ true) (sym (at (bare c.derived.result))) (c.requires.live (bare c.derived.result) l))
    (c.is_empty-2.ensures ∙ ap (λ (x : Clause). eqb (length x) 0) (lits-at c.args.arena.now.clauses c.derived.result.0 c.lits.result.now c.lits.ensures.list))
