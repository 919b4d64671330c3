use Rattle.std.proofs.Common.{◌≡◌, ◌-◌, ℕ, true, length, get_or, sym, ap, ◌∙◌, subst}
use Rattle.std.specs.Option.{is_some}
use Rattle.clause_arena.specs.declared.ClauseId.{ClauseId}
use Rattle.clause_arena.specs.Clause.{clause_at}
use Rattle.res_log.specs.Step.{Step}
use Rattle.res_log.proofs.Steps.{bare, some-step}
use Rattle.res_log.proofs.segments.is_last_live.Goals as goal

pub returns-else-is_empty : goal.returns-else-is_empty
returns-else-is_empty c =
    let at : (d : Step) → c.derived.result ≡ (get_or c.args.log.now (length c.args.log.now - 1) d).derived = λ (d : Step).
    c.derived.ensures d ∙ ap (λ (n : ℕ). (get_or c.args.log.now (n - 1) d).derived) c.len.ensures in (
      λ t d l. subst (λ (x : ClauseId). is_some (clause_at c.args.arena.now.clauses x.0) ≡ true) (at d) (sym c.is_live.ensures ∙ t),
      λ f.
          let d = bare c.derived.result in
          c.is_live.ensures ∙ subst (λ (x : ClauseId). is_some (clause_at c.args.arena.now.clauses x.0) ≡ true) (sym (at d))
          (f d (some-step c.args.log.now c.is_empty.result c.is_empty.ensures.1 c.if-is_empty.false)),
    )
