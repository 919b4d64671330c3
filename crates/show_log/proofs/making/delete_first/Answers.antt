use Rattle.std.proofs.Common.{◌≡◌, ◌<◌, true, List, length, get_or, eqb, sym, ap, ◌∙◌, subst, arith}
use Rattle.std.proofs.lemmas.Bool.{eq-eqb}
use Rattle.std.proofs.lemmas.List.Folds.{list_any_at}
use Rattle.clause_arena.specs.declared.ClauseId.{ClauseId}
use Rattle.clause_arena.specs.Clause.{Clauses}
use Rattle.res_log.specs.Step.{Step}
use Rattle.res_log.specs.Log.{derives}
use Rattle.res_log.specs.Segments.{AreSoundBelow}
use Rattle.res_log.proofs.Steps.{bare, some-step}
use Rattle.res_log.proofs.Keeps.{keeps-dead}
use Rattle.show_log.proofs.making.delete_first.Goals as goal

first-derived : (log : List Step) (x : ClauseId) → 0 < length log → ((d : Step) → x ≡ (get_or log 0 d).derived) → derives log x.0 ≡ true
first-derived log x l e = list_any_at (λ s. eqb s.derived.0 x.0) log 0 (bare x) l (eq-eqb _ _ (ap (λ (y : ClauseId). y.0) (sym (e (bare x)))))

pub returns : goal.returns
returns c = λ n l f.
    let some = some-step c.args.log.now c.is_empty.result c.is_empty.ensures.1 c.if-is_empty.false in
    let small : c.derived-id.result.0 < length c.args.arena.now.clauses = omega (arith, c.count.ensures) in
    subst (λ (x : Clauses). AreSoundBelow x c.args.log.now n) (sym (c.compact.ensures.same ∙ c.set_dead.ensures.dead))
    (keeps-dead c.args.arena.now.clauses c.args.log.now n c.derived-id.result.0 l small (first-derived c.args.log.now c.derived-id.result some c.derived-id.ensures) f)
