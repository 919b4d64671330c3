use Rattle.std.proofs.Common.{◌++◌, ◌∷◌, [], List, Some, sym, subst}
use Rattle.clause_arena.specs.Clause.{Clauses}
use Rattle.res_log.specs.Step.{Step}
use Rattle.res_log.specs.Segments.{AreSoundBelow}
use Rattle.res_log.proofs.Keeps.{keeps-derive}
use Rattle.show_log.proofs.making.derive.Goals as goal

pub returns-clause-sound : goal.returns-clause-sound
returns-clause-sound c = λ n l f.
    let s : Step = record { derived = c.in_ok-derived.derived; first = record { 0 = c.args.first }; rest = record { clause = record { 0 = c.args.second }; pivot = c.args.pivot } ∷ [] } in
    subst (λ (x : Clauses). AreSoundBelow x c.append.new.self n) (sym c.in_ok-derived.ensures.stored)
    (subst (λ (y : List Step). AreSoundBelow (c.args.arena.now.clauses ++ Some c.args.lits.now ∷ []) y n) (sym c.in_ok-append.ensures.stored)
    (keeps-derive c.args.arena.now.clauses c.args.log.now n (Some c.args.lits.now) s l c.in_ok-derived.ensures.next f))
