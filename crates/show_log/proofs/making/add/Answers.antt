use Rattle.std.proofs.Common.{Some, sym, subst}
use Rattle.clause_arena.specs.Clause.{Clauses}
use Rattle.res_log.specs.Segments.{AreSoundBelow}
use Rattle.res_log.proofs.Keeps.{keeps-push}
use Rattle.show_log.proofs.making.add.Goals as goal

pub returns : goal.returns
returns c = λ log n l f.
    subst (λ (x : Clauses). AreSoundBelow x log n) (sym c.in_ok-id.ensures.stored) (keeps-push c.args.arena.now.clauses log n (Some c.args.lits.now) l f)
