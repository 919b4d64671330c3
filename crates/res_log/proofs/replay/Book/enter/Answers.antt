use Rattle.std.proofs.Common.{set, ap, ◌∙◌, Vec}
use Rattle.std.specs.Option.{option_map}
use Rattle.std.specs.declared.alloc.Global.{Global}
use Rattle.std.proofs.lemmas.List.{map-set}
use Rattle.clause_arena.specs.declared.Lit.{Lit}
use Rattle.clause_arena.specs.Clause.{Clauses}
use Rattle.res_log.proofs.replay.Book.enter.Goals as goal

pub returns : goal.returns
returns c =
    map-set (option_map (λ (v : Vec Lit Global). v.items)) c.self.inside.clauses.items c.args.id.0 c.args.clause
    ∙ ap (λ (x : Clauses). set x c.args.id.0 (option_map (λ (v : Vec Lit Global). v.items) c.args.clause)) c.self.view_is
