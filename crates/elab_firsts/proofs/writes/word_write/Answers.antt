use Rattle.std.proofs.Common.{ap, ◌∙◌}
use Rattle.elab_names.specs.Names.{find_in}
use Rattle.elab_names.proofs.Cases.{case_one}
use Rattle.elab_flat.specs.Flat.{known}
use Rattle.elab_firsts.specs.Values.{write_of}
use Rattle.elab_firsts.specs.Writes.{word_write}
use Rattle.elab_firsts.proofs.Equations.{word_made}
use Rattle.elab_firsts.proofs.writes.word_write.Goals as goal

pub returns-in_ok-writes-in-Index : goal.returns-in_ok-writes-in-Index
returns-in_ok-writes-in-Index c =
    case_one (word_write c.args.names.now c.args.turns.now c.args.x.now c.args.e.now) (known c.args.names.now c.args.turns.now 4095)
    (λ n. write_of c.args.names.now c.args.turns.now (find_in c.args.names.now c.args.x.now.name) n c.args.e.now) _ _ _ _ _ _
    c.in-Index.is c.get.ensures c.in_ok-word-in-Index.ensures.value
    (c.in_ok-writes-in-Index.ensures ∙ ap (λ o. write_of c.args.names.now c.args.turns.now o c.in_ok-word-in-Index.word c.args.e.now) c.find.ensures)
    (word_made c.args.names.now c.args.turns.now c.args.x.now c.args.e.now _)
