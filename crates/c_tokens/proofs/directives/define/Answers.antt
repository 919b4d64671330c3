use Rattle.c_tokens.proofs.NameLemmas.{names_of-insert}
use Rattle.c_tokens.proofs.directives.define.Goals as goal

pub returns-clause-defined : goal.returns-clause-defined
returns-clause-defined c = names_of-insert c.args.names.now c.insert.new.self c.args.name.now c.args.constant c.in_ok-insert.ensures.updates
