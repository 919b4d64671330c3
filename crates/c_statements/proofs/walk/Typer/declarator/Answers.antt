use Rattle.c_statements.proofs.Declaring.{declarator_goes}
use Rattle.c_statements.proofs.walk.Typer.declarator.Goals as goal

pub returns-clause-goes : goal.returns-clause-goes
returns-clause-goes c =
    declarator_goes c.args.ty c.args.constant c.args.self.now c.measure.new.self c.begin.new.self c.declared_value.new.self c.finish.new.self c.args.d.now c.declared_name-name.result.now c.in_ok-count.count
    c.declared_name-name.ensures c.in_ok-count.ensures.length c.in_ok-count.ensures.goes c.in_ok-begin.ensures c.in_ok-init.ensures.goes c.in_ok-slot.ensures.goes
