use Rattle.bind_struct.proofs.Linking.{mirror_clean, mirror_ends}
use Rattle.bind_struct.proofs.bind.Goals as goal

pub returns-in-Ok-clause-clean : goal.returns-in-Ok-clause-clean
returns-in-Ok-clause-clean c = mirror_clean c.args.program.now c.args.flat.now _ c.in-Some.is c.in-Ok.ensures.clean

pub returns-in-Err-clause-refused : goal.returns-in-Err-clause-refused
returns-in-Err-clause-refused c = mirror_ends c.args.program.now c.args.flat.now _ _ c.in-Some.is c.in-Err.ensures.refused
