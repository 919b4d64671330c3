use Rattle.show_hostile.proofs.Idling.{idle_as}
use Rattle.show_hostile.proofs.idle.idle.Goals as goal

pub returns : goal.returns
returns c = idle_as c.args.objects c.args.count c.requires c.in_ok-program.ensures c.in_ok-beside_nothing.ensures
