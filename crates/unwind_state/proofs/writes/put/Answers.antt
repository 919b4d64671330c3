use Rattle.unwind_state.proofs.Puts.{element_has, put_made}
use Rattle.unwind_state.proofs.writes.put.Goals as goal

pub chosen-requires-clause-second : goal.chosen-requires-clause-second
chosen-requires-clause-second c = element_has c.args.net.now.terms c.args.objects.now c.args.slot c.args.element c.args.value.width c.elements.result.now (record { 0 = 0 }) c.elements.ensures c.requires.there c.requires.old

pub returns : goal.returns
returns c =
    put_made c.args.net.now c.chosen.new.net c.args.objects.now c.set.new.self c.args.slot c.args.element c.args.value c.in_ok-new.new c.args.guard c.elements.result.now (record { 0 = 0 }) c.elements.ensures c.requires.there c.in_ok-new.ensures c.set.ensures
