use Rattle.std.proofs.Common.{◌+◌, ◌≤◌, length, subst, sym}
use Rattle.std.proofs.lemmas.Result.{on_ok_weaker}
use Rattle.word_eqs.specs.Guarded.{FitsAct}
use Rattle.bitblast.proofs.Stepped.{at_end, at_free, at_give, ends_cut, ends_prop, free_room, set_there, set_wanted, test_cut, test_prop}
use Rattle.bitblast.proofs.blasting.Maker.step.Goals as goal
use Rattle.gate_net.specs.Net.{MOST_NODES}

pub width_of_var-requires : goal.width_of_var-requires
width_of_var-requires c = subst (FitsAct c.args.terms.now) c.in-Free.is (c.requires.ordered.steps c.args.k c.get-step.result c.get-step.ensures).act

pub leave_free-requires-clause-room : goal.leave_free-requires-clause-room
leave_free-requires-clause-room c =
    subst (λ w. length c.args.self.now.net + w ≤ MOST_NODES) (sym c.width_of_var.ensures.width) (free_room c.args.terms.now c.args.list.now c.args.k c.get-step.result c.args.self.now c.in-Free.x c.requires.at c.get-step.ensures c.requires.room c.in-Free.is)

pub give-requires-clause-there : goal.give-requires-clause-there
give-requires-clause-there c = set_there c.args.terms.now c.args.list.now c.args.k c.get-step.result c.args.self.now c.in-Set.x c.in-Set.t c.requires.ordered c.requires.at c.get-step.ensures c.in-Set.is

pub give-requires-clause-wanted : goal.give-requires-clause-wanted
give-requires-clause-wanted c = set_wanted c.args.terms.now c.args.list.now c.args.k c.get-step.result c.args.self.now c.in-Set.x c.in-Set.t c.requires.ordered c.requires.at c.get-step.ensures c.requires.room c.in-Set.is

pub may_end-requires-clause-test : goal.may_end-requires-clause-test
may_end-requires-clause-test c = test_cut c.args.terms.now c.args.list.now c.args.k c.get-step.result c.args.self.now c.in-Cut.t c.requires.ordered c.requires.at c.get-step.ensures c.requires.room c.in-Cut.is

pub may_end-requires-in-Prop-clause-test : goal.may_end-requires-in-Prop-clause-test
may_end-requires-in-Prop-clause-test c = test_prop c.args.terms.now c.args.list.now c.args.k c.get-step.result c.args.self.now c.in-Prop.field-0 c.in-Prop.t c.requires.ordered c.requires.at c.get-step.ensures c.requires.room c.in-Prop.is

pub returns-in-Free : goal.returns-in-Free
returns-in-Free c =
    on_ok_weaker c.leave_free.result
    (at_free c.args.terms.now c.args.list.now c.args.k c.get-step.result c.args.self.now c.leave_free.new.self c.in-Free.x c.width_of_var.result c.requires.ordered c.requires.at c.get-step.ensures c.in-Free.is c.width_of_var.ensures.width c.width_of_var.ensures.some) c.leave_free.ensures

pub returns-in-Set : goal.returns-in-Set
returns-in-Set c =
    on_ok_weaker c.give.result (at_give c.args.terms.now c.args.list.now c.args.k c.get-step.result c.args.self.now c.give.new.self c.in-Set.x c.in-Set.t c.requires.ordered c.requires.at c.get-step.ensures c.in-Set.is) c.give.ensures

pub returns-in-Cut : goal.returns-in-Cut
returns-in-Cut c =
    on_ok_weaker c.may_end.result
    (at_end c.args.terms.now c.args.list.now c.args.k c.get-step.result c.args.self.now c.may_end.new.self c.in-Cut.t.0 _ c.requires.at c.get-step.ensures (ends_cut c.args.terms.now c.get-step.result c.in-Cut.t c.in-Cut.is)) c.may_end.ensures

pub returns-in-Prop : goal.returns-in-Prop
returns-in-Prop c =
    on_ok_weaker c.may_end-in-Prop.result
    (at_end c.args.terms.now c.args.list.now c.args.k c.get-step.result c.args.self.now c.may_end-in-Prop.new.self c.in-Prop.t.0 _ c.requires.at c.get-step.ensures (ends_prop c.args.terms.now c.get-step.result c.in-Prop.field-0 c.in-Prop.t c.in-Prop.is)) c.may_end-in-Prop.ensures
