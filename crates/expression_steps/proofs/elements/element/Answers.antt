use Rattle.expression_steps.proofs.Arrays.{width_bounds, reached_elements, element_done}
use Rattle.expression_steps.proofs.elements.element.Goals as goal

pub within-requires-clause-some : goal.within-requires-clause-some
within-requires-clause-some c = (width_bounds c.args.net.now.terms c.args.x c.len.ensures.proper c.requires.has).0

pub within-requires-clause-wide : goal.within-requires-clause-wide
within-requires-clause-wide c = (width_bounds c.args.net.now.terms c.args.x c.len.ensures.proper c.requires.has).1

pub read-requires-clause-some : goal.read-requires-clause-some
read-requires-clause-some c = (width_bounds c.args.net.now.terms c.args.x c.len.ensures.proper c.requires.has).0

pub read-requires-clause-within : goal.read-requires-clause-within
read-requires-clause-within c = (width_bounds c.args.net.now.terms c.args.x c.len.ensures.proper c.requires.has).1

pub read-requires-clause-elements : goal.read-requires-clause-elements
read-requires-clause-elements c = reached_elements c.args.net.now.terms c.within.new.terms c.args.elements.now c.reached.result.now _ c.args.ty.bits c.in_ok-test.ensures.builds.kept c.reached.ensures c.requires.elements

pub returns : goal.returns
returns c =
    element_done c.args.net.now c.push_checks.new.net c.within.new.terms c.read.new.terms c.args.x c.in_ok-test.test c.in_ok-value.value c.args.elements.now c.reached.result.now c.args.from c.args.ty c.args.prop c.in_ok-count.count c.args.guard
    c.len.ensures.proper c.requires.has c.requires.width c.in_ok-count.ensures.count c.in_ok-test.ensures c.reached.ensures c.in_ok-value.ensures c.in_ok-push_checks.ensures
