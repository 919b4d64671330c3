use Rattle.std.proofs.Common.{refl}
use Rattle.unrolled.specs.declared.Unrolled.{Unrolled}
use Rattle.expression_steps.proofs.Arrays.{width_bounds, reached_elements}
use Rattle.unwind_stores.proofs.Reading.{read_made}
use Rattle.unwind_stores.proofs.elements.read_at.Goals as goal

pub read-requires-clause-some : goal.read-requires-clause-some
read-requires-clause-some c = (width_bounds c.args.net.now.terms c.args.index c.len.ensures.proper c.requires.has).0

pub read-requires-clause-within : goal.read-requires-clause-within
read-requires-clause-within c = (width_bounds c.args.net.now.terms c.args.index c.len.ensures.proper c.requires.has).1

pub read-requires-clause-elements : goal.read-requires-clause-elements
read-requires-clause-elements c = reached_elements c.args.net.now.terms c.args.net.now.terms c.args.elements.now c.named.result.now _ c.args.width (λ x h. h) c.named.ensures c.requires.elements

pub returns : goal.returns
returns c =
    let net : Unrolled = record { terms = c.read.new.terms; list = c.args.net.now.list } in
    read_made c.args.net.now net c.args.elements.now c.named.result.now c.args.width c.args.index c.in_ok-t.t c.len.ensures.proper c.requires.has refl c.named.ensures c.in_ok-t.ensures
