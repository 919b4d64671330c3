use Rattle.std.proofs.Common.{refl}
use Rattle.unrolled.specs.declared.Unrolled.{Unrolled}
use Rattle.unwind.proofs.Starts.{begins}
use Rattle.unwind.proofs.beginning.begin.Goals as goal

pub returns : goal.returns
returns c =
    let n3 = c.first_view.new.net in
    let n4 : Unrolled = record { terms = c.constant.new.terms; list = n3.list } in
    begins c.args.pair.now c.args.net.now c.first_objects.new.net n3 n4 c.in_ok-objects.objects c.in_ok-sources.field-0 c.in_ok-result.result c.result_width-width.result
    c.requires.none c.in_ok-objects.ensures c.in_ok-sources.ensures c.in_ok-result.ensures refl c.result_width-width.ensures.value
