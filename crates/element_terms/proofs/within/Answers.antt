use Rattle.std.proofs.Common.{◌≡◌, ◌<◌, ◌^◌, arith}
use Rattle.element_terms.proofs.Parts.{within_made}
use Rattle.element_terms.proofs.within.Goals as goal

pub returns : goal.returns
returns c =
    within_made c.args.terms.now c.resize.new.terms c.constant.new.terms c.two.new.terms c.args.index c.in_ok-wide.wide c.in_ok-limit.limit c.in_ok-t.t c.args.signed c.compared_width-width.result c.args.count
    c.requires.has c.compared_width-width.ensures (omega arith) c.in_ok-wide.ensures c.in_ok-limit.ensures c.in_ok-t.ensures
