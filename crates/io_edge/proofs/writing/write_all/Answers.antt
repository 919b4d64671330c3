use Rattle.std.proofs.Common.{◌≡◌, drop, take, ◌-◌, length, arith, ◌∙◌}
use Rattle.std.proofs.lemmas.Grind.{common_steps}
use Rattle.io_edge.proofs.SinkLemmas.{Appends-more}
use Rattle.io_edge.proofs.writing.write_all.Goals as goal

pub loop-done-preserved : goal.loop-done-preserved
loop-done-preserved g c =
    let rest : take (length c.args.bytes.now - c.loop-done.done) (drop c.loop-done.done c.args.bytes.now) ≡ drop c.loop-done.done c.args.bytes.now = grind (arith, common_steps) in
    record {
      within = omega (arith, c.in_ok-done.ensures.within);
      written = Appends-more _ _ _ _ _ _ _ rest c.loop-done.invariant.written c.in_ok-done.ensures.written;
      same_count = c.in_ok-done.ensures.same_count ∙ c.loop-done.invariant.same_count;
    }
