use Rattle.std.proofs.Common.{get_or, refl, sym, ap, ◌∙◌}
use Rattle.cdcl.specs.Numbers.{Numbers, numbers, gained}
use Rattle.cdcl.proofs.Back.{zero_lit}
use Rattle.cdcl.proofs.Gaining.{gained-none, gained-more}
use Rattle.cdcl.proofs.activity.ActivityChooserChooser.learned.Goals as goal

pub loop-l-init : goal.loop-l-init
loop-l-init c = record {
  len = refl;
  heard = gained-none (numbers c.args.self.now.ranks.numbers.items c.args.self.now.step);
  same = refl;
}

pub loop-l-preserved : goal.loop-l-preserved
loop-l-preserved c =
    let n = numbers c.args.self.now.ranks.numbers.items c.args.self.now.step in record {
      len = c.bump.ensures.len ∙ c.loop-l.invariant.len;
      heard =
          c.bump.ensures.gained
          ∙ ap (λ (m : Numbers). gained m (get_or c.args.lits.now c.loop-l.l-index zero_lit).var) c.loop-l.invariant.heard
          ∙ sym (gained-more n c.args.lits.now c.loop-l.l-index c.loop-l-test.true);
      same = c.bump.ensures.same ∙ c.loop-l.invariant.same;
    }
