use Rattle.std.proofs.Common.{◌<◌, List, get_or, length, ap, ◌∙◌, arith}
use Rattle.std.proofs.lemmas.List.{length-set}
use Rattle.res_log.specs.declared.origins.Origin.{Origin}
use Rattle.res_log.specs.declared.origins.Origin.TheVariants.{Input}
use Rattle.res_log.proofs.Tables.{set-more}
use Rattle.res_log.proofs.origins.set_origins.Goals as goal

pub loop-j-preserved : goal.loop-j-preserved
loop-j-preserved c =
    let l : c.loop-j.j < length c.args.log.now = omega arith in (
      ap length c.set_origin.ensures ∙ length-set c.loop-j.table.items c.derived.result.0 c.args.origin ∙ c.loop-j.invariant.0,
      λ id m. ap (λ (xs : List Origin). get_or xs id Input) c.set_origin.ensures
          ∙ set-more c.args.log.now c.args.table.now.items c.loop-j.table.items c.loop-j.j c.args.origin c.derived.result l c.derived.ensures c.loop-j.invariant.0 c.loop-j.invariant.1 id m,
    )
