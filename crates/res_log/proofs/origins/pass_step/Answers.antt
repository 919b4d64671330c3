use Rattle.std.proofs.Common.{◌+◌, List, sym, subst}
use Rattle.res_log.specs.declared.origins.Origin.{Origin}
use Rattle.res_log.specs.Origins.{IsTable}
use Rattle.res_log.proofs.Tables.{table-more}
use Rattle.res_log.proofs.origins.pass_step.Goals as goal

pub returns-clause-table : goal.returns-clause-table
returns-clause-table c =
    subst (λ (xs : List Origin). IsTable c.args.log.now (c.args.k + 1) xs) (sym c.set_origin.ensures)
    (table-more c.args.log.now c.args.table.now.items c.args.k c.derived.result c.requires.place c.derived.ensures c.requires.table)
