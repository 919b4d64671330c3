use Rattle.std.proofs.Common.{sym, subst}
use Rattle.std.specs.Prelude.{All}
use Rattle.joint_ir.specs.WellFormed.{FitsVar}
use Rattle.unwind.proofs.Starts.{first_made}
use Rattle.unwind.proofs.beginning.first_objects.Goals as goal

pub rows-requires : goal.rows-requires
rows-requires c = subst (λ l. All FitsVar l) (sym c.as_slice.ensures) c.requires.program.globals

pub rows-requires-2 : goal.rows-requires-2
rows-requires-2 c = subst (λ l. All FitsVar l) (sym c.as_slice-2.ensures) c.requires.program.locals

pub returns : goal.returns
returns c =
    first_made c.args.pair.now c.args.net.now c.rows.new.net c.rows-2.new.net c.as_slice.result.now c.as_slice-2.result.now
    (record { globals = c.in_ok-globals.globals; locals = c.in_ok-locals.locals; members = c.new-members.result })
    c.as_slice.ensures c.as_slice-2.ensures c.in_ok-globals.ensures c.in_ok-locals.ensures c.new-members.ensures.items
