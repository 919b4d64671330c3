use Rattle.std.proofs.Common.{sym, ap, ◌∙◌}
use Rattle.std.specs.Prelude.{◌&&◌, ◌||◌}
use Rattle.std.proofs.lemmas.Result.{on_ok_weaker}
use Rattle.bit_sets.specs.Sets.{is_in}
use Rattle.v_views.specs.Spots.{spot}
use Rattle.v_views.specs.Names.{target_assigns}
use Rattle.flat_language.proofs.Local.{flat_language}
use Rattle.flat_values.specs.Fits.{shapes_of}
use Rattle.statement_writes.proofs.Statements.{adds_none}
use Rattle.statement_writes.proofs.assigned.add_target.Goals as goal

pub returns-then-is_same-clause-adds : goal.returns-then-is_same-clause-adds
returns-then-is_same-clause-adds c =
    let l = flat_language (shapes_of c.args.signals.now) in
    on_ok_weaker c.add_bits.result
    (λ a h k. a h k ∙ ap (λ b. is_in c.args.set.now.items h k || (b && target_assigns l c.args.target.now (spot h 0 k))) (sym c.if-is_same.true ∙ c.is_same.ensures l))
    c.add_bits.ensures.adds

pub returns-clause-adds : goal.returns-clause-adds
returns-clause-adds c g k =
    let l = flat_language (shapes_of c.args.signals.now) in
    adds_none (is_in c.args.set.now.items g k)
    ∙ ap (λ b. is_in c.args.set.now.items g k || (b && target_assigns l c.args.target.now (spot g 0 k))) (sym c.if-is_same.false ∙ c.is_same.ensures l)
