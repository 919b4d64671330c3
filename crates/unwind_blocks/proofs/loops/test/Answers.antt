use Rattle.std.proofs.Common.{sym, ap, ◌∙◌, subst}
use Rattle.std.specs.Prelude.{Some}
use Rattle.joint_ir.specs.WellFormed.{FitsOption}
use Rattle.unwind_blocks.proofs.Turns.{test_none, test_some}
use Rattle.unwind_blocks.proofs.loops.test.Goals as goal

pub returns-in-None : goal.returns-in-None
returns-in-None c =
    λ d inside fits. test_none c.args.at.now c.args.net.now c.args.state.now c.args.guard c.only.result c.args.cond.now d.locals c.in-None.is c.len.ensures.proper c.requires.objects c.requires.guard c.only.ensures

pub tested-requires : goal.tested-requires
tested-requires c =
    record { scope = c.requires.scope; program = c.requires.program; fits = subst (FitsOption c.requires.scope) (c.in-Some.is ∙ ap Some (sym c.get.ensures)) c.requires.fits; objects = c.requires.objects; guard = c.requires.guard }

pub returns-in_ok-sides-in-Some : goal.returns-in_ok-sides-in-Some
returns-in_ok-sides-in-Some c =
    λ d inside fits. test_some c.args.at.now c.args.net.now c.tested.new.net c.args.state.now c.get.result.now c.args.cond.now c.args.guard c.in_ok-sides-in-Some.sides d (c.in-Some.is ∙ ap Some (sym c.get.ensures)) c.in_ok-sides-in-Some.ensures c.requires.objects inside fits
