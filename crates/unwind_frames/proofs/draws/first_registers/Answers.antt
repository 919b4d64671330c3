use Rattle.std.proofs.Common.{◌≡◌, ℕ, List, Option, sym, ◌∙◌, subst}
use Rattle.std.specs.Prelude.{All}
use Rattle.joint_ir.specs.declared.module.Role.TheVariants.{Register}
use Rattle.joint_ir.specs.declared.module.Signal.{Signal}
use Rattle.joint_ir.specs.Runs.{draw_registers}
use Rattle.joint_ir.specs.Views.{widths_of}
use Rattle.joint_ir.specs.WellFormed.{FitFirsts}
use Rattle.joint_view.specs.Conditions.{IsNarrow}
use Rattle.joint_view.proofs.Fitting.{widths_narrow}
use Rattle.unwind_state.specs.declared.state.Guard.TheVariants.{Always}
use Rattle.unwind_module.specs.Drawing.{AreDrawn}
use Rattle.unwind_frames.proofs.draws.first_registers.Goals as goal

pub draw_registers-requires-clause-widths : goal.draw_registers-requires-clause-widths
draw_registers-requires-clause-widths c =
    let m = c.args.flat.now in
    let ws = subst (λ (l : List Signal). c.as_slice-3.result.now ≡ widths_of Register l) c.as_slice.ensures (c.as_slice-3.ensures ∙ c.in_ok-widths.ensures.value) in
    subst (λ l. All IsNarrow l) (sym ws) (widths_narrow Register m.signals c.requires.signals)

pub draw_registers-requires-clause-firsts : goal.draw_registers-requires-clause-firsts
draw_registers-requires-clause-firsts c =
    let m = c.args.flat.now in
    let ws = subst (λ (l : List Signal). c.as_slice-3.result.now ≡ widths_of Register l) c.as_slice.ensures (c.as_slice-3.ensures ∙ c.in_ok-widths.ensures.value) in
    subst (λ (l : List (Option ℕ)). FitFirsts l c.as_slice-3.result.now) (sym c.as_slice-2.ensures) (subst (λ l. FitFirsts m.firsts l) (sym ws) c.requires.firsts)

pub returns : goal.returns
returns c =
    let m = c.args.flat.now in
    let n0 = c.args.net.now in
    let n1 = c.draw_registers.new.net in
    let ids = c.in_ok-ids.ids in
    let ws = subst (λ (l : List Signal). c.as_slice-3.result.now ≡ widths_of Register l) c.as_slice.ensures (c.as_slice-3.ensures ∙ c.in_ok-widths.ensures.value) in
    subst (λ l. AreDrawn n0 n1 Always (draw_registers m.firsts l) l ids) ws
    (subst (λ (l : List (Option ℕ)). AreDrawn n0 n1 Always (draw_registers l c.as_slice-3.result.now) c.as_slice-3.result.now ids) c.as_slice-2.ensures c.in_ok-ids.ensures)
