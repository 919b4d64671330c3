use Rattle.std.proofs.Common.{[], ◌∷◌, ◌∙◌, sym, ap}
use Rattle.std.specs.Prelude.{◌-◌, Option}
use Rattle.joint_ir.specs.declared.program.Function.{Function}
use Rattle.joint_ir.specs.declared.stmt.TStmt.{TStmt}
use Rattle.joint_ir.specs.Runs.{main_effect, body_of}
use Rattle.joint_ir.specs.Steps.{Setting}
use Rattle.joint_ir.specs.Statements.{ACTIVATIONS, after, calls_at}
use Rattle.joint_step.proofs.Flows.{does_as}
use Rattle.joint_step.proofs.Inits.{stands_callee}
use Rattle.joint_step.proofs.Runs.{main_of}
use Rattle.joint_step.proofs.run.main_body.Goals as goal

pub statement-requires-clause-fits : goal.statement-requires-clause-fits
statement-requires-clause-fits c =
    stands_callee c.args.pair.now c.args.pair.now.program.main c.in-Some.main.now c.requires.well (sym c.in-Some.ensures.value) c.in-Some-body.body c.in-Some-body.is

pub returns-in-Some-body : goal.returns-in-Some-body
returns-in-Some-body c =
    let p = c.args.pair.now in
    let b = c.args.bounds.now in
    let body = c.in-Some-body.body in
    let k : Setting = record { pair = p; bounds = b; here = p.program.main } in
    does_as c.statement.result c.args.machine.now c.statement.new.machine (main_of p b)
    (after k (calls_at p b (ACTIVATIONS - 1) (p.program.main ∷ [])) body.place body.node)
    (ap (λ (o : Option Function). main_effect p b (body_of o)) (sym c.in-Some.ensures.value) ∙ ap (λ (o : Option TStmt). main_effect p b o) c.in-Some-body.is)
    (c.statement.ensures.does (p.program.main ∷ []) c.requires.standing)
