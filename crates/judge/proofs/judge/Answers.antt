use Rattle.std.proofs.Common.{◌≡◌, ◌<◌, ◌≤◌, ◌^◌, ℕ, length, true, sym, subst, arith}
use Rattle.clause_arena.specs.Arena.{Arena}
use Rattle.clause_arena.specs.Clause.{Clauses, EachClause, EachOnce, is_below}
use Rattle.gate_net.specs.Clauses.{Fits}
use Rattle.cdcl.specs.Answer.{IsAnswer, IsModel, IsRefutation, IsSpent, assignment}
use Rattle.cdcl.specs.Trail.{AllClauses}
use Rattle.joint_ir.specs.declared.program.PropId.{PropId}
use Rattle.joint_ir.specs.Runs.{CanBreak}
use Rattle.nothing_lost.proofs.Running.{nothing_is_lost}
use Rattle.log_laws.proofs.Length.{open_law}
use Rattle.pair_proof.proofs.Composition.{is_proof, none_breaks}
use Rattle.judge.proofs.judge.Goals as goal

below_from : (n m : ℕ) (cs : Clauses) → m ≡ n → EachClause (Fits n) cs → AllClauses (is_below m) cs
below_from n m cs e f = λ id x at. subst (λ k. is_below k x ≡ true) (sym e) (f id x at).1

pub solve-requires-clause-below : goal.solve-requires-clause-below
solve-requires-clause-below g c = below_from (length c.in_ok-blasted.blasted.net) c.count-nodes.result c.to_clauses.new.arena.clauses c.count-nodes.ensures.count c.in_ok-to_clauses.ensures.fit

pub broken_run-requires-clause-values : goal.broken_run-requires-clause-values
broken_run-requires-clause-values g c =
    let m : IsModel c.to_clauses.new.arena.clauses c.count-nodes.result c.in-Model.model = subst (IsAnswer c.to_clauses.new.arena.clauses c.solve.new.arena.clauses c.count-nodes.result c.args.budget) c.in-Model.is c.in_ok-model.ensures.answer in
    ((c.in_ok-to_clauses.ensures.models (assignment c.in-Model.model)).0 m.satisfied).0

pub broken_run-requires-clause-root : goal.broken_run-requires-clause-root
broken_run-requires-clause-root g c =
    let m : IsModel c.to_clauses.new.arena.clauses c.count-nodes.result c.in-Model.model = subst (IsAnswer c.to_clauses.new.arena.clauses c.solve.new.arena.clauses c.count-nodes.result c.args.budget) c.in-Model.is c.in_ok-model.ensures.answer in
    ((c.in_ok-to_clauses.ensures.models (assignment c.in-Model.model)).0 m.satisfied).1

pub returns-in-Refuted : goal.returns-in-Refuted
returns-in-Refuted g c =
    let u = c.in_ok-unwound.unwound in
    let b = c.in_ok-blasted.blasted in
    let old = c.to_clauses.new.arena.clauses in
    let r : IsRefutation old c.solve.new.arena.clauses c.args.budget c.in-Refuted.log = subst (IsAnswer old c.solve.new.arena.clauses c.count-nodes.result c.args.budget) c.in-Refuted.is c.in_ok-model.ensures.answer in
    let once : EachOnce c.solve.new.arena.clauses = subst (λ (x : Arena). EachOnce x.clauses) c.arena-2.view_is c.arena-2.invariant.each_once in
    let none : (q : PropId) → ¬ (CanBreak c.args.pair.now c.args.bounds.now q) =
    none_breaks c.args.pair.now c.args.bounds.now u.terms u.list b.net b.root b.wires c.in_ok-unwound.ensures c.in_ok-blasted.ensures c.len.ensures.proper old c.solve.new.arena c.in-Refuted.log c.args.budget c.in_ok-to_clauses.ensures.models c.in_ok-to_clauses.ensures.fit c.in_ok-to_clauses.ensures.count r.shown r.ends in
    record {
      safe = record { no_run_breaks = none; nothing_fails = nothing_is_lost c.args.pair.now c.args.bounds.now c.requires.well none };
      shown = is_proof c.args.pair.now c.args.bounds.now u.terms u.list b.net b.root b.wires c.in_ok-unwound.ensures c.in_ok-blasted.ensures c.len.ensures.proper old c.solve.new.arena c.in-Refuted.log c.args.budget c.in_ok-to_clauses.ensures.models c.in_ok-to_clauses.ensures.fit c.in_ok-to_clauses.ensures.count r.shown r.within once;
      ends = r.ends;
    }

pub returns-in-Spent : goal.returns-in-Spent
returns-in-Spent g c =
    let u = c.in_ok-unwound.unwound in
    let b = c.in_ok-blasted.blasted in
    let old = c.to_clauses.new.arena.clauses in
    let r : IsSpent old c.solve.new.arena.clauses c.args.budget c.in-Spent.log = subst (IsAnswer old c.solve.new.arena.clauses c.count-nodes.result c.args.budget) c.in-Spent.is c.in_ok-model.ensures.answer in
    let once : EachOnce c.solve.new.arena.clauses = subst (λ (x : Arena). EachOnce x.clauses) c.arena-2.view_is c.arena-2.invariant.each_once in
    let within : length c.in-Spent.log ≤ c.args.budget = omega (arith, r.exact) in
    record {
      shown = is_proof c.args.pair.now c.args.bounds.now u.terms u.list b.net b.root b.wires c.in_ok-unwound.ensures c.in_ok-blasted.ensures c.len.ensures.proper old c.solve.new.arena c.in-Spent.log c.args.budget c.in_ok-to_clauses.ensures.models c.in_ok-to_clauses.ensures.fit c.in_ok-to_clauses.ensures.count r.shown within once;
      spent = r.exact;
      none_empty = r.none_empty;
      earned = λ vs over. subst (λ n. n < 3 ^ length vs) r.exact (open_law c.solve.new.arena.clauses c.in-Spent.log vs r.shown.valid r.none_empty over);
    }
