use Rattle.std.proofs.Common.{ℕ, ap, ◌∙◌}
use Rattle.clause_arena.specs.Clause.{is_below}
use Rattle.cdcl.proofs.Knowing.{known-back, below-rest, rest-is}
use Rattle.cdcl.proofs.going_back.go_back.Goals as goal

pub tell_freed-requires : goal.tell_freed-requires
tell_freed-requires g c =
    below-rest _ c.args.trail.now.lits.items _ c.args.end (rest-is c.args.trail.now.lits.items c.deref.result.now c.args.end c.deref.ensures.value)
    (ap (λ (n : ℕ). is_below n c.args.trail.now.lits.items) c.requires.ready ∙ c.args.trail.now.below)

pub returns-clause-known : goal.returns-clause-known
returns-clause-known g c =
    known-back (λ (v : ℕ). (goal.Chooser-dyn g (c.args.chooser.now.vtable, c.args.chooser.now.value)).knows c.args.chooser.now.value v)
    (λ (v : ℕ). (goal.Chooser-dyn g (c.tell_freed.new.chooser.vtable, c.tell_freed.new.chooser.value)).knows c.tell_freed.new.chooser.value v)
    c.args.trail.now c.back_to.new.self _ c.args.end c.back_to.ensures.vars c.back_to.ensures.back
    (rest-is c.args.trail.now.lits.items c.deref.result.now c.args.end c.deref.ensures.value) c.tell_freed.ensures.known c.tell_freed.ensures.freed c.requires.known
