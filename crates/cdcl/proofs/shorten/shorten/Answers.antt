use Rattle.std.proofs.Common.{◌≡◌, true, sym, ◌∙◌, subst}
use Rattle.clause_arena.specs.Clause.{Clause, is_below}
use Rattle.cdcl.specs.Held.{vars_of}
use Rattle.cdcl.proofs.Reasons.{all-below}
use Rattle.cdcl.proofs.Shortening.{all-false}
use Rattle.cdcl.proofs.shorten.shorten.Goals as goal

pub spare_places-requires : goal.spare_places-requires
spare_places-requires c =
    subst (λ (x : Clause). is_below (vars_of c.args.trail.now) x ≡ true) (sym c.as_slice.ensures)
    (all-below (vars_of c.args.trail.now) c.args.trail.now.lits.items c.args.derived.items c.args.trail.now.below c.requires.falsified)

pub shorten_by-requires-clause-none_seen : goal.shorten_by-requires-clause-none_seen
shorten_by-requires-clause-none_seen c = all-false c.deref_mut.result.now c.len.result (c.deref_mut.ensures.value ∙ c.in_ok-seen.ensures.items_if_clones_equal (λ y e. e))

pub shorten_by-requires-clause-none_gone : goal.shorten_by-requires-clause-none_gone
shorten_by-requires-clause-none_gone c = all-false c.deref_mut-2.result.now c.len-2.result (c.deref_mut-2.ensures.value ∙ c.in_ok-gone.ensures.items_if_clones_equal (λ y e. e))
