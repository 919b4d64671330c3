use Rattle.std.proofs.Common.{[], ◌∷◌, ◌++◌, List, get_or, take, refl, sym, ap, ◌∙◌, subst, arith}
use Rattle.clause_arena.specs.declared.Lit.{Lit}
use Rattle.clause_arena.specs.Clause.{Clause, has}
use Rattle.clause_arena.proofs.Sets.{lit_eq-refl}
use Rattle.std.proofs.lemmas.Bool.{or_right}
use Rattle.cdcl.specs.Held.{vars_of, reasons_of}
use Rattle.cdcl.specs.Trail.{Reasons, AreForcedFrom}
use Rattle.cdcl.specs.Watched.{IsWatched, IsWatchedClause}
use Rattle.cdcl.proofs.Parts.{open-some, Some-is}
use Rattle.cdcl.proofs.Looks.{has-at, free-from}
use Rattle.cdcl.proofs.Back.{zero_lit}
use Rattle.cdcl.proofs.Arrays.{below-at, has-push}
use Rattle.cdcl.proofs.Sweeps.{spreads-push, spreads-refl}
use Rattle.cdcl.proofs.Passing.{slot-below, watched-push, forced-push}
use Rattle.cdcl.proofs.Watching.{begun-more, begun-two, begun-one, forced-single, first-below}
use Rattle.cdcl.proofs.start.watch_clause.Goals as goal

pub bounds-lits-0 : goal.bounds-lits-0
bounds-lits-0 c = open-some c.lits-lits.result.now (c.requires.open c.args.id.0 c.lits-lits.result.now c.lits-lits.ensures.list)

pub watch-requires-clause-first : goal.watch-requires-clause-first
watch-requires-clause-first c =
    slot-below (get_or c.lits-lits.result.now 0 zero_lit) (vars_of c.args.trail.now) c.args.watches.now.lists
    (first-below c.args.arena.now.clauses (vars_of c.args.trail.now) c.args.id.0 c.lits-lits.result.now c.requires.below c.requires.open c.lits-lits.ensures.list)
    c.requires.begun.sized.one_list_each

pub watch-requires-clause-second : goal.watch-requires-clause-second
watch-requires-clause-second c =
    slot-below (get_or c.lits-lits.result.now 1 zero_lit) (vars_of c.args.trail.now) c.args.watches.now.lists
    (below-at (vars_of c.args.trail.now) c.lits-lits.result.now (get_or c.lits-lits.result.now 1 zero_lit) (c.requires.below c.args.id.0 c.lits-lits.result.now c.lits-lits.ensures.list) (has-at c.lits-lits.result.now 1 zero_lit c.if-lits-gt1.true))
    c.requires.begun.sized.one_list_each

pub returns-then-lits-gt1-clause-begun : goal.returns-then-lits-gt1-clause-begun
returns-then-lits-gt1-clause-begun c =
    let a = c.in_ok-watch.ensures in
    begun-more c.args.arena.now.clauses c.args.id.0 c.args.trail.now c.args.trail.now c.args.watches.now c.watch.new.self _ c.requires.id a.pairs a.kept a.lists a.head refl c.requires.begun.forced c.requires.begun.watched
    (λ d e.
    subst (λ (x : Clause). IsWatchedClause c.args.trail.now.lits.items (reasons_of c.args.trail.now) 0 c.watch.new.self.lists c.args.id x (record { first = get_or c.lits-lits.result.now 0 zero_lit; second = get_or c.lits-lits.result.now 1 zero_lit }))
    (Some-is _ _ (sym c.lits-lits.ensures.list ∙ e))
    (begun-two c.args.trail.now.lits.items (reasons_of c.args.trail.now) c.watch.new.self.lists c.args.id c.lits-lits.result.now c.lits-lits.ensures.distinct c.if-lits-gt1.true a.first a.second))
    c.requires.begun

pub holds-requires : goal.holds-requires
holds-requires c = first-below c.args.arena.now.clauses (vars_of c.args.trail.now) c.args.id.0 c.lits-lits.result.now c.requires.below c.requires.open c.lits-lits.ensures.list

pub watch-requires-then-holds-clause-first : goal.watch-requires-then-holds-clause-first
watch-requires-then-holds-clause-first c = slot-below (get_or c.lits-lits.result.now 0 zero_lit) (vars_of c.args.trail.now) c.args.watches.now.lists (first-below c.args.arena.now.clauses (vars_of c.args.trail.now) c.args.id.0 c.lits-lits.result.now c.requires.below c.requires.open c.lits-lits.ensures.list) c.requires.begun.sized.one_list_each

pub watch-requires-then-holds-clause-second : goal.watch-requires-then-holds-clause-second
watch-requires-then-holds-clause-second c = slot-below (get_or c.lits-lits.result.now 0 zero_lit) (vars_of c.args.trail.now) c.args.watches.now.lists (first-below c.args.arena.now.clauses (vars_of c.args.trail.now) c.args.id.0 c.lits-lits.result.now c.requires.below c.requires.open c.lits-lits.ensures.list) c.requires.begun.sized.one_list_each

pub returns-then-holds-clause-begun : goal.returns-then-holds-clause-begun
returns-then-holds-clause-begun c =
    let a = c.in_ok-watch-2.ensures in
    let l = get_or c.lits-lits.result.now 0 zero_lit in
    let h = has-at c.lits-lits.result.now 0 zero_lit (open-some c.lits-lits.result.now (c.requires.open c.args.id.0 c.lits-lits.result.now c.lits-lits.ensures.list)) in
    begun-more c.args.arena.now.clauses c.args.id.0 c.args.trail.now c.args.trail.now c.args.watches.now c.watch-then-holds.new.self _ c.requires.id a.pairs a.kept a.lists a.head refl c.requires.begun.forced c.requires.begun.watched
    (λ d e.
    begun-one c.args.trail.now.lits.items (reasons_of c.args.trail.now) c.watch-then-holds.new.self.lists c.args.id d l c.requires.kept.lengths
    (ap (λ (x : Clause). has x l) (Some-is d c.lits-lits.result.now (sym e ∙ c.lits-lits.ensures.list)) ∙ h) (sym c.holds.ensures ∙ c.if-holds.true) c.requires.begun.forced)
    c.requires.begun

pub holds-requires-2 : goal.holds-requires-2
holds-requires-2 c =
    let b = first-below c.args.arena.now.clauses (vars_of c.args.trail.now) c.args.id.0 c.lits-lits.result.now c.requires.below c.requires.open c.lits-lits.ensures.list in
    omega (arith, b, ap (λ (l : Lit). l.var) c.negated.ensures)

pub push-requires-clause-below : goal.push-requires-clause-below
push-requires-clause-below c = first-below c.args.arena.now.clauses (vars_of c.args.trail.now) c.args.id.0 c.lits-lits.result.now c.requires.below c.requires.open c.lits-lits.ensures.list

pub returns-clause-spread : goal.returns-clause-spread
returns-clause-spread c =
    let l = get_or c.lits-lits.result.now 0 zero_lit in
    let p = c.args.trail.now.lits.items in
    spreads-push c.args.arena.now.clauses c.args.trail.now c.args.trail.now c.push.new.self c.args.id l c.lits-lits.result.now c.requires.below c.lits-lits.ensures.list
    (free-from p l (sym c.holds.ensures ∙ c.if-holds.false) (ap (has p) (sym c.negated.ensures) ∙ sym c.holds-2.ensures ∙ c.if-holds-2.false))
    (forced-single p c.lits-lits.result.now (open-some c.lits-lits.result.now (c.requires.open c.args.id.0 c.lits-lits.result.now c.lits-lits.ensures.list)) (omega (arith, c.if-lits-gt1.false)))
    c.in_ok-push.ensures.pushed c.in_ok-push.ensures.reasoned c.push.ensures.vars (spreads-refl c.args.arena.now.clauses c.args.trail.now c.requires.kept)

pub returns-clause-forced : goal.returns-clause-forced
returns-clause-forced c = subst (λ (rs : Reasons). AreForcedFrom rs 0) (sym c.in_ok-push.ensures.reasoned) (forced-push (reasons_of c.args.trail.now) 0 c.args.id c.requires.begun.forced)

pub returns-clause-begun : goal.returns-clause-begun
returns-clause-begun c =
    let a = c.in_ok-watch-3.ensures in
    let l = get_or c.lits-lits.result.now 0 zero_lit in
    let h = has-at c.lits-lits.result.now 0 zero_lit (open-some c.lits-lits.result.now (c.requires.open c.args.id.0 c.lits-lits.result.now c.lits-lits.ensures.list)) in
    let s = returns-clause-spread c in
    let f : AreForcedFrom (reasons_of c.push.new.self) 0 = subst (λ (rs : Reasons). AreForcedFrom rs 0) (sym c.in_ok-push.ensures.reasoned) (forced-push (reasons_of c.args.trail.now) 0 c.args.id c.requires.begun.forced) in
    let g : IsWatched (take c.args.id.0 c.args.arena.now.clauses) c.push.new.self.lits.items (reasons_of c.push.new.self) 0 c.args.watches.now.lists c.args.watches.now.pairs =
    subst (λ (q : List Lit). IsWatched (take c.args.id.0 c.args.arena.now.clauses) q (reasons_of c.push.new.self) 0 c.args.watches.now.lists c.args.watches.now.pairs) (sym c.in_ok-push.ensures.pushed)
    (subst (λ (rs : Reasons). IsWatched (take c.args.id.0 c.args.arena.now.clauses) (c.args.trail.now.lits.items ++ l ∷ []) rs 0 c.args.watches.now.lists c.args.watches.now.pairs) (sym c.in_ok-push.ensures.reasoned)
    (watched-push (take c.args.id.0 c.args.arena.now.clauses) c.args.trail.now.lits.items (reasons_of c.args.trail.now) 0 c.args.watches.now.lists c.args.watches.now.pairs l c.args.id c.requires.kept.lengths (omega arith) c.requires.begun.watched))
    in
    begun-more c.args.arena.now.clauses c.args.id.0 c.args.trail.now c.push.new.self c.args.watches.now c.watch-2.new.self _ c.requires.id a.pairs a.kept a.lists a.head c.push.ensures.vars f g
    (λ d e.
    begun-one c.push.new.self.lits.items (reasons_of c.push.new.self) c.watch-2.new.self.lists c.args.id d l s.kept.lengths
    (ap (λ (x : Clause). has x l) (Some-is d c.lits-lits.result.now (sym e ∙ c.lits-lits.ensures.list)) ∙ h)
    (ap (λ (q : List Lit). has q l) c.in_ok-push.ensures.pushed ∙ has-push c.args.trail.now.lits.items l l ∙ or_right _ _ (lit_eq-refl l)) f)
    c.requires.begun
