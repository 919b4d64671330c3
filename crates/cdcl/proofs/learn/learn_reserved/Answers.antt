use Rattle.std.proofs.Common.{◌≡◌, ℕ, ◌<◌, Option, None, true, List, length, get_or, take, refl, arith, ap, ◌∙◌, subst, sym}
use Rattle.clause_arena.specs.declared.Lit.{Lit}
use Rattle.clause_arena.specs.declared.ClauseId.{ClauseId}
use Rattle.clause_arena.specs.Clause.{Clause, has}
use Rattle.res_log.specs.declared.ChainStep.{ChainStep}
use Rattle.res_log.specs.Partial.{is_quiet}
use Rattle.cdcl.specs.Held.{vars_of, reasons_of, IsChainOf}
use Rattle.cdcl.proofs.Back.{false-subset}
use Rattle.cdcl.proofs.Keeping.{keeps-same, keeps-push}
use Rattle.cdcl.proofs.Learned.{two-at, asserting-same, learned-all, kept-back}
use Rattle.std.proofs.lemmas.Bool.{and_parts}
use Rattle.clause_arena.specs.Clause.{is_below, IsEachOnce}
use Rattle.res_log.specs.Partial.{is_false, is_forced}
use Rattle.cdcl.specs.Watching.{HasNewest, IsAdded}
use Rattle.cdcl.proofs.Reasons.{all-below}
use Rattle.cdcl.proofs.Arrays.{below-at}
use Rattle.cdcl.proofs.Passing.{slot-below}
use Rattle.cdcl.proofs.Once.{few-lits}
use Rattle.cdcl.proofs.Watching.{watching-learned, pushed-kept, second-in}
use Rattle.cdcl.proofs.Knowing.{known-push}
use Rattle.cdcl.proofs.learn.learn_reserved.Goals as goal

pub resolve_back-requires-clause-two : goal.resolve_back-requires-clause-two
resolve_back-requires-clause-two g c =
    two-at c.args.arena.now.clauses (vars_of c.args.trail.now) c.args.trail.now.lits.items (reasons_of c.args.trail.now) c.args.start c.args.conflict c.requires.kept c.requires.last c.requires.conflict

pub returns-in_err-derived-clause-clauses : goal.returns-in_err-derived-clause-clauses
returns-in_err-derived-clause-clauses g c = keeps-same c.args.arena.now.clauses c.args.arena.now.clauses refl

pub returns-in_err-learned-clause-clauses : goal.returns-in_err-learned-clause-clauses
returns-in_err-learned-clause-clauses g c = keeps-same c.args.arena.now.clauses c.args.arena.now.clauses refl

pub level_end-level-requires-clause-falsified : goal.level_end-level-requires-clause-falsified
level_end-level-requires-clause-falsified g c =
    false-subset c.args.trail.now.lits.items c.in_ok-learned.learned.items c.as_slice.result.now
    (λ m h. ap (λ (x : Clause). has x m) (sym c.as_slice.ensures) ∙ h)
    c.in_ok-learned.ensures.falsified

pub level_end-level-requires-clause-asserting : goal.level_end-level-requires-clause-asserting
level_end-level-requires-clause-asserting g c =
    asserting-same (take c.args.start c.args.trail.now.lits.items) c.in_ok-learned.learned.items c.as_slice.result.now
    (λ m. ap (λ (x : Clause). has x m) c.as_slice.ensures)
    c.in_ok-learned.ensures.asserting

pub returns-in_err-append-clause-clauses : goal.returns-in_err-append-clause-clauses
returns-in_err-append-clause-clauses g c = keeps-push c.args.arena.now.clauses c.push_reserved-id.new.self.clauses c.as_slice-2.result.now c.push_reserved-id.ensures.stored

pub returns-clause-clauses : goal.returns-clause-clauses
returns-clause-clauses g c = keeps-push c.args.arena.now.clauses c.push_reserved-id.new.self.clauses c.as_slice-2.result.now c.push_reserved-id.ensures.stored

pub returns-clause-learned : goal.returns-clause-learned
returns-clause-learned g c =
    learned-all c.args.arena.now.clauses c.args.log.now (vars_of c.args.trail.now) c.args.trail.now.lits.items (reasons_of c.args.trail.now) c.args.start c.args.conflict c.push_reserved-id.result c.deref.result.now
    c.in_ok-learned.learned.items c.as_slice-2.result.now c.push_reserved-id.new.self.clauses c.append.new.self
    c.requires.below c.requires.kept c.requires.last c.requires.conflict
    (subst (λ (xs : List ChainStep). IsChainOf c.args.arena.now.clauses c.args.conflict xs c.in_ok-learned.learned.items) (sym c.deref.ensures.value) c.in_ok-learned.ensures.chained)
    c.in_ok-learned.ensures.asserting
    (λ m. ap (λ (x : Clause). has x m) c.as_slice-2.ensures)
    c.push_reserved-id.ensures.stored c.push_reserved-id.ensures.next c.in_ok-append.ensures.stored

-- the learned clause is false under the trail
learned-false : (p : List Lit) (r c : Clause) → ((m : Lit) → has c m ≡ has r m) → is_false p r ≡ true → is_false p c ≡ true
learned-false p r c s f = false-subset p r c (λ m h. sym (s m) ∙ h) f

pub asserted-first-requires-clause-below : goal.asserted-first-requires-clause-below
asserted-first-requires-clause-below g c =
    subst (λ (n : ℕ). is_below n c.as_slice-3.result.now ≡ true) (sym c.go_back.ensures.vars)
    (all-below (vars_of c.args.trail.now) c.args.trail.now.lits.items c.as_slice-3.result.now c.args.trail.now.below
    (learned-false c.args.trail.now.lits.items c.in_ok-learned.learned.items c.as_slice-3.result.now
    (λ m. ap (λ (x : Clause). has x m) c.as_slice-3.ensures)
    c.in_ok-learned.ensures.falsified))

pub push-requires-clause-below : goal.push-requires-clause-below
push-requires-clause-below g c = below-at (vars_of c.go_back.new.trail) c.as_slice-3.result.now c.asserted-first.result
    (subst (λ (n : ℕ). is_below n c.as_slice-3.result.now ≡ true) (sym c.go_back.ensures.vars)
    (all-below (vars_of c.args.trail.now) c.args.trail.now.lits.items c.as_slice-3.result.now c.args.trail.now.below
    (learned-false c.args.trail.now.lits.items c.in_ok-learned.learned.items c.as_slice-3.result.now
    (λ m. ap (λ (x : Clause). has x m) c.as_slice-3.ensures)
    c.in_ok-learned.ensures.falsified)))
    (and_parts _ _ c.asserted-first.ensures.forced).0

pub returns-in_err-push-clause-clauses : goal.returns-in_err-push-clause-clauses
returns-in_err-push-clause-clauses g c = keeps-push c.args.arena.now.clauses c.push_reserved-id.new.self.clauses c.as_slice-2.result.now c.push_reserved-id.ensures.stored

pub watch-requires-clause-second : goal.watch-requires-clause-second
watch-requires-clause-second g c =
    slot-below c.unwrap_or-second.result (vars_of c.args.trail.now) c.set_head.new.self.lists
    (below-at (vars_of c.args.trail.now) c.as_slice-3.result.now c.unwrap_or-second.result
    (all-below (vars_of c.args.trail.now) c.args.trail.now.lits.items c.as_slice-3.result.now c.args.trail.now.below
    (learned-false c.args.trail.now.lits.items c.in_ok-learned.learned.items c.as_slice-3.result.now
    (λ m. ap (λ (x : Clause). has x m) c.as_slice-3.ensures)
    c.in_ok-learned.ensures.falsified))
    (ap (has c.as_slice-3.result.now) c.unwrap_or-second.ensures
    ∙ second-in c.args.trail.now.lits.items (reasons_of c.args.trail.now) c.as_slice-3.result.now c.level_end-level.result.end c.level_end-level.result.newest c.asserted-first.result
    (subst (λ (x : Clause). HasNewest c.args.trail.now.lits.items (reasons_of c.args.trail.now) x c.level_end-level.result.end c.level_end-level.result.newest) (c.as_slice.ensures ∙ sym c.as_slice-3.ensures) c.level_end-level.ensures.newest)
    (and_parts _ _ c.asserted-first.ensures.forced).0))
    (ap length c.set_head.ensures.lists ∙ c.requires.watching.sized.one_list_each)

pub returns-in_err-watch-clause-clauses : goal.returns-in_err-watch-clause-clauses
returns-in_err-watch-clause-clauses g c = keeps-push c.args.arena.now.clauses c.push_reserved-id.new.self.clauses c.as_slice-2.result.now c.push_reserved-id.ensures.stored

pub returns-clause-kept : goal.returns-clause-kept
returns-clause-kept g c =
    pushed-kept c.args.arena.now.clauses c.push_reserved-id.new.self.clauses c.args.trail.now c.go_back.new.trail c.push.new.self c.as_slice-2.result.now c.asserted-first.result c.push_reserved-id.result c.requires.below
    (all-below (vars_of c.args.trail.now) c.args.trail.now.lits.items c.as_slice-2.result.now c.args.trail.now.below
    (learned-false c.args.trail.now.lits.items c.in_ok-learned.learned.items c.as_slice-2.result.now
    (λ m. ap (λ (x : Clause). has x m) c.as_slice-2.ensures)
    c.in_ok-learned.ensures.falsified))
    c.go_back.ensures.vars c.push_reserved-id.ensures.stored c.push_reserved-id.ensures.next
    (kept-back c.args.arena.now.clauses c.push_reserved-id.new.self.clauses c.args.trail.now c.go_back.new.trail c.level_end-level.result.end c.as_slice-2.result.now
    c.requires.kept (omega (arith, c.level_end-level.ensures.within, c.requires.last.0, c.requires.kept.lengths))
    (subst (λ (x : Clause). (k : ℕ) (o : Option ClauseId) → k < c.level_end-level.result.end → get_or (reasons_of c.args.trail.now) k o ≡ None → is_quiet (take k c.args.trail.now.lits.items) x ≡ true)
    (c.as_slice.ensures ∙ sym c.as_slice-2.ensures) c.level_end-level.ensures.quiet)
    c.push_reserved-id.ensures.stored c.go_back.ensures.back c.go_back.ensures.reasoned c.go_back.ensures.vars)
    c.asserted-first.ensures.free
    (ap (is_forced c.go_back.new.trail.lits.items c.asserted-first.result) (c.as_slice-2.ensures ∙ sym c.as_slice-3.ensures) ∙ c.asserted-first.ensures.forced)
    c.in_ok-push.ensures.pushed c.in_ok-push.ensures.reasoned c.push.ensures.vars

pub returns-clause-watching : goal.returns-clause-watching
returns-clause-watching g c =
    let l = c.asserted-first.result in
    let newest = c.level_end-level.result.newest in
    watching-learned c.args.arena.now.clauses c.push_reserved-id.new.self.clauses c.args.trail.now c.go_back.new.trail c.push.new.self c.args.watches.now c.set_head.new.self c.watch.new.self c.args.start c.level_end-level.result.end
    c.as_slice-2.result.now l newest c.push_reserved-id.result c.requires.kept c.requires.last c.level_end-level.ensures.within c.level_end-level.ensures.decided
    c.go_back.ensures.back c.go_back.ensures.reasoned c.go_back.ensures.vars c.push_reserved-id.ensures.stored c.push_reserved-id.ensures.next c.asserted-first.ensures.free
    (ap (λ (x : Clause). has x l) (c.as_slice-2.ensures ∙ sym c.as_slice-3.ensures) ∙ (and_parts _ _ c.asserted-first.ensures.forced).0)
    (subst (λ (x : Clause). HasNewest c.args.trail.now.lits.items (reasons_of c.args.trail.now) x c.level_end-level.result.end newest) (c.as_slice.ensures ∙ sym c.as_slice-2.ensures) c.level_end-level.ensures.newest)
    c.in_ok-push.ensures.pushed c.in_ok-push.ensures.reasoned c.push.ensures.vars c.set_head.ensures.head c.set_head.ensures.lists c.set_head.ensures.pairs
    (subst (λ (m : Lit). IsAdded c.set_head.new.self c.watch.new.self c.push_reserved-id.result (record { first = l; second = m })) c.unwrap_or-second.ensures c.in_ok-watch.ensures)
    c.requires.watching

pub push_reserved-id-requires-clause-spare_lits : goal.push_reserved-id-requires-clause-spare_lits
push_reserved-id-requires-clause-spare_lits g c =
    omega (
      arith,
      c.requires.spare_lits,
      few-lits (vars_of c.args.trail.now) c.args.trail.now.lits.items c.as_slice-2.result.now c.args.trail.now.consistent c.args.trail.now.below
          (learned-false c.args.trail.now.lits.items c.in_ok-learned.learned.items c.as_slice-2.result.now (λ m. ap (λ (x : Clause). has x m) c.as_slice-2.ensures) c.in_ok-learned.ensures.falsified)
          (subst IsEachOnce (sym c.as_slice-2.ensures) c.in_ok-learned.ensures.once),
    )

pub returns-clause-known : goal.returns-clause-known
returns-clause-known g c =
    known-push (λ (v : ℕ). (goal.Chooser-dyn g (c.go_back.new.chooser.vtable, c.go_back.new.chooser.value)).knows c.go_back.new.chooser.value v) c.go_back.new.trail c.push.new.self c.asserted-first.result
    c.in_ok-push.ensures.pushed c.push.ensures.vars c.go_back.ensures.known
