use Rattle.std.proofs.Common.{◌≡◌, ◌++◌, [], ◌∷◌, ap, refl, sym, ◌∙◌, subst, reverse, get_or}
use Rattle.ll_parse.specs.Machine.{HasRead, IsKept, MatchTop}
use Rattle.ll_parse.specs.Tables.{grammar_of, lists_of}
use Rattle.ll_parse.proofs.Ends.{start_kept, refuse_here, other_token, no_more, not_ended, goes_on, ends_parsed, ends_only, ends_refused}
use Rattle.ll_parse.proofs.Steps.{few}
use Rattle.ll_parse.proofs.machine.parse.Goals as goal

pub loop-i-init : goal.loop-i-init
loop-i-init c =
    let e : reverse c.push.new.self.items ≡ (lists_of c.args.table.now).start ∷ [] = ap reverse (c.in_ok-push.ensures.items ∙ ap (λ x. x ++ (lists_of c.args.table.now).start ∷ []) c.new-stack.ensures.items) in (
      subst (λ x. HasRead (grammar_of (lists_of c.args.table.now)) [] x (reverse c.push.new.self.items)) (sym c.new-productions.ensures.items)
          (subst (λ x. HasRead (grammar_of (lists_of c.args.table.now)) [] [] x) (sym e) (record { sound = λ ps us d. d; whole = λ all us d. (all, refl, d) })),
      subst (λ x. IsKept (lists_of c.args.table.now) x) (sym e) (start_kept (lists_of c.args.table.now) c.requires),
    )

pub returns-then-expected-kind-clause-refused : goal.returns-then-expected-kind-clause-refused
returns-then-expected-kind-clause-refused c =
    let h = c.in_ok-expected.ensures in
    refuse_here (lists_of c.args.table.now) c.requires c.args.tokens.now c.loop-i.productions.items (reverse c.loop-i.stack.items) c.loop-i.i c.loop-i-test.true c.loop-i.invariant.0 c.loop-i.invariant.1
    (λ ps us. other_token (lists_of c.args.table.now) c.requires (get_or c.args.tokens.now c.loop-i.i 0) c.in-Token.expected (reverse c.loop-i.stack.items) h.0 (reverse c.expand.new.stack.items) ps us c.if-expected-kind.true (subst (λ x. MatchTop (lists_of c.args.table.now) (get_or c.args.tokens.now c.loop-i.i 0) (reverse c.loop-i.stack.items) h.0 (reverse c.expand.new.stack.items) x) c.in-Token.is h.2))

pub returns-in-End-clause-refused : goal.returns-in-End-clause-refused
returns-in-End-clause-refused c =
    let h = c.in_ok-expected.ensures in
    refuse_here (lists_of c.args.table.now) c.requires c.args.tokens.now c.loop-i.productions.items (reverse c.loop-i.stack.items) c.loop-i.i c.loop-i-test.true c.loop-i.invariant.0 c.loop-i.invariant.1
    (λ ps us. no_more (lists_of c.args.table.now) c.requires (get_or c.args.tokens.now c.loop-i.i 0) (reverse c.loop-i.stack.items) h.0 (reverse c.expand.new.stack.items) ps us (subst (λ x. MatchTop (lists_of c.args.table.now) (get_or c.args.tokens.now c.loop-i.i 0) (reverse c.loop-i.stack.items) h.0 (reverse c.expand.new.stack.items) x) c.in-End.is h.2))

pub returns-in-Stuck-clause-refused : goal.returns-in-Stuck-clause-refused
returns-in-Stuck-clause-refused c =
    let h = c.in_ok-expected.ensures in
    let stuck = subst (λ x. MatchTop (lists_of c.args.table.now) (get_or c.args.tokens.now c.loop-i.i 0) (reverse c.loop-i.stack.items) h.0 (reverse c.expand.new.stack.items) x) c.in-Stuck.is h.2 in
    refuse_here (lists_of c.args.table.now) c.requires c.args.tokens.now c.loop-i.productions.items (reverse c.loop-i.stack.items) c.loop-i.i c.loop-i-test.true c.loop-i.invariant.0 c.loop-i.invariant.1
    (λ ps us. stuck ps ((get_or c.args.tokens.now c.loop-i.i 0) ∷ us) refl)

pub loop-i-preserved : goal.loop-i-preserved
loop-i-preserved c =
    let h = c.in_ok-expected.ensures in
    goes_on (lists_of c.args.table.now) c.requires c.args.tokens.now c.loop-i.productions.items c.expand.new.productions.items h.0 (reverse c.loop-i.stack.items) (reverse c.expand.new.stack.items) c.loop-i.i c.in-Token.expected c.loop-i-test.true c.if-expected-kind.false c.loop-i.invariant.0 h.1
    (subst (λ x. MatchTop (lists_of c.args.table.now) (get_or c.args.tokens.now c.loop-i.i 0) (reverse c.loop-i.stack.items) h.0 (reverse c.expand.new.stack.items) x) c.in-Token.is h.2)

pub returns-in-End-2-clause-parsed : goal.returns-in-End-2-clause-parsed
returns-in-End-2-clause-parsed c =
    let h = c.in_ok-expand.ensures in
    ends_parsed (lists_of c.args.table.now) c.requires c.args.tokens.now c.loop-i.productions.items c.expand-2.new.productions.items h.0 (reverse c.loop-i.stack.items) (reverse c.expand-2.new.stack.items) c.loop-i.i c.loop-i-test.false c.loop-i.invariant.0 h.1
    (subst (λ x. MatchTop (lists_of c.args.table.now) 0 (reverse c.loop-i.stack.items) h.0 (reverse c.expand-2.new.stack.items) x) c.in-End-2.is h.2)

pub returns-in-End-2-clause-only : goal.returns-in-End-2-clause-only
returns-in-End-2-clause-only c =
    let h = c.in_ok-expand.ensures in
    ends_only (lists_of c.args.table.now) c.requires c.args.tokens.now c.loop-i.productions.items c.expand-2.new.productions.items h.0 (reverse c.loop-i.stack.items) (reverse c.expand-2.new.stack.items) c.loop-i.i c.loop-i-test.false c.loop-i.invariant.0 h.1
    (subst (λ x. MatchTop (lists_of c.args.table.now) 0 (reverse c.loop-i.stack.items) h.0 (reverse c.expand-2.new.stack.items) x) c.in-End-2.is h.2)

pub returns-in-Token-2-clause-refused : goal.returns-in-Token-2-clause-refused
returns-in-Token-2-clause-refused c =
    let h = c.in_ok-expand.ensures in
    ends_refused (lists_of c.args.table.now) c.requires c.args.tokens.now c.loop-i.productions.items (reverse c.loop-i.stack.items) c.loop-i.i c.loop-i-test.false c.loop-i.invariant.0 c.loop-i.invariant.1
    (λ ps. not_ended (lists_of c.args.table.now) c.requires c.in-Token-2.field-0 (reverse c.loop-i.stack.items) h.0 (reverse c.expand-2.new.stack.items) ps (subst (λ x. MatchTop (lists_of c.args.table.now) 0 (reverse c.loop-i.stack.items) h.0 (reverse c.expand-2.new.stack.items) x) c.in-Token-2.is h.2))

pub returns-clause-refused : goal.returns-clause-refused
returns-clause-refused c =
    let h = c.in_ok-expand.ensures in
    let stuck = subst (λ x. MatchTop (lists_of c.args.table.now) 0 (reverse c.loop-i.stack.items) h.0 (reverse c.expand-2.new.stack.items) x) c.in-Stuck-2.is h.2 in
    ends_refused (lists_of c.args.table.now) c.requires c.args.tokens.now c.loop-i.productions.items (reverse c.loop-i.stack.items) c.loop-i.i c.loop-i-test.false c.loop-i.invariant.0 c.loop-i.invariant.1
    (λ ps. stuck ps [] refl)

pub returns-in-End-2-clause-linear : goal.returns-in-End-2-clause-linear
returns-in-End-2-clause-linear c =
    few (lists_of c.args.table.now) c.requires c.args.tokens.now c.expand-2.new.productions.items (returns-in-End-2-clause-parsed c)
