use Rattle.std.proofs.Common.{◌≡◌, suc, ◌-◌, ◌<◌, ◌++◌, [], ◌∷◌, append-nil, ap, sym, ◌∙◌, subst, reverse, arith}
use Rattle.ll_parse.specs.Machine.{Expands, Leads}
use Rattle.ll_parse.specs.Tables.{grammar_of, cell_of, lists_of}
use Rattle.ll_parse.proofs.Steps.{popped, pushed, going_start, going_production, going_token, going_stuck, size_falls, production_inside, Size, nothing, longer}
use Rattle.ll_parse.proofs.machine.expand.Goals as goal

pub productions-init : goal.productions-init
productions-init c = ([], sym (append-nil c.args.productions.now.items), going_start (lists_of c.args.table.now) c.args.kind (reverse c.args.stack.now.items) c.requires.kept)

pub returns-in_default : goal.returns-in_default
returns-in_default c =
    let w = c.productions.invariant in
    let e : c.productions.stack.items ≡ [] = nothing c.productions.stack.items _ c.productions.stack.ok.0 c.in_default.ensures.cases.0 in
    (w.0, w.1, subst (λ x. Leads (grammar_of (lists_of c.args.table.now)) c.args.kind (reverse c.args.stack.now.items) w.0 (reverse x)) e w.2.leads)

pub returns-then-symbol-lt-FIRST_NONTERMINAL : goal.returns-then-symbol-lt-FIRST_NONTERMINAL
returns-then-symbol-lt-FIRST_NONTERMINAL c =
    let w = c.productions.invariant in
    let g = subst (λ x. Expands (lists_of c.args.table.now) c.args.kind (reverse c.args.stack.now.items) w.0 x) (popped c.productions.stack.items c.pop.new.self.items c.in-Some.symbol c.in-Some.ensures.items) w.2 in
    (w.0, w.1, going_token (lists_of c.args.table.now) c.requires.ll c.args.kind c.in-Some.symbol (reverse c.args.stack.now.items) w.0 (reverse c.pop.new.self.items) g c.if-symbol-lt-FIRST_NONTERMINAL.true)

pub returns-then-entry-eq0 : goal.returns-then-entry-eq0
returns-then-entry-eq0 c =
    let w = c.productions.invariant in
    let g = subst (λ x. Expands (lists_of c.args.table.now) c.args.kind (reverse c.args.stack.now.items) w.0 x) (popped c.productions.stack.items c.pop.new.self.items c.in-Some.symbol c.in-Some.ensures.items) w.2 in
    (w.0, w.1, going_stuck (lists_of c.args.table.now) c.requires.ll c.args.kind c.in-Some.symbol (reverse c.args.stack.now.items) w.0 (reverse c.pop.new.self.items) (reverse c.pop.new.self.items) g c.if-symbol-lt-FIRST_NONTERMINAL.false (sym c.cell-entry.ensures ∙ c.if-entry-eq0.true))

pub push_body-requires-clause-production : goal.push_body-requires-clause-production
push_body-requires-clause-production c =
    let e : cell_of (lists_of c.args.table.now) c.in-Some.symbol c.args.kind ≡ suc (c.cell-entry.result - 1) = omega (arith, c.cell-entry.ensures) in
    production_inside (lists_of c.args.table.now) c.requires.ll c.args.kind (c.cell-entry.result - 1) c.in-Some.symbol c.if-symbol-lt-FIRST_NONTERMINAL.false e

pub productions-smaller : goal.productions-smaller
productions-smaller c =
    let e : cell_of (lists_of c.args.table.now) c.in-Some.symbol c.args.kind ≡ suc (c.cell-entry.result - 1) = omega (arith, c.cell-entry.ensures) in
    let f = size_falls (lists_of c.args.table.now) c.requires.ll c.args.kind (c.cell-entry.result - 1) c.in-Some.symbol (reverse c.pop.new.self.items) c.if-symbol-lt-FIRST_NONTERMINAL.false e in
    let a = pushed c.pop.new.self.items c.push_body.new.stack.items ((grammar_of (lists_of c.args.table.now)).body (c.cell-entry.result - 1)) c.in_ok-push_body.ensures in
    let b = popped c.productions.stack.items c.pop.new.self.items c.in-Some.symbol c.in-Some.ensures.items in
    subst (λ x. x < Size (lists_of c.args.table.now) (reverse c.productions.stack.items)) (ap (λ x. Size (lists_of c.args.table.now) x) (sym a)) (subst (λ x. Size (lists_of c.args.table.now) ((grammar_of (lists_of c.args.table.now)).body (c.cell-entry.result - 1) ++ reverse c.pop.new.self.items) < Size (lists_of c.args.table.now) x) (sym b) f)

pub productions-preserved : goal.productions-preserved
productions-preserved c =
    let w = c.productions.invariant in
    let g = subst (λ x. Expands (lists_of c.args.table.now) c.args.kind (reverse c.args.stack.now.items) w.0 x) (popped c.productions.stack.items c.pop.new.self.items c.in-Some.symbol c.in-Some.ensures.items) w.2 in
    let e : cell_of (lists_of c.args.table.now) c.in-Some.symbol c.args.kind ≡ suc (c.cell-entry.result - 1) = omega (arith, c.cell-entry.ensures) in
    let n = going_production (lists_of c.args.table.now) c.requires.ll c.args.kind (c.cell-entry.result - 1) c.in-Some.symbol (reverse c.args.stack.now.items) w.0 (reverse c.pop.new.self.items) g c.if-symbol-lt-FIRST_NONTERMINAL.false e in
    let a = pushed c.pop.new.self.items c.push_body.new.stack.items ((grammar_of (lists_of c.args.table.now)).body (c.cell-entry.result - 1)) c.in_ok-push_body.ensures in (
      w.0 ++ (c.cell-entry.result - 1) ∷ [],
      longer c.push.new.self.items c.productions.productions.items w.0 c.args.productions.now.items (c.cell-entry.result - 1) w.1 c.in_ok-push.ensures.items,
      subst (λ x. Expands (lists_of c.args.table.now) c.args.kind (reverse c.args.stack.now.items) (w.0 ++ (c.cell-entry.result - 1) ∷ []) x) (sym a) n,
    )
