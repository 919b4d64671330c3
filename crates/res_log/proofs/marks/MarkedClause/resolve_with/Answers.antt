use Rattle.std.proofs.Common.{Result, Ok, Err, sym, ◌∙◌}
use Rattle.std.specs.Result.{IfOk}
use Rattle.clause_arena.specs.Clause.{without}
use Rattle.res_log.proofs.Marking.{removed, resolved}
use Rattle.res_log.proofs.marks.MarkedClause.resolve_with.Goals as goal

map-ok : {T E : Type 0} (r : Result T E) (P Q : T → Type 0) → ((x : T) → P x → Q x) → IfOk r P → IfOk r Q
map-ok (Ok x) P Q f h = f x h
map-ok (Err e) P Q f h = h

pub returns : goal.returns
returns c = λ d h.
    map-ok c.add_without.result _ _
    (λ b g. resolved c.in-Some.negative c.args.self.now _ d c.args.clause.now c.args.pivot b h (sym c.sign_of.ensures ∙ c.in-Some.is) (sym c.has_opposite.ensures ∙ c.if-not-has_opposite.false) g)
    (c.add_without.ensures (without c.args.pivot d) (removed c.args.self.now c.remove.new.self d c.args.pivot h c.remove.ensures))
