use Rattle.std.proofs.Common.{sym, ◌∙◌, arith}
use Rattle.c_constants.proofs.Evaluating.{alone, many_case, few_case, value_case}
use Rattle.c_constants.proofs.evaluated.Goals as goal

pub returns-then-len-gt4294967296 : goal.returns-then-len-gt4294967296
returns-then-len-gt4294967296 c =
    let a = alone c.new-scopes.result c.new-notes.result c.expression.new.notes c.args.e.now c.in_ok-typed.typed c.new-scopes.ensures c.new-notes.ensures c.in_ok-typed.ensures in
    many_case c.args.e.now c.expression.new.notes c.in_ok-typed.typed c.len.result a (sym c.is_some.ensures ∙ c.if-is_some.false) c.len.ensures c.if-len-gt4294967296.true

pub answer-requires : goal.answer-requires
answer-requires c =
    let a = alone c.new-scopes.result c.new-notes.result c.expression.new.notes c.args.e.now c.in_ok-typed.typed c.new-scopes.ensures c.new-notes.ensures c.in_ok-typed.ensures in
    few_case c.args.e.now c.expression.new.notes c.in_ok-typed.typed c.len.result a c.len.ensures (omega (arith, c.if-len-gt4294967296.false)) c.requires

pub returns : goal.returns
returns c =
    let a = alone c.new-scopes.result c.new-notes.result c.expression.new.notes c.args.e.now c.in_ok-typed.typed c.new-scopes.ensures c.new-notes.ensures c.in_ok-typed.ensures in
    value_case c.args.e.now c.expression.new.notes c.in_ok-typed.typed c.len.result c.answer.result a (sym c.is_some.ensures ∙ c.if-is_some.false) c.len.ensures (omega (arith, c.if-len-gt4294967296.false)) c.answer.ensures
