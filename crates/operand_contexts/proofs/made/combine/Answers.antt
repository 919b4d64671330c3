use Rattle.std.proofs.Common.{◌≡◌, sym, ap, ◌∙◌}
use Rattle.std.proofs.lemmas.Result.{IfOk-weaker}
use Rattle.flat_tree.specs.Operators.{Form, binary_value, form_of}
use Rattle.operand_contexts.specs.declared.stand.Operands.{Operands}
use Rattle.operand_contexts.specs.Contexts.{form_as}
use Rattle.operand_contexts.proofs.Combining.{fit_same, fit_compared, in_context, in_compared, in_logical, in_shift}
use Rattle.operand_contexts.proofs.made.combine.Goals as goal

form_is : (f : Form) (x y : Operands) → form_as x ≡ f → x ≡ y → f ≡ form_as y
form_is f x y e is = sym e ∙ ap form_as is

pub in_context-requires-clause-form : goal.in_context-requires-clause-form
in_context-requires-clause-form c = form_is _ _ _ c.operand_form.ensures c.in-InContext.is

pub in_context-requires-clause-width : goal.in_context-requires-clause-width
in_context-requires-clause-width c = fit_same (form_of c.args.op) _ _ _ (form_is _ _ _ c.operand_form.ensures c.in-InContext.is) c.requires.widths

pub compared-requires-clause-form : goal.compared-requires-clause-form
compared-requires-clause-form c = form_is _ _ _ c.operand_form.ensures c.in-Comparing.is

pub compared-requires-clause-width : goal.compared-requires-clause-width
compared-requires-clause-width c = fit_compared (form_of c.args.op) c.args.at.length _ _ (form_is _ _ _ c.operand_form.ensures c.in-Comparing.is) c.requires.widths

pub both_or_one-requires-clause-form : goal.both_or_one-requires-clause-form
both_or_one-requires-clause-form c = form_is _ _ _ c.operand_form.ensures c.in-Logical.is

pub shifted-requires-clause-form : goal.shifted-requires-clause-form
shifted-requires-clause-form c = form_is _ _ _ c.operand_form.ensures c.in-Shifting.is

pub returns-in-InContext-clause-adds : goal.returns-in-InContext-clause-adds
returns-in-InContext-clause-adds c =
    IfOk-weaker c.in_context.result _ _ (λ t p. in_context c.args.terms.now c.in_context.new.terms (form_of c.args.op) (binary_value c.args.op) c.args.both c.args.at.signed c.args.at.length c.args.x.0 c.args.y.0 _ t.0 (form_is _ _ _ c.operand_form.ensures c.in-InContext.is) c.requires.widths p) c.in_context.ensures.adds

pub returns-in-Comparing-clause-adds : goal.returns-in-Comparing-clause-adds
returns-in-Comparing-clause-adds c =
    IfOk-weaker c.compared.result _ _ (λ t p. in_compared c.args.terms.now c.compared.new.terms (form_of c.args.op) (binary_value c.args.op) c.args.both c.args.at.signed c.args.at.length c.args.x.0 c.args.y.0 _ t.0 (form_is _ _ _ c.operand_form.ensures c.in-Comparing.is) p) c.compared.ensures.adds

pub returns-in-Logical-clause-adds : goal.returns-in-Logical-clause-adds
returns-in-Logical-clause-adds c =
    IfOk-weaker c.both_or_one.result _ _ (λ t p. in_logical c.args.terms.now c.both_or_one.new.terms (form_of c.args.op) (binary_value c.args.op) c.args.both c.args.at.signed c.args.at.length c.args.x.0 c.args.y.0 _ t.0 (form_is _ _ _ c.operand_form.ensures c.in-Logical.is) p) c.both_or_one.ensures.adds

pub returns-in-Shifting-clause-adds : goal.returns-in-Shifting-clause-adds
returns-in-Shifting-clause-adds c =
    IfOk-weaker c.shifted.result _ _ (λ t p. in_shift c.args.terms.now c.shifted.new.terms (form_of c.args.op) (binary_value c.args.op) c.args.both c.args.at.signed c.args.at.length c.args.x.0 c.args.y.0 _ t.0 (form_is _ _ _ c.operand_form.ensures c.in-Shifting.is) c.requires.widths p) c.shifted.ensures.adds
