use Rattle.std.proofs.Common.{◌≡◌, [], ◌∷◌, ◌++◌, Some, None, reverse, sym, ◌∙◌}
use Rattle.stack_parts.proofs.Takings.{four_found, four_lost}
use Rattle.c_stack.specs.Values.{with_block, with_function, with_parameters, with_storage}
use Rattle.c_tree.specs.declared.file.External.TheVariants as external
use Rattle.c_stack.specs.declared.values.Value.TheVariants as value
use Rattle.c_stack.specs.declared.values.FileValue.TheVariants as file_value
use Rattle.c_make_statements.proofs.file_actions.make_definition.Goals as goal

pub returns : goal.returns
returns c =
    let e = four_found c.take_block-body.result c.take_parameters-parameters.result c.take_function-function.result c.take_storage-class.result (with_block (reverse c.args.stack.now.items)) with_parameters with_function with_storage (reverse c.take_block-body.new.stack.items) (reverse c.take_parameters-parameters.new.stack.items) (reverse c.take_function-function.new.stack.items) (reverse c.take_storage-class.new.stack.items) c.take_block-body.ensures c.take_parameters-parameters.ensures c.take_function-function.ensures c.take_storage-class.ensures (λ body parameters function class rest. Some (value.File (file_value.External (external.Definition (record { storage = class; result = function.result; name = function.name; parameters = parameters }) body)) ∷ rest)) (c.in-Some.body, c.in-Some.parameters, c.in-Some.function, c.in-Some.class) (sym c.all_four.ensures ∙ c.in-Some.is) in
    let p = c.in_ok-put.ensures in
    cc

pub returns-in_default : goal.returns-in_default
returns-in_default c = four_lost c.take_block-body.result c.take_parameters-parameters.result c.take_function-function.result c.take_storage-class.result (with_block (reverse c.args.stack.now.items)) with_parameters with_function with_storage (reverse c.take_block-body.new.stack.items) (reverse c.take_parameters-parameters.new.stack.items) (reverse c.take_function-function.new.stack.items) (reverse c.take_storage-class.new.stack.items) c.take_block-body.ensures c.take_parameters-parameters.ensures c.take_function-function.ensures c.take_storage-class.ensures (λ body parameters function class rest. Some (value.File (file_value.External (external.Definition (record { storage = class; result = function.result; name = function.name; parameters = parameters }) body)) ∷ rest)) (sym c.all_four.ensures ∙ c.in_default.is)
