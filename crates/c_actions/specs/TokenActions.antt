-- Actions that make a value of the token right before them.
use Rattle.std.specs.Prelude.{ℕ, List, ◌∷◌, Option, Some}
use Rattle.std.specs.Str.Lossy.{utf8_lossy}
use Rattle.src_text.specs.declared.refusal.Place.{Place}
use Rattle.c_tree.specs.declared.declarations.IntegerType.{IntegerType}
use Rattle.c_tree.specs.declared.declarations.Sign.{Sign}
use Rattle.c_tree.specs.declared.declarations.Storage.TheVariants as storage
use Rattle.c_tree.specs.declared.expressions.AssignmentOperator.{AssignmentOperator}
use Rattle.c_tree.specs.declared.expressions.BinaryOperator.{BinaryOperator}
use Rattle.c_tree.specs.declared.expressions.Expression.TheVariants as expression
use Rattle.c_tree.specs.declared.expressions.StepOperator.{StepOperator}
use Rattle.c_tree.specs.declared.expressions.UnaryOperator.{UnaryOperator}
use Rattle.c_stack.specs.declared.values.Value.TheVariants as value
use Rattle.c_stack.specs.declared.values.TokenValue.TheVariants as token_value
use Rattle.c_stack.specs.declared.values.ExpressionValue.TheVariants as expression_value
use Rattle.c_stack.specs.declared.values.PartValue.TheVariants as part_value
use Rattle.c_stack.specs.Values.{Values}
use Rattle.c_actions.specs.Characters.{character_value}

-- the place of a token
abbrev pub after_place : Place → Values → Option Values
after_place place st = Some (value.Token (token_value.Place place) ∷ st)

-- ID that is used
abbrev pub after_name : Place → List ℕ → Values → Option Values
after_name place spelling st = Some (value.Token (token_value.Name (record { place = place; name = (utf8_lossy spelling) })) ∷ st)

-- ID that is declared
abbrev pub after_declared : Place → List ℕ → Values → Option Values
after_declared place spelling st = Some (value.Token (token_value.Declared (record { place = place; name = (utf8_lossy spelling) })) ∷ st)

-- INT
abbrev pub after_integer : Place → List ℕ → Values → Option Values
after_integer place spelling st = Some (value.Expression (expression_value.Expression (expression.Integer place (utf8_lossy spelling))) ∷ st)

-- CHAR
abbrev pub after_character : Place → List ℕ → Values → Option Values
after_character place spelling st = Some (value.Expression (expression_value.Expression (expression.Character place (character_value spelling))) ∷ st)

-- "true"
abbrev pub after_true : Place → Values → Option Values
after_true place st = Some (value.Expression (expression_value.Expression (expression.True place)) ∷ st)

-- "false"
abbrev pub after_false : Place → Values → Option Values
after_false place st = Some (value.Expression (expression_value.Expression (expression.False place)) ∷ st)

-- "static"
abbrev pub after_static : Place → Values → Option Values
after_static place st = Some (value.Part (part_value.Storage (storage.Static place)) ∷ st)

-- a type that is one word
abbrev pub after_word_type : IntegerType → Place → Values → Option Values
after_word_type integer_type place st = Some (value.Expression (expression_value.Type (record { place = place; integer = integer_type })) ∷ st)

-- Sign, or the first word of a type without one
abbrev pub after_sign : Sign → Place → Values → Option Values
after_sign word place st = Some (value.Token (token_value.Sign (record { place = place; sign = word })) ∷ st)

-- an operator before an operand
abbrev pub after_unary_mark : UnaryOperator → Place → Values → Option Values
after_unary_mark operator place st = Some (value.Token (token_value.UnaryMark (record { place = place; operator = operator })) ∷ st)

-- an operator between operands
abbrev pub after_binary_mark : BinaryOperator → Place → Values → Option Values
after_binary_mark operator place st = Some (value.Token (token_value.BinaryMark (record { place = place; operator = operator })) ∷ st)

-- an operator of a compound assignment
abbrev pub after_assignment_mark : AssignmentOperator → Place → Values → Option Values
after_assignment_mark operator place st = Some (value.Token (token_value.AssignmentMark (record { place = place; operator = operator })) ∷ st)

-- "++" or "--"
abbrev pub after_step_mark : StepOperator → Place → Values → Option Values
after_step_mark operator place st = Some (value.Token (token_value.StepMark (record { place = place; operator = operator })) ∷ st)
