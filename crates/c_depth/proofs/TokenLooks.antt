-- The values that actions make of a token look as their weaves say.
use Rattle.std.proofs.Common.{◌≡◌, ℕ, List, refl}
use Rattle.src_text.specs.declared.refusal.Place.{Place}
use Rattle.node_places.proofs.Looks.{of_token}
use Rattle.c_tree.specs.declared.expressions.AssignmentOperator.{AssignmentOperator}
use Rattle.c_tree.specs.declared.expressions.BinaryOperator.{BinaryOperator}
use Rattle.c_tree.specs.declared.declarations.IntegerType.{IntegerType}
use Rattle.c_tree.specs.declared.declarations.Sign.{Sign}
use Rattle.c_tree.specs.declared.expressions.StepOperator.{StepOperator}
use Rattle.c_tree.specs.declared.expressions.UnaryOperator.{UnaryOperator}
use Rattle.c_stack.specs.Values.{Values}
use Rattle.c_actions.specs.Sorts.{sorts_of}
use Rattle.c_actions.specs.TokenActions.{after_place, after_name, after_declared, after_integer, after_character, after_true, after_false, after_static, after_word_type, after_sign, after_unary_mark, after_binary_mark, after_assignment_mark, after_step_mark}
use Rattle.c_depth.proofs.Values.{Looks}

pub look_place : (nothing : Place) (place : Place) (st : Values) (rest : List ℕ) → sorts_of st ≡ rest → Looks nothing (of_token 0) place st (after_place place st)
look_place nothing place st rest e = refl

pub look_name : (nothing : Place) (place : Place) (spelling : List ℕ) (st : Values) (rest : List ℕ) → sorts_of st ≡ rest → Looks nothing (of_token 0) place st (after_name place spelling st)
look_name nothing place spelling st rest e = refl

pub look_declared : (nothing : Place) (place : Place) (spelling : List ℕ) (st : Values) (rest : List ℕ) → sorts_of st ≡ rest → Looks nothing (of_token 1) place st (after_declared place spelling st)
look_declared nothing place spelling st rest e = refl

pub look_integer : (nothing : Place) (place : Place) (spelling : List ℕ) (st : Values) (rest : List ℕ) → sorts_of st ≡ rest → Looks nothing (of_token 1) place st (after_integer place spelling st)
look_integer nothing place spelling st rest e = refl

pub look_character : (nothing : Place) (place : Place) (spelling : List ℕ) (st : Values) (rest : List ℕ) → sorts_of st ≡ rest → Looks nothing (of_token 1) place st (after_character place spelling st)
look_character nothing place spelling st rest e = refl

pub look_true : (nothing : Place) (place : Place) (st : Values) (rest : List ℕ) → sorts_of st ≡ rest → Looks nothing (of_token 1) place st (after_true place st)
look_true nothing place st rest e = refl

pub look_false : (nothing : Place) (place : Place) (st : Values) (rest : List ℕ) → sorts_of st ≡ rest → Looks nothing (of_token 1) place st (after_false place st)
look_false nothing place st rest e = refl

pub look_static : (nothing : Place) (place : Place) (st : Values) (rest : List ℕ) → sorts_of st ≡ rest → Looks nothing (of_token 0) place st (after_static place st)
look_static nothing place st rest e = refl

pub look_word_type : (nothing : Place) (integer_type : IntegerType) (place : Place) (st : Values) (rest : List ℕ) → sorts_of st ≡ rest → Looks nothing (of_token 0) place st (after_word_type integer_type place st)
look_word_type nothing integer_type place st rest e = refl

pub look_sign : (nothing : Place) (word : Sign) (place : Place) (st : Values) (rest : List ℕ) → sorts_of st ≡ rest → Looks nothing (of_token 0) place st (after_sign word place st)
look_sign nothing word place st rest e = refl

pub look_unary_mark : (nothing : Place) (operator : UnaryOperator) (place : Place) (st : Values) (rest : List ℕ) → sorts_of st ≡ rest → Looks nothing (of_token 0) place st (after_unary_mark operator place st)
look_unary_mark nothing operator place st rest e = refl

pub look_binary_mark : (nothing : Place) (operator : BinaryOperator) (place : Place) (st : Values) (rest : List ℕ) → sorts_of st ≡ rest → Looks nothing (of_token 0) place st (after_binary_mark operator place st)
look_binary_mark nothing operator place st rest e = refl

pub look_assignment_mark : (nothing : Place) (operator : AssignmentOperator) (place : Place) (st : Values) (rest : List ℕ) → sorts_of st ≡ rest → Looks nothing (of_token 0) place st (after_assignment_mark operator place st)
look_assignment_mark nothing operator place st rest e = refl

pub look_step_mark : (nothing : Place) (operator : StepOperator) (place : Place) (st : Values) (rest : List ℕ) → sorts_of st ≡ rest → Looks nothing (of_token 0) place st (after_step_mark operator place st)
look_step_mark nothing operator place st rest e = refl
