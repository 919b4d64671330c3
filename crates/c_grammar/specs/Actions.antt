-- What the actions of the C profile take and give, by their numbers, and what each nonterminal does to the stack.
use Rattle.std.specs.Prelude.{ℕ, List, [], ◌∷◌}
use Rattle.ll_actions.specs.Sorts.{Signature, Effect}

-- sort 0: Externals
-- sort 1: Tree
-- sort 2: External
-- sort 3: Place
-- sort 4: Declared
-- sort 5: Members
-- sort 6: Name
-- sort 7: Type
-- sort 8: Storage
-- sort 9: Function
-- sort 10: Parameters
-- sort 11: Block
-- sort 12: Declarators
-- sort 13: Member
-- sort 14: Items
-- sort 15: Names
-- sort 16: Item
-- sort 17: Expression
-- sort 18: Parameter
-- sort 19: NameOption
-- sort 20: Declarator
-- sort 21: Initializer
-- sort 22: Expressions
-- sort 23: Sign
-- sort 24: Parts
-- sort 25: Local
-- sort 26: Statement
-- sort 27: Simple
-- sort 28: ForFirst
-- sort 29: ExpressionOption
-- sort 30: SimpleOption
-- sort 31: Groups
-- sort 32: InitializerOption
-- sort 33: Group
-- sort 34: Label
-- sort 35: Labels
-- sort 36: Labelled
-- sort 37: Path
-- sort 38: AssignmentMark
-- sort 39: StepMark
-- sort 40: Object
-- sort 41: UnaryMark
-- sort 42: BinaryMark

-- the signature of each action
unfoldable pub SIGNATURES : List Signature
SIGNATURES =
    record { takes = 0 ∷ []; gives = 1 } ∷  -- 0, file: Externals -> Tree
    record { takes = []; gives = 0 } ∷  -- 1, no_externals: -> Externals
    record { takes = 2 ∷ []; gives = 0 } ∷  -- 2, one_external: External -> Externals
    record { takes = 2 ∷ 0 ∷ []; gives = 0 } ∷  -- 3, add_external: Externals External -> Externals
    record { takes = 5 ∷ 4 ∷ 3 ∷ []; gives = 2 } ∷  -- 4, struct: Place Declared Members -> External
    record { takes = 4 ∷ 6 ∷ 3 ∷ []; gives = 2 } ∷  -- 5, mirror: Place Name Declared -> External
    record { takes = 4 ∷ 7 ∷ 3 ∷ []; gives = 2 } ∷  -- 6, bound: Place Type Declared -> External
    record { takes = 10 ∷ 9 ∷ 8 ∷ []; gives = 2 } ∷  -- 7, function: Storage Function Parameters -> External
    record { takes = 11 ∷ 10 ∷ 9 ∷ 8 ∷ []; gives = 2 } ∷  -- 8, definition: Storage Function Parameters Block -> External
    record { takes = 12 ∷ 7 ∷ 8 ∷ []; gives = 2 } ∷  -- 9, globals: Storage Type Declarators -> External
    record { takes = 12 ∷ 7 ∷ 3 ∷ 8 ∷ []; gives = 2 } ∷  -- 10, const_globals: Storage Place Type Declarators -> External
    record { takes = []; gives = 8 } ∷  -- 11, no_storage: -> Storage
    record { takes = 3 ∷ []; gives = 8 } ∷  -- 12, extern: Place -> Storage
    record { takes = []; gives = 8 } ∷  -- 13, static: -> Storage
    record { takes = 4 ∷ 3 ∷ []; gives = 9 } ∷  -- 14, void_function: Place Declared -> Function
    record { takes = 4 ∷ 7 ∷ []; gives = 9 } ∷  -- 15, integer_function: Type Declared -> Function
    record { takes = 6 ∷ []; gives = 4 } ∷  -- 16, function_name: Name -> Declared
    record { takes = 13 ∷ []; gives = 5 } ∷  -- 17, one_member: Member -> Members
    record { takes = 13 ∷ 5 ∷ []; gives = 5 } ∷  -- 18, add_member: Members Member -> Members
    record { takes = 14 ∷ 7 ∷ []; gives = 13 } ∷  -- 19, integer_members: Type Items -> Member
    record { takes = 15 ∷ 6 ∷ 3 ∷ []; gives = 13 } ∷  -- 20, struct_members: Place Name Names -> Member
    record { takes = 16 ∷ []; gives = 14 } ∷  -- 21, one_item: Item -> Items
    record { takes = 16 ∷ 14 ∷ []; gives = 14 } ∷  -- 22, add_item: Items Item -> Items
    record { takes = 6 ∷ []; gives = 16 } ∷  -- 23, plain_item: Name -> Item
    record { takes = 17 ∷ 6 ∷ []; gives = 16 } ∷  -- 24, array_item: Name Expression -> Item
    record { takes = 4 ∷ []; gives = 15 } ∷  -- 25, one_name: Declared -> Names
    record { takes = 4 ∷ 15 ∷ []; gives = 15 } ∷  -- 26, add_name: Names Declared -> Names
    record { takes = []; gives = 10 } ∷  -- 27, no_parameters: -> Parameters
    record { takes = 18 ∷ []; gives = 10 } ∷  -- 28, one_parameter: Parameter -> Parameters
    record { takes = 18 ∷ 10 ∷ []; gives = 10 } ∷  -- 29, add_parameter: Parameters Parameter -> Parameters
    record { takes = 19 ∷ 7 ∷ []; gives = 18 } ∷  -- 30, parameter: Type NameOption -> Parameter
    record { takes = 19 ∷ 7 ∷ 3 ∷ []; gives = 18 } ∷  -- 31, const_parameter: Place Type NameOption -> Parameter
    record { takes = []; gives = 19 } ∷  -- 32, no_name: -> NameOption
    record { takes = 4 ∷ []; gives = 19 } ∷  -- 33, some_name: Declared -> NameOption
    record { takes = 20 ∷ []; gives = 12 } ∷  -- 34, one_declarator: Declarator -> Declarators
    record { takes = 20 ∷ 12 ∷ []; gives = 12 } ∷  -- 35, add_declarator: Declarators Declarator -> Declarators
    record { takes = 6 ∷ []; gives = 20 } ∷  -- 36, plain_declarator: Name -> Declarator
    record { takes = 21 ∷ 6 ∷ []; gives = 20 } ∷  -- 37, initialized: Name Initializer -> Declarator
    record { takes = 17 ∷ 6 ∷ []; gives = 20 } ∷  -- 38, array_declarator: Name Expression -> Declarator
    record { takes = 22 ∷ 17 ∷ 6 ∷ []; gives = 20 } ∷  -- 39, initialized_array: Name Expression Expressions -> Declarator
    record { takes = 17 ∷ []; gives = 21 } ∷  -- 40, value: Expression -> Initializer
    record { takes = 22 ∷ 6 ∷ []; gives = 21 } ∷  -- 41, call_value: Name Expressions -> Initializer
    record { takes = []; gives = 7 } ∷  -- 42, bool_type: -> Type
    record { takes = 23 ∷ []; gives = 7 } ∷  -- 43, char_type: Sign -> Type
    record { takes = 23 ∷ []; gives = 7 } ∷  -- 44, short_type: Sign -> Type
    record { takes = 23 ∷ []; gives = 7 } ∷  -- 45, int_type: Sign -> Type
    record { takes = 23 ∷ []; gives = 7 } ∷  -- 46, long_type: Sign -> Type
    record { takes = []; gives = 7 } ∷  -- 47, int8: -> Type
    record { takes = []; gives = 7 } ∷  -- 48, int16: -> Type
    record { takes = []; gives = 7 } ∷  -- 49, int32: -> Type
    record { takes = []; gives = 7 } ∷  -- 50, int64: -> Type
    record { takes = []; gives = 7 } ∷  -- 51, uint8: -> Type
    record { takes = []; gives = 7 } ∷  -- 52, uint16: -> Type
    record { takes = []; gives = 7 } ∷  -- 53, uint32: -> Type
    record { takes = []; gives = 7 } ∷  -- 54, uint64: -> Type
    record { takes = []; gives = 23 } ∷  -- 55, signed: -> Sign
    record { takes = []; gives = 23 } ∷  -- 56, unsigned: -> Sign
    record { takes = []; gives = 23 } ∷  -- 57, no_sign: -> Sign
    record { takes = 24 ∷ 3 ∷ []; gives = 11 } ∷  -- 58, block: Place Parts -> Block
    record { takes = []; gives = 24 } ∷  -- 59, no_items: -> Parts
    record { takes = 25 ∷ 24 ∷ []; gives = 24 } ∷  -- 60, add_local: Parts Local -> Parts
    record { takes = 26 ∷ 24 ∷ []; gives = 24 } ∷  -- 61, add_statement: Parts Statement -> Parts
    record { takes = 12 ∷ 7 ∷ []; gives = 25 } ∷  -- 62, local: Type Declarators -> Local
    record { takes = 12 ∷ 7 ∷ 3 ∷ []; gives = 25 } ∷  -- 63, const_local: Place Type Declarators -> Local
    record { takes = 11 ∷ []; gives = 26 } ∷  -- 64, compound: Block -> Statement
    record { takes = 3 ∷ []; gives = 26 } ∷  -- 65, empty: Place -> Statement
    record { takes = 27 ∷ []; gives = 26 } ∷  -- 66, simple: Simple -> Statement
    record { takes = 26 ∷ 17 ∷ 3 ∷ []; gives = 26 } ∷  -- 67, if_alone: Place Expression Statement -> Statement
    record { takes = 26 ∷ 26 ∷ 17 ∷ 3 ∷ []; gives = 26 } ∷  -- 68, if_else: Place Expression Statement Statement -> Statement
    record { takes = 26 ∷ 17 ∷ 3 ∷ []; gives = 26 } ∷  -- 69, while: Place Expression Statement -> Statement
    record { takes = 17 ∷ 26 ∷ 3 ∷ []; gives = 26 } ∷  -- 70, do: Place Statement Expression -> Statement
    record { takes = 26 ∷ 30 ∷ 29 ∷ 28 ∷ 3 ∷ []; gives = 26 } ∷  -- 71, for: Place ForFirst ExpressionOption SimpleOption Statement -> Statement
    record { takes = 31 ∷ 17 ∷ 3 ∷ []; gives = 26 } ∷  -- 72, switch: Place Expression Groups -> Statement
    record { takes = 3 ∷ []; gives = 26 } ∷  -- 73, break: Place -> Statement
    record { takes = 3 ∷ []; gives = 26 } ∷  -- 74, continue: Place -> Statement
    record { takes = 32 ∷ 3 ∷ []; gives = 26 } ∷  -- 75, return: Place InitializerOption -> Statement
    record { takes = 17 ∷ 3 ∷ []; gives = 26 } ∷  -- 76, assert: Place Expression -> Statement
    record { takes = 17 ∷ 3 ∷ []; gives = 26 } ∷  -- 77, cprover_assert: Place Expression -> Statement
    record { takes = 17 ∷ 3 ∷ []; gives = 26 } ∷  -- 78, cprover_assume: Place Expression -> Statement
    record { takes = []; gives = 28 } ∷  -- 79, for_nothing: -> ForFirst
    record { takes = 25 ∷ []; gives = 28 } ∷  -- 80, for_local: Local -> ForFirst
    record { takes = 27 ∷ []; gives = 28 } ∷  -- 81, for_simple: Simple -> ForFirst
    record { takes = []; gives = 30 } ∷  -- 82, no_simple: -> SimpleOption
    record { takes = 27 ∷ []; gives = 30 } ∷  -- 83, some_simple: Simple -> SimpleOption
    record { takes = []; gives = 29 } ∷  -- 84, no_expression: -> ExpressionOption
    record { takes = 17 ∷ []; gives = 29 } ∷  -- 85, some_expression: Expression -> ExpressionOption
    record { takes = []; gives = 32 } ∷  -- 86, no_initializer: -> InitializerOption
    record { takes = 21 ∷ []; gives = 32 } ∷  -- 87, some_initializer: Initializer -> InitializerOption
    record { takes = []; gives = 31 } ∷  -- 88, no_groups: -> Groups
    record { takes = 33 ∷ 31 ∷ []; gives = 31 } ∷  -- 89, add_group: Groups Group -> Groups
    record { takes = 34 ∷ []; gives = 35 } ∷  -- 90, first_label: Label -> Labels
    record { takes = 34 ∷ 35 ∷ []; gives = 35 } ∷  -- 91, add_label: Labels Label -> Labels
    record { takes = 35 ∷ []; gives = 36 } ∷  -- 92, labelled: Labels -> Labelled
    record { takes = 26 ∷ 36 ∷ []; gives = 36 } ∷  -- 93, add_to_group: Labelled Statement -> Labelled
    record { takes = 36 ∷ []; gives = 33 } ∷  -- 94, group: Labelled -> Group
    record { takes = 17 ∷ 3 ∷ []; gives = 34 } ∷  -- 95, case: Place Expression -> Label
    record { takes = 3 ∷ []; gives = 34 } ∷  -- 96, default: Place -> Label
    record { takes = 22 ∷ 6 ∷ []; gives = 27 } ∷  -- 97, call: Name Expressions -> Simple
    record { takes = 21 ∷ 37 ∷ []; gives = 27 } ∷  -- 98, assign: Path Initializer -> Simple
    record { takes = 17 ∷ 38 ∷ 37 ∷ []; gives = 27 } ∷  -- 99, update: Path AssignmentMark Expression -> Simple
    record { takes = 39 ∷ 37 ∷ []; gives = 27 } ∷  -- 100, step_after: Path StepMark -> Simple
    record { takes = 37 ∷ 39 ∷ []; gives = 27 } ∷  -- 101, step_before: StepMark Path -> Simple
    record { takes = 6 ∷ []; gives = 40 } ∷  -- 102, object: Name -> Object
    record { takes = 6 ∷ 40 ∷ []; gives = 40 } ∷  -- 103, add_path_member: Object Name -> Object
    record { takes = 40 ∷ []; gives = 37 } ∷  -- 104, path: Object -> Path
    record { takes = 17 ∷ 3 ∷ 40 ∷ []; gives = 37 } ∷  -- 105, element: Object Place Expression -> Path
    record { takes = []; gives = 22 } ∷  -- 106, no_expressions: -> Expressions
    record { takes = 17 ∷ []; gives = 22 } ∷  -- 107, one_expression: Expression -> Expressions
    record { takes = 17 ∷ 22 ∷ []; gives = 22 } ∷  -- 108, add_expression: Expressions Expression -> Expressions
    record { takes = 37 ∷ []; gives = 17 } ∷  -- 109, read: Path -> Expression
    record { takes = []; gives = 17 } ∷  -- 110, integer: -> Expression
    record { takes = []; gives = 17 } ∷  -- 111, character: -> Expression
    record { takes = []; gives = 17 } ∷  -- 112, true: -> Expression
    record { takes = []; gives = 17 } ∷  -- 113, false: -> Expression
    record { takes = 17 ∷ 3 ∷ []; gives = 17 } ∷  -- 114, parentheses: Place Expression -> Expression
    record { takes = 17 ∷ 41 ∷ []; gives = 17 } ∷  -- 115, unary: UnaryMark Expression -> Expression
    record { takes = 17 ∷ 7 ∷ 3 ∷ []; gives = 17 } ∷  -- 116, cast: Place Type Expression -> Expression
    record { takes = 17 ∷ 42 ∷ 17 ∷ []; gives = 17 } ∷  -- 117, binary: Expression BinaryMark Expression -> Expression
    record { takes = 17 ∷ 17 ∷ 3 ∷ 17 ∷ []; gives = 17 } ∷  -- 118, conditional: Expression Place Expression Expression -> Expression
    record { takes = []; gives = 3 } ∷  -- 119, place: -> Place
    record { takes = []; gives = 6 } ∷  -- 120, name: -> Name
    record { takes = []; gives = 4 } ∷  -- 121, declared: -> Declared
    record { takes = []; gives = 41 } ∷  -- 122, plus: -> UnaryMark
    record { takes = []; gives = 41 } ∷  -- 123, minus: -> UnaryMark
    record { takes = []; gives = 41 } ∷  -- 124, not: -> UnaryMark
    record { takes = []; gives = 41 } ∷  -- 125, complement: -> UnaryMark
    record { takes = []; gives = 42 } ∷  -- 126, multiply: -> BinaryMark
    record { takes = []; gives = 42 } ∷  -- 127, divide: -> BinaryMark
    record { takes = []; gives = 42 } ∷  -- 128, remainder: -> BinaryMark
    record { takes = []; gives = 42 } ∷  -- 129, add: -> BinaryMark
    record { takes = []; gives = 42 } ∷  -- 130, subtract: -> BinaryMark
    record { takes = []; gives = 42 } ∷  -- 131, shift_left: -> BinaryMark
    record { takes = []; gives = 42 } ∷  -- 132, shift_right: -> BinaryMark
    record { takes = []; gives = 42 } ∷  -- 133, less: -> BinaryMark
    record { takes = []; gives = 42 } ∷  -- 134, less_equal: -> BinaryMark
    record { takes = []; gives = 42 } ∷  -- 135, greater: -> BinaryMark
    record { takes = []; gives = 42 } ∷  -- 136, greater_equal: -> BinaryMark
    record { takes = []; gives = 42 } ∷  -- 137, equal: -> BinaryMark
    record { takes = []; gives = 42 } ∷  -- 138, not_equal: -> BinaryMark
    record { takes = []; gives = 42 } ∷  -- 139, and: -> BinaryMark
    record { takes = []; gives = 42 } ∷  -- 140, xor: -> BinaryMark
    record { takes = []; gives = 42 } ∷  -- 141, or: -> BinaryMark
    record { takes = []; gives = 42 } ∷  -- 142, logical_and: -> BinaryMark
    record { takes = []; gives = 42 } ∷  -- 143, logical_or: -> BinaryMark
    record { takes = []; gives = 38 } ∷  -- 144, add_to: -> AssignmentMark
    record { takes = []; gives = 38 } ∷  -- 145, subtract_from: -> AssignmentMark
    record { takes = []; gives = 38 } ∷  -- 146, multiply_by: -> AssignmentMark
    record { takes = []; gives = 38 } ∷  -- 147, divide_by: -> AssignmentMark
    record { takes = []; gives = 38 } ∷  -- 148, remainder_by: -> AssignmentMark
    record { takes = []; gives = 38 } ∷  -- 149, and_with: -> AssignmentMark
    record { takes = []; gives = 38 } ∷  -- 150, or_with: -> AssignmentMark
    record { takes = []; gives = 38 } ∷  -- 151, xor_with: -> AssignmentMark
    record { takes = []; gives = 38 } ∷  -- 152, shift_left_by: -> AssignmentMark
    record { takes = []; gives = 38 } ∷  -- 153, shift_right_by: -> AssignmentMark
    record { takes = []; gives = 39 } ∷  -- 154, increment: -> StepMark
    record { takes = []; gives = 39 } ∷  -- 155, decrement: -> StepMark
    []

-- the effect of each nonterminal
unfoldable pub EFFECTS : List Effect
EFFECTS =
    record { takes = []; gives = 1 ∷ [] } ∷  -- 256, File: -> Tree
    record { takes = []; gives = 0 ∷ [] } ∷  -- 257, Externals: -> Externals
    record { takes = 0 ∷ []; gives = 0 ∷ [] } ∷  -- 258, MoreExternals: Externals -> Externals
    record { takes = []; gives = 2 ∷ [] } ∷  -- 259, External: -> External
    record { takes = 3 ∷ []; gives = 2 ∷ [] } ∷  -- 260, ExternRest: Place -> External
    record { takes = 8 ∷ []; gives = 2 ∷ [] } ∷  -- 261, StaticRest: Storage -> External
    record { takes = 6 ∷ 7 ∷ 8 ∷ []; gives = 2 ∷ [] } ∷  -- 262, AfterName: Storage Type Name -> External
    record { takes = 9 ∷ 8 ∷ []; gives = 2 ∷ [] } ∷  -- 263, FunctionRest: Storage Function -> External
    record { takes = 10 ∷ 9 ∷ 8 ∷ []; gives = 2 ∷ [] } ∷  -- 264, FunctionEnd: Storage Function Parameters -> External
    record { takes = 5 ∷ []; gives = 5 ∷ [] } ∷  -- 265, MoreMembers: Members -> Members
    record { takes = []; gives = 13 ∷ [] } ∷  -- 266, Member: -> Member
    record { takes = []; gives = 16 ∷ [] } ∷  -- 267, Item: -> Item
    record { takes = 6 ∷ []; gives = 16 ∷ [] } ∷  -- 268, ItemRest: Name -> Item
    record { takes = 14 ∷ []; gives = 14 ∷ [] } ∷  -- 269, MoreItems: Items -> Items
    record { takes = 15 ∷ []; gives = 15 ∷ [] } ∷  -- 270, MoreNames: Names -> Names
    record { takes = []; gives = 10 ∷ [] } ∷  -- 271, Params: -> Parameters
    record { takes = 10 ∷ []; gives = 10 ∷ [] } ∷  -- 272, MoreParams: Parameters -> Parameters
    record { takes = []; gives = 18 ∷ [] } ∷  -- 273, Param: -> Parameter
    record { takes = []; gives = 19 ∷ [] } ∷  -- 274, ParamName: -> NameOption
    record { takes = 12 ∷ []; gives = 12 ∷ [] } ∷  -- 275, MoreDecls: Declarators -> Declarators
    record { takes = []; gives = 20 ∷ [] } ∷  -- 276, Decl: -> Declarator
    record { takes = 6 ∷ []; gives = 20 ∷ [] } ∷  -- 277, DeclRest: Name -> Declarator
    record { takes = 17 ∷ 6 ∷ []; gives = 20 ∷ [] } ∷  -- 278, ArrayInit: Name Expression -> Declarator
    record { takes = 22 ∷ []; gives = 22 ∷ [] } ∷  -- 279, MoreElements: Expressions -> Expressions
    record { takes = 22 ∷ []; gives = 22 ∷ [] } ∷  -- 280, NextElement: Expressions -> Expressions
    record { takes = []; gives = 21 ∷ [] } ∷  -- 281, Init: -> Initializer
    record { takes = 6 ∷ []; gives = 21 ∷ [] } ∷  -- 282, InitRest: Name -> Initializer
    record { takes = []; gives = 7 ∷ [] } ∷  -- 283, Type: -> Type
    record { takes = []; gives = 23 ∷ [] } ∷  -- 284, Sign: -> Sign
    record { takes = 23 ∷ []; gives = 7 ∷ [] } ∷  -- 285, AfterSign: Sign -> Type
    record { takes = []; gives = [] } ∷  -- 286, LongOpt: ->
    record { takes = []; gives = [] } ∷  -- 287, IntOpt: ->
    record { takes = []; gives = 11 ∷ [] } ∷  -- 288, Block: -> Block
    record { takes = 24 ∷ []; gives = 24 ∷ [] } ∷  -- 289, Parts: Parts -> Parts
    record { takes = []; gives = 25 ∷ [] } ∷  -- 290, Local: -> Local
    record { takes = []; gives = 26 ∷ [] } ∷  -- 291, Stmt: -> Statement
    record { takes = 26 ∷ 17 ∷ 3 ∷ []; gives = 26 ∷ [] } ∷  -- 292, ElseOpt: Place Expression Statement -> Statement
    record { takes = []; gives = 28 ∷ [] } ∷  -- 293, ForFirst: -> ForFirst
    record { takes = []; gives = 28 ∷ [] } ∷  -- 294, ForSimple: -> ForFirst
    record { takes = []; gives = 30 ∷ [] } ∷  -- 295, SimpleOpt: -> SimpleOption
    record { takes = []; gives = 29 ∷ [] } ∷  -- 296, ExprOpt: -> ExpressionOption
    record { takes = []; gives = 32 ∷ [] } ∷  -- 297, InitOpt: -> InitializerOption
    record { takes = 31 ∷ []; gives = 31 ∷ [] } ∷  -- 298, Groups: Groups -> Groups
    record { takes = 35 ∷ 31 ∷ []; gives = 31 ∷ [] } ∷  -- 299, AfterLabel: Groups Labels -> Groups
    record { takes = 36 ∷ 31 ∷ []; gives = 31 ∷ [] } ∷  -- 300, AfterStmt: Groups Labelled -> Groups
    record { takes = []; gives = 34 ∷ [] } ∷  -- 301, Label: -> Label
    record { takes = []; gives = 27 ∷ [] } ∷  -- 302, Simple: -> Simple
    record { takes = []; gives = 39 ∷ [] } ∷  -- 303, Step: -> StepMark
    record { takes = 6 ∷ []; gives = 27 ∷ [] } ∷  -- 304, SimpleRest: Name -> Simple
    record { takes = 37 ∷ []; gives = 27 ∷ [] } ∷  -- 305, Assign: Path -> Simple
    record { takes = []; gives = 38 ∷ [] } ∷  -- 306, AssignOp: -> AssignmentMark
    record { takes = []; gives = 22 ∷ [] } ∷  -- 307, Args: -> Expressions
    record { takes = 22 ∷ []; gives = 22 ∷ [] } ∷  -- 308, MoreArgs: Expressions -> Expressions
    record { takes = []; gives = 37 ∷ [] } ∷  -- 309, Path: -> Path
    record { takes = 40 ∷ []; gives = 37 ∷ [] } ∷  -- 310, PathRest: Object -> Path
    record { takes = []; gives = 17 ∷ [] } ∷  -- 311, Expr: -> Expression
    record { takes = []; gives = 17 ∷ [] } ∷  -- 312, U10: -> Expression
    record { takes = []; gives = 17 ∷ [] } ∷  -- 313, U9: -> Expression
    record { takes = []; gives = 17 ∷ [] } ∷  -- 314, U8: -> Expression
    record { takes = []; gives = 17 ∷ [] } ∷  -- 315, U7: -> Expression
    record { takes = []; gives = 17 ∷ [] } ∷  -- 316, U6: -> Expression
    record { takes = []; gives = 17 ∷ [] } ∷  -- 317, U5: -> Expression
    record { takes = []; gives = 17 ∷ [] } ∷  -- 318, U4: -> Expression
    record { takes = []; gives = 17 ∷ [] } ∷  -- 319, U3: -> Expression
    record { takes = []; gives = 17 ∷ [] } ∷  -- 320, U2: -> Expression
    record { takes = []; gives = 17 ∷ [] } ∷  -- 321, U1: -> Expression
    record { takes = 17 ∷ []; gives = 17 ∷ [] } ∷  -- 322, T0: Expression -> Expression
    record { takes = 17 ∷ []; gives = 17 ∷ [] } ∷  -- 323, T1: Expression -> Expression
    record { takes = 17 ∷ []; gives = 17 ∷ [] } ∷  -- 324, T2: Expression -> Expression
    record { takes = 17 ∷ []; gives = 17 ∷ [] } ∷  -- 325, T3: Expression -> Expression
    record { takes = 17 ∷ []; gives = 17 ∷ [] } ∷  -- 326, T4: Expression -> Expression
    record { takes = 17 ∷ []; gives = 17 ∷ [] } ∷  -- 327, T5: Expression -> Expression
    record { takes = 17 ∷ []; gives = 17 ∷ [] } ∷  -- 328, T6: Expression -> Expression
    record { takes = 17 ∷ []; gives = 17 ∷ [] } ∷  -- 329, T7: Expression -> Expression
    record { takes = 17 ∷ []; gives = 17 ∷ [] } ∷  -- 330, T8: Expression -> Expression
    record { takes = 17 ∷ []; gives = 17 ∷ [] } ∷  -- 331, T9: Expression -> Expression
    record { takes = 17 ∷ []; gives = 17 ∷ [] } ∷  -- 332, T10: Expression -> Expression
    record { takes = []; gives = 42 ∷ [] } ∷  -- 333, EqualOp: -> BinaryMark
    record { takes = []; gives = 42 ∷ [] } ∷  -- 334, OrderOp: -> BinaryMark
    record { takes = []; gives = 42 ∷ [] } ∷  -- 335, ShiftOp: -> BinaryMark
    record { takes = []; gives = 42 ∷ [] } ∷  -- 336, SumOp: -> BinaryMark
    record { takes = []; gives = 42 ∷ [] } ∷  -- 337, ProductOp: -> BinaryMark
    record { takes = []; gives = 17 ∷ [] } ∷  -- 338, Unary: -> Expression
    record { takes = []; gives = 17 ∷ [] } ∷  -- 339, UnaryNoId: -> Expression
    record { takes = []; gives = 41 ∷ [] } ∷  -- 340, UnaryOp: -> UnaryMark
    record { takes = 3 ∷ []; gives = 17 ∷ [] } ∷  -- 341, Paren: Place -> Expression
    record { takes = 0 ∷ []; gives = 1 ∷ [] } ∷  -- 342, {file}: Externals -> Tree
    record { takes = 2 ∷ []; gives = 0 ∷ [] } ∷  -- 343, {one_external}: External -> Externals
    record { takes = 2 ∷ 0 ∷ []; gives = 0 ∷ [] } ∷  -- 344, {add_external}: Externals External -> Externals
    record { takes = []; gives = 3 ∷ [] } ∷  -- 345, <place>: -> Place
    record { takes = []; gives = 4 ∷ [] } ∷  -- 346, <declared>: -> Declared
    record { takes = 13 ∷ []; gives = 5 ∷ [] } ∷  -- 347, {one_member}: Member -> Members
    record { takes = 5 ∷ 4 ∷ 3 ∷ []; gives = 2 ∷ [] } ∷  -- 348, {struct}: Place Declared Members -> External
    record { takes = []; gives = 8 ∷ [] } ∷  -- 349, <static>: -> Storage
    record { takes = []; gives = 8 ∷ [] } ∷  -- 350, {no_storage:1}: -> Storage
    record { takes = []; gives = 6 ∷ [] } ∷  -- 351, <name>: -> Name
    record { takes = 20 ∷ []; gives = 12 ∷ [] } ∷  -- 352, {one_declarator:1}: Declarator -> Declarators
    record { takes = 12 ∷ 7 ∷ 3 ∷ 8 ∷ []; gives = 2 ∷ [] } ∷  -- 353, {const_globals:1}: Storage Place Type Declarators -> External
    record { takes = []; gives = 8 ∷ [] } ∷  -- 354, {no_storage:2}: -> Storage
    record { takes = []; gives = 8 ∷ [] } ∷  -- 355, {no_storage:3}: -> Storage
    record { takes = 4 ∷ 3 ∷ []; gives = 9 ∷ [] } ∷  -- 356, {void_function:1}: Place Declared -> Function
    record { takes = 4 ∷ 6 ∷ 3 ∷ []; gives = 2 ∷ [] } ∷  -- 357, {mirror}: Place Name Declared -> External
    record { takes = 4 ∷ 7 ∷ 3 ∷ []; gives = 2 ∷ [] } ∷  -- 358, {bound}: Place Type Declared -> External
    record { takes = 3 ∷ []; gives = 8 ∷ [] } ∷  -- 359, {extern:1}: Place -> Storage
    record { takes = 4 ∷ 7 ∷ []; gives = 9 ∷ [] } ∷  -- 360, {integer_function:1}: Type Declared -> Function
    record { takes = 3 ∷ []; gives = 8 ∷ [] } ∷  -- 361, {extern:2}: Place -> Storage
    record { takes = 4 ∷ 3 ∷ []; gives = 9 ∷ [] } ∷  -- 362, {void_function:2}: Place Declared -> Function
    record { takes = 20 ∷ []; gives = 12 ∷ [] } ∷  -- 363, {one_declarator:2}: Declarator -> Declarators
    record { takes = 12 ∷ 7 ∷ 3 ∷ 8 ∷ []; gives = 2 ∷ [] } ∷  -- 364, {const_globals:2}: Storage Place Type Declarators -> External
    record { takes = 4 ∷ 3 ∷ []; gives = 9 ∷ [] } ∷  -- 365, {void_function:3}: Place Declared -> Function
    record { takes = 6 ∷ []; gives = 4 ∷ [] } ∷  -- 366, {function_name}: Name -> Declared
    record { takes = 4 ∷ 7 ∷ []; gives = 9 ∷ [] } ∷  -- 367, {integer_function:2}: Type Declared -> Function
    record { takes = 20 ∷ []; gives = 12 ∷ [] } ∷  -- 368, {one_declarator:3}: Declarator -> Declarators
    record { takes = 12 ∷ 7 ∷ 8 ∷ []; gives = 2 ∷ [] } ∷  -- 369, {globals}: Storage Type Declarators -> External
    record { takes = 10 ∷ 9 ∷ 8 ∷ []; gives = 2 ∷ [] } ∷  -- 370, {function}: Storage Function Parameters -> External
    record { takes = 11 ∷ 10 ∷ 9 ∷ 8 ∷ []; gives = 2 ∷ [] } ∷  -- 371, {definition}: Storage Function Parameters Block -> External
    record { takes = 13 ∷ 5 ∷ []; gives = 5 ∷ [] } ∷  -- 372, {add_member}: Members Member -> Members
    record { takes = 16 ∷ []; gives = 14 ∷ [] } ∷  -- 373, {one_item}: Item -> Items
    record { takes = 14 ∷ 7 ∷ []; gives = 13 ∷ [] } ∷  -- 374, {integer_members}: Type Items -> Member
    record { takes = 4 ∷ []; gives = 15 ∷ [] } ∷  -- 375, {one_name}: Declared -> Names
    record { takes = 15 ∷ 6 ∷ 3 ∷ []; gives = 13 ∷ [] } ∷  -- 376, {struct_members}: Place Name Names -> Member
    record { takes = 17 ∷ 6 ∷ []; gives = 16 ∷ [] } ∷  -- 377, {array_item}: Name Expression -> Item
    record { takes = 16 ∷ 14 ∷ []; gives = 14 ∷ [] } ∷  -- 378, {add_item}: Items Item -> Items
    record { takes = 4 ∷ 15 ∷ []; gives = 15 ∷ [] } ∷  -- 379, {add_name}: Names Declared -> Names
    record { takes = []; gives = 10 ∷ [] } ∷  -- 380, {no_parameters}: -> Parameters
    record { takes = 18 ∷ []; gives = 10 ∷ [] } ∷  -- 381, {one_parameter}: Parameter -> Parameters
    record { takes = 18 ∷ 10 ∷ []; gives = 10 ∷ [] } ∷  -- 382, {add_parameter}: Parameters Parameter -> Parameters
    record { takes = 19 ∷ 7 ∷ 3 ∷ []; gives = 18 ∷ [] } ∷  -- 383, {const_parameter}: Place Type NameOption -> Parameter
    record { takes = 19 ∷ 7 ∷ []; gives = 18 ∷ [] } ∷  -- 384, {parameter}: Type NameOption -> Parameter
    record { takes = 4 ∷ []; gives = 19 ∷ [] } ∷  -- 385, {some_name}: Declared -> NameOption
    record { takes = 20 ∷ 12 ∷ []; gives = 12 ∷ [] } ∷  -- 386, {add_declarator}: Declarators Declarator -> Declarators
    record { takes = 21 ∷ 6 ∷ []; gives = 20 ∷ [] } ∷  -- 387, {initialized}: Name Initializer -> Declarator
    record { takes = 17 ∷ []; gives = 22 ∷ [] } ∷  -- 388, {one_expression:1}: Expression -> Expressions
    record { takes = 22 ∷ 17 ∷ 6 ∷ []; gives = 20 ∷ [] } ∷  -- 389, {initialized_array}: Name Expression Expressions -> Declarator
    record { takes = 17 ∷ 22 ∷ []; gives = 22 ∷ [] } ∷  -- 390, {add_expression:1}: Expressions Expression -> Expressions
    record { takes = 17 ∷ []; gives = 21 ∷ [] } ∷  -- 391, {value:1}: Expression -> Initializer
    record { takes = 22 ∷ 6 ∷ []; gives = 21 ∷ [] } ∷  -- 392, {call_value}: Name Expressions -> Initializer
    record { takes = 6 ∷ []; gives = 40 ∷ [] } ∷  -- 393, {object:1}: Name -> Object
    record { takes = 37 ∷ []; gives = 17 ∷ [] } ∷  -- 394, {read:1}: Path -> Expression
    record { takes = 17 ∷ []; gives = 21 ∷ [] } ∷  -- 395, {value:2}: Expression -> Initializer
    record { takes = []; gives = 7 ∷ [] } ∷  -- 396, <bool_type>: -> Type
    record { takes = []; gives = 23 ∷ [] } ∷  -- 397, <no_sign>: -> Sign
    record { takes = 23 ∷ []; gives = 7 ∷ [] } ∷  -- 398, {char_type:1}: Sign -> Type
    record { takes = 23 ∷ []; gives = 7 ∷ [] } ∷  -- 399, {short_type:1}: Sign -> Type
    record { takes = 23 ∷ []; gives = 7 ∷ [] } ∷  -- 400, {int_type:1}: Sign -> Type
    record { takes = 23 ∷ []; gives = 7 ∷ [] } ∷  -- 401, {long_type:1}: Sign -> Type
    record { takes = []; gives = 7 ∷ [] } ∷  -- 402, <int8>: -> Type
    record { takes = []; gives = 7 ∷ [] } ∷  -- 403, <int16>: -> Type
    record { takes = []; gives = 7 ∷ [] } ∷  -- 404, <int32>: -> Type
    record { takes = []; gives = 7 ∷ [] } ∷  -- 405, <int64>: -> Type
    record { takes = []; gives = 7 ∷ [] } ∷  -- 406, <uint8>: -> Type
    record { takes = []; gives = 7 ∷ [] } ∷  -- 407, <uint16>: -> Type
    record { takes = []; gives = 7 ∷ [] } ∷  -- 408, <uint32>: -> Type
    record { takes = []; gives = 7 ∷ [] } ∷  -- 409, <uint64>: -> Type
    record { takes = []; gives = 23 ∷ [] } ∷  -- 410, <signed>: -> Sign
    record { takes = []; gives = 23 ∷ [] } ∷  -- 411, <unsigned>: -> Sign
    record { takes = 23 ∷ []; gives = 7 ∷ [] } ∷  -- 412, {char_type:2}: Sign -> Type
    record { takes = 23 ∷ []; gives = 7 ∷ [] } ∷  -- 413, {short_type:2}: Sign -> Type
    record { takes = 23 ∷ []; gives = 7 ∷ [] } ∷  -- 414, {int_type:2}: Sign -> Type
    record { takes = 23 ∷ []; gives = 7 ∷ [] } ∷  -- 415, {long_type:2}: Sign -> Type
    record { takes = []; gives = 24 ∷ [] } ∷  -- 416, {no_items}: -> Parts
    record { takes = 24 ∷ 3 ∷ []; gives = 11 ∷ [] } ∷  -- 417, {block}: Place Parts -> Block
    record { takes = 25 ∷ 24 ∷ []; gives = 24 ∷ [] } ∷  -- 418, {add_local}: Parts Local -> Parts
    record { takes = 26 ∷ 24 ∷ []; gives = 24 ∷ [] } ∷  -- 419, {add_statement}: Parts Statement -> Parts
    record { takes = 20 ∷ []; gives = 12 ∷ [] } ∷  -- 420, {one_declarator:4}: Declarator -> Declarators
    record { takes = 12 ∷ 7 ∷ 3 ∷ []; gives = 25 ∷ [] } ∷  -- 421, {const_local}: Place Type Declarators -> Local
    record { takes = 20 ∷ []; gives = 12 ∷ [] } ∷  -- 422, {one_declarator:5}: Declarator -> Declarators
    record { takes = 12 ∷ 7 ∷ []; gives = 25 ∷ [] } ∷  -- 423, {local}: Type Declarators -> Local
    record { takes = 11 ∷ []; gives = 26 ∷ [] } ∷  -- 424, {compound}: Block -> Statement
    record { takes = 3 ∷ []; gives = 26 ∷ [] } ∷  -- 425, {empty}: Place -> Statement
    record { takes = 27 ∷ []; gives = 26 ∷ [] } ∷  -- 426, {simple}: Simple -> Statement
    record { takes = 26 ∷ 17 ∷ 3 ∷ []; gives = 26 ∷ [] } ∷  -- 427, {while}: Place Expression Statement -> Statement
    record { takes = 17 ∷ 26 ∷ 3 ∷ []; gives = 26 ∷ [] } ∷  -- 428, {do}: Place Statement Expression -> Statement
    record { takes = 26 ∷ 30 ∷ 29 ∷ 28 ∷ 3 ∷ []; gives = 26 ∷ [] } ∷  -- 429, {for}: Place ForFirst ExpressionOption SimpleOption Statement -> Statement
    record { takes = []; gives = 31 ∷ [] } ∷  -- 430, {no_groups}: -> Groups
    record { takes = 31 ∷ 17 ∷ 3 ∷ []; gives = 26 ∷ [] } ∷  -- 431, {switch}: Place Expression Groups -> Statement
    record { takes = 3 ∷ []; gives = 26 ∷ [] } ∷  -- 432, {break}: Place -> Statement
    record { takes = 3 ∷ []; gives = 26 ∷ [] } ∷  -- 433, {continue}: Place -> Statement
    record { takes = 32 ∷ 3 ∷ []; gives = 26 ∷ [] } ∷  -- 434, {return}: Place InitializerOption -> Statement
    record { takes = 17 ∷ 3 ∷ []; gives = 26 ∷ [] } ∷  -- 435, {assert}: Place Expression -> Statement
    record { takes = 17 ∷ 3 ∷ []; gives = 26 ∷ [] } ∷  -- 436, {cprover_assert}: Place Expression -> Statement
    record { takes = 17 ∷ 3 ∷ []; gives = 26 ∷ [] } ∷  -- 437, {cprover_assume}: Place Expression -> Statement
    record { takes = 26 ∷ 26 ∷ 17 ∷ 3 ∷ []; gives = 26 ∷ [] } ∷  -- 438, {if_else}: Place Expression Statement Statement -> Statement
    record { takes = 25 ∷ []; gives = 28 ∷ [] } ∷  -- 439, {for_local}: Local -> ForFirst
    record { takes = 27 ∷ []; gives = 28 ∷ [] } ∷  -- 440, {for_simple}: Simple -> ForFirst
    record { takes = []; gives = 28 ∷ [] } ∷  -- 441, {for_nothing}: -> ForFirst
    record { takes = 27 ∷ []; gives = 30 ∷ [] } ∷  -- 442, {some_simple}: Simple -> SimpleOption
    record { takes = 17 ∷ []; gives = 29 ∷ [] } ∷  -- 443, {some_expression}: Expression -> ExpressionOption
    record { takes = 21 ∷ []; gives = 32 ∷ [] } ∷  -- 444, {some_initializer}: Initializer -> InitializerOption
    record { takes = 34 ∷ []; gives = 35 ∷ [] } ∷  -- 445, {first_label:1}: Label -> Labels
    record { takes = 34 ∷ 35 ∷ []; gives = 35 ∷ [] } ∷  -- 446, {add_label}: Labels Label -> Labels
    record { takes = 35 ∷ []; gives = 36 ∷ [] } ∷  -- 447, {labelled:1}: Labels -> Labelled
    record { takes = 26 ∷ 36 ∷ []; gives = 36 ∷ [] } ∷  -- 448, {add_to_group:1}: Labelled Statement -> Labelled
    record { takes = 35 ∷ []; gives = 36 ∷ [] } ∷  -- 449, {labelled:2}: Labels -> Labelled
    record { takes = 36 ∷ []; gives = 33 ∷ [] } ∷  -- 450, {group:1}: Labelled -> Group
    record { takes = 33 ∷ 31 ∷ []; gives = 31 ∷ [] } ∷  -- 451, {add_group:1}: Groups Group -> Groups
    record { takes = 26 ∷ 36 ∷ []; gives = 36 ∷ [] } ∷  -- 452, {add_to_group:2}: Labelled Statement -> Labelled
    record { takes = 36 ∷ []; gives = 33 ∷ [] } ∷  -- 453, {group:2}: Labelled -> Group
    record { takes = 33 ∷ 31 ∷ []; gives = 31 ∷ [] } ∷  -- 454, {add_group:2}: Groups Group -> Groups
    record { takes = 34 ∷ []; gives = 35 ∷ [] } ∷  -- 455, {first_label:2}: Label -> Labels
    record { takes = 36 ∷ []; gives = 33 ∷ [] } ∷  -- 456, {group:3}: Labelled -> Group
    record { takes = 33 ∷ 31 ∷ []; gives = 31 ∷ [] } ∷  -- 457, {add_group:3}: Groups Group -> Groups
    record { takes = 17 ∷ 3 ∷ []; gives = 34 ∷ [] } ∷  -- 458, {case}: Place Expression -> Label
    record { takes = 3 ∷ []; gives = 34 ∷ [] } ∷  -- 459, {default}: Place -> Label
    record { takes = 37 ∷ 39 ∷ []; gives = 27 ∷ [] } ∷  -- 460, {step_before}: StepMark Path -> Simple
    record { takes = []; gives = 39 ∷ [] } ∷  -- 461, <increment>: -> StepMark
    record { takes = []; gives = 39 ∷ [] } ∷  -- 462, <decrement>: -> StepMark
    record { takes = 22 ∷ 6 ∷ []; gives = 27 ∷ [] } ∷  -- 463, {call}: Name Expressions -> Simple
    record { takes = 6 ∷ []; gives = 40 ∷ [] } ∷  -- 464, {object:2}: Name -> Object
    record { takes = 21 ∷ 37 ∷ []; gives = 27 ∷ [] } ∷  -- 465, {assign}: Path Initializer -> Simple
    record { takes = 17 ∷ 38 ∷ 37 ∷ []; gives = 27 ∷ [] } ∷  -- 466, {update}: Path AssignmentMark Expression -> Simple
    record { takes = 39 ∷ 37 ∷ []; gives = 27 ∷ [] } ∷  -- 467, {step_after}: Path StepMark -> Simple
    record { takes = []; gives = 38 ∷ [] } ∷  -- 468, <add_to>: -> AssignmentMark
    record { takes = []; gives = 38 ∷ [] } ∷  -- 469, <subtract_from>: -> AssignmentMark
    record { takes = []; gives = 38 ∷ [] } ∷  -- 470, <multiply_by>: -> AssignmentMark
    record { takes = []; gives = 38 ∷ [] } ∷  -- 471, <divide_by>: -> AssignmentMark
    record { takes = []; gives = 38 ∷ [] } ∷  -- 472, <remainder_by>: -> AssignmentMark
    record { takes = []; gives = 38 ∷ [] } ∷  -- 473, <and_with>: -> AssignmentMark
    record { takes = []; gives = 38 ∷ [] } ∷  -- 474, <or_with>: -> AssignmentMark
    record { takes = []; gives = 38 ∷ [] } ∷  -- 475, <xor_with>: -> AssignmentMark
    record { takes = []; gives = 38 ∷ [] } ∷  -- 476, <shift_left_by>: -> AssignmentMark
    record { takes = []; gives = 38 ∷ [] } ∷  -- 477, <shift_right_by>: -> AssignmentMark
    record { takes = 17 ∷ []; gives = 22 ∷ [] } ∷  -- 478, {one_expression:2}: Expression -> Expressions
    record { takes = 17 ∷ 22 ∷ []; gives = 22 ∷ [] } ∷  -- 479, {add_expression:2}: Expressions Expression -> Expressions
    record { takes = 6 ∷ []; gives = 40 ∷ [] } ∷  -- 480, {object:3}: Name -> Object
    record { takes = 6 ∷ 40 ∷ []; gives = 40 ∷ [] } ∷  -- 481, {add_path_member}: Object Name -> Object
    record { takes = 17 ∷ 3 ∷ 40 ∷ []; gives = 37 ∷ [] } ∷  -- 482, {element}: Object Place Expression -> Path
    record { takes = 17 ∷ 17 ∷ 3 ∷ 17 ∷ []; gives = 17 ∷ [] } ∷  -- 483, {conditional}: Expression Place Expression Expression -> Expression
    record { takes = []; gives = 42 ∷ [] } ∷  -- 484, <logical_or>: -> BinaryMark
    record { takes = 17 ∷ 42 ∷ 17 ∷ []; gives = 17 ∷ [] } ∷  -- 485, {binary:1}: Expression BinaryMark Expression -> Expression
    record { takes = []; gives = 42 ∷ [] } ∷  -- 486, <logical_and>: -> BinaryMark
    record { takes = 17 ∷ 42 ∷ 17 ∷ []; gives = 17 ∷ [] } ∷  -- 487, {binary:2}: Expression BinaryMark Expression -> Expression
    record { takes = []; gives = 42 ∷ [] } ∷  -- 488, <or>: -> BinaryMark
    record { takes = 17 ∷ 42 ∷ 17 ∷ []; gives = 17 ∷ [] } ∷  -- 489, {binary:3}: Expression BinaryMark Expression -> Expression
    record { takes = []; gives = 42 ∷ [] } ∷  -- 490, <xor>: -> BinaryMark
    record { takes = 17 ∷ 42 ∷ 17 ∷ []; gives = 17 ∷ [] } ∷  -- 491, {binary:4}: Expression BinaryMark Expression -> Expression
    record { takes = []; gives = 42 ∷ [] } ∷  -- 492, <and>: -> BinaryMark
    record { takes = 17 ∷ 42 ∷ 17 ∷ []; gives = 17 ∷ [] } ∷  -- 493, {binary:5}: Expression BinaryMark Expression -> Expression
    record { takes = 17 ∷ 42 ∷ 17 ∷ []; gives = 17 ∷ [] } ∷  -- 494, {binary:6}: Expression BinaryMark Expression -> Expression
    record { takes = 17 ∷ 42 ∷ 17 ∷ []; gives = 17 ∷ [] } ∷  -- 495, {binary:7}: Expression BinaryMark Expression -> Expression
    record { takes = 17 ∷ 42 ∷ 17 ∷ []; gives = 17 ∷ [] } ∷  -- 496, {binary:8}: Expression BinaryMark Expression -> Expression
    record { takes = 17 ∷ 42 ∷ 17 ∷ []; gives = 17 ∷ [] } ∷  -- 497, {binary:9}: Expression BinaryMark Expression -> Expression
    record { takes = 17 ∷ 42 ∷ 17 ∷ []; gives = 17 ∷ [] } ∷  -- 498, {binary:10}: Expression BinaryMark Expression -> Expression
    record { takes = []; gives = 42 ∷ [] } ∷  -- 499, <equal>: -> BinaryMark
    record { takes = []; gives = 42 ∷ [] } ∷  -- 500, <not_equal>: -> BinaryMark
    record { takes = []; gives = 42 ∷ [] } ∷  -- 501, <less>: -> BinaryMark
    record { takes = []; gives = 42 ∷ [] } ∷  -- 502, <less_equal>: -> BinaryMark
    record { takes = []; gives = 42 ∷ [] } ∷  -- 503, <greater>: -> BinaryMark
    record { takes = []; gives = 42 ∷ [] } ∷  -- 504, <greater_equal>: -> BinaryMark
    record { takes = []; gives = 42 ∷ [] } ∷  -- 505, <shift_left>: -> BinaryMark
    record { takes = []; gives = 42 ∷ [] } ∷  -- 506, <shift_right>: -> BinaryMark
    record { takes = []; gives = 42 ∷ [] } ∷  -- 507, <add>: -> BinaryMark
    record { takes = []; gives = 42 ∷ [] } ∷  -- 508, <subtract>: -> BinaryMark
    record { takes = []; gives = 42 ∷ [] } ∷  -- 509, <multiply>: -> BinaryMark
    record { takes = []; gives = 42 ∷ [] } ∷  -- 510, <divide>: -> BinaryMark
    record { takes = []; gives = 42 ∷ [] } ∷  -- 511, <remainder>: -> BinaryMark
    record { takes = 6 ∷ []; gives = 40 ∷ [] } ∷  -- 512, {object:4}: Name -> Object
    record { takes = 37 ∷ []; gives = 17 ∷ [] } ∷  -- 513, {read:2}: Path -> Expression
    record { takes = 17 ∷ 41 ∷ []; gives = 17 ∷ [] } ∷  -- 514, {unary}: UnaryMark Expression -> Expression
    record { takes = []; gives = 17 ∷ [] } ∷  -- 515, <integer>: -> Expression
    record { takes = []; gives = 17 ∷ [] } ∷  -- 516, <character>: -> Expression
    record { takes = []; gives = 17 ∷ [] } ∷  -- 517, <true>: -> Expression
    record { takes = []; gives = 17 ∷ [] } ∷  -- 518, <false>: -> Expression
    record { takes = []; gives = 41 ∷ [] } ∷  -- 519, <plus>: -> UnaryMark
    record { takes = []; gives = 41 ∷ [] } ∷  -- 520, <minus>: -> UnaryMark
    record { takes = []; gives = 41 ∷ [] } ∷  -- 521, <not>: -> UnaryMark
    record { takes = []; gives = 41 ∷ [] } ∷  -- 522, <complement>: -> UnaryMark
    record { takes = 17 ∷ 7 ∷ 3 ∷ []; gives = 17 ∷ [] } ∷  -- 523, {cast}: Place Type Expression -> Expression
    record { takes = 17 ∷ 3 ∷ []; gives = 17 ∷ [] } ∷  -- 524, {parentheses}: Place Expression -> Expression
    []

-- the kinds of token that each action comes right after, if it makes a value of one
unfoldable pub AFTER : List (List ℕ)
AFTER =
    ([]) ∷  -- 0, file
    ([]) ∷  -- 1, no_externals
    ([]) ∷  -- 2, one_external
    ([]) ∷  -- 3, add_external
    ([]) ∷  -- 4, struct
    ([]) ∷  -- 5, mirror
    ([]) ∷  -- 6, bound
    ([]) ∷  -- 7, function
    ([]) ∷  -- 8, definition
    ([]) ∷  -- 9, globals
    ([]) ∷  -- 10, const_globals
    ([]) ∷  -- 11, no_storage
    ([]) ∷  -- 12, extern
    (7 ∷ []) ∷  -- 13, static
    ([]) ∷  -- 14, void_function
    ([]) ∷  -- 15, integer_function
    ([]) ∷  -- 16, function_name
    ([]) ∷  -- 17, one_member
    ([]) ∷  -- 18, add_member
    ([]) ∷  -- 19, integer_members
    ([]) ∷  -- 20, struct_members
    ([]) ∷  -- 21, one_item
    ([]) ∷  -- 22, add_item
    ([]) ∷  -- 23, plain_item
    ([]) ∷  -- 24, array_item
    ([]) ∷  -- 25, one_name
    ([]) ∷  -- 26, add_name
    ([]) ∷  -- 27, no_parameters
    ([]) ∷  -- 28, one_parameter
    ([]) ∷  -- 29, add_parameter
    ([]) ∷  -- 30, parameter
    ([]) ∷  -- 31, const_parameter
    ([]) ∷  -- 32, no_name
    ([]) ∷  -- 33, some_name
    ([]) ∷  -- 34, one_declarator
    ([]) ∷  -- 35, add_declarator
    ([]) ∷  -- 36, plain_declarator
    ([]) ∷  -- 37, initialized
    ([]) ∷  -- 38, array_declarator
    ([]) ∷  -- 39, initialized_array
    ([]) ∷  -- 40, value
    ([]) ∷  -- 41, call_value
    (10 ∷ 11 ∷ []) ∷  -- 42, bool_type
    ([]) ∷  -- 43, char_type
    ([]) ∷  -- 44, short_type
    ([]) ∷  -- 45, int_type
    ([]) ∷  -- 46, long_type
    (18 ∷ []) ∷  -- 47, int8
    (19 ∷ []) ∷  -- 48, int16
    (20 ∷ []) ∷  -- 49, int32
    (21 ∷ []) ∷  -- 50, int64
    (22 ∷ []) ∷  -- 51, uint8
    (23 ∷ []) ∷  -- 52, uint16
    (24 ∷ []) ∷  -- 53, uint32
    (25 ∷ []) ∷  -- 54, uint64
    (16 ∷ []) ∷  -- 55, signed
    (17 ∷ []) ∷  -- 56, unsigned
    (12 ∷ 13 ∷ 14 ∷ 15 ∷ []) ∷  -- 57, no_sign
    ([]) ∷  -- 58, block
    ([]) ∷  -- 59, no_items
    ([]) ∷  -- 60, add_local
    ([]) ∷  -- 61, add_statement
    ([]) ∷  -- 62, local
    ([]) ∷  -- 63, const_local
    ([]) ∷  -- 64, compound
    ([]) ∷  -- 65, empty
    ([]) ∷  -- 66, simple
    ([]) ∷  -- 67, if_alone
    ([]) ∷  -- 68, if_else
    ([]) ∷  -- 69, while
    ([]) ∷  -- 70, do
    ([]) ∷  -- 71, for
    ([]) ∷  -- 72, switch
    ([]) ∷  -- 73, break
    ([]) ∷  -- 74, continue
    ([]) ∷  -- 75, return
    ([]) ∷  -- 76, assert
    ([]) ∷  -- 77, cprover_assert
    ([]) ∷  -- 78, cprover_assume
    ([]) ∷  -- 79, for_nothing
    ([]) ∷  -- 80, for_local
    ([]) ∷  -- 81, for_simple
    ([]) ∷  -- 82, no_simple
    ([]) ∷  -- 83, some_simple
    ([]) ∷  -- 84, no_expression
    ([]) ∷  -- 85, some_expression
    ([]) ∷  -- 86, no_initializer
    ([]) ∷  -- 87, some_initializer
    ([]) ∷  -- 88, no_groups
    ([]) ∷  -- 89, add_group
    ([]) ∷  -- 90, first_label
    ([]) ∷  -- 91, add_label
    ([]) ∷  -- 92, labelled
    ([]) ∷  -- 93, add_to_group
    ([]) ∷  -- 94, group
    ([]) ∷  -- 95, case
    ([]) ∷  -- 96, default
    ([]) ∷  -- 97, call
    ([]) ∷  -- 98, assign
    ([]) ∷  -- 99, update
    ([]) ∷  -- 100, step_after
    ([]) ∷  -- 101, step_before
    ([]) ∷  -- 102, object
    ([]) ∷  -- 103, add_path_member
    ([]) ∷  -- 104, path
    ([]) ∷  -- 105, element
    ([]) ∷  -- 106, no_expressions
    ([]) ∷  -- 107, one_expression
    ([]) ∷  -- 108, add_expression
    ([]) ∷  -- 109, read
    (2 ∷ []) ∷  -- 110, integer
    (3 ∷ []) ∷  -- 111, character
    (40 ∷ []) ∷  -- 112, true
    (41 ∷ []) ∷  -- 113, false
    ([]) ∷  -- 114, parentheses
    ([]) ∷  -- 115, unary
    ([]) ∷  -- 116, cast
    ([]) ∷  -- 117, binary
    ([]) ∷  -- 118, conditional
    (5 ∷ 6 ∷ 8 ∷ 9 ∷ 26 ∷ 28 ∷ 29 ∷ 30 ∷ 31 ∷ 32 ∷ 33 ∷ 34 ∷ 35 ∷ 36 ∷ 37 ∷ 38 ∷ 39 ∷ 62 ∷ 77 ∷ 79 ∷ 81 ∷ 83 ∷ []) ∷  -- 119, place
    (1 ∷ []) ∷  -- 120, name
    (1 ∷ []) ∷  -- 121, declared
    (42 ∷ []) ∷  -- 122, plus
    (43 ∷ []) ∷  -- 123, minus
    (47 ∷ []) ∷  -- 124, not
    (48 ∷ []) ∷  -- 125, complement
    (44 ∷ []) ∷  -- 126, multiply
    (45 ∷ []) ∷  -- 127, divide
    (46 ∷ []) ∷  -- 128, remainder
    (42 ∷ []) ∷  -- 129, add
    (43 ∷ []) ∷  -- 130, subtract
    (60 ∷ []) ∷  -- 131, shift_left
    (61 ∷ []) ∷  -- 132, shift_right
    (56 ∷ []) ∷  -- 133, less
    (57 ∷ []) ∷  -- 134, less_equal
    (58 ∷ []) ∷  -- 135, greater
    (59 ∷ []) ∷  -- 136, greater_equal
    (54 ∷ []) ∷  -- 137, equal
    (55 ∷ []) ∷  -- 138, not_equal
    (49 ∷ []) ∷  -- 139, and
    (51 ∷ []) ∷  -- 140, xor
    (50 ∷ []) ∷  -- 141, or
    (52 ∷ []) ∷  -- 142, logical_and
    (53 ∷ []) ∷  -- 143, logical_or
    (65 ∷ []) ∷  -- 144, add_to
    (66 ∷ []) ∷  -- 145, subtract_from
    (67 ∷ []) ∷  -- 146, multiply_by
    (68 ∷ []) ∷  -- 147, divide_by
    (69 ∷ []) ∷  -- 148, remainder_by
    (70 ∷ []) ∷  -- 149, and_with
    (71 ∷ []) ∷  -- 150, or_with
    (72 ∷ []) ∷  -- 151, xor_with
    (73 ∷ []) ∷  -- 152, shift_left_by
    (74 ∷ []) ∷  -- 153, shift_right_by
    (75 ∷ []) ∷  -- 154, increment
    (76 ∷ []) ∷  -- 155, decrement
    []

-- for each nonterminal one more than the action that it is, if that is one on a token
unfoldable pub SPOTS : List ℕ
SPOTS = 0 ∷ 0 ∷ 0 ∷ 0 ∷ 0 ∷ 0 ∷ 0 ∷ 0 ∷ 0 ∷ 0 ∷ 0 ∷ 0 ∷ 0 ∷ 0 ∷ 0 ∷ 0 ∷ 0 ∷ 0 ∷ 0 ∷ 0 ∷ 0 ∷ 0 ∷ 0 ∷ 0 ∷ 0 ∷ 0 ∷ 0 ∷ 0 ∷ 0 ∷ 0 ∷ 0 ∷ 0 ∷ 0 ∷ 0 ∷ 0 ∷ 0 ∷ 0 ∷ 0 ∷ 0 ∷ 0 ∷ 0 ∷ 0 ∷ 0 ∷ 0 ∷ 0 ∷ 0 ∷ 0 ∷ 0 ∷ 0 ∷ 0 ∷ 0 ∷ 0 ∷ 0 ∷ 0 ∷ 0 ∷ 0 ∷ 0 ∷ 0 ∷ 0 ∷ 0 ∷ 0 ∷ 0 ∷ 0 ∷ 0 ∷ 0 ∷ 0 ∷ 0 ∷ 0 ∷ 0 ∷ 0 ∷ 0 ∷ 0 ∷ 0 ∷ 0 ∷ 0 ∷ 0 ∷ 0 ∷ 0 ∷ 0 ∷ 0 ∷ 0 ∷ 0 ∷ 0 ∷ 0 ∷ 0 ∷ 0 ∷ 0 ∷ 0 ∷ 0 ∷ 120 ∷ 122 ∷ 0 ∷ 0 ∷ 14 ∷ 0 ∷ 121 ∷ 0 ∷ 0 ∷ 0 ∷ 0 ∷ 0 ∷ 0 ∷ 0 ∷ 0 ∷ 0 ∷ 0 ∷ 0 ∷ 0 ∷ 0 ∷ 0 ∷ 0 ∷ 0 ∷ 0 ∷ 0 ∷ 0 ∷ 0 ∷ 0 ∷ 0 ∷ 0 ∷ 0 ∷ 0 ∷ 0 ∷ 0 ∷ 0 ∷ 0 ∷ 0 ∷ 0 ∷ 0 ∷ 0 ∷ 0 ∷ 0 ∷ 0 ∷ 0 ∷ 0 ∷ 0 ∷ 0 ∷ 0 ∷ 0 ∷ 0 ∷ 0 ∷ 43 ∷ 58 ∷ 0 ∷ 0 ∷ 0 ∷ 0 ∷ 48 ∷ 49 ∷ 50 ∷ 51 ∷ 52 ∷ 53 ∷ 54 ∷ 55 ∷ 56 ∷ 57 ∷ 0 ∷ 0 ∷ 0 ∷ 0 ∷ 0 ∷ 0 ∷ 0 ∷ 0 ∷ 0 ∷ 0 ∷ 0 ∷ 0 ∷ 0 ∷ 0 ∷ 0 ∷ 0 ∷ 0 ∷ 0 ∷ 0 ∷ 0 ∷ 0 ∷ 0 ∷ 0 ∷ 0 ∷ 0 ∷ 0 ∷ 0 ∷ 0 ∷ 0 ∷ 0 ∷ 0 ∷ 0 ∷ 0 ∷ 0 ∷ 0 ∷ 0 ∷ 0 ∷ 0 ∷ 0 ∷ 0 ∷ 0 ∷ 0 ∷ 0 ∷ 0 ∷ 0 ∷ 0 ∷ 0 ∷ 0 ∷ 0 ∷ 155 ∷ 156 ∷ 0 ∷ 0 ∷ 0 ∷ 0 ∷ 0 ∷ 145 ∷ 146 ∷ 147 ∷ 148 ∷ 149 ∷ 150 ∷ 151 ∷ 152 ∷ 153 ∷ 154 ∷ 0 ∷ 0 ∷ 0 ∷ 0 ∷ 0 ∷ 0 ∷ 144 ∷ 0 ∷ 143 ∷ 0 ∷ 142 ∷ 0 ∷ 141 ∷ 0 ∷ 140 ∷ 0 ∷ 0 ∷ 0 ∷ 0 ∷ 0 ∷ 0 ∷ 138 ∷ 139 ∷ 134 ∷ 135 ∷ 136 ∷ 137 ∷ 132 ∷ 133 ∷ 130 ∷ 131 ∷ 127 ∷ 128 ∷ 129 ∷ 0 ∷ 0 ∷ 0 ∷ 111 ∷ 112 ∷ 113 ∷ 114 ∷ 123 ∷ 124 ∷ 125 ∷ 126 ∷ 0 ∷ 0 ∷ []
