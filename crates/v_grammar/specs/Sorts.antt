-- The sorts of the values that the actions take and give, by their numbers, and what each nonterminal does to the stack.
use Rattle.std.specs.Prelude.{List, [], ◌∷◌}
use Rattle.ll_actions.specs.Sorts.{Signature, Effect}

-- sort 0: Exprs
-- sort 1: Place
-- sort 2: Name
-- sort 3: Declared
-- sort 4: Decimal
-- sort 5: Based
-- sort 6: Direction
-- sort 7: UnaryOperator
-- sort 8: BinaryOperator
-- sort 9: Expr
-- sort 10: Selection
-- sort 11: ExprOption
-- sort 12: Target
-- sort 13: Targets
-- sort 14: AssignmentKind
-- sort 15: Stmt
-- sort 16: Label
-- sort 17: Stmts
-- sort 18: CaseItems
-- sort 19: CaseItem
-- sort 20: Range
-- sort 21: RangeOption
-- sort 22: ParameterRange
-- sort 23: Parameter
-- sort 24: Parameters
-- sort 25: Names
-- sort 26: DeclaredNames
-- sort 27: Declarator
-- sort 28: Declarators
-- sort 29: NetKind
-- sort 30: Sign
-- sort 31: Register
-- sort 32: Registers
-- sort 33: Ordered
-- sort 34: OrderedValues
-- sort 35: Named
-- sort 36: NamedValues
-- sort 37: Connections
-- sort 38: Overrides
-- sort 39: Instance
-- sort 40: Instances
-- sort 41: NetAssignment
-- sort 42: NetAssignments
-- sort 43: Event
-- sort 44: Item
-- sort 45: Items
-- sort 46: Groups
-- sort 47: Ports
-- sort 48: Header
-- sort 49: Module
-- sort 50: Modules
-- sort 51: Source

-- the signature of each action
unfoldable pub SIGNATURES : List Signature
SIGNATURES =
    record { takes = []; gives = 0 } ∷  -- 0, no_exprs: -> Exprs
    record { takes = []; gives = 1 } ∷  -- 1, place: -> Place
    record { takes = []; gives = 2 } ∷  -- 2, name: -> Name
    record { takes = []; gives = 3 } ∷  -- 3, declared: -> Declared
    record { takes = []; gives = 4 } ∷  -- 4, decimal: -> Decimal
    record { takes = []; gives = 5 } ∷  -- 5, based: -> Based
    record { takes = []; gives = 6 } ∷  -- 6, input: -> Direction
    record { takes = []; gives = 6 } ∷  -- 7, output: -> Direction
    record { takes = []; gives = 7 } ∷  -- 8, plus: -> UnaryOperator
    record { takes = []; gives = 7 } ∷  -- 9, minus: -> UnaryOperator
    record { takes = []; gives = 7 } ∷  -- 10, logical_not: -> UnaryOperator
    record { takes = []; gives = 7 } ∷  -- 11, bit_not: -> UnaryOperator
    record { takes = []; gives = 7 } ∷  -- 12, reduce_and: -> UnaryOperator
    record { takes = []; gives = 7 } ∷  -- 13, reduce_nand: -> UnaryOperator
    record { takes = []; gives = 7 } ∷  -- 14, reduce_or: -> UnaryOperator
    record { takes = []; gives = 7 } ∷  -- 15, reduce_nor: -> UnaryOperator
    record { takes = []; gives = 7 } ∷  -- 16, reduce_xor: -> UnaryOperator
    record { takes = []; gives = 7 } ∷  -- 17, reduce_xnor: -> UnaryOperator
    record { takes = []; gives = 8 } ∷  -- 18, logical_or: -> BinaryOperator
    record { takes = []; gives = 8 } ∷  -- 19, logical_and: -> BinaryOperator
    record { takes = []; gives = 8 } ∷  -- 20, bit_or: -> BinaryOperator
    record { takes = []; gives = 8 } ∷  -- 21, bit_xor: -> BinaryOperator
    record { takes = []; gives = 8 } ∷  -- 22, bit_xnor: -> BinaryOperator
    record { takes = []; gives = 8 } ∷  -- 23, bit_and: -> BinaryOperator
    record { takes = []; gives = 8 } ∷  -- 24, equal: -> BinaryOperator
    record { takes = []; gives = 8 } ∷  -- 25, not_equal: -> BinaryOperator
    record { takes = []; gives = 8 } ∷  -- 26, less: -> BinaryOperator
    record { takes = []; gives = 8 } ∷  -- 27, less_equal: -> BinaryOperator
    record { takes = []; gives = 8 } ∷  -- 28, greater: -> BinaryOperator
    record { takes = []; gives = 8 } ∷  -- 29, greater_equal: -> BinaryOperator
    record { takes = []; gives = 8 } ∷  -- 30, shift_left: -> BinaryOperator
    record { takes = []; gives = 8 } ∷  -- 31, shift_right: -> BinaryOperator
    record { takes = []; gives = 8 } ∷  -- 32, arithmetic_shift_left: -> BinaryOperator
    record { takes = []; gives = 8 } ∷  -- 33, arithmetic_shift_right: -> BinaryOperator
    record { takes = []; gives = 8 } ∷  -- 34, add: -> BinaryOperator
    record { takes = []; gives = 8 } ∷  -- 35, subtract: -> BinaryOperator
    record { takes = []; gives = 8 } ∷  -- 36, multiply: -> BinaryOperator
    record { takes = []; gives = 8 } ∷  -- 37, divide: -> BinaryOperator
    record { takes = []; gives = 8 } ∷  -- 38, remainder: -> BinaryOperator
    record { takes = 4 ∷ []; gives = 9 } ∷  -- 39, decimal_literal: Decimal -> Expr
    record { takes = 5 ∷ []; gives = 9 } ∷  -- 40, based_literal: Based -> Expr
    record { takes = 5 ∷ 4 ∷ []; gives = 9 } ∷  -- 41, sized_literal: Decimal Based -> Expr
    record { takes = 2 ∷ []; gives = 9 } ∷  -- 42, name_alone: Name -> Expr
    record { takes = 10 ∷ 2 ∷ []; gives = 9 } ∷  -- 43, select: Name Selection -> Expr
    record { takes = 9 ∷ 7 ∷ []; gives = 9 } ∷  -- 44, unary: UnaryOperator Expr -> Expr
    record { takes = 9 ∷ 8 ∷ 9 ∷ []; gives = 9 } ∷  -- 45, binary: Expr BinaryOperator Expr -> Expr
    record { takes = 9 ∷ 9 ∷ 9 ∷ []; gives = 9 } ∷  -- 46, conditional: Expr Expr Expr -> Expr
    record { takes = 9 ∷ 1 ∷ []; gives = 9 } ∷  -- 47, parentheses: Place Expr -> Expr
    record { takes = 0 ∷ 1 ∷ []; gives = 9 } ∷  -- 48, concatenation: Place Exprs -> Expr
    record { takes = 0 ∷ 9 ∷ 1 ∷ []; gives = 9 } ∷  -- 49, replication: Place Expr Exprs -> Expr
    record { takes = 9 ∷ 1 ∷ []; gives = 9 } ∷  -- 50, signed_call: Place Expr -> Expr
    record { takes = 9 ∷ 1 ∷ []; gives = 9 } ∷  -- 51, unsigned_call: Place Expr -> Expr
    record { takes = 9 ∷ []; gives = 10 } ∷  -- 52, index_selection: Expr -> Selection
    record { takes = 9 ∷ 9 ∷ []; gives = 10 } ∷  -- 53, range_selection: Expr Expr -> Selection
    record { takes = 9 ∷ 9 ∷ []; gives = 10 } ∷  -- 54, up_selection: Expr Expr -> Selection
    record { takes = 9 ∷ 9 ∷ []; gives = 10 } ∷  -- 55, down_selection: Expr Expr -> Selection
    record { takes = 9 ∷ 0 ∷ []; gives = 0 } ∷  -- 56, add_expr: Exprs Expr -> Exprs
    record { takes = 9 ∷ []; gives = 0 } ∷  -- 57, first_expr: Expr -> Exprs
    record { takes = 9 ∷ []; gives = 11 } ∷  -- 58, some_expr: Expr -> ExprOption
    record { takes = []; gives = 11 } ∷  -- 59, no_expr: -> ExprOption
    record { takes = 2 ∷ []; gives = 12 } ∷  -- 60, target_name: Name -> Target
    record { takes = 10 ∷ 2 ∷ []; gives = 12 } ∷  -- 61, target_select: Name Selection -> Target
    record { takes = 13 ∷ 1 ∷ []; gives = 12 } ∷  -- 62, target_concatenation: Place Targets -> Target
    record { takes = []; gives = 13 } ∷  -- 63, no_targets: -> Targets
    record { takes = 12 ∷ 13 ∷ []; gives = 13 } ∷  -- 64, add_target: Targets Target -> Targets
    record { takes = []; gives = 14 } ∷  -- 65, blocking: -> AssignmentKind
    record { takes = []; gives = 14 } ∷  -- 66, nonblocking: -> AssignmentKind
    record { takes = 9 ∷ 14 ∷ 12 ∷ []; gives = 15 } ∷  -- 67, assignment: Target AssignmentKind Expr -> Stmt
    record { takes = 1 ∷ []; gives = 15 } ∷  -- 68, empty: Place -> Stmt
    record { takes = 2 ∷ []; gives = 16 } ∷  -- 69, some_label: Name -> Label
    record { takes = []; gives = 16 } ∷  -- 70, no_label: -> Label
    record { takes = 17 ∷ 16 ∷ 1 ∷ []; gives = 15 } ∷  -- 71, block: Place Label Stmts -> Stmt
    record { takes = []; gives = 17 } ∷  -- 72, no_stmts: -> Stmts
    record { takes = 15 ∷ 17 ∷ []; gives = 17 } ∷  -- 73, add_stmt: Stmts Stmt -> Stmts
    record { takes = 15 ∷ 9 ∷ 1 ∷ []; gives = 15 } ∷  -- 74, if_alone: Place Expr Stmt -> Stmt
    record { takes = 15 ∷ 15 ∷ 9 ∷ 1 ∷ []; gives = 15 } ∷  -- 75, if_else: Place Expr Stmt Stmt -> Stmt
    record { takes = 18 ∷ 9 ∷ 1 ∷ []; gives = 15 } ∷  -- 76, case: Place Expr CaseItems -> Stmt
    record { takes = 18 ∷ 9 ∷ 1 ∷ []; gives = 15 } ∷  -- 77, casez: Place Expr CaseItems -> Stmt
    record { takes = 15 ∷ 0 ∷ []; gives = 19 } ∷  -- 78, values_item: Exprs Stmt -> CaseItem
    record { takes = 15 ∷ 1 ∷ []; gives = 19 } ∷  -- 79, default_item: Place Stmt -> CaseItem
    record { takes = []; gives = 18 } ∷  -- 80, no_case_items: -> CaseItems
    record { takes = 19 ∷ 18 ∷ []; gives = 18 } ∷  -- 81, add_case_item: CaseItems CaseItem -> CaseItems
    record { takes = 15 ∷ 9 ∷ 2 ∷ 9 ∷ 9 ∷ 2 ∷ 1 ∷ []; gives = 15 } ∷  -- 82, for: Place Name Expr Expr Name Expr Stmt -> Stmt
    record { takes = 9 ∷ 9 ∷ 1 ∷ []; gives = 20 } ∷  -- 83, range: Place Expr Expr -> Range
    record { takes = 20 ∷ []; gives = 21 } ∷  -- 84, some_range: Range -> RangeOption
    record { takes = []; gives = 21 } ∷  -- 85, no_range: -> RangeOption
    record { takes = 20 ∷ []; gives = 22 } ∷  -- 86, signed_range: Range -> ParameterRange
    record { takes = 20 ∷ []; gives = 22 } ∷  -- 87, plain_range: Range -> ParameterRange
    record { takes = []; gives = 22 } ∷  -- 88, no_parameter_range: -> ParameterRange
    record { takes = 9 ∷ 2 ∷ []; gives = 23 } ∷  -- 89, parameter: Name Expr -> Parameter
    record { takes = []; gives = 24 } ∷  -- 90, no_parameters: -> Parameters
    record { takes = 23 ∷ 24 ∷ []; gives = 24 } ∷  -- 91, add_parameter: Parameters Parameter -> Parameters
    record { takes = []; gives = 25 } ∷  -- 92, no_names: -> Names
    record { takes = 2 ∷ 25 ∷ []; gives = 25 } ∷  -- 93, add_name: Names Name -> Names
    record { takes = []; gives = 26 } ∷  -- 94, no_declared: -> DeclaredNames
    record { takes = 3 ∷ 26 ∷ []; gives = 26 } ∷  -- 95, add_declared: DeclaredNames Declared -> DeclaredNames
    record { takes = 11 ∷ 2 ∷ []; gives = 27 } ∷  -- 96, declarator: Name ExprOption -> Declarator
    record { takes = []; gives = 28 } ∷  -- 97, no_declarators: -> Declarators
    record { takes = 27 ∷ 28 ∷ []; gives = 28 } ∷  -- 98, add_declarator: Declarators Declarator -> Declarators
    record { takes = []; gives = 29 } ∷  -- 99, wire_kind: -> NetKind
    record { takes = []; gives = 29 } ∷  -- 100, reg_kind: -> NetKind
    record { takes = []; gives = 29 } ∷  -- 101, no_kind: -> NetKind
    record { takes = []; gives = 30 } ∷  -- 102, signed: -> Sign
    record { takes = []; gives = 30 } ∷  -- 103, unsigned: -> Sign
    record { takes = 2 ∷ []; gives = 31 } ∷  -- 104, plain_register: Name -> Register
    record { takes = 9 ∷ 2 ∷ []; gives = 31 } ∷  -- 105, initialized_register: Name Expr -> Register
    record { takes = 20 ∷ 2 ∷ []; gives = 31 } ∷  -- 106, memory: Name Range -> Register
    record { takes = []; gives = 32 } ∷  -- 107, no_registers: -> Registers
    record { takes = 31 ∷ 32 ∷ []; gives = 32 } ∷  -- 108, add_register: Registers Register -> Registers
    record { takes = 9 ∷ []; gives = 33 } ∷  -- 109, ordered: Expr -> Ordered
    record { takes = []; gives = 34 } ∷  -- 110, no_ordered: -> OrderedValues
    record { takes = 33 ∷ 34 ∷ []; gives = 34 } ∷  -- 111, add_ordered: OrderedValues Ordered -> OrderedValues
    record { takes = 11 ∷ 2 ∷ 1 ∷ []; gives = 35 } ∷  -- 112, named: Place Name ExprOption -> Named
    record { takes = []; gives = 36 } ∷  -- 113, no_named: -> NamedValues
    record { takes = 35 ∷ 36 ∷ []; gives = 36 } ∷  -- 114, add_named: NamedValues Named -> NamedValues
    record { takes = []; gives = 37 } ∷  -- 115, no_connections: -> Connections
    record { takes = 34 ∷ []; gives = 37 } ∷  -- 116, ordered_connections: OrderedValues -> Connections
    record { takes = 36 ∷ []; gives = 37 } ∷  -- 117, named_connections: NamedValues -> Connections
    record { takes = 37 ∷ []; gives = 38 } ∷  -- 118, some_overrides: Connections -> Overrides
    record { takes = []; gives = 38 } ∷  -- 119, no_overrides: -> Overrides
    record { takes = 37 ∷ 2 ∷ []; gives = 39 } ∷  -- 120, instance: Name Connections -> Instance
    record { takes = []; gives = 40 } ∷  -- 121, no_instances: -> Instances
    record { takes = 39 ∷ 40 ∷ []; gives = 40 } ∷  -- 122, add_instance: Instances Instance -> Instances
    record { takes = 9 ∷ 12 ∷ []; gives = 41 } ∷  -- 123, net_assignment: Target Expr -> NetAssignment
    record { takes = []; gives = 42 } ∷  -- 124, no_net_assignments: -> NetAssignments
    record { takes = 41 ∷ 42 ∷ []; gives = 42 } ∷  -- 125, add_net_assignment: NetAssignments NetAssignment -> NetAssignments
    record { takes = []; gives = 43 } ∷  -- 126, any_event: -> Event
    record { takes = 2 ∷ []; gives = 43 } ∷  -- 127, posedge_event: Name -> Event
    record { takes = 25 ∷ []; gives = 43 } ∷  -- 128, names_event: Names -> Event
    record { takes = 26 ∷ 21 ∷ 30 ∷ 29 ∷ 6 ∷ []; gives = 44 } ∷  -- 129, port_item: Direction NetKind Sign RangeOption DeclaredNames -> Item
    record { takes = 28 ∷ 21 ∷ 30 ∷ 1 ∷ []; gives = 44 } ∷  -- 130, net_item: Place Sign RangeOption Declarators -> Item
    record { takes = 32 ∷ 21 ∷ 30 ∷ 1 ∷ []; gives = 44 } ∷  -- 131, reg_item: Place Sign RangeOption Registers -> Item
    record { takes = 26 ∷ 1 ∷ []; gives = 44 } ∷  -- 132, integer_item: Place DeclaredNames -> Item
    record { takes = 24 ∷ 22 ∷ 1 ∷ []; gives = 44 } ∷  -- 133, parameter_item: Place ParameterRange Parameters -> Item
    record { takes = 24 ∷ 22 ∷ 1 ∷ []; gives = 44 } ∷  -- 134, local_parameter_item: Place ParameterRange Parameters -> Item
    record { takes = 42 ∷ 1 ∷ []; gives = 44 } ∷  -- 135, assign_item: Place NetAssignments -> Item
    record { takes = 15 ∷ 43 ∷ 1 ∷ []; gives = 44 } ∷  -- 136, always_item: Place Event Stmt -> Item
    record { takes = 15 ∷ 1 ∷ []; gives = 44 } ∷  -- 137, initial_item: Place Stmt -> Item
    record { takes = 40 ∷ 38 ∷ 2 ∷ []; gives = 44 } ∷  -- 138, instances_item: Name Overrides Instances -> Item
    record { takes = []; gives = 45 } ∷  -- 139, no_items: -> Items
    record { takes = 44 ∷ 45 ∷ []; gives = 45 } ∷  -- 140, add_item: Items Item -> Items
    record { takes = []; gives = 46 } ∷  -- 141, no_groups: -> Groups
    record { takes = 24 ∷ 22 ∷ 1 ∷ 46 ∷ []; gives = 46 } ∷  -- 142, close_group: Groups Place ParameterRange Parameters -> Groups
    record { takes = []; gives = 47 } ∷  -- 143, no_ports: -> Ports
    record { takes = 28 ∷ 21 ∷ 30 ∷ 29 ∷ 6 ∷ 47 ∷ []; gives = 47 } ∷  -- 144, close_port: Ports Direction NetKind Sign RangeOption Declarators -> Ports
    record { takes = []; gives = 48 } ∷  -- 145, absent_header: -> Header
    record { takes = []; gives = 48 } ∷  -- 146, empty_header: -> Header
    record { takes = 25 ∷ []; gives = 48 } ∷  -- 147, header_names: Names -> Header
    record { takes = 47 ∷ []; gives = 48 } ∷  -- 148, header_ports: Ports -> Header
    record { takes = 45 ∷ 48 ∷ 46 ∷ 2 ∷ 1 ∷ []; gives = 49 } ∷  -- 149, module: Place Name Groups Header Items -> Module
    record { takes = []; gives = 50 } ∷  -- 150, no_modules: -> Modules
    record { takes = 49 ∷ 50 ∷ []; gives = 50 } ∷  -- 151, add_module: Modules Module -> Modules
    record { takes = 50 ∷ []; gives = 51 } ∷  -- 152, source: Modules -> Source
    []

-- the effect of each nonterminal
unfoldable pub EFFECTS : List Effect
EFFECTS =
    record { takes = []; gives = 51 ∷ [] } ∷  -- 256, Source: -> Source
    record { takes = 50 ∷ []; gives = 50 ∷ [] } ∷  -- 257, Modules: Modules -> Modules
    record { takes = []; gives = 49 ∷ [] } ∷  -- 258, Module: -> Module
    record { takes = []; gives = 46 ∷ [] } ∷  -- 259, Groups: -> Groups
    record { takes = []; gives = 24 ∷ 22 ∷ 1 ∷ [] } ∷  -- 260, Group: -> Place ParameterRange Parameters
    record { takes = 24 ∷ 22 ∷ 1 ∷ 46 ∷ []; gives = 46 ∷ [] } ∷  -- 261, GroupRest: Groups Place ParameterRange Parameters -> Groups
    record { takes = 24 ∷ 22 ∷ 1 ∷ 46 ∷ []; gives = 46 ∷ [] } ∷  -- 262, GroupNext: Groups Place ParameterRange Parameters -> Groups
    record { takes = []; gives = 22 ∷ [] } ∷  -- 263, ParameterRange: -> ParameterRange
    record { takes = []; gives = 23 ∷ [] } ∷  -- 264, Parameter: -> Parameter
    record { takes = []; gives = 24 ∷ [] } ∷  -- 265, Parameters: -> Parameters
    record { takes = 24 ∷ []; gives = 24 ∷ [] } ∷  -- 266, MoreParameters: Parameters -> Parameters
    record { takes = []; gives = 20 ∷ [] } ∷  -- 267, Range: -> Range
    record { takes = []; gives = 21 ∷ [] } ∷  -- 268, RangeOption: -> RangeOption
    record { takes = []; gives = 48 ∷ [] } ∷  -- 269, Header: -> Header
    record { takes = []; gives = 48 ∷ [] } ∷  -- 270, Ports: -> Header
    record { takes = []; gives = 28 ∷ 21 ∷ 30 ∷ 29 ∷ 6 ∷ [] } ∷  -- 271, Port: -> Direction NetKind Sign RangeOption Declarators
    record { takes = 28 ∷ 21 ∷ 30 ∷ 29 ∷ 6 ∷ 47 ∷ []; gives = 47 ∷ [] } ∷  -- 272, PortRest: Ports Direction NetKind Sign RangeOption Declarators -> Ports
    record { takes = 28 ∷ 21 ∷ 30 ∷ 29 ∷ 6 ∷ 47 ∷ []; gives = 47 ∷ [] } ∷  -- 273, PortNext: Ports Direction NetKind Sign RangeOption Declarators -> Ports
    record { takes = []; gives = 6 ∷ [] } ∷  -- 274, Direction: -> Direction
    record { takes = []; gives = 29 ∷ [] } ∷  -- 275, NetKind: -> NetKind
    record { takes = []; gives = 30 ∷ [] } ∷  -- 276, Sign: -> Sign
    record { takes = []; gives = 27 ∷ [] } ∷  -- 277, Declarator: -> Declarator
    record { takes = []; gives = 28 ∷ [] } ∷  -- 278, Declarators: -> Declarators
    record { takes = 28 ∷ []; gives = 28 ∷ [] } ∷  -- 279, MoreDeclarators: Declarators -> Declarators
    record { takes = []; gives = 11 ∷ [] } ∷  -- 280, ValueOption: -> ExprOption
    record { takes = []; gives = 25 ∷ [] } ∷  -- 281, Names: -> Names
    record { takes = 25 ∷ []; gives = 25 ∷ [] } ∷  -- 282, MoreNames: Names -> Names
    record { takes = []; gives = 26 ∷ [] } ∷  -- 283, DeclaredNames: -> DeclaredNames
    record { takes = 26 ∷ []; gives = 26 ∷ [] } ∷  -- 284, MoreDeclaredNames: DeclaredNames -> DeclaredNames
    record { takes = 45 ∷ []; gives = 45 ∷ [] } ∷  -- 285, Items: Items -> Items
    record { takes = []; gives = 44 ∷ [] } ∷  -- 286, Item: -> Item
    record { takes = []; gives = 32 ∷ [] } ∷  -- 287, Registers: -> Registers
    record { takes = 32 ∷ []; gives = 32 ∷ [] } ∷  -- 288, MoreRegisters: Registers -> Registers
    record { takes = []; gives = 31 ∷ [] } ∷  -- 289, Register: -> Register
    record { takes = 2 ∷ []; gives = 31 ∷ [] } ∷  -- 290, RegisterRest: Name -> Register
    record { takes = []; gives = 42 ∷ [] } ∷  -- 291, NetAssignments: -> NetAssignments
    record { takes = 42 ∷ []; gives = 42 ∷ [] } ∷  -- 292, MoreNetAssignments: NetAssignments -> NetAssignments
    record { takes = []; gives = 41 ∷ [] } ∷  -- 293, NetAssignment: -> NetAssignment
    record { takes = []; gives = 38 ∷ [] } ∷  -- 294, Overrides: -> Overrides
    record { takes = []; gives = 40 ∷ [] } ∷  -- 295, Instances: -> Instances
    record { takes = 40 ∷ []; gives = 40 ∷ [] } ∷  -- 296, MoreInstances: Instances -> Instances
    record { takes = []; gives = 39 ∷ [] } ∷  -- 297, Instance: -> Instance
    record { takes = []; gives = 37 ∷ [] } ∷  -- 298, Connections: -> Connections
    record { takes = 34 ∷ []; gives = 34 ∷ [] } ∷  -- 299, MoreOrdered: OrderedValues -> OrderedValues
    record { takes = 36 ∷ []; gives = 36 ∷ [] } ∷  -- 300, MoreNamed: NamedValues -> NamedValues
    record { takes = []; gives = 35 ∷ [] } ∷  -- 301, Named: -> Named
    record { takes = []; gives = 11 ∷ [] } ∷  -- 302, ExprOption: -> ExprOption
    record { takes = []; gives = 43 ∷ [] } ∷  -- 303, Event: -> Event
    record { takes = []; gives = 43 ∷ [] } ∷  -- 304, EventRest: -> Event
    record { takes = []; gives = 43 ∷ [] } ∷  -- 305, EventIn: -> Event
    record { takes = 25 ∷ []; gives = 25 ∷ [] } ∷  -- 306, EventMore: Names -> Names
    record { takes = []; gives = [] } ∷  -- 307, EventMark: ->
    record { takes = []; gives = 15 ∷ [] } ∷  -- 308, Stmt: -> Stmt
    record { takes = []; gives = 16 ∷ [] } ∷  -- 309, Label: -> Label
    record { takes = 17 ∷ []; gives = 17 ∷ [] } ∷  -- 310, Stmts: Stmts -> Stmts
    record { takes = 15 ∷ 9 ∷ 1 ∷ []; gives = 15 ∷ [] } ∷  -- 311, ElseOption: Place Expr Stmt -> Stmt
    record { takes = []; gives = 18 ∷ [] } ∷  -- 312, CaseItems: -> CaseItems
    record { takes = 18 ∷ []; gives = 18 ∷ [] } ∷  -- 313, MoreCaseItems: CaseItems -> CaseItems
    record { takes = []; gives = 19 ∷ [] } ∷  -- 314, CaseItem: -> CaseItem
    record { takes = []; gives = [] } ∷  -- 315, ColonOption: ->
    record { takes = []; gives = 14 ∷ [] } ∷  -- 316, AssignmentKind: -> AssignmentKind
    record { takes = []; gives = 12 ∷ [] } ∷  -- 317, Target: -> Target
    record { takes = 2 ∷ []; gives = 12 ∷ [] } ∷  -- 318, TargetRest: Name -> Target
    record { takes = 13 ∷ []; gives = 13 ∷ [] } ∷  -- 319, MoreTargets: Targets -> Targets
    record { takes = []; gives = 10 ∷ [] } ∷  -- 320, Selection: -> Selection
    record { takes = 9 ∷ []; gives = 10 ∷ [] } ∷  -- 321, SelectionRest: Expr -> Selection
    record { takes = []; gives = 0 ∷ [] } ∷  -- 322, Exprs: -> Exprs
    record { takes = 0 ∷ []; gives = 0 ∷ [] } ∷  -- 323, MoreExprs: Exprs -> Exprs
    record { takes = []; gives = 9 ∷ [] } ∷  -- 324, Expr: -> Expr
    record { takes = []; gives = 9 ∷ [] } ∷  -- 325, U10: -> Expr
    record { takes = []; gives = 9 ∷ [] } ∷  -- 326, U9: -> Expr
    record { takes = []; gives = 9 ∷ [] } ∷  -- 327, U8: -> Expr
    record { takes = []; gives = 9 ∷ [] } ∷  -- 328, U7: -> Expr
    record { takes = []; gives = 9 ∷ [] } ∷  -- 329, U6: -> Expr
    record { takes = []; gives = 9 ∷ [] } ∷  -- 330, U5: -> Expr
    record { takes = []; gives = 9 ∷ [] } ∷  -- 331, U4: -> Expr
    record { takes = []; gives = 9 ∷ [] } ∷  -- 332, U3: -> Expr
    record { takes = []; gives = 9 ∷ [] } ∷  -- 333, U2: -> Expr
    record { takes = []; gives = 9 ∷ [] } ∷  -- 334, U1: -> Expr
    record { takes = 9 ∷ []; gives = 9 ∷ [] } ∷  -- 335, T0: Expr -> Expr
    record { takes = 9 ∷ []; gives = 9 ∷ [] } ∷  -- 336, T1: Expr -> Expr
    record { takes = 9 ∷ []; gives = 9 ∷ [] } ∷  -- 337, T2: Expr -> Expr
    record { takes = 9 ∷ []; gives = 9 ∷ [] } ∷  -- 338, T3: Expr -> Expr
    record { takes = 9 ∷ []; gives = 9 ∷ [] } ∷  -- 339, T4: Expr -> Expr
    record { takes = 9 ∷ []; gives = 9 ∷ [] } ∷  -- 340, T5: Expr -> Expr
    record { takes = 9 ∷ []; gives = 9 ∷ [] } ∷  -- 341, T6: Expr -> Expr
    record { takes = 9 ∷ []; gives = 9 ∷ [] } ∷  -- 342, T7: Expr -> Expr
    record { takes = 9 ∷ []; gives = 9 ∷ [] } ∷  -- 343, T8: Expr -> Expr
    record { takes = 9 ∷ []; gives = 9 ∷ [] } ∷  -- 344, T9: Expr -> Expr
    record { takes = 9 ∷ []; gives = 9 ∷ [] } ∷  -- 345, T10: Expr -> Expr
    record { takes = []; gives = 8 ∷ [] } ∷  -- 346, XorOperator: -> BinaryOperator
    record { takes = []; gives = 8 ∷ [] } ∷  -- 347, EqualOperator: -> BinaryOperator
    record { takes = []; gives = 8 ∷ [] } ∷  -- 348, OrderOperator: -> BinaryOperator
    record { takes = []; gives = 8 ∷ [] } ∷  -- 349, ShiftOperator: -> BinaryOperator
    record { takes = []; gives = 8 ∷ [] } ∷  -- 350, SumOperator: -> BinaryOperator
    record { takes = []; gives = 8 ∷ [] } ∷  -- 351, ProductOperator: -> BinaryOperator
    record { takes = []; gives = 9 ∷ [] } ∷  -- 352, Unary: -> Expr
    record { takes = []; gives = 7 ∷ [] } ∷  -- 353, UnaryOperator: -> UnaryOperator
    record { takes = []; gives = 9 ∷ [] } ∷  -- 354, Primary: -> Expr
    record { takes = 4 ∷ []; gives = 9 ∷ [] } ∷  -- 355, BasedOption: Decimal -> Expr
    record { takes = 2 ∷ []; gives = 9 ∷ [] } ∷  -- 356, SelectOption: Name -> Expr
    record { takes = 9 ∷ 1 ∷ []; gives = 9 ∷ [] } ∷  -- 357, BraceRest: Place Expr -> Expr
    record { takes = []; gives = 50 ∷ [] } ∷  -- 358, {no_modules}: -> Modules
    record { takes = 50 ∷ []; gives = 51 ∷ [] } ∷  -- 359, {source}: Modules -> Source
    record { takes = 49 ∷ 50 ∷ []; gives = 50 ∷ [] } ∷  -- 360, {add_module}: Modules Module -> Modules
    record { takes = []; gives = 1 ∷ [] } ∷  -- 361, <place>: -> Place
    record { takes = []; gives = 2 ∷ [] } ∷  -- 362, <name>: -> Name
    record { takes = []; gives = 45 ∷ [] } ∷  -- 363, {no_items}: -> Items
    record { takes = 45 ∷ 48 ∷ 46 ∷ 2 ∷ 1 ∷ []; gives = 49 ∷ [] } ∷  -- 364, {module}: Place Name Groups Header Items -> Module
    record { takes = []; gives = 46 ∷ [] } ∷  -- 365, {no_groups}: -> Groups
    record { takes = []; gives = 24 ∷ [] } ∷  -- 366, {no_parameters:1}: -> Parameters
    record { takes = 23 ∷ 24 ∷ []; gives = 24 ∷ [] } ∷  -- 367, {add_parameter:1}: Parameters Parameter -> Parameters
    record { takes = 24 ∷ 22 ∷ 1 ∷ 46 ∷ []; gives = 46 ∷ [] } ∷  -- 368, {close_group:1}: Groups Place ParameterRange Parameters -> Groups
    record { takes = 23 ∷ 24 ∷ []; gives = 24 ∷ [] } ∷  -- 369, {add_parameter:2}: Parameters Parameter -> Parameters
    record { takes = 24 ∷ 22 ∷ 1 ∷ 46 ∷ []; gives = 46 ∷ [] } ∷  -- 370, {close_group:2}: Groups Place ParameterRange Parameters -> Groups
    record { takes = 20 ∷ []; gives = 22 ∷ [] } ∷  -- 371, {signed_range}: Range -> ParameterRange
    record { takes = 20 ∷ []; gives = 22 ∷ [] } ∷  -- 372, {plain_range}: Range -> ParameterRange
    record { takes = 9 ∷ 2 ∷ []; gives = 23 ∷ [] } ∷  -- 373, {parameter}: Name Expr -> Parameter
    record { takes = []; gives = 24 ∷ [] } ∷  -- 374, {no_parameters:2}: -> Parameters
    record { takes = 23 ∷ 24 ∷ []; gives = 24 ∷ [] } ∷  -- 375, {add_parameter:3}: Parameters Parameter -> Parameters
    record { takes = 23 ∷ 24 ∷ []; gives = 24 ∷ [] } ∷  -- 376, {add_parameter:4}: Parameters Parameter -> Parameters
    record { takes = 9 ∷ 9 ∷ 1 ∷ []; gives = 20 ∷ [] } ∷  -- 377, {range}: Place Expr Expr -> Range
    record { takes = 20 ∷ []; gives = 21 ∷ [] } ∷  -- 378, {some_range}: Range -> RangeOption
    record { takes = 25 ∷ []; gives = 48 ∷ [] } ∷  -- 379, {header_names}: Names -> Header
    record { takes = []; gives = 47 ∷ [] } ∷  -- 380, {no_ports}: -> Ports
    record { takes = 47 ∷ []; gives = 48 ∷ [] } ∷  -- 381, {header_ports}: Ports -> Header
    record { takes = []; gives = 28 ∷ [] } ∷  -- 382, {no_declarators:1}: -> Declarators
    record { takes = 27 ∷ 28 ∷ []; gives = 28 ∷ [] } ∷  -- 383, {add_declarator:1}: Declarators Declarator -> Declarators
    record { takes = 28 ∷ 21 ∷ 30 ∷ 29 ∷ 6 ∷ 47 ∷ []; gives = 47 ∷ [] } ∷  -- 384, {close_port:1}: Ports Direction NetKind Sign RangeOption Declarators -> Ports
    record { takes = 27 ∷ 28 ∷ []; gives = 28 ∷ [] } ∷  -- 385, {add_declarator:2}: Declarators Declarator -> Declarators
    record { takes = 28 ∷ 21 ∷ 30 ∷ 29 ∷ 6 ∷ 47 ∷ []; gives = 47 ∷ [] } ∷  -- 386, {close_port:2}: Ports Direction NetKind Sign RangeOption Declarators -> Ports
    record { takes = []; gives = 6 ∷ [] } ∷  -- 387, <input>: -> Direction
    record { takes = []; gives = 6 ∷ [] } ∷  -- 388, <output>: -> Direction
    record { takes = []; gives = 29 ∷ [] } ∷  -- 389, {wire_kind}: -> NetKind
    record { takes = []; gives = 29 ∷ [] } ∷  -- 390, {reg_kind}: -> NetKind
    record { takes = []; gives = 30 ∷ [] } ∷  -- 391, {signed}: -> Sign
    record { takes = 11 ∷ 2 ∷ []; gives = 27 ∷ [] } ∷  -- 392, {declarator}: Name ExprOption -> Declarator
    record { takes = []; gives = 28 ∷ [] } ∷  -- 393, {no_declarators:2}: -> Declarators
    record { takes = 27 ∷ 28 ∷ []; gives = 28 ∷ [] } ∷  -- 394, {add_declarator:3}: Declarators Declarator -> Declarators
    record { takes = 27 ∷ 28 ∷ []; gives = 28 ∷ [] } ∷  -- 395, {add_declarator:4}: Declarators Declarator -> Declarators
    record { takes = 9 ∷ []; gives = 11 ∷ [] } ∷  -- 396, {some_expr:1}: Expr -> ExprOption
    record { takes = []; gives = 25 ∷ [] } ∷  -- 397, {no_names:1}: -> Names
    record { takes = 2 ∷ 25 ∷ []; gives = 25 ∷ [] } ∷  -- 398, {add_name:1}: Names Name -> Names
    record { takes = 2 ∷ 25 ∷ []; gives = 25 ∷ [] } ∷  -- 399, {add_name:2}: Names Name -> Names
    record { takes = []; gives = 26 ∷ [] } ∷  -- 400, {no_declared}: -> DeclaredNames
    record { takes = []; gives = 3 ∷ [] } ∷  -- 401, <declared>: -> Declared
    record { takes = 3 ∷ 26 ∷ []; gives = 26 ∷ [] } ∷  -- 402, {add_declared:1}: DeclaredNames Declared -> DeclaredNames
    record { takes = 3 ∷ 26 ∷ []; gives = 26 ∷ [] } ∷  -- 403, {add_declared:2}: DeclaredNames Declared -> DeclaredNames
    record { takes = 44 ∷ 45 ∷ []; gives = 45 ∷ [] } ∷  -- 404, {add_item}: Items Item -> Items
    record { takes = 26 ∷ 21 ∷ 30 ∷ 29 ∷ 6 ∷ []; gives = 44 ∷ [] } ∷  -- 405, {port_item}: Direction NetKind Sign RangeOption DeclaredNames -> Item
    record { takes = 28 ∷ 21 ∷ 30 ∷ 1 ∷ []; gives = 44 ∷ [] } ∷  -- 406, {net_item}: Place Sign RangeOption Declarators -> Item
    record { takes = 32 ∷ 21 ∷ 30 ∷ 1 ∷ []; gives = 44 ∷ [] } ∷  -- 407, {reg_item}: Place Sign RangeOption Registers -> Item
    record { takes = 26 ∷ 1 ∷ []; gives = 44 ∷ [] } ∷  -- 408, {integer_item}: Place DeclaredNames -> Item
    record { takes = 24 ∷ 22 ∷ 1 ∷ []; gives = 44 ∷ [] } ∷  -- 409, {parameter_item}: Place ParameterRange Parameters -> Item
    record { takes = 24 ∷ 22 ∷ 1 ∷ []; gives = 44 ∷ [] } ∷  -- 410, {local_parameter_item}: Place ParameterRange Parameters -> Item
    record { takes = 42 ∷ 1 ∷ []; gives = 44 ∷ [] } ∷  -- 411, {assign_item}: Place NetAssignments -> Item
    record { takes = 15 ∷ 43 ∷ 1 ∷ []; gives = 44 ∷ [] } ∷  -- 412, {always_item}: Place Event Stmt -> Item
    record { takes = 15 ∷ 1 ∷ []; gives = 44 ∷ [] } ∷  -- 413, {initial_item}: Place Stmt -> Item
    record { takes = 40 ∷ 38 ∷ 2 ∷ []; gives = 44 ∷ [] } ∷  -- 414, {instances_item}: Name Overrides Instances -> Item
    record { takes = []; gives = 32 ∷ [] } ∷  -- 415, {no_registers}: -> Registers
    record { takes = 31 ∷ 32 ∷ []; gives = 32 ∷ [] } ∷  -- 416, {add_register:1}: Registers Register -> Registers
    record { takes = 31 ∷ 32 ∷ []; gives = 32 ∷ [] } ∷  -- 417, {add_register:2}: Registers Register -> Registers
    record { takes = 9 ∷ 2 ∷ []; gives = 31 ∷ [] } ∷  -- 418, {initialized_register}: Name Expr -> Register
    record { takes = 20 ∷ 2 ∷ []; gives = 31 ∷ [] } ∷  -- 419, {memory}: Name Range -> Register
    record { takes = []; gives = 42 ∷ [] } ∷  -- 420, {no_net_assignments}: -> NetAssignments
    record { takes = 41 ∷ 42 ∷ []; gives = 42 ∷ [] } ∷  -- 421, {add_net_assignment:1}: NetAssignments NetAssignment -> NetAssignments
    record { takes = 41 ∷ 42 ∷ []; gives = 42 ∷ [] } ∷  -- 422, {add_net_assignment:2}: NetAssignments NetAssignment -> NetAssignments
    record { takes = 9 ∷ 12 ∷ []; gives = 41 ∷ [] } ∷  -- 423, {net_assignment}: Target Expr -> NetAssignment
    record { takes = 37 ∷ []; gives = 38 ∷ [] } ∷  -- 424, {some_overrides}: Connections -> Overrides
    record { takes = []; gives = 40 ∷ [] } ∷  -- 425, {no_instances}: -> Instances
    record { takes = 39 ∷ 40 ∷ []; gives = 40 ∷ [] } ∷  -- 426, {add_instance:1}: Instances Instance -> Instances
    record { takes = 39 ∷ 40 ∷ []; gives = 40 ∷ [] } ∷  -- 427, {add_instance:2}: Instances Instance -> Instances
    record { takes = 37 ∷ 2 ∷ []; gives = 39 ∷ [] } ∷  -- 428, {instance}: Name Connections -> Instance
    record { takes = []; gives = 34 ∷ [] } ∷  -- 429, {no_ordered}: -> OrderedValues
    record { takes = 9 ∷ []; gives = 33 ∷ [] } ∷  -- 430, {ordered:1}: Expr -> Ordered
    record { takes = 33 ∷ 34 ∷ []; gives = 34 ∷ [] } ∷  -- 431, {add_ordered:1}: OrderedValues Ordered -> OrderedValues
    record { takes = 34 ∷ []; gives = 37 ∷ [] } ∷  -- 432, {ordered_connections}: OrderedValues -> Connections
    record { takes = []; gives = 36 ∷ [] } ∷  -- 433, {no_named}: -> NamedValues
    record { takes = 35 ∷ 36 ∷ []; gives = 36 ∷ [] } ∷  -- 434, {add_named:1}: NamedValues Named -> NamedValues
    record { takes = 36 ∷ []; gives = 37 ∷ [] } ∷  -- 435, {named_connections}: NamedValues -> Connections
    record { takes = 9 ∷ []; gives = 33 ∷ [] } ∷  -- 436, {ordered:2}: Expr -> Ordered
    record { takes = 33 ∷ 34 ∷ []; gives = 34 ∷ [] } ∷  -- 437, {add_ordered:2}: OrderedValues Ordered -> OrderedValues
    record { takes = 35 ∷ 36 ∷ []; gives = 36 ∷ [] } ∷  -- 438, {add_named:2}: NamedValues Named -> NamedValues
    record { takes = 11 ∷ 2 ∷ 1 ∷ []; gives = 35 ∷ [] } ∷  -- 439, {named}: Place Name ExprOption -> Named
    record { takes = 9 ∷ []; gives = 11 ∷ [] } ∷  -- 440, {some_expr:2}: Expr -> ExprOption
    record { takes = []; gives = 43 ∷ [] } ∷  -- 441, {any_event:1}: -> Event
    record { takes = []; gives = 43 ∷ [] } ∷  -- 442, {any_event:2}: -> Event
    record { takes = 2 ∷ []; gives = 43 ∷ [] } ∷  -- 443, {posedge_event}: Name -> Event
    record { takes = []; gives = 25 ∷ [] } ∷  -- 444, {no_names:2}: -> Names
    record { takes = 2 ∷ 25 ∷ []; gives = 25 ∷ [] } ∷  -- 445, {add_name:3}: Names Name -> Names
    record { takes = 25 ∷ []; gives = 43 ∷ [] } ∷  -- 446, {names_event}: Names -> Event
    record { takes = 2 ∷ 25 ∷ []; gives = 25 ∷ [] } ∷  -- 447, {add_name:4}: Names Name -> Names
    record { takes = []; gives = 17 ∷ [] } ∷  -- 448, {no_stmts}: -> Stmts
    record { takes = 17 ∷ 16 ∷ 1 ∷ []; gives = 15 ∷ [] } ∷  -- 449, {block}: Place Label Stmts -> Stmt
    record { takes = 1 ∷ []; gives = 15 ∷ [] } ∷  -- 450, {empty}: Place -> Stmt
    record { takes = 18 ∷ 9 ∷ 1 ∷ []; gives = 15 ∷ [] } ∷  -- 451, {case}: Place Expr CaseItems -> Stmt
    record { takes = 18 ∷ 9 ∷ 1 ∷ []; gives = 15 ∷ [] } ∷  -- 452, {casez}: Place Expr CaseItems -> Stmt
    record { takes = 15 ∷ 9 ∷ 2 ∷ 9 ∷ 9 ∷ 2 ∷ 1 ∷ []; gives = 15 ∷ [] } ∷  -- 453, {for}: Place Name Expr Expr Name Expr Stmt -> Stmt
    record { takes = 9 ∷ 14 ∷ 12 ∷ []; gives = 15 ∷ [] } ∷  -- 454, {assignment}: Target AssignmentKind Expr -> Stmt
    record { takes = 2 ∷ []; gives = 16 ∷ [] } ∷  -- 455, {some_label}: Name -> Label
    record { takes = 15 ∷ 17 ∷ []; gives = 17 ∷ [] } ∷  -- 456, {add_stmt}: Stmts Stmt -> Stmts
    record { takes = 15 ∷ 15 ∷ 9 ∷ 1 ∷ []; gives = 15 ∷ [] } ∷  -- 457, {if_else}: Place Expr Stmt Stmt -> Stmt
    record { takes = []; gives = 18 ∷ [] } ∷  -- 458, {no_case_items}: -> CaseItems
    record { takes = 19 ∷ 18 ∷ []; gives = 18 ∷ [] } ∷  -- 459, {add_case_item:1}: CaseItems CaseItem -> CaseItems
    record { takes = 19 ∷ 18 ∷ []; gives = 18 ∷ [] } ∷  -- 460, {add_case_item:2}: CaseItems CaseItem -> CaseItems
    record { takes = 15 ∷ 0 ∷ []; gives = 19 ∷ [] } ∷  -- 461, {values_item}: Exprs Stmt -> CaseItem
    record { takes = 15 ∷ 1 ∷ []; gives = 19 ∷ [] } ∷  -- 462, {default_item}: Place Stmt -> CaseItem
    record { takes = []; gives = 14 ∷ [] } ∷  -- 463, {blocking}: -> AssignmentKind
    record { takes = []; gives = 14 ∷ [] } ∷  -- 464, {nonblocking}: -> AssignmentKind
    record { takes = []; gives = 13 ∷ [] } ∷  -- 465, {no_targets}: -> Targets
    record { takes = 12 ∷ 13 ∷ []; gives = 13 ∷ [] } ∷  -- 466, {add_target:1}: Targets Target -> Targets
    record { takes = 13 ∷ 1 ∷ []; gives = 12 ∷ [] } ∷  -- 467, {target_concatenation}: Place Targets -> Target
    record { takes = 10 ∷ 2 ∷ []; gives = 12 ∷ [] } ∷  -- 468, {target_select}: Name Selection -> Target
    record { takes = 12 ∷ 13 ∷ []; gives = 13 ∷ [] } ∷  -- 469, {add_target:2}: Targets Target -> Targets
    record { takes = 9 ∷ 9 ∷ []; gives = 10 ∷ [] } ∷  -- 470, {range_selection}: Expr Expr -> Selection
    record { takes = 9 ∷ 9 ∷ []; gives = 10 ∷ [] } ∷  -- 471, {up_selection}: Expr Expr -> Selection
    record { takes = 9 ∷ 9 ∷ []; gives = 10 ∷ [] } ∷  -- 472, {down_selection}: Expr Expr -> Selection
    record { takes = []; gives = 0 ∷ [] } ∷  -- 473, {no_exprs}: -> Exprs
    record { takes = 9 ∷ 0 ∷ []; gives = 0 ∷ [] } ∷  -- 474, {add_expr:1}: Exprs Expr -> Exprs
    record { takes = 9 ∷ 0 ∷ []; gives = 0 ∷ [] } ∷  -- 475, {add_expr:2}: Exprs Expr -> Exprs
    record { takes = 9 ∷ 9 ∷ 9 ∷ []; gives = 9 ∷ [] } ∷  -- 476, {conditional}: Expr Expr Expr -> Expr
    record { takes = []; gives = 8 ∷ [] } ∷  -- 477, <logical_or>: -> BinaryOperator
    record { takes = 9 ∷ 8 ∷ 9 ∷ []; gives = 9 ∷ [] } ∷  -- 478, {binary:1}: Expr BinaryOperator Expr -> Expr
    record { takes = []; gives = 8 ∷ [] } ∷  -- 479, <logical_and>: -> BinaryOperator
    record { takes = 9 ∷ 8 ∷ 9 ∷ []; gives = 9 ∷ [] } ∷  -- 480, {binary:2}: Expr BinaryOperator Expr -> Expr
    record { takes = []; gives = 8 ∷ [] } ∷  -- 481, <bit_or>: -> BinaryOperator
    record { takes = 9 ∷ 8 ∷ 9 ∷ []; gives = 9 ∷ [] } ∷  -- 482, {binary:3}: Expr BinaryOperator Expr -> Expr
    record { takes = 9 ∷ 8 ∷ 9 ∷ []; gives = 9 ∷ [] } ∷  -- 483, {binary:4}: Expr BinaryOperator Expr -> Expr
    record { takes = []; gives = 8 ∷ [] } ∷  -- 484, <bit_and>: -> BinaryOperator
    record { takes = 9 ∷ 8 ∷ 9 ∷ []; gives = 9 ∷ [] } ∷  -- 485, {binary:5}: Expr BinaryOperator Expr -> Expr
    record { takes = 9 ∷ 8 ∷ 9 ∷ []; gives = 9 ∷ [] } ∷  -- 486, {binary:6}: Expr BinaryOperator Expr -> Expr
    record { takes = 9 ∷ 8 ∷ 9 ∷ []; gives = 9 ∷ [] } ∷  -- 487, {binary:7}: Expr BinaryOperator Expr -> Expr
    record { takes = 9 ∷ 8 ∷ 9 ∷ []; gives = 9 ∷ [] } ∷  -- 488, {binary:8}: Expr BinaryOperator Expr -> Expr
    record { takes = 9 ∷ 8 ∷ 9 ∷ []; gives = 9 ∷ [] } ∷  -- 489, {binary:9}: Expr BinaryOperator Expr -> Expr
    record { takes = 9 ∷ 8 ∷ 9 ∷ []; gives = 9 ∷ [] } ∷  -- 490, {binary:10}: Expr BinaryOperator Expr -> Expr
    record { takes = []; gives = 8 ∷ [] } ∷  -- 491, <bit_xor>: -> BinaryOperator
    record { takes = []; gives = 8 ∷ [] } ∷  -- 492, <bit_xnor>: -> BinaryOperator
    record { takes = []; gives = 8 ∷ [] } ∷  -- 493, <equal>: -> BinaryOperator
    record { takes = []; gives = 8 ∷ [] } ∷  -- 494, <not_equal>: -> BinaryOperator
    record { takes = []; gives = 8 ∷ [] } ∷  -- 495, <less>: -> BinaryOperator
    record { takes = []; gives = 8 ∷ [] } ∷  -- 496, <less_equal>: -> BinaryOperator
    record { takes = []; gives = 8 ∷ [] } ∷  -- 497, <greater>: -> BinaryOperator
    record { takes = []; gives = 8 ∷ [] } ∷  -- 498, <greater_equal>: -> BinaryOperator
    record { takes = []; gives = 8 ∷ [] } ∷  -- 499, <shift_left>: -> BinaryOperator
    record { takes = []; gives = 8 ∷ [] } ∷  -- 500, <shift_right>: -> BinaryOperator
    record { takes = []; gives = 8 ∷ [] } ∷  -- 501, <arithmetic_shift_left>: -> BinaryOperator
    record { takes = []; gives = 8 ∷ [] } ∷  -- 502, <arithmetic_shift_right>: -> BinaryOperator
    record { takes = []; gives = 8 ∷ [] } ∷  -- 503, <add>: -> BinaryOperator
    record { takes = []; gives = 8 ∷ [] } ∷  -- 504, <subtract>: -> BinaryOperator
    record { takes = []; gives = 8 ∷ [] } ∷  -- 505, <multiply>: -> BinaryOperator
    record { takes = []; gives = 8 ∷ [] } ∷  -- 506, <divide>: -> BinaryOperator
    record { takes = []; gives = 8 ∷ [] } ∷  -- 507, <remainder>: -> BinaryOperator
    record { takes = 9 ∷ 7 ∷ []; gives = 9 ∷ [] } ∷  -- 508, {unary}: UnaryOperator Expr -> Expr
    record { takes = []; gives = 7 ∷ [] } ∷  -- 509, <plus>: -> UnaryOperator
    record { takes = []; gives = 7 ∷ [] } ∷  -- 510, <minus>: -> UnaryOperator
    record { takes = []; gives = 7 ∷ [] } ∷  -- 511, <logical_not>: -> UnaryOperator
    record { takes = []; gives = 7 ∷ [] } ∷  -- 512, <bit_not>: -> UnaryOperator
    record { takes = []; gives = 7 ∷ [] } ∷  -- 513, <reduce_and>: -> UnaryOperator
    record { takes = []; gives = 7 ∷ [] } ∷  -- 514, <reduce_nand>: -> UnaryOperator
    record { takes = []; gives = 7 ∷ [] } ∷  -- 515, <reduce_or>: -> UnaryOperator
    record { takes = []; gives = 7 ∷ [] } ∷  -- 516, <reduce_nor>: -> UnaryOperator
    record { takes = []; gives = 7 ∷ [] } ∷  -- 517, <reduce_xor>: -> UnaryOperator
    record { takes = []; gives = 7 ∷ [] } ∷  -- 518, <reduce_xnor>: -> UnaryOperator
    record { takes = []; gives = 4 ∷ [] } ∷  -- 519, <decimal>: -> Decimal
    record { takes = []; gives = 5 ∷ [] } ∷  -- 520, <based>: -> Based
    record { takes = 5 ∷ []; gives = 9 ∷ [] } ∷  -- 521, {based_literal}: Based -> Expr
    record { takes = 9 ∷ 1 ∷ []; gives = 9 ∷ [] } ∷  -- 522, {parentheses}: Place Expr -> Expr
    record { takes = 9 ∷ 1 ∷ []; gives = 9 ∷ [] } ∷  -- 523, {signed_call}: Place Expr -> Expr
    record { takes = 9 ∷ 1 ∷ []; gives = 9 ∷ [] } ∷  -- 524, {unsigned_call}: Place Expr -> Expr
    record { takes = 5 ∷ 4 ∷ []; gives = 9 ∷ [] } ∷  -- 525, {sized_literal}: Decimal Based -> Expr
    record { takes = 10 ∷ 2 ∷ []; gives = 9 ∷ [] } ∷  -- 526, {select}: Name Selection -> Expr
    record { takes = 9 ∷ []; gives = 0 ∷ [] } ∷  -- 527, {first_expr}: Expr -> Exprs
    record { takes = 0 ∷ 1 ∷ []; gives = 9 ∷ [] } ∷  -- 528, {concatenation}: Place Exprs -> Expr
    record { takes = 0 ∷ 9 ∷ 1 ∷ []; gives = 9 ∷ [] } ∷  -- 529, {replication}: Place Expr Exprs -> Expr
    []
