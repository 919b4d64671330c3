-- The kinds of token that each action of the Verilog profile comes right after, and the action of each spot.
use Rattle.std.specs.Prelude.{ℕ, List, [], ◌∷◌}

-- the kinds of token that each action comes right after, if it makes a value of one
unfoldable pub AFTER : List (List ℕ)
AFTER =
    ([]) ∷  -- 0, no_exprs
    (4 ∷ 5 ∷ 6 ∷ 7 ∷ 8 ∷ 9 ∷ 14 ∷ 15 ∷ 16 ∷ 18 ∷ 19 ∷ 20 ∷ 23 ∷ 25 ∷ 27 ∷ 59 ∷ 61 ∷ 63 ∷ 65 ∷ 67 ∷ 70 ∷ 71 ∷ []) ∷  -- 1, place
    (1 ∷ []) ∷  -- 2, name
    (1 ∷ []) ∷  -- 3, declared
    (2 ∷ []) ∷  -- 4, decimal
    (3 ∷ []) ∷  -- 5, based
    (17 ∷ []) ∷  -- 6, input
    (22 ∷ []) ∷  -- 7, output
    (28 ∷ []) ∷  -- 8, plus
    (29 ∷ []) ∷  -- 9, minus
    (33 ∷ []) ∷  -- 10, logical_not
    (34 ∷ []) ∷  -- 11, bit_not
    (35 ∷ []) ∷  -- 12, reduce_and
    (38 ∷ []) ∷  -- 13, reduce_nand
    (36 ∷ []) ∷  -- 14, reduce_or
    (39 ∷ []) ∷  -- 15, reduce_nor
    (37 ∷ []) ∷  -- 16, reduce_xor
    (40 ∷ 41 ∷ []) ∷  -- 17, reduce_xnor
    (43 ∷ []) ∷  -- 18, logical_or
    (42 ∷ []) ∷  -- 19, logical_and
    (36 ∷ []) ∷  -- 20, bit_or
    (37 ∷ []) ∷  -- 21, bit_xor
    (40 ∷ 41 ∷ []) ∷  -- 22, bit_xnor
    (35 ∷ []) ∷  -- 23, bit_and
    (44 ∷ []) ∷  -- 24, equal
    (45 ∷ []) ∷  -- 25, not_equal
    (46 ∷ []) ∷  -- 26, less
    (47 ∷ []) ∷  -- 27, less_equal
    (48 ∷ []) ∷  -- 28, greater
    (49 ∷ []) ∷  -- 29, greater_equal
    (50 ∷ []) ∷  -- 30, shift_left
    (51 ∷ []) ∷  -- 31, shift_right
    (52 ∷ []) ∷  -- 32, arithmetic_shift_left
    (53 ∷ []) ∷  -- 33, arithmetic_shift_right
    (28 ∷ []) ∷  -- 34, add
    (29 ∷ []) ∷  -- 35, subtract
    (30 ∷ []) ∷  -- 36, multiply
    (31 ∷ []) ∷  -- 37, divide
    (32 ∷ []) ∷  -- 38, remainder
    ([]) ∷  -- 39, decimal_literal
    ([]) ∷  -- 40, based_literal
    ([]) ∷  -- 41, sized_literal
    ([]) ∷  -- 42, name_alone
    ([]) ∷  -- 43, select
    ([]) ∷  -- 44, unary
    ([]) ∷  -- 45, binary
    ([]) ∷  -- 46, conditional
    ([]) ∷  -- 47, parentheses
    ([]) ∷  -- 48, concatenation
    ([]) ∷  -- 49, replication
    ([]) ∷  -- 50, signed_call
    ([]) ∷  -- 51, unsigned_call
    ([]) ∷  -- 52, index_selection
    ([]) ∷  -- 53, range_selection
    ([]) ∷  -- 54, up_selection
    ([]) ∷  -- 55, down_selection
    ([]) ∷  -- 56, add_expr
    ([]) ∷  -- 57, first_expr
    ([]) ∷  -- 58, some_expr
    ([]) ∷  -- 59, no_expr
    ([]) ∷  -- 60, target_name
    ([]) ∷  -- 61, target_select
    ([]) ∷  -- 62, target_concatenation
    ([]) ∷  -- 63, no_targets
    ([]) ∷  -- 64, add_target
    ([]) ∷  -- 65, blocking
    ([]) ∷  -- 66, nonblocking
    ([]) ∷  -- 67, assignment
    ([]) ∷  -- 68, empty
    ([]) ∷  -- 69, some_label
    ([]) ∷  -- 70, no_label
    ([]) ∷  -- 71, block
    ([]) ∷  -- 72, no_stmts
    ([]) ∷  -- 73, add_stmt
    ([]) ∷  -- 74, if_alone
    ([]) ∷  -- 75, if_else
    ([]) ∷  -- 76, case
    ([]) ∷  -- 77, casez
    ([]) ∷  -- 78, values_item
    ([]) ∷  -- 79, default_item
    ([]) ∷  -- 80, no_case_items
    ([]) ∷  -- 81, add_case_item
    ([]) ∷  -- 82, for
    ([]) ∷  -- 83, range
    ([]) ∷  -- 84, some_range
    ([]) ∷  -- 85, no_range
    ([]) ∷  -- 86, signed_range
    ([]) ∷  -- 87, plain_range
    ([]) ∷  -- 88, no_parameter_range
    ([]) ∷  -- 89, parameter
    ([]) ∷  -- 90, no_parameters
    ([]) ∷  -- 91, add_parameter
    ([]) ∷  -- 92, no_names
    ([]) ∷  -- 93, add_name
    ([]) ∷  -- 94, no_declared
    ([]) ∷  -- 95, add_declared
    ([]) ∷  -- 96, declarator
    ([]) ∷  -- 97, no_declarators
    ([]) ∷  -- 98, add_declarator
    ([]) ∷  -- 99, wire_kind
    ([]) ∷  -- 100, reg_kind
    ([]) ∷  -- 101, no_kind
    ([]) ∷  -- 102, signed
    ([]) ∷  -- 103, unsigned
    ([]) ∷  -- 104, plain_register
    ([]) ∷  -- 105, initialized_register
    ([]) ∷  -- 106, memory
    ([]) ∷  -- 107, no_registers
    ([]) ∷  -- 108, add_register
    ([]) ∷  -- 109, ordered
    ([]) ∷  -- 110, no_ordered
    ([]) ∷  -- 111, add_ordered
    ([]) ∷  -- 112, named
    ([]) ∷  -- 113, no_named
    ([]) ∷  -- 114, add_named
    ([]) ∷  -- 115, no_connections
    ([]) ∷  -- 116, ordered_connections
    ([]) ∷  -- 117, named_connections
    ([]) ∷  -- 118, some_overrides
    ([]) ∷  -- 119, no_overrides
    ([]) ∷  -- 120, instance
    ([]) ∷  -- 121, no_instances
    ([]) ∷  -- 122, add_instance
    ([]) ∷  -- 123, net_assignment
    ([]) ∷  -- 124, no_net_assignments
    ([]) ∷  -- 125, add_net_assignment
    ([]) ∷  -- 126, any_event
    ([]) ∷  -- 127, posedge_event
    ([]) ∷  -- 128, names_event
    ([]) ∷  -- 129, port_item
    ([]) ∷  -- 130, net_item
    ([]) ∷  -- 131, reg_item
    ([]) ∷  -- 132, integer_item
    ([]) ∷  -- 133, parameter_item
    ([]) ∷  -- 134, local_parameter_item
    ([]) ∷  -- 135, assign_item
    ([]) ∷  -- 136, always_item
    ([]) ∷  -- 137, initial_item
    ([]) ∷  -- 138, instances_item
    ([]) ∷  -- 139, no_items
    ([]) ∷  -- 140, add_item
    ([]) ∷  -- 141, no_groups
    ([]) ∷  -- 142, close_group
    ([]) ∷  -- 143, no_ports
    ([]) ∷  -- 144, close_port
    ([]) ∷  -- 145, absent_header
    ([]) ∷  -- 146, empty_header
    ([]) ∷  -- 147, header_names
    ([]) ∷  -- 148, header_ports
    ([]) ∷  -- 149, module
    ([]) ∷  -- 150, no_modules
    ([]) ∷  -- 151, add_module
    ([]) ∷  -- 152, source
    []

-- for each nonterminal one more than the action that it is, if that is one on a token
unfoldable pub SPOTS : List ℕ
SPOTS = 0 ∷ 0 ∷ 0 ∷ 0 ∷ 0 ∷ 0 ∷ 0 ∷ 0 ∷ 0 ∷ 0 ∷ 0 ∷ 0 ∷ 0 ∷ 0 ∷ 0 ∷ 0 ∷ 0 ∷ 0 ∷ 0 ∷ 0 ∷ 0 ∷ 0 ∷ 0 ∷ 0 ∷ 0 ∷ 0 ∷ 0 ∷ 0 ∷ 0 ∷ 0 ∷ 0 ∷ 0 ∷ 0 ∷ 0 ∷ 0 ∷ 0 ∷ 0 ∷ 0 ∷ 0 ∷ 0 ∷ 0 ∷ 0 ∷ 0 ∷ 0 ∷ 0 ∷ 0 ∷ 0 ∷ 0 ∷ 0 ∷ 0 ∷ 0 ∷ 0 ∷ 0 ∷ 0 ∷ 0 ∷ 0 ∷ 0 ∷ 0 ∷ 0 ∷ 0 ∷ 0 ∷ 0 ∷ 0 ∷ 0 ∷ 0 ∷ 0 ∷ 0 ∷ 0 ∷ 0 ∷ 0 ∷ 0 ∷ 0 ∷ 0 ∷ 0 ∷ 0 ∷ 0 ∷ 0 ∷ 0 ∷ 0 ∷ 0 ∷ 0 ∷ 0 ∷ 0 ∷ 0 ∷ 0 ∷ 0 ∷ 0 ∷ 0 ∷ 0 ∷ 0 ∷ 0 ∷ 0 ∷ 0 ∷ 0 ∷ 0 ∷ 0 ∷ 0 ∷ 0 ∷ 0 ∷ 0 ∷ 0 ∷ 0 ∷ 0 ∷ 0 ∷ 0 ∷ 2 ∷ 3 ∷ 0 ∷ 0 ∷ 0 ∷ 0 ∷ 0 ∷ 0 ∷ 0 ∷ 0 ∷ 0 ∷ 0 ∷ 0 ∷ 0 ∷ 0 ∷ 0 ∷ 0 ∷ 0 ∷ 0 ∷ 0 ∷ 0 ∷ 0 ∷ 0 ∷ 0 ∷ 0 ∷ 0 ∷ 7 ∷ 8 ∷ 0 ∷ 0 ∷ 0 ∷ 0 ∷ 0 ∷ 0 ∷ 0 ∷ 0 ∷ 0 ∷ 0 ∷ 0 ∷ 0 ∷ 4 ∷ 0 ∷ 0 ∷ 0 ∷ 0 ∷ 0 ∷ 0 ∷ 0 ∷ 0 ∷ 0 ∷ 0 ∷ 0 ∷ 0 ∷ 0 ∷ 0 ∷ 0 ∷ 0 ∷ 0 ∷ 0 ∷ 0 ∷ 0 ∷ 0 ∷ 0 ∷ 0 ∷ 0 ∷ 0 ∷ 0 ∷ 0 ∷ 0 ∷ 0 ∷ 0 ∷ 0 ∷ 0 ∷ 0 ∷ 0 ∷ 0 ∷ 0 ∷ 0 ∷ 0 ∷ 0 ∷ 0 ∷ 0 ∷ 0 ∷ 0 ∷ 0 ∷ 0 ∷ 0 ∷ 0 ∷ 0 ∷ 0 ∷ 0 ∷ 0 ∷ 0 ∷ 0 ∷ 0 ∷ 0 ∷ 0 ∷ 0 ∷ 0 ∷ 0 ∷ 0 ∷ 0 ∷ 0 ∷ 0 ∷ 0 ∷ 0 ∷ 0 ∷ 0 ∷ 0 ∷ 0 ∷ 0 ∷ 0 ∷ 0 ∷ 0 ∷ 0 ∷ 0 ∷ 19 ∷ 0 ∷ 20 ∷ 0 ∷ 21 ∷ 0 ∷ 0 ∷ 24 ∷ 0 ∷ 0 ∷ 0 ∷ 0 ∷ 0 ∷ 0 ∷ 22 ∷ 23 ∷ 25 ∷ 26 ∷ 27 ∷ 28 ∷ 29 ∷ 30 ∷ 31 ∷ 32 ∷ 33 ∷ 34 ∷ 35 ∷ 36 ∷ 37 ∷ 38 ∷ 39 ∷ 0 ∷ 9 ∷ 10 ∷ 11 ∷ 12 ∷ 13 ∷ 14 ∷ 15 ∷ 16 ∷ 17 ∷ 18 ∷ 5 ∷ 6 ∷ 0 ∷ 0 ∷ 0 ∷ 0 ∷ 0 ∷ 0 ∷ 0 ∷ 0 ∷ 0 ∷ []
