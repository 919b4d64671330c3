-- What declarations are made of: what each action makes of the stack. The last part is taken first.
use Rattle.std.specs.Prelude.{true, false, [], ◌∷◌, ◌++◌, Option, Some, None}
use Rattle.v_stack.specs.declared.values.Value.TheVariants as Value
use Rattle.v_stack.specs.declared.values.DeclareValue.TheVariants as DeclareValue
use Rattle.v_stack.specs.declared.values.ExprValue.TheVariants as ExprValue
use Rattle.v_stack.specs.declared.values.NamesValue.TheVariants as NamesValue
use Rattle.v_actions.specs.declared.actions.DeclarationAction.{DeclarationAction}
use Rattle.v_actions.specs.declared.actions.DeclarationAction.TheVariants as action
use Rattle.v_stack.specs.Values.{Values, with_declarator, with_declarators, with_declared, with_declared_names, with_expr, with_expr_option, with_name, with_names, with_parameter, with_parameters, with_place, with_range, with_register, with_registers}
use Rattle.v_tree.specs.declared.item.NetKind.TheVariants as NetKind
use Rattle.v_tree.specs.declared.item.RegisterForm.TheVariants as RegisterForm

-- What an action for parts of declarations makes of the stack (IEEE 1364-2005, clause 4), and none where its parts
-- don't lie on top.
abbrev pub after_declaration_action : DeclarationAction → Values → Option Values
-- [ high : low ]
after_declaration_action action.Range st =
    with_expr st (λ low st. with_expr st (λ high st. with_place st (λ place st.
    Some (Value.Expr (ExprValue.Range (record { place = place; high = high; low = low })) ∷ st))))
-- A range that is given
after_declaration_action action.SomeRange st = with_range st (λ range st. Some (Value.Expr (ExprValue.RangeOption (Some range)) ∷ st))
-- no range
after_declaration_action action.NoRange st = Some (Value.Expr (ExprValue.RangeOption None) ∷ st)
-- signed range
after_declaration_action action.SignedRange st =
    with_range st (λ range st.
    Some (Value.Declare (DeclareValue.ParameterRange (Some (record { signed = true; range = range }))) ∷ st))
-- A range without signed
after_declaration_action action.PlainRange st =
    with_range st (λ range st.
    Some (Value.Declare (DeclareValue.ParameterRange (Some (record { signed = false; range = range }))) ∷ st))
-- no range of a parameter
after_declaration_action action.NoParameterRange st = Some (Value.Declare (DeclareValue.ParameterRange None) ∷ st)
-- name = value of a parameter
after_declaration_action action.Parameter st =
    with_expr st (λ value st. with_name st (λ name st.
    Some (Value.Declare (DeclareValue.Parameter (record { name = name; value = value })) ∷ st)))
-- no parameters yet
after_declaration_action action.NoParameters st = Some (Value.Declare (DeclareValue.Parameters []) ∷ st)
-- one more of the parameters
after_declaration_action action.AddParameter st =
    with_parameter st (λ parameter st. with_parameters st (λ parameters st.
    Some (Value.Declare (DeclareValue.Parameters (parameters ++ parameter ∷ [])) ∷ st)))
-- no names yet
after_declaration_action action.NoNames st = Some (Value.Names (NamesValue.Names []) ∷ st)
-- one more of the names
after_declaration_action action.AddName st =
    with_name st (λ name st. with_names st (λ names st.
    Some (Value.Names (NamesValue.Names (names ++ name ∷ [])) ∷ st)))
-- no declared names yet
after_declaration_action action.NoDeclared st = Some (Value.Names (NamesValue.DeclaredNames []) ∷ st)
-- one more of the declared names
after_declaration_action action.AddDeclared st =
    with_declared st (λ name st. with_declared_names st (λ names st.
    Some (Value.Names (NamesValue.DeclaredNames (names ++ name ∷ [])) ∷ st)))
-- A declared name, perhaps with a value
after_declaration_action action.Declarator st =
    with_expr_option st (λ value st. with_name st (λ name st.
    Some (Value.Names (NamesValue.Declarator (record { name = name; value = value })) ∷ st)))
-- no declared names with values yet
after_declaration_action action.NoDeclarators st = Some (Value.Names (NamesValue.Declarators []) ∷ st)
-- one more of the declared names with values
after_declaration_action action.AddDeclarator st =
    with_declarator st (λ declarator st. with_declarators st (λ declarators st.
    Some (Value.Names (NamesValue.Declarators (declarators ++ declarator ∷ [])) ∷ st)))
-- wire of a port
after_declaration_action action.WireKind st = Some (Value.Declare (DeclareValue.NetKind (Some NetKind.Wire)) ∷ st)
-- reg of a port
after_declaration_action action.RegKind st = Some (Value.Declare (DeclareValue.NetKind (Some NetKind.Reg)) ∷ st)
-- neither of both
after_declaration_action action.NoKind st = Some (Value.Declare (DeclareValue.NetKind None) ∷ st)
-- signed
after_declaration_action action.Signed st = Some (Value.Declare (DeclareValue.Sign true) ∷ st)
-- no signed
after_declaration_action action.Unsigned st = Some (Value.Declare (DeclareValue.Sign false) ∷ st)
-- A register's name alone
after_declaration_action action.PlainRegister st =
    with_name st (λ name st.
    Some (Value.Names (NamesValue.Register (record { name = name; form = RegisterForm.Plain })) ∷ st))
-- name = value of a register
after_declaration_action action.InitializedRegister st =
    with_expr st (λ value st. with_name st (λ name st.
    Some (Value.Names (NamesValue.Register (record { name = name; form = RegisterForm.Initialized value })) ∷ st)))
-- A name and the range of its words
after_declaration_action action.Memory st =
    with_range st (λ range st. with_name st (λ name st.
    Some (Value.Names (NamesValue.Register (record { name = name; form = RegisterForm.Memory range })) ∷ st)))
-- no registers yet
after_declaration_action action.NoRegisters st = Some (Value.Names (NamesValue.Registers []) ∷ st)
-- one more of the registers
after_declaration_action action.AddRegister st =
    with_register st (λ register st. with_registers st (λ registers st.
    Some (Value.Names (NamesValue.Registers (registers ++ register ∷ [])) ∷ st)))
