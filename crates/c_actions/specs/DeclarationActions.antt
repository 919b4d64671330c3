-- Actions of declarations (ISO C99, 6.7).
use Rattle.std.specs.Prelude.{[], ◌∷◌, ◌++◌, Option, Some, None}
use Rattle.c_actions.specs.declared.actions.DeclarationAction.{DeclarationAction}
use Rattle.c_actions.specs.declared.actions.DeclarationAction.TheVariants as action
use Rattle.c_tree.specs.declared.declarations.Declarator.TheVariants as declarator
use Rattle.c_tree.specs.declared.declarations.Initializer.TheVariants as initializer
use Rattle.c_tree.specs.declared.declarations.IntegerType.TheVariants as integer
use Rattle.c_tree.specs.declared.declarations.Member.TheVariants as member
use Rattle.c_tree.specs.declared.declarations.MemberDeclarator.TheVariants as member_declarator
use Rattle.c_stack.specs.declared.values.Value.TheVariants as value
use Rattle.c_stack.specs.declared.values.ExpressionValue.TheVariants as expression_value
use Rattle.c_stack.specs.declared.values.DeclarationValue.TheVariants as declaration_value
use Rattle.c_stack.specs.declared.values.PartValue.TheVariants as part_value
use Rattle.c_stack.specs.Values.{Values, with_place, with_name, with_declared, with_sign, with_type, with_expression, with_expressions, with_initializer, with_declarator, with_declarators, with_item, with_items, with_names, with_member, with_members, with_name_option, with_parameter, with_parameters}

-- the stack after an action of a declaration; none where it isn't as the action needs it
abbrev pub after_declaration_action : DeclarationAction → Values → Option Values
-- Type = [Sign] "char"
after_declaration_action action.CharType st = with_sign st (λ mark rest. Some (value.Expression (expression_value.Type (record { place = mark.place; integer = integer.Char mark.sign })) ∷ rest))
-- Type = [Sign] "short" ["int"]
after_declaration_action action.ShortType st = with_sign st (λ mark rest. Some (value.Expression (expression_value.Type (record { place = mark.place; integer = integer.Short mark.sign })) ∷ rest))
-- Type = [Sign] "int" | Sign
after_declaration_action action.IntType st = with_sign st (λ mark rest. Some (value.Expression (expression_value.Type (record { place = mark.place; integer = integer.Int mark.sign })) ∷ rest))
-- Type = [Sign] "long" ["long"] ["int"]
after_declaration_action action.LongType st = with_sign st (λ mark rest. Some (value.Expression (expression_value.Type (record { place = mark.place; integer = integer.Long mark.sign })) ∷ rest))
-- Init = Expression
after_declaration_action action.Value st = with_expression st (λ expression rest. Some (value.Expression (expression_value.Initializer (initializer.Value expression)) ∷ rest))
-- Init = Call
after_declaration_action action.CallValue st = with_expressions st (λ arguments st1. with_name st1 (λ name rest. Some (value.Expression (expression_value.Initializer (initializer.Called (record { name = name; arguments = arguments }))) ∷ rest)))
-- no initializer
after_declaration_action action.NoInitializer st = Some (value.Expression (expression_value.InitializerOption None) ∷ st)
-- an initializer where there may be none
after_declaration_action action.SomeInitializer st = with_initializer st (λ given rest. Some (value.Expression (expression_value.InitializerOption (Some given)) ∷ rest))
-- Decl = ID
after_declaration_action action.PlainDeclarator st = with_name st (λ name rest. Some (value.Declaration (declaration_value.Declarator (declarator.Plain name)) ∷ rest))
-- Decl = ID "=" Init
after_declaration_action action.Initialized st = with_initializer st (λ given st1. with_name st1 (λ name rest. Some (value.Declaration (declaration_value.Declarator (declarator.Initialized name given)) ∷ rest)))
-- Decl = ID "[" Expression "]"
after_declaration_action action.ArrayDeclarator st = with_expression st (λ len st1. with_name st1 (λ name rest. Some (value.Declaration (declaration_value.Declarator (declarator.Array name len)) ∷ rest)))
-- Decl = ID "[" Expression "]" "=" "{" Expression { "," Expression } [ "," ] "}"
after_declaration_action action.InitializedArray st = with_expressions st (λ elements st1. with_expression st1 (λ len st2. with_name st2 (λ name rest. Some (value.Declaration (declaration_value.Declarator (declarator.InitializedArray name len elements)) ∷ rest))))
-- the first of several declared names
after_declaration_action action.OneDeclarator st = with_declarator st (λ declarator_made rest. Some (value.Declaration (declaration_value.Declarators (declarator_made ∷ [])) ∷ rest))
-- one more declared name
after_declaration_action action.AddDeclarator st = with_declarator st (λ declarator_made st1. with_declarators st1 (λ declarators rest. Some (value.Declaration (declaration_value.Declarators (declarators ++ declarator_made ∷ [])) ∷ rest)))
-- Local = Type Decl { "," Decl } ";"
after_declaration_action action.Local st = with_declarators st (λ declarators st1. with_type st1 (λ type_name rest. Some (value.Declaration (declaration_value.Local (record { constant = None; type_name = type_name; declarators = declarators })) ∷ rest)))
-- Local = "const" Type Decl { "," Decl } ";"
after_declaration_action action.ConstLocal st = with_declarators st (λ declarators st1. with_type st1 (λ type_name st2. with_place st2 (λ place rest. Some (value.Declaration (declaration_value.Local (record { constant = Some place; type_name = type_name; declarators = declarators })) ∷ rest))))
-- Item = ID
after_declaration_action action.PlainItem st = with_name st (λ name rest. Some (value.Declaration (declaration_value.Item (member_declarator.Plain name)) ∷ rest))
-- Item = ID "[" Expression "]"
after_declaration_action action.ArrayItem st = with_expression st (λ len st1. with_name st1 (λ name rest. Some (value.Declaration (declaration_value.Item (member_declarator.Array name len)) ∷ rest)))
-- the first of several items
after_declaration_action action.OneItem st = with_item st (λ item rest. Some (value.Declaration (declaration_value.Items (item ∷ [])) ∷ rest))
-- one more item
after_declaration_action action.AddItem st = with_item st (λ item st1. with_items st1 (λ items rest. Some (value.Declaration (declaration_value.Items (items ++ item ∷ [])) ∷ rest)))
-- the first of several declared names
after_declaration_action action.OneName st = with_declared st (λ name rest. Some (value.Declaration (declaration_value.Names (name ∷ [])) ∷ rest))
-- one more declared name
after_declaration_action action.AddName st = with_declared st (λ name st1. with_names st1 (λ names rest. Some (value.Declaration (declaration_value.Names (names ++ name ∷ [])) ∷ rest)))
-- Member = Type Item { "," Item } ";"
after_declaration_action action.IntegerMembers st = with_items st (λ items st1. with_type st1 (λ type_name rest. Some (value.Part (part_value.Member (member.Integers type_name items)) ∷ rest)))
-- Member = "struct" ID ID { "," ID } ";"
after_declaration_action action.StructMembers st = with_names st (λ names st1. with_name st1 (λ tag st2. with_place st2 (λ place rest. Some (value.Part (part_value.Member (member.Structs place tag names)) ∷ rest))))
-- the first of several members
after_declaration_action action.OneMember st = with_member st (λ member_made rest. Some (value.Part (part_value.Members (member_made ∷ [])) ∷ rest))
-- one more member
after_declaration_action action.AddMember st = with_member st (λ member_made st1. with_members st1 (λ members rest. Some (value.Part (part_value.Members (members ++ member_made ∷ [])) ∷ rest)))
-- no name
after_declaration_action action.NoName st = Some (value.Declaration (declaration_value.NameOption None) ∷ st)
-- a name where there may be none
after_declaration_action action.SomeName st = with_declared st (λ name rest. Some (value.Declaration (declaration_value.NameOption (Some name)) ∷ rest))
-- Param = Type [ ID ]
after_declaration_action action.Parameter st = with_name_option st (λ name st1. with_type st1 (λ type_name rest. Some (value.Part (part_value.Parameter (record { constant = None; type_name = type_name; name = name })) ∷ rest)))
-- Param = "const" Type [ ID ]
after_declaration_action action.ConstParameter st = with_name_option st (λ name st1. with_type st1 (λ type_name st2. with_place st2 (λ place rest. Some (value.Part (part_value.Parameter (record { constant = Some place; type_name = type_name; name = name })) ∷ rest))))
-- Params = [ "void" ]
after_declaration_action action.NoParameters st = Some (value.Part (part_value.Parameters []) ∷ st)
-- the first of several parameters
after_declaration_action action.OneParameter st = with_parameter st (λ parameter rest. Some (value.Part (part_value.Parameters (parameter ∷ [])) ∷ rest))
-- one more parameter
after_declaration_action action.AddParameter st = with_parameter st (λ parameter st1. with_parameters st1 (λ parameters rest. Some (value.Part (part_value.Parameters (parameters ++ parameter ∷ [])) ∷ rest)))
