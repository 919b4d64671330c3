-- Each action of a declaration keeps what is known of the values on the stack.
use Rattle.std.specs.Prelude.{[], IfSome}
use Rattle.std.proofs.lemmas.List.Elements.{All-cons, All-nil, All-push}
use Rattle.c_stack.specs.Values.{Values}
use Rattle.c_actions.specs.declared.actions.DeclarationAction.{DeclarationAction}
use Rattle.c_actions.specs.declared.actions.DeclarationAction.TheVariants as action
use Rattle.c_actions.specs.DeclarationActions.{after_declaration_action}
use Rattle.c_text_laws.specs.Bytes.{DeclaratorBytes, MemberBytes, MemberDeclaratorBytes}
use Rattle.c_text_laws.proofs.Takes.{takes_declarator, takes_declarators, takes_declared, takes_expression, takes_expressions, takes_initializer, takes_item, takes_items, takes_member, takes_members, takes_name, takes_name_option, takes_names, takes_parameter, takes_parameters, takes_place, takes_sign, takes_type}
use Rattle.c_text_laws.proofs.Values.{StackBytes}

pub declaration_bytes : (a : DeclarationAction) (st : Values) → StackBytes st → IfSome (after_declaration_action a st) StackBytes
declaration_bytes action.CharType st h = takes_sign st _ h (λ mark rest h1. (tt, h1))
declaration_bytes action.ShortType st h = takes_sign st _ h (λ mark rest h1. (tt, h1))
declaration_bytes action.IntType st h = takes_sign st _ h (λ mark rest h1. (tt, h1))
declaration_bytes action.LongType st h = takes_sign st _ h (λ mark rest h1. (tt, h1))
declaration_bytes action.Value st h = takes_expression st _ h (λ expression rest a h1. (a, h1))
declaration_bytes action.CallValue st h = takes_expressions st _ h (λ arguments st1 a h1. takes_name st1 _ h1 (λ name rest h2. (a, h2)))
declaration_bytes action.NoInitializer st h = (tt, h)
declaration_bytes action.SomeInitializer st h = takes_initializer st _ h (λ given rest a h1. (a, h1))
declaration_bytes action.PlainDeclarator st h = takes_name st _ h (λ name rest h1. (tt, h1))
declaration_bytes action.Initialized st h = takes_initializer st _ h (λ given st1 a h1. takes_name st1 _ h1 (λ name rest h2. (a, h2)))
declaration_bytes action.ArrayDeclarator st h = takes_expression st _ h (λ len st1 a h1. takes_name st1 _ h1 (λ name rest h2. (a, h2)))
declaration_bytes action.InitializedArray st h = takes_expressions st _ h (λ elements st1 a h1. takes_expression st1 _ h1 (λ len st2 b h2. takes_name st2 _ h2 (λ name rest h3. ((b, a), h3))))
declaration_bytes action.OneDeclarator st h = takes_declarator st _ h (λ declarator_made rest a h1. (All-cons DeclaratorBytes declarator_made [] a (All-nil DeclaratorBytes), h1))
declaration_bytes action.AddDeclarator st h = takes_declarator st _ h (λ declarator_made st1 a h1. takes_declarators st1 _ h1 (λ declarators rest b h2. (All-push DeclaratorBytes declarators declarator_made b a, h2)))
declaration_bytes action.Local st h = takes_declarators st _ h (λ declarators st1 a h1. takes_type st1 _ h1 (λ type_name rest h2. (a, h2)))
declaration_bytes action.ConstLocal st h = takes_declarators st _ h (λ declarators st1 a h1. takes_type st1 _ h1 (λ type_name st2 h2. takes_place st2 _ h2 (λ place rest h3. (a, h3))))
declaration_bytes action.PlainItem st h = takes_name st _ h (λ name rest h1. (tt, h1))
declaration_bytes action.ArrayItem st h = takes_expression st _ h (λ len st1 a h1. takes_name st1 _ h1 (λ name rest h2. (a, h2)))
declaration_bytes action.OneItem st h = takes_item st _ h (λ item rest a h1. (All-cons MemberDeclaratorBytes item [] a (All-nil MemberDeclaratorBytes), h1))
declaration_bytes action.AddItem st h = takes_item st _ h (λ item st1 a h1. takes_items st1 _ h1 (λ items rest b h2. (All-push MemberDeclaratorBytes items item b a, h2)))
declaration_bytes action.OneName st h = takes_declared st _ h (λ name rest h1. (tt, h1))
declaration_bytes action.AddName st h = takes_declared st _ h (λ name st1 h1. takes_names st1 _ h1 (λ names rest h2. (tt, h2)))
declaration_bytes action.IntegerMembers st h = takes_items st _ h (λ items st1 a h1. takes_type st1 _ h1 (λ type_name rest h2. (a, h2)))
declaration_bytes action.StructMembers st h = takes_names st _ h (λ names st1 h1. takes_name st1 _ h1 (λ tag st2 h2. takes_place st2 _ h2 (λ place rest h3. (tt, h3))))
declaration_bytes action.OneMember st h = takes_member st _ h (λ member_made rest a h1. (All-cons MemberBytes member_made [] a (All-nil MemberBytes), h1))
declaration_bytes action.AddMember st h = takes_member st _ h (λ member_made st1 a h1. takes_members st1 _ h1 (λ members rest b h2. (All-push MemberBytes members member_made b a, h2)))
declaration_bytes action.NoName st h = (tt, h)
declaration_bytes action.SomeName st h = takes_declared st _ h (λ name rest h1. (tt, h1))
declaration_bytes action.Parameter st h = takes_name_option st _ h (λ name st1 h1. takes_type st1 _ h1 (λ type_name rest h2. (tt, h2)))
declaration_bytes action.ConstParameter st h = takes_name_option st _ h (λ name st1 h1. takes_type st1 _ h1 (λ type_name st2 h2. takes_place st2 _ h2 (λ place rest h3. (tt, h3))))
declaration_bytes action.NoParameters st h = (tt, h)
declaration_bytes action.OneParameter st h = takes_parameter st _ h (λ parameter rest h1. (tt, h1))
declaration_bytes action.AddParameter st h = takes_parameter st _ h (λ parameter st1 h1. takes_parameters st1 _ h1 (λ parameters rest h2. (tt, h2)))
