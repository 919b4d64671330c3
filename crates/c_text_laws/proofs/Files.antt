-- Each action of a file keeps what is known of the values on the stack.
use Rattle.std.specs.Prelude.{[], IfSome}
use Rattle.std.proofs.lemmas.List.Elements.{All-cons, All-nil, All-push}
use Rattle.src_text.specs.declared.refusal.Place.{Place}
use Rattle.c_stack.specs.Values.{Values}
use Rattle.c_actions.specs.declared.actions.FileAction.{FileAction}
use Rattle.c_actions.specs.declared.actions.FileAction.TheVariants as action
use Rattle.c_actions.specs.Acts.{after_file_action}
use Rattle.c_text_laws.specs.Bytes.{ExternalBytes}
use Rattle.c_text_laws.proofs.Takes.{takes_block, takes_declarators, takes_declared, takes_external, takes_externals, takes_function, takes_members, takes_name, takes_parameters, takes_place, takes_storage, takes_type}
use Rattle.c_text_laws.proofs.Values.{StackBytes}

pub file_bytes : (a : FileAction) (end : Place) (st : Values) → StackBytes st → IfSome (after_file_action a end st) StackBytes
file_bytes action.NoStorage end st h = (tt, h)
file_bytes action.Extern end st h = takes_place st _ h (λ place rest h1. (tt, h1))
file_bytes action.FunctionName end st h = takes_name st _ h (λ name rest h1. (tt, h1))
file_bytes action.VoidFunction end st h = takes_declared st _ h (λ name st1 h1. takes_place st1 _ h1 (λ place rest h2. (tt, h2)))
file_bytes action.IntegerFunction end st h = takes_declared st _ h (λ name st1 h1. takes_type st1 _ h1 (λ type_name rest h2. (tt, h2)))
file_bytes action.Function end st h = takes_parameters st _ h (λ parameters st1 h1. takes_function st1 _ h1 (λ function st2 h2. takes_storage st2 _ h2 (λ class rest h3. (tt, h3))))
file_bytes action.Definition end st h = takes_block st _ h (λ body st1 a h1. takes_parameters st1 _ h1 (λ parameters st2 h2. takes_function st2 _ h2 (λ function st3 h3. takes_storage st3 _ h3 (λ class rest h4. (a, h4)))))
file_bytes action.Globals end st h = takes_declarators st _ h (λ declarators st1 a h1. takes_type st1 _ h1 (λ type_name st2 h2. takes_storage st2 _ h2 (λ class rest h3. (a, h3))))
file_bytes action.ConstGlobals end st h = takes_declarators st _ h (λ declarators st1 a h1. takes_type st1 _ h1 (λ type_name st2 h2. takes_place st2 _ h2 (λ place st3 h3. takes_storage st3 _ h3 (λ class rest h4. (a, h4)))))
file_bytes action.Struct end st h = takes_members st _ h (λ members st1 a h1. takes_declared st1 _ h1 (λ tag st2 h2. takes_place st2 _ h2 (λ place rest h3. (a, h3))))
file_bytes action.Mirror end st h = takes_declared st _ h (λ name st1 h1. takes_name st1 _ h1 (λ tag st2 h2. takes_place st2 _ h2 (λ place rest h3. (tt, h3))))
file_bytes action.Bound end st h = takes_declared st _ h (λ name st1 h1. takes_type st1 _ h1 (λ type_name st2 h2. takes_place st2 _ h2 (λ place rest h3. (tt, h3))))
file_bytes action.NoExternals end st h = (All-nil ExternalBytes, h)
file_bytes action.OneExternal end st h = takes_external st _ h (λ part rest a h1. (All-cons ExternalBytes part [] a (All-nil ExternalBytes), h1))
file_bytes action.AddExternal end st h = takes_external st _ h (λ part st1 a h1. takes_externals st1 _ h1 (λ externals rest b h2. (All-push ExternalBytes externals part b a, h2)))
file_bytes action.File end st h = takes_externals st _ h (λ externals rest a h1. (a, h1))
