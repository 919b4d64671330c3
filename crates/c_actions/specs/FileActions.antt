-- Actions of external declarations (ISO C99, 6.9).
use Rattle.std.specs.Prelude.{[], ◌∷◌, ◌++◌, Option, Some, None}
use Rattle.src_text.specs.declared.refusal.Place.{Place}
use Rattle.c_tree.specs.declared.declarations.ResultType.TheVariants as result_type
use Rattle.c_tree.specs.declared.declarations.Storage.TheVariants as storage
use Rattle.c_tree.specs.declared.file.External.TheVariants as external
use Rattle.c_stack.specs.declared.values.Value.TheVariants as value
use Rattle.c_stack.specs.declared.values.TokenValue.TheVariants as token_value
use Rattle.c_stack.specs.declared.values.PartValue.TheVariants as part_value
use Rattle.c_stack.specs.declared.values.FileValue.TheVariants as file_value
use Rattle.c_stack.specs.Values.{Values, with_place, with_name, with_declared, with_type, with_declarators, with_block, with_members, with_parameters, with_storage, with_function, with_external, with_externals}

-- no extern and no static
abbrev pub after_no_storage : Values → Option Values
after_no_storage st = Some (value.Part (part_value.Storage storage.Unspecified) ∷ st)

-- "extern" before a function
abbrev pub after_extern : Values → Option Values
after_extern st = with_place st (λ place rest. Some (value.Part (part_value.Storage (storage.Extern place)) ∷ rest))

-- a name that turns out to be a function's
abbrev pub after_function_name : Values → Option Values
after_function_name st = with_name st (λ name rest. Some (value.Token (token_value.Declared name) ∷ rest))

-- "void" ID before parameters
abbrev pub after_void_function : Values → Option Values
after_void_function st = with_declared st (λ name st1. with_place st1 (λ place rest. Some (value.Part (part_value.Function (record { result = result_type.Void place; name = name })) ∷ rest)))

-- Type ID before parameters
abbrev pub after_integer_function : Values → Option Values
after_integer_function st = with_declared st (λ name st1. with_type st1 (λ type_name rest. Some (value.Part (part_value.Function (record { result = result_type.Integer type_name; name = name })) ∷ rest)))

-- Function = [ "extern" | "static" ] ( "void" | Type ) ID "(" Params ")" ";"
abbrev pub after_function : Values → Option Values
after_function st = with_parameters st (λ parameters st1. with_function st1 (λ function st2. with_storage st2 (λ class rest. Some (value.File (file_value.External (external.Function (record { storage = class; result = function.result; name = function.name; parameters = parameters }))) ∷ rest))))

-- Function = [ "extern" | "static" ] ( "void" | Type ) ID "(" Params ")" Block
abbrev pub after_definition : Values → Option Values
after_definition st = with_block st (λ body st1. with_parameters st1 (λ parameters st2. with_function st2 (λ function st3. with_storage st3 (λ class rest. Some (value.File (file_value.External (external.Definition (record { storage = class; result = function.result; name = function.name; parameters = parameters }) body)) ∷ rest)))))

-- Globals = [ "static" ] Type Decl { "," Decl } ";"
abbrev pub after_globals : Values → Option Values
after_globals st = with_declarators st (λ declarators st1. with_type st1 (λ type_name st2. with_storage st2 (λ class rest. Some (value.File (file_value.External (external.Objects (record { storage = class; constant = None; type_name = type_name; declarators = declarators }))) ∷ rest))))

-- Globals = [ "static" ] "const" Type Decl { "," Decl } ";"
abbrev pub after_const_globals : Values → Option Values
after_const_globals st = with_declarators st (λ declarators st1. with_type st1 (λ type_name st2. with_place st2 (λ place st3. with_storage st3 (λ class rest. Some (value.File (file_value.External (external.Objects (record { storage = class; constant = Some place; type_name = type_name; declarators = declarators }))) ∷ rest)))))

-- Struct = "struct" ID "{" Member { Member } "}" ";"
abbrev pub after_struct : Values → Option Values
after_struct st = with_members st (λ members st1. with_declared st1 (λ tag st2. with_place st2 (λ place rest. Some (value.File (file_value.External (external.Struct place tag members)) ∷ rest))))

-- Mirror = "extern" "struct" ID ID ";"
abbrev pub after_mirror : Values → Option Values
after_mirror st = with_declared st (λ name st1. with_name st1 (λ tag st2. with_place st2 (λ place rest. Some (value.File (file_value.External (external.Mirror place tag name)) ∷ rest))))

-- BoundDecl = "extern" "const" Type ID ";"
abbrev pub after_bound : Values → Option Values
after_bound st = with_declared st (λ name st1. with_type st1 (λ type_name st2. with_place st2 (λ place rest. Some (value.File (file_value.External (external.Bound place type_name name)) ∷ rest))))

-- an empty file
abbrev pub after_no_externals : Values → Option Values
after_no_externals st = Some (value.File (file_value.Externals []) ∷ st)

-- the first of several external declarations
abbrev pub after_one_external : Values → Option Values
after_one_external st = with_external st (λ part rest. Some (value.File (file_value.Externals (part ∷ [])) ∷ rest))

-- one more external declaration
abbrev pub after_add_external : Values → Option Values
after_add_external st = with_external st (λ part st1. with_externals st1 (λ externals rest. Some (value.File (file_value.Externals (externals ++ part ∷ [])) ∷ rest)))

-- File = { External }
abbrev pub after_file : Place → Values → Option Values
after_file end st = with_externals st (λ externals rest. Some (value.File (file_value.Tree (record { externals = externals; end = end })) ∷ rest))
