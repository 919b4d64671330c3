-- A stack of values, from the top down, and what is taken off it.
use Rattle.std.specs.Prelude.{◌≡◌, ℕ, Bool, true, false, List, [], ◌∷◌, Option, Some, None}
use Rattle.src_text.specs.declared.refusal.Place.{Place}
use Rattle.c_tree.specs.declared.declarations.Declarator.{Declarator}
use Rattle.c_tree.specs.declared.declarations.Initializer.{Initializer}
use Rattle.c_tree.specs.declared.declarations.Local.{Local}
use Rattle.c_tree.specs.declared.declarations.Member.{Member}
use Rattle.c_tree.specs.declared.declarations.MemberDeclarator.{MemberDeclarator}
use Rattle.c_tree.specs.declared.declarations.Parameter.{Parameter}
use Rattle.c_tree.specs.declared.declarations.SignMark.{SignMark}
use Rattle.c_tree.specs.declared.declarations.Storage.{Storage}
use Rattle.c_tree.specs.declared.declarations.TypeName.{TypeName}
use Rattle.c_tree.specs.declared.expressions.AssignmentMark.{AssignmentMark}
use Rattle.c_tree.specs.declared.expressions.BinaryMark.{BinaryMark}
use Rattle.c_tree.specs.declared.expressions.Expression.{Expression}
use Rattle.c_tree.specs.declared.expressions.Object.{Object}
use Rattle.c_tree.specs.declared.expressions.Path.{Path}
use Rattle.c_tree.specs.declared.expressions.StepMark.{StepMark}
use Rattle.c_tree.specs.declared.expressions.UnaryMark.{UnaryMark}
use Rattle.c_tree.specs.declared.file.CTree.{CTree}
use Rattle.c_tree.specs.declared.file.External.{External}
use Rattle.c_tree.specs.declared.names.Identifier.{Identifier}
use Rattle.c_tree.specs.declared.statements.Block.{Block}
use Rattle.c_tree.specs.declared.statements.BlockItem.{BlockItem}
use Rattle.c_tree.specs.declared.statements.ForFirst.{ForFirst}
use Rattle.c_tree.specs.declared.statements.Group.{Group}
use Rattle.c_tree.specs.declared.statements.Label.{Label}
use Rattle.c_tree.specs.declared.statements.Simple.{Simple}
use Rattle.c_tree.specs.declared.statements.Statement.{Statement}
use Rattle.c_stack.specs.declared.values.FunctionName.{FunctionName}
use Rattle.c_stack.specs.declared.values.Labels.{Labels}
use Rattle.c_stack.specs.declared.values.Value.{Value}
use Rattle.c_stack.specs.declared.values.Value.TheVariants as value
use Rattle.c_stack.specs.declared.values.TokenValue.TheVariants as token_value
use Rattle.c_stack.specs.declared.values.ExpressionValue.TheVariants as expression_value
use Rattle.c_stack.specs.declared.values.DeclarationValue.TheVariants as declaration_value
use Rattle.c_stack.specs.declared.values.PartValue.TheVariants as part_value
use Rattle.c_stack.specs.declared.values.StatementValue.TheVariants as statement_value
use Rattle.c_stack.specs.declared.values.SwitchValue.TheVariants as switch_value
use Rattle.c_stack.specs.declared.values.FileValue.TheVariants as file_value

-- a stack of values, the top first
abbrev pub Values : Type 0
Values = List Value

-- what is done with a value that was taken, and the stack below it
abbrev pub Goes : Type 0 → Type 0
Goes A = A → Values → Option Values

abbrev pub with_place : Values → Goes Place → Option Values
with_place (value.Token (token_value.Place x) ∷ st) go = go x st
with_place _ go = None

abbrev pub with_name : Values → Goes Identifier → Option Values
with_name (value.Token (token_value.Name x) ∷ st) go = go x st
with_name _ go = None

abbrev pub with_declared : Values → Goes Identifier → Option Values
with_declared (value.Token (token_value.Declared x) ∷ st) go = go x st
with_declared _ go = None

abbrev pub with_unary_mark : Values → Goes UnaryMark → Option Values
with_unary_mark (value.Token (token_value.UnaryMark x) ∷ st) go = go x st
with_unary_mark _ go = None

abbrev pub with_binary_mark : Values → Goes BinaryMark → Option Values
with_binary_mark (value.Token (token_value.BinaryMark x) ∷ st) go = go x st
with_binary_mark _ go = None

abbrev pub with_assignment_mark : Values → Goes AssignmentMark → Option Values
with_assignment_mark (value.Token (token_value.AssignmentMark x) ∷ st) go = go x st
with_assignment_mark _ go = None

abbrev pub with_step_mark : Values → Goes StepMark → Option Values
with_step_mark (value.Token (token_value.StepMark x) ∷ st) go = go x st
with_step_mark _ go = None

abbrev pub with_sign : Values → Goes SignMark → Option Values
with_sign (value.Token (token_value.Sign x) ∷ st) go = go x st
with_sign _ go = None

abbrev pub with_type : Values → Goes TypeName → Option Values
with_type (value.Expression (expression_value.Type x) ∷ st) go = go x st
with_type _ go = None

abbrev pub with_object : Values → Goes Object → Option Values
with_object (value.Expression (expression_value.Object x) ∷ st) go = go x st
with_object _ go = None

abbrev pub with_path : Values → Goes Path → Option Values
with_path (value.Expression (expression_value.Path x) ∷ st) go = go x st
with_path _ go = None

abbrev pub with_expression : Values → Goes Expression → Option Values
with_expression (value.Expression (expression_value.Expression x) ∷ st) go = go x st
with_expression _ go = None

abbrev pub with_expressions : Values → Goes (List Expression) → Option Values
with_expressions (value.Expression (expression_value.Expressions x) ∷ st) go = go x st
with_expressions _ go = None

abbrev pub with_expression_option : Values → Goes (Option Expression) → Option Values
with_expression_option (value.Expression (expression_value.ExpressionOption x) ∷ st) go = go x st
with_expression_option _ go = None

abbrev pub with_initializer : Values → Goes Initializer → Option Values
with_initializer (value.Expression (expression_value.Initializer x) ∷ st) go = go x st
with_initializer _ go = None

abbrev pub with_initializer_option : Values → Goes (Option Initializer) → Option Values
with_initializer_option (value.Expression (expression_value.InitializerOption x) ∷ st) go = go x st
with_initializer_option _ go = None

abbrev pub with_declarator : Values → Goes Declarator → Option Values
with_declarator (value.Declaration (declaration_value.Declarator x) ∷ st) go = go x st
with_declarator _ go = None

abbrev pub with_declarators : Values → Goes (List Declarator) → Option Values
with_declarators (value.Declaration (declaration_value.Declarators x) ∷ st) go = go x st
with_declarators _ go = None

abbrev pub with_local : Values → Goes Local → Option Values
with_local (value.Declaration (declaration_value.Local x) ∷ st) go = go x st
with_local _ go = None

abbrev pub with_simple : Values → Goes Simple → Option Values
with_simple (value.Statement (statement_value.Simple x) ∷ st) go = go x st
with_simple _ go = None

abbrev pub with_simple_option : Values → Goes (Option Simple) → Option Values
with_simple_option (value.Statement (statement_value.SimpleOption x) ∷ st) go = go x st
with_simple_option _ go = None

abbrev pub with_for_first : Values → Goes ForFirst → Option Values
with_for_first (value.Statement (statement_value.ForFirst x) ∷ st) go = go x st
with_for_first _ go = None

abbrev pub with_label : Values → Goes Label → Option Values
with_label (value.Statement (statement_value.Label x) ∷ st) go = go x st
with_label _ go = None

abbrev pub with_labels : Values → Goes Labels → Option Values
with_labels (value.Switch (switch_value.Labels x) ∷ st) go = go x st
with_labels _ go = None

abbrev pub with_labelled : Values → Goes Group → Option Values
with_labelled (value.Switch (switch_value.Labelled x) ∷ st) go = go x st
with_labelled _ go = None

abbrev pub with_group : Values → Goes Group → Option Values
with_group (value.Switch (switch_value.Group x) ∷ st) go = go x st
with_group _ go = None

abbrev pub with_groups : Values → Goes (List Group) → Option Values
with_groups (value.Switch (switch_value.Groups x) ∷ st) go = go x st
with_groups _ go = None

abbrev pub with_statement : Values → Goes Statement → Option Values
with_statement (value.Statement (statement_value.Statement x) ∷ st) go = go x st
with_statement _ go = None

abbrev pub with_parts : Values → Goes (List BlockItem) → Option Values
with_parts (value.Statement (statement_value.Parts x) ∷ st) go = go x st
with_parts _ go = None

abbrev pub with_block : Values → Goes Block → Option Values
with_block (value.Statement (statement_value.Block x) ∷ st) go = go x st
with_block _ go = None

abbrev pub with_item : Values → Goes MemberDeclarator → Option Values
with_item (value.Declaration (declaration_value.Item x) ∷ st) go = go x st
with_item _ go = None

abbrev pub with_items : Values → Goes (List MemberDeclarator) → Option Values
with_items (value.Declaration (declaration_value.Items x) ∷ st) go = go x st
with_items _ go = None

abbrev pub with_names : Values → Goes (List Identifier) → Option Values
with_names (value.Declaration (declaration_value.Names x) ∷ st) go = go x st
with_names _ go = None

abbrev pub with_member : Values → Goes Member → Option Values
with_member (value.Part (part_value.Member x) ∷ st) go = go x st
with_member _ go = None

abbrev pub with_members : Values → Goes (List Member) → Option Values
with_members (value.Part (part_value.Members x) ∷ st) go = go x st
with_members _ go = None

abbrev pub with_name_option : Values → Goes (Option Identifier) → Option Values
with_name_option (value.Declaration (declaration_value.NameOption x) ∷ st) go = go x st
with_name_option _ go = None

abbrev pub with_parameter : Values → Goes Parameter → Option Values
with_parameter (value.Part (part_value.Parameter x) ∷ st) go = go x st
with_parameter _ go = None

abbrev pub with_parameters : Values → Goes (List Parameter) → Option Values
with_parameters (value.Part (part_value.Parameters x) ∷ st) go = go x st
with_parameters _ go = None

abbrev pub with_storage : Values → Goes Storage → Option Values
with_storage (value.Part (part_value.Storage x) ∷ st) go = go x st
with_storage _ go = None

abbrev pub with_function : Values → Goes FunctionName → Option Values
with_function (value.Part (part_value.Function x) ∷ st) go = go x st
with_function _ go = None

abbrev pub with_external : Values → Goes External → Option Values
with_external (value.File (file_value.External x) ∷ st) go = go x st
with_external _ go = None

abbrev pub with_externals : Values → Goes (List External) → Option Values
with_externals (value.File (file_value.Externals x) ∷ st) go = go x st
with_externals _ go = None

abbrev pub with_tree : Values → Goes CTree → Option Values
with_tree (value.File (file_value.Tree x) ∷ st) go = go x st
with_tree _ go = None

-- What a call left on the stack, where an action leaves `after`: that, or it didn't find its values.
abbrev pub Fits : Bool → Values → Option Values → Type 0
Fits true new after = after ≡ Some new
Fits false new after = after ≡ None
