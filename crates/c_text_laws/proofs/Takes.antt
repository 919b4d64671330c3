-- What is taken off a stack has what is known of its values.
use Rattle.std.specs.Prelude.{List, ◌∷◌, Option, All, IfSome}
use Rattle.src_text.specs.declared.refusal.Place.{Place}
use Rattle.c_tree.specs.declared.declarations.Declarator.{Declarator}
use Rattle.c_tree.specs.declared.declarations.Initializer.{Initializer}
use Rattle.c_tree.specs.declared.declarations.Local.{Local}
use Rattle.c_tree.specs.declared.declarations.Member.{Member}
use Rattle.c_tree.specs.declared.declarations.MemberDeclarator.{MemberDeclarator}
use Rattle.c_tree.specs.declared.declarations.Parameter.{Parameter}
use Rattle.c_tree.specs.declared.declarations.SignMark.{SignMark}
use Rattle.c_tree.specs.declared.declarations.Storage.{Storage}
use Rattle.c_tree.specs.declared.declarations.TypeName.{TypeName}
use Rattle.c_tree.specs.declared.expressions.AssignmentMark.{AssignmentMark}
use Rattle.c_tree.specs.declared.expressions.BinaryMark.{BinaryMark}
use Rattle.c_tree.specs.declared.expressions.Expression.{Expression}
use Rattle.c_tree.specs.declared.expressions.Object.{Object}
use Rattle.c_tree.specs.declared.expressions.Path.{Path}
use Rattle.c_tree.specs.declared.expressions.StepMark.{StepMark}
use Rattle.c_tree.specs.declared.expressions.UnaryMark.{UnaryMark}
use Rattle.c_tree.specs.declared.file.CTree.{CTree}
use Rattle.c_tree.specs.declared.file.External.{External}
use Rattle.c_tree.specs.declared.names.Identifier.{Identifier}
use Rattle.c_tree.specs.declared.statements.Block.{Block}
use Rattle.c_tree.specs.declared.statements.BlockItem.{BlockItem}
use Rattle.c_tree.specs.declared.statements.ForFirst.{ForFirst}
use Rattle.c_tree.specs.declared.statements.Group.{Group}
use Rattle.c_tree.specs.declared.statements.Label.{Label}
use Rattle.c_tree.specs.declared.statements.Simple.{Simple}
use Rattle.c_tree.specs.declared.statements.Statement.{Statement}
use Rattle.c_stack.specs.declared.values.FunctionName.{FunctionName}
use Rattle.c_stack.specs.declared.values.Labels.{Labels}
use Rattle.c_stack.specs.declared.values.Value.TheVariants as value
use Rattle.c_stack.specs.declared.values.TokenValue.TheVariants as token_value
use Rattle.c_stack.specs.declared.values.ExpressionValue.TheVariants as expression_value
use Rattle.c_stack.specs.declared.values.DeclarationValue.TheVariants as declaration_value
use Rattle.c_stack.specs.declared.values.PartValue.TheVariants as part_value
use Rattle.c_stack.specs.declared.values.StatementValue.TheVariants as statement_value
use Rattle.c_stack.specs.declared.values.SwitchValue.TheVariants as switch_value
use Rattle.c_stack.specs.declared.values.FileValue.TheVariants as file_value
use Rattle.c_stack.specs.Values.{Values, Goes, with_place, with_name, with_declared, with_unary_mark, with_binary_mark, with_assignment_mark, with_step_mark, with_sign, with_type, with_object, with_path, with_expression, with_expressions, with_expression_option, with_initializer, with_initializer_option, with_declarator, with_declarators, with_local, with_simple, with_simple_option, with_for_first, with_label, with_labels, with_labelled, with_group, with_groups, with_statement, with_parts, with_block, with_item, with_items, with_names, with_member, with_members, with_name_option, with_parameter, with_parameters, with_storage, with_function, with_external, with_externals, with_tree}
use Rattle.c_text_laws.specs.Bytes.{PathBytes, ExpressionBytes, InitializerBytes, DeclaratorBytes, LocalBytes, SimpleBytes, LabelBytes, FirstBytes, StatementBytes, ItemBytes, MemberDeclaratorBytes, MemberBytes, ExternalBytes, TreeBytes}
use Rattle.c_text_laws.proofs.Values.{HaveBytes, GroupBytes, StackBytes}

pub takes_place : (st : Values) (go : Goes Place) → StackBytes st → ((x : Place) (rest : Values) → StackBytes rest → IfSome (go x rest) StackBytes) → IfSome (with_place st go) StackBytes
takes_place (value.Token (token_value.Place x) ∷ st) go h k = k x st h.1
takes_place _ go h k = tt

pub takes_name : (st : Values) (go : Goes Identifier) → StackBytes st → ((x : Identifier) (rest : Values) → StackBytes rest → IfSome (go x rest) StackBytes) → IfSome (with_name st go) StackBytes
takes_name (value.Token (token_value.Name x) ∷ st) go h k = k x st h.1
takes_name _ go h k = tt

pub takes_declared : (st : Values) (go : Goes Identifier) → StackBytes st → ((x : Identifier) (rest : Values) → StackBytes rest → IfSome (go x rest) StackBytes) → IfSome (with_declared st go) StackBytes
takes_declared (value.Token (token_value.Declared x) ∷ st) go h k = k x st h.1
takes_declared _ go h k = tt

pub takes_unary_mark : (st : Values) (go : Goes UnaryMark) → StackBytes st → ((x : UnaryMark) (rest : Values) → StackBytes rest → IfSome (go x rest) StackBytes) → IfSome (with_unary_mark st go) StackBytes
takes_unary_mark (value.Token (token_value.UnaryMark x) ∷ st) go h k = k x st h.1
takes_unary_mark _ go h k = tt

pub takes_binary_mark : (st : Values) (go : Goes BinaryMark) → StackBytes st → ((x : BinaryMark) (rest : Values) → StackBytes rest → IfSome (go x rest) StackBytes) → IfSome (with_binary_mark st go) StackBytes
takes_binary_mark (value.Token (token_value.BinaryMark x) ∷ st) go h k = k x st h.1
takes_binary_mark _ go h k = tt

pub takes_assignment_mark : (st : Values) (go : Goes AssignmentMark) → StackBytes st → ((x : AssignmentMark) (rest : Values) → StackBytes rest → IfSome (go x rest) StackBytes) → IfSome (with_assignment_mark st go) StackBytes
takes_assignment_mark (value.Token (token_value.AssignmentMark x) ∷ st) go h k = k x st h.1
takes_assignment_mark _ go h k = tt

pub takes_step_mark : (st : Values) (go : Goes StepMark) → StackBytes st → ((x : StepMark) (rest : Values) → StackBytes rest → IfSome (go x rest) StackBytes) → IfSome (with_step_mark st go) StackBytes
takes_step_mark (value.Token (token_value.StepMark x) ∷ st) go h k = k x st h.1
takes_step_mark _ go h k = tt

pub takes_sign : (st : Values) (go : Goes SignMark) → StackBytes st → ((x : SignMark) (rest : Values) → StackBytes rest → IfSome (go x rest) StackBytes) → IfSome (with_sign st go) StackBytes
takes_sign (value.Token (token_value.Sign x) ∷ st) go h k = k x st h.1
takes_sign _ go h k = tt

pub takes_type : (st : Values) (go : Goes TypeName) → StackBytes st → ((x : TypeName) (rest : Values) → StackBytes rest → IfSome (go x rest) StackBytes) → IfSome (with_type st go) StackBytes
takes_type (value.Expression (expression_value.Type x) ∷ st) go h k = k x st h.1
takes_type _ go h k = tt

pub takes_object : (st : Values) (go : Goes Object) → StackBytes st → ((x : Object) (rest : Values) → StackBytes rest → IfSome (go x rest) StackBytes) → IfSome (with_object st go) StackBytes
takes_object (value.Expression (expression_value.Object x) ∷ st) go h k = k x st h.1
takes_object _ go h k = tt

pub takes_path : (st : Values) (go : Goes Path) → StackBytes st → ((x : Path) (rest : Values) → PathBytes x → StackBytes rest → IfSome (go x rest) StackBytes) → IfSome (with_path st go) StackBytes
takes_path (value.Expression (expression_value.Path x) ∷ st) go h k = k x st h.0 h.1
takes_path _ go h k = tt

pub takes_expression : (st : Values) (go : Goes Expression) → StackBytes st → ((x : Expression) (rest : Values) → ExpressionBytes x → StackBytes rest → IfSome (go x rest) StackBytes) → IfSome (with_expression st go) StackBytes
takes_expression (value.Expression (expression_value.Expression x) ∷ st) go h k = k x st h.0 h.1
takes_expression _ go h k = tt

pub takes_expressions : (st : Values) (go : Goes (List Expression)) → StackBytes st → ((x : List Expression) (rest : Values) → All ExpressionBytes x → StackBytes rest → IfSome (go x rest) StackBytes) → IfSome (with_expressions st go) StackBytes
takes_expressions (value.Expression (expression_value.Expressions x) ∷ st) go h k = k x st h.0 h.1
takes_expressions _ go h k = tt

pub takes_expression_option : (st : Values) (go : Goes (Option Expression)) → StackBytes st → ((x : Option Expression) (rest : Values) → IfSome x ExpressionBytes → StackBytes rest → IfSome (go x rest) StackBytes) → IfSome (with_expression_option st go) StackBytes
takes_expression_option (value.Expression (expression_value.ExpressionOption x) ∷ st) go h k = k x st h.0 h.1
takes_expression_option _ go h k = tt

pub takes_initializer : (st : Values) (go : Goes Initializer) → StackBytes st → ((x : Initializer) (rest : Values) → InitializerBytes x → StackBytes rest → IfSome (go x rest) StackBytes) → IfSome (with_initializer st go) StackBytes
takes_initializer (value.Expression (expression_value.Initializer x) ∷ st) go h k = k x st h.0 h.1
takes_initializer _ go h k = tt

pub takes_initializer_option : (st : Values) (go : Goes (Option Initializer)) → StackBytes st → ((x : Option Initializer) (rest : Values) → IfSome x InitializerBytes → StackBytes rest → IfSome (go x rest) StackBytes) → IfSome (with_initializer_option st go) StackBytes
takes_initializer_option (value.Expression (expression_value.InitializerOption x) ∷ st) go h k = k x st h.0 h.1
takes_initializer_option _ go h k = tt

pub takes_declarator : (st : Values) (go : Goes Declarator) → StackBytes st → ((x : Declarator) (rest : Values) → DeclaratorBytes x → StackBytes rest → IfSome (go x rest) StackBytes) → IfSome (with_declarator st go) StackBytes
takes_declarator (value.Declaration (declaration_value.Declarator x) ∷ st) go h k = k x st h.0 h.1
takes_declarator _ go h k = tt

pub takes_declarators : (st : Values) (go : Goes (List Declarator)) → StackBytes st → ((x : List Declarator) (rest : Values) → All DeclaratorBytes x → StackBytes rest → IfSome (go x rest) StackBytes) → IfSome (with_declarators st go) StackBytes
takes_declarators (value.Declaration (declaration_value.Declarators x) ∷ st) go h k = k x st h.0 h.1
takes_declarators _ go h k = tt

pub takes_local : (st : Values) (go : Goes Local) → StackBytes st → ((x : Local) (rest : Values) → LocalBytes x → StackBytes rest → IfSome (go x rest) StackBytes) → IfSome (with_local st go) StackBytes
takes_local (value.Declaration (declaration_value.Local x) ∷ st) go h k = k x st h.0 h.1
takes_local _ go h k = tt

pub takes_simple : (st : Values) (go : Goes Simple) → StackBytes st → ((x : Simple) (rest : Values) → SimpleBytes x → StackBytes rest → IfSome (go x rest) StackBytes) → IfSome (with_simple st go) StackBytes
takes_simple (value.Statement (statement_value.Simple x) ∷ st) go h k = k x st h.0 h.1
takes_simple _ go h k = tt

pub takes_simple_option : (st : Values) (go : Goes (Option Simple)) → StackBytes st → ((x : Option Simple) (rest : Values) → IfSome x SimpleBytes → StackBytes rest → IfSome (go x rest) StackBytes) → IfSome (with_simple_option st go) StackBytes
takes_simple_option (value.Statement (statement_value.SimpleOption x) ∷ st) go h k = k x st h.0 h.1
takes_simple_option _ go h k = tt

pub takes_for_first : (st : Values) (go : Goes ForFirst) → StackBytes st → ((x : ForFirst) (rest : Values) → FirstBytes x → StackBytes rest → IfSome (go x rest) StackBytes) → IfSome (with_for_first st go) StackBytes
takes_for_first (value.Statement (statement_value.ForFirst x) ∷ st) go h k = k x st h.0 h.1
takes_for_first _ go h k = tt

pub takes_label : (st : Values) (go : Goes Label) → StackBytes st → ((x : Label) (rest : Values) → LabelBytes x → StackBytes rest → IfSome (go x rest) StackBytes) → IfSome (with_label st go) StackBytes
takes_label (value.Statement (statement_value.Label x) ∷ st) go h k = k x st h.0 h.1
takes_label _ go h k = tt

pub takes_labels : (st : Values) (go : Goes Labels) → StackBytes st → ((x : Labels) (rest : Values) → HaveBytes x.labels → StackBytes rest → IfSome (go x rest) StackBytes) → IfSome (with_labels st go) StackBytes
takes_labels (value.Switch (switch_value.Labels x) ∷ st) go h k = k x st h.0 h.1
takes_labels _ go h k = tt

pub takes_labelled : (st : Values) (go : Goes Group) → StackBytes st → ((x : Group) (rest : Values) → GroupBytes x → StackBytes rest → IfSome (go x rest) StackBytes) → IfSome (with_labelled st go) StackBytes
takes_labelled (value.Switch (switch_value.Labelled x) ∷ st) go h k = k x st h.0 h.1
takes_labelled _ go h k = tt

pub takes_group : (st : Values) (go : Goes Group) → StackBytes st → ((x : Group) (rest : Values) → GroupBytes x → StackBytes rest → IfSome (go x rest) StackBytes) → IfSome (with_group st go) StackBytes
takes_group (value.Switch (switch_value.Group x) ∷ st) go h k = k x st h.0 h.1
takes_group _ go h k = tt

pub takes_groups : (st : Values) (go : Goes (List Group)) → StackBytes st → ((x : List Group) (rest : Values) → All GroupBytes x → StackBytes rest → IfSome (go x rest) StackBytes) → IfSome (with_groups st go) StackBytes
takes_groups (value.Switch (switch_value.Groups x) ∷ st) go h k = k x st h.0 h.1
takes_groups _ go h k = tt

pub takes_statement : (st : Values) (go : Goes Statement) → StackBytes st → ((x : Statement) (rest : Values) → StatementBytes x → StackBytes rest → IfSome (go x rest) StackBytes) → IfSome (with_statement st go) StackBytes
takes_statement (value.Statement (statement_value.Statement x) ∷ st) go h k = k x st h.0 h.1
takes_statement _ go h k = tt

pub takes_parts : (st : Values) (go : Goes (List BlockItem)) → StackBytes st → ((x : List BlockItem) (rest : Values) → All ItemBytes x → StackBytes rest → IfSome (go x rest) StackBytes) → IfSome (with_parts st go) StackBytes
takes_parts (value.Statement (statement_value.Parts x) ∷ st) go h k = k x st h.0 h.1
takes_parts _ go h k = tt

pub takes_block : (st : Values) (go : Goes Block) → StackBytes st → ((x : Block) (rest : Values) → All ItemBytes x.items → StackBytes rest → IfSome (go x rest) StackBytes) → IfSome (with_block st go) StackBytes
takes_block (value.Statement (statement_value.Block x) ∷ st) go h k = k x st h.0 h.1
takes_block _ go h k = tt

pub takes_item : (st : Values) (go : Goes MemberDeclarator) → StackBytes st → ((x : MemberDeclarator) (rest : Values) → MemberDeclaratorBytes x → StackBytes rest → IfSome (go x rest) StackBytes) → IfSome (with_item st go) StackBytes
takes_item (value.Declaration (declaration_value.Item x) ∷ st) go h k = k x st h.0 h.1
takes_item _ go h k = tt

pub takes_items : (st : Values) (go : Goes (List MemberDeclarator)) → StackBytes st → ((x : List MemberDeclarator) (rest : Values) → All MemberDeclaratorBytes x → StackBytes rest → IfSome (go x rest) StackBytes) → IfSome (with_items st go) StackBytes
takes_items (value.Declaration (declaration_value.Items x) ∷ st) go h k = k x st h.0 h.1
takes_items _ go h k = tt

pub takes_names : (st : Values) (go : Goes (List Identifier)) → StackBytes st → ((x : List Identifier) (rest : Values) → StackBytes rest → IfSome (go x rest) StackBytes) → IfSome (with_names st go) StackBytes
takes_names (value.Declaration (declaration_value.Names x) ∷ st) go h k = k x st h.1
takes_names _ go h k = tt

pub takes_member : (st : Values) (go : Goes Member) → StackBytes st → ((x : Member) (rest : Values) → MemberBytes x → StackBytes rest → IfSome (go x rest) StackBytes) → IfSome (with_member st go) StackBytes
takes_member (value.Part (part_value.Member x) ∷ st) go h k = k x st h.0 h.1
takes_member _ go h k = tt

pub takes_members : (st : Values) (go : Goes (List Member)) → StackBytes st → ((x : List Member) (rest : Values) → All MemberBytes x → StackBytes rest → IfSome (go x rest) StackBytes) → IfSome (with_members st go) StackBytes
takes_members (value.Part (part_value.Members x) ∷ st) go h k = k x st h.0 h.1
takes_members _ go h k = tt

pub takes_name_option : (st : Values) (go : Goes (Option Identifier)) → StackBytes st → ((x : Option Identifier) (rest : Values) → StackBytes rest → IfSome (go x rest) StackBytes) → IfSome (with_name_option st go) StackBytes
takes_name_option (value.Declaration (declaration_value.NameOption x) ∷ st) go h k = k x st h.1
takes_name_option _ go h k = tt

pub takes_parameter : (st : Values) (go : Goes Parameter) → StackBytes st → ((x : Parameter) (rest : Values) → StackBytes rest → IfSome (go x rest) StackBytes) → IfSome (with_parameter st go) StackBytes
takes_parameter (value.Part (part_value.Parameter x) ∷ st) go h k = k x st h.1
takes_parameter _ go h k = tt

pub takes_parameters : (st : Values) (go : Goes (List Parameter)) → StackBytes st → ((x : List Parameter) (rest : Values) → StackBytes rest → IfSome (go x rest) StackBytes) → IfSome (with_parameters st go) StackBytes
takes_parameters (value.Part (part_value.Parameters x) ∷ st) go h k = k x st h.1
takes_parameters _ go h k = tt

pub takes_storage : (st : Values) (go : Goes Storage) → StackBytes st → ((x : Storage) (rest : Values) → StackBytes rest → IfSome (go x rest) StackBytes) → IfSome (with_storage st go) StackBytes
takes_storage (value.Part (part_value.Storage x) ∷ st) go h k = k x st h.1
takes_storage _ go h k = tt

pub takes_function : (st : Values) (go : Goes FunctionName) → StackBytes st → ((x : FunctionName) (rest : Values) → StackBytes rest → IfSome (go x rest) StackBytes) → IfSome (with_function st go) StackBytes
takes_function (value.Part (part_value.Function x) ∷ st) go h k = k x st h.1
takes_function _ go h k = tt

pub takes_external : (st : Values) (go : Goes External) → StackBytes st → ((x : External) (rest : Values) → ExternalBytes x → StackBytes rest → IfSome (go x rest) StackBytes) → IfSome (with_external st go) StackBytes
takes_external (value.File (file_value.External x) ∷ st) go h k = k x st h.0 h.1
takes_external _ go h k = tt

pub takes_externals : (st : Values) (go : Goes (List External)) → StackBytes st → ((x : List External) (rest : Values) → All ExternalBytes x → StackBytes rest → IfSome (go x rest) StackBytes) → IfSome (with_externals st go) StackBytes
takes_externals (value.File (file_value.Externals x) ∷ st) go h k = k x st h.0 h.1
takes_externals _ go h k = tt

pub takes_tree : (st : Values) (go : Goes CTree) → StackBytes st → ((x : CTree) (rest : Values) → TreeBytes x → StackBytes rest → IfSome (go x rest) StackBytes) → IfSome (with_tree st go) StackBytes
takes_tree (value.File (file_value.Tree x) ∷ st) go h k = k x st h.0 h.1
takes_tree _ go h k = tt
