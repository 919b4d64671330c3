-- What is known of each value on the stack: its characters are bytes, and its groups have labels.
use Rattle.std.specs.Prelude.{List, [], ◌∷◌, All, IfSome, ◌<◌, length}
use Rattle.c_tree.specs.declared.statements.Group.{Group}
use Rattle.c_tree.specs.declared.statements.Label.{Label}
use Rattle.c_stack.specs.declared.values.Value.{Value}
use Rattle.c_stack.specs.declared.values.Value.TheVariants as value
use Rattle.c_stack.specs.declared.values.ExpressionValue.TheVariants as expression_value
use Rattle.c_stack.specs.declared.values.DeclarationValue.TheVariants as declaration_value
use Rattle.c_stack.specs.declared.values.PartValue.TheVariants as part_value
use Rattle.c_stack.specs.declared.values.StatementValue.TheVariants as statement_value
use Rattle.c_stack.specs.declared.values.SwitchValue.TheVariants as switch_value
use Rattle.c_stack.specs.declared.values.FileValue.TheVariants as file_value
use Rattle.c_stack.specs.Values.{Values}
use Rattle.c_text_laws.specs.Bytes.{PathBytes, ExpressionBytes, InitializerBytes, DeclaratorBytes, LocalBytes, SimpleBytes, LabelBytes, FirstBytes, StatementBytes, ItemBytes, MemberDeclaratorBytes, MemberBytes, ExternalBytes, TreeBytes}

-- some labels
abbrev pub HaveBytes : List Label → Type 0
HaveBytes labels = (0 < length labels) × All LabelBytes labels

-- a group, with its labels and its statements
abbrev pub GroupBytes : Group → Type 0
GroupBytes g = HaveBytes g.labels × All StatementBytes g.body

-- a value
abbrev pub ValueBytes : Value → Type 0
ValueBytes (value.Expression (expression_value.Path x)) = PathBytes x
ValueBytes (value.Expression (expression_value.Expression x)) = ExpressionBytes x
ValueBytes (value.Expression (expression_value.Expressions x)) = All ExpressionBytes x
ValueBytes (value.Expression (expression_value.ExpressionOption x)) = IfSome x ExpressionBytes
ValueBytes (value.Expression (expression_value.Initializer x)) = InitializerBytes x
ValueBytes (value.Expression (expression_value.InitializerOption x)) = IfSome x InitializerBytes
ValueBytes (value.Declaration (declaration_value.Declarator x)) = DeclaratorBytes x
ValueBytes (value.Declaration (declaration_value.Declarators x)) = All DeclaratorBytes x
ValueBytes (value.Declaration (declaration_value.Local x)) = LocalBytes x
ValueBytes (value.Statement (statement_value.Simple x)) = SimpleBytes x
ValueBytes (value.Statement (statement_value.SimpleOption x)) = IfSome x SimpleBytes
ValueBytes (value.Statement (statement_value.ForFirst x)) = FirstBytes x
ValueBytes (value.Statement (statement_value.Label x)) = LabelBytes x
ValueBytes (value.Switch (switch_value.Labels x)) = HaveBytes x.labels
ValueBytes (value.Switch (switch_value.Labelled x)) = GroupBytes x
ValueBytes (value.Switch (switch_value.Group x)) = GroupBytes x
ValueBytes (value.Switch (switch_value.Groups x)) = All GroupBytes x
ValueBytes (value.Statement (statement_value.Statement x)) = StatementBytes x
ValueBytes (value.Statement (statement_value.Parts x)) = All ItemBytes x
ValueBytes (value.Statement (statement_value.Block x)) = All ItemBytes x.items
ValueBytes (value.Declaration (declaration_value.Item x)) = MemberDeclaratorBytes x
ValueBytes (value.Declaration (declaration_value.Items x)) = All MemberDeclaratorBytes x
ValueBytes (value.Part (part_value.Member x)) = MemberBytes x
ValueBytes (value.Part (part_value.Members x)) = All MemberBytes x
ValueBytes (value.File (file_value.External x)) = ExternalBytes x
ValueBytes (value.File (file_value.Externals x)) = All ExternalBytes x
ValueBytes (value.File (file_value.Tree x)) = TreeBytes x
ValueBytes _ = Unit {0}

-- each value of a stack
abbrev pub StackBytes : Values → Type 0
StackBytes [] = Unit {0}
StackBytes (v ∷ st) = ValueBytes v × StackBytes st
