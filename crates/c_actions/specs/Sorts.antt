-- The sort of each value, by the numbers that the table's actions have.
use Rattle.std.specs.Prelude.{ℕ, List, map}
use Rattle.c_stack.specs.declared.values.Value.{Value}
use Rattle.c_stack.specs.declared.values.Value.TheVariants as value
use Rattle.c_stack.specs.declared.values.TokenValue.TheVariants as token_value
use Rattle.c_stack.specs.declared.values.ExpressionValue.TheVariants as expression_value
use Rattle.c_stack.specs.declared.values.DeclarationValue.TheVariants as declaration_value
use Rattle.c_stack.specs.declared.values.PartValue.TheVariants as part_value
use Rattle.c_stack.specs.declared.values.StatementValue.TheVariants as statement_value
use Rattle.c_stack.specs.declared.values.SwitchValue.TheVariants as switch_value
use Rattle.c_stack.specs.declared.values.FileValue.TheVariants as file_value
use Rattle.c_stack.specs.Values.{Values}

-- the number of a value's sort, as the table's actions name it
abbrev pub sort_of : Value → ℕ
sort_of (value.File (file_value.Externals x)) = 0
sort_of (value.File (file_value.Tree x)) = 1
sort_of (value.File (file_value.External x)) = 2
sort_of (value.Token (token_value.Place x)) = 3
sort_of (value.Token (token_value.Declared x)) = 4
sort_of (value.Part (part_value.Members x)) = 5
sort_of (value.Token (token_value.Name x)) = 6
sort_of (value.Expression (expression_value.Type x)) = 7
sort_of (value.Part (part_value.Storage x)) = 8
sort_of (value.Part (part_value.Function x)) = 9
sort_of (value.Part (part_value.Parameters x)) = 10
sort_of (value.Statement (statement_value.Block x)) = 11
sort_of (value.Declaration (declaration_value.Declarators x)) = 12
sort_of (value.Part (part_value.Member x)) = 13
sort_of (value.Declaration (declaration_value.Items x)) = 14
sort_of (value.Declaration (declaration_value.Names x)) = 15
sort_of (value.Declaration (declaration_value.Item x)) = 16
sort_of (value.Expression (expression_value.Expression x)) = 17
sort_of (value.Part (part_value.Parameter x)) = 18
sort_of (value.Declaration (declaration_value.NameOption x)) = 19
sort_of (value.Declaration (declaration_value.Declarator x)) = 20
sort_of (value.Expression (expression_value.Initializer x)) = 21
sort_of (value.Expression (expression_value.Expressions x)) = 22
sort_of (value.Token (token_value.Sign x)) = 23
sort_of (value.Statement (statement_value.Parts x)) = 24
sort_of (value.Declaration (declaration_value.Local x)) = 25
sort_of (value.Statement (statement_value.Statement x)) = 26
sort_of (value.Statement (statement_value.Simple x)) = 27
sort_of (value.Statement (statement_value.ForFirst x)) = 28
sort_of (value.Expression (expression_value.ExpressionOption x)) = 29
sort_of (value.Statement (statement_value.SimpleOption x)) = 30
sort_of (value.Switch (switch_value.Groups x)) = 31
sort_of (value.Expression (expression_value.InitializerOption x)) = 32
sort_of (value.Switch (switch_value.Group x)) = 33
sort_of (value.Statement (statement_value.Label x)) = 34
sort_of (value.Switch (switch_value.Labels x)) = 35
sort_of (value.Switch (switch_value.Labelled x)) = 36
sort_of (value.Expression (expression_value.Path x)) = 37
sort_of (value.Token (token_value.AssignmentMark x)) = 38
sort_of (value.Token (token_value.StepMark x)) = 39
sort_of (value.Expression (expression_value.Object x)) = 40
sort_of (value.Token (token_value.UnaryMark x)) = 41
sort_of (value.Token (token_value.BinaryMark x)) = 42

-- the sorts on a stack, the top first
abbrev pub sorts_of : Values → List ℕ
sorts_of st = map sort_of st
