-- A stack whose top is of a sort has a value of that sort on top.
use Rattle.std.proofs.Common.{◌≡◌, ℕ, List, [], ◌∷◌, Option, true, false, nat_eq, refl, eq-eqb}
use Rattle.src_text.specs.declared.refusal.Place.{Place}
use Rattle.c_tree.specs.declared.declarations.Declarator.{Declarator}
use Rattle.c_tree.specs.declared.declarations.Initializer.{Initializer}
use Rattle.c_tree.specs.declared.declarations.Local.{Local}
use Rattle.c_tree.specs.declared.declarations.Member.{Member}
use Rattle.c_tree.specs.declared.declarations.MemberDeclarator.{MemberDeclarator}
use Rattle.c_tree.specs.declared.declarations.Parameter.{Parameter}
use Rattle.c_tree.specs.declared.declarations.SignMark.{SignMark}
use Rattle.c_tree.specs.declared.declarations.Storage.{Storage}
use Rattle.c_tree.specs.declared.declarations.TypeName.{TypeName}
use Rattle.c_tree.specs.declared.expressions.AssignmentMark.{AssignmentMark}
use Rattle.c_tree.specs.declared.expressions.BinaryMark.{BinaryMark}
use Rattle.c_tree.specs.declared.expressions.Expression.{Expression}
use Rattle.c_tree.specs.declared.expressions.Object.{Object}
use Rattle.c_tree.specs.declared.expressions.Path.{Path}
use Rattle.c_tree.specs.declared.expressions.StepMark.{StepMark}
use Rattle.c_tree.specs.declared.expressions.UnaryMark.{UnaryMark}
use Rattle.c_tree.specs.declared.file.CTree.{CTree}
use Rattle.c_tree.specs.declared.file.External.{External}
use Rattle.c_tree.specs.declared.names.Identifier.{Identifier}
use Rattle.c_tree.specs.declared.statements.Block.{Block}
use Rattle.c_tree.specs.declared.statements.BlockItem.{BlockItem}
use Rattle.c_tree.specs.declared.statements.ForFirst.{ForFirst}
use Rattle.c_tree.specs.declared.statements.Group.{Group}
use Rattle.c_tree.specs.declared.statements.Label.{Label}
use Rattle.c_tree.specs.declared.statements.Simple.{Simple}
use Rattle.c_tree.specs.declared.statements.Statement.{Statement}
use Rattle.c_stack.specs.declared.values.FunctionName.{FunctionName}
use Rattle.c_stack.specs.declared.values.Labels.{Labels}
use Rattle.c_stack.specs.declared.values.Value.TheVariants as value
use Rattle.c_stack.specs.declared.values.TokenValue.TheVariants as token_value
use Rattle.c_stack.specs.declared.values.ExpressionValue.TheVariants as expression_value
use Rattle.c_stack.specs.declared.values.DeclarationValue.TheVariants as declaration_value
use Rattle.c_stack.specs.declared.values.PartValue.TheVariants as part_value
use Rattle.c_stack.specs.declared.values.StatementValue.TheVariants as statement_value
use Rattle.c_stack.specs.declared.values.SwitchValue.TheVariants as switch_value
use Rattle.c_stack.specs.declared.values.FileValue.TheVariants as file_value
use Rattle.c_stack.specs.Values.{Values, Goes, with_externals, with_tree, with_external, with_place, with_declared, with_members, with_name, with_type, with_storage, with_function, with_parameters, with_block, with_declarators, with_member, with_items, with_names, with_item, with_expression, with_parameter, with_name_option, with_declarator, with_initializer, with_expressions, with_sign, with_parts, with_local, with_statement, with_simple, with_for_first, with_expression_option, with_simple_option, with_groups, with_initializer_option, with_group, with_label, with_labels, with_labelled, with_path, with_assignment_mark, with_step_mark, with_object, with_unary_mark, with_binary_mark}
use Rattle.c_actions.specs.Sorts.{sorts_of}

tails : {x y : ℕ} {xs ys : List ℕ} → x ∷ xs ≡ y ∷ ys → xs ≡ ys
tails e = cc

differ : {A : Type 0} {x y : ℕ} {xs ys : List ℕ} → nat_eq x y ≡ false → x ∷ xs ≡ y ∷ ys → A
differ {x = x} {y = y} n e = let h : x ≡ y = cc in let t : nat_eq x y ≡ true = eq-eqb x y h in let f : ⊥ = cc in absurd f

lacks : {A : Type 0} {y : ℕ} {ys : List ℕ} → [] ≡ y ∷ ys → A
lacks e = let f : ⊥ = cc in absurd f

pub has_externals : (P : Values → Option Values → Type 0) (go : Goes (List External)) (st : Values) (ys : List ℕ) → sorts_of st ≡ 0 ∷ ys →
    ((x : (List External)) (rest : Values) → sorts_of rest ≡ ys → P (value.File (file_value.Externals x) ∷ rest) (go x rest)) → P st (with_externals st go)
has_externals P go (value.File (file_value.Externals x) ∷ st) ys e k = k x st (tails e)
has_externals P go (value.Token (token_value.Place x) ∷ st) ys e k = differ refl e
has_externals P go (value.Expression (expression_value.Type x) ∷ st) ys e k = differ refl e
has_externals P go (value.Declaration (declaration_value.Declarator x) ∷ st) ys e k = differ refl e
has_externals P go (value.Part (part_value.Member x) ∷ st) ys e k = differ refl e
has_externals P go (value.Statement (statement_value.Simple x) ∷ st) ys e k = differ refl e
has_externals P go (value.Switch (switch_value.Labels x) ∷ st) ys e k = differ refl e
has_externals P go (_ ∷ st) ys e k = differ refl e
has_externals P go [] ys e k = lacks e

pub has_tree : (P : Values → Option Values → Type 0) (go : Goes CTree) (st : Values) (ys : List ℕ) → sorts_of st ≡ 1 ∷ ys →
    ((x : CTree) (rest : Values) → sorts_of rest ≡ ys → P (value.File (file_value.Tree x) ∷ rest) (go x rest)) → P st (with_tree st go)
has_tree P go (value.File (file_value.Tree x) ∷ st) ys e k = k x st (tails e)
has_tree P go (value.Token (token_value.Place x) ∷ st) ys e k = differ refl e
has_tree P go (value.Expression (expression_value.Type x) ∷ st) ys e k = differ refl e
has_tree P go (value.Declaration (declaration_value.Declarator x) ∷ st) ys e k = differ refl e
has_tree P go (value.Part (part_value.Member x) ∷ st) ys e k = differ refl e
has_tree P go (value.Statement (statement_value.Simple x) ∷ st) ys e k = differ refl e
has_tree P go (value.Switch (switch_value.Labels x) ∷ st) ys e k = differ refl e
has_tree P go (_ ∷ st) ys e k = differ refl e
has_tree P go [] ys e k = lacks e

pub has_external : (P : Values → Option Values → Type 0) (go : Goes External) (st : Values) (ys : List ℕ) → sorts_of st ≡ 2 ∷ ys →
    ((x : External) (rest : Values) → sorts_of rest ≡ ys → P (value.File (file_value.External x) ∷ rest) (go x rest)) → P st (with_external st go)
has_external P go (value.File (file_value.External x) ∷ st) ys e k = k x st (tails e)
has_external P go (value.Token (token_value.Place x) ∷ st) ys e k = differ refl e
has_external P go (value.Expression (expression_value.Type x) ∷ st) ys e k = differ refl e
has_external P go (value.Declaration (declaration_value.Declarator x) ∷ st) ys e k = differ refl e
has_external P go (value.Part (part_value.Member x) ∷ st) ys e k = differ refl e
has_external P go (value.Statement (statement_value.Simple x) ∷ st) ys e k = differ refl e
has_external P go (value.Switch (switch_value.Labels x) ∷ st) ys e k = differ refl e
has_external P go (_ ∷ st) ys e k = differ refl e
has_external P go [] ys e k = lacks e

pub has_place : (P : Values → Option Values → Type 0) (go : Goes Place) (st : Values) (ys : List ℕ) → sorts_of st ≡ 3 ∷ ys →
    ((x : Place) (rest : Values) → sorts_of rest ≡ ys → P (value.Token (token_value.Place x) ∷ rest) (go x rest)) → P st (with_place st go)
has_place P go (value.Token (token_value.Place x) ∷ st) ys e k = k x st (tails e)
has_place P go (value.Expression (expression_value.Type x) ∷ st) ys e k = differ refl e
has_place P go (value.Declaration (declaration_value.Declarator x) ∷ st) ys e k = differ refl e
has_place P go (value.Part (part_value.Member x) ∷ st) ys e k = differ refl e
has_place P go (value.Statement (statement_value.Simple x) ∷ st) ys e k = differ refl e
has_place P go (value.Switch (switch_value.Labels x) ∷ st) ys e k = differ refl e
has_place P go (value.File (file_value.External x) ∷ st) ys e k = differ refl e
has_place P go (_ ∷ st) ys e k = differ refl e
has_place P go [] ys e k = lacks e

pub has_declared : (P : Values → Option Values → Type 0) (go : Goes Identifier) (st : Values) (ys : List ℕ) → sorts_of st ≡ 4 ∷ ys →
    ((x : Identifier) (rest : Values) → sorts_of rest ≡ ys → P (value.Token (token_value.Declared x) ∷ rest) (go x rest)) → P st (with_declared st go)
has_declared P go (value.Token (token_value.Declared x) ∷ st) ys e k = k x st (tails e)
has_declared P go (value.Expression (expression_value.Type x) ∷ st) ys e k = differ refl e
has_declared P go (value.Declaration (declaration_value.Declarator x) ∷ st) ys e k = differ refl e
has_declared P go (value.Part (part_value.Member x) ∷ st) ys e k = differ refl e
has_declared P go (value.Statement (statement_value.Simple x) ∷ st) ys e k = differ refl e
has_declared P go (value.Switch (switch_value.Labels x) ∷ st) ys e k = differ refl e
has_declared P go (value.File (file_value.External x) ∷ st) ys e k = differ refl e
has_declared P go (_ ∷ st) ys e k = differ refl e
has_declared P go [] ys e k = lacks e

pub has_members : (P : Values → Option Values → Type 0) (go : Goes (List Member)) (st : Values) (ys : List ℕ) → sorts_of st ≡ 5 ∷ ys →
    ((x : (List Member)) (rest : Values) → sorts_of rest ≡ ys → P (value.Part (part_value.Members x) ∷ rest) (go x rest)) → P st (with_members st go)
has_members P go (value.Part (part_value.Members x) ∷ st) ys e k = k x st (tails e)
has_members P go (value.Token (token_value.Place x) ∷ st) ys e k = differ refl e
has_members P go (value.Expression (expression_value.Type x) ∷ st) ys e k = differ refl e
has_members P go (value.Declaration (declaration_value.Declarator x) ∷ st) ys e k = differ refl e
has_members P go (value.Statement (statement_value.Simple x) ∷ st) ys e k = differ refl e
has_members P go (value.Switch (switch_value.Labels x) ∷ st) ys e k = differ refl e
has_members P go (value.File (file_value.External x) ∷ st) ys e k = differ refl e
has_members P go (_ ∷ st) ys e k = differ refl e
has_members P go [] ys e k = lacks e

pub has_name : (P : Values → Option Values → Type 0) (go : Goes Identifier) (st : Values) (ys : List ℕ) → sorts_of st ≡ 6 ∷ ys →
    ((x : Identifier) (rest : Values) → sorts_of rest ≡ ys → P (value.Token (token_value.Name x) ∷ rest) (go x rest)) → P st (with_name st go)
has_name P go (value.Token (token_value.Name x) ∷ st) ys e k = k x st (tails e)
has_name P go (value.Expression (expression_value.Type x) ∷ st) ys e k = differ refl e
has_name P go (value.Declaration (declaration_value.Declarator x) ∷ st) ys e k = differ refl e
has_name P go (value.Part (part_value.Member x) ∷ st) ys e k = differ refl e
has_name P go (value.Statement (statement_value.Simple x) ∷ st) ys e k = differ refl e
has_name P go (value.Switch (switch_value.Labels x) ∷ st) ys e k = differ refl e
has_name P go (value.File (file_value.External x) ∷ st) ys e k = differ refl e
has_name P go (_ ∷ st) ys e k = differ refl e
has_name P go [] ys e k = lacks e

pub has_type : (P : Values → Option Values → Type 0) (go : Goes TypeName) (st : Values) (ys : List ℕ) → sorts_of st ≡ 7 ∷ ys →
    ((x : TypeName) (rest : Values) → sorts_of rest ≡ ys → P (value.Expression (expression_value.Type x) ∷ rest) (go x rest)) → P st (with_type st go)
has_type P go (value.Expression (expression_value.Type x) ∷ st) ys e k = k x st (tails e)
has_type P go (value.Token (token_value.Place x) ∷ st) ys e k = differ refl e
has_type P go (value.Declaration (declaration_value.Declarator x) ∷ st) ys e k = differ refl e
has_type P go (value.Part (part_value.Member x) ∷ st) ys e k = differ refl e
has_type P go (value.Statement (statement_value.Simple x) ∷ st) ys e k = differ refl e
has_type P go (value.Switch (switch_value.Labels x) ∷ st) ys e k = differ refl e
has_type P go (value.File (file_value.External x) ∷ st) ys e k = differ refl e
has_type P go (_ ∷ st) ys e k = differ refl e
has_type P go [] ys e k = lacks e

pub has_storage : (P : Values → Option Values → Type 0) (go : Goes Storage) (st : Values) (ys : List ℕ) → sorts_of st ≡ 8 ∷ ys →
    ((x : Storage) (rest : Values) → sorts_of rest ≡ ys → P (value.Part (part_value.Storage x) ∷ rest) (go x rest)) → P st (with_storage st go)
has_storage P go (value.Part (part_value.Storage x) ∷ st) ys e k = k x st (tails e)
has_storage P go (value.Token (token_value.Place x) ∷ st) ys e k = differ refl e
has_storage P go (value.Expression (expression_value.Type x) ∷ st) ys e k = differ refl e
has_storage P go (value.Declaration (declaration_value.Declarator x) ∷ st) ys e k = differ refl e
has_storage P go (value.Statement (statement_value.Simple x) ∷ st) ys e k = differ refl e
has_storage P go (value.Switch (switch_value.Labels x) ∷ st) ys e k = differ refl e
has_storage P go (value.File (file_value.External x) ∷ st) ys e k = differ refl e
has_storage P go (_ ∷ st) ys e k = differ refl e
has_storage P go [] ys e k = lacks e

pub has_function : (P : Values → Option Values → Type 0) (go : Goes FunctionName) (st : Values) (ys : List ℕ) → sorts_of st ≡ 9 ∷ ys →
    ((x : FunctionName) (rest : Values) → sorts_of rest ≡ ys → P (value.Part (part_value.Function x) ∷ rest) (go x rest)) → P st (with_function st go)
has_function P go (value.Part (part_value.Function x) ∷ st) ys e k = k x st (tails e)
has_function P go (value.Token (token_value.Place x) ∷ st) ys e k = differ refl e
has_function P go (value.Expression (expression_value.Type x) ∷ st) ys e k = differ refl e
has_function P go (value.Declaration (declaration_value.Declarator x) ∷ st) ys e k = differ refl e
has_function P go (value.Statement (statement_value.Simple x) ∷ st) ys e k = differ refl e
has_function P go (value.Switch (switch_value.Labels x) ∷ st) ys e k = differ refl e
has_function P go (value.File (file_value.External x) ∷ st) ys e k = differ refl e
has_function P go (_ ∷ st) ys e k = differ refl e
has_function P go [] ys e k = lacks e

pub has_parameters : (P : Values → Option Values → Type 0) (go : Goes (List Parameter)) (st : Values) (ys : List ℕ) → sorts_of st ≡ 10 ∷ ys →
    ((x : (List Parameter)) (rest : Values) → sorts_of rest ≡ ys → P (value.Part (part_value.Parameters x) ∷ rest) (go x rest)) → P st (with_parameters st go)
has_parameters P go (value.Part (part_value.Parameters x) ∷ st) ys e k = k x st (tails e)
has_parameters P go (value.Token (token_value.Place x) ∷ st) ys e k = differ refl e
has_parameters P go (value.Expression (expression_value.Type x) ∷ st) ys e k = differ refl e
has_parameters P go (value.Declaration (declaration_value.Declarator x) ∷ st) ys e k = differ refl e
has_parameters P go (value.Statement (statement_value.Simple x) ∷ st) ys e k = differ refl e
has_parameters P go (value.Switch (switch_value.Labels x) ∷ st) ys e k = differ refl e
has_parameters P go (value.File (file_value.External x) ∷ st) ys e k = differ refl e
has_parameters P go (_ ∷ st) ys e k = differ refl e
has_parameters P go [] ys e k = lacks e

pub has_block : (P : Values → Option Values → Type 0) (go : Goes Block) (st : Values) (ys : List ℕ) → sorts_of st ≡ 11 ∷ ys →
    ((x : Block) (rest : Values) → sorts_of rest ≡ ys → P (value.Statement (statement_value.Block x) ∷ rest) (go x rest)) → P st (with_block st go)
has_block P go (value.Statement (statement_value.Block x) ∷ st) ys e k = k x st (tails e)
has_block P go (value.Token (token_value.Place x) ∷ st) ys e k = differ refl e
has_block P go (value.Expression (expression_value.Type x) ∷ st) ys e k = differ refl e
has_block P go (value.Declaration (declaration_value.Declarator x) ∷ st) ys e k = differ refl e
has_block P go (value.Part (part_value.Member x) ∷ st) ys e k = differ refl e
has_block P go (value.Switch (switch_value.Labels x) ∷ st) ys e k = differ refl e
has_block P go (value.File (file_value.External x) ∷ st) ys e k = differ refl e
has_block P go (_ ∷ st) ys e k = differ refl e
has_block P go [] ys e k = lacks e

pub has_declarators : (P : Values → Option Values → Type 0) (go : Goes (List Declarator)) (st : Values) (ys : List ℕ) → sorts_of st ≡ 12 ∷ ys →
    ((x : (List Declarator)) (rest : Values) → sorts_of rest ≡ ys → P (value.Declaration (declaration_value.Declarators x) ∷ rest) (go x rest)) → P st (with_declarators st go)
has_declarators P go (value.Declaration (declaration_value.Declarators x) ∷ st) ys e k = k x st (tails e)
has_declarators P go (value.Token (token_value.Place x) ∷ st) ys e k = differ refl e
has_declarators P go (value.Expression (expression_value.Type x) ∷ st) ys e k = differ refl e
has_declarators P go (value.Part (part_value.Member x) ∷ st) ys e k = differ refl e
has_declarators P go (value.Statement (statement_value.Simple x) ∷ st) ys e k = differ refl e
has_declarators P go (value.Switch (switch_value.Labels x) ∷ st) ys e k = differ refl e
has_declarators P go (value.File (file_value.External x) ∷ st) ys e k = differ refl e
has_declarators P go (_ ∷ st) ys e k = differ refl e
has_declarators P go [] ys e k = lacks e

pub has_member : (P : Values → Option Values → Type 0) (go : Goes Member) (st : Values) (ys : List ℕ) → sorts_of st ≡ 13 ∷ ys →
    ((x : Member) (rest : Values) → sorts_of rest ≡ ys → P (value.Part (part_value.Member x) ∷ rest) (go x rest)) → P st (with_member st go)
has_member P go (value.Part (part_value.Member x) ∷ st) ys e k = k x st (tails e)
has_member P go (value.Token (token_value.Place x) ∷ st) ys e k = differ refl e
has_member P go (value.Expression (expression_value.Type x) ∷ st) ys e k = differ refl e
has_member P go (value.Declaration (declaration_value.Declarator x) ∷ st) ys e k = differ refl e
has_member P go (value.Statement (statement_value.Simple x) ∷ st) ys e k = differ refl e
has_member P go (value.Switch (switch_value.Labels x) ∷ st) ys e k = differ refl e
has_member P go (value.File (file_value.External x) ∷ st) ys e k = differ refl e
has_member P go (_ ∷ st) ys e k = differ refl e
has_member P go [] ys e k = lacks e

pub has_items : (P : Values → Option Values → Type 0) (go : Goes (List MemberDeclarator)) (st : Values) (ys : List ℕ) → sorts_of st ≡ 14 ∷ ys →
    ((x : (List MemberDeclarator)) (rest : Values) → sorts_of rest ≡ ys → P (value.Declaration (declaration_value.Items x) ∷ rest) (go x rest)) → P st (with_items st go)
has_items P go (value.Declaration (declaration_value.Items x) ∷ st) ys e k = k x st (tails e)
has_items P go (value.Token (token_value.Place x) ∷ st) ys e k = differ refl e
has_items P go (value.Expression (expression_value.Type x) ∷ st) ys e k = differ refl e
has_items P go (value.Part (part_value.Member x) ∷ st) ys e k = differ refl e
has_items P go (value.Statement (statement_value.Simple x) ∷ st) ys e k = differ refl e
has_items P go (value.Switch (switch_value.Labels x) ∷ st) ys e k = differ refl e
has_items P go (value.File (file_value.External x) ∷ st) ys e k = differ refl e
has_items P go (_ ∷ st) ys e k = differ refl e
has_items P go [] ys e k = lacks e

pub has_names : (P : Values → Option Values → Type 0) (go : Goes (List Identifier)) (st : Values) (ys : List ℕ) → sorts_of st ≡ 15 ∷ ys →
    ((x : (List Identifier)) (rest : Values) → sorts_of rest ≡ ys → P (value.Declaration (declaration_value.Names x) ∷ rest) (go x rest)) → P st (with_names st go)
has_names P go (value.Declaration (declaration_value.Names x) ∷ st) ys e k = k x st (tails e)
has_names P go (value.Token (token_value.Place x) ∷ st) ys e k = differ refl e
has_names P go (value.Expression (expression_value.Type x) ∷ st) ys e k = differ refl e
has_names P go (value.Part (part_value.Member x) ∷ st) ys e k = differ refl e
has_names P go (value.Statement (statement_value.Simple x) ∷ st) ys e k = differ refl e
has_names P go (value.Switch (switch_value.Labels x) ∷ st) ys e k = differ refl e
has_names P go (value.File (file_value.External x) ∷ st) ys e k = differ refl e
has_names P go (_ ∷ st) ys e k = differ refl e
has_names P go [] ys e k = lacks e

pub has_item : (P : Values → Option Values → Type 0) (go : Goes MemberDeclarator) (st : Values) (ys : List ℕ) → sorts_of st ≡ 16 ∷ ys →
    ((x : MemberDeclarator) (rest : Values) → sorts_of rest ≡ ys → P (value.Declaration (declaration_value.Item x) ∷ rest) (go x rest)) → P st (with_item st go)
has_item P go (value.Declaration (declaration_value.Item x) ∷ st) ys e k = k x st (tails e)
has_item P go (value.Token (token_value.Place x) ∷ st) ys e k = differ refl e
has_item P go (value.Expression (expression_value.Type x) ∷ st) ys e k = differ refl e
has_item P go (value.Part (part_value.Member x) ∷ st) ys e k = differ refl e
has_item P go (value.Statement (statement_value.Simple x) ∷ st) ys e k = differ refl e
has_item P go (value.Switch (switch_value.Labels x) ∷ st) ys e k = differ refl e
has_item P go (value.File (file_value.External x) ∷ st) ys e k = differ refl e
has_item P go (_ ∷ st) ys e k = differ refl e
has_item P go [] ys e k = lacks e

pub has_expression : (P : Values → Option Values → Type 0) (go : Goes Expression) (st : Values) (ys : List ℕ) → sorts_of st ≡ 17 ∷ ys →
    ((x : Expression) (rest : Values) → sorts_of rest ≡ ys → P (value.Expression (expression_value.Expression x) ∷ rest) (go x rest)) → P st (with_expression st go)
has_expression P go (value.Expression (expression_value.Expression x) ∷ st) ys e k = k x st (tails e)
has_expression P go (value.Token (token_value.Place x) ∷ st) ys e k = differ refl e
has_expression P go (value.Declaration (declaration_value.Declarator x) ∷ st) ys e k = differ refl e
has_expression P go (value.Part (part_value.Member x) ∷ st) ys e k = differ refl e
has_expression P go (value.Statement (statement_value.Simple x) ∷ st) ys e k = differ refl e
has_expression P go (value.Switch (switch_value.Labels x) ∷ st) ys e k = differ refl e
has_expression P go (value.File (file_value.External x) ∷ st) ys e k = differ refl e
has_expression P go (_ ∷ st) ys e k = differ refl e
has_expression P go [] ys e k = lacks e

pub has_parameter : (P : Values → Option Values → Type 0) (go : Goes Parameter) (st : Values) (ys : List ℕ) → sorts_of st ≡ 18 ∷ ys →
    ((x : Parameter) (rest : Values) → sorts_of rest ≡ ys → P (value.Part (part_value.Parameter x) ∷ rest) (go x rest)) → P st (with_parameter st go)
has_parameter P go (value.Part (part_value.Parameter x) ∷ st) ys e k = k x st (tails e)
has_parameter P go (value.Token (token_value.Place x) ∷ st) ys e k = differ refl e
has_parameter P go (value.Expression (expression_value.Type x) ∷ st) ys e k = differ refl e
has_parameter P go (value.Declaration (declaration_value.Declarator x) ∷ st) ys e k = differ refl e
has_parameter P go (value.Statement (statement_value.Simple x) ∷ st) ys e k = differ refl e
has_parameter P go (value.Switch (switch_value.Labels x) ∷ st) ys e k = differ refl e
has_parameter P go (value.File (file_value.External x) ∷ st) ys e k = differ refl e
has_parameter P go (_ ∷ st) ys e k = differ refl e
has_parameter P go [] ys e k = lacks e

pub has_name_option : (P : Values → Option Values → Type 0) (go : Goes (Option Identifier)) (st : Values) (ys : List ℕ) → sorts_of st ≡ 19 ∷ ys →
    ((x : (Option Identifier)) (rest : Values) → sorts_of rest ≡ ys → P (value.Declaration (declaration_value.NameOption x) ∷ rest) (go x rest)) → P st (with_name_option st go)
has_name_option P go (value.Declaration (declaration_value.NameOption x) ∷ st) ys e k = k x st (tails e)
has_name_option P go (value.Token (token_value.Place x) ∷ st) ys e k = differ refl e
has_name_option P go (value.Expression (expression_value.Type x) ∷ st) ys e k = differ refl e
has_name_option P go (value.Part (part_value.Member x) ∷ st) ys e k = differ refl e
has_name_option P go (value.Statement (statement_value.Simple x) ∷ st) ys e k = differ refl e
has_name_option P go (value.Switch (switch_value.Labels x) ∷ st) ys e k = differ refl e
has_name_option P go (value.File (file_value.External x) ∷ st) ys e k = differ refl e
has_name_option P go (_ ∷ st) ys e k = differ refl e
has_name_option P go [] ys e k = lacks e

pub has_declarator : (P : Values → Option Values → Type 0) (go : Goes Declarator) (st : Values) (ys : List ℕ) → sorts_of st ≡ 20 ∷ ys →
    ((x : Declarator) (rest : Values) → sorts_of rest ≡ ys → P (value.Declaration (declaration_value.Declarator x) ∷ rest) (go x rest)) → P st (with_declarator st go)
has_declarator P go (value.Declaration (declaration_value.Declarator x) ∷ st) ys e k = k x st (tails e)
has_declarator P go (value.Token (token_value.Place x) ∷ st) ys e k = differ refl e
has_declarator P go (value.Expression (expression_value.Type x) ∷ st) ys e k = differ refl e
has_declarator P go (value.Part (part_value.Member x) ∷ st) ys e k = differ refl e
has_declarator P go (value.Statement (statement_value.Simple x) ∷ st) ys e k = differ refl e
has_declarator P go (value.Switch (switch_value.Labels x) ∷ st) ys e k = differ refl e
has_declarator P go (value.File (file_value.External x) ∷ st) ys e k = differ refl e
has_declarator P go (_ ∷ st) ys e k = differ refl e
has_declarator P go [] ys e k = lacks e

pub has_initializer : (P : Values → Option Values → Type 0) (go : Goes Initializer) (st : Values) (ys : List ℕ) → sorts_of st ≡ 21 ∷ ys →
    ((x : Initializer) (rest : Values) → sorts_of rest ≡ ys → P (value.Expression (expression_value.Initializer x) ∷ rest) (go x rest)) → P st (with_initializer st go)
has_initializer P go (value.Expression (expression_value.Initializer x) ∷ st) ys e k = k x st (tails e)
has_initializer P go (value.Token (token_value.Place x) ∷ st) ys e k = differ refl e
has_initializer P go (value.Declaration (declaration_value.Declarator x) ∷ st) ys e k = differ refl e
has_initializer P go (value.Part (part_value.Member x) ∷ st) ys e k = differ refl e
has_initializer P go (value.Statement (statement_value.Simple x) ∷ st) ys e k = differ refl e
has_initializer P go (value.Switch (switch_value.Labels x) ∷ st) ys e k = differ refl e
has_initializer P go (value.File (file_value.External x) ∷ st) ys e k = differ refl e
has_initializer P go (_ ∷ st) ys e k = differ refl e
has_initializer P go [] ys e k = lacks e

pub has_expressions : (P : Values → Option Values → Type 0) (go : Goes (List Expression)) (st : Values) (ys : List ℕ) → sorts_of st ≡ 22 ∷ ys →
    ((x : (List Expression)) (rest : Values) → sorts_of rest ≡ ys → P (value.Expression (expression_value.Expressions x) ∷ rest) (go x rest)) → P st (with_expressions st go)
has_expressions P go (value.Expression (expression_value.Expressions x) ∷ st) ys e k = k x st (tails e)
has_expressions P go (value.Token (token_value.Place x) ∷ st) ys e k = differ refl e
has_expressions P go (value.Declaration (declaration_value.Declarator x) ∷ st) ys e k = differ refl e
has_expressions P go (value.Part (part_value.Member x) ∷ st) ys e k = differ refl e
has_expressions P go (value.Statement (statement_value.Simple x) ∷ st) ys e k = differ refl e
has_expressions P go (value.Switch (switch_value.Labels x) ∷ st) ys e k = differ refl e
has_expressions P go (value.File (file_value.External x) ∷ st) ys e k = differ refl e
has_expressions P go (_ ∷ st) ys e k = differ refl e
has_expressions P go [] ys e k = lacks e

pub has_sign : (P : Values → Option Values → Type 0) (go : Goes SignMark) (st : Values) (ys : List ℕ) → sorts_of st ≡ 23 ∷ ys →
    ((x : SignMark) (rest : Values) → sorts_of rest ≡ ys → P (value.Token (token_value.Sign x) ∷ rest) (go x rest)) → P st (with_sign st go)
has_sign P go (value.Token (token_value.Sign x) ∷ st) ys e k = k x st (tails e)
has_sign P go (value.Expression (expression_value.Type x) ∷ st) ys e k = differ refl e
has_sign P go (value.Declaration (declaration_value.Declarator x) ∷ st) ys e k = differ refl e
has_sign P go (value.Part (part_value.Member x) ∷ st) ys e k = differ refl e
has_sign P go (value.Statement (statement_value.Simple x) ∷ st) ys e k = differ refl e
has_sign P go (value.Switch (switch_value.Labels x) ∷ st) ys e k = differ refl e
has_sign P go (value.File (file_value.External x) ∷ st) ys e k = differ refl e
has_sign P go (_ ∷ st) ys e k = differ refl e
has_sign P go [] ys e k = lacks e

pub has_parts : (P : Values → Option Values → Type 0) (go : Goes (List BlockItem)) (st : Values) (ys : List ℕ) → sorts_of st ≡ 24 ∷ ys →
    ((x : (List BlockItem)) (rest : Values) → sorts_of rest ≡ ys → P (value.Statement (statement_value.Parts x) ∷ rest) (go x rest)) → P st (with_parts st go)
has_parts P go (value.Statement (statement_value.Parts x) ∷ st) ys e k = k x st (tails e)
has_parts P go (value.Token (token_value.Place x) ∷ st) ys e k = differ refl e
has_parts P go (value.Expression (expression_value.Type x) ∷ st) ys e k = differ refl e
has_parts P go (value.Declaration (declaration_value.Declarator x) ∷ st) ys e k = differ refl e
has_parts P go (value.Part (part_value.Member x) ∷ st) ys e k = differ refl e
has_parts P go (value.Switch (switch_value.Labels x) ∷ st) ys e k = differ refl e
has_parts P go (value.File (file_value.External x) ∷ st) ys e k = differ refl e
has_parts P go (_ ∷ st) ys e k = differ refl e
has_parts P go [] ys e k = lacks e

pub has_local : (P : Values → Option Values → Type 0) (go : Goes Local) (st : Values) (ys : List ℕ) → sorts_of st ≡ 25 ∷ ys →
    ((x : Local) (rest : Values) → sorts_of rest ≡ ys → P (value.Declaration (declaration_value.Local x) ∷ rest) (go x rest)) → P st (with_local st go)
has_local P go (value.Declaration (declaration_value.Local x) ∷ st) ys e k = k x st (tails e)
has_local P go (value.Token (token_value.Place x) ∷ st) ys e k = differ refl e
has_local P go (value.Expression (expression_value.Type x) ∷ st) ys e k = differ refl e
has_local P go (value.Part (part_value.Member x) ∷ st) ys e k = differ refl e
has_local P go (value.Statement (statement_value.Simple x) ∷ st) ys e k = differ refl e
has_local P go (value.Switch (switch_value.Labels x) ∷ st) ys e k = differ refl e
has_local P go (value.File (file_value.External x) ∷ st) ys e k = differ refl e
has_local P go (_ ∷ st) ys e k = differ refl e
has_local P go [] ys e k = lacks e

pub has_statement : (P : Values → Option Values → Type 0) (go : Goes Statement) (st : Values) (ys : List ℕ) → sorts_of st ≡ 26 ∷ ys →
    ((x : Statement) (rest : Values) → sorts_of rest ≡ ys → P (value.Statement (statement_value.Statement x) ∷ rest) (go x rest)) → P st (with_statement st go)
has_statement P go (value.Statement (statement_value.Statement x) ∷ st) ys e k = k x st (tails e)
has_statement P go (value.Token (token_value.Place x) ∷ st) ys e k = differ refl e
has_statement P go (value.Expression (expression_value.Type x) ∷ st) ys e k = differ refl e
has_statement P go (value.Declaration (declaration_value.Declarator x) ∷ st) ys e k = differ refl e
has_statement P go (value.Part (part_value.Member x) ∷ st) ys e k = differ refl e
has_statement P go (value.Switch (switch_value.Labels x) ∷ st) ys e k = differ refl e
has_statement P go (value.File (file_value.External x) ∷ st) ys e k = differ refl e
has_statement P go (_ ∷ st) ys e k = differ refl e
has_statement P go [] ys e k = lacks e

pub has_simple : (P : Values → Option Values → Type 0) (go : Goes Simple) (st : Values) (ys : List ℕ) → sorts_of st ≡ 27 ∷ ys →
    ((x : Simple) (rest : Values) → sorts_of rest ≡ ys → P (value.Statement (statement_value.Simple x) ∷ rest) (go x rest)) → P st (with_simple st go)
has_simple P go (value.Statement (statement_value.Simple x) ∷ st) ys e k = k x st (tails e)
has_simple P go (value.Token (token_value.Place x) ∷ st) ys e k = differ refl e
has_simple P go (value.Expression (expression_value.Type x) ∷ st) ys e k = differ refl e
has_simple P go (value.Declaration (declaration_value.Declarator x) ∷ st) ys e k = differ refl e
has_simple P go (value.Part (part_value.Member x) ∷ st) ys e k = differ refl e
has_simple P go (value.Switch (switch_value.Labels x) ∷ st) ys e k = differ refl e
has_simple P go (value.File (file_value.External x) ∷ st) ys e k = differ refl e
has_simple P go (_ ∷ st) ys e k = differ refl e
has_simple P go [] ys e k = lacks e

pub has_for_first : (P : Values → Option Values → Type 0) (go : Goes ForFirst) (st : Values) (ys : List ℕ) → sorts_of st ≡ 28 ∷ ys →
    ((x : ForFirst) (rest : Values) → sorts_of rest ≡ ys → P (value.Statement (statement_value.ForFirst x) ∷ rest) (go x rest)) → P st (with_for_first st go)
has_for_first P go (value.Statement (statement_value.ForFirst x) ∷ st) ys e k = k x st (tails e)
has_for_first P go (value.Token (token_value.Place x) ∷ st) ys e k = differ refl e
has_for_first P go (value.Expression (expression_value.Type x) ∷ st) ys e k = differ refl e
has_for_first P go (value.Declaration (declaration_value.Declarator x) ∷ st) ys e k = differ refl e
has_for_first P go (value.Part (part_value.Member x) ∷ st) ys e k = differ refl e
has_for_first P go (value.Switch (switch_value.Labels x) ∷ st) ys e k = differ refl e
has_for_first P go (value.File (file_value.External x) ∷ st) ys e k = differ refl e
has_for_first P go (_ ∷ st) ys e k = differ refl e
has_for_first P go [] ys e k = lacks e

pub has_expression_option : (P : Values → Option Values → Type 0) (go : Goes (Option Expression)) (st : Values) (ys : List ℕ) → sorts_of st ≡ 29 ∷ ys →
    ((x : (Option Expression)) (rest : Values) → sorts_of rest ≡ ys → P (value.Expression (expression_value.ExpressionOption x) ∷ rest) (go x rest)) → P st (with_expression_option st go)
has_expression_option P go (value.Expression (expression_value.ExpressionOption x) ∷ st) ys e k = k x st (tails e)
has_expression_option P go (value.Token (token_value.Place x) ∷ st) ys e k = differ refl e
has_expression_option P go (value.Declaration (declaration_value.Declarator x) ∷ st) ys e k = differ refl e
has_expression_option P go (value.Part (part_value.Member x) ∷ st) ys e k = differ refl e
has_expression_option P go (value.Statement (statement_value.Simple x) ∷ st) ys e k = differ refl e
has_expression_option P go (value.Switch (switch_value.Labels x) ∷ st) ys e k = differ refl e
has_expression_option P go (value.File (file_value.External x) ∷ st) ys e k = differ refl e
has_expression_option P go (_ ∷ st) ys e k = differ refl e
has_expression_option P go [] ys e k = lacks e

pub has_simple_option : (P : Values → Option Values → Type 0) (go : Goes (Option Simple)) (st : Values) (ys : List ℕ) → sorts_of st ≡ 30 ∷ ys →
    ((x : (Option Simple)) (rest : Values) → sorts_of rest ≡ ys → P (value.Statement (statement_value.SimpleOption x) ∷ rest) (go x rest)) → P st (with_simple_option st go)
has_simple_option P go (value.Statement (statement_value.SimpleOption x) ∷ st) ys e k = k x st (tails e)
has_simple_option P go (value.Token (token_value.Place x) ∷ st) ys e k = differ refl e
has_simple_option P go (value.Expression (expression_value.Type x) ∷ st) ys e k = differ refl e
has_simple_option P go (value.Declaration (declaration_value.Declarator x) ∷ st) ys e k = differ refl e
has_simple_option P go (value.Part (part_value.Member x) ∷ st) ys e k = differ refl e
has_simple_option P go (value.Switch (switch_value.Labels x) ∷ st) ys e k = differ refl e
has_simple_option P go (value.File (file_value.External x) ∷ st) ys e k = differ refl e
has_simple_option P go (_ ∷ st) ys e k = differ refl e
has_simple_option P go [] ys e k = lacks e

pub has_groups : (P : Values → Option Values → Type 0) (go : Goes (List Group)) (st : Values) (ys : List ℕ) → sorts_of st ≡ 31 ∷ ys →
    ((x : (List Group)) (rest : Values) → sorts_of rest ≡ ys → P (value.Switch (switch_value.Groups x) ∷ rest) (go x rest)) → P st (with_groups st go)
has_groups P go (value.Switch (switch_value.Groups x) ∷ st) ys e k = k x st (tails e)
has_groups P go (value.Token (token_value.Place x) ∷ st) ys e k = differ refl e
has_groups P go (value.Expression (expression_value.Type x) ∷ st) ys e k = differ refl e
has_groups P go (value.Declaration (declaration_value.Declarator x) ∷ st) ys e k = differ refl e
has_groups P go (value.Part (part_value.Member x) ∷ st) ys e k = differ refl e
has_groups P go (value.Statement (statement_value.Simple x) ∷ st) ys e k = differ refl e
has_groups P go (value.File (file_value.External x) ∷ st) ys e k = differ refl e
has_groups P go (_ ∷ st) ys e k = differ refl e
has_groups P go [] ys e k = lacks e

pub has_initializer_option : (P : Values → Option Values → Type 0) (go : Goes (Option Initializer)) (st : Values) (ys : List ℕ) → sorts_of st ≡ 32 ∷ ys →
    ((x : (Option Initializer)) (rest : Values) → sorts_of rest ≡ ys → P (value.Expression (expression_value.InitializerOption x) ∷ rest) (go x rest)) → P st (with_initializer_option st go)
has_initializer_option P go (value.Expression (expression_value.InitializerOption x) ∷ st) ys e k = k x st (tails e)
has_initializer_option P go (value.Token (token_value.Place x) ∷ st) ys e k = differ refl e
has_initializer_option P go (value.Declaration (declaration_value.Declarator x) ∷ st) ys e k = differ refl e
has_initializer_option P go (value.Part (part_value.Member x) ∷ st) ys e k = differ refl e
has_initializer_option P go (value.Statement (statement_value.Simple x) ∷ st) ys e k = differ refl e
has_initializer_option P go (value.Switch (switch_value.Labels x) ∷ st) ys e k = differ refl e
has_initializer_option P go (value.File (file_value.External x) ∷ st) ys e k = differ refl e
has_initializer_option P go (_ ∷ st) ys e k = differ refl e
has_initializer_option P go [] ys e k = lacks e

pub has_group : (P : Values → Option Values → Type 0) (go : Goes Group) (st : Values) (ys : List ℕ) → sorts_of st ≡ 33 ∷ ys →
    ((x : Group) (rest : Values) → sorts_of rest ≡ ys → P (value.Switch (switch_value.Group x) ∷ rest) (go x rest)) → P st (with_group st go)
has_group P go (value.Switch (switch_value.Group x) ∷ st) ys e k = k x st (tails e)
has_group P go (value.Token (token_value.Place x) ∷ st) ys e k = differ refl e
has_group P go (value.Expression (expression_value.Type x) ∷ st) ys e k = differ refl e
has_group P go (value.Declaration (declaration_value.Declarator x) ∷ st) ys e k = differ refl e
has_group P go (value.Part (part_value.Member x) ∷ st) ys e k = differ refl e
has_group P go (value.Statement (statement_value.Simple x) ∷ st) ys e k = differ refl e
has_group P go (value.File (file_value.External x) ∷ st) ys e k = differ refl e
has_group P go (_ ∷ st) ys e k = differ refl e
has_group P go [] ys e k = lacks e

pub has_label : (P : Values → Option Values → Type 0) (go : Goes Label) (st : Values) (ys : List ℕ) → sorts_of st ≡ 34 ∷ ys →
    ((x : Label) (rest : Values) → sorts_of rest ≡ ys → P (value.Statement (statement_value.Label x) ∷ rest) (go x rest)) → P st (with_label st go)
has_label P go (value.Statement (statement_value.Label x) ∷ st) ys e k = k x st (tails e)
has_label P go (value.Token (token_value.Place x) ∷ st) ys e k = differ refl e
has_label P go (value.Expression (expression_value.Type x) ∷ st) ys e k = differ refl e
has_label P go (value.Declaration (declaration_value.Declarator x) ∷ st) ys e k = differ refl e
has_label P go (value.Part (part_value.Member x) ∷ st) ys e k = differ refl e
has_label P go (value.Switch (switch_value.Labels x) ∷ st) ys e k = differ refl e
has_label P go (value.File (file_value.External x) ∷ st) ys e k = differ refl e
has_label P go (_ ∷ st) ys e k = differ refl e
has_label P go [] ys e k = lacks e

pub has_labels : (P : Values → Option Values → Type 0) (go : Goes Labels) (st : Values) (ys : List ℕ) → sorts_of st ≡ 35 ∷ ys →
    ((x : Labels) (rest : Values) → sorts_of rest ≡ ys → P (value.Switch (switch_value.Labels x) ∷ rest) (go x rest)) → P st (with_labels st go)
has_labels P go (value.Switch (switch_value.Labels x) ∷ st) ys e k = k x st (tails e)
has_labels P go (value.Token (token_value.Place x) ∷ st) ys e k = differ refl e
has_labels P go (value.Expression (expression_value.Type x) ∷ st) ys e k = differ refl e
has_labels P go (value.Declaration (declaration_value.Declarator x) ∷ st) ys e k = differ refl e
has_labels P go (value.Part (part_value.Member x) ∷ st) ys e k = differ refl e
has_labels P go (value.Statement (statement_value.Simple x) ∷ st) ys e k = differ refl e
has_labels P go (value.File (file_value.External x) ∷ st) ys e k = differ refl e
has_labels P go (_ ∷ st) ys e k = differ refl e
has_labels P go [] ys e k = lacks e

pub has_labelled : (P : Values → Option Values → Type 0) (go : Goes Group) (st : Values) (ys : List ℕ) → sorts_of st ≡ 36 ∷ ys →
    ((x : Group) (rest : Values) → sorts_of rest ≡ ys → P (value.Switch (switch_value.Labelled x) ∷ rest) (go x rest)) → P st (with_labelled st go)
has_labelled P go (value.Switch (switch_value.Labelled x) ∷ st) ys e k = k x st (tails e)
has_labelled P go (value.Token (token_value.Place x) ∷ st) ys e k = differ refl e
has_labelled P go (value.Expression (expression_value.Type x) ∷ st) ys e k = differ refl e
has_labelled P go (value.Declaration (declaration_value.Declarator x) ∷ st) ys e k = differ refl e
has_labelled P go (value.Part (part_value.Member x) ∷ st) ys e k = differ refl e
has_labelled P go (value.Statement (statement_value.Simple x) ∷ st) ys e k = differ refl e
has_labelled P go (value.File (file_value.External x) ∷ st) ys e k = differ refl e
has_labelled P go (_ ∷ st) ys e k = differ refl e
has_labelled P go [] ys e k = lacks e

pub has_path : (P : Values → Option Values → Type 0) (go : Goes Path) (st : Values) (ys : List ℕ) → sorts_of st ≡ 37 ∷ ys →
    ((x : Path) (rest : Values) → sorts_of rest ≡ ys → P (value.Expression (expression_value.Path x) ∷ rest) (go x rest)) → P st (with_path st go)
has_path P go (value.Expression (expression_value.Path x) ∷ st) ys e k = k x st (tails e)
has_path P go (value.Token (token_value.Place x) ∷ st) ys e k = differ refl e
has_path P go (value.Declaration (declaration_value.Declarator x) ∷ st) ys e k = differ refl e
has_path P go (value.Part (part_value.Member x) ∷ st) ys e k = differ refl e
has_path P go (value.Statement (statement_value.Simple x) ∷ st) ys e k = differ refl e
has_path P go (value.Switch (switch_value.Labels x) ∷ st) ys e k = differ refl e
has_path P go (value.File (file_value.External x) ∷ st) ys e k = differ refl e
has_path P go (_ ∷ st) ys e k = differ refl e
has_path P go [] ys e k = lacks e

pub has_assignment_mark : (P : Values → Option Values → Type 0) (go : Goes AssignmentMark) (st : Values) (ys : List ℕ) → sorts_of st ≡ 38 ∷ ys →
    ((x : AssignmentMark) (rest : Values) → sorts_of rest ≡ ys → P (value.Token (token_value.AssignmentMark x) ∷ rest) (go x rest)) → P st (with_assignment_mark st go)
has_assignment_mark P go (value.Token (token_value.AssignmentMark x) ∷ st) ys e k = k x st (tails e)
has_assignment_mark P go (value.Expression (expression_value.Type x) ∷ st) ys e k = differ refl e
has_assignment_mark P go (value.Declaration (declaration_value.Declarator x) ∷ st) ys e k = differ refl e
has_assignment_mark P go (value.Part (part_value.Member x) ∷ st) ys e k = differ refl e
has_assignment_mark P go (value.Statement (statement_value.Simple x) ∷ st) ys e k = differ refl e
has_assignment_mark P go (value.Switch (switch_value.Labels x) ∷ st) ys e k = differ refl e
has_assignment_mark P go (value.File (file_value.External x) ∷ st) ys e k = differ refl e
has_assignment_mark P go (_ ∷ st) ys e k = differ refl e
has_assignment_mark P go [] ys e k = lacks e

pub has_step_mark : (P : Values → Option Values → Type 0) (go : Goes StepMark) (st : Values) (ys : List ℕ) → sorts_of st ≡ 39 ∷ ys →
    ((x : StepMark) (rest : Values) → sorts_of rest ≡ ys → P (value.Token (token_value.StepMark x) ∷ rest) (go x rest)) → P st (with_step_mark st go)
has_step_mark P go (value.Token (token_value.StepMark x) ∷ st) ys e k = k x st (tails e)
has_step_mark P go (value.Expression (expression_value.Type x) ∷ st) ys e k = differ refl e
has_step_mark P go (value.Declaration (declaration_value.Declarator x) ∷ st) ys e k = differ refl e
has_step_mark P go (value.Part (part_value.Member x) ∷ st) ys e k = differ refl e
has_step_mark P go (value.Statement (statement_value.Simple x) ∷ st) ys e k = differ refl e
has_step_mark P go (value.Switch (switch_value.Labels x) ∷ st) ys e k = differ refl e
has_step_mark P go (value.File (file_value.External x) ∷ st) ys e k = differ refl e
has_step_mark P go (_ ∷ st) ys e k = differ refl e
has_step_mark P go [] ys e k = lacks e

pub has_object : (P : Values → Option Values → Type 0) (go : Goes Object) (st : Values) (ys : List ℕ) → sorts_of st ≡ 40 ∷ ys →
    ((x : Object) (rest : Values) → sorts_of rest ≡ ys → P (value.Expression (expression_value.Object x) ∷ rest) (go x rest)) → P st (with_object st go)
has_object P go (value.Expression (expression_value.Object x) ∷ st) ys e k = k x st (tails e)
has_object P go (value.Token (token_value.Place x) ∷ st) ys e k = differ refl e
has_object P go (value.Declaration (declaration_value.Declarator x) ∷ st) ys e k = differ refl e
has_object P go (value.Part (part_value.Member x) ∷ st) ys e k = differ refl e
has_object P go (value.Statement (statement_value.Simple x) ∷ st) ys e k = differ refl e
has_object P go (value.Switch (switch_value.Labels x) ∷ st) ys e k = differ refl e
has_object P go (value.File (file_value.External x) ∷ st) ys e k = differ refl e
has_object P go (_ ∷ st) ys e k = differ refl e
has_object P go [] ys e k = lacks e

pub has_unary_mark : (P : Values → Option Values → Type 0) (go : Goes UnaryMark) (st : Values) (ys : List ℕ) → sorts_of st ≡ 41 ∷ ys →
    ((x : UnaryMark) (rest : Values) → sorts_of rest ≡ ys → P (value.Token (token_value.UnaryMark x) ∷ rest) (go x rest)) → P st (with_unary_mark st go)
has_unary_mark P go (value.Token (token_value.UnaryMark x) ∷ st) ys e k = k x st (tails e)
has_unary_mark P go (value.Expression (expression_value.Type x) ∷ st) ys e k = differ refl e
has_unary_mark P go (value.Declaration (declaration_value.Declarator x) ∷ st) ys e k = differ refl e
has_unary_mark P go (value.Part (part_value.Member x) ∷ st) ys e k = differ refl e
has_unary_mark P go (value.Statement (statement_value.Simple x) ∷ st) ys e k = differ refl e
has_unary_mark P go (value.Switch (switch_value.Labels x) ∷ st) ys e k = differ refl e
has_unary_mark P go (value.File (file_value.External x) ∷ st) ys e k = differ refl e
has_unary_mark P go (_ ∷ st) ys e k = differ refl e
has_unary_mark P go [] ys e k = lacks e

pub has_binary_mark : (P : Values → Option Values → Type 0) (go : Goes BinaryMark) (st : Values) (ys : List ℕ) → sorts_of st ≡ 42 ∷ ys →
    ((x : BinaryMark) (rest : Values) → sorts_of rest ≡ ys → P (value.Token (token_value.BinaryMark x) ∷ rest) (go x rest)) → P st (with_binary_mark st go)
has_binary_mark P go (value.Token (token_value.BinaryMark x) ∷ st) ys e k = k x st (tails e)
has_binary_mark P go (value.Expression (expression_value.Type x) ∷ st) ys e k = differ refl e
has_binary_mark P go (value.Declaration (declaration_value.Declarator x) ∷ st) ys e k = differ refl e
has_binary_mark P go (value.Part (part_value.Member x) ∷ st) ys e k = differ refl e
has_binary_mark P go (value.Statement (statement_value.Simple x) ∷ st) ys e k = differ refl e
has_binary_mark P go (value.Switch (switch_value.Labels x) ∷ st) ys e k = differ refl e
has_binary_mark P go (value.File (file_value.External x) ∷ st) ys e k = differ refl e
has_binary_mark P go (_ ∷ st) ys e k = differ refl e
has_binary_mark P go [] ys e k = lacks e
