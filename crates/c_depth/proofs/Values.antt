-- How a value looks: the place of its first token, and its nodes.
use Rattle.std.proofs.Common.{◌≡◌, List, map, option_map}
use Rattle.std.specs.declared.option.Option.{Option}
use Rattle.std.specs.declared.option.Option.TheVariants.{None, Some}
use Rattle.src_text.specs.declared.refusal.Place.{Place}
use Rattle.c_tree.specs.declared.declarations.Storage.{Storage}
use Rattle.c_tree.specs.declared.declarations.Storage.TheVariants as storage
use Rattle.c_tree.specs.declared.names.Identifier.{Identifier}
use Rattle.c_tree.specs.declared.statements.BlockItem.{BlockItem}
use Rattle.c_tree.specs.declared.statements.BlockItem as block_item
use Rattle.c_tree.specs.declared.statements.ForFirst.{ForFirst}
use Rattle.c_tree.specs.declared.statements.ForFirst.TheVariants as for_first
use Rattle.c_tree.specs.declared.statements.Group.{Group}
use Rattle.c_tree.specs.Starts.{object_start, path_start, expression_start, initializer_start, declarator_start, local_start, member_declarator_start, member_start, parameter_start, result_start, simple_start, label_start, statement_start, external_start, first_start}
use Rattle.c_tree.specs.Nodes.{path_trees, expression_trees, initializer_trees, name_trees, declarator_trees, local_trees, simple_trees, label_trees, first_trees, statement_trees, item_trees, block_trees, member_declarator_trees, member_trees, parameter_trees, external_trees}
use Rattle.src_text.specs.Trees.{Trees, none, also, one, leaf, all_trees, option_trees}
use Rattle.c_depth.proofs.Equations.{group_trees}
use Rattle.c_stack.specs.Values.{Values}
use Rattle.c_stack.specs.declared.values.Value.{Value}
use Rattle.c_stack.specs.declared.values.Value.TheVariants as value
use Rattle.c_stack.specs.declared.values.TokenValue.TheVariants as token_value
use Rattle.c_stack.specs.declared.values.ExpressionValue.TheVariants as expression_value
use Rattle.c_stack.specs.declared.values.DeclarationValue.TheVariants as declaration_value
use Rattle.c_stack.specs.declared.values.PartValue.TheVariants as part_value
use Rattle.c_stack.specs.declared.values.StatementValue.TheVariants as statement_value
use Rattle.c_stack.specs.declared.values.SwitchValue.TheVariants as switch_value
use Rattle.c_stack.specs.declared.values.FileValue.TheVariants as file_value
use Rattle.node_places.proofs.Looks.{PlaceLook, first_in, placed_weaves}
use Rattle.node_depth.specs.declared.weave.Weave.{Weave}

abbrev pub storage_first : Storage → Option Place
storage_first storage.Unspecified = None
storage_first (storage.Extern p) = Some p
storage_first (storage.Static p) = Some p

abbrev pub item_start : BlockItem → Place
item_start (block_item.Local l) = local_start l
item_start (block_item.Statement s) = statement_start s

abbrev pub for_start_of : ForFirst → Option Place
for_start_of for_first.Nothing = None
for_start_of (for_first.Local l) = Some (local_start l)
for_start_of (for_first.Simple s) = Some (simple_start s)

abbrev pub name_start : Identifier → Place
name_start x = x.place

abbrev pub group_start : Group → Place
group_start g = g.place

abbrev pub first_of_value : Value → Option Place
first_of_value (value.Token (token_value.Place x)) = Some x
first_of_value (value.Token (token_value.Name x)) = Some x.place
first_of_value (value.Token (token_value.Declared x)) = Some x.place
first_of_value (value.Token (token_value.UnaryMark x)) = Some x.place
first_of_value (value.Token (token_value.BinaryMark x)) = Some x.place
first_of_value (value.Token (token_value.AssignmentMark x)) = Some x.place
first_of_value (value.Token (token_value.StepMark x)) = Some x.place
first_of_value (value.Token (token_value.Sign x)) = Some x.place
first_of_value (value.Expression (expression_value.Type x)) = Some x.place
first_of_value (value.Expression (expression_value.Object x)) = Some (object_start x)
first_of_value (value.Expression (expression_value.Path x)) = Some (path_start x)
first_of_value (value.Expression (expression_value.Expression x)) = Some (expression_start x)
first_of_value (value.Expression (expression_value.Expressions xs)) = first_in expression_start xs
first_of_value (value.Expression (expression_value.ExpressionOption x)) = option_map expression_start x
first_of_value (value.Expression (expression_value.Initializer x)) = Some (initializer_start x)
first_of_value (value.Expression (expression_value.InitializerOption x)) = option_map initializer_start x
first_of_value (value.Declaration (declaration_value.Declarator x)) = Some (declarator_start x)
first_of_value (value.Declaration (declaration_value.Declarators xs)) = first_in declarator_start xs
first_of_value (value.Declaration (declaration_value.Local x)) = Some (local_start x)
first_of_value (value.Declaration (declaration_value.Item x)) = Some (member_declarator_start x)
first_of_value (value.Declaration (declaration_value.Items xs)) = first_in member_declarator_start xs
first_of_value (value.Declaration (declaration_value.Names xs)) = first_in name_start xs
first_of_value (value.Declaration (declaration_value.NameOption x)) = option_map name_start x
first_of_value (value.Part (part_value.Member x)) = Some (member_start x)
first_of_value (value.Part (part_value.Members xs)) = first_in member_start xs
first_of_value (value.Part (part_value.Parameter x)) = Some (parameter_start x)
first_of_value (value.Part (part_value.Parameters xs)) = first_in parameter_start xs
first_of_value (value.Part (part_value.Storage x)) = storage_first x
first_of_value (value.Part (part_value.Function x)) = Some (result_start x.result)
first_of_value (value.Statement (statement_value.Simple x)) = Some (simple_start x)
first_of_value (value.Statement (statement_value.SimpleOption x)) = option_map simple_start x
first_of_value (value.Statement (statement_value.ForFirst x)) = for_start_of x
first_of_value (value.Statement (statement_value.Label x)) = Some (label_start x)
first_of_value (value.Statement (statement_value.Statement x)) = Some (statement_start x)
first_of_value (value.Statement (statement_value.Parts xs)) = first_in item_start xs
first_of_value (value.Statement (statement_value.Block x)) = Some x.place
first_of_value (value.Switch (switch_value.Labels x)) = Some x.place
first_of_value (value.Switch (switch_value.Labelled x)) = Some x.place
first_of_value (value.Switch (switch_value.Group x)) = Some x.place
first_of_value (value.Switch (switch_value.Groups xs)) = first_in group_start xs
first_of_value (value.File (file_value.External x)) = Some (external_start x)
first_of_value (value.File (file_value.Externals xs)) = first_in external_start xs
first_of_value (value.File (file_value.Tree x)) = first_in external_start x.externals

-- the parts of a group, which are no tree of their own yet
abbrev pub parts_of : Group → Trees
parts_of g = also (all_trees label_trees g.labels) (all_trees statement_trees g.body)

abbrev pub trees_of_value : (nothing : Place) → Value → Trees
trees_of_value nothing (value.Token (token_value.Place x)) = none
trees_of_value nothing (value.Token (token_value.Name x)) = none
trees_of_value nothing (value.Token (token_value.Declared x)) = leaf x.place
trees_of_value nothing (value.Token (token_value.UnaryMark x)) = none
trees_of_value nothing (value.Token (token_value.BinaryMark x)) = none
trees_of_value nothing (value.Token (token_value.AssignmentMark x)) = none
trees_of_value nothing (value.Token (token_value.StepMark x)) = none
trees_of_value nothing (value.Token (token_value.Sign x)) = none
trees_of_value nothing (value.Expression (expression_value.Type x)) = none
trees_of_value nothing (value.Expression (expression_value.Object x)) = none
trees_of_value nothing (value.Expression (expression_value.Path x)) = path_trees x
trees_of_value nothing (value.Expression (expression_value.Expression x)) = expression_trees x
trees_of_value nothing (value.Expression (expression_value.Expressions xs)) = all_trees expression_trees xs
trees_of_value nothing (value.Expression (expression_value.ExpressionOption x)) = option_trees expression_trees x
trees_of_value nothing (value.Expression (expression_value.Initializer x)) = initializer_trees x
trees_of_value nothing (value.Expression (expression_value.InitializerOption x)) = option_trees initializer_trees x
trees_of_value nothing (value.Declaration (declaration_value.Declarator x)) = declarator_trees x
trees_of_value nothing (value.Declaration (declaration_value.Declarators xs)) = all_trees declarator_trees xs
trees_of_value nothing (value.Declaration (declaration_value.Local x)) = local_trees x
trees_of_value nothing (value.Declaration (declaration_value.Item x)) = member_declarator_trees x
trees_of_value nothing (value.Declaration (declaration_value.Items xs)) = all_trees member_declarator_trees xs
trees_of_value nothing (value.Declaration (declaration_value.Names xs)) = all_trees name_trees xs
trees_of_value nothing (value.Declaration (declaration_value.NameOption x)) = option_trees name_trees x
trees_of_value nothing (value.Part (part_value.Member x)) = member_trees x
trees_of_value nothing (value.Part (part_value.Members xs)) = all_trees member_trees xs
trees_of_value nothing (value.Part (part_value.Parameter x)) = parameter_trees x
trees_of_value nothing (value.Part (part_value.Parameters xs)) = all_trees parameter_trees xs
trees_of_value nothing (value.Part (part_value.Storage x)) = none
trees_of_value nothing (value.Part (part_value.Function x)) = leaf x.name.place
trees_of_value nothing (value.Statement (statement_value.Simple x)) = simple_trees x
trees_of_value nothing (value.Statement (statement_value.SimpleOption x)) = option_trees simple_trees x
trees_of_value nothing (value.Statement (statement_value.ForFirst x)) = first_trees x
trees_of_value nothing (value.Statement (statement_value.Label x)) = label_trees x
trees_of_value nothing (value.Statement (statement_value.Statement x)) = statement_trees x
trees_of_value nothing (value.Statement (statement_value.Parts xs)) = all_trees item_trees xs
trees_of_value nothing (value.Statement (statement_value.Block x)) = block_trees x
trees_of_value nothing (value.Switch (switch_value.Labels x)) = all_trees label_trees x.labels
trees_of_value nothing (value.Switch (switch_value.Labelled x)) = parts_of x
trees_of_value nothing (value.Switch (switch_value.Group x)) = group_trees x
trees_of_value nothing (value.Switch (switch_value.Groups xs)) = all_trees group_trees xs
trees_of_value nothing (value.File (file_value.External x)) = external_trees x
trees_of_value nothing (value.File (file_value.Externals xs)) = all_trees external_trees xs
trees_of_value nothing (value.File (file_value.Tree x)) = one (first_start x.externals nothing) (all_trees external_trees x.externals)

abbrev pub look_of_value : (nothing : Place) → Value → PlaceLook
look_of_value nothing v = record { first = first_of_value v; trees = trees_of_value nothing v }

-- The looks of a stack. A file without tokens begins at `nothing`.
abbrev pub looks_of : (nothing : Place) → Values → List PlaceLook
looks_of nothing st = map (look_of_value nothing) st

-- what is left is a stack that looks as the weave makes it, where the last token is at `place`
abbrev pub Looks : (nothing : Place) → Weave → (place : Place) → Values → Option Values → Type 0
Looks nothing w place st None = ⊥
Looks nothing w place st (Some new) = looks_of nothing new ≡ placed_weaves nothing w place (looks_of nothing st)
