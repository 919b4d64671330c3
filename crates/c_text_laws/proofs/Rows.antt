-- What is known of the statements that code makes: of each in a list, of each in its row.
use Rattle.std.specs.Prelude.{List, [], ◌∷◌, All}
use Rattle.std.proofs.lemmas.List.Elements.{All-head, All-tail}
use Rattle.src_text.specs.declared.refusal.Place.{Place}
use Rattle.c_tree.specs.declared.expressions.Expression.{Expression}
use Rattle.c_tree.specs.declared.statements.BlockItem.{BlockItem}
use Rattle.c_tree.specs.declared.statements.BlockItem as in_item
use Rattle.c_tree.specs.declared.statements.Group.{Group}
use Rattle.c_tree.specs.declared.statements.Statement.{Statement}
use Rattle.c_tree.specs.declared.statements.Statement.TheVariants as statement
use Rattle.c_text_laws.specs.Bytes.{ExpressionBytes, StatementBytes, ItemBytes, ItemRow, GroupRow, StatementRow}
use Rattle.c_text_laws.proofs.Values.{GroupBytes}

pub statement_row : (xs : List Statement) → All StatementBytes xs → StatementRow (in_item.TheBlock.hidden-the_row-Statement-2 xs)
unfolding in_item.TheBlock.hidden-the_row-Statement-2 denote.Hole.Carrier.hidden
statement_row [] h = tt
statement_row (x ∷ xs) h = (All-head StatementBytes x xs h, statement_row xs (All-tail StatementBytes x xs h))

pub item_row : (xs : List BlockItem) → All ItemBytes xs → ItemRow (in_item.TheBlock.hidden-the_row-BlockItem-0 xs)
unfolding in_item.TheBlock.hidden-the_row-BlockItem-0 denote.Hole.Carrier.hidden
item_row [] h = tt
item_row (x ∷ xs) h = (All-head ItemBytes x xs h, item_row xs (All-tail ItemBytes x xs h))

pub group_row : (gs : List Group) → All GroupBytes gs → GroupRow (in_item.TheBlock.hidden-the_row-Group-3 gs)
unfolding in_item.TheBlock.hidden-the_row-Group-3 denote.Hole.Carrier.hidden
group_row [] h = tt
group_row (g ∷ gs) h =
    let one = All-head GroupBytes g gs h in
    (one.0.0, one.0.1, statement_row g.body one.1, group_row gs (All-tail GroupBytes g gs h))

pub compound : (p : Place) (items : List BlockItem) → All ItemBytes items → StatementBytes (statement.Compound p items)
compound p items h = item_row items h

pub switch : (p : Place) (e : Expression) (groups : List Group) → ExpressionBytes e → All GroupBytes groups → StatementBytes (statement.Switch p e groups)
switch p e groups h k = (h, group_row groups k)
