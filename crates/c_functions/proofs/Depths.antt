-- A function leaves as many scopes as there were.
use Rattle.std.proofs.Common.{◌≡◌, ℕ, suc, List, [], ◌∷◌, length, ◌∙◌, arith}
use Rattle.c_tree.specs.declared.declarations.FunctionHead.{FunctionHead}
use Rattle.c_tree.specs.declared.statements.Block.{Block}
use Rattle.joint_ir.specs.declared.program.PropKind.TheVariants as kind
use Rattle.c_names.specs.declared.scope.Entry.TheVariants as entry
use Rattle.c_names.specs.Scope.{Scope, leave}
use Rattle.c_statements.specs.Known.{Known, enter}
use Rattle.c_statements.specs.Statements.{own, items_known}
use Rattle.c_statements.proofs.Depths.{items_depth}
use Rattle.c_functions.specs.Tables.{function_number}
use Rattle.c_functions.specs.Declarations.{head_known, names_known, declaration_known}
use Rattle.c_functions.specs.Definitions.{inside, definition_known}
use Rattle.c_functions.proofs.Params.{names_depth, params_depth, declared_depth}

leave_length : (env : List Scope) (n : ℕ) → length env ≡ suc n → length (leave env) ≡ n
leave_length [] n h = cc
leave_length (s ∷ env) n h = omega (arith, h)

head_depth : (names : List Scope) (head : FunctionHead) (k : Known) → length (head_known names head k).scopes ≡ length k.scopes
head_depth names head k = declared_depth k head.name.name (entry.Function (function_number names head.name.name))

pub declaration_depth : (names : List Scope) (head : FunctionHead) (k : Known) → length (declaration_known names head k).scopes ≡ length k.scopes
declaration_depth names head k =
    let inner = enter (head_known names head k) in
    leave_length (names_known head.parameters inner).scopes (length (head_known names head k).scopes) (names_depth head.parameters inner) ∙ head_depth names head k

pub definition_depth : (names : List Scope) (head : FunctionHead) (body : Block) (k : Known) → length (definition_known names head body k).scopes ≡ length k.scopes
definition_depth names head body k =
    let outer = head_known names head k in
    leave_length (items_known body.items (inside head outer)).scopes (length outer.scopes)
    (items_depth body.items (inside head outer) ∙ params_depth head.parameters (own kind.Recursion head.name.place (enter outer)))
    ∙ head_depth names head k
