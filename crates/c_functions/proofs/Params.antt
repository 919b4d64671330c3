-- Parameters, one after another, and how many scopes there are behind them.
use Rattle.std.proofs.Common.{◌≡◌, ℕ, suc, ◌+◌, ◌<◌, List, [], ◌∷◌, ◌++◌, length, drop, get_or, refl, sym, ap, subst, ◌∙◌}
use Rattle.std.specs.Prelude.{Option, Some, None, Bool}
use Rattle.std.proofs.lemmas.List.{drop_more}
use Rattle.c_tree.specs.declared.declarations.FunctionHead.{FunctionHead}
use Rattle.c_tree.specs.declared.declarations.Parameter.{Parameter}
use Rattle.c_tree.specs.declared.names.Identifier.{Identifier}
use Rattle.c_tree.specs.declared.statements.Block.{Block as BlockTree}
use Rattle.c_tree.specs.declared.statements.BlockItem.{BlockItem}
use Rattle.joint_ir.specs.declared.ctype.IntType.{IntType}
use Rattle.joint_ir.specs.declared.program.PropKind.TheVariants as kind
use Rattle.joint_ir.specs.declared.stmt.TStmt.{TStmt}
use Rattle.offence_order.specs.declared.Offence.{Offence}
use Rattle.offence_order.specs.Order.{first_of}
use Rattle.offence_order.proofs.Firsts.{first_of-append}
use Rattle.c_words.specs.Types.{named}
use Rattle.c_names.specs.declared.scope.Entry.{Entry}
use Rattle.c_names.specs.declared.scope.Entry.TheVariants as entry
use Rattle.c_names.specs.Scope.{Scope, declare}
use Rattle.c_statements.specs.declared.walk.Around.{Around}
use Rattle.c_statements.specs.declared.walk.Typer.{Typer}
use Rattle.c_statements.specs.Known.{Known, enter, leave_scope}
use Rattle.c_statements.specs.Moves.{known_of, Goes}
use Rattle.c_statements.specs.Statements.{is_some, pending, local_entry, own, items_known, items_offences}
use Rattle.c_statements.specs.Walks.{AreItems}
use Rattle.c_statements.proofs.Depths.{items_depth}
use Rattle.c_functions.specs.Declarations.{name_known, name_offences, names_known, names_offences}
use Rattle.c_functions.specs.Definitions.{param_known_as, param_known, param_offences, params_known, params_offences, around_of, inside, function_offences, function_known}
use Rattle.c_functions.specs.Steps.{ParamsSoFar, NamesSoFar}
use Rattle.c_functions.proofs.Going.{goes_next, goes_on}

pub params_next : (old now new : Typer) (ps : List Parameter) (i : ℕ) (p : Parameter) → i < length ps → p ≡ get_or ps i p → ParamsSoFar old now ps i →
    Goes now new (param_offences (known_of now) p) (param_known p (known_of now)) → ParamsSoFar old new ps (i + 1)
params_next old now new ps i p lt is h g =
    let rest : List Parameter = drop (i + 1) ps in
    let split : drop i ps ≡ p ∷ rest = drop_more ps i p lt ∙ ap (λ q. q ∷ rest) (sym is) in
    record {
      first_so =
          h.first_so ∙ ap (λ l. first_of now.notes.first (params_offences (known_of now) l)) split
          ∙ first_of-append now.notes.first (param_offences (known_of now) p) (params_offences (param_known p (known_of now)) rest)
          ∙ ap (λ f. first_of f (params_offences (param_known p (known_of now)) rest)) (sym g.first)
          ∙ ap (λ k. first_of new.notes.first (params_offences k rest)) (sym g.known);
      known_so = h.known_so ∙ ap (λ l. params_known l (known_of now)) split ∙ ap (params_known rest) (sym g.known);
    }

pub names_next : (old now new : Typer) (ps : List Parameter) (i : ℕ) (p : Parameter) → i < length ps → p ≡ get_or ps i p → NamesSoFar old now ps i →
    Goes now new (name_offences (known_of now) p.name) (name_known p.name (known_of now)) → NamesSoFar old new ps (i + 1)
names_next old now new ps i p lt is h g =
    let rest : List Parameter = drop (i + 1) ps in
    let split : drop i ps ≡ p ∷ rest = drop_more ps i p lt ∙ ap (λ q. q ∷ rest) (sym is) in
    record {
      first_so =
          h.first_so ∙ ap (λ l. first_of now.notes.first (names_offences (known_of now) l)) split
          ∙ first_of-append now.notes.first (name_offences (known_of now) p.name) (names_offences (name_known p.name (known_of now)) rest)
          ∙ ap (λ f. first_of f (names_offences (name_known p.name (known_of now)) rest)) (sym g.first)
          ∙ ap (λ k. first_of new.notes.first (names_offences k rest)) (sym g.known);
      known_so = h.known_so ∙ ap (λ l. names_known l (known_of now)) split ∙ ap (names_known rest) (sym g.known);
    }

declare_length : (env : List Scope) (n : List ℕ) (e : Entry) → length (declare env n e) ≡ length env
declare_length [] n e = refl
declare_length (s ∷ env) n e = refl

param_depth_as : (t : IntType) (c : Bool) (o : Option Identifier) (k : Known) → length (param_known_as t c o k).scopes ≡ length k.scopes
param_depth_as t c None k = refl
param_depth_as t c (Some x) k = declare_length (pending k x) x.name (local_entry (length k.locals) t 0 c) ∙ declare_length k.scopes x.name entry.Pending

pub params_depth : (ps : List Parameter) (k : Known) → length (params_known ps k).scopes ≡ length k.scopes
params_depth [] k = refl
params_depth (p ∷ ps) k = params_depth ps (param_known p k) ∙ param_depth_as (named p.type_name.integer) (is_some p.constant) p.name k

name_depth : (o : Option Identifier) (k : Known) → length (name_known o k).scopes ≡ length k.scopes
name_depth None k = refl
name_depth (Some x) k = declare_length k.scopes x.name entry.Pending

pub names_depth : (ps : List Parameter) (k : Known) → length (names_known ps k).scopes ≡ length k.scopes
names_depth [] k = refl
names_depth (p ∷ ps) k = names_depth ps (name_known p.name k) ∙ name_depth p.name k

pub declared_depth : (k : Known) (n : List ℕ) (e : Entry) → length (declare k.scopes n e) ≡ length k.scopes
declared_depth k n e = declare_length k.scopes n e

-- at a function's parameters, and behind them
pub inside_goes : (old a b c : Typer) (head : FunctionHead) (ps : List Parameter) → ps ≡ head.parameters → Goes old a [] (enter (known_of old)) → Goes a b [] (own kind.Recursion head.name.place (known_of a)) →
    Goes b c (params_offences (known_of b) ps) (params_known ps (known_of b)) →
    Goes old c (params_offences (own kind.Recursion head.name.place (enter (known_of old))) head.parameters) (inside head (known_of old))
inside_goes old a b c head ps is_ps g0 g1 g2 =
    let k = own kind.Recursion head.name.place (enter (known_of old)) in
    let e1 : Goes old b [] k = goes_on old a b [] (enter (known_of old)) (own kind.Recursion head.name.place) g0 g1 in
    subst (λ z. Goes old c (params_offences k z) (params_known z k)) is_ps (goes_next old b c [] k (λ q. params_offences q ps) (params_known ps) e1 g2)

pub inside_depth : (old c : Typer) (head : FunctionHead) (o : List Offence) → Goes old c o (inside head (known_of old)) → length c.scopes ≡ suc (length old.scopes)
inside_depth old c head o g = ap (λ (q : Known). length q.scopes) g.known ∙ params_depth head.parameters (own kind.Recursion head.name.place (enter (known_of old)))

pub items_stand : (c d : Typer) (a : Around) (xs : List BlockItem) (ts : List TStmt) → AreItems a c d xs ts → length d.scopes ≡ length c.scopes
items_stand c d a xs ts h = ap (λ (q : Known). length q.scopes) h.goes.known ∙ items_depth xs (known_of c)

pub function_goes : (old c d new : Typer) (head : FunctionHead) (body : BlockTree) (xs : List BlockItem) (around : Around) (ts : List TStmt) → xs ≡ body.items → around ≡ around_of head →
    Goes old c (params_offences (own kind.Recursion head.name.place (enter (known_of old))) head.parameters) (inside head (known_of old)) → AreItems around c d xs ts → Goes d new [] (leave_scope (known_of d)) →
    Goes old new (function_offences head body (known_of old)) (function_known head body (known_of old))
function_goes old c d new head body xs around ts is_xs is_around g h g3 =
    let k = inside head (known_of old) in
    let o = params_offences (own kind.Recursion head.name.place (enter (known_of old))) head.parameters in
    let e : Goes old d (o ++ items_offences around k xs) (items_known xs k) = goes_next old c d o k (λ q. items_offences around q xs) (items_known xs) g h.goes in
    let f : Goes old d (o ++ items_offences (around_of head) k xs) (items_known xs k) = subst (λ z. Goes old d (o ++ items_offences z k xs) (items_known xs k)) is_around e in
    let i : Goes old d (o ++ items_offences (around_of head) k body.items) (items_known body.items k) = subst (λ z. Goes old d (o ++ items_offences (around_of head) k z) (items_known z k)) is_xs f in
    goes_on old d new (o ++ items_offences (around_of head) k body.items) (items_known body.items k) leave_scope i g3
