-- Declarations and definitions, part after part.
use Rattle.std.proofs.Common.{◌≡◌, ℕ, suc, List, [], ◌++◌, length, ap, subst, ◌∙◌, append_assoc}
use Rattle.std.specs.Prelude.{slice_set}
use Rattle.c_tree.specs.declared.declarations.FunctionHead.{FunctionHead}
use Rattle.c_tree.specs.declared.declarations.Parameter.{Parameter}
use Rattle.c_tree.specs.declared.statements.Block.{Block as BlockTree}
use Rattle.joint_ir.specs.declared.program.Function.{Function}
use Rattle.joint_ir.specs.declared.program.Prop.{Prop}
use Rattle.joint_ir.specs.declared.stmt.TStmt.{TStmt}
use Rattle.offence_order.specs.declared.Offence.{Offence}
use Rattle.c_words.specs.Marks.{number_of}
use Rattle.c_names.specs.Scope.{Scope, declared_in}
use Rattle.c_names.specs.declared.scope.Entry.TheVariants as entry
use Rattle.c_statements.specs.declared.walk.Typer.{Typer}
use Rattle.c_statements.specs.Known.{Known, enter, leave_scope}
use Rattle.c_statements.specs.Moves.{known_of, Goes}
use Rattle.c_functions.specs.declared.definitions.Made.{Made}
use Rattle.c_functions.specs.Tables.{function_number}
use Rattle.c_functions.specs.Declarations.{before_offences, known_offences, main_offences, head_offences, head_known, names_known, names_offences, declaration_offences, declaration_known}
use Rattle.c_functions.specs.Definitions.{body_offences, function_offences, function_known, function_typed, with_params, function_props, definition_offences, definition_known, definition_made}
use Rattle.c_functions.proofs.Going.{goes_next, goes_on, goes_note}
use Rattle.c_functions.proofs.Params.{names_depth, declared_depth}

pub head_goes : (old a b c new : Typer) (names : List Scope) (head : FunctionHead) → Goes old a (before_offences old.signatures head (declared_in old.scopes head.name.name)) (known_of old) →
    Goes a b (known_offences head) (known_of a) → Goes b c (main_offences head) (known_of b) → Goes c new [] (head_known names head (known_of c)) →
    Goes old new (head_offences (known_of old) head) (head_known names head (known_of old))
head_goes old a b c new names head g0 g1 g2 g3 =
    let k = known_of old in
    let p = before_offences old.signatures head (declared_in old.scopes head.name.name) in
    let e1 : Goes old b (p ++ known_offences head) k = goes_note old a b p (known_offences head) k g0 g1 in
    let e2 : Goes old c ((p ++ known_offences head) ++ main_offences head) k = goes_note old b c (p ++ known_offences head) (main_offences head) k e1 g2 in
    let e3 = subst (λ z. Goes old c z k) (append_assoc p (known_offences head) (main_offences head)) e2 in
    goes_on old c new (head_offences k head) k (head_known names head) e3 g3

pub names_goes : (old a b c : Typer) (names : List Scope) (head : FunctionHead) (ps : List Parameter) → ps ≡ head.parameters → Goes old a (head_offences (known_of old) head) (head_known names head (known_of old)) →
    Goes a b [] (enter (known_of a)) → Goes b c (names_offences (known_of b) ps) (names_known ps (known_of b)) →
    Goes old c (declaration_offences names head (known_of old)) (names_known head.parameters (enter (head_known names head (known_of old))))
names_goes old a b c names head ps is_ps g0 g1 g2 =
    let k = head_known names head (known_of old) in
    let o = head_offences (known_of old) head in
    let e1 : Goes old b o (enter k) = goes_on old a b o k enter g0 g1 in
    subst (λ z. Goes old c (o ++ names_offences (enter k) z) (names_known z (enter k))) is_ps (goes_next old b c o (enter k) (λ q. names_offences q ps) (names_known ps) e1 g2)

pub names_stand : (old c : Typer) (names : List Scope) (head : FunctionHead) (o : List Offence) → Goes old c o (names_known head.parameters (enter (head_known names head (known_of old)))) → length c.scopes ≡ suc (length old.scopes)
names_stand old c names head o g =
    ap (λ (q : Known). length q.scopes) g.known
    ∙ names_depth head.parameters (enter (head_known names head (known_of old)))
    ∙ ap suc (declared_depth (known_of old) head.name.name (entry.Function (function_number names head.name.name)))

pub declaration_goes : (old c new : Typer) (names : List Scope) (head : FunctionHead) → Goes old c (declaration_offences names head (known_of old)) (names_known head.parameters (enter (head_known names head (known_of old)))) →
    Goes c new [] (leave_scope (known_of c)) → Goes old new (declaration_offences names head (known_of old)) (declaration_known names head (known_of old))
declaration_goes old c new names head g h =
    goes_on old c new (declaration_offences names head (known_of old)) (names_known head.parameters (enter (head_known names head (known_of old)))) leave_scope g h

pub head_stands : (old b : Typer) (names : List Scope) (head : FunctionHead) (o : List Offence) → Goes old b o (head_known names head (known_of old)) → length b.scopes ≡ length old.scopes
head_stands old b names head o g = ap (λ (q : Known). length q.scopes) g.known ∙ declared_depth (known_of old) head.name.name (entry.Function (function_number names head.name.name))

pub body_goes : (old a b : Typer) (names : List Scope) (fns : List Function) (head : FunctionHead) (body : BlockTree) → Goes old a (head_offences (known_of old) head) (head_known names head (known_of old)) →
    Goes a b (body_offences names fns head body.place) (known_of a) →
    Goes old b (head_offences (known_of old) head ++ body_offences names fns head body.place) (head_known names head (known_of old))
body_goes old a b names fns head body g h = goes_note old a b (head_offences (known_of old) head) (body_offences names fns head body.place) (head_known names head (known_of old)) g h

pub definition_goes : (old b new : Typer) (names : List Scope) (fns : List Function) (head : FunctionHead) (body : BlockTree) →
    Goes old b (head_offences (known_of old) head ++ body_offences names fns head body.place) (head_known names head (known_of old)) →
    Goes b new (function_offences head body (known_of b)) (function_known head body (known_of b)) →
    Goes old new (definition_offences names fns head body (known_of old)) (definition_known names head body (known_of old))
definition_goes old b new names fns head body g h =
    let k = head_known names head (known_of old) in
    subst (λ z. Goes old new z (definition_known names head body (known_of old)))
    (append_assoc (head_offences (known_of old) head) (body_offences names fns head body.place) (function_offences head body k))
    (goes_next old b new (head_offences (known_of old) head ++ body_offences names fns head body.place) k (function_offences head body) (function_known head body) g h)

abbrev made_of : List Function → List Prop → Made
made_of functions props = record { functions = functions; props = props }

-- what a definition adds to what was made before
pub definition_makes : (old b c : Typer) (names : List Scope) (head : FunctionHead) (body : BlockTree) (o o' : List Offence) (m : Made) (functions : List Function) (all props : List Prop) (at first before : ℕ) (f : Function) (items : List TStmt) →
    Goes old b o (head_known names head (known_of old)) → Goes b c o' (function_known head body (known_of b)) →
    at ≡ function_number names head.name.name → first ≡ number_of (length old.locals) → before ≡ length old.notes.sites → items ≡ function_typed head body (known_of b) → f ≡ with_params head first body.place items →
    props ≡ function_props head before c.notes.sites → functions ≡ slice_set m.functions at f → all ≡ m.props ++ props → made_of functions all ≡ definition_made names head body (known_of old) m
definition_makes old b c names head body o o' m functions all props at first before f items g h is_at is_first is_before is_items is_f is_props made kept =
    let n = function_number names head.name.name in
    let fs : functions ≡ slice_set m.functions n (with_params head (number_of (length old.locals)) body.place (function_typed head body (head_known names head (known_of old)))) =
    made
    ∙ ap (λ i. slice_set m.functions i f) is_at
    ∙ ap (slice_set m.functions n)
    (is_f ∙ ap (λ i. with_params head i body.place items) is_first ∙ ap (with_params head (number_of (length old.locals)) body.place) (is_items ∙ ap (function_typed head body) g.known)) in
    let ps : all ≡ m.props ++ function_props head (length old.notes.sites) (definition_known names head body (known_of old)).sites =
    kept
    ∙ ap (λ l. m.props ++ l)
    (is_props ∙ ap (λ i. function_props head i c.notes.sites) is_before ∙ ap (λ (q : Known). function_props head (length old.notes.sites) q.sites) (h.known ∙ ap (function_known head body) g.known)) in
    ap (λ l. made_of l all) fs ∙ ap (made_of _) ps
