-- What a stretch of a text adds: properties of which none is a function's own, and objects that stand one after another.
use Rattle.std.proofs.Common.{◌≡◌, ℕ, zero, suc, ◌+◌, ◌<◌, List, [], ◌∷◌, ◌++◌, length, Bool, refl, sym, ap, subst, ◌∙◌, arith, length-append}
use Rattle.std.specs.Prelude.{All, Option, Some, None}
use Rattle.std.proofs.Math.Nat.{mod-eq_of_lt}
use Rattle.std.proofs.lemmas.List.{append_assoc}
use Rattle.std.proofs.lemmas.List.Elements.{All-append, All-cons, All-nil}
use denote.Hole.Carrier.{hidden, roll}
use Rattle.src_text.specs.declared.refusal.Place.{Place}
use Rattle.c_tree.specs.declared.declarations.Declarator.{Declarator}
use Rattle.c_tree.specs.declared.declarations.Initializer.{Initializer}
use Rattle.c_tree.specs.declared.expressions.Expression.{Expression}
use Rattle.c_tree.specs.declared.names.Identifier.{Identifier}
use Rattle.c_tree.specs.declared.statements.BlockItem.{BlockItem}
use Rattle.c_tree.specs.declared.statements.BlockItem as block_item
use Rattle.c_tree.specs.declared.statements.ForFirst.{ForFirst}
use Rattle.c_tree.specs.declared.statements.ForFirst.TheVariants as for_first
use Rattle.c_tree.specs.declared.statements.Simple.{Simple}
use Rattle.c_tree.specs.declared.statements.Simple.TheVariants as simple
use Rattle.c_tree.specs.declared.statements.Statement.{Statement}
use Rattle.c_tree.specs.declared.statements.Statement as statement
use Rattle.joint_ir.specs.declared.ctype.IntType.{IntType}
use Rattle.joint_ir.specs.declared.expr.TExpr.{TExpr}
use Rattle.joint_ir.specs.declared.program.PropId.{PropId}
use Rattle.joint_ir.specs.declared.program.PropKind.{PropKind}
use Rattle.joint_ir.specs.declared.program.PropKind.TheVariants as kind
use Rattle.joint_ir.specs.declared.program.Var.{Var}
use Rattle.joint_ir.specs.declared.stmt.Group.{roll-Group}
use Rattle.joint_ir.specs.declared.stmt.SNode.{Block, If, Switch}
use Rattle.joint_ir.specs.declared.stmt.SNode.TheBlock.{hidden-the_row-TStmt-0, hidden-the_row-TStmt-1, hidden-the_row-Group-2}
use Rattle.joint_ir.specs.declared.stmt.TLoop.{roll-TLoop}
use Rattle.joint_ir.specs.declared.stmt.TStmt.{TStmt}
use Rattle.joint_ir.specs.States.{element_count}
use Rattle.joint_ir.specs.Statements.{is_recursion}
use Rattle.joint_ir.specs.Types.{InRange, IsType}
use Rattle.joint_ir.specs.WellFormed.{FitsVar, declared_in, declared_in_groups, declared_in_row, places_from}
use Rattle.joint_lists.specs.Own.{declared_items, declared_option}
use Rattle.joint_lists.proofs.Places.{declares-block, declares-if}
use Rattle.c_words.specs.declared.notes.Site.{Site}
use Rattle.c_words.specs.Types.{named, promoted}
use Rattle.c_words.specs.Marks.{number_of}
use Rattle.c_expressions.specs.Expressions.{converted_to, sites_in, type_of, typed_of}
use Rattle.c_statements.specs.declared.calls.Callee.{Callee}
use Rattle.c_statements.specs.declared.calls.Callee.TheVariants as callee_as
use Rattle.c_statements.specs.declared.walk.Around.{Around}
use Rattle.c_statements.specs.Arrays.{declared_length}
use Rattle.c_statements.specs.Calls.{args_sites, call_args, callee}
use Rattle.c_statements.specs.Known.{Known, enter, leave_scope, more}
use Rattle.c_statements.specs.Simple.{call_node, simple_sites, simple_typed}
use Rattle.c_statements.specs.Statements.{after_expression, at_body, at_condition, at_step, condition_sites, condition_typed, declarator_known, declarators_known, declarators_typed, declared_name, do_typed, first_known, first_typed, for_typed, groups_typed, id_of, in_a_loop, in_a_switch, is_some, item_typed, items_known, items_typed, known_after, known_after_groups, known_after_item, known_after_row, known_after_stmts, local_typed, option_init_sites, own, pending, return_typed, row_typed, simple_stmt, site_at, step_sites, step_typed, stmt_typed, stmts_typed, value_sites, var_of, while_typed}
use Rattle.c_meaning.proofs.Fits.{named_is}
use Rattle.c_statement_laws.proofs.Declaring.{length_end}
use Rattle.c_statement_laws.proofs.Labels.{append_none}
use Rattle.c_program_laws.proofs.Quiet.{AreQuiet, condition_quiet, expression_quiet, quiet_both, returned_quiet, simple_quiet, step_quiet, value_quiet}

pub places_both : (a m n : ℕ) → places_from a m ++ places_from (a + m) n ≡ places_from a (m + n)
places_both a zero n =
    ap (λ k. places_from k n) (let e : a + zero ≡ a = omega arith in e) ∙ ap (places_from a) (let e : n ≡ zero + n = omega arith in e)
places_both a (suc m) n =
    ap (λ k. a ∷ (places_from (suc a) m ++ places_from k n)) (let e : a + suc m ≡ suc a + m = omega arith in e)
    ∙ ap (λ xs. a ∷ xs) (places_both (suc a) m n)
    ∙ ap (places_from a) (let e : suc (m + n) ≡ suc m + n = omega arith in e)

-- what stands behind `old` in `new`, where these places are declared
pub record Adds (old new : Known) (declared : List ℕ) : Type 0 where
  pub sites : List Site
  pub more : new.sites ≡ old.sites ++ sites
  pub quiet : AreQuiet sites
  pub vars : List Var
  pub objects : new.locals ≡ old.locals ++ vars
  pub fit : All FitsVar vars
  pub places : length new.locals < 4294967296 → declared ≡ places_from (length old.locals) (length vars)

pub adds_then : (a b c : Known) (xs ys : List ℕ) → Adds a b xs → Adds b c ys → Adds a c (xs ++ ys)
adds_then a b c xs ys f g = record {
  sites = f.sites ++ g.sites;
  more = g.more ∙ ap (λ s. s ++ g.sites) f.more ∙ append_assoc a.sites f.sites g.sites;
  quiet = quiet_both f.sites g.sites f.quiet g.quiet;
  vars = f.vars ++ g.vars;
  objects = g.objects ∙ ap (λ s. s ++ g.vars) f.objects ∙ append_assoc a.locals f.vars g.vars;
  fit = All-append FitsVar f.vars g.vars f.fit g.fit;
  places = λ few.
      let l : length b.locals ≡ length a.locals + length f.vars = ap length f.objects ∙ length-append a.locals f.vars in
      let m : length c.locals ≡ length b.locals + length g.vars = ap length g.objects ∙ length-append b.locals g.vars in
      let small : length b.locals < 4294967296 = omega (arith, few, m) in
      ap (λ zs. zs ++ ys) (f.places small)
      ∙ ap (λ zs. places_from (length a.locals) (length f.vars) ++ zs) (g.places few ∙ ap (λ n. places_from n (length g.vars)) l)
      ∙ places_both (length a.locals) (length f.vars) (length g.vars)
      ∙ ap (places_from (length a.locals)) (sym (length-append f.vars g.vars));
}

pub adds_as : (a b : Known) (xs ys : List ℕ) → Adds a b xs → xs ≡ ys → Adds a b ys
adds_as a b xs ys h e = subst (Adds a b) e h

pub adds_more : (k : Known) (sites : List Site) → AreQuiet sites → Adds k (more k sites) []
adds_more k sites h = record { sites = sites; more = refl; quiet = h; vars = []; objects = sym (append_none k.locals); fit = All-nil FitsVar; places = λ few. refl }

pub adds_none : (k : Known) → Adds k k []
adds_none k = record { sites = []; more = sym (append_none k.sites); quiet = tt; vars = []; objects = sym (append_none k.locals); fit = All-nil FitsVar; places = λ few. refl }

-- a scope more, or less
pub adds_in : (k new : Known) (xs : List ℕ) → Adds (enter k) new xs → Adds k (leave_scope new) xs
adds_in k new xs h = record { sites = h.sites; more = h.more; quiet = h.quiet; vars = h.vars; objects = h.objects; fit = h.fit; places = h.places }

-- an object without first values
pub var_fits : (t : IntType) (n : ℕ) (constant : Bool) (x : Identifier) → IsType t → FitsVar (var_of t n constant x)
var_fits t n constant x is = record { type = is; firsts = All-nil (InRange t); few = omega arith }

-- one object more
pub adds_object : (old new : Known) (sites : List Site) (v : Var) → new.sites ≡ old.sites ++ sites → AreQuiet sites → new.locals ≡ old.locals ++ v ∷ [] → FitsVar v → Adds old new (number_of (length old.locals) ∷ [])
adds_object old new sites v more quiet objects fit = record {
  sites = sites;
  more = more;
  quiet = quiet;
  vars = v ∷ [];
  objects = objects;
  fit = All-cons FitsVar v [] fit (All-nil FitsVar);
  places = λ few.
      let l : length new.locals ≡ length old.locals + 1 = ap length objects ∙ length_end old.locals v in
      ap (λ n. n ∷ []) (mod-eq_of_lt (omega (arith, few, l)));
}

-- the places that lists and parts declare
list_declares : (items : List TStmt) → declared_in_row (hidden-the_row-TStmt-0 items) ≡ declared_items items
list_declares items = declares-block (Block items) items items refl refl

pub block_declares : (items : List TStmt) → declared_in (Block items) ≡ declared_items items
block_declares items = declares-block (Block items) items items refl refl

if_declares : (e : TExpr) (a : TStmt) (other : Option TStmt) → declared_in (If e a other) ≡ declared_in a.node ++ declared_option other
if_declares e a other = declares-if (If e a other) e a a other refl refl

while_declares : (id : PropId) (e : TExpr) (s : TStmt) → declared_in (while_typed id e s) ≡ declared_in s.node
unfolding roll-TLoop roll hidden-the_row-TStmt-0 hidden-the_row-TStmt-1 hidden
while_declares id e s = refl

do_declares : (id : PropId) (e : TExpr) (s : TStmt) → declared_in (do_typed id e s) ≡ declared_in s.node
unfolding roll-TLoop roll hidden-the_row-TStmt-0 hidden-the_row-TStmt-1 hidden
do_declares id e s = refl

for_declares : (id : PropId) (heads : List TStmt) (cond : Option TExpr) (step : Option TStmt) (s : TStmt) → declared_in (for_typed id heads cond step s) ≡ declared_items heads ++ declared_in s.node
unfolding roll-TLoop roll hidden-the_row-TStmt-0 hidden-the_row-TStmt-1 hidden
for_declares id heads cond None s = ap (λ xs. xs ++ declared_in s.node) (list_declares heads)
for_declares id heads cond (Some step) s = ap (λ xs. xs ++ declared_in s.node) (list_declares heads)

abbrev declared_groups : {m : _} → Around → Known → statement.Row_of-Group m → List ℕ
declared_groups a k statement.end_of-Group = []
declared_groups a k (statement.more_of-Group p labels _ body row) = declared_items (stmts_typed a k body) ++ declared_groups a (known_after_stmts body k) row

groups_declare : {m : _} (t : IntType) (a : Around) (k : Known) (row : statement.Row_of-Group m) → declared_in_groups (hidden-the_row-Group-2 (groups_typed a k t row)) ≡ declared_groups a k row
unfolding roll-Group roll hidden-the_row-TStmt-0 hidden-the_row-Group-2 hidden
groups_declare t a k statement.end_of-Group = refl
groups_declare t a k (statement.more_of-Group p labels _ body row) =
    let next = known_after_stmts body k in
    ap (λ xs. xs ++ declared_in_groups (hidden-the_row-Group-2 (groups_typed a next t row))) (list_declares (stmts_typed a k body))
    ∙ ap (λ xs. declared_items (stmts_typed a k body) ++ xs) (groups_declare t a next row)

items_both : (xs ys : List TStmt) → declared_items (xs ++ ys) ≡ declared_items xs ++ declared_items ys
items_both [] ys = refl
items_both (x ∷ xs) ys = ap (λ zs. declared_in x.node ++ zs) (items_both xs ys) ∙ sym (append_assoc (declared_in x.node) (declared_items xs) (declared_items ys))

-- an assignment, an update and a call declare nothing
call_declares : (p : Place) (at : Callee) (id : ℕ) (args : List TExpr) → declared_in (call_node p at id args) ≡ []
call_declares p callee_as.Unknown id args = block_declares []
call_declares p callee_as.NotFunction id args = block_declares []
call_declares p callee_as.SetInputs id args = refl
call_declares p callee_as.NextFrame id args = refl
call_declares p (callee_as.Declared f) id args = refl

simple_declares : (k : Known) (s : Simple) → declared_in (simple_stmt k s).node ≡ []
simple_declares k (simple.Assign x i) = refl
simple_declares k (simple.Update x mark e) = refl
simple_declares k (simple.StepAfter x mark) = refl
simple_declares k (simple.StepBefore mark x) = refl
simple_declares k (simple.Called call) =
    call_declares call.name.place (callee k.scopes call) (length k.sites + length (args_sites k.scopes call.arguments)) (call_args k.fns k.scopes (length k.sites) call)

return_declares : (k : Known) (r : Option IntType) (i : Option Initializer) → declared_in (return_typed k r i) ≡ []
return_declares k r None = refl
return_declares k r (Some i) = refl

-- the parts of statements
adds_expression : (e : Expression) (k : Known) → Adds k (after_expression e k) []
adds_expression e k = adds_more k (sites_in k.scopes e) (expression_quiet k.scopes e)

adds_simple : (k : Known) (s : Simple) → Adds k (more k (simple_sites k.scopes s)) []
adds_simple k s = adds_more k (simple_sites k.scopes s) (simple_quiet k.scopes s)

adds_unwind : (p : Place) (k : Known) → Adds k (own kind.Unwind p k) []
adds_unwind p k = adds_more k (site_at kind.Unwind p) (refl, tt)

adds_assertion : (p : Place) (k : Known) → Adds k (own kind.Assertion p k) []
adds_assertion p k = adds_more k (site_at kind.Assertion p) (refl, tt)

adds_declarators : (t : IntType) (constant : Bool) → IsType t → (ds : List Declarator) (k : Known) → Adds k (declarators_known t constant ds k) (declared_items (declarators_typed t constant k ds))
adds_declarators t constant is [] k = adds_none k
adds_declarators t constant is (d ∷ ds) k =
    let next = declarator_known t constant d k in
    let x = declared_name d in
    let v = var_of t (declared_length d) constant x in
    adds_then k next (declarators_known t constant ds next) (number_of (length k.locals) ∷ []) (declared_items (declarators_typed t constant next ds))
    (adds_object k next (value_sites (pending k x) d) v refl (value_quiet (pending k x) d) refl (var_fits t (declared_length d) constant x is))
    (adds_declarators t constant is ds next)

adds_first : (f : ForFirst) (k : Known) → Adds k (first_known f k) (declared_items (first_typed k f))
adds_first for_first.Nothing k = adds_none k
adds_first (for_first.Local l) k = adds_declarators (named l.type_name.integer) (is_some l.constant) (named_is l.type_name.integer) l.declarators k
adds_first (for_first.Simple s) k =
    adds_as k (more k (simple_sites k.scopes s)) [] (declared_items (simple_stmt k s ∷ [])) (adds_simple k s) (sym (append_none (declared_in (simple_stmt k s).node) ∙ simple_declares k s))

adds_head : (p : Place) (first : ForFirst) (c : Option Expression) (step : Option Simple) (k : Known) →
    Adds (enter k) (at_body p first c step k) (declared_items (first_typed (own kind.Unwind p (enter k)) first))
adds_head p first c step k =
    let k0 = own kind.Unwind p (enter k) in
    let k1 = at_condition p first k in
    let k2 = at_step p first c k in
    let k3 = at_body p first c step k in
    let xs = declared_items (first_typed k0 first) in
    adds_as (enter k) k3 (xs ++ []) xs
    (adds_then (enter k) k1 k3 xs [] (adds_then (enter k) k0 k1 [] xs (adds_unwind p (enter k)) (adds_first first k0))
    (adds_then k1 k2 k3 [] [] (adds_more k1 (condition_sites k1 c) (condition_quiet k1 c)) (adds_more k2 (step_sites k2 step) (step_quiet k2 step))))
    (append_none xs)

mutual
  adds_statement : (a : Around) (k : Known) (s : Statement) → Adds k (known_after s k) (declared_in (stmt_typed a k s).node)
  adds_statement a k (statement.Compound' p _ items) =
      adds_as k (leave_scope (known_after_row items (enter k))) (declared_items (row_typed a (enter k) items)) (declared_in (Block (row_typed a (enter k) items)))
      (adds_in k (known_after_row items (enter k)) (declared_items (row_typed a (enter k) items)) (adds_row a (enter k) items)) (sym (block_declares (row_typed a (enter k) items)))
  adds_statement a k (statement.Empty p) = adds_as k k [] (declared_in (Block [])) (adds_none k) (sym (block_declares []))
  adds_statement a k (statement.Simple s) = adds_as k (more k (simple_sites k.scopes s)) [] (declared_in (simple_stmt k s).node) (adds_simple k s) (sym (simple_declares k s))
  adds_statement a k (statement.If' p c _ (statement.more_of-Statement s _)) =
      let next = after_expression c k in
      let e = typed_of k.scopes (length k.sites) c in
      let made = stmt_typed a next s in
      adds_as k (known_after s next) (declared_in made.node) (declared_in (If e made None))
      (adds_then k next (known_after s next) [] (declared_in made.node) (adds_expression c k) (adds_statement a next s))
      (sym (append_none (declared_in made.node)) ∙ sym (if_declares e made None))
  adds_statement a k (statement.IfElse' p c _ (statement.more_of-Statement s _) _ (statement.more_of-Statement t _)) =
      let next = after_expression c k in
      let then = known_after s next in
      let e = typed_of k.scopes (length k.sites) c in
      let one = stmt_typed a next s in
      let two = stmt_typed a then t in
      adds_as k (known_after t then) (declared_in one.node ++ declared_in two.node) (declared_in (If e one (Some two)))
      (adds_then k next (known_after t then) [] (declared_in one.node ++ declared_in two.node) (adds_expression c k)
      (adds_then next then (known_after t then) (declared_in one.node) (declared_in two.node) (adds_statement a next s) (adds_statement a then t)))
      (sym (if_declares e one (Some two)))
  adds_statement a k (statement.While' p c _ (statement.more_of-Statement s _)) =
      let first = own kind.Unwind p k in
      let next = after_expression c first in
      let e = typed_of k.scopes (length first.sites) c in
      let made = stmt_typed (in_a_loop a) next s in
      adds_as k (known_after s next) (declared_in made.node) (declared_in (while_typed (id_of k) e made))
      (adds_then k first (known_after s next) [] (declared_in made.node) (adds_unwind p k)
      (adds_then first next (known_after s next) [] (declared_in made.node) (adds_expression c first) (adds_statement (in_a_loop a) next s)))
      (sym (while_declares (id_of k) e made))
  adds_statement a k (statement.Do' p _ (statement.more_of-Statement s _) c) =
      let first = own kind.Unwind p k in
      let next = known_after s first in
      let e = typed_of next.scopes (length next.sites) c in
      let made = stmt_typed (in_a_loop a) first s in
      adds_as k (after_expression c next) (declared_in made.node ++ []) (declared_in (do_typed (id_of k) e made))
      (adds_then k first (after_expression c next) [] (declared_in made.node ++ []) (adds_unwind p k)
      (adds_then first next (after_expression c next) (declared_in made.node) [] (adds_statement (in_a_loop a) first s) (adds_expression c next)))
      (append_none (declared_in made.node) ∙ sym (do_declares (id_of k) e made))
  adds_statement a k (statement.For' p first c step _ (statement.more_of-Statement s _)) =
      let k0 = own kind.Unwind p (enter k) in
      let k1 = at_condition p first k in
      let k2 = at_step p first c k in
      let k3 = at_body p first c step k in
      let heads = first_typed k0 first in
      let made = stmt_typed (in_a_loop a) k3 s in
      let xs = declared_items heads ++ declared_in made.node in
      adds_as k (leave_scope (known_after s k3)) xs (declared_in (for_typed (id_of k) heads (condition_typed k1 c) (step_typed k2 step) made))
      (adds_in k (known_after s k3) xs (adds_then (enter k) k3 (known_after s k3) (declared_items heads) (declared_in made.node) (adds_head p first c step k) (adds_statement (in_a_loop a) k3 s)))
      (sym (for_declares (id_of k) heads (condition_typed k1 c) (step_typed k2 step) made))
  adds_statement a k (statement.Switch' p e _ groups) =
      let t = promoted (type_of k.scopes e) in
      let next = after_expression e k in
      let xs = declared_groups (in_a_switch a) next groups in
      adds_as k (known_after_groups groups next) xs (declared_in (Switch (converted_to t (typed_of k.scopes (length k.sites) e)) (groups_typed (in_a_switch a) next t groups)))
      (adds_then k next (known_after_groups groups next) [] xs (adds_expression e k) (adds_groups (in_a_switch a) next groups))
      (sym (groups_declare t (in_a_switch a) next groups))
  adds_statement a k (statement.Break p) = adds_none k
  adds_statement a k (statement.Continue p) = adds_none k
  adds_statement a k (statement.Return p i) =
      adds_as k (more k (option_init_sites k.scopes i)) [] (declared_in (return_typed k a.result i)) (adds_more k (option_init_sites k.scopes i) (returned_quiet k.scopes i)) (sym (return_declares k a.result i))
  adds_statement a k (statement.Assert p e) =
      let first = own kind.Assertion p k in
      adds_then k first (after_expression e first) [] [] (adds_assertion p k) (adds_expression e first)
  adds_statement a k (statement.CproverAssert p e) =
      let first = own kind.Assertion p k in
      adds_then k first (after_expression e first) [] [] (adds_assertion p k) (adds_expression e first)
  adds_statement a k (statement.CproverAssume p e) = adds_expression e k

  adds_groups : {m : _} (a : Around) (k : Known) (row : statement.Row_of-Group m) → Adds k (known_after_groups row k) (declared_groups a k row)
  adds_groups a k statement.end_of-Group = adds_none k
  adds_groups a k (statement.more_of-Group p labels _ body row) =
      let next = known_after_stmts body k in
      adds_then k next (known_after_groups row next) (declared_items (stmts_typed a k body)) (declared_groups a next row) (adds_stmts a k body) (adds_groups a next row)

  adds_stmts : {m : _} (a : Around) (k : Known) (row : statement.Row_of-Statement m) → Adds k (known_after_stmts row k) (declared_items (stmts_typed a k row))
  adds_stmts a k statement.end_of-Statement = adds_none k
  adds_stmts a k (statement.more_of-Statement x row) =
      let next = known_after x k in
      adds_then k next (known_after_stmts row next) (declared_in (stmt_typed a k x).node) (declared_items (stmts_typed a next row)) (adds_statement a k x) (adds_stmts a next row)

  adds_item : (a : Around) (k : Known) (x : BlockItem) → Adds k (known_after_item x k) (declared_items (item_typed a k x))
  adds_item a k (block_item.Local l) = adds_declarators (named l.type_name.integer) (is_some l.constant) (named_is l.type_name.integer) l.declarators k
  adds_item a k (block_item.Statement s) =
      let made = stmt_typed a k s in
      adds_as k (known_after s k) (declared_in made.node) (declared_in made.node ++ []) (adds_statement a k s) (sym (append_none (declared_in made.node)))

  adds_row : {m : _} (a : Around) (k : Known) (row : statement.Row_of-BlockItem m) → Adds k (known_after_row row k) (declared_items (row_typed a k row))
  adds_row a k statement.end_of-BlockItem = adds_none k
  adds_row a k (statement.more_of-BlockItem x row) =
      let next = known_after_item x k in
      let one = item_typed a k x in
      let rest = row_typed a next row in
      adds_as k (known_after_row row next) (declared_items one ++ declared_items rest) (declared_items (one ++ rest))
      (adds_then k next (known_after_row row next) (declared_items one) (declared_items rest) (adds_item a k x) (adds_row a next row)) (sym (items_both one rest))

pub adds_items : (a : Around) (k : Known) (xs : List BlockItem) → Adds k (items_known xs k) (declared_items (items_typed a k xs))
adds_items a k [] = adds_none k
adds_items a k (x ∷ xs) =
    let next = known_after_item x k in
    let one = item_typed a k x in
    let rest = items_typed a next xs in
    adds_as k (items_known xs next) (declared_items one ++ declared_items rest) (declared_items (one ++ rest))
    (adds_then k next (items_known xs next) (declared_items one) (declared_items rest) (adds_item a k x) (adds_items a next xs)) (sym (items_both one rest))
