-- Statements are well-formed where nothing in them is an offence.
use Rattle.std.proofs.Common.{◌≡◌, ℕ, ◌+◌, ◌<◌, List, [], ◌∷◌, ◌++◌, length, Bool, true, false, refl, sym, ap, subst, ◌∙◌}
use Rattle.std.specs.Prelude.{All, IfSome, IsTrue, Option, Some, None, cond, slice_get}
use denote.Hole.Carrier.{hidden}
use Rattle.std.proofs.lemmas.List.{append_assoc}
use Rattle.std.proofs.lemmas.List.Elements.{All-head, All-nil, All-tail}
use Rattle.src_text.specs.declared.refusal.Place.{Place}
use Rattle.c_tree.specs.declared.declarations.Declarator.{Declarator}
use Rattle.c_tree.specs.declared.declarations.Initializer.{Initializer}
use Rattle.c_tree.specs.declared.declarations.Local.{Local}
use Rattle.c_tree.specs.declared.expressions.Expression.{Expression}
use Rattle.c_tree.specs.declared.statements.BlockItem.{BlockItem}
use Rattle.c_tree.specs.declared.statements.BlockItem as block_item
use Rattle.c_tree.specs.declared.statements.ForFirst.{ForFirst}
use Rattle.c_tree.specs.declared.statements.ForFirst.TheVariants as for_first
use Rattle.c_tree.specs.declared.statements.Simple.{Simple}
use Rattle.c_tree.specs.declared.statements.Simple.TheVariants as simple
use Rattle.c_tree.specs.declared.statements.Statement.{Statement}
use Rattle.c_tree.specs.declared.statements.Statement as statement
use Rattle.joint_ir.specs.declared.ctype.IntType.{IntType}
use Rattle.joint_ir.specs.declared.expr.Slot.{Slot}
use Rattle.joint_ir.specs.declared.expr.Slot.TheVariants as slots
use Rattle.joint_ir.specs.declared.expr.TExpr.{TExpr}
use Rattle.joint_ir.specs.declared.program.CProgram.{CProgram}
use Rattle.joint_ir.specs.declared.program.PropKind.{PropKind}
use Rattle.joint_ir.specs.declared.program.PropKind.TheVariants as kind
use Rattle.joint_ir.specs.declared.stmt.SNode.{Block}
use Rattle.joint_ir.specs.declared.stmt.SNode.TheBlock.{hidden-the_row-TStmt-0}
use Rattle.joint_ir.specs.declared.stmt.TStmt.{TStmt}
use Rattle.joint_ir.specs.Types.{IsType}
use Rattle.joint_ir.specs.WellFormed as well
use Rattle.joint_ir.specs.WellFormed.{AreDistinct, FitsExpr, FitsInit, FitsLabel, FitsOption, FitsReturn, FitsStmt, IsProp, IsVisible, all_declare, declared_behind, is_declare, is_first_part, is_simple, with_scope_locals}
use Rattle.joint_lists.specs.Lists.{FitsItems}
use Rattle.c_words.specs.declared.notes.Site.{Site}
use Rattle.c_words.specs.Types.{named, promoted}
use Rattle.c_names.specs.Scope.{Scope}
use Rattle.c_expressions.specs.Expressions.{type_of, typed_of, type_or_int, offences_in, sites_in, converted_to}
use Rattle.c_statements.specs.declared.calls.Callee.{Callee}
use Rattle.c_statements.specs.declared.calls.Callee.TheVariants as callee_as
use Rattle.c_statements.specs.declared.calls.Signature.{Signature}
use Rattle.c_statements.specs.declared.walk.Around.{Around}
use Rattle.c_statements.specs.Calls.{callee, call_args, args_sites, init_typed, init_offences}
use Rattle.c_statements.specs.Known.{Known, enter, more}
use Rattle.c_statements.specs.Simple.{call_node, simple_offences, simple_sites}
use Rattle.c_statements.specs.Switches.{labels_typed, labels_offences}
use Rattle.c_statements.specs.Statements.{is_some, option_init_sites, option_init_offences, declarator_known, declarators_typed, local_typed, local_known, local_offences, first_known, first_offences, first_typed, simple_stmt, condition_offences, condition_sites, condition_typed, step_offences, step_sites, step_typed, wrong_return, return_offences, return_typed, jump_offences, site_at, own, after_expression, id_of, in_a_loop, in_a_switch, at_condition, at_step, at_body, known_after, known_after_item, known_after_row, known_after_groups, known_after_stmts, offences_of, item_offences, row_offences, groups_offences, stmts_offences, stmt_typed, item_typed, row_typed, stmts_typed, items_known, items_offences, items_typed}
use Rattle.c_meaning.specs.Sound.{AreBytes}
use Rattle.c_meaning.proofs.Fits.{converted_fits, expression_fits, promoted_is, there, type_is, named_is}
use Rattle.c_statement_laws.specs.Agreeing.{IsSetting, IsPlace, AreFew, IsPrefix, behind_items, StatementBytes, GroupsBytes, StmtsBytes, ItemBytes, RowBytes, FirstBytes, OptionBytes, OptionInitBytes, StepBytes, SimpleBytes}
use Rattle.c_statement_laws.proofs.Inits.{none_left, none_right, init_fits}
use Rattle.c_statement_laws.proofs.Simples.{has_signature, simple_fits}
use Rattle.c_statement_laws.proofs.Declaring.{prefix_then, stand_behind, declarators_fit}
use Rattle.c_statement_laws.proofs.Labels.{append_none, labels_fit}
use Rattle.c_statement_laws.proofs.Blocks.{Grows, grows_more, grows_first, grows_statement, grows_groups, grows_stmts, grows_item, grows_items, grows_row, same_scopes, stmts_scopes, behind_program, behind_here, behind_loop, behind_break, items_append}
use Rattle.c_statement_laws.proofs.Parts.{StepFits, GroupsOk, labels_in, block_fits, if_fits, while_fits, do_fits, for_fits, switch_fits}

-- no statement but a declaration declares
call_declares : (p : Place) (at : Callee) (id : ℕ) (args : List TExpr) (xs : List ℕ) → declared_behind (call_node p at id args) xs ≡ xs
call_declares p callee_as.Unknown id args xs = refl
call_declares p callee_as.NotFunction id args xs = refl
call_declares p callee_as.SetInputs id args xs = refl
call_declares p callee_as.NextFrame id args xs = refl
call_declares p (callee_as.Declared f) id args xs = refl

simple_declares : (k : Known) (s : Simple) (xs : List ℕ) → declared_behind (simple_stmt k s).node xs ≡ xs
simple_declares k (simple.Assign x i) xs = refl
simple_declares k (simple.Update x mark e) xs = refl
simple_declares k (simple.StepAfter x mark) xs = refl
simple_declares k (simple.StepBefore mark x) xs = refl
simple_declares k (simple.Called call) xs =
    call_declares call.name.place (callee k.scopes call) (length k.sites + length (args_sites k.scopes call.arguments)) (call_args k.fns k.scopes (length k.sites) call) xs

return_declares : (k : Known) (r : Option IntType) (i : Option Initializer) (xs : List ℕ) → declared_behind (return_typed k r i) xs ≡ xs
return_declares k r None xs = refl
return_declares k r (Some i) xs = refl

declares_none : (a : Around) (k : Known) (s : Statement) (xs : List ℕ) → declared_behind (stmt_typed a k s).node xs ≡ xs
declares_none a k (statement.Compound' p _ items) xs = refl
declares_none a k (statement.Empty p) xs = refl
declares_none a k (statement.Simple s) xs = simple_declares k s xs
declares_none a k (statement.If' p c _ (statement.more_of-Statement s _)) xs = refl
declares_none a k (statement.IfElse' p c _ (statement.more_of-Statement s _) _ (statement.more_of-Statement t _)) xs = refl
declares_none a k (statement.While' p c _ (statement.more_of-Statement s _)) xs = refl
declares_none a k (statement.Do' p _ (statement.more_of-Statement s _) c) xs = refl
declares_none a k (statement.For' p first c step _ (statement.more_of-Statement s _)) xs = refl
declares_none a k (statement.Switch' p e _ groups) xs = refl
declares_none a k (statement.Break p) xs = refl
declares_none a k (statement.Continue p) xs = refl
declares_none a k (statement.Return p i) xs = return_declares k a.result i xs
declares_none a k (statement.Assert p e) xs = refl
declares_none a k (statement.CproverAssert p e) xs = refl
declares_none a k (statement.CproverAssume p e) xs = refl

-- the first part of a `for` is declarations, or one simple statement
all_declared : (t : IntType) (c : Bool) (k : Known) (ds : List Declarator) → all_declare (hidden-the_row-TStmt-0 (declarators_typed t c k ds)) ≡ true
unfolding hidden-the_row-TStmt-0 hidden
all_declared t c k [] = refl
all_declared t c k (d ∷ ds) = all_declared t c (declarator_known t c d k) ds

first_declared : (t : IntType) (c : Bool) (k : Known) (ds : List Declarator) → is_first_part (hidden-the_row-TStmt-0 (declarators_typed t c k ds)) ≡ true
unfolding hidden-the_row-TStmt-0 hidden
first_declared t c k [] = refl
first_declared t c k (d ∷ []) = refl
first_declared t c k (d ∷ e ∷ ds) = all_declared t c (declarator_known t c e (declarator_known t c d k)) ds

first_simple : (s : TStmt) → IsTrue (is_simple s.node) → is_first_part (hidden-the_row-TStmt-0 (s ∷ [])) ≡ true
unfolding hidden-the_row-TStmt-0 hidden
first_simple s h = pick (is_declare s.node)
  where
    pick : (q : Bool) → cond q true (is_simple s.node) ≡ true
    pick true = refl
    pick false = h

-- inside a loop or a switch names mean what they mean outside
setting_loop : (c : well.Scope) (all : List Site) (fns : List Signature) (env : List Scope) → IsSetting c all fns env → IsSetting (well.in_a_loop c) all fns env
setting_loop c all fns env k = record {
  props = k.props;
  names = λ name o h. let t = k.names name o h in record { visible = shown o.slot t.visible; ty = t.ty; length = t.length; type = t.type };
  bound = k.bound;
  agree = k.agree;
  signed = k.signed;
}
  where
    shown : (slot : Slot) → IsVisible c slot → IsVisible (well.in_a_loop c) slot
    shown (slots.Global i) h = h
    shown (slots.Local i) h = h
    shown (slots.Member i) h = h
    shown slots.BoundValue h = h

setting_switch : (c : well.Scope) (all : List Site) (fns : List Signature) (env : List Scope) → IsSetting c all fns env → IsSetting (well.in_a_switch c) all fns env
setting_switch c all fns env k = record {
  props = k.props;
  names = λ name o h. let t = k.names name o h in record { visible = shown o.slot t.visible; ty = t.ty; length = t.length; type = t.type };
  bound = k.bound;
  agree = k.agree;
  signed = k.signed;
}
  where
    shown : (slot : Slot) → IsVisible c slot → IsVisible (well.in_a_switch c) slot
    shown (slots.Global i) h = h
    shown (slots.Local i) h = h
    shown (slots.Member i) h = h
    shown slots.BoundValue h = h

module _ (p : CProgram) (all : List Site) (few : AreFew p all) where
  -- all that a statement needs of the lists that it adds to
  record Within (k : Known) : Type 0 where
    locals : IsPrefix k.locals p.locals
    sites : IsPrefix k.sites all

  before : (a b : Known) → Grows a b → Within b → Within a
  before a b g w = record { locals = prefix_then a.locals b.locals p.locals g.locals w.locals; sites = prefix_then a.sites b.sites all g.sites w.sites }

  place_after : (c : well.Scope) (a : Around) (k new : Known) → IsPlace p all c a k → new.fns ≡ k.fns → new.scopes ≡ k.scopes → IsPlace p all c a new
  place_after c a k new pl f s = record {
    program = pl.program;
    setting = subst (λ fns. IsSetting c all fns new.scopes) (sym f) (subst (λ env. IsSetting c all k.fns env) (sym s) pl.setting);
    loops = pl.loops;
    breaks = pl.breaks;
    function = pl.function;
    result = pl.result;
  }

  place_statement : (c : well.Scope) (a : Around) (k : Known) (s : Statement) → IsPlace p all c a k → IsPlace p all c a (known_after s k)
  place_statement c a k s pl = place_after c a k (known_after s k) pl (grows_statement s k).fns (same_scopes s k)

  place_loop : (c : well.Scope) (a : Around) (k : Known) → IsPlace p all c a k → IsPlace p all (well.in_a_loop c) (in_a_loop a) k
  place_loop c a k pl = record { program = pl.program; setting = setting_loop c all k.fns k.scopes pl.setting; loops = refl; breaks = refl; function = pl.function; result = pl.result }

  place_switch : (c : well.Scope) (a : Around) (k : Known) → IsPlace p all c a k → IsPlace p all (well.in_a_switch c) (in_a_switch a) k
  place_switch c a k pl = record { program = pl.program; setting = setting_switch c all k.fns k.scopes pl.setting; loops = pl.loops; breaks = refl; function = pl.function; result = pl.result }

  place_enter : (c : well.Scope) (a : Around) (k : Known) → IsPlace p all c a k → IsPlace p all c a (enter k)
  place_enter c a k pl = record {
    program = pl.program;
    setting = record { props = pl.setting.props; names = pl.setting.names; bound = pl.setting.bound; agree = pl.setting.agree; signed = pl.setting.signed };
    loops = pl.loops;
    breaks = pl.breaks;
    function = pl.function;
    result = pl.result;
  }

  place_behind : (c : well.Scope) (a : Around) (k new : Known) (xs : List TStmt) → IsPlace p all c a k → new.fns ≡ k.fns → IsSetting (behind_items c xs) all k.fns new.scopes → IsPlace p all (behind_items c xs) a new
  place_behind c a k new xs pl f s = record {
    program = behind_program c xs ∙ pl.program;
    setting = subst (λ fns. IsSetting (behind_items c xs) all fns new.scopes) (sym f) s;
    loops = pl.loops ∙ sym (behind_loop c xs);
    breaks = pl.breaks ∙ sym (behind_break c xs);
    function = (pl.function.0, ap (slice_get p.functions) (behind_here c xs) ∙ pl.function.1, pl.function.2);
    result = pl.result;
  }

  -- an expression, and a property of a statement's own
  value_fits : (c : well.Scope) (a : Around) (k : Known) → IsPlace p all c a k → (e : Expression) → Within (after_expression e k) → AreBytes e → FitsExpr c (typed_of k.scopes (length k.sites) e)
  value_fits c a k pl e w v = expression_fits c all pl.setting.props k.scopes pl.setting.names (length k.sites) e v (stand_behind all k.sites (sites_in k.scopes e) few.sites w.sites)

  own_is : (c : well.Scope) (a : Around) (k : Known) → IsPlace p all c a k → (kd : PropKind) (q : Place) → Within (own kd q k) → IsProp c.program kd (id_of k)
  own_is c a k pl kd q w = there c all pl.setting.props kd q (length k.sites) (stand_behind all k.sites (site_at kd q) few.sites w.sites)

  jump_allowed : (q : Place) (b : Bool) → jump_offences q b ≡ [] → b ≡ true
  jump_allowed q true none = refl
  jump_allowed q false none = absurd (cc)

  return_fits : (c : well.Scope) (a : Around) (k : Known) → IsPlace p all c a k → (q : Place) (i : Option Initializer) → Within (more k (option_init_sites k.scopes i)) →
      return_offences q a.result i ++ option_init_offences k.fns k.scopes i ≡ [] → OptionInitBytes i → FitsStmt c (return_typed k a.result i)
  return_fits c a k pl q None w none v =
      let f = pl.function in
      (f.0, ap (λ x. slice_get x.functions c.here) pl.program ∙ f.1, subst (λ r. FitsReturn c r None) (sym f.2) (given a.result (none_left (wrong_return q a.result false) [] none)))
    where
      given : (r : Option IntType) → wrong_return q r false ≡ [] → FitsReturn c r None
      given None h = refl
      given (Some t) h = absurd (cc)
  return_fits c a k pl q (Some i) w none v =
      let f = pl.function in (
        f.0,
        ap (λ x. slice_get x.functions c.here) pl.program ∙ f.1,
        subst (λ r. FitsReturn c r (Some (init_typed k.fns k.scopes (length k.sites) (type_or_int a.result) i))) (sym f.2)
            (given a.result pl.result (none_left (wrong_return q a.result true) (init_offences k.fns k.scopes i) none)),
      )
    where
      given : (r : Option IntType) → IfSome r IsType → wrong_return q r true ≡ [] → FitsReturn c r (Some (init_typed k.fns k.scopes (length k.sites) (type_or_int r) i))
      given None is h = absurd (cc)
      given (Some t) is h =
          init_fits c all pl.setting.props k.scopes pl.setting.names k.fns pl.setting.agree t is (length k.sites) i (λ call e. has_signature k.fns k.scopes pl.setting.signed call)
          (none_right (wrong_return q a.result true) (init_offences k.fns k.scopes i) none) v (stand_behind all k.sites (option_init_sites k.scopes (Some i)) few.sites w.sites)

  simple_part : (c : well.Scope) (a : Around) (k : Known) → IsPlace p all c a k → (s : Simple) → Within (more k (simple_sites k.scopes s)) → simple_offences k.fns k.scopes s ≡ [] → SimpleBytes s →
      FitsStmt c (simple_stmt k s).node × IsTrue (is_simple (simple_stmt k s).node)
  simple_part c a k pl s w none v = simple_fits c all k.fns k.scopes pl.setting (length k.sites) s none v (stand_behind all k.sites (simple_sites k.scopes s) few.sites w.sites)

  local_part : (c : well.Scope) (a : Around) (k : Known) → IsPlace p all c a k → (l : Local) → Within (local_known l k) → local_offences k l ≡ [] → ItemBytes (block_item.Local l) →
      FitsItems c (local_typed k l) × IsPlace p all (behind_items c (local_typed k l)) a (local_known l k)
  local_part c a k pl l w none v =
      let t = named l.type_name.integer in
      let made = declarators_fit c all k t (is_some l.constant) l.declarators (named_is l.type_name.integer) pl.setting (subst (λ x. length x.locals < 4294967296) (sym pl.program) few.locals) few.sites
      (subst (λ x. IsPrefix (local_known l k).locals x.locals) (sym pl.program) w.locals) w.sites none v in
      (made.0, place_behind c a k (local_known l k) (local_typed k l) pl (grows_item (block_item.Local l) k).fns made.1)

  first_part : (c : well.Scope) (a : Around) (k : Known) → IsPlace p all c a k → (f : ForFirst) → Within (first_known f k) → first_offences k f ≡ [] → FirstBytes f →
      FitsItems c (first_typed k f) × IsTrue (is_first_part (hidden-the_row-TStmt-0 (first_typed k f))) × IsPlace p all (behind_items c (first_typed k f)) a (first_known f k)
  first_part c a k pl for_first.Nothing w none v = (tt, first_declared (named_none) false k [], pl)
    where
      named_none : IntType
      named_none = record { bits = 32; signed = true; truth = false }
  first_part c a k pl (for_first.Local l) w none v =
      let made = local_part c a k pl l w none v in
      (made.0, first_declared (named l.type_name.integer) (is_some l.constant) k l.declarators, made.1)
  first_part c a k pl (for_first.Simple s) w none v =
      let made = simple_part c a k pl s w none v in (
        (made.0, tt),
        first_simple (simple_stmt k s) made.1,
        subst (λ xs. IsPlace p all (with_scope_locals c xs) a (more k (simple_sites k.scopes s))) (sym (simple_declares k s c.locals)) (place_after c a k (more k (simple_sites k.scopes s)) pl refl refl),
      )

  condition_part : (c : well.Scope) (a : Around) (k : Known) → IsPlace p all c a k → (e : Option Expression) → Within (more k (condition_sites k e)) → OptionBytes e → FitsOption c (condition_typed k e)
  condition_part c a k pl None w v = tt
  condition_part c a k pl (Some e) w v = value_fits c a k pl e w v

  step_part : (c : well.Scope) (a : Around) (k : Known) → IsPlace p all c a k → (s : Option Simple) → Within (more k (step_sites k s)) → step_offences k s ≡ [] → StepBytes s → StepFits c (step_typed k s)
  step_part c a k pl None w none v = tt
  step_part c a k pl (Some s) w none v = simple_part c a k pl s w none v

  mutual
    stmt_fits : (c : well.Scope) (a : Around) (k : Known) → IsPlace p all c a k → (s : Statement) → Within (known_after s k) → offences_of a k s ≡ [] → StatementBytes s → FitsStmt c (stmt_typed a k s).node
    stmt_fits c a k pl (statement.Compound' q _ items) w none v =
        block_fits c (row_typed a (enter k) items) (rows_fit c a (enter k) (place_enter c a k pl) items (record { locals = w.locals; sites = w.sites }) none v)
    stmt_fits c a k pl (statement.Empty q) w none v = block_fits c [] tt
    stmt_fits c a k pl (statement.Simple s) w none v = (simple_part c a k pl s w none v).0
    stmt_fits c a k pl (statement.If' q e _ (statement.more_of-Statement s _)) w none v =
        let next = after_expression e k in
        if_fits c (typed_of k.scopes (length k.sites) e) (stmt_typed a next s) None (value_fits c a k pl e (before next (known_after s next) (grows_statement s next) w) v.0)
        (stmt_fits c a next (place_after c a k next pl refl refl) s w (none_right (offences_in k.scopes e) (offences_of a next s) none) v.1) tt
    stmt_fits c a k pl (statement.IfElse' q e _ (statement.more_of-Statement s _) _ (statement.more_of-Statement t _)) w none v =
        let next = after_expression e k in
        let then = known_after s next in
        let here = place_after c a k next pl refl refl in
        let rest = none_right (offences_in k.scopes e) (offences_of a next s ++ offences_of a then t) none in
        let w1 = before then (known_after t then) (grows_statement t then) w in
        if_fits c (typed_of k.scopes (length k.sites) e) (stmt_typed a next s) (Some (stmt_typed a then t)) (value_fits c a k pl e (before next then (grows_statement s next) w1) v.0)
        (stmt_fits c a next here s w1 (none_left (offences_of a next s) (offences_of a then t) rest) v.1)
        (stmt_fits c a then (place_statement c a next s here) t w (none_right (offences_of a next s) (offences_of a then t) rest) v.2)
    stmt_fits c a k pl (statement.While' q e _ (statement.more_of-Statement s _)) w none v =
        let first = own kind.Unwind q k in
        let next = after_expression e first in
        let inner = place_loop c a first (place_after c a k first pl refl refl) in
        let w1 = before next (known_after s next) (grows_statement s next) w in
        while_fits c (id_of k) (typed_of k.scopes (length first.sites) e) (stmt_typed (in_a_loop a) next s)
        (value_fits (well.in_a_loop c) (in_a_loop a) first inner e w1 v.0)
        (stmt_fits (well.in_a_loop c) (in_a_loop a) next (place_after (well.in_a_loop c) (in_a_loop a) first next inner refl refl) s w (none_right (offences_in k.scopes e) (offences_of (in_a_loop a) next s) none) v.1)
        (own_is c a k pl kind.Unwind q (before first next (grows_more first (sites_in k.scopes e)) w1))
    stmt_fits c a k pl (statement.Do' q _ (statement.more_of-Statement s _) e) w none v =
        let first = own kind.Unwind q k in
        let next = known_after s first in
        let inner = place_loop c a first (place_after c a k first pl refl refl) in
        let w1 = before next (after_expression e next) (grows_more next (sites_in next.scopes e)) w in
        do_fits c (id_of k) (typed_of next.scopes (length next.sites) e) (stmt_typed (in_a_loop a) first s)
        (value_fits (well.in_a_loop c) (in_a_loop a) next (place_statement (well.in_a_loop c) (in_a_loop a) first s inner) e w v.0)
        (stmt_fits (well.in_a_loop c) (in_a_loop a) first inner s w1 (none_left (offences_of (in_a_loop a) first s) (offences_in next.scopes e) none) v.1)
        (own_is c a k pl kind.Unwind q (before first next (grows_statement s first) w1))
    stmt_fits c a k pl (statement.For' q first e step _ (statement.more_of-Statement s _)) w none v =
        let k0 = own kind.Unwind q (enter k) in
        let k1 = at_condition q first k in
        let k2 = at_step q first e k in
        let k3 = at_body q first e step k in
        let w3 : Within k3 = before k3 (known_after s k3) (grows_statement s k3) (record { locals = w.locals; sites = w.sites }) in
        let w2 = before k2 k3 (grows_more k2 (step_sites k2 step)) w3 in
        let w1 = before k1 k2 (grows_more k1 (condition_sites k1 e)) w2 in
        let w0 = before k0 k1 (grows_first first k0) w1 in
        let os1 = condition_offences k1 e in
        let os2 = step_offences k2 step in
        let os3 = offences_of (in_a_loop a) k3 s in
        let rest1 = none_right (first_offences k0 first) (os1 ++ (os2 ++ os3)) none in
        let rest2 = none_right os1 (os2 ++ os3) rest1 in
        let entered = place_enter c a k pl in
        let made = first_part c a k0 (place_after c a (enter k) k0 entered refl refl) first w1 (none_left (first_offences k0 first) (os1 ++ (os2 ++ os3)) none) v.0 in
        let behind = behind_items c (first_typed k0 first) in
        let inner = place_loop behind a k1 made.2 in
        let two = place_after (well.in_a_loop behind) (in_a_loop a) k1 k2 inner refl refl in
        let three = place_after (well.in_a_loop behind) (in_a_loop a) k2 k3 two refl refl in
        for_fits c (id_of k) (first_typed k0 first) (condition_typed k1 e) (step_typed k2 step) (stmt_typed (in_a_loop a) k3 s) made.0 made.1
        (condition_part (well.in_a_loop behind) (in_a_loop a) k1 inner e w2 v.1)
        (step_part (well.in_a_loop behind) (in_a_loop a) k2 two step w3 (none_left os2 os3 rest2) v.2)
        (stmt_fits (well.in_a_loop behind) (in_a_loop a) k3 three s (record { locals = w.locals; sites = w.sites }) (none_right os2 os3 rest2) v.3)
        (own_is c a (enter k) entered kind.Unwind q w0)
    stmt_fits c a k pl (statement.Switch' q e _ groups) w none v =
        let t = promoted (type_of k.scopes e) in
        let next = after_expression e k in
        let wide = promoted_is (type_of k.scopes e) (type_is c k.scopes pl.setting.names e) in
        let whole = converted_fits c all pl.setting.props t (typed_of k.scopes (length k.sites) e) wide.type (value_fits c a k pl e (before next (known_after_groups groups next) (grows_groups groups next) w) v.0) in
        let inner = place_switch c a next (place_after c a k next pl refl refl) in
        let made = cases_fit (well.in_a_switch c) (in_a_switch a) next inner t wide.type [] (All-nil (λ l. _)) groups w (none_right (offences_in k.scopes e) (groups_offences (in_a_switch a) next t [] groups) none) v.1 in
        switch_fits c t (converted_to t (typed_of k.scopes (length k.sites) e)) (in_a_switch a) next groups whole.0 whole.1 wide made.0 made.1
    stmt_fits c a k pl (statement.Break q) w none v = sym pl.breaks ∙ jump_allowed q a.may_break none
    stmt_fits c a k pl (statement.Continue q) w none v = sym pl.loops ∙ jump_allowed q a.in_loop none
    stmt_fits c a k pl (statement.Return q i) w none v = return_fits c a k pl q i w none v
    stmt_fits c a k pl (statement.Assert q e) w none v =
        let first = own kind.Assertion q k in
        (value_fits c a first (place_after c a k first pl refl refl) e w v, own_is c a k pl kind.Assertion q (before first (after_expression e first) (grows_more first (sites_in k.scopes e)) w))
    stmt_fits c a k pl (statement.CproverAssert q e) w none v =
        let first = own kind.Assertion q k in
        (value_fits c a first (place_after c a k first pl refl refl) e w v, own_is c a k pl kind.Assertion q (before first (after_expression e first) (grows_more first (sites_in k.scopes e)) w))
    stmt_fits c a k pl (statement.CproverAssume q e) w none v = value_fits c a k pl e w v

    cases_fit : {m : _} (c : well.Scope) (a : Around) (k : Known) → IsPlace p all c a k → (t : IntType) → IsType t → (seen : List _) → AreDistinct seen → (row : statement.Row_of-Group m) →
        Within (known_after_groups row k) → groups_offences a k t seen row ≡ [] → GroupsBytes row → GroupsOk c t a k row × AreDistinct (seen ++ labels_in t row)
    cases_fit c a k pl t is seen distinct statement.end_of-Group w none v = (tt, subst AreDistinct (sym (append_none seen)) distinct)
    cases_fit c a k pl t is seen distinct (statement.more_of-Group q labels _ body row) w none v =
        let next = known_after_stmts body k in
        let os = labels_offences k.scopes t seen labels in
        let rest = none_right os (stmts_offences a k body ++ groups_offences a next t (seen ++ labels_typed t labels) row) none in
        let these = labels_fit k.scopes t is seen labels (none_left os (stmts_offences a k body ++ groups_offences a next t (seen ++ labels_typed t labels) row) none) distinct in
        let body_fits = lists_fit c a k pl body (before next (known_after_groups row next) (grows_groups row next) w) (none_left (stmts_offences a k body) (groups_offences a next t (seen ++ labels_typed t labels) row) rest) v.1 in
        let behind = place_after c a k next pl (grows_stmts body k).fns (stmts_scopes body k) in
        let others = cases_fit c a next behind t is (seen ++ labels_typed t labels) these.distinct row w (none_right (stmts_offences a k body) (groups_offences a next t (seen ++ labels_typed t labels) row) rest) v.2 in
        ((subst (λ n. 0 < n) (sym these.count) v.0, these.fit, body_fits, others.0), subst AreDistinct (append_assoc seen (labels_typed t labels) (labels_in t row)) others.1)

    lists_fit : {m : _} (c : well.Scope) (a : Around) (k : Known) → IsPlace p all c a k → (row : statement.Row_of-Statement m) → Within (known_after_stmts row k) → stmts_offences a k row ≡ [] → StmtsBytes row →
        FitsItems c (stmts_typed a k row)
    lists_fit c a k pl statement.end_of-Statement w none v = tt
    lists_fit c a k pl (statement.more_of-Statement x row) w none v =
        let next = known_after x k in (
          stmt_fits c a k pl x (before next (known_after_stmts row next) (grows_stmts row next) w) (none_left (offences_of a k x) (stmts_offences a next row) none) v.0,
          subst (λ xs. FitsItems (with_scope_locals c xs) (stmts_typed a next row)) (sym (declares_none a k x c.locals))
              (lists_fit c a next (place_statement c a k x pl) row w (none_right (offences_of a k x) (stmts_offences a next row) none) v.1),
        )

    items_fit : (c : well.Scope) (a : Around) (k : Known) → IsPlace p all c a k → (x : BlockItem) → Within (known_after_item x k) → item_offences a k x ≡ [] → ItemBytes x →
        FitsItems c (item_typed a k x) × IsPlace p all (behind_items c (item_typed a k x)) a (known_after_item x k)
    items_fit c a k pl (block_item.Local l) w none v = local_part c a k pl l w none v
    items_fit c a k pl (block_item.Statement s) w none v =
        ((stmt_fits c a k pl s w none v, tt), subst (λ xs. IsPlace p all (with_scope_locals c xs) a (known_after s k)) (sym (declares_none a k s c.locals)) (place_statement c a k s pl))

    rows_fit : {m : _} (c : well.Scope) (a : Around) (k : Known) → IsPlace p all c a k → (row : statement.Row_of-BlockItem m) → Within (known_after_row row k) → row_offences a k row ≡ [] → RowBytes row →
        FitsItems c (row_typed a k row)
    rows_fit c a k pl statement.end_of-BlockItem w none v = tt
    rows_fit c a k pl (statement.more_of-BlockItem x row) w none v =
        let next = known_after_item x k in
        let made = items_fit c a k pl x (before next (known_after_row row next) (grows_row row next) w) (none_left (item_offences a k x) (row_offences a next row) none) v.0 in
        items_append c (item_typed a k x) (row_typed a next row) made.0
        (rows_fit (behind_items c (item_typed a k x)) a next made.1 row w (none_right (item_offences a k x) (row_offences a next row) none) v.1)

  -- the items of a function's body
  body_items : (c : well.Scope) (a : Around) (k : Known) → IsPlace p all c a k → (xs : List BlockItem) → Within (items_known xs k) → items_offences a k xs ≡ [] → All ItemBytes xs →
      FitsItems c (items_typed a k xs)
  body_items c a k pl [] w none v = tt
  body_items c a k pl (x ∷ xs) w none v =
      let next = known_after_item x k in
      let made = items_fit c a k pl x (before next (items_known xs next) (grows_items xs next) w) (none_left (item_offences a k x) (items_offences a next xs) none) (All-head ItemBytes x xs v) in
      items_append c (item_typed a k x) (items_typed a next xs) made.0
      (body_items (behind_items c (item_typed a k x)) a next made.1 xs w (none_right (item_offences a k x) (items_offences a next xs) none) (All-tail ItemBytes x xs v))

pub body_fits : (p : CProgram) (all : List Site) → AreFew p all → (c : well.Scope) (a : Around) (k : Known) → IsPlace p all c a k → (xs : List BlockItem) → IsPrefix (items_known xs k).locals p.locals →
    IsPrefix (items_known xs k).sites all → items_offences a k xs ≡ [] → All ItemBytes xs → FitsStmt c (Block (items_typed a k xs))
body_fits p all few c a k pl xs locals sites none v = block_fits c (items_typed a k xs) (body_items p all few c a k pl xs (record { locals = locals; sites = sites }) none v)

pub statement_fits : (p : CProgram) (all : List Site) → AreFew p all → (c : well.Scope) (a : Around) (k : Known) → IsPlace p all c a k → (s : Statement) → IsPrefix (known_after s k).locals p.locals →
    IsPrefix (known_after s k).sites all → offences_of a k s ≡ [] → StatementBytes s → FitsStmt c (stmt_typed a k s).node
statement_fits p all few c a k pl s locals sites none v = stmt_fits p all few c a k pl s (record { locals = locals; sites = sites }) none v
