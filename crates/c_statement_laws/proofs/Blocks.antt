-- What a statement leaves as it was: the functions that are known, the scopes, and all that stood in lists.
use Rattle.std.proofs.Common.{◌≡◌, ℕ, List, [], ◌∷◌, ◌++◌, length, Bool, refl, ap, ◌∙◌}
use Rattle.std.specs.Prelude.{Option}
use Rattle.src_text.specs.declared.refusal.Place.{Place}
use Rattle.c_tree.specs.declared.declarations.Declarator.{Declarator}
use Rattle.c_tree.specs.declared.statements.Simple.{Simple}
use Rattle.c_tree.specs.declared.expressions.Expression.{Expression}
use Rattle.c_tree.specs.declared.statements.BlockItem.{BlockItem}
use Rattle.c_tree.specs.declared.statements.BlockItem as block_item
use Rattle.c_tree.specs.declared.statements.ForFirst.{ForFirst}
use Rattle.c_tree.specs.declared.statements.ForFirst.TheVariants as for_first
use Rattle.c_tree.specs.declared.statements.Statement.{Statement}
use Rattle.c_tree.specs.declared.statements.Statement as statement
use Rattle.joint_ir.specs.declared.ctype.IntType.{IntType}
use Rattle.joint_ir.specs.declared.program.PropKind.TheVariants as kind
use Rattle.joint_ir.specs.declared.stmt.TStmt.{TStmt}
use Rattle.joint_ir.specs.WellFormed as well
use Rattle.joint_ir.specs.WellFormed.{declared_behind, with_scope_locals}
use Rattle.joint_lists.specs.Lists.{FitsItems}
use Rattle.c_words.specs.declared.notes.Site.{Site}
use Rattle.c_words.specs.Types.{named}
use Rattle.c_names.specs.declared.scope.Entry.{Entry}
use Rattle.c_names.specs.declared.scope.Entry.TheVariants as entry
use Rattle.c_names.specs.Scope.{Scope, declare, leave}
use Rattle.c_expressions.specs.Expressions.{sites_in}
use Rattle.c_statements.specs.Arrays.{declared_length}
use Rattle.c_statements.specs.Known.{Known, enter, leave_scope, more}
use Rattle.c_statements.specs.Simple.{simple_sites}
use Rattle.c_statements.specs.Statements.{is_some, declared_name, pending, local_entry, option_init_sites, declarator_known, declarators_known, first_known, site_at, own, after_expression, condition_sites, step_sites, at_condition, at_step, at_body, known_after, known_after_item, known_after_row, known_after_groups, known_after_stmts, items_known}
use Rattle.c_statement_laws.specs.Agreeing.{IsPrefix, behind_items}
use Rattle.c_statement_laws.proofs.Declaring.{prefix_then, prefix_append, locals_kept, sites_kept}

-- what stands at a place of a text stands behind it too
pub record Grows (old new : Known) : Type 0 where
  pub fns : new.fns ≡ old.fns
  pub locals : IsPrefix old.locals new.locals
  pub sites : IsPrefix old.sites new.sites

none_more : {A : Type 0} (xs : List A) → IsPrefix xs xs
none_more xs i x h = h

pub grows_none : (k : Known) → Grows k k
grows_none k = record { fns = refl; locals = none_more k.locals; sites = none_more k.sites }

pub grows_then : (a b c : Known) → Grows a b → Grows b c → Grows a c
grows_then a b c f s = record {
  fns = s.fns ∙ f.fns;
  locals = prefix_then a.locals b.locals c.locals f.locals s.locals;
  sites = prefix_then a.sites b.sites c.sites f.sites s.sites;
}

pub grows_more : (k : Known) (sites : List Site) → Grows k (more k sites)
grows_more k sites = record { fns = refl; locals = none_more k.locals; sites = prefix_append k.sites sites }

declarators_fns : (t : IntType) (c : Bool) (ds : List Declarator) (k : Known) → (declarators_known t c ds k).fns ≡ k.fns
declarators_fns t c [] k = refl
declarators_fns t c (d ∷ ds) k = declarators_fns t c ds (declarator_known t c d k)

grows_declarators : (t : IntType) (c : Bool) (ds : List Declarator) (k : Known) → Grows k (declarators_known t c ds k)
grows_declarators t c ds k = record { fns = declarators_fns t c ds k; locals = locals_kept t c ds k; sites = sites_kept t c ds k }

pub grows_first : (f : ForFirst) (k : Known) → Grows k (first_known f k)
grows_first for_first.Nothing k = grows_none k
grows_first (for_first.Local l) k = grows_declarators (named l.type_name.integer) (is_some l.constant) l.declarators k
grows_first (for_first.Simple s) k = grows_more k (simple_sites k.scopes s)

-- a scope more, or less
grows_in : (k : Known) (new : Known) → Grows (enter k) new → Grows k (leave_scope new)
grows_in k new g = record { fns = g.fns; locals = g.locals; sites = g.sites }

-- the parts of a `for` before its body
grows_body : (p : Place) (first : ForFirst) (c : Option Expression) (step : Option Simple) (k : Known) → Grows (enter k) (at_body p first c step k)
grows_body p first c step k =
    let at = own kind.Unwind p (enter k) in
    let one = at_condition p first k in
    let two = at_step p first c k in
    grows_then (enter k) at (at_body p first c step k) (grows_more (enter k) (site_at kind.Unwind p))
    (grows_then at one (at_body p first c step k) (grows_first first at)
    (grows_then one two (at_body p first c step k) (grows_more one (condition_sites one c)) (grows_more two (step_sites two step))))

mutual
  pub grows_statement : (s : Statement) (k : Known) → Grows k (known_after s k)
  grows_statement (statement.Compound' p _ items) k = grows_in k (known_after_row items (enter k)) (grows_row items (enter k))
  grows_statement (statement.Empty p) k = grows_none k
  grows_statement (statement.Simple s) k = grows_more k (simple_sites k.scopes s)
  grows_statement (statement.If' p c _ (statement.more_of-Statement s _)) k =
      let next = after_expression c k in
      grows_then k next (known_after s next) (grows_more k (sites_in k.scopes c)) (grows_statement s next)
  grows_statement (statement.IfElse' p c _ (statement.more_of-Statement s _) _ (statement.more_of-Statement t _)) k =
      let next = after_expression c k in
      let then = known_after s next in
      grows_then k next (known_after t then) (grows_more k (sites_in k.scopes c)) (grows_then next then (known_after t then) (grows_statement s next) (grows_statement t then))
  grows_statement (statement.While' p c _ (statement.more_of-Statement s _)) k =
      let at = own kind.Unwind p k in
      let next = after_expression c at in
      grows_then k at (known_after s next) (grows_more k (site_at kind.Unwind p)) (grows_then at next (known_after s next) (grows_more at (sites_in k.scopes c)) (grows_statement s next))
  grows_statement (statement.Do' p _ (statement.more_of-Statement s _) c) k =
      let at = own kind.Unwind p k in
      let next = known_after s at in
      grows_then k at (after_expression c next) (grows_more k (site_at kind.Unwind p)) (grows_then at next (after_expression c next) (grows_statement s at) (grows_more next (sites_in next.scopes c)))
  grows_statement (statement.For' p first c step _ (statement.more_of-Statement s _)) k =
      let body = at_body p first c step k in
      grows_in k (known_after s body) (grows_then (enter k) body (known_after s body) (grows_body p first c step k) (grows_statement s body))
  grows_statement (statement.Switch' p e _ groups) k =
      let next = after_expression e k in
      grows_then k next (known_after_groups groups next) (grows_more k (sites_in k.scopes e)) (grows_groups groups next)
  grows_statement (statement.Break p) k = grows_none k
  grows_statement (statement.Continue p) k = grows_none k
  grows_statement (statement.Return p i) k = grows_more k (option_init_sites k.scopes i)
  grows_statement (statement.Assert p e) k =
      let at = own kind.Assertion p k in
      grows_then k at (after_expression e at) (grows_more k (site_at kind.Assertion p)) (grows_more at (sites_in k.scopes e))
  grows_statement (statement.CproverAssert p e) k =
      let at = own kind.Assertion p k in
      grows_then k at (after_expression e at) (grows_more k (site_at kind.Assertion p)) (grows_more at (sites_in k.scopes e))
  grows_statement (statement.CproverAssume p e) k = grows_more k (sites_in k.scopes e)

  pub grows_groups : {m : _} (row : statement.Row_of-Group m) (k : Known) → Grows k (known_after_groups row k)
  grows_groups statement.end_of-Group k = grows_none k
  grows_groups (statement.more_of-Group p labels _ body row) k =
      let next = known_after_stmts body k in
      grows_then k next (known_after_groups row next) (grows_stmts body k) (grows_groups row next)

  pub grows_stmts : {m : _} (row : statement.Row_of-Statement m) (k : Known) → Grows k (known_after_stmts row k)
  grows_stmts statement.end_of-Statement k = grows_none k
  grows_stmts (statement.more_of-Statement x row) k =
      let next = known_after x k in
      grows_then k next (known_after_stmts row next) (grows_statement x k) (grows_stmts row next)

  pub grows_item : (x : BlockItem) (k : Known) → Grows k (known_after_item x k)
  grows_item (block_item.Local l) k = grows_declarators (named l.type_name.integer) (is_some l.constant) l.declarators k
  grows_item (block_item.Statement s) k = grows_statement s k

  pub grows_row : {m : _} (row : statement.Row_of-BlockItem m) (k : Known) → Grows k (known_after_row row k)
  grows_row statement.end_of-BlockItem k = grows_none k
  grows_row (statement.more_of-BlockItem x row) k =
      let next = known_after_item x k in
      grows_then k next (known_after_row row next) (grows_item x k) (grows_row row next)

pub grows_items : (xs : List BlockItem) (k : Known) → Grows k (items_known xs k)
grows_items [] k = grows_none k
grows_items (x ∷ xs) k =
    let next = known_after_item x k in
    grows_then k next (items_known xs next) (grows_item x k) (grows_items xs next)

-- a declaration leaves the outer scopes as they were
pub leave_declare : (env : List Scope) (n : List ℕ) (e : Entry) → leave (declare env n e) ≡ leave env
leave_declare [] n e = refl
leave_declare (s ∷ env) n e = refl

declarators_leave : (t : IntType) (c : Bool) (ds : List Declarator) (k : Known) → leave (declarators_known t c ds k).scopes ≡ leave k.scopes
declarators_leave t c [] k = refl
declarators_leave t c (d ∷ ds) k =
    declarators_leave t c ds (declarator_known t c d k)
    ∙ leave_declare (pending k (declared_name d)) (declared_name d).name (local_entry (length k.locals) t (declared_length d) c)
    ∙ leave_declare k.scopes (declared_name d).name entry.Pending

first_leave : (f : ForFirst) (k : Known) → leave (first_known f k).scopes ≡ leave k.scopes
first_leave for_first.Nothing k = refl
first_leave (for_first.Local l) k = declarators_leave (named l.type_name.integer) (is_some l.constant) l.declarators k
first_leave (for_first.Simple s) k = refl

mutual
  -- a statement leaves all scopes as they were
  pub same_scopes : (s : Statement) (k : Known) → (known_after s k).scopes ≡ k.scopes
  same_scopes (statement.Compound' p _ items) k = row_leave items (enter k)
  same_scopes (statement.Empty p) k = refl
  same_scopes (statement.Simple s) k = refl
  same_scopes (statement.If' p c _ (statement.more_of-Statement s _)) k = same_scopes s (after_expression c k)
  same_scopes (statement.IfElse' p c _ (statement.more_of-Statement s _) _ (statement.more_of-Statement t _)) k =
      same_scopes t (known_after s (after_expression c k)) ∙ same_scopes s (after_expression c k)
  same_scopes (statement.While' p c _ (statement.more_of-Statement s _)) k = same_scopes s (after_expression c (own kind.Unwind p k))
  same_scopes (statement.Do' p _ (statement.more_of-Statement s _) c) k = same_scopes s (own kind.Unwind p k)
  same_scopes (statement.For' p first c step _ (statement.more_of-Statement s _)) k =
      ap leave (same_scopes s (at_body p first c step k)) ∙ first_leave first (own kind.Unwind p (enter k))
  same_scopes (statement.Switch' p e _ groups) k = groups_scopes groups (after_expression e k)
  same_scopes (statement.Break p) k = refl
  same_scopes (statement.Continue p) k = refl
  same_scopes (statement.Return p i) k = refl
  same_scopes (statement.Assert p e) k = refl
  same_scopes (statement.CproverAssert p e) k = refl
  same_scopes (statement.CproverAssume p e) k = refl

  pub groups_scopes : {m : _} (row : statement.Row_of-Group m) (k : Known) → (known_after_groups row k).scopes ≡ k.scopes
  groups_scopes statement.end_of-Group k = refl
  groups_scopes (statement.more_of-Group p labels _ body row) k = groups_scopes row (known_after_stmts body k) ∙ stmts_scopes body k

  pub stmts_scopes : {m : _} (row : statement.Row_of-Statement m) (k : Known) → (known_after_stmts row k).scopes ≡ k.scopes
  stmts_scopes statement.end_of-Statement k = refl
  stmts_scopes (statement.more_of-Statement x row) k = stmts_scopes row (known_after x k) ∙ same_scopes x k

  pub item_leave : (x : BlockItem) (k : Known) → leave (known_after_item x k).scopes ≡ leave k.scopes
  item_leave (block_item.Local l) k = declarators_leave (named l.type_name.integer) (is_some l.constant) l.declarators k
  item_leave (block_item.Statement s) k = ap leave (same_scopes s k)

  row_leave : {m : _} (row : statement.Row_of-BlockItem m) (k : Known) → leave (known_after_row row k).scopes ≡ leave k.scopes
  row_leave statement.end_of-BlockItem k = refl
  row_leave (statement.more_of-BlockItem x row) k = row_leave row (known_after_item x k) ∙ item_leave x k

-- the scope behind statements is that of the same function
pub behind_program : (c : well.Scope) (xs : List TStmt) → (behind_items c xs).program ≡ c.program
behind_program c [] = refl
behind_program c (s ∷ ss) = behind_program (with_scope_locals c (declared_behind s.node c.locals)) ss

pub behind_here : (c : well.Scope) (xs : List TStmt) → (behind_items c xs).here ≡ c.here
behind_here c [] = refl
behind_here c (s ∷ ss) = behind_here (with_scope_locals c (declared_behind s.node c.locals)) ss

pub behind_loop : (c : well.Scope) (xs : List TStmt) → (behind_items c xs).in_loop ≡ c.in_loop
behind_loop c [] = refl
behind_loop c (s ∷ ss) = behind_loop (with_scope_locals c (declared_behind s.node c.locals)) ss

pub behind_break : (c : well.Scope) (xs : List TStmt) → (behind_items c xs).may_break ≡ c.may_break
behind_break c [] = refl
behind_break c (s ∷ ss) = behind_break (with_scope_locals c (declared_behind s.node c.locals)) ss

pub items_append : (c : well.Scope) (xs ys : List TStmt) → FitsItems c xs → FitsItems (behind_items c xs) ys → FitsItems c (xs ++ ys)
items_append c [] ys h g = g
items_append c (s ∷ ss) ys h g = (h.0, items_append (with_scope_locals c (declared_behind s.node c.locals)) ss ys h.1 g)
