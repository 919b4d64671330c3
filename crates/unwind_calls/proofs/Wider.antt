-- What fits where some locals are declared, fits where more are.
use Rattle.std.proofs.Common.{ℕ, zero, suc, ◌+◌, List, [], ◌∷◌, arith}
use Rattle.std.specs.Prelude.{Contains, Option, Some, None}
use Rattle.std.proofs.lemmas.List.Elements.{All-weaker}
use Rattle.joint_ir.specs.declared.ctype.IntType.{IntType}
use Rattle.joint_ir.specs.declared.expr.Slot.{Slot}
use Rattle.joint_ir.specs.declared.expr.Slot.TheVariants.{Global, Local, Member, BoundValue}
use Rattle.joint_ir.specs.declared.expr.TExpr.{TExpr}
use Rattle.joint_ir.specs.declared.expr.TNode.{TNode, Const, Read, Index', Unary', Binary', Logic', Choose', Convert', more_of-TExpr}
use Rattle.joint_ir.specs.declared.program.PropId.{PropId}
use Rattle.joint_ir.specs.declared.stmt.Group.{Group, Group'}
use Rattle.joint_ir.specs.declared.stmt.SNode.{SNode, Block', Declare, Store, Update, Call, If', Loop, Switch', Break, Continue, Return, Assert, Assume, SetInputs, NextFrame, Row_of-TStmt, end_of-TStmt, more_of-TStmt, Row_of-Group, end_of-Group, more_of-Group, Held-SNode-If-2, None', Some'}
use Rattle.joint_ir.specs.declared.stmt.TCall.{TCall}
use Rattle.joint_ir.specs.declared.stmt.TInit.{TInit}
use Rattle.joint_ir.specs.declared.stmt.TInit.TheVariants.{Free, Values, Called}
use Rattle.joint_ir.specs.declared.stmt.TLoop.{TLoop, TLoop'}
use Rattle.joint_ir.specs.declared.stmt.TTarget.{TTarget}
use Rattle.joint_ir.specs.declared.stmt.TUpdate.{TUpdate}
use Rattle.joint_ir.specs.Steps.{slot_type}
use Rattle.joint_ir.specs.WellFormed.{Scope, FitsNode, FitsExpr, FitsAs, FitsOption, FitsArgs, FitsCall, FitsInit, FitsIndex, FitsTarget, FitsUpdate, FitsElements, FitsObject, FitsReturn, FitsStmt, FitsRow, FitsOther, FitsStep, FitsLoop, FitsGroups, FitsGroup, IsVisible, IsObject, with_scope_locals, in_a_loop, in_a_switch, declared_behind, behind_row}

-- all places of one list stand in another
abbrev pub Within : List ℕ → List ℕ → Type 0
Within xs ys = (i : ℕ) → Contains xs i → Contains ys i

pub contains_more : (y : ℕ) (ys : List ℕ) (i : ℕ) → Contains ys i → Contains (y ∷ ys) i
contains_more y ys i h = (suc h.0, omega (arith, h.1), h.2)

within_more : (x : ℕ) (xs ys : List ℕ) → Within xs ys → Within (x ∷ xs) (x ∷ ys)
within_more x xs ys h i (zero, lt, e) = (zero, omega arith, e)
within_more x xs ys h i (suc k, lt, e) = contains_more x ys i (h i (k, omega (arith, lt), e))

pub within_behind : (node : SNode) (xs ys : List ℕ) → Within xs ys → Within (declared_behind node xs) (declared_behind node ys)
within_behind (Declare x init) xs ys h = within_more x xs ys h
within_behind _ xs ys h = h

within_row : {m : _} (row : Row_of-TStmt m) (xs ys : List ℕ) → Within xs ys → Within (behind_row row xs) (behind_row row ys)
within_row end_of-TStmt xs ys h = h
within_row (more_of-TStmt p a rest) xs ys h = within_row rest (declared_behind a xs) (declared_behind a ys) (within_behind a xs ys h)

-- the scope with other locals
wide_visible : (c : Scope) (ys : List ℕ) (slot : Slot) → Within c.locals ys → IsVisible c slot → IsVisible (with_scope_locals c ys) slot
wide_visible c ys (Global i) w h = h
wide_visible c ys (Local i) w h = (h.0, w i h.1)
wide_visible c ys (Member i) w h = h
wide_visible c ys BoundValue w h = h

wide_object : (c : Scope) (ys : List ℕ) (slot : Slot) (indexed : _) → Within c.locals ys → IsObject c slot indexed → IsObject (with_scope_locals c ys) slot indexed
wide_object c ys slot indexed w h = record { visible = wide_visible c ys slot w h.visible; shape = h.shape }

wide_node : (c : Scope) (ys : List ℕ) (t : IntType) (e : TNode) → Within c.locals ys → FitsNode c t e → FitsNode (with_scope_locals c ys) t e
wide_node c ys t (Const n) w h = h
wide_node c ys t (Read slot) w h = (wide_object c ys slot _ w h.0, h.1)
wide_node c ys t (Index' slot _ (more_of-TExpr u q a _) prop) w (o, e, p, h) = (wide_object c ys slot _ w o, e, p, wide_node c ys u a w h)
wide_node c ys t (Unary' op _ (more_of-TExpr u q a _) prop) w h = (h.0, wide_node c ys u a w h.1)
wide_node c ys t (Binary' op _ (more_of-TExpr u q a _) _ (more_of-TExpr v r b _) d prop) w h = (h.0, wide_node c ys u a w h.1, wide_node c ys v b w h.2)
wide_node c ys t (Logic' op _ (more_of-TExpr u q a _) _ (more_of-TExpr v r b _)) w h = (h.0, wide_node c ys u a w h.1, wide_node c ys v b w h.2)
wide_node c ys t (Choose' _ (more_of-TExpr u q x _) _ (more_of-TExpr v r a _) _ (more_of-TExpr z s b _)) w (promoted, first, second, f, g, h) =
    (promoted, first, second, wide_node c ys u x w f, wide_node c ys v a w g, wide_node c ys z b w h)
wide_node c ys t (Convert' _ (more_of-TExpr u q a _)) w h = (h.0, wide_node c ys u a w h.1)

wide_expr : (c : Scope) (ys : List ℕ) (e : TExpr) → Within c.locals ys → FitsExpr c e → FitsExpr (with_scope_locals c ys) e
wide_expr c ys e w h = wide_node c ys e.ty e.node w h

wide_option : (c : Scope) (ys : List ℕ) (e : Option TExpr) → Within c.locals ys → FitsOption c e → FitsOption (with_scope_locals c ys) e
wide_option c ys None w h = tt
wide_option c ys (Some e) w h = wide_expr c ys e w h

wide_args : (c : Scope) (ys : List ℕ) (x : ℕ) (es : List TExpr) → Within c.locals ys → FitsArgs c x es → FitsArgs (with_scope_locals c ys) x es
wide_args c ys x [] w h = tt
wide_args c ys x (e ∷ es) w h = ((h.0.0, wide_expr c ys e w h.0.1), wide_args c ys (x + 1) es w h.1)

wide_call : (c : Scope) (ys : List ℕ) (call : TCall) → Within c.locals ys → FitsCall c call → FitsCall (with_scope_locals c ys) call
wide_call c ys call w (fn, found, callee) = (fn, found, (callee.0, wide_args c ys fn.first call.args w callee.1, callee.2))

wide_init : (c : Scope) (ys : List ℕ) (free : _) (t : IntType) (init : TInit) → Within c.locals ys → FitsInit c free t init → FitsInit (with_scope_locals c ys) free t init
wide_init c ys free t Free w h = h
wide_init c ys free t (Values es) w (e, is, h) = (e, is, (h.0, wide_expr c ys e w h.1))
wide_init c ys free t (Called call) w (h, result) = (wide_call c ys call w h, result)

wide_index : (c : Scope) (ys : List ℕ) (e : Option TExpr) (prop : Option PropId) → Within c.locals ys → FitsIndex c e prop → FitsIndex (with_scope_locals c ys) e prop
wide_index c ys None prop w h = h
wide_index c ys (Some e) prop w (h, p) = (wide_expr c ys e w h, p)

wide_target : (c : Scope) (ys : List ℕ) (target : TTarget) → Within c.locals ys → FitsTarget c target → FitsTarget (with_scope_locals c ys) target
wide_target c ys target w h = record { object = wide_object c ys target.slot _ w h.object; stored = h.stored; index = wide_index c ys target.index target.bounds w h.index }

wide_update : (c : Scope) (ys : List ℕ) (u : TUpdate) → Within c.locals ys → FitsUpdate c u → FitsUpdate (with_scope_locals c ys) u
wide_update c ys u w h = record { updates = h.updates; operator = h.operator; right = wide_option c ys u.right w h.right }

wide_elements : (c : Scope) (ys : List ℕ) (t : IntType) (n : ℕ) (init : TInit) → Within c.locals ys → FitsElements c t n init → FitsElements (with_scope_locals c ys) t n init
wide_elements c ys t n Free w h = h
wide_elements c ys t n (Values es) w h = (h.0, All-weaker (FitsAs c t) (FitsAs (with_scope_locals c ys) t) (λ e q. (q.0, wide_expr c ys e w q.1)) es h.1)
wide_elements c ys t n (Called call) w h = h

wide_object_init : (c : Scope) (ys : List ℕ) (t : IntType) (n : ℕ) (init : TInit) → Within c.locals ys → FitsObject c t n init → FitsObject (with_scope_locals c ys) t n init
wide_object_init c ys t zero init w h = wide_init c ys _ t init w h
wide_object_init c ys t (suc n) init w h = wide_elements c ys t (suc n) init w h

wide_return : (c : Scope) (ys : List ℕ) (t : Option IntType) (init : Option TInit) → Within c.locals ys → FitsReturn c t init → FitsReturn (with_scope_locals c ys) t init
wide_return c ys None init w h = h
wide_return c ys (Some t) None w h = h
wide_return c ys (Some t) (Some init) w h = wide_init c ys _ t init w h

mutual
  pub wide_stmt : (c : Scope) (ys : List ℕ) (node : SNode) → Within c.locals ys → FitsStmt c node → FitsStmt (with_scope_locals c ys) node
  wide_stmt c ys (Block' _ row) w h = wide_items c ys row w h
  wide_stmt c ys (Declare x init) w (v, found, h) = (v, found, wide_object_init c ys v.ty v.length init w h)
  wide_stmt c ys (Store target init) w h = (wide_target c ys target w h.0, wide_init c ys _ (slot_type c.program target.slot) init w h.1)
  wide_stmt c ys (Update target u) w h = (wide_target c ys target w h.0, wide_update c ys u w h.1)
  wide_stmt c ys (Call call) w h = wide_call c ys call w h
  wide_stmt c ys (If' e _ (more_of-TStmt q a _) other) w h = (wide_expr c ys e w h.0, wide_stmt c ys a w h.1, wide_other c ys other w h.2)
  wide_stmt c ys (Loop loop) w h = wide_loop c ys loop w h
  wide_stmt c ys (Switch' e _ groups) w (h, promoted, all, distinct) = (wide_expr c ys e w h, promoted, wide_groups (in_a_switch c) ys e.ty groups w all, distinct)
  wide_stmt c ys Break w h = h
  wide_stmt c ys Continue w h = h
  wide_stmt c ys (Return init) w (fn, found, h) = (fn, found, wide_return c ys fn.result init w h)
  wide_stmt c ys (Assert e prop) w (h, p) = (wide_expr c ys e w h, p)
  wide_stmt c ys (Assume e) w h = wide_expr c ys e w h
  wide_stmt c ys SetInputs w h = h
  wide_stmt c ys (NextFrame prop) w h = h

  wide_items : {m : _} (c : Scope) (ys : List ℕ) (row : Row_of-TStmt m) → Within c.locals ys → FitsRow c row → FitsRow (with_scope_locals c ys) row
  wide_items c ys end_of-TStmt w h = tt
  wide_items c ys (more_of-TStmt p a rest) w h =
      (wide_stmt c ys a w h.0, wide_items (with_scope_locals c (declared_behind a c.locals)) (declared_behind a ys) rest (within_behind a c.locals ys w) h.1)

  wide_other : (c : Scope) (ys : List ℕ) (other : Held-SNode-If-2) → Within c.locals ys → FitsOther c other → FitsOther (with_scope_locals c ys) other
  wide_other c ys None' w h = tt
  wide_other c ys (Some' _ (more_of-TStmt p a _)) w h = wide_stmt c ys a w h

  wide_step : (c : Scope) (ys : List ℕ) (step : Held-SNode-If-2) → Within c.locals ys → FitsStep c step → FitsStep (with_scope_locals c ys) step
  wide_step c ys None' w h = tt
  wide_step c ys (Some' _ (more_of-TStmt p a _)) w h = (h.0, wide_stmt c ys a w h.1)

  wide_loop : (c : Scope) (ys : List ℕ) (loop : TLoop) → Within c.locals ys → FitsLoop c loop → FitsLoop (with_scope_locals c ys) loop
  wide_loop c ys (TLoop' tests _ heads cond step _ (more_of-TStmt p body _) prop) w (first, shape, test, last, turn, unwind) =
      let inner = in_a_loop (with_scope_locals c (behind_row heads c.locals)) in
      let zs = behind_row heads ys in
      let more = within_row heads c.locals ys w in
      (wide_items c ys heads w first, shape, wide_option inner zs cond more test, wide_step inner zs step more last, wide_stmt inner zs body more turn, unwind)

  wide_groups : {m : _} (c : Scope) (ys : List ℕ) (t : IntType) (row : Row_of-Group m) → Within c.locals ys → FitsGroups c t row → FitsGroups (with_scope_locals c ys) t row
  wide_groups c ys t end_of-Group w h = tt
  wide_groups c ys t (more_of-Group g rest) w h = (wide_group c ys t g w h.0, wide_groups c ys t rest w h.1)

  wide_group : (c : Scope) (ys : List ℕ) (t : IntType) (g : Group) → Within c.locals ys → FitsGroup c t g → FitsGroup (with_scope_locals c ys) t g
  wide_group c ys t (Group' labels _ row) w h = (h.0, h.1, wide_items c ys row w h.2)
