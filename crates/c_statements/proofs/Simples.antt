-- Calls, initializers and assignments, part after part.
use Rattle.std.proofs.Common.{◌≡◌, ℕ, ◌+◌, add-zero, List, [], ◌++◌, length, true, sym, ap, subst, ◌∙◌}
use Rattle.std.specs.Prelude.{Option, Some, None}
use Rattle.src_text.specs.declared.refusal.Place.{Place}
use Rattle.c_tree.specs.declared.declarations.Initializer.{Initializer}
use Rattle.c_tree.specs.declared.declarations.Initializer.TheVariants as initializer
use Rattle.c_tree.specs.declared.expressions.AssignmentMark.{AssignmentMark}
use Rattle.c_tree.specs.declared.expressions.Call.{Call}
use Rattle.c_tree.specs.declared.expressions.StepMark.{StepMark}
use Rattle.c_tree.specs.declared.expressions.Object.{Object}
use Rattle.c_tree.specs.declared.expressions.Expression.{Expression}
use Rattle.c_tree.specs.declared.expressions.Expression.TheBlock.{hidden-the_row-Expression-0}
use Rattle.c_tree.specs.declared.expressions.Path.{Path}
use Rattle.c_tree.specs.declared.expressions.Path as path
use Rattle.c_tree.specs.declared.statements.Simple.TheVariants as simple
use denote.Hole.Carrier.{hidden}
use Rattle.joint_ir.specs.declared.ctype.IntType.{IntType}
use Rattle.joint_ir.specs.declared.expr.BinaryOp.{BinaryOp}
use Rattle.joint_ir.specs.declared.expr.Slot.{Slot}
use Rattle.joint_ir.specs.declared.expr.TExpr.{TExpr}
use Rattle.joint_ir.specs.declared.stmt.SNode.{SNode, Store, Update}
use Rattle.joint_ir.specs.declared.stmt.TInit.{TInit}
use Rattle.joint_ir.specs.declared.stmt.TTarget.{TTarget}
use Rattle.joint_ir.specs.declared.stmt.TUpdate.{TUpdate}
use Rattle.joint_ir.specs.Types.{int}
use Rattle.c_words.specs.Types.{common}
use Rattle.c_words.specs.declared.notes.Notes.{Notes}
use Rattle.offence_order.specs.declared.Offence.{Offence}
use Rattle.c_words.specs.Notes.{noted}
use Rattle.c_words.specs.Marks.{number_of, update_op}
use Rattle.c_names.specs.declared.paths.Found.{Found}
use Rattle.c_names.specs.Scope.{Scope}
use Rattle.c_names.specs.Paths.{found}
use Rattle.c_expressions.specs.Expressions.{type_found, path_type, path_sites, type_of, typed_of, offences_in, sites_in, bounds_site, operator_sites, converted_to}
use Rattle.c_expressions.specs.Steps.{IsTyped}
use Rattle.c_expressions.proofs.Noting.{noted_then, noted_sites, sites_after}
use Rattle.c_expressions.proofs.Cases.{its_type}
use Rattle.c_statements.specs.declared.calls.Callee.{Callee}
use Rattle.c_statements.specs.declared.calls.Signature.{Signature}
use Rattle.c_statements.specs.declared.simple.Aim.{Aim}
use Rattle.c_statements.specs.Calls.{callee, params_of, args_typed, args_offences, args_sites, callee_offences, void_offences, call_offences, call_args, called, init_typed, init_offences, init_sites}
use Rattle.c_statements.specs.Simple.{store_offences, slot_found, element_target, target_typed, target_offences, frame_sites, call_node, step_op, updated, update_type, amount_type}
use Rattle.c_statements.specs.Steps.{AreArgs, IsCall, IsInit, IsAim, IsSimple, IsUpdated, IsUpdate, IsStep}

same_base : (old mid : Notes) (o : List Offence) → mid ≡ noted old o [] → length mid.sites ≡ length old.sites
same_base old mid o h = sites_after old mid o [] h ∙ add-zero (length old.sites)

pub call_case : (fns : List Signature) (env : List Scope) (old mid new : Notes) (call : Call) (at : Callee) (given : ℕ) (params : List IntType) (args : List Expression) (ts : List TExpr) →
    at ≡ callee env call → given ≡ length call.arguments → params ≡ params_of fns at → args ≡ call.arguments →
    mid ≡ noted old (callee_offences fns call.name.place given at) [] → AreArgs env mid new params args ts → IsCall fns env old new call ts
call_case fns env old mid new call at given params args ts is_at is_given is_params is_args n h = record {
  typed =
      h.typed
      ∙ ap (λ b. args_typed env b params 0 args) (same_base old mid (callee_offences fns call.name.place given at) n)
      ∙ ap (λ ps. args_typed env (length old.sites) ps 0 args) (is_params ∙ ap (params_of fns) is_at)
      ∙ ap (args_typed env (length old.sites) (params_of fns (callee env call)) 0) is_args;
  notes =
      noted_then old mid new (callee_offences fns call.name.place given at) (args_offences env args) [] (args_sites env args) n h.notes
      ∙ ap (λ z. noted old (callee_offences fns call.name.place z at ++ args_offences env args) (args_sites env args)) is_given
      ∙ ap (λ z. noted old (callee_offences fns call.name.place (length call.arguments) z ++ args_offences env args) (args_sites env args)) is_at
      ∙ ap (λ z. noted old (callee_offences fns call.name.place (length call.arguments) (callee env call) ++ args_offences env z) (args_sites env z)) is_args;
}

pub called_case : (fns : List Signature) (env : List Scope) (old mid new : Notes) (t : IntType) (i : Initializer) (call : Call) (at : Callee) (ts : List TExpr) (x : TInit) →
    i ≡ initializer.Called call → at ≡ callee env call → mid ≡ noted old (void_offences fns call.name.place at) [] → IsCall fns env mid new call ts → x ≡ called call.name.place at ts →
    IsInit fns env old new t i x
called_case fns env old mid new t i call at ts x is is_at n h is_x = record {
  typed =
      is_x
      ∙ ap (λ z. called call.name.place z ts) is_at
      ∙ ap (called call.name.place (callee env call)) (h.typed ∙ ap (λ b. call_args fns env b call) (same_base old mid (void_offences fns call.name.place at) n))
      ∙ ap (init_typed fns env (length old.sites) t) (sym is);
  notes =
      noted_then old mid new (void_offences fns call.name.place at) (call_offences fns env call) [] (args_sites env call.arguments) n h.notes
      ∙ ap (λ z. noted old (void_offences fns call.name.place z ++ call_offences fns env call) (args_sites env call.arguments)) is_at
      ∙ ap (λ z. noted old (init_offences fns env z) (init_sites env z)) (sym is);
}

pub alone_case : (fns : List Signature) (env : List Scope) (old mid new : Notes) (call : Call) (at : Callee) (ts : List TExpr) (x : SNode) →
    at ≡ callee env call → IsCall fns env old mid call ts → x ≡ call_node call.name.place at (length mid.sites) ts → new ≡ noted mid [] (frame_sites call.name.place at) →
    IsSimple fns env old new (simple.Called call) x
alone_case fns env old mid new call at ts x is_at h is_x n = record {
  typed =
      is_x
      ∙ ap (λ z. call_node call.name.place z (length mid.sites) ts) is_at
      ∙ ap (λ b. call_node call.name.place (callee env call) b ts) (sites_after old mid (call_offences fns env call) (args_sites env call.arguments) h.notes)
      ∙ ap (call_node call.name.place (callee env call) (length old.sites + length (args_sites env call.arguments))) h.typed;
  notes =
      noted_sites old mid new (call_offences fns env call) (args_sites env call.arguments) (frame_sites call.name.place at) h.notes n
      ∙ ap (λ z. noted old (call_offences fns env call) (args_sites env call.arguments ++ frame_sites call.name.place z)) is_at;
}

pub assign_case : (fns : List Signature) (env : List Scope) (old mid new : Notes) (x : Path) (i : Initializer) (a : Aim) (v : TInit) →
    IsAim env old mid x a → IsInit fns env mid new a.ty i v → IsSimple fns env old new (simple.Assign x i) (Store a.target v)
assign_case fns env old mid new x i a v h k = record {
  typed =
      ap (λ t. Store t v) h.target
      ∙ ap (Store (target_typed env (length old.sites) x)) (
      k.typed
      ∙ ap (λ b. init_typed fns env b a.ty i) (sites_after old mid (target_offences env x) (path_sites env x) h.notes)
      ∙ ap (λ t. init_typed fns env (length old.sites + length (path_sites env x)) t i) h.ty);
  notes = noted_then old mid new (target_offences env x) (init_offences fns env i) (path_sites env x) (init_sites env i) h.notes k.notes;
}

pub element_aim : (env : List Scope) (old mid more new : Notes) (x : Path) (o : Object) (p : Place) (a got : Expression) (at : Found) (i held : TExpr) (slot : Slot) (ty : IntType) (id : ℕ) →
    x ≡ path.Element o p a → got ≡ a → at ≡ found env true o → mid ≡ noted old (store_offences o.name.place at) [] → IsTyped env mid more got i → held ≡ i →
    new ≡ noted more [] (bounds_site p) → slot ≡ slot_found at → ty ≡ type_found at → id ≡ number_of (length more.sites) →
    IsAim env old new x (record { target = record { place = o.name.place; slot = slot; index = Some held; bounds = Some (record { 0 = id }) }; ty = ty })
unfolding hidden-the_row-Expression-0 hidden
element_aim env old mid more new x o p a got at i held slot ty id is is_a is_at n h is_held n' is_slot is_ty is_id =
    let k : IsTyped env mid more a i = subst (λ z. IsTyped env mid more z i) is_a h in
    let start : length mid.sites ≡ length old.sites = same_base old mid (store_offences o.name.place at) n in
    let end : length more.sites ≡ length old.sites + length (sites_in env a) = sites_after mid more (offences_in env a) (sites_in env a) k.notes ∙ ap (λ z. z + length (sites_in env a)) start in
    record {
      target =
          made slot (slot_found at) held i id (number_of (length more.sites)) is_slot is_held is_id
          ∙ ap (λ z. element_target o.name.place z i (length more.sites)) is_at
          ∙ ap (element_target o.name.place (found env true o) i) end
          ∙ ap (λ z. element_target o.name.place (found env true o) z (length old.sites + length (sites_in env a))) (k.typed ∙ ap (λ z. typed_of env z a) start)
          ∙ ap (target_typed env (length old.sites)) (sym is);
      ty = is_ty ∙ ap type_found is_at ∙ ap (path_type env) (sym is);
      notes =
          noted_then old mid new (store_offences o.name.place at) (offences_in env a) [] (sites_in env a ++ bounds_site p) n
          (noted_sites mid more new (offences_in env a) (sites_in env a) (bounds_site p) k.notes n')
          ∙ ap (λ z. noted old (store_offences o.name.place z ++ offences_in env a) (sites_in env a ++ bounds_site p)) is_at
          ∙ ap (λ z. noted old (target_offences env z) (path_sites env z)) (sym is);
    }
  where
    made : (s r : Slot) (x y : TExpr) (m l : ℕ) → s ≡ r → x ≡ y → m ≡ l →
        (let t : TTarget = record { place = o.name.place; slot = s; index = Some x; bounds = Some (record { 0 = m }) } in t) ≡ record { place = o.name.place; slot = r; index = Some y; bounds = Some (record { 0 = l }) }
    made s r x y m l f g h = cc

-- what an update's parts note, one after another
pub update_case : (env : List Scope) (old mid more new : Notes) (x : Path) (mark : AssignmentMark) (e : Expression) (a : Aim) (y right : TExpr) (op : BinaryOp) (t to : IntType) (u : TUpdate) →
    IsAim env old mid x a → IsTyped env mid more e y → op ≡ update_op mark.operator → t ≡ update_type op a.ty y.ty → to ≡ amount_type op a.ty y.ty → right ≡ converted_to to y →
    IsUpdated more new op t (Some right) mark.place u → IsUpdate env old new x mark e (Update a.target u)
update_case env old mid more new x mark e a y right op t to u h k is_op is_t is_to is_right j =
    let op' : BinaryOp = update_op mark.operator in
    let ty : y.ty ≡ type_of env e = its_type env mid more e y k in
    let t' : IntType = update_type op' (path_type env x) (type_of env e) in
    let to' : IntType = amount_type op' (path_type env x) (type_of env e) in
    let same_t : t ≡ t' = is_t ∙ ap (λ z. update_type z a.ty y.ty) is_op ∙ ap (λ z. update_type op' z y.ty) h.ty ∙ ap (update_type op' (path_type env x)) ty in
    let same_to : to ≡ to' = is_to ∙ ap (λ z. amount_type z a.ty y.ty) is_op ∙ ap (λ z. amount_type op' z y.ty) h.ty ∙ ap (amount_type op' (path_type env x)) ty in
    let one : length mid.sites ≡ length old.sites + length (path_sites env x) = sites_after old mid (target_offences env x) (path_sites env x) h.notes in
    let two : length more.sites ≡ length old.sites + length (path_sites env x) + length (sites_in env e) =
    sites_after mid more (offences_in env e) (sites_in env e) k.notes ∙ ap (λ z. z + length (sites_in env e)) one in
    let at : ℕ = length old.sites + length (path_sites env x) in
    record {
      typed =
          ap (λ z. Update z u) h.target
          ∙ ap (Update (target_typed env (length old.sites) x)) (
          j.typed
          ∙ ap (λ z. updated z op t (Some right) mark.place) two
          ∙ ap (λ z. updated (at + length (sites_in env e)) z t (Some right) mark.place) is_op
          ∙ ap (λ z. updated (at + length (sites_in env e)) op' z (Some right) mark.place) same_t
          ∙ ap (λ z. updated (at + length (sites_in env e)) op' t' (Some z) mark.place) (
          is_right ∙ ap (λ z. converted_to z y) same_to ∙ ap (converted_to to') (k.typed ∙ ap (λ z. typed_of env z e) one)));
      notes =
          noted_then old mid new (target_offences env x) (offences_in env e) (path_sites env x) (sites_in env e ++ operator_sites op t.signed mark.place) h.notes
          (noted_sites mid more new (offences_in env e) (sites_in env e) (operator_sites op t.signed mark.place) k.notes j.notes)
          ∙ ap (λ z. noted old (target_offences env x ++ offences_in env e) (path_sites env x ++ (sites_in env e ++ operator_sites z t.signed mark.place))) is_op
          ∙ ap (λ (z : IntType). noted old (target_offences env x ++ offences_in env e) (path_sites env x ++ (sites_in env e ++ operator_sites op' z.signed mark.place))) same_t;
    }

pub step_case : (env : List Scope) (old mid new : Notes) (x : Path) (mark : StepMark) (a : Aim) (op : BinaryOp) (t : IntType) (u : TUpdate) →
    IsAim env old mid x a → op ≡ step_op mark.operator → t ≡ common a.ty int → IsUpdated mid new op t None mark.place u → IsStep env old new x mark (Update a.target u)
step_case env old mid new x mark a op t u h is_op is_t j =
    let op' : BinaryOp = step_op mark.operator in
    let t' : IntType = common (path_type env x) int in
    let same_t : t ≡ t' = is_t ∙ ap (λ z. common z int) h.ty in
    let at : length mid.sites ≡ length old.sites + length (path_sites env x) = sites_after old mid (target_offences env x) (path_sites env x) h.notes in
    record {
      typed =
          ap (λ z. Update z u) h.target
          ∙ ap (Update (target_typed env (length old.sites) x)) (
          j.typed
          ∙ ap (λ z. updated z op t None mark.place) at
          ∙ ap (λ z. updated (length old.sites + length (path_sites env x)) z t None mark.place) is_op
          ∙ ap (λ z. updated (length old.sites + length (path_sites env x)) op' z None mark.place) same_t);
      notes =
          noted_sites old mid new (target_offences env x) (path_sites env x) (operator_sites op t.signed mark.place) h.notes j.notes
          ∙ ap (λ z. noted old (target_offences env x) (path_sites env x ++ operator_sites z t.signed mark.place)) is_op
          ∙ ap (λ (z : IntType). noted old (target_offences env x) (path_sites env x ++ operator_sites op' z.signed mark.place)) same_t;
    }
