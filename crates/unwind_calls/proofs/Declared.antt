-- The locals that a body declares are there, and so are all places of its function's own.
use Rattle.std.proofs.Common.{◌≡◌, ℕ, zero, suc, ◌+◌, ◌<◌, ◌≤◌, List, [], ◌∷◌, length, max, arith}
use Rattle.std.specs.Prelude.{All, slice_get, Some}
use Rattle.std.proofs.lemmas.List.Elements.{All-nil, All-cons, All-append, All-head, All-tail}
use Rattle.joint_ir.specs.declared.ctype.IntType.{IntType}
use Rattle.joint_ir.specs.declared.program.CProgram.{CProgram}
use Rattle.joint_ir.specs.declared.program.Function.{Function}
use Rattle.joint_ir.specs.declared.stmt.Group.{Group, Group'}
use Rattle.joint_ir.specs.declared.stmt.SNode.{SNode, Block', Declare, Store, Update, Call, If', Loop, Switch', Break, Continue, Return, Assert, Assume, SetInputs, NextFrame, Row_of-TStmt, end_of-TStmt, more_of-TStmt, Row_of-Group, end_of-Group, more_of-Group, Held-SNode-If-2, None', Some'}
use Rattle.joint_ir.specs.declared.stmt.TLoop.{TLoop, TLoop'}
use Rattle.joint_ir.specs.declared.stmt.TStmt.{TStmt}
use Rattle.joint_ir.specs.WellFormed.{Scope, FitsStmt, FitsRow, FitsOther, FitsLoop, FitsGroups, FitsGroup, FitsBody, with_scope_locals, in_a_loop, in_a_switch, declared_behind, behind_row, declared_in, declared_in_row, declared_in_other, declared_in_loop, declared_in_groups, declared_in_group, scope_of}
use Rattle.joint_lists.specs.Own.{behind_all, own_end}

-- a place of a program's locals
abbrev IsLocal : CProgram → ℕ → Type 0
IsLocal p x = x < length p.locals

slice_there : {A : Type 0} (xs : List A) (i : ℕ) (x : A) → slice_get xs i ≡ Some x → i < length xs
slice_there [] i x e = cc
slice_there (y ∷ xs) zero x e = omega arith
slice_there (y ∷ xs) (suc i) x e = let h : i < length xs = slice_there xs i x e in omega (arith, h)

mutual
  stmt_locals : (c : Scope) (node : SNode) → FitsStmt c node → All (IsLocal c.program) (declared_in node)
  stmt_locals c (Block' _ row) h = row_locals c row h
  stmt_locals c (Declare x init) (v, found, h) = All-cons (IsLocal c.program) x [] (slice_there c.program.locals x v found) (All-nil (IsLocal c.program))
  stmt_locals c (Store target init) h = All-nil (IsLocal c.program)
  stmt_locals c (Update target u) h = All-nil (IsLocal c.program)
  stmt_locals c (Call call) h = All-nil (IsLocal c.program)
  stmt_locals c (If' e _ (more_of-TStmt q a _) other) h = All-append (IsLocal c.program) (declared_in a) (declared_in_other other) (stmt_locals c a h.1) (other_locals c other h.2)
  stmt_locals c (Loop loop) h = loop_locals c loop h
  stmt_locals c (Switch' e _ groups) h = groups_locals (in_a_switch c) e.ty groups h.2
  stmt_locals c Break h = All-nil (IsLocal c.program)
  stmt_locals c Continue h = All-nil (IsLocal c.program)
  stmt_locals c (Return init) h = All-nil (IsLocal c.program)
  stmt_locals c (Assert e prop) h = All-nil (IsLocal c.program)
  stmt_locals c (Assume e) h = All-nil (IsLocal c.program)
  stmt_locals c SetInputs h = All-nil (IsLocal c.program)
  stmt_locals c (NextFrame prop) h = All-nil (IsLocal c.program)

  row_locals : {m : _} (c : Scope) (row : Row_of-TStmt m) → FitsRow c row → All (IsLocal c.program) (declared_in_row row)
  row_locals c end_of-TStmt h = All-nil (IsLocal c.program)
  row_locals c (more_of-TStmt p a rest) h = All-append (IsLocal c.program) (declared_in a) (declared_in_row rest) (stmt_locals c a h.0) (row_locals (with_scope_locals c (declared_behind a c.locals)) rest h.1)

  other_locals : (c : Scope) (other : Held-SNode-If-2) → FitsOther c other → All (IsLocal c.program) (declared_in_other other)
  other_locals c None' h = All-nil (IsLocal c.program)
  other_locals c (Some' _ (more_of-TStmt p a _)) h = stmt_locals c a h

  loop_locals : (c : Scope) (loop : TLoop) → FitsLoop c loop → All (IsLocal c.program) (declared_in_loop loop)
  loop_locals c (TLoop' tests _ heads cond step _ (more_of-TStmt p body _) prop) h =
      All-append (IsLocal c.program) (declared_in_row heads) (declared_in body) (row_locals c heads h.0) (stmt_locals (in_a_loop (with_scope_locals c (behind_row heads c.locals))) body h.4)

  groups_locals : {m : _} (c : Scope) (t : IntType) (row : Row_of-Group m) → FitsGroups c t row → All (IsLocal c.program) (declared_in_groups row)
  groups_locals c t end_of-Group h = All-nil (IsLocal c.program)
  groups_locals c t (more_of-Group g rest) h = All-append (IsLocal c.program) (declared_in_group g) (declared_in_groups rest) (group_locals c t g h.0) (groups_locals c t rest h.1)

  group_locals : (c : Scope) (t : IntType) (g : Group) → FitsGroup c t g → All (IsLocal c.program) (declared_in_group g)
  group_locals c t (Group' labels _ row) h = row_locals c row h.2

behind_within : (p : CProgram) (n : ℕ) (xs : List ℕ) → n ≤ length p.locals → All (IsLocal p) xs → behind_all n xs ≤ length p.locals
behind_within p n [] le h = le
behind_within p n (x ∷ xs) le h =
    let lt : x < length p.locals = All-head (IsLocal p) x xs h in
    behind_within p (max n (suc x)) xs (both n (suc x) le (omega (arith, lt))) (All-tail (IsLocal p) x xs h)
  where
    both : (a b : ℕ) → a ≤ length p.locals → b ≤ length p.locals → max a b ≤ length p.locals
    both a b la lb = omega (arith, la, lb)

-- a function's own objects stand among the program's locals
pub own_within : (p : CProgram) (f : ℕ) (fn : Function) (body : TStmt) → FitsBody p f fn (Some body) → own_end fn body ≤ length p.locals
own_within p f fn body fits = behind_within p (fn.first + fn.params) (declared_in body.node) fits.0 (stmt_locals (scope_of p f fn) body.node fits.2)
