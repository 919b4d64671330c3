-- How many choices a stretch of a run draws at most, and what follows for stretches one after another.
use Rattle.std.proofs.Common.{ℕ, ◌+◌, ◌≤◌, ◌%◌, ◌^◌, List, [], ◌∷◌, length, arith}
use Rattle.std.specs.Prelude.{ℤ, Option, Some, None, Bool, true, false}
use Rattle.joint_ir.specs.declared.expr.TExpr.{TExpr}
use Rattle.joint_ir.specs.declared.program.PropId.{PropId}
use Rattle.joint_ir.specs.Values.{Answer, Value, Fault, Rows, value_of}
use Rattle.joint_ir.specs.States.{JointState}
use Rattle.joint_ir.specs.Effects.{Effect, Told, drew, Onward, Goes, Stops, TooFew, preceded, then_do, after_turn, after_groups, check_then, with_value, with_values, draw, draw_all}
use Rattle.joint_ir.specs.declared.way.Way.TheVariants.{Next, Breaking, Continuing, Returning}

-- an effect goes on with at least k choices left, or ends the run
abbrev pub Leaves : ℕ → Effect → Type 0
Leaves k (Goes way s told c) = k ≤ length c
Leaves k (Stops o told c) = Unit {0}
Leaves k TooFew = ⊥

-- a stretch draws at most n choices
abbrev pub DrawsAtMost : ℕ → Onward → Type 0
DrawsAtMost n f = (k : ℕ) (s : JointState) (c : List ℕ) → n + k ≤ length c → Leaves k (f s c)

-- a number that a stretch draws at most
pub record Bounded (f : Onward) : Type 0 where
  pub most : ℕ
  pub draws : DrawsAtMost most f

pub fewer : (j k : ℕ) (e : Effect) → j ≤ k → Leaves k e → Leaves j e
fewer j k (Goes way s told c) le h = omega arith
fewer j k (Stops o told c) le h = tt
fewer j k TooFew le h = h

leaves_preceded : (k : ℕ) (told : Told) (e : Effect) → Leaves k e → Leaves k (preceded told e)
leaves_preceded k told (Goes way s more c) h = h
leaves_preceded k told (Stops o more c) h = tt
leaves_preceded k told TooFew h = h

-- what goes on after an effect that leaves j choices
pub then_leaves : (i j : ℕ) (e : Effect) (go : Onward) → i ≤ j → Leaves j e →
    ((s : JointState) (c : List ℕ) → j ≤ length c → Leaves i (go s c)) → Leaves i (then_do e go)
then_leaves i j (Goes Next s told c) go le h next = leaves_preceded i told (go s c) (next s c h)
then_leaves i j (Goes Breaking s told c) go le h next = omega arith
then_leaves i j (Goes Continuing s told c) go le h next = omega arith
then_leaves i j (Goes Returning s told c) go le h next = omega arith
then_leaves i j (Stops o told c) go le h next = tt
then_leaves i j TooFew go le h next = h

pub turn_leaves : (i j : ℕ) (e : Effect) (go : Onward) → i ≤ j → Leaves j e →
    ((s : JointState) (c : List ℕ) → j ≤ length c → Leaves i (go s c)) → Leaves i (after_turn e go)
turn_leaves i j (Goes Next s told c) go le h next = leaves_preceded i told (go s c) (next s c h)
turn_leaves i j (Goes Continuing s told c) go le h next = leaves_preceded i told (go s c) (next s c h)
turn_leaves i j (Goes Breaking s told c) go le h next = omega arith
turn_leaves i j (Goes Returning s told c) go le h next = omega arith
turn_leaves i j (Stops o told c) go le h next = tt
turn_leaves i j TooFew go le h next = h

pub groups_leave : (k : ℕ) (e : Effect) → Leaves k e → Leaves k (after_groups e)
groups_leave k (Goes Next s told c) h = h
groups_leave k (Goes Breaking s told c) h = h
groups_leave k (Goes Continuing s told c) h = h
groups_leave k (Goes Returning s told c) h = h
groups_leave k (Stops o told c) h = tt
groups_leave k TooFew h = h

pub check_leaves : (k : ℕ) (p : Option PropId) (test : Bool) (c : List ℕ) (e : Effect) → Leaves k e → Leaves k (check_then p test c e)
check_leaves k None test c e h = h
check_leaves k (Some p) true c e h = h
check_leaves k (Some p) false c e h = tt

pub value_leaves : (k : ℕ) (a : Answer) (c : List ℕ) (go : ℤ → Effect) → ((n : ℤ) → Leaves k (go n)) → Leaves k (with_value a c go)
value_leaves k (Value n) c go h = h n
value_leaves k (Fault p) c go h = tt

pub values_leave : (k : ℕ) (rows : Rows) (es : List TExpr) (c : List ℕ) (go : List ℤ → Effect) → ((ns : List ℤ) → Leaves k (go ns)) →
    Leaves k (with_values rows es c go)
values_leave k rows [] c go h = h []
values_leave k rows (e ∷ es) c go h =
    value_leaves k (value_of rows e) c (λ n. with_values rows es c (λ ns. go (n ∷ ns))) (λ n. values_leave k rows es c (λ ns. go (n ∷ ns)) (λ ns. h (n ∷ ns)))

pub draw_leaves : (i j bits : ℕ) (c : List ℕ) (go : ℕ → List ℕ → Effect) → 1 + j ≤ length c →
    ((n : ℕ) (rest : List ℕ) → j ≤ length rest → Leaves i (go n rest)) → Leaves i (draw bits c go)
draw_leaves i j bits [] go le next = absurd (omega arith)
draw_leaves i j bits (n ∷ c) go le next = leaves_preceded i (drew bits) (go (n % 2 ^ bits) c) (next (n % 2 ^ bits) c (omega arith))

pub draws_leave : (i j : ℕ) (widths c : List ℕ) (go : List ℕ → List ℕ → Effect) → length widths + j ≤ length c →
    ((ns rest : List ℕ) → j ≤ length rest → Leaves i (go ns rest)) → Leaves i (draw_all widths c go)
draws_leave i j [] c go le next = next [] c (omega arith)
draws_leave i j (bits ∷ widths) c go le next =
    draw_leaves i (length widths + j) bits c (λ n rest. draw_all widths rest (λ ns. go (n ∷ ns))) (omega arith)
    (λ n rest le'. draws_leave i j widths rest (λ ns. go (n ∷ ns)) le' (λ ns. next (n ∷ ns)))

-- stretches one after another
pub then_draws : (m n : ℕ) (f g : Onward) → DrawsAtMost m f → DrawsAtMost n g → DrawsAtMost (m + n) (λ s c. then_do (f s c) g)
then_draws m n f g x y = λ k s c le. then_leaves k (n + k) (f s c) g (omega arith) (x (n + k) s c (omega arith)) (y k)

pub bounded_then : (f g : Onward) → Bounded f → Bounded g → Bounded (λ s c. then_do (f s c) g)
bounded_then f g x y = record { most = x.most + y.most; draws = then_draws x.most y.most f g x.draws y.draws }
