-- The definitions on worked programs: each equation holds by computing.
use Rattle.std.specs.Prelude.{◌≡◌, ◌+◌, ◌*◌, ℕ, List, [], ◌∷◌, Some, None, true, false, refl}
use Rattle.std.specs.Prelude.{pos, negsuc}
use Rattle.bits_core.specs.Word.{word}
use Rattle.bits_core.specs.declared.op.Op2.TheVariants.{Add as Plus}
use Rattle.word_eqs.specs.declared.term.TermNode.TheVariants as term
use denote.Hole.Carrier.{hidden}
use Rattle.joint_ir.specs.declared.expr.TNode.TheBlock.{hidden-the_row-TExpr-0}
use Rattle.joint_ir.specs.declared.stmt.SNode.TheBlock.{hidden-the_row-TStmt-0}
use Rattle.src_text.specs.declared.refusal.Place.{Place}
use Rattle.joint_ir.specs.declared.bounds.Bounds.{Bounds}
use Rattle.joint_ir.specs.declared.ctype.IntType.{IntType}
use Rattle.joint_ir.specs.declared.event.Event.TheVariants.{Frame, Stored, Broke}
use Rattle.joint_ir.specs.declared.event.Outcome.TheVariants.{Ended, OutOfFrames, Broken}
use Rattle.joint_ir.specs.declared.expr.BinaryOp.TheVariants as binary
use Rattle.joint_ir.specs.declared.expr.Slot.TheVariants.{Local, Member}
use Rattle.joint_ir.specs.declared.expr.TExpr.{TExpr}
use Rattle.joint_ir.specs.declared.expr.TNode.{TNode, Const, Read, Binary, Convert}
use Rattle.joint_ir.specs.declared.module.FlatModule.{FlatModule}
use Rattle.joint_ir.specs.declared.module.Role.TheVariants.{Clock, Register}
use Rattle.joint_ir.specs.declared.pair.Pair.{Pair}
use Rattle.joint_ir.specs.declared.program.PropId.{PropId}
use Rattle.joint_ir.specs.declared.program.PropKind.TheVariants as kind
use Rattle.joint_ir.specs.declared.program.Var.{Var}
use Rattle.joint_ir.specs.declared.stmt.SNode.{SNode, Block, Declare, Store, Loop, Assert, NextFrame, end_of-TStmt, more_of-TStmt, Some'}
use Rattle.joint_ir.specs.declared.stmt.TInit.TheVariants.{Free, Values}
use Rattle.joint_ir.specs.declared.stmt.TLoop.{TLoop'}
use Rattle.joint_ir.specs.declared.stmt.TStmt.{TStmt}
use Rattle.joint_ir.specs.declared.stmt.TTarget.{TTarget}
use Rattle.joint_ir.specs.declared.event.Event.{Event}
use Rattle.joint_ir.specs.Types.{int, converted}
use Rattle.joint_ir.specs.Values.{Value, Fault, binary_value}
use Rattle.joint_ir.specs.Effects.{Told, Stops}
use Rattle.joint_ir.specs.Machine.{Over, IsBroken, steps, first_configuration}
use Rattle.joint_ir.specs.Runs.{run_of}
use Rattle.joint_ir.specs.Weights.{weight_of}

abbrev byte : IntType
byte = record { bits = 8; signed = false; truth = false }

abbrev bool : IntType
bool = record { bits = 1; signed = false; truth = true }

abbrev p0 : PropId
p0 = record { 0 = 0 }

abbrev p1 : PropId
p1 = record { 0 = 1 }

-- conversion keeps the low bits, and to `_Bool` gives 1 for what isn't 0
converts_down : converted byte (pos 511) ≡ pos 255
converts_down = refl

converts_signed : converted int (pos 2147483648) ≡ negsuc 2147483647
converts_signed = refl

converts_truth : converted bool (pos 256) ≡ pos 1
converts_truth = refl

-- signed sums break `overflow`, `1 << 32` breaks `shift`, and so do the others of their kinds
sum_breaks : binary_value binary.Add int None (Some p0) (pos 2147483647) (pos 1) ≡ Fault p0
sum_breaks = refl

shift_breaks : binary_value binary.Shl int None (Some p0) (pos 1) (pos 32) ≡ Fault p0
shift_breaks = refl

division_breaks_first : binary_value binary.Div int (Some p0) (Some p1) (negsuc 2147483647) (pos 0) ≡ Fault p0
division_breaks_first = refl

quotient_breaks : binary_value binary.Rem int (Some p0) (Some p1) (negsuc 2147483647) (negsuc 0) ≡ Fault p1
quotient_breaks = refl

remainder_is_signed : binary_value binary.Rem int None None (negsuc 6) (pos 4) ≡ Value (negsuc 2)
remainder_is_signed = refl

shifts_down : binary_value binary.Shr int None None (negsuc 6) (pos 1) ≡ Value (negsuc 3)
shifts_down = refl

flips_bits : binary_value binary.Xor int None None (negsuc 0) (pos 1) ≡ Value (negsuc 1)
flips_bits = refl

abbrev here : Place
here = record { line = 1; column = 1 }

abbrev expr : IntType → TNode → TExpr
expr ty node = record { ty = ty; place = here; node = node }

abbrev stmt : SNode → TStmt
stmt node = record { place = here; node = node }

abbrev number : ℕ → TExpr
number n = expr int (Const (pos n))

abbrev local : ℕ → TExpr
local x = expr int (Read (Local x))

abbrev int_var : Var
int_var = record { name = []; ty = int; length = 0; firsts = []; constant = false }

-- `counter.v`: a register of 8 bits that begins at 0 and counts the edges
abbrev counter : FlatModule
counter = record {
  top = [];
  instances = [];
  signals = (record { path = []; bits = 1; signed = false; low = 0; words = 0; role = Clock })
      ∷ (record { path = []; bits = 8; signed = false; low = 0; words = 0; role = Register }) ∷ [];
  firsts = Some 0 ∷ [];
  settle_terms = record { vars = 8 ∷ []; terms = [] };
  settled = [];
  edge_terms = record {
    vars = 8 ∷ [];
    terms = (record { node = term.Var (record { 0 = 0 }); width = 8 })
        ∷ (record { node = term.Const (word 8 1); width = 8 })
        ∷ (record { node = term.Two Plus (record { 0 = 0 }) (record { 0 = 1 }); width = 8 }) ∷ [];
  };
  next = (record { 0 = 2 }) ∷ [];
  settle_weight = 0;
  edge_weight = 0;
  settle_sites = [];
  edge_sites = [];
}

abbrev pair_of : List Var → List SNode → Pair
pair_of locals body = record {
  program = record {
    functions = (record { name = []; result = Some int; first = 0; params = 0; body = Some (stmt (Block (stmts body))) }) ∷ [];
    globals = [];
    locals = locals;
    mirror = None;
    props = (record { function = []; kind = kind.Recursion; number = 1; line = 1 }) ∷ [];
    main = 0;
  };
  «module» = counter;
  binding = record { links = [] };
}
  where
    stmts : List SNode → List TStmt
    stmts [] = []
    stmts (s ∷ rest) = stmt s ∷ stmts rest

abbrev bounds_of : (turns frames : ℕ) → Bounds
bounds_of turns frames = record { unwind = turns; limits = []; frames = frames; check_bound = false }

-- `int s = 0; for (int i = 0; i < 3; i = i + 1) s = s + i; assert(s == 3);`
abbrev summing : Pair
summing = pair_of (int_var ∷ int_var ∷ [])
    (Declare 0 (Values (number 0 ∷ []))
    ∷ Loop (TLoop' true (tt ∷ []) (more_of-TStmt here (Declare 1 (Values (number 0 ∷ []))) end_of-TStmt)
    (Some (expr int (Binary binary.Lt (local 1) (number 3) None None)))
    (Some' _ (more_of-TStmt here (Store (target 1) (Values (expr int (Binary binary.Add (local 1) (number 1) None (Some p0)) ∷ []))) end_of-TStmt))
    _ (more_of-TStmt here (Store (target 0) (Values (expr int (Binary binary.Add (local 0) (local 1) None (Some p0)) ∷ []))) end_of-TStmt)
    p1)
    ∷ Assert (expr int (Binary binary.Eq (local 0) (number 3) None None)) (record { 0 = 2 }) ∷ [])
  where
    target : ℕ → TTarget
    target x = record { place = here; slot = Local x; index = None; bounds = None }

abbrev set : (x n : ℕ) → Event
set x n = Stored 1 (Local x) None (pos n)

abbrev first_frame : Event
first_frame = Frame 0 ((record { signal = 1; word = 0; value = 0 }) ∷ [])

-- a run that draws nothing
abbrev only_seen : List Event → Told
only_seen events = record { events = events; widths = [] }

abbrev two_turns : List Event → List Event
two_turns rest = first_frame ∷ set 0 0 ∷ set 1 0 ∷ set 0 0 ∷ set 1 1 ∷ set 0 1 ∷ set 1 2 ∷ rest

three_turns_end : run_of summing (bounds_of 3 10) [] ≡ Stops Ended (only_seen (two_turns (set 0 3 ∷ set 1 3 ∷ []))) []
unfolding hidden-the_row-TStmt-0 hidden-the_row-TExpr-0 hidden
three_turns_end = refl

a_third_turn_breaks : run_of summing (bounds_of 2 10) [] ≡ Stops (Broken p1) (only_seen (two_turns (Broke p1 ∷ []))) []
unfolding hidden-the_row-TStmt-0 hidden-the_row-TExpr-0 hidden
a_third_turn_breaks = refl

abbrev byte_var : Var
byte_var = record { name = []; ty = byte; length = 0; firsts = []; constant = false }

-- `unsigned char a[2]; int x;`
abbrev open_objects : Pair
open_objects = pair_of (record byte_var { length = 2 } ∷ int_var ∷ []) (Declare 0 Free ∷ Declare 1 Free ∷ [])

-- an element at a time, each choice modulo 2^8 and then modulo 2^32
three_draws : run_of open_objects (bounds_of 1 1) (300 ∷ 7 ∷ 4294967295 ∷ 5 ∷ [])
    ≡ Stops Ended (record {
      events = first_frame ∷ Stored 1 (Local 0) (Some 0) (pos 44) ∷ Stored 1 (Local 0) (Some 1) (pos 7) ∷ Stored 1 (Local 1) None (negsuc 0) ∷ [];
      widths = 8 ∷ 8 ∷ 32 ∷ [];
    }) (5 ∷ [])
unfolding hidden-the_row-TStmt-0 hidden-the_row-TExpr-0 hidden
three_draws = refl

-- the mirror of `counter.v`, with a member of 8 bits
abbrev mirrored : List SNode → Pair
mirrored body =
    let plain = pair_of [] body in
    record {
      program = record {
        functions = plain.program.functions;
        globals = [];
        locals = [];
        mirror = Some (record {
          name = [];
          place = here;
          members = (record { path = []; place = here; ty = Some byte; length = 0 }) ∷ [];
        });
        props = plain.program.props;
        main = 0;
      };
      «module» = counter;
      binding = record { links = (record { member = 0; signal = 1 }) ∷ [] };
    }

abbrev count_is : ℕ → SNode
count_is n = Assert (expr int (Binary binary.Eq (expr int (Convert (expr byte (Read (Member 0))))) (number n) None None)) p1

-- `next_timeframe(); next_timeframe(); assert(counter.count == n);`
abbrev counting : ℕ → Pair
counting n = mirrored (NextFrame p0 ∷ NextFrame p0 ∷ count_is n ∷ [])

abbrev frame : ℕ → Event
frame n = Frame n ((record { signal = 1; word = 0; value = n }) ∷ [])

two_edges_count_to_two : run_of (counting 2) (bounds_of 1 2) [] ≡ Stops Ended (only_seen (frame 0 ∷ frame 1 ∷ frame 2 ∷ [])) []
unfolding hidden-the_row-TStmt-0 hidden-the_row-TExpr-0 hidden
two_edges_count_to_two = refl

and_not_to_three : run_of (counting 3) (bounds_of 1 2) [] ≡ Stops (Broken p1) (only_seen (frame 0 ∷ frame 1 ∷ frame 2 ∷ Broke p1 ∷ [])) []
unfolding hidden-the_row-TStmt-0 hidden-the_row-TExpr-0 hidden
and_not_to_three = refl

the_frames_end : run_of (counting 3) (bounds_of 1 1) [] ≡ Stops OutOfFrames (only_seen (frame 0 ∷ frame 1 ∷ [])) []
unfolding hidden-the_row-TStmt-0 hidden-the_row-TExpr-0 hidden
the_frames_end = refl

-- the machine without limits makes all turns, and fails where the run breaks
all_turns_end : steps summing (bounds_of 0 10) 40 (first_configuration summing []) ≡ Over
unfolding hidden-the_row-TStmt-0 hidden-the_row-TExpr-0 hidden
all_turns_end = refl

the_assertion_fails : steps (counting 3) (bounds_of 0 2) 4 (first_configuration (counting 3) []) ≡ IsBroken p1
unfolding hidden-the_row-TStmt-0 hidden-the_row-TExpr-0 hidden
the_assertion_fails = refl

-- 64, 8 bits of a register, 8 of the mirror, two frames of 304, and an assertion: its conversion 8, its constant 4,
-- its comparison 132, the result's 32 bits and 16; and 16 of the block
a_weight : weight_of (counting 2) (bounds_of 1 2) ≡ 64 + 8 + 8 + 2 * 304 + (8 + 4 + 132 + 32 + 16) + 16
unfolding hidden-the_row-TStmt-0 hidden-the_row-TExpr-0 hidden
a_weight = refl
