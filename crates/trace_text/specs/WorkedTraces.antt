-- Traces that were written by hand, byte for byte.
use Rattle.std.specs.Prelude.{◌≡◌, ℕ, pos, true, false, List, [], ◌∷◌, Some, None, codes}
use Rattle.src_text.specs.declared.refusal.Place.{Place}
use Rattle.joint_ir.specs.declared.ctype.IntType.{IntType}
use Rattle.joint_ir.specs.declared.event.Event.TheVariants.{Frame, Driven, Stored, Broke}
use Rattle.joint_ir.specs.declared.event.Shown.{Shown}
use Rattle.joint_ir.specs.declared.expr.Slot.TheVariants.{Global, Local, Member as InMirror}
use Rattle.joint_ir.specs.declared.module.Role.{Role}
use Rattle.joint_ir.specs.declared.module.Role.TheVariants.{Input, Clock, Register}
use Rattle.joint_ir.specs.declared.module.Signal.{Signal}
use Rattle.joint_ir.specs.declared.pair.Pair.{Pair}
use Rattle.joint_ir.specs.declared.program.Member.{Member}
use Rattle.joint_ir.specs.declared.program.Prop.{Prop}
use Rattle.joint_ir.specs.declared.program.PropId.{PropId}
use Rattle.joint_ir.specs.declared.program.PropKind.{PropKind}
use Rattle.joint_ir.specs.declared.program.PropKind.TheVariants as kind
use Rattle.joint_ir.specs.declared.program.Var.{Var}
use Rattle.joint_ir.specs.Types.{int}
use Rattle.trace_text.specs.Trace.{trace_text}

-- a place that no trace shows
abbrev here : Place
here = record { line = 1; column = 1 }

-- `unsigned char`
abbrev byte : IntType
byte = record { bits = 8; signed = false; truth = false }

-- a signal of a module, unsigned and no memory
abbrev scalar : List ℕ → Role → (bits : ℕ) → Signal
scalar path role bits = record { path = path; bits = bits; signed = false; low = 0; words = 0; role = role }

-- an object of type `int`, or an array of so many; 0 is for no array
abbrev object : List ℕ → (length : ℕ) → Var
object name n = record { name = name; ty = int; length = n; firsts = []; constant = false }

-- a member of the mirror, an unsigned byte
abbrev member : List ℕ → Member
member path = record { path = path; place = here; ty = Some byte; length = 0 }

-- a property of `main`
abbrev of_main : PropKind → (number line : ℕ) → Prop
of_main k n line = record { function = codes "main"; kind = k; number = n; line = line }

-- the property of this number in the program's list
abbrev prop : ℕ → PropId
prop i = record { 0 = i }

-- the value of a word of a signal, both by their numbers
abbrev word : (signal index value : ℕ) → Shown
word signal i n = record { signal = signal; word = i; value = n }

-- what a trace sees of a pair: its file-scope objects, its locals, its members, its properties and its signals
abbrev seen_of : (globals locals : List Var) → List Member → List Prop → List Signal → Pair
seen_of globals locals members props signals = record {
  program = record {
    functions = [];
    globals = globals;
    locals = locals;
    mirror = Some (record { name = codes "m"; place = here; members = members });
    props = props;
    main = 0;
  };
  «module» = record {
    top = codes "m";
    instances = [];
    signals = signals;
    firsts = [];
    settle_terms = record { vars = []; terms = [] };
    settled = [];
    edge_terms = record { vars = []; terms = [] };
    next = [];
    settle_weight = 0;
    edge_weight = 0;
    settle_sites = [];
    edge_sites = [];
  };
  binding = record { links = [] };
}

-- `module counter(input clk, output reg [7:0] count);`
abbrev counter : List Signal
counter = scalar (codes "counter.clk") Clock 1 ∷ scalar (codes "counter.count") Register 8 ∷ []

-- two calls of `next_timeframe();`, in lines 5 and 6, and `assert(counter.count == 3);` in line 7
abbrev two_edges : Pair
two_edges = seen_of [] [] (member (codes "counter.count") ∷ []) (of_main kind.Frame 1 5 ∷ of_main kind.Frame 2 6 ∷ of_main kind.Assertion 1 7 ∷ []) counter

-- `int s = 0; for (int i = 0; i < 3; i++) s = s + i;`
abbrev a_loop : Pair
a_loop = seen_of [] (object (codes "s") 0 ∷ object (codes "i") 0 ∷ []) [] (of_main kind.Unwind 1 1 ∷ []) counter

-- a signed register, a memory, and objects of each kind
abbrev all_kinds : Pair
all_kinds =
    seen_of (object (codes "g") 0 ∷ []) (object (codes "t") 3 ∷ []) (member (codes "m.a") ∷ member (codes "m.s.b") ∷ []) (of_main kind.Bounds 2 9 ∷ [])
    ((record { path = codes "m.low"; bits = 4; signed = true; low = 0; words = 0; role = Register })
    ∷ (record { path = codes "m.mem"; bits = 8; signed = false; low = 0; words = 2; role = Register })
    ∷ scalar (codes "m.in") Input 8 ∷ [])

-- four runs, and the trace of each
pub record WorkedTraces : Type 0 where
  -- an assertion that fails after two edges
  pub counting : trace_text two_edges
      (Frame 0 (word 1 0 0 ∷ []) ∷ Frame 1 (word 1 0 1 ∷ []) ∷ Frame 2 (word 1 0 2 ∷ []) ∷ Broke (prop 2) ∷ [])
      ≡ codes "Trace for main.assertion.1:\nframe 0\n  counter.count = 0\nframe 1\n  counter.count = 1\nframe 2\n  counter.count = 2\nbroken main.assertion.1 at line 7\nVERIFICATION FAILED\n"
  -- one edge more than the bounds allow, where that is checked
  pub out_of_frames : trace_text two_edges (Frame 0 (word 1 0 0 ∷ []) ∷ Frame 1 (word 1 0 1 ∷ []) ∷ Broke (prop 1) ∷ [])
      ≡ codes "Trace for main.frame.2:\nframe 0\n  counter.count = 0\nframe 1\n  counter.count = 1\nbroken main.frame.2 at line 6\nVERIFICATION FAILED\n"
  -- a loop with more turns than its limit
  pub turns : trace_text a_loop
      (Frame 0 (word 1 0 0 ∷ []) ∷ Stored 1 (Local 0) None (pos 0) ∷ Stored 1 (Local 1) None (pos 0) ∷ Stored 1 (Local 0) None (pos 0) ∷ Stored 1 (Local 1) None (pos 1)
      ∷ Stored 1 (Local 0) None (pos 1) ∷ Stored 1 (Local 1) None (pos 2) ∷ Broke (prop 0) ∷ [])
      ≡ codes "Trace for main.unwind.1:\nframe 0\n  counter.count = 0\nline 1: s = 0\nline 1: i = 0\nline 1: s = 0\nline 1: i = 1\nline 1: s = 1\nline 1: i = 2\nbroken main.unwind.1 at line 1\nVERIFICATION FAILED\n"
  -- a signed signal, words of a memory, a call of `set_inputs()` that changes an input and one that changes none, a file-scope
  -- object, an element of an array, and a member of a member
  pub words : trace_text all_kinds
      (Frame 0 (word 0 0 15 ∷ word 1 0 7 ∷ word 1 1 200 ∷ word 2 0 3 ∷ []) ∷ Driven (word 2 0 255 ∷ []) ∷ Driven [] ∷ Stored 3 (Global 0) None (pos 5)
      ∷ Stored 4 (Local 0) (Some 2) (pos 9) ∷ Stored 5 (InMirror 1) None (pos 1) ∷ Broke (prop 0) ∷ [])
      ≡ codes "Trace for main.bounds.2:\nframe 0\n  m.low = -1\n  m.mem[0] = 7\n  m.mem[1] = 200\n  m.in = 3\ninputs driven\n  m.in = 255\ninputs driven\nline 3: g = 5\nline 4: t[2] = 9\nline 5: m.s.b = 1\nbroken main.bounds.2 at line 9\nVERIFICATION FAILED\n"
