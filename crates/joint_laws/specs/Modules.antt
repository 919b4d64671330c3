-- Small modules as they are flattened.
use Rattle.std.specs.Prelude.{ℕ, [], ◌∷◌, Some, None}
use Rattle.bits_core.specs.Word.{word}
use Rattle.bits_core.specs.declared.op.Op2.TheVariants as op2
use Rattle.word_eqs.specs.declared.term.Term.{Term}
use Rattle.word_eqs.specs.declared.term.TermId.{TermId}
use Rattle.word_eqs.specs.declared.term.TermNode.{TermNode}
use Rattle.word_eqs.specs.declared.term.TermNode.TheVariants as term
use Rattle.joint_ir.specs.declared.module.FlatModule.{FlatModule}
use Rattle.joint_ir.specs.declared.module.Role.TheVariants.{Input, Clock, Register, Wire}
use Rattle.joint_laws.specs.Words.{signal}

-- the term with a number
abbrev pub id : ℕ → TermId
id i = record { 0 = i }

-- a node with its width
abbrev pub term_of : (width : ℕ) → TermNode → Term
term_of width node = record { node = node; width = width }

-- the variable with a number
abbrev pub var : ℕ → (width : ℕ) → Term
var i width = term_of width (term.Var (record { 0 = i }))

-- `module counter(input clk, output reg [7:0] count); initial count = 0; always @(posedge clk) count <= count + 1; endmodule`
abbrev pub counter : FlatModule
counter = record {
  top = [];
  instances = [];
  signals = signal Clock 1 0 ∷ signal Register 8 0 ∷ [];
  firsts = Some 0 ∷ [];
  settle_terms = record { vars = 8 ∷ []; terms = [] };
  settled = [];
  edge_terms = record {
    vars = 8 ∷ [];
    terms = var 0 8 ∷ term_of 8 (term.Const (word 8 1)) ∷ term_of 8 (term.Two op2.Add (id 0) (id 1)) ∷ [];
  };
  next = id 2 ∷ [];
  settle_weight = 0;
  edge_weight = 12;
  settle_sites = [];
  edge_sites = [];
}

-- the same without `initial count = 0;`
abbrev pub free_counter : FlatModule
free_counter = record counter { firsts = None ∷ [] }

-- `module ce(input clk, input enable, output reg [7:0] count); initial count = 0;
-- always @(posedge clk) if (enable) count <= count + 1; endmodule`
abbrev pub enabled : FlatModule
enabled = record {
  top = [];
  instances = [];
  signals = signal Clock 1 0 ∷ signal Input 1 0 ∷ signal Register 8 0 ∷ [];
  firsts = Some 0 ∷ [];
  settle_terms = record { vars = 8 ∷ 1 ∷ []; terms = [] };
  settled = [];
  edge_terms = record {
    vars = 8 ∷ 1 ∷ [];
    terms = var 0 8 ∷ var 1 1 ∷ term_of 8 (term.Const (word 8 1)) ∷ term_of 8 (term.Two op2.Add (id 0) (id 2)) ∷ term_of 8 (term.Choose (id 1) (id 3) (id 0)) ∷ [];
  };
  next = id 4 ∷ [];
  settle_weight = 0;
  edge_weight = 20;
  settle_sites = [];
  edge_sites = [];
}

-- `module q(input [7:0] a, input [7:0] b, output [7:0] y); assign y = a / b; endmodule`, whose quotient by 0 is unknown
abbrev pub divider : FlatModule
divider = record {
  top = [];
  instances = [];
  signals = signal Input 8 0 ∷ signal Input 8 0 ∷ signal Wire 8 0 ∷ [];
  firsts = [];
  settle_terms = record {
    vars = 8 ∷ 8 ∷ 8 ∷ [];
    terms = var 0 8
        ∷ var 1 8
        ∷ var 2 8
        ∷ term_of 8 (term.Const (word 8 0))
        ∷ term_of 1 (term.Two op2.Eq (id 1) (id 3))
        ∷ term_of 8 (term.Two op2.DivU (id 0) (id 1))
        ∷ term_of 8 (term.Choose (id 4) (id 2) (id 5)) ∷ [];
  };
  settled = id 6 ∷ [];
  edge_terms = record { vars = 8 ∷ 8 ∷ 8 ∷ []; terms = [] };
  next = [];
  settle_weight = 1000;
  edge_weight = 0;
  settle_sites = (record { bits = 8 }) ∷ [];
  edge_sites = [];
}

-- `module mem(input clk, input [1:0] addr, output [7:0] q); reg [7:0] ram [0:2]; assign q = ram[addr]; endmodule`, whose
-- word 3 is unknown
abbrev pub memory : FlatModule
memory = record {
  top = [];
  instances = [];
  signals = signal Clock 1 0 ∷ signal Input 2 0 ∷ signal Wire 8 0 ∷ signal Register 8 3 ∷ [];
  firsts = None ∷ Some 5 ∷ None ∷ [];
  settle_terms = record {
    vars = 8 ∷ 8 ∷ 8 ∷ 2 ∷ 8 ∷ [];
    terms = var 0 8
        ∷ var 1 8
        ∷ var 2 8
        ∷ var 3 2
        ∷ var 4 8
        ∷ term_of 2 (term.Const (word 2 0))
        ∷ term_of 2 (term.Const (word 2 1))
        ∷ term_of 2 (term.Const (word 2 2))
        ∷ term_of 1 (term.Two op2.Eq (id 3) (id 5))
        ∷ term_of 1 (term.Two op2.Eq (id 3) (id 6))
        ∷ term_of 1 (term.Two op2.Eq (id 3) (id 7))
        ∷ term_of 8 (term.Choose (id 10) (id 2) (id 4))
        ∷ term_of 8 (term.Choose (id 9) (id 1) (id 11))
        ∷ term_of 8 (term.Choose (id 8) (id 0) (id 12)) ∷ [];
  };
  settled = id 13 ∷ [];
  edge_terms = record { vars = 8 ∷ 8 ∷ 8 ∷ 2 ∷ 8 ∷ []; terms = var 0 8 ∷ var 1 8 ∷ var 2 8 ∷ [] };
  next = id 0 ∷ id 1 ∷ id 2 ∷ [];
  settle_weight = 1000;
  edge_weight = 0;
  settle_sites = (record { bits = 8 }) ∷ [];
  edge_sites = [];
}
