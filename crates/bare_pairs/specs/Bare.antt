-- A module that has nothing, as `module top; endmodule` is flattened, and the pair of a program with it.
use Rattle.std.specs.Prelude.{ℕ, List, []}
use Rattle.word_eqs.specs.Graph.{graph}
use Rattle.joint_ir.specs.declared.module.FlatModule.{FlatModule}
use Rattle.joint_ir.specs.declared.pair.Pair.{Pair}
use Rattle.joint_ir.specs.declared.program.CProgram.{CProgram}

-- a module of a name, without ports, signals, parameters and items (IEEE 1364-2005 12.1)
abbrev pub bare : (top : List ℕ) → FlatModule
bare top = record {
  top = top;
  instances = [];
  signals = [];
  firsts = [];
  settle_terms = graph [] [];
  settled = [];
  edge_terms = graph [] [];
  next = [];
  settle_weight = 0;
  edge_weight = 0;
  settle_sites = [];
  edge_sites = [];
}

-- a program and a module of a name that has nothing; nothing is bound
abbrev pub pair_of : CProgram → (top : List ℕ) → Pair
pair_of program top = record { program = program; «module» = bare top; binding = record { links = [] } }
