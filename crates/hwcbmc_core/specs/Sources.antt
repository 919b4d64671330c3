-- The written forms of source that are read so far.
use Rattle.std.specs.Prelude.{◌≡◌, ℕ, ◌<◌, List, [], ◌++◌, zero, suc, codes, decimal}
use Rattle.hwcbmc_core.specs.declared.sources.Program.{Program}
use Rattle.hwcbmc_core.specs.declared.sources.Counter.{Counter}

-- a call of `next_timeframe`, on a line of its own
abbrev pub edge_line : List ℕ
edge_line = codes "  next_timeframe();\n"

-- one such line for each clock edge
abbrev pub edge_lines : ℕ → List ℕ
edge_lines zero = []
edge_lines (suc edges) = edge_line ++ edge_lines edges

-- the C text up to the body of `main`
abbrev pub c_head : List ℕ
c_head = codes "#include <assert.h>\nstruct counter { unsigned char count; };\nextern struct counter counter;\nint main(void) {\n"

-- the assertion (C99 7.2.1.1) up to its number, and what follows the number
abbrev pub assert_head : List ℕ
assert_head = codes "  assert(counter.count == "

-- what follows the number in the C text: the end of the assertion and of `main`
abbrev pub c_tail : List ℕ
c_tail = codes ");\n  return 0;\n}\n"

-- The C program waits for the clock edges, and asserts what the register then holds.
abbrev pub c_source : ℕ → ℕ → List ℕ
c_source edges expected = c_head ++ (edge_lines edges ++ (assert_head ++ (decimal expected ++ c_tail)))

-- the Verilog text before, between and after its two numbers
abbrev pub v_head : List ℕ
v_head = codes "module counter(input clk, output reg [7:0] count); initial count = "

-- between the first value and the step: the register gains the step at each rising edge of the clock
abbrev pub v_middle : List ℕ
v_middle = codes "; always @(posedge clk) count <= count + "

-- behind the step
abbrev pub v_tail : List ℕ
v_tail = codes "; endmodule\n"

-- The Verilog module is a register of 8 bits with a first value, and a step at each rising edge of the clock
-- (IEEE 1364-2005, 9.2.2).
abbrev pub v_source : ℕ → ℕ → List ℕ
v_source first step = v_head ++ (decimal first ++ (v_middle ++ (decimal step ++ v_tail)))

-- The text is the C program.
pub record IsProgram (text : List ℕ) (program : Program) : Type 0 where
  pub text_is : text ≡ c_source program.edges program.expected
  pub byte : program.expected < 256

-- The text is the Verilog module.
pub record IsCounter (text : List ℕ) (counter : Counter) : Type 0 where
  pub text_is : text ≡ v_source counter.first counter.step
  pub first_byte : counter.first < 256
  pub step_byte : counter.step < 256
