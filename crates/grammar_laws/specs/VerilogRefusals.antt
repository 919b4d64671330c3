-- Small Verilog texts that have no tree, each with the number of the token where that shows, from 0.
use Rattle.std.specs.Prelude.{codes}
use Rattle.grammar_laws.specs.Refused.{VerilogStopsAt}

-- texts that are no Verilog file of the profile, each with the number of the token at which its reading stops
pub record VerilogRefusals : Type 0 where
  -- an assignment has its semicolon
  pub semicolon_missing : VerilogStopsAt (codes "module m; initial x = 1 endmodule") 7
  -- an event is a rising edge or a list of names
  pub falling_edge : VerilogStopsAt (codes "module m; always @(negedge c) x <= 1; endmodule") 6
  -- there are no delays
  pub delay : VerilogStopsAt (codes "module m; initial #1 x = 1; endmodule") 4
  -- a reserved word begins no item
  pub function : VerilogStopsAt (codes "module m; function f; endfunction endmodule") 3
  -- an `else` has its `if`
  pub lone_else : VerilogStopsAt (codes "module m; initial else x = 1; endmodule") 4
  -- a `case` has items
  pub empty_case : VerilogStopsAt (codes "module m; initial case (x) endcase endmodule") 8
  -- an `=` has its value
  pub wire_without_value : VerilogStopsAt (codes "module m; wire w = ; endmodule") 6
  -- a target is a name of the module
  pub hierarchical_name : VerilogStopsAt (codes "module m; assign a.b = 1; endmodule") 5
  -- there is no `===`
  pub case_equality : VerilogStopsAt (codes "module m; initial x = a === b; endmodule") 8
  -- a memory has no value
  pub memory_with_value : VerilogStopsAt (codes "module m; reg [3:0] r [0:1] = 0; endmodule") 15
  -- a base has its digits
  pub based_without_digits : VerilogStopsAt (codes "module m; initial x = 4'b; endmodule") 7
  -- a block has its end
  pub open_block : VerilogStopsAt (codes "module m; initial begin end") 6
  -- a file is modules
  pub lone_end : VerilogStopsAt (codes "endmodule") 0
