-- Declarations, headers and instances, and their trees (IEEE 1364-2005, clauses 4, 6 and 12).
use Rattle.std.specs.Prelude.{[], ◌∷◌, codes, Some, None, false, true}
use Rattle.v_tree.specs.declared.stmt.Target.TheVariants as Target
use Rattle.v_tree.specs.declared.stmt.Stmt.TheVariants as Stmt
use Rattle.v_tree.specs.declared.item.Connections.TheVariants as Connections
use Rattle.v_tree.specs.declared.item.DirectionKind.TheVariants as DirectionKind
use Rattle.v_tree.specs.declared.item.Event.TheVariants as Event
use Rattle.v_tree.specs.declared.item.Header.TheVariants as Header
use Rattle.v_tree.specs.declared.item.Item.TheVariants as Item
use Rattle.v_tree.specs.declared.item.NetKind.TheVariants as NetKind
use Rattle.v_tree.specs.declared.item.RegisterForm.TheVariants as RegisterForm
use Rattle.tree_laws.specs.VerilogWords.{at, named, a, b, x, y, decimal, range, declared, given, parameter, parameters, wires, register, registers, integers, ports, port, direction, assigned, assigns, always, connection, instance, instances, stored, HasItem, HasParts}

-- small modules, and the items and headers in them
pub record DeclarationTrees : Type 0 where
  -- what a process waits for
  pub any_change : HasItem (codes "module m; always @* ; endmodule") (always 11 Event.All (Stmt.Empty (at 21)))
  pub any_change_in_parentheses : HasItem (codes "module m; always @(*) ; endmodule") (always 11 Event.All (Stmt.Empty (at 23)))
  pub edge : HasItem (codes "module m; always @(posedge c) ; endmodule")
      (always 11 (Event.Posedge (named 28 (codes "c"))) (Stmt.Empty (at 31)))
  pub changes : HasItem (codes "module m; always @(a or b, c) ; endmodule")
      (always 11 (Event.Names (named 20 (codes "a") ∷ named 25 (codes "b") ∷ named 28 (codes "c") ∷ [])) (Stmt.Empty (at 31)))
  pub first_value : HasItem (codes "module m; initial x = a; endmodule") (Item.Initial (at 11) (stored 19 (codes "x") (a 23)))
  -- nets, registers, memories and integers
  pub nets : HasItem (codes "module m; wire signed [1:0] w, v = a; endmodule")
      (wires 11 true (Some (range 23 (decimal 24 (codes "1")) (decimal 26 (codes "0")))) (declared 29 (codes "w") ∷ given 32 (codes "v") (a 36) ∷ []))
  pub registers_of_bits : HasItem (codes "module m; reg [7:0] r = 1, s; endmodule")
      (registers 11 false
      (Some (range 15 (decimal 16 (codes "7")) (decimal 18 (codes "0"))))
      (register 21 (codes "r") (RegisterForm.Initialized (decimal 25 (codes "1"))) ∷ register 28 (codes "s") RegisterForm.Plain ∷ []))
  pub memory : HasItem (codes "module m; reg t [0:2]; endmodule")
      (registers 11 false None (register 15 (codes "t") (RegisterForm.Memory (range 17 (decimal 18 (codes "0")) (decimal 20 (codes "2")))) ∷ []))
  pub whole_numbers : HasItem (codes "module m; integer i, j; endmodule")
      (integers 11 (named 19 (codes "i") ∷ named 22 (codes "j") ∷ []))
  -- parameters
  pub parameter_item : HasItem (codes "module m; parameter P = 1, Q = 2; endmodule")
      (Item.Parameter (parameters 11 None (parameter 21 (codes "P") (decimal 25 (codes "1")) ∷ parameter 28 (codes "Q") (decimal 32 (codes "2")) ∷ [])))
  pub local_parameter_item : HasItem (codes "module m; localparam signed [1:0] R = 3; endmodule")
      (Item.LocalParameter
      (parameters 11
      (Some (record { signed = true; range = (range 29 (decimal 30 (codes "1")) (decimal 32 (codes "0"))) }))
      (parameter 35 (codes "R") (decimal 39 (codes "3")) ∷ [])))
  -- continuous assignments
  pub assignment : HasItem (codes "module m; assign x = a, {y, z} = b; endmodule")
      (assigns 11
      (assigned (Target.Name (named 18 (codes "x"))) (a 22)
      ∷ assigned (Target.Concatenation (at 25) (Target.Name (named 26 (codes "y")) ∷ Target.Name (named 29 (codes "z")) ∷ [])) (b 34)
      ∷ []))
  -- ports that items declare
  pub input_item : HasItem (codes "module m; input [3:0] a, b; endmodule")
      (ports
      (direction 11 DirectionKind.Input)
      None false (Some (range 17 (decimal 18 (codes "3")) (decimal 20 (codes "0"))))
      (named 23 (codes "a") ∷ named 26 (codes "b") ∷ []))
  pub output_item : HasItem (codes "module m; output reg signed c; endmodule")
      (ports (direction 11 DirectionKind.Output) (Some NetKind.Reg) true None (named 29 (codes "c") ∷ []))
  -- instances with connections by position, by name and with none
  pub ordered_instance : HasItem (codes "module m; n u(x, y), v(); endmodule")
      (instances (named 11 (codes "n")) None (instance 13 (codes "u") (Connections.Ordered (x 15 ∷ y 18 ∷ [])) ∷ instance 22 (codes "v") Connections.Absent ∷ []))
  pub named_instance : HasItem (codes "module m; n w(.a(x), .b()); endmodule")
      (instances
      (named 11 (codes "n"))
      None (instance 13 (codes "w") (Connections.Named (connection 15 (named 16 (codes "a")) (Some (x 18)) ∷ connection 22 (named 23 (codes "b")) None ∷ [])) ∷ []))
  pub ordered_parameters : HasItem (codes "module m; n #(8) p(x); endmodule")
      (instances (named 11 (codes "n")) (Some (Connections.Ordered (decimal 15 (codes "8") ∷ []))) (instance 18 (codes "p") (Connections.Ordered (x 20 ∷ [])) ∷ []))
  pub named_parameters : HasItem (codes "module m; n #(.W(8)) q(x); endmodule")
      (instances
      (named 11 (codes "n"))
      (Some (Connections.Named (connection 15 (named 16 (codes "W")) (Some (decimal 18 (codes "8"))) ∷ [])))
      (instance 22 (codes "q") (Connections.Ordered (x 24 ∷ [])) ∷ []))
  -- what stands in a header
  pub header_names : HasParts (codes "module m(a, b); endmodule")
      []
      (Header.Names (named 10 (codes "a") ∷ named 13 (codes "b") ∷ []))
      []
  pub header_input : HasParts (codes "module m(input signed [1:0] a, b); endmodule")
      []
      (Header.Ports
      (port
      (direction 10 DirectionKind.Input)
      None true (Some (range 23 (decimal 24 (codes "1")) (decimal 26 (codes "0"))))
      (declared 29 (codes "a") ∷ declared 32 (codes "b") ∷ [])
      ∷ []))
      []
  pub header_output : HasParts (codes "module m(output reg c = 1, input wire d); endmodule")
      []
      (Header.Ports
      (port (direction 10 DirectionKind.Output) (Some NetKind.Reg) false None (given 21 (codes "c") (decimal 25 (codes "1")) ∷ [])
      ∷ port (direction 28 DirectionKind.Input) (Some NetKind.Wire) false None (declared 39 (codes "d") ∷ [])
      ∷ []))
      []
  pub header_parameters : HasParts (codes "module m #(parameter W = 8, V = 2)(); endmodule")
      (parameters 12 None (parameter 22 (codes "W") (decimal 26 (codes "8")) ∷ parameter 29 (codes "V") (decimal 33 (codes "2")) ∷ []) ∷ [])
      Header.Empty
      []
  pub header_parameter_groups : HasParts (codes "module m #(parameter W = 8, parameter [1:0] S = 1); endmodule")
      (parameters 12 None (parameter 22 (codes "W") (decimal 26 (codes "8")) ∷ [])
      ∷ parameters 29
      (Some (record { signed = false; range = (range 39 (decimal 40 (codes "1")) (decimal 42 (codes "0"))) }))
      (parameter 45 (codes "S") (decimal 49 (codes "1")) ∷ [])
      ∷ [])
      Header.Absent
      []
