-- Small C texts that have no tree, each with the number of the token where that shows, from 0.
use Rattle.std.specs.Prelude.{codes}
use Rattle.grammar_laws.specs.Refused.{CStopsAt}

-- texts that are no C file of the profile, each with the number of the token at which its reading stops
pub record CRefusals : Type 0 where
  -- a `switch` has braces (the profile's Stmt)
  pub switch_without_body : CStopsAt (codes "void f(void) { switch (a) ; }") 10
  -- a reserved word begins no statement
  pub jump : CStopsAt (codes "void f(void) { goto x; }") 6
  -- nor stands it for another one
  pub reserved_alone : CStopsAt (codes "void f(void) { auto; }") 6
  -- nor does it begin a declaration
  pub reserved_declaration : CStopsAt (codes "typedef int t;") 0
  -- an assignment is no value
  pub assignment_as_value : CStopsAt (codes "void f(void) { a = b = 1; }") 9
  -- a value is no statement
  pub value_as_statement : CStopsAt (codes "void f(void) { x + 1; }") 7
  -- there is no comma operator
  pub comma_operator : CStopsAt (codes "void f(void) { x = (a, b); }") 10
  -- a call is a whole right side, and no operand
  pub call_in_value : CStopsAt (codes "void f(void) { return g() + 1; }") 10
  -- an operator has its operand
  pub operand_missing : CStopsAt (codes "void f(void) { x = a + ; }") 10
  -- an `else` has its `if`
  pub lone_else : CStopsAt (codes "void f(void) { else ; }") 6
  -- a label stands in a `switch`
  pub lone_label : CStopsAt (codes "void f(void) { case 1: ; }") 6
  -- an array has one dimension
  pub two_dimensions : CStopsAt (codes "void f(void) { int x[2][2]; }") 11
  -- there are no pointers
  pub pointer : CStopsAt (codes "int *p;") 1
  -- a type is one of the list
  pub unsigned_truth : CStopsAt (codes "unsigned bool x;") 1
  -- a struct has members
  pub struct_without_members : CStopsAt (codes "struct s { };") 3
  -- an octal digit is below 8
  pub two_literals : CStopsAt (codes "int x = 08;") 4
  -- a declaration has its semicolon
  pub early_end : CStopsAt (codes "int x, y") 4
  -- a block has its end
  pub open_block : CStopsAt (codes "void f(void) { ;") 7
