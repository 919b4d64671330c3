-- Parts of the program beside the counter.
use Rattle.std.specs.Prelude.{ℕ, [], ◌∷◌, List, Some}
use Rattle.joint_ir.specs.declared.expr.BinaryOp.TheVariants.{Eq}
use Rattle.joint_ir.specs.declared.program.Function.{Function}
use Rattle.joint_ir.specs.declared.program.MirrorDecl.{MirrorDecl}
use Rattle.joint_ir.specs.declared.program.Prop.{Prop}
use Rattle.joint_ir.specs.declared.program.PropKind.TheVariants as kind
use Rattle.joint_ir.specs.declared.stmt.SNode.{SNode, Block, Declare, Assert, NextFrame}
use Rattle.joint_ir.specs.declared.stmt.TInit.TheVariants.{Called}
use Rattle.joint_ir.specs.Types.{int}
use Rattle.joint_laws.specs.Words.{here, prop, number, local, member, sum, compare, stmt, stored, nondet, property, a_member}

-- `next_timeframe();` and an assertion that the first member is n
abbrev pub body_of : ℕ → SNode
body_of n = Block (stmt (NextFrame (prop 0)) ∷ stmt (Assert (compare Eq (member 0) (number n)) (prop 1)) ∷ [])

-- `int main(void)` with this body; nothing reads its name
abbrev pub main_with : SNode → Function
main_with body = record { name = []; result = Some int; first = 0; params = 0; body = Some (stmt body) }

-- the properties of this: no edge after the last one, the assertion, and the activations of `main`
abbrev pub properties_of : List Prop
properties_of = property kind.Frame ∷ property kind.Assertion ∷ property kind.Recursion ∷ []

-- a mirror with one member, an unsigned byte
abbrev pub mirror_of : MirrorDecl
mirror_of = record { name = []; place = here; members = a_member 0 ∷ [] }

-- `int x = nondet_int(); x = x + 1;`
abbrev pub adding_body : SNode
adding_body = Block (stmt (Declare 0 (Called (record { place = here; function = 1; args = [] }))) ∷ stmt (stored 0 (sum (local 0) (number 1) (prop 0))) ∷ [])

-- `main` with this body, and `nondet_int`, which draws
abbrev pub adding_functions : List Function
adding_functions = main_with adding_body ∷ nondet int ∷ []

-- the properties of this: the sum is in its type, and the activations of `main` stay within their limit
abbrev pub adding_properties : List Prop
adding_properties = property kind.Overflow ∷ property kind.Recursion ∷ []

-- a mirror without members
abbrev pub no_mirror : MirrorDecl
no_mirror = record { name = []; place = here; members = [] }
