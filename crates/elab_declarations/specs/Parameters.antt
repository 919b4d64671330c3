-- Parameters (IEEE 1364-2005, 4.10 and 12.2).
use Rattle.std.specs.Prelude.{List, [], ◌∷◌, Option, Some, None, Bool}
use Rattle.bits_core.specs.Word.{resized_word}
use Rattle.v_tree.specs.declared.expr.Expr.{Expr}
use Rattle.v_tree.specs.declared.item.ParameterAssignment.{ParameterAssignment}
use Rattle.v_tree.specs.declared.item.ParameterDeclaration.{ParameterDeclaration}
use Rattle.v_tree.specs.declared.item.ParameterRange.{ParameterRange}
use Rattle.elab_names.specs.declared.constant.Constant.{Constant}
use Rattle.elab_names.specs.declared.names.Entry.TheVariants.{Parameter}
use Rattle.elab_names.specs.declared.names.ParameterEntry.{ParameterEntry}
use Rattle.elab_names.specs.declared.names.Shape.{Shape}
use Rattle.elab_names.specs.Names.{Scope, put}
use Rattle.elab_declarations.specs.declared.overrides.Given.{Given}
use Rattle.elab_declarations.specs.declared.overrides.Given.TheVariants as given
use Rattle.elab_declarations.specs.declared.parameters.ParameterForm.{ParameterForm}
use Rattle.elab_declarations.specs.declared.parameters.ParameterForm.TheVariants as form
use Rattle.elab_declarations.specs.declared.overrides.Overrides.{Overrides}
use Rattle.elab_declarations.specs.declared.overrides.Overrides.TheVariants as over
use Rattle.elab_declarations.specs.Shapes.{IsShape, range_shape}
use Rattle.elab_declarations.specs.Values.{given_constant}
use Rattle.elab_declarations.specs.Overrides.{given_for}

-- a constant that is converted to a range: extended by its own sign, or cut on the left; with a sign only where `signed` says
-- so (IEEE 1364-2005, 4.10.1)
abbrev pub converted : Bool → Shape → Constant → ParameterEntry
converted signed s c = record { constant = record { word = resized_word s.bits c.signed c.word; signed = signed }; low = s.low }

-- a constant as it is, with the range from its length less 1 down to 0
abbrev pub unconverted : Constant → ParameterEntry
unconverted c = record { constant = c; low = 0 }

-- a parameter with a value, by what stands before its name (IEEE 1364-2005, 4.10.1)
abbrev pub parameter_of : ParameterForm → Option Constant → Option ParameterEntry
parameter_of f None = None
parameter_of form.Plain (Some c) = Some (unconverted c)
parameter_of (form.Ranged signed None) (Some c) = None
parameter_of (form.Ranged signed (Some s)) (Some c) = Some (converted signed s c)

-- what stands before the names of a declaration: a range, by the names so far
abbrev pub form_of : Scope → Option ParameterRange → ParameterForm
form_of names None = form.Plain
form_of names (Some r) = form.Ranged r.signed (range_shape names r.range)

-- the shape of a form is one
abbrev pub IsForm : ParameterForm → Type 0
IsForm form.Plain = Unit {0}
IsForm (form.Ranged signed None) = Unit {0}
IsForm (form.Ranged signed (Some s)) = IsShape s

-- the value that an instance gives stands in place of the parameter's own (IEEE 1364-2005, 12.2)
abbrev pub value_given : Scope → Given → Expr → Option Constant
value_given names given.Own e = given_constant names e
value_given names (given.Instead c) e = c

-- a parameter is declared; in its own value it isn't known yet
abbrev pub with_parameter : ParameterForm → Given → ParameterAssignment → Scope → Scope
with_parameter f g p names = put p.name.name (Parameter (parameter_of f (value_given names g p.value))) names

-- the parameters of a declaration, one after another; each may use those before it
abbrev pub with_parameters : Overrides → ParameterForm → List ParameterAssignment → Scope → Scope
with_parameters overrides f [] names = names
with_parameters overrides f (p ∷ ps) names = with_parameters overrides f ps (with_parameter f (given_for overrides p.name.name) p names)

-- a declaration `parameter ..;`, where the instance gives these values
abbrev pub parameters_declared : Overrides → ParameterDeclaration → Scope → Scope
parameters_declared overrides d names = with_parameters overrides (form_of names d.range) d.parameters names

-- a declaration `localparam ..;`: no instance gives its values (IEEE 1364-2005, 4.10.2)
abbrev pub localparams_declared : ParameterDeclaration → Scope → Scope
localparams_declared d names = parameters_declared over.Absent d names
