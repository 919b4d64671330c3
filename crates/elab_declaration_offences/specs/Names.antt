-- What may be wrong with a name that is declared (IEEE 1364-2005, 4.10 and 12.7).
use Rattle.std.specs.Prelude.{List, [], ◌++◌, Option, Some, None}
use Rattle.src_text.specs.declared.refusal.Place.{Place}
use Rattle.src_text.specs.declared.kind.Kind.TheVariants.{VRedeclared}
use Rattle.v_tree.specs.declared.item.ParameterAssignment.{ParameterAssignment}
use Rattle.v_tree.specs.declared.name.Identifier.{Identifier}
use Rattle.offence_order.specs.declared.Offence.{Offence}
use Rattle.offence_order.specs.Order.{at}
use Rattle.elab_names.specs.declared.names.Entry.{Entry}
use Rattle.elab_names.specs.Names.{Scope, find_in}
use Rattle.elab_offences.specs.Expressions.{constant_offences}

-- a name that stands for something already
abbrev pub again_at : Place → Option Entry → List Offence
again_at place None = []
again_at place (Some before) = at place VRedeclared

-- all names of a module share one space (IEEE 1364-2005, 12.7)
abbrev pub again_offences : Scope → Identifier → List Offence
again_offences names x = again_at x.place (find_in names x.name)

-- a parameter: in its own value it isn't known yet (IEEE 1364-2005, 4.10.1)
abbrev pub parameter_offences : Scope → ParameterAssignment → List Offence
parameter_offences names p = again_offences names p.name ++ constant_offences names [] p.value
