-- When a step leaves nothing wide free.
use Rattle.std.specs.Prelude.{◌≤◌}
use Rattle.word_eqs.specs.declared.list.Act.{Act}
use Rattle.word_eqs.specs.declared.list.Act.TheVariants.{Free, Set, Cut, Prop}
use Rattle.word_eqs.specs.Graph.{Graph, width_of_var}

-- a variable that a step leaves free has at most 64 bits
abbrev pub IsNarrow : Graph → Act → Type 0
IsNarrow g (Free x) = width_of_var g x.0 ≤ 64
IsNarrow g (Set x t) = Unit {0}
IsNarrow g (Cut t) = Unit {0}
IsNarrow g (Prop p t) = Unit {0}
