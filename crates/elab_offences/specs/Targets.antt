-- What is wrong with a target (IEEE 1364-2005, 6.1, 9.2 and A.8.5).
use Rattle.std.specs.Prelude.{List, [], ◌++◌, Bool, false}
use Rattle.v_tree.specs.declared.stmt.Target.{Target}
use Rattle.v_tree.specs.declared.stmt.Target as target
use Rattle.offence_order.specs.declared.Offence.{Offence}
use Rattle.elab_names.specs.declared.names.Turn.{Turn}
use Rattle.elab_names.specs.Names.{Scope, find_in}
use Rattle.elab_names.specs.Measured.{choice_of}
use Rattle.elab_offences.specs.Rules.{whole_target_offences, part_target_offences}
use Rattle.elab_offences.specs.Expressions.{selection_offences}

module _ (names : Scope) (turns : List Turn) (register : Bool) where
  abbrev mutual
    -- its names are registers, or else nets
    pub target_offences : Target → List Offence
    target_offences (target.Name x) = whole_target_offences register x.place (find_in names x.name)
    target_offences (target.Select x s) = part_target_offences register x.place (find_in names x.name) (choice_of names turns s) ++ selection_offences names turns false s
    target_offences (target.Concatenation' place _ parts) = target_parts_offences parts

    -- the parts of a concatenation, in order
    pub target_parts_offences : {m : _} → target.Row_of-Target m → List Offence
    target_parts_offences target.end_of-Target = []
    target_parts_offences (target.more_of-Target t rest) = target_offences t ++ target_parts_offences rest
