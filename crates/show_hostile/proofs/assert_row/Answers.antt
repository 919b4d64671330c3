use Rattle.show_hostile.proofs.assert_row.Goals as goal

pub print_weight-requires : goal.print_weight-requires
print_weight-requires g c = c.in_ok-pair.ensures.program.few_props
