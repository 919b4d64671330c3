use Rattle.c_types.proofs.Walking.{start_stands, run_typed}
use Rattle.c_types.proofs.file.run.Goals as goal

pub externals-requires : goal.externals-requires
externals-requires c = start_stands _ _ _ c.in_ok-names.ensures

pub returns : goal.returns
returns c =
    run_typed c.args.tree.now c.as_slice-xs.result.now c.in_ok-names.names c.in_ok-names.file c.externals.new.file c.note_main.new.file c.in_ok-main.main c.program.result
    c.as_slice-xs.ensures c.in_ok-names.ensures c.in_ok-externals.ensures c.note_main.ensures c.in_ok-main.ensures c.program.ensures.first c.program.ensures.program
