use Rattle.std.proofs.Common.{◌≡◌, drop}
use Rattle.io_edge.specs.MemFiles.{text_under}
use Rattle.io_edge.proofs.mem_files.find.Given as goal

-- none of the files so far has the name
abbrev pub invariant-loop-file : goal.invariant-loop-file
invariant-loop-file l = text_under l.files l.name ≡ text_under (drop l.file-index l.files) l.name
