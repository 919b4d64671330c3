use Rattle.std.proofs.Common.{◌≡◌, ◌++◌, take}
use Rattle.std.specs.List.{flat_map}
use Rattle.c_tokens.specs.Directives.{expansion}
use Rattle.c_tokens.specs.Reading.{names_of}
use Rattle.c_tokens.proofs.directives.push_line.Given as goal

abbrev pub invariant-loop-token : goal.invariant-loop-token
invariant-loop-token l = l.read.items ≡ l.initial.read.items ++ flat_map (expansion l.text (names_of l.names)) (take l.token-index l.line)
