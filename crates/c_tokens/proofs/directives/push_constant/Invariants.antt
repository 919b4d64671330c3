use Rattle.std.proofs.Common.{◌≡◌, ◌++◌, map, take}
use Rattle.c_tokens.specs.Directives.{token_at}
use Rattle.c_tokens.proofs.directives.push_constant.Given as goal

abbrev pub invariant-loop-token : goal.invariant-loop-token
invariant-loop-token l = l.read.items ≡ l.initial.read.items ++ map (token_at l.at) (take l.token-index l.constant)
