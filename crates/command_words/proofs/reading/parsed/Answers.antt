use Rattle.std.proofs.Common.{◌∙◌, ap, map, string_bytes}
use Rattle.clap.specs.Words.{App, is_simple, matches_of}
use Rattle.command_words.proofs.Rules.{simple}
use Rattle.command_words.proofs.reading.parsed.Goals as goal

pub returns-in-Ok-clause-rows : goal.returns-in-Ok-clause-rows
returns-in-Ok-clause-rows c =
    (c.in-Ok.ensures.matches (ap is_simple c.in_ok-command.ensures.app ∙ simple)).0
    ∙ ap (λ (a : App). matches_of a (map string_bytes c.args.words.now)) c.in_ok-command.ensures.app
