use Rattle.std.proofs.Common.{◌∙◌, ap₂, ap}
use Rattle.clap.specs.Words.{with_rule}
use Rattle.command_words.specs.Clap.{with_valued_options}
use Rattle.command_words.proofs.reading.command.Goals as goal

pub returns : goal.returns
returns c = record {
  app = c.in_ok-command-4.ensures.app ∙ ap₂ with_rule (c.in_ok-command-3.ensures.app ∙ ap₂ with_rule
      (c.in_ok-command-2.ensures.app ∙ ap₂ with_rule (c.in_ok-command.ensures.app ∙ ap with_valued_options c.bare.ensures.app)
      c.check.ensures.rule) c.file.ensures.rule) c.file-2.ensures.rule;
}
