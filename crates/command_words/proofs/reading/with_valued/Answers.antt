use Rattle.std.proofs.Common.{◌∙◌, ap₂, refl}
use Rattle.clap.specs.Words.{with_rule}
use Rattle.command_words.proofs.reading.with_valued.Goals as goal

pub returns : goal.returns
returns c = record {
  app = c.in_ok-command-6.ensures.app ∙ ap₂ with_rule (c.in_ok-command-5.ensures.app ∙ ap₂ with_rule
      (c.in_ok-command-4.ensures.app ∙ ap₂ with_rule (c.in_ok-command-3.ensures.app ∙ ap₂ with_rule
      (c.in_ok-command-2.ensures.app ∙ ap₂ with_rule (c.in_ok-command.ensures.app ∙ ap₂ with_rule refl c.valued.ensures.rule)
      c.valued-2.ensures.rule) c.valued-3.ensures.rule) c.valued-4.ensures.rule) c.valued-5.ensures.rule) c.valued-6.ensures.rule;
}
