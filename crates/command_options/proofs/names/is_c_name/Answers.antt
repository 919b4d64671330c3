use Rattle.std.proofs.Common.{◌∙◌, ap, refl, length}
use Rattle.text_scan.specs.Pieces.{longest_of}
use Rattle.c_tokens.specs.Rules.{kind_of}
use Rattle.command_options.specs.Whole.{is_whole}
use Rattle.command_options.proofs.Tokens.{whole}
use Rattle.command_options.proofs.names.is_c_name.Goals as goal

pub returns : goal.returns
returns c =
    c.is_whole.ensures ∙ (ap (is_whole 1 (length c.args.text.now)) c.longest.ensures
    ∙ (ap (λ b. is_whole 1 (length c.args.text.now) (longest_of kind_of b)) c.as_bytes.ensures.value ∙ whole kind_of 1 c.args.text.now refl))
