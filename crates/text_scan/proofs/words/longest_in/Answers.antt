use Rattle.std.proofs.Common.{◌∙◌}
use Rattle.text_scan.specs.Words.{words_of}
use Rattle.text_scan.proofs.Longest.{first_in-longest}
use Rattle.text_scan.proofs.words.longest_in.Goals as goal

pub returns : goal.returns
returns c = c.first_in.ensures ∙ first_in-longest 255 (words_of c.args.words.now) c.args.bytes.now c.requires
