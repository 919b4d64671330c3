use Rattle.std.proofs.Common.{map}
use Rattle.std.specs.Prelude.{string_bytes}
use Rattle.hwcbmc_core.proofs.BudgetLemmas.{words_budget}
use Rattle.hwcbmc_core.proofs.answering.answer_for.Goals as goal

pub read_files-requires-clause-some : goal.read_files-requires-clause-some
read_files-requires-clause-some g c = (words_budget (map string_bytes c.args.words.now) c.in-Ok.options c.in-Ok.ensures.ok).some

pub read_files-requires-clause-few : goal.read_files-requires-clause-few
read_files-requires-clause-few g c = (words_budget (map string_bytes c.args.words.now) c.in-Ok.options c.in-Ok.ensures.ok).few
