use Rattle.std.proofs.Common.{◌≡◌, ◌≢◌, ℕ, List, ◌++◌, Bor}
use Rattle.std.proofs.lemmas.Bool.Decides.{Decides-eqb}
use Rattle.std.proofs.lemmas.Slice.Eq.{strip_prefix_is}
use Rattle.hwcbmc_core.proofs.OptionLemmas.{IfSome-from_match, IfNone-from_match}
use Rattle.hwcbmc_core.proofs.sources.strip.Goals as goal

pub returns-clause-found : goal.returns-clause-found
returns-clause-found c =
    IfSome-from_match {X = Bor (List ℕ)} ((rest : List ℕ) → c.args.text.now ≢ c.args.front.now ++ rest) (λ x. c.args.text.now ≡ c.args.front.now ++ x.now) c.strip_prefix.result
    (strip_prefix_is Decides-eqb c.args.text.now c.args.front.now c.strip_prefix.result c.strip_prefix.ensures.cases)

pub returns-clause-none : goal.returns-clause-none
returns-clause-none c =
    IfNone-from_match {X = Bor (List ℕ)} ((rest : List ℕ) → c.args.text.now ≢ c.args.front.now ++ rest) (λ x. c.args.text.now ≡ c.args.front.now ++ x.now) c.strip_prefix.result
    (strip_prefix_is Decides-eqb c.args.text.now c.args.front.now c.strip_prefix.result c.strip_prefix.ensures.cases)
