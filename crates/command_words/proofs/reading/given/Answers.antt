use Rattle.std.proofs.Common.{◌≡◌, ◌∙◌, sym, ap, map, option_map, string_bytes, refl, Result, Err}
use Rattle.command_words.specs.Clap.{given_by}
use Rattle.command_words.specs.Views.{said_of}
use Rattle.command_words.proofs.Giving.{gives, are_texts}
use Rattle.command_words.proofs.reading.given.Goals as goal

pub returns-in-Some-clause-ok : goal.returns-in-Some-clause-ok
returns-in-Some-clause-ok c =
    sym ((gives (map string_bytes c.args.words.now) (are_texts c.args.words.now)).takes_all c.in-Ok.ensures.taken)
    ∙ (ap given_by (sym c.in-Ok.ensures.rows) ∙ (sym c.read.ensures ∙ ap (option_map said_of) c.in-Some.is))

pub returns-in-Ok-clause-usage : goal.returns-in-Ok-clause-usage
returns-in-Ok-clause-usage c = λ _.
    sym ((gives (map string_bytes c.args.words.now) (are_texts c.args.words.now)).takes_all c.in-Ok.ensures.taken)
    ∙ (ap given_by (sym c.in-Ok.ensures.rows) ∙ (sym c.read.ensures ∙ ap (option_map said_of) c.in-None.is))

same_end : {T E : Type 0} (a b : E) (r : Result T E) → r ≡ Err a → r ≡ Err b → a ≡ b
same_end a b r h k = cc

pub returns-clause-usage : goal.returns-clause-usage
returns-clause-usage c = λ e.
    (gives (map string_bytes c.args.words.now) (are_texts c.args.words.now)).refuses_rest (c.in-Err.ensures.usage (same_end _ _ _ refl e))
