-- What the loop over the steps reads.
use Rattle.std.specs.Prelude.{◌≡◌, ℕ, List, map, Option}
use Rattle.std.specs.List.{All}
use Rattle.src_text.specs.declared.refusal.Place.{Place}
use Rattle.src_text.specs.Place.{place_at}
use Rattle.ll_actions.specs.declared.step.Step.{Step}
use Rattle.c_tokens.specs.Reading.{IsTokenOf}
use Rattle.c_tokens.specs.declared.directives.CToken.{CToken}
use Rattle.c_stack.specs.Values.{Values}
use Rattle.c_actions.specs.Acts.{after_action}
use Rattle.c_actions.specs.Numbers.{action_of}
use Rattle.c_actions.specs.Reading.{end_of, spelling, token_before}
use Rattle.c_build.specs.declared.steps.Source.{Source}

-- the place of the first byte
abbrev pub FIRST : Place
FIRST = record { line = 1; column = 1 }

-- the tokens are tokens of the text, and the places theirs and that of the end
pub record IsRead (source : Source) : Type 0 where
  pub tokens : All (IsTokenOf source.text.now) source.tokens.now
  pub places : source.places.now ≡ map (λ (t : CToken). place_at source.text.now t.at) source.tokens.now
  pub end : source.end ≡ end_of source.text.now

-- what the action of a step leaves on the stack
abbrev pub after_step : (text : List ℕ) → List CToken → Step → Values → Option Values
after_step text tokens s st =
    let t = token_before tokens s.token in
    after_action (action_of s.action) (end_of text) (place_at text t.at) (spelling text t) st
