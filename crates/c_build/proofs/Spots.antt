-- The token before a step, and its place.
use Rattle.std.proofs.Common.{◌≡◌, ℕ, suc, zero, ◌+◌, ◌-◌, ◌<◌, ◌≤◌, List, [], ◌∷◌, length, map, get_or, refl, ap, ◌∙◌, arith}
use Rattle.std.proofs.Math.ListN.{get_or-map}
use Rattle.std.proofs.lemmas.List.Elements.{All-get_or, All-from_get_or, All-map}
use Rattle.std.specs.List.{All}
use Rattle.src_text.specs.declared.refusal.Place.{Place}
use Rattle.src_text.specs.Place.{place_at}
use Rattle.ll_actions.specs.declared.step.Step.{Step}
use Rattle.c_tokens.specs.Reading.{IsTokenOf}
use Rattle.c_tokens.specs.declared.directives.CToken.{CToken}
use Rattle.c_stack.specs.Values.{Values}
use Rattle.c_actions.specs.declared.actions.Action.{Action}
use Rattle.c_actions.specs.Acts.{after_action}
use Rattle.c_actions.specs.Numbers.{action_of}
use Rattle.c_actions.specs.Reading.{NO_TOKEN, end_of, spelling, token_before}
use Rattle.c_build.specs.Sources.{FIRST, after_step}

abbrev IsInside : (text : List ℕ) → CToken → Type 0
IsInside text t = t.start + t.len ≤ length text

inside_at : (text : List ℕ) (tokens : List CToken) → ((i : ℕ) → i < length tokens → IsInside text (get_or tokens i NO_TOKEN)) → (i : ℕ) → IsInside text (get_or tokens i NO_TOKEN)
inside_at text [] h i = omega arith
inside_at text (t ∷ ts) h zero = h 0 (omega arith)
inside_at text (t ∷ ts) h (suc i) = inside_at text ts (λ j l. h (suc j) (omega arith)) i

-- the token before a step is spelled by bytes of the text
pub inside : (text : List ℕ) (tokens : List CToken) → All (IsTokenOf text) tokens → (i : ℕ) → IsInside text (token_before tokens i)
inside text tokens h i = inside_at text tokens (λ j l. (All-get_or (IsTokenOf text) tokens j NO_TOKEN l h).inside) (i - 1)

-- the tokens begin within the text
pub starts_within : (text : List ℕ) (tokens : List CToken) → All (IsTokenOf text) tokens → All (λ start. start ≤ length text) (map (λ (t : CToken). t.at) tokens)
starts_within text tokens h =
    All-map (λ start. start ≤ length text) (λ (t : CToken). t.at) tokens
    (All-from_get_or (λ (t : CToken). t.at ≤ length text) tokens NO_TOKEN (λ i l. let r = (All-get_or (IsTokenOf text) tokens i NO_TOKEN l h).reported in omega arith))

-- the place before a step is that of the token there
pub place_of_before : (text : List ℕ) (tokens : List CToken) (places : List Place) (i : ℕ) → places ≡ map (λ (t : CToken). place_at text t.at) tokens → get_or places (i - 1) FIRST ≡ place_at text (token_before tokens i).at
place_of_before text tokens places i e = ap (λ x. get_or x (i - 1) FIRST) e ∙ get_or-map (λ (t : CToken). place_at text t.at) tokens (i - 1) NO_TOKEN

-- the places of the starts
pub places_of_starts : (text : List ℕ) (tokens : List CToken) → map (place_at text) (map (λ (t : CToken). t.at) tokens) ≡ map (λ (t : CToken). place_at text t.at) tokens
places_of_starts text [] = refl
places_of_starts text (t ∷ ts) = ap (λ x. place_at text t.at ∷ x) (places_of_starts text ts)

-- an action with what is found for a step is that of the step
pub same_step : (text : List ℕ) (tokens : List CToken) (s : Step) (st : Values) (a : Action) (end place : Place) (t : CToken) (spelled : List ℕ) → a ≡ action_of s.action → end ≡ end_of text → t ≡ token_before tokens s.token →
    place ≡ place_at text (token_before tokens s.token).at → spelled ≡ spelling text t → after_action a end place spelled st ≡ after_step text tokens s st
same_step text tokens s st a end place t spelled is_action is_end is_token is_place is_spelled =
    let before = token_before tokens s.token in
    ap (λ (x : Action). after_action x end place spelled st) is_action
    ∙ ap (λ (x : Place). after_action (action_of s.action) x place spelled st) is_end
    ∙ ap (λ (x : Place). after_action (action_of s.action) (end_of text) x spelled st) is_place
    ∙ ap (λ x. after_action (action_of s.action) (end_of text) (place_at text before.at) x st) (is_spelled ∙ ap (λ (x : CToken). spelling text x) is_token)
