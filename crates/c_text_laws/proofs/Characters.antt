-- A character constant is made of a token that is one.
use Rattle.std.proofs.Common.{◌≡◌, inl, inr, ℕ, zero, suc, ◌-◌, ◌<◌, Bool, true, false, cond, ◌&&◌, ◌||◌, List, [], ◌∷◌, length, slice_index_or, refl, sym, ◌∙◌, ap, subst, Some, arith}
use Rattle.std.specs.Prelude.{◌==◌, ◌⊎◌, nat_eq}
use Rattle.std.proofs.Math.ListN.{get_or-map}
use Rattle.std.proofs.lemmas.Bool.{and_parts, eqb-true, or_cases}
use Rattle.std.proofs.lemmas.List.{length-map}
use Rattle.std.proofs.lemmas.List.Elements.{All-get_or}
use Rattle.text_scan.specs.declared.pieces.TheConstants.{STRAY}
use Rattle.ll_actions.specs.After.{IsAfter, IsPlaced}
use Rattle.ll_actions.specs.declared.step.Step.{Step}
use Rattle.c_tokens.specs.declared.directives.CToken.{CToken}
use Rattle.c_tokens.specs.Directives.{c_tokens}
use Rattle.c_tokens.specs.Reading.{IsTokenOf}
use Rattle.c_tokens.proofs.GivenLemmas.{c_tokens-are}
use Rattle.c_grammar.specs.Actions.{AFTER}
use Rattle.c_actions.specs.declared.actions.Action.{Action}
use Rattle.c_actions.specs.declared.actions.Action.TheVariants as action
use Rattle.c_actions.specs.declared.actions.FileAction.TheVariants as file_action
use Rattle.c_actions.specs.declared.actions.TokenAction.TheVariants as token_action
use Rattle.c_actions.specs.declared.actions.TheConstants.{ACTIONS}
use Rattle.c_actions.specs.Characters.{character_value}
use Rattle.c_actions.specs.Numbers.{action_of}
use Rattle.c_actions.specs.Reading.{NO_TOKEN, kinds_of, spelling, token_before}
use Rattle.c_text_laws.specs.Bytes.{IsByte}
use Rattle.c_text_laws.proofs.Spelled.{CHARACTER, character_byte}

abbrev is_character : Action → Bool
is_character (action.Token token_action.Character) = true
is_character _ = false

abbrev is_lone : List ℕ → Bool
is_lone (k ∷ []) = k == CHARACTER
is_lone _ = false

-- each action that makes a character constant comes right after a token that is one
abbrev do_follow : List Action → List (List ℕ) → Bool
do_follow [] after = true
do_follow (a ∷ acts) [] = false
do_follow (a ∷ acts) (kinds ∷ after) = cond (is_character a) (is_lone kinds) true && do_follow acts after

claim : do_follow ACTIONS AFTER ≡ true
unfolding AFTER
claim = refl

lone : (kinds : List ℕ) → is_lone kinds ≡ true → kinds ≡ CHARACTER ∷ []
lone [] h = (let f : ⊥ = cc in absurd f)
lone (k ∷ []) h = ap (λ x. x ∷ []) (eqb-true k CHARACTER h)
lone (k ∷ j ∷ kinds) h = (let f : ⊥ = cc in absurd f)

follows : (acts : List Action) (after : List (List ℕ)) (n : ℕ) → do_follow acts after ≡ true → is_character (slice_index_or acts n (action.File file_action.NoExternals)) ≡ true →
    slice_index_or after n [] ≡ CHARACTER ∷ []
follows [] after n h c = (let f : ⊥ = cc in absurd f)
follows (a ∷ acts) [] n h c = (let f : ⊥ = cc in absurd f)
follows (a ∷ acts) (kinds ∷ after) zero h c =
    lone kinds (ap (λ b. cond b (is_lone kinds) true) (sym c) ∙ (and_parts (cond (is_character a) (is_lone kinds) true) (do_follow acts after) h).0)
follows (a ∷ acts) (kinds ∷ after) (suc n) h c = follows acts after n (and_parts (cond (is_character a) (is_lone kinds) true) (do_follow acts after) h).1 c

among : (k : ℕ) → (nat_eq k CHARACTER || false) ≡ true → k ≡ CHARACTER
among k h = by (or_cases (nat_eq k CHARACTER) false h)
  where
    by : (nat_eq k CHARACTER ≡ true) ⊎ (false ≡ true) → k ≡ CHARACTER
    by (inl e) = eqb-true k CHARACTER e
    by (inr e) = (let f : ⊥ = cc in absurd f)

-- the value that a step makes of a character constant is a byte
pub character_at : (text : List ℕ) (s : Step) → IsPlaced AFTER (kinds_of (c_tokens text)) s → action_of s.action ≡ action.Token token_action.Character →
    IsByte (character_value (spelling text (token_before (c_tokens text) s.token)))
character_at text s placed e =
    let tokens = c_tokens text in
    let t = token_before tokens s.token in
    let kinds = follows ACTIONS AFTER s.action claim (ap is_character e) in
    let after : IsAfter (CHARACTER ∷ []) (kinds_of tokens) s.token = subst (λ ks. IsAfter ks (kinds_of tokens) s.token) kinds placed.comes_after in
    let kind : t.kind ≡ CHARACTER = sym (get_or-map (λ (u : CToken). u.kind) tokens (s.token - 1) NO_TOKEN) ∙ among _ after.1 in
    let some = after.0 in
    let within = placed.within in
    let n = length-map tokens (λ (u : CToken). u.kind) in
    let small : s.token - 1 < length tokens = omega (arith, some, within, n) in
    let is : IsTokenOf text t = All-get_or (IsTokenOf text) tokens (s.token - 1) NO_TOKEN small (c_tokens-are text) in
    character_byte (spelling text t) (is.spelled (subst (λ k. k < STRAY) (sym kind) (omega arith)) ∙ ap Some kind)
