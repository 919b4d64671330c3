-- What the actions of a text build has what is known of values.
use Rattle.std.proofs.Common.{◌≡◌, ℕ, List, [], ◌∷◌, Option, None, Some, option_and_then, ap, subst}
use Rattle.std.specs.Prelude.{All, IfSome}
use Rattle.std.proofs.lemmas.List.Elements.{All-head, All-tail}
use Rattle.src_text.specs.declared.refusal.Place.{Place}
use Rattle.src_text.specs.Place.{place_at}
use Rattle.ll_actions.specs.After.{IsPlaced}
use Rattle.ll_actions.specs.declared.step.Step.{Step}
use Rattle.ll_actions.proofs.Placed.{placed_steps}
use Rattle.c_grammar.specs.Actions.{AFTER, SPOTS}
use Rattle.c_grammar.specs.Table.{TABLE}
use Rattle.c_grammar.specs.declared.TheConstants.{MARKS}
use Rattle.c_grammar.proofs.Fit.{c_is_ll, c_is_placed}
use Rattle.c_tokens.specs.Directives.{c_tokens}
use Rattle.c_stack.specs.Values.{Values}
use Rattle.c_stack.specs.declared.values.Value.TheVariants as value
use Rattle.c_stack.specs.declared.values.FileValue.TheVariants as file_value
use Rattle.c_actions.specs.declared.actions.Action.{Action}
use Rattle.c_actions.specs.declared.actions.Action.TheVariants as action
use Rattle.c_actions.specs.declared.actions.TokenAction.TheVariants as token_action
use Rattle.c_actions.specs.Acts.{after_action}
use Rattle.c_actions.specs.Characters.{character_value}
use Rattle.c_actions.specs.Numbers.{action_of}
use Rattle.c_actions.specs.Reading.{kinds_of, token_before, end_of, spelling, built, actions_of}
use Rattle.c_text_laws.specs.Bytes.{IsByte}
use Rattle.c_text_laws.specs.Laws.{TextsHaveBytes}
use Rattle.c_text_laws.proofs.Values.{StackBytes}
use Rattle.c_text_laws.proofs.Characters.{character_at}
use Rattle.c_text_laws.proofs.Tokens.{token_bytes}
use Rattle.c_text_laws.proofs.Expressions.{expression_bytes}
use Rattle.c_text_laws.proofs.Declarations.{declaration_bytes}
use Rattle.c_text_laws.proofs.Statements.{statement_bytes}
use Rattle.c_text_laws.proofs.Files.{file_bytes}

action_bytes : (a : Action) (end place : Place) (spelled : List ℕ) (st : Values) → (a ≡ action.Token token_action.Character → IsByte (character_value spelled)) → StackBytes st →
    IfSome (after_action a end place spelled st) StackBytes
action_bytes (action.Token a) end place spelled st k h = token_bytes a place spelled st (λ e. k (ap action.Token e)) h
action_bytes (action.Expression a) end place spelled st k h = expression_bytes a st h
action_bytes (action.Declaration a) end place spelled st k h = declaration_bytes a st h
action_bytes (action.Statement a) end place spelled st k h = statement_bytes a st h
action_bytes (action.File a) end place spelled st k h = file_bytes a end st h

next : (o : Option Values) (go : Values → Option Values) (final : Values) → IfSome o StackBytes → ((new : Values) → StackBytes new → go new ≡ Some final → StackBytes final) →
    option_and_then go o ≡ Some final → StackBytes final
next None go final h k e = (let f : ⊥ = cc in absurd f)
next (Some new) go final h k e = k new h e

module _ (text : List ℕ) where
  built_bytes : (ss : List Step) (st final : Values) → StackBytes st → All (IsPlaced AFTER (kinds_of (c_tokens text))) ss → built text (c_tokens text) ss st ≡ Some final → StackBytes final
  built_bytes [] st final h placed e = subst StackBytes (let z : st ≡ final = cc in z) h
  built_bytes (s ∷ ss) st final h placed e =
      let t = token_before (c_tokens text) s.token in
      let one = All-head (IsPlaced AFTER (kinds_of (c_tokens text))) s ss placed in
      let rest = All-tail (IsPlaced AFTER (kinds_of (c_tokens text))) s ss placed in
      let after = action_bytes (action_of s.action) (end_of text) (place_at text t.at) (spelling text t) st (character_at text s one) h in
      next (after_action (action_of s.action) (end_of text) (place_at text t.at) (spelling text t) st) (built text (c_tokens text) ss) final after (λ new k d. built_bytes ss new final k rest d) e

pub texts_have_bytes : TextsHaveBytes
texts_have_bytes text tree h =
    (built_bytes text (actions_of h.productions) [] (value.File (file_value.Tree tree) ∷ []) tt
    (placed_steps TABLE c_is_ll MARKS AFTER SPOTS c_is_placed (kinds_of (c_tokens text)) h.productions h.parses) h.builds).0
