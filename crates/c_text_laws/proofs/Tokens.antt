-- A value that is made of a token has what is known of values, where a character constant is a byte.
use Rattle.std.proofs.Common.{◌≡◌, ℕ, List, refl}
use Rattle.std.specs.Prelude.{IfSome}
use Rattle.src_text.specs.declared.refusal.Place.{Place}
use Rattle.c_stack.specs.Values.{Values}
use Rattle.c_actions.specs.declared.actions.TokenAction.{TokenAction}
use Rattle.c_actions.specs.declared.actions.TokenAction.TheVariants as action
use Rattle.c_actions.specs.Acts.{after_token_action}
use Rattle.c_actions.specs.Characters.{character_value}
use Rattle.c_text_laws.specs.Bytes.{IsByte}
use Rattle.c_text_laws.proofs.Values.{StackBytes}

pub token_bytes : (a : TokenAction) (place : Place) (spelled : List ℕ) (st : Values) → (a ≡ action.Character → IsByte (character_value spelled)) → StackBytes st →
    IfSome (after_token_action a place spelled st) StackBytes
token_bytes action.Character place spelled st k h = (k refl, h)
token_bytes _ place spelled st k h = (tt, h)
