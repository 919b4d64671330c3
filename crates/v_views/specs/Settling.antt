-- Exactly one settled view.
use Rattle.std.specs.Prelude.{◌≡◌, ℕ}
use Rattle.v_views.specs.Spots.{Spot, View}
use Rattle.v_views.specs.Frames.{Settled}
use Rattle.v_views.specs.Refusals.{Design, IsBit, IsView, IsFree}

-- v is the one settled view with the registers and inputs of w, under some unknown words
pub record IsTheSettled {E : Type 0} (m : Design E) (u : ℕ → ℕ) (w v : View) : Type 0 where
  pub settled : Settled m.language u m.drivers v
  pub view : IsView m v
  pub free : (x : Spot) → IsFree m x → v x ≡ w x
  pub only : (other : View) → Settled m.language u m.drivers other → IsView m other → ((x : Spot) → IsBit m x → IsFree m x → other x ≡ w x) → (x : Spot) → other x ≡ v x
