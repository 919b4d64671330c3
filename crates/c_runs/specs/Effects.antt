-- What a stretch of a run of a C text does. A property is named by its kind and the place of its token.
use Rattle.std.specs.Prelude.{ℕ, ◌%◌, ◌^◌, List, [], ◌∷◌, ℤ}
use Rattle.src_text.specs.declared.refusal.Place.{Place}
use Rattle.joint_ir.specs.declared.program.PropKind.{PropKind}
use Rattle.joint_ir.specs.States.{JointState}
use Rattle.joint_ir.specs.Effects.{Told, drew, joined}
use Rattle.joint_ir.specs.declared.way.Way.{Way}
use Rattle.joint_ir.specs.declared.way.Way.TheVariants.{Next, Breaking, Continuing, Returning}
use Rattle.c_expressions.specs.Values.{CAnswer, Gives, Breaks}

-- how a run ends: `main` returned, an assumption was 0, the frames ran out, or a property broke
pub data Ending : Type 0 where
  Ended : Ending
  Cut : Ending
  OutOfFrames : Ending
  Broken : (kind : PropKind) (place : Place) → Ending

-- a stretch goes on in a way, or ends the run, or draws more choices than there are
pub data CEffect : Type 0 where
  Goes : (way : Way) (state : JointState) (told : Told) (rest : List ℕ) → CEffect
  Stops : (ending : Ending) (told : Told) (rest : List ℕ) → CEffect
  TooFew : CEffect

-- what goes on from a state and the choices that are left
abbrev pub Onward : Type 0
Onward = JointState → List ℕ → CEffect

-- an effect behind what was told before it
abbrev pub preceded : Told → CEffect → CEffect
preceded before (Goes way s told c) = Goes way s (joined before told) c
preceded before (Stops e told c) = Stops e (joined before told) c
preceded before TooFew = TooFew

-- statements run in the order in which they stand, unless one jumps (C99 6.8p3)
abbrev pub then_do : CEffect → Onward → CEffect
then_do (Goes Next s told c) go = preceded told (go s c)
then_do (Goes Breaking s told c) go = Goes Breaking s told c
then_do (Goes Continuing s told c) go = Goes Continuing s told c
then_do (Goes Returning s told c) go = Goes Returning s told c
then_do (Stops e told c) go = Stops e told c
then_do TooFew go = TooFew

-- after the body of a loop: `continue` goes to its end, and `break` leaves the loop (C99 6.8.6.2, 6.8.6.3)
abbrev pub after_turn : CEffect → Onward → CEffect
after_turn (Goes Next s told c) go = preceded told (go s c)
after_turn (Goes Continuing s told c) go = preceded told (go s c)
after_turn (Goes Breaking s told c) go = Goes Next s told c
after_turn (Goes Returning s told c) go = Goes Returning s told c
after_turn (Stops e told c) go = Stops e told c
after_turn TooFew go = TooFew

-- after the body of a `switch`: `break` leaves it (C99 6.8.6.3)
abbrev pub after_switch : CEffect → CEffect
after_switch (Goes Next s told c) = Goes Next s told c
after_switch (Goes Breaking s told c) = Goes Next s told c
after_switch (Goes Continuing s told c) = Goes Continuing s told c
after_switch (Goes Returning s told c) = Goes Returning s told c
after_switch (Stops e told c) = Stops e told c
after_switch TooFew = TooFew

-- goes on with the value of an expression, or breaks the property that its evaluation breaks (C99 6.5)
abbrev pub with_value : CAnswer → List ℕ → (ℤ → CEffect) → CEffect
with_value (Gives n) c go = go n
with_value (Breaks kind p) c go = Stops (Broken kind p) (record { events = []; widths = [] }) c

-- draws a number of so many bits, at most 64: a choice modulo 2^bits
abbrev pub draw : (bits : ℕ) → List ℕ → (ℕ → List ℕ → CEffect) → CEffect
draw bits [] go = TooFew
draw bits (n ∷ c) go = preceded (drew bits) (go (n % 2 ^ bits) c)

-- draws one number for each width
abbrev pub draw_all : (widths : List ℕ) → List ℕ → (List ℕ → List ℕ → CEffect) → CEffect
draw_all [] c go = go [] c
draw_all (bits ∷ widths) c go = draw bits c (λ n rest. draw_all widths rest (λ ns. go (n ∷ ns)))
