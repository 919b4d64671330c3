-- Stretches with four ways on, in one assignment.
use Rattle.std.proofs.Common.{◌≡◌, ℕ, List, [], ◌++◌, ◌⊎◌, inl, inr, refl, sym, ap, ◌∙◌, append_assoc, append-nil}
use Rattle.std.proofs.lemmas.List.{map-append}
use Rattle.bits_core.specs.Word.{Word}
use Rattle.joint_ir.specs.declared.event.Event.{Event}
use Rattle.joint_ir.specs.declared.event.Outcome.{Outcome}
use Rattle.joint_ir.specs.declared.way.Way.{Way}
use Rattle.joint_ir.specs.declared.way.Way.TheVariants.{Next, Breaking, Continuing, Returning}
use Rattle.joint_ir.specs.States.{JointState}
use Rattle.joint_ir.specs.Effects.{Effect, Told, nothing, joined, Goes, Stops, TooFew, Onward, preceded}
use Rattle.trails.specs.Trails.{Trail, Through, Halts, values_of, widths_of, trail_then}
use Rattle.trails.specs.Following.{way_bit, IsAt, Follows}

pub joined_twice : (a b t : Told) → joined a (joined b t) ≡ joined (joined a b) t
joined_twice a b t =
    ap (λ (l : List Event). record { events = l; widths = a.widths ++ (b.widths ++ t.widths) }) (sym (append_assoc a.events b.events t.events))
    ∙ ap (λ (l : List ℕ). record { events = (a.events ++ b.events) ++ t.events; widths = l }) (sym (append_assoc a.widths b.widths t.widths))

pub joined_nothing : (t : Told) → joined t nothing ≡ t
joined_nothing t =
    ap (λ (l : List Event). record { events = l; widths = t.widths ++ [] }) (append-nil t.events) ∙ ap (λ (l : List ℕ). record { events = t.events; widths = l }) (append-nil t.widths)

pub preceded_twice : (a b : Told) (e : Effect) → preceded a (preceded b e) ≡ preceded (joined a b) e
preceded_twice a b (Goes way s t c) = ap (λ l. Goes way s l c) (joined_twice a b t)
preceded_twice a b (Stops o t c) = ap (λ l. Stops o l c) (joined_twice a b t)
preceded_twice a b TooFew = refl

pub preceded_nothing : (e : Effect) → preceded nothing e ≡ e
preceded_nothing (Goes way s t c) = refl
preceded_nothing (Stops o t c) = refl
preceded_nothing TooFew = refl

pub next_off : (way : Way) → (way ≡ Next → ⊥) → way_bit Next way ≡ 0
next_off Next h = absurd (h refl)
next_off Breaking h = refl
next_off Continuing h = refl
next_off Returning h = refl

pub is_next : (way : Way) → (way ≡ Next) ⊎ (way ≡ Next → ⊥)
is_next Next = inl refl
is_next Breaking = inr (λ e. cc)
is_next Continuing = inr (λ e. cc)
is_next Returning = inr (λ e. cc)

widths_both : (a b : Told) (r r' : List Word) → a.widths ≡ widths_of r → b.widths ≡ widths_of r' → (joined a b).widths ≡ widths_of (r ++ r')
widths_both a b r r' p q = ap (λ l. l ++ b.widths) p ∙ ap (λ l. widths_of r ++ l) q ∙ sym (map-append (λ (x : Word). x.width) r r')

values_both : (r r' : List Word) (rest : List ℕ) → values_of (r ++ r') ++ rest ≡ values_of r ++ (values_of r' ++ rest)
values_both r r' rest = ap (λ l. l ++ rest) (map-append (λ (x : Word). x.value) r r') ∙ append_assoc (values_of r) (values_of r') rest

-- One stretch after another. What the second does is known for each way that the first may take.
pub bind_follows : (run : List ℕ → Effect) (t1 t2 : Trail) (g1 g2 : Way → ℕ) (h1 h2 : Way → JointState → Type 0) (out1 out2 : Way → Onward) → Follows run t1 g1 h1 out1 →
    ((way : Way) → IsAt g1 way → (s : JointState) → h1 way s → Follows (out1 way s) t2 g2 h2 out2) → Follows run (trail_then t1 t2) g2 h2 out2
bind_follows run (Halts r e) t2 g1 g2 h1 h2 out1 out2 a b = a
bind_follows run (Through r) t2 g1 g2 h1 h2 out1 out2 a b = second t2 (b a.way a.at a.state a.held)
  where
    second : (t : Trail) → Follows (out1 a.way a.state) t g2 h2 out2 → Follows run (trail_then (Through r) t) g2 h2 out2
    second (Through r') k = record {
      way = k.way;
      state = k.state;
      told = joined a.told k.told;
      at = k.at;
      held = k.held;
      widths = widths_both a.told k.told r r' a.widths k.widths;
      runs = λ rest. ap run (values_both r r' rest) ∙ a.runs (values_of r' ++ rest) ∙ ap (preceded a.told) (k.runs rest) ∙ preceded_twice a.told k.told (out2 k.way k.state rest);
    }
    second (Halts r' stop) k = record {
      outcome = k.outcome;
      told = joined a.told k.told;
      broken = k.broken;
      widths = widths_both a.told k.told r r' a.widths k.widths;
      runs = λ rest. ap run (values_both r r' rest) ∙ a.runs (values_of r' ++ rest) ∙ ap (preceded a.told) (k.runs rest);
    }

-- nothing is done, and the run goes on
pub stays_follows : (way : Way) (s : JointState) (guards : Way → ℕ) (holds : Way → JointState → Type 0) (out : Way → Onward) → IsAt guards way → holds way s → Follows (out way s) (Through []) guards holds out
stays_follows way s guards holds out at h = record { way = way; state = s; told = nothing; at = at; held = h; widths = refl; runs = λ rest. sym (preceded_nothing (out way s rest)) }

-- other guards, facts and ways on, and the same run in other words
pub follows_as : (run run' : List ℕ → Effect) (t : Trail) (g g' : Way → ℕ) (h h' : Way → JointState → Type 0) (out out' : Way → Onward) (turn : Way → Way) → ((c : List ℕ) → run c ≡ run' c) →
    ((way : Way) → IsAt g way → IsAt g' (turn way)) → ((way : Way) (s : JointState) → h way s → h' (turn way) s) → ((way : Way) (s : JointState) (c : List ℕ) → h way s → out way s c ≡ out' (turn way) s c) →
    Follows run t g h out → Follows run' t g' h' out'
follows_as run run' (Halts r stop) g g' h h' out out' turn e k l m a = record { outcome = a.outcome; told = a.told; broken = a.broken; widths = a.widths; runs = λ rest. sym (e (values_of r ++ rest)) ∙ a.runs rest }
follows_as run run' (Through r) g g' h h' out out' turn e k l m a = record {
  way = turn a.way;
  state = a.state;
  told = a.told;
  at = k a.way a.at;
  held = l a.way a.state a.held;
  widths = a.widths;
  runs = λ rest. sym (e (values_of r ++ rest)) ∙ a.runs rest ∙ ap (preceded a.told) (m a.way a.state rest a.held);
}

-- something is done behind a run, which changes no end and keeps what was told
pub record IsAfter (F : Effect → Effect) : Type 0 where
  pub stops : (o : Outcome) (told : Told) (c : List ℕ) → F (Stops o told c) ≡ Stops o told c
  pub precedes : (told : Told) (e : Effect) → F (preceded told e) ≡ preceded told (F e)

pub follows_mapped : (F : Effect → Effect) → IsAfter F → (run : List ℕ → Effect) (t : Trail) (g : Way → ℕ) (h : Way → JointState → Type 0) (out : Way → Onward) → Follows run t g h out →
    Follows (λ c. F (run c)) t g h (λ way s c. F (out way s c))
follows_mapped F k run (Halts r stop) g h out a = record { outcome = a.outcome; told = a.told; broken = a.broken; widths = a.widths; runs = λ rest. ap F (a.runs rest) ∙ k.stops a.outcome a.told rest }
follows_mapped F k run (Through r) g h out a =
    record { way = a.way; state = a.state; told = a.told; at = a.at; held = a.held; widths = a.widths; runs = λ rest. ap F (a.runs rest) ∙ k.precedes a.told (out a.way a.state rest) }
