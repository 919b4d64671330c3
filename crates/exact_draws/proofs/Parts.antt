-- Stretches of a run that draw just what they tell, and what is made of them.
use Rattle.std.proofs.Common.{◌≡◌, ℕ, zero, suc, ◌+◌, ◌%◌, ◌^◌, List, [], ◌∷◌, ◌++◌, length, take, drop, refl, sym, ap, ◌∙◌, subst, arith, append_assoc, length-append}
use Rattle.std.specs.Prelude.{ℤ, Option, Some, None, Bool, true, false, if◌then◌else◌}
use Rattle.std.proofs.lemmas.List.{take-append-drop}
use Rattle.joint_ir.specs.declared.event.Outcome.{Outcome}
use Rattle.joint_ir.specs.declared.expr.TExpr.{TExpr}
use Rattle.joint_ir.specs.declared.program.PropId.{PropId}
use Rattle.joint_ir.specs.Values.{Answer, Value, Fault, Rows, value_of}
use Rattle.joint_ir.specs.States.{JointState}
use Rattle.joint_ir.specs.Effects.{Effect, Told, joined, drew, Onward, Goes, Stops, TooFew, preceded, then_do, after_turn, after_groups, check_then, with_value, with_values, draw, draw_all}
use Rattle.joint_ir.specs.declared.way.Way.{Way}
use Rattle.joint_ir.specs.declared.way.Way.TheVariants.{Next, Breaking, Continuing, Returning}
use Rattle.word_eqs.specs.Assignments.{reduced}
use Rattle.exact_draws.specs.Draws.{DrawsAs, DrawsIn, Draws}

-- a stretch draws just what it tells, from each state
abbrev pub Steady : Onward → Type 0
Steady f = (s : JointState) → Draws (f s)

reduced-append : (v w a b : List ℕ) → length a ≡ length v → reduced (v ++ w) (a ++ b) ≡ reduced v a ++ reduced w b
reduced-append [] w [] b e = refl
reduced-append [] w (n ∷ a) b e = absurd (omega arith)
reduced-append (k ∷ v) w [] b e = absurd (omega arith)
reduced-append (k ∷ v) w (n ∷ a) b e = ap (λ l. n % 2 ^ k ∷ l) (reduced-append v w a b (omega arith))

-- equal numbers of two widths, one after the other, are equal one by one
reduced-parts : (v w a b c d : List ℕ) → length a ≡ length v → length c ≡ length v → reduced (v ++ w) (a ++ b) ≡ reduced (v ++ w) (c ++ d) → (reduced v a ≡ reduced v c) × (reduced w b ≡ reduced w d)
reduced-parts [] w [] b [] d e e' h = (refl, h)
reduced-parts [] w [] b (n ∷ c) d e e' h = absurd (omega arith)
reduced-parts [] w (n ∷ a) b c d e e' h = absurd (omega arith)
reduced-parts (k ∷ v) w [] b c d e e' h = absurd (omega arith)
reduced-parts (k ∷ v) w (n ∷ a) b [] d e e' h = absurd (omega arith)
reduced-parts (k ∷ v) w (n ∷ a) b (m ∷ c) d e e' h =
    let first : n % 2 ^ k ≡ m % 2 ^ k = ap first_of h in
    let others = reduced-parts v w a b c d (omega arith) (omega arith) (ap others_of h) in
    (ap (λ x. x ∷ reduced v a) first ∙ ap (λ l. m % 2 ^ k ∷ l) others.0, others.1)
  where
    first_of : List ℕ → ℕ
    first_of [] = 0
    first_of (x ∷ l) = x

    others_of : List ℕ → List ℕ
    others_of [] = []
    others_of (x ∷ l) = l

-- nothing is drawn
pub draws_none : (f : List ℕ → Effect) (choices : List ℕ) (told : Told) (leaving : List ℕ → Effect) → told.widths ≡ [] → ((more : List ℕ) → f more ≡ leaving more) → DrawsAs f choices choices told leaving
draws_none f choices told leaving none is = record {
  used = [];
  parts = refl;
  many = sym (ap length none);
  same = λ like more len _. ap (λ l. f (l ++ more)) (no_length like len) ∙ is more;
}
  where
    no_length : (l : List ℕ) → length l ≡ 0 → l ≡ []
    no_length [] e = refl
    no_length (x ∷ l) e = absurd (omega arith)

pub goes_draws : (way : Way) (s : JointState) (told : Told) → told.widths ≡ [] → Draws (Goes way s told)
goes_draws way s told none = record { at = λ c. draws_none (Goes way s told) c told (Goes way s told) none (λ more. refl) }

pub stops_draws : (o : Outcome) (told : Told) → told.widths ≡ [] → Draws (Stops o told)
stops_draws o told none = record { at = λ c. draws_none (Stops o told) c told (Stops o told) none (λ more. refl) }

-- what is made of an effect that goes on or stops keeps what it draws
pub kept : (f : List ℕ → Effect) (h : Effect → Effect) (c rest : List ℕ) (told : Told) (leaving leaving' : List ℕ → Effect) → ((r : List ℕ) → h (leaving r) ≡ leaving' r) → DrawsAs f c rest told leaving → DrawsAs (λ c. h (f c)) c rest told leaving'
kept f h c rest told leaving leaving' is d = record {
  used = d.used;
  parts = d.parts;
  many = d.many;
  same = λ like more len eq. ap h (d.same like more len eq) ∙ is more;
}

length-drop : (n : ℕ) (l : List ℕ) (m : ℕ) → length l ≡ n + m → length (drop n l) ≡ m
length-drop zero l m e = omega arith
length-drop (suc n) [] m e = absurd (omega arith)
length-drop (suc n) (x ∷ l) m e = length-drop n l m (omega arith)

length-front : (n : ℕ) (l : List ℕ) (m : ℕ) → length l ≡ n + m → length (take n l) ≡ n
length-front zero l m e = refl
length-front (suc n) [] m e = absurd (omega arith)
length-front (suc n) (x ∷ l) m e = ap suc (length-front n l m (omega arith))

-- A stretch g uses some choices and then does as k does on the others.
module _ (g k : List ℕ → Effect) (used rest : List ℕ) (told : Told) (many : length used ≡ length told.widths)
    (same : (like more : List ℕ) → length like ≡ length used → reduced told.widths like ≡ reduced told.widths used → g (like ++ more) ≡ preceded told (k more)) where
  behind : (told' : Told) (rest' : List ℕ) (leaving leaving' : List ℕ → Effect) → ((r : List ℕ) → preceded told (leaving r) ≡ leaving' r) → DrawsAs k rest rest' told' leaving → DrawsAs g (used ++ rest) rest' (joined told told') leaving'
  behind told' rest' leaving leaving' is d = record {
    used = used ++ d.used;
    parts = ap (λ l. used ++ l) d.parts ∙ sym (append_assoc used d.used rest');
    many = omega (arith, length-append used d.used, length-append told.widths told'.widths, many, d.many);
    same = λ like more len eq.
        let n = length used in
        let long : length like ≡ n + length d.used = omega (arith, len, length-append used d.used) in
        let front : length (take n like) ≡ n = length-front n like (length d.used) long in
        let cut : like ≡ take n like ++ drop n like = sym (take-append-drop n like) in
        let both = reduced-parts told.widths told'.widths (take n like) (drop n like) used d.used (front ∙ many) many (ap (reduced (told.widths ++ told'.widths)) (sym cut) ∙ eq) in
        ap (λ l. g (l ++ more)) cut ∙ ap g (append_assoc (take n like) (drop n like) more)
        ∙ same (take n like) (drop n like ++ more) front both.0
        ∙ ap (preceded told) (d.same (drop n like) more (length-drop n like (length d.used) long) both.1)
        ∙ is more;
  }

  pub behind_at : (e : Effect) → DrawsIn k rest e → DrawsIn g (used ++ rest) (preceded told e)
  behind_at (Goes way s told' rest') d = behind told' rest' (Goes way s told') (Goes way s (joined told told')) (λ r. refl) d
  behind_at (Stops o told' rest') d = behind told' rest' (Stops o told') (Stops o (joined told told')) (λ r. refl) d
  behind_at TooFew d = tt

-- what goes on behind a stretch
pub on_behind : (f : List ℕ → Effect) (h : Effect → Effect) (k : List ℕ → Effect) (c rest : List ℕ) (told : Told) (leaving : List ℕ → Effect) → ((r : List ℕ) → h (leaving r) ≡ preceded told (k r)) →
    DrawsAs f c rest told leaving → Draws k → DrawsIn (λ c. h (f c)) c (preceded told (k rest))
on_behind f h k c rest told leaving is d on =
    subst (λ l. DrawsIn (λ c. h (f c)) l (preceded told (k rest))) (sym d.parts)
    (behind_at (λ c. h (f c)) k d.used rest told d.many (λ like more len eq. ap h (d.same like more len eq) ∙ is more) (k rest) (on.at rest))

then_at : (f : List ℕ → Effect) (go : Onward) (c : List ℕ) → Steady go → (e : Effect) → DrawsIn f c e → DrawsIn (λ c. then_do (f c) go) c (then_do e go)
then_at f go c on (Goes Next s told rest) d = on_behind f (λ e. then_do e go) (go s) c rest told (Goes Next s told) (λ r. refl) d (on s)
then_at f go c on (Goes Breaking s told rest) d = kept f (λ e. then_do e go) c rest told (Goes Breaking s told) (Goes Breaking s told) (λ r. refl) d
then_at f go c on (Goes Continuing s told rest) d = kept f (λ e. then_do e go) c rest told (Goes Continuing s told) (Goes Continuing s told) (λ r. refl) d
then_at f go c on (Goes Returning s told rest) d = kept f (λ e. then_do e go) c rest told (Goes Returning s told) (Goes Returning s told) (λ r. refl) d
then_at f go c on (Stops o told rest) d = kept f (λ e. then_do e go) c rest told (Stops o told) (Stops o told) (λ r. refl) d
then_at f go c on TooFew d = tt

pub then_draws : (f : List ℕ → Effect) (go : Onward) → Draws f → Steady go → Draws (λ c. then_do (f c) go)
then_draws f go d on = record { at = λ c. then_at f go c on (f c) (d.at c) }

turn_at : (f : List ℕ → Effect) (go : Onward) (c : List ℕ) → Steady go → (e : Effect) → DrawsIn f c e → DrawsIn (λ c. after_turn (f c) go) c (after_turn e go)
turn_at f go c on (Goes Next s told rest) d = on_behind f (λ e. after_turn e go) (go s) c rest told (Goes Next s told) (λ r. refl) d (on s)
turn_at f go c on (Goes Continuing s told rest) d = on_behind f (λ e. after_turn e go) (go s) c rest told (Goes Continuing s told) (λ r. refl) d (on s)
turn_at f go c on (Goes Breaking s told rest) d = kept f (λ e. after_turn e go) c rest told (Goes Breaking s told) (Goes Next s told) (λ r. refl) d
turn_at f go c on (Goes Returning s told rest) d = kept f (λ e. after_turn e go) c rest told (Goes Returning s told) (Goes Returning s told) (λ r. refl) d
turn_at f go c on (Stops o told rest) d = kept f (λ e. after_turn e go) c rest told (Stops o told) (Stops o told) (λ r. refl) d
turn_at f go c on TooFew d = tt

pub turn_draws : (f : List ℕ → Effect) (go : Onward) → Draws f → Steady go → Draws (λ c. after_turn (f c) go)
turn_draws f go d on = record { at = λ c. turn_at f go c on (f c) (d.at c) }

groups_at : (f : List ℕ → Effect) (c : List ℕ) (e : Effect) → DrawsIn f c e → DrawsIn (λ c. after_groups (f c)) c (after_groups e)
groups_at f c (Goes Next s told rest) d = kept f after_groups c rest told (Goes Next s told) (Goes Next s told) (λ r. refl) d
groups_at f c (Goes Breaking s told rest) d = kept f after_groups c rest told (Goes Breaking s told) (Goes Next s told) (λ r. refl) d
groups_at f c (Goes Continuing s told rest) d = kept f after_groups c rest told (Goes Continuing s told) (Goes Continuing s told) (λ r. refl) d
groups_at f c (Goes Returning s told rest) d = kept f after_groups c rest told (Goes Returning s told) (Goes Returning s told) (λ r. refl) d
groups_at f c (Stops o told rest) d = kept f after_groups c rest told (Stops o told) (Stops o told) (λ r. refl) d
groups_at f c TooFew d = tt

pub groups_draws : (f : List ℕ → Effect) → Draws f → Draws (λ c. after_groups (f c))
groups_draws f d = record { at = λ c. groups_at f c (f c) (d.at c) }

pub check_draws : (p : Option PropId) (test : Bool) (f : List ℕ → Effect) → Draws f → Draws (λ c. check_then p test c (f c))
check_draws None test f d = d
check_draws (Some p) true f d = d
check_draws (Some p) false f d = stops_draws _ _ refl

pub value_draws : (a : Answer) (go : ℤ → List ℕ → Effect) → ((n : ℤ) → Draws (go n)) → Draws (λ c. with_value a c (λ n. go n c))
value_draws (Value n) go h = h n
value_draws (Fault p) go h = stops_draws _ _ refl

pub values_draws : (rows : Rows) (es : List TExpr) (go : List ℤ → List ℕ → Effect) → ((ns : List ℤ) → Draws (go ns)) → Draws (λ c. with_values rows es c (λ ns. go ns c))
values_draws rows [] go h = h []
values_draws rows (e ∷ es) go h =
    value_draws (value_of rows e) (λ n c. with_values rows es c (λ ns. go (n ∷ ns) c)) (λ n. values_draws rows es (λ ns. go (n ∷ ns)) (λ ns. h (n ∷ ns)))

one_number : (l : List ℕ) → length l ≡ 1 → (n : ℕ) × (l ≡ n ∷ [])
one_number [] e = absurd (omega arith)
one_number (n ∷ []) e = (n, refl)
one_number (n ∷ m ∷ l) e = absurd (omega arith)

abbrev first_number : List ℕ → ℕ
first_number [] = 0
first_number (x ∷ l) = x

draw_at : (bits : ℕ) (go : ℕ → List ℕ → Effect) → ((n : ℕ) → Draws (go n)) → (c : List ℕ) → DrawsIn (λ c. draw bits c go) c (draw bits c go)
draw_at bits go h [] = tt
draw_at bits go h (n ∷ c) =
    behind_at (λ c. draw bits c go) (go (n % 2 ^ bits)) (n ∷ []) c (drew bits) refl
    (λ like more len eq.
    let one = one_number like len in
    let is : one.0 % 2 ^ bits ≡ n % 2 ^ bits = ap first_number (ap (reduced (bits ∷ [])) (sym one.1) ∙ eq) in
    ap (λ l. draw bits (l ++ more) go) one.1 ∙ ap (λ m. preceded (drew bits) (go m more)) is)
    (go (n % 2 ^ bits) c) ((h (n % 2 ^ bits)).at c)

pub draw_draws : (bits : ℕ) (go : ℕ → List ℕ → Effect) → ((n : ℕ) → Draws (go n)) → Draws (λ c. draw bits c go)
draw_draws bits go h = record { at = draw_at bits go h }

pub draw_all_draws : (widths : List ℕ) (go : List ℕ → List ℕ → Effect) → ((ns : List ℕ) → Draws (go ns)) → Draws (λ c. draw_all widths c go)
draw_all_draws [] go h = h []
draw_all_draws (bits ∷ widths) go h =
    draw_draws bits (λ n rest. draw_all widths rest (λ ns. go (n ∷ ns))) (λ n. draw_all_draws widths (λ ns. go (n ∷ ns)) (λ ns. h (n ∷ ns)))

pub if_draws : (test : Bool) (f g : List ℕ → Effect) → Draws f → Draws g → Draws (λ c. if test then f c else g c)
if_draws true f g x y = x
if_draws false f g x y = y
