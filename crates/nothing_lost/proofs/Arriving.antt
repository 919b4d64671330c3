-- The machine without limits comes to where an effect goes, unless the effect breaks a property.
use Rattle.std.proofs.Common.{◌≡◌, ℕ, Bool, true, false, if◌then◌else◌, List, [], ◌∷◌, ◌++◌, refl, sym, ap, ◌∙◌, subst, append_assoc}
use Rattle.std.specs.Prelude.{ℤ, Option, Some, None}
use Rattle.std.proofs.lemmas.Bool.{false≢true}
use Rattle.joint_ir.specs.declared.bounds.Bounds.{Bounds}
use Rattle.joint_ir.specs.declared.event.Outcome.TheVariants.{Ended, Cut, OutOfFrames, Broken}
use Rattle.joint_ir.specs.declared.expr.TExpr.{TExpr}
use Rattle.joint_ir.specs.declared.pair.Pair.{Pair}
use Rattle.joint_ir.specs.Values.{Answer, Value, Fault, value_of}
use Rattle.joint_ir.specs.States.{JointState}
use Rattle.joint_ir.specs.Effects.{Effect, Told, Onward, Goes, Stops, TooFew, preceded, then_do, with_value, with_values}
use Rattle.joint_ir.specs.declared.way.Way.TheVariants.{Next, Breaking, Continuing, Returning}
use Rattle.joint_ir.specs.Steps.{Setting, rows_in, with_index}
use Rattle.joint_ir.specs.Machine.{Task, Configuration, At, Over, Lacks, onward, given, all_given, index_given, step, behind_break, behind_turn, behind_body}
use Rattle.nothing_lost.proofs.Ways.{OnlyNext}

-- the second configuration comes after the first
pub data Reaches (pair : Pair) (b : Bounds) : Configuration → Configuration → Type 0 where
  here : (x y : Configuration) → x ≡ y → Reaches pair b x y
  next : (x y : Configuration) → Reaches pair b (step pair b x) y → Reaches pair b x y

-- the machine comes to where the effect goes, with these tasks behind it
abbrev pub Arrives : Pair → Bounds → List Task → Configuration → Effect → Type 0
Arrives pair b tasks x (Goes way s told c) = Reaches pair b x (onward tasks (Goes way s told c))
Arrives pair b tasks x (Stops Ended told c) = Reaches pair b x Over
Arrives pair b tasks x (Stops Cut told c) = Reaches pair b x Over
Arrives pair b tasks x (Stops OutOfFrames told c) = Reaches pair b x Over
Arrives pair b tasks x (Stops (Broken p) told c) = Unit {0}
Arrives pair b tasks x TooFew = Reaches pair b x Lacks

module _ (pair : Pair) (b : Bounds) where
  pub reaches_then : (x y z : Configuration) → Reaches pair b x y → Reaches pair b y z → Reaches pair b x z
  reaches_then x y z (here _ _ e) r = subst (λ w. Reaches pair b w z) (sym e) r
  reaches_then x y z (next _ _ q) r = next x z (reaches_then (step pair b x) y z q r)

  pub arrives_from : (tasks : List Task) (x y : Configuration) (e : Effect) → Reaches pair b x y → Arrives pair b tasks y e → Arrives pair b tasks x e
  arrives_from tasks x y (Goes way s told c) r h = reaches_then x y _ r h
  arrives_from tasks x y (Stops Ended told c) r h = reaches_then x y Over r h
  arrives_from tasks x y (Stops Cut told c) r h = reaches_then x y Over r h
  arrives_from tasks x y (Stops OutOfFrames told c) r h = reaches_then x y Over r h
  arrives_from tasks x y (Stops (Broken p) told c) r h = tt
  arrives_from tasks x y TooFew r h = reaches_then x y Lacks r h

  -- after one step
  pub arrives_next : (tasks : List Task) (x : Configuration) (e : Effect) → Arrives pair b tasks (step pair b x) e → Arrives pair b tasks x e
  arrives_next tasks x e h = arrives_from tasks x (step pair b x) e (next x (step pair b x) (here _ _ refl)) h

  pub arrives_onward : (tasks : List Task) (e : Effect) → Arrives pair b tasks (onward tasks e) e
  arrives_onward tasks (Goes way s told c) = here _ _ refl
  arrives_onward tasks (Stops Ended told c) = here _ _ refl
  arrives_onward tasks (Stops Cut told c) = here _ _ refl
  arrives_onward tasks (Stops OutOfFrames told c) = here _ _ refl
  arrives_onward tasks (Stops (Broken p) told c) = tt
  arrives_onward tasks TooFew = here _ _ refl

  pub arrives_preceded : (tasks : List Task) (x : Configuration) (told : Told) (e : Effect) → Arrives pair b tasks x e → Arrives pair b tasks x (preceded told e)
  arrives_preceded tasks x told (Goes Next s es c) h = h
  arrives_preceded tasks x told (Goes Breaking s es c) h = h
  arrives_preceded tasks x told (Goes Continuing s es c) h = h
  arrives_preceded tasks x told (Goes Returning s es c) h = h
  arrives_preceded tasks x told (Stops Ended es c) h = h
  arrives_preceded tasks x told (Stops Cut es c) h = h
  arrives_preceded tasks x told (Stops OutOfFrames es c) h = h
  arrives_preceded tasks x told (Stops (Broken p) es c) h = tt
  arrives_preceded tasks x told TooFew h = h

  pub given_arrives : (tasks : List Task) (a : Answer) (c : List ℕ) (go : ℤ → Effect) (go' : ℤ → Configuration) → ((n : ℤ) → Arrives pair b tasks (go' n) (go n)) → Arrives pair b tasks (given a go') (with_value a c go)
  given_arrives tasks (Value n) c go go' h = h n
  given_arrives tasks (Fault p) c go go' h = tt

  pub all_arrive : (tasks : List Task) (k : Setting) (s : JointState) (es : List TExpr) (c : List ℕ) (go : List ℤ → Effect) (go' : List ℤ → Configuration) → ((ns : List ℤ) → Arrives pair b tasks (go' ns) (go ns)) →
      Arrives pair b tasks (all_given k s es go') (with_values (rows_in k s) es c go)
  all_arrive tasks k s [] c go go' h = h []
  all_arrive tasks k s (e ∷ es) c go go' h = given_arrives tasks (value_of (rows_in k s) e) c _ _ (λ n. all_arrive tasks k s es c (λ ns. go (n ∷ ns)) (λ ns. go' (n ∷ ns)) (λ ns. h (n ∷ ns)))

  pub index_arrives : (tasks : List Task) (k : Setting) (s : JointState) (e : Option TExpr) (c : List ℕ) (go : Option ℤ → Effect) (go' : Option ℤ → Configuration) → ((x : Option ℤ) → Arrives pair b tasks (go' x) (go x)) →
      Arrives pair b tasks (index_given k s e go') (with_index k e s c go)
  index_arrives tasks k s None c go go' h = h None
  index_arrives tasks k s (Some e) c go go' h = given_arrives tasks (value_of (rows_in k s) e) c _ _ (λ n. h (Some n))

  pub if_arrives : (tasks : List Task) (test : Bool) (x y : Configuration) (e f : Effect) → Arrives pair b tasks x e → Arrives pair b tasks y f → Arrives pair b tasks (if test then x else y) (if test then e else f)
  if_arrives tasks true x y e f hx hy = hx
  if_arrives tasks false x y e f hx hy = hy

  -- what goes on after an effect that goes on to the next statement alone
  pub then_only : (behind tasks : List Task) (x : Configuration) (e : Effect) (go : Onward) → OnlyNext e → Arrives pair b behind x e → ((s : JointState) (c : List ℕ) → Arrives pair b tasks (At behind s c) (go s c)) → Arrives pair b tasks x (then_do e go)
  then_only behind tasks x (Goes Next s told c) go o h n = arrives_preceded tasks x told (go s c) (arrives_from tasks x (At behind s c) (go s c) h (n s c))
  then_only behind tasks x (Goes Breaking s told c) go o h n = absurd (false≢true o)
  then_only behind tasks x (Goes Continuing s told c) go o h n = absurd (false≢true o)
  then_only behind tasks x (Goes Returning s told c) go o h n = absurd (false≢true o)
  then_only behind tasks x (Stops Ended told c) go o h n = h
  then_only behind tasks x (Stops Cut told c) go o h n = h
  then_only behind tasks x (Stops OutOfFrames told c) go o h n = h
  then_only behind tasks x (Stops (Broken p) told c) go o h n = tt
  then_only behind tasks x TooFew go o h n = h

-- tasks that `break`, `continue` and `return` pass over
pub record ArePassed (front : List Task) : Type 0 where
  pub breaks : (tasks : List Task) → behind_break (front ++ tasks) ≡ behind_break tasks
  pub continues : (tasks : List Task) → behind_turn (front ++ tasks) ≡ behind_turn tasks
  pub returns : (tasks : List Task) (s : JointState) (c : List ℕ) → behind_body (front ++ tasks) s c ≡ behind_body tasks s c

module _ (pair : Pair) (b : Bounds) where
  -- what goes on after an effect, with tasks in front that other ways pass over
  pub then_arrives : (front tasks : List Task) (x : Configuration) (e : Effect) (go : Onward) → ArePassed front → Arrives pair b (front ++ tasks) x e → ((s : JointState) (c : List ℕ) → Arrives pair b tasks (At (front ++ tasks) s c) (go s c)) →
      Arrives pair b tasks x (then_do e go)
  then_arrives front tasks x (Goes Next s told c) go p h n = arrives_preceded pair b tasks x told (go s c) (arrives_from pair b tasks x (At (front ++ tasks) s c) (go s c) h (n s c))
  then_arrives front tasks x (Goes Breaking s told c) go p h n = subst (λ l. Reaches pair b x (At l s c)) (p.breaks tasks) h
  then_arrives front tasks x (Goes Continuing s told c) go p h n = subst (λ l. Reaches pair b x (At l s c)) (p.continues tasks) h
  then_arrives front tasks x (Goes Returning s told c) go p h n = subst (λ y. Reaches pair b x y) (p.returns tasks s c) h
  then_arrives front tasks x (Stops Ended told c) go p h n = h
  then_arrives front tasks x (Stops Cut told c) go p h n = h
  then_arrives front tasks x (Stops OutOfFrames told c) go p h n = h
  then_arrives front tasks x (Stops (Broken q) told c) go p h n = tt
  then_arrives front tasks x TooFew go p h n = h

pub passed_none : ArePassed []
passed_none = record { breaks = λ tasks. refl; continues = λ tasks. refl; returns = λ tasks s c. refl }

pub passed_both : (xs ys : List Task) → ArePassed xs → ArePassed ys → ArePassed (xs ++ ys)
passed_both xs ys p q = record {
  breaks = λ tasks. ap behind_break (append_assoc xs ys tasks) ∙ p.breaks (ys ++ tasks) ∙ q.breaks tasks;
  continues = λ tasks. ap behind_turn (append_assoc xs ys tasks) ∙ p.continues (ys ++ tasks) ∙ q.continues tasks;
  returns = λ tasks s c. ap (λ l. behind_body l s c) (append_assoc xs ys tasks) ∙ p.returns (ys ++ tasks) s c ∙ q.returns tasks s c;
}
