-- What is taken off a stack one after the other, in one step.
use Rattle.std.proofs.Common.{◌≡◌, Option, Some, None, sym, ap, ◌∙◌}
use Rattle.std.specs.Option.{MatchOption}
use Rattle.stack_parts.specs.Parts.{all_two, all_three, all_four, all_five, all_six, all_seven}

-- `take` gave r and left s, in the words of what goes on with it
abbrev pub Took : {A S : Type 0} → Option A → ((A → S → Option S) → Option S) → S → Type 0
Took {A} {S} r take s = (go : A → S → Option S) → MatchOption r (take go ≡ None) (λ x. take go ≡ go x s)

other : {A B : Type 0} {x : A} → None ≡ Some x → B
other e = let f : ⊥ = cc in absurd f

none : {A B : Type 0} {x : A} → Some x ≡ None → B
none e = let f : ⊥ = cc in absurd f

same : {A : Type 0} {x y : A} → Some x ≡ Some y → x ≡ y
same e = cc

module _ {S : Type 0} where
  pub two_found : {A B : Type 0} (ra : Option A) (rb : Option B)
      (wa : (A → S → Option S) → Option S) (wb : S → (B → S → Option S) → Option S) (s1 s2 : S) →
      Took ra wa s1 → Took rb (wb s1) s2 → (k : A → B → S → Option S) (x : A × B) → all_two ra rb ≡ Some x →
      wa (λ a st1. wb st1 (λ b st2. k a b st2)) ≡ k x.0 x.1 s2
  two_found (Some a) (Some b) wa wb s1 s2 ta tb k x p = ta _ ∙ (tb _ ∙ ap (λ y. k y.0 y.1 s2) (same p))
  two_found (Some a) None wa wb s1 s2 ta tb k x p = other p
  two_found None rb wa wb s1 s2 ta tb k x p = other p

  pub two_lost : {A B : Type 0} (ra : Option A) (rb : Option B)
      (wa : (A → S → Option S) → Option S) (wb : S → (B → S → Option S) → Option S) (s1 s2 : S) →
      Took ra wa s1 → Took rb (wb s1) s2 → (k : A → B → S → Option S) → all_two ra rb ≡ None →
      wa (λ a st1. wb st1 (λ b st2. k a b st2)) ≡ None
  two_lost (Some a) (Some b) wa wb s1 s2 ta tb k p = none p
  two_lost (Some a) None wa wb s1 s2 ta tb k p = ta _ ∙ tb _
  two_lost None rb wa wb s1 s2 ta tb k p = ta _

  pub three_found : {A B C : Type 0} (ra : Option A) (rb : Option B) (rc : Option C)
      (wa : (A → S → Option S) → Option S) (wb : S → (B → S → Option S) → Option S) (wc : S → (C → S → Option S) → Option S) (s1 s2 s3 : S) →
      Took ra wa s1 → Took rb (wb s1) s2 → Took rc (wc s2) s3 → (k : A → B → C → S → Option S) (x : A × B × C) → all_three ra rb rc ≡ Some x →
      wa (λ a st1. wb st1 (λ b st2. wc st2 (λ c st3. k a b c st3))) ≡ k x.0 x.1 x.2 s3
  three_found (Some a) (Some b) (Some c) wa wb wc s1 s2 s3 ta tb tc k x p = ta _ ∙ (tb _ ∙ (tc _ ∙ ap (λ y. k y.0 y.1 y.2 s3) (same p)))
  three_found (Some a) (Some b) None wa wb wc s1 s2 s3 ta tb tc k x p = other p
  three_found (Some a) None rc wa wb wc s1 s2 s3 ta tb tc k x p = other p
  three_found None rb rc wa wb wc s1 s2 s3 ta tb tc k x p = other p

  pub three_lost : {A B C : Type 0} (ra : Option A) (rb : Option B) (rc : Option C)
      (wa : (A → S → Option S) → Option S) (wb : S → (B → S → Option S) → Option S) (wc : S → (C → S → Option S) → Option S) (s1 s2 s3 : S) →
      Took ra wa s1 → Took rb (wb s1) s2 → Took rc (wc s2) s3 → (k : A → B → C → S → Option S) → all_three ra rb rc ≡ None →
      wa (λ a st1. wb st1 (λ b st2. wc st2 (λ c st3. k a b c st3))) ≡ None
  three_lost (Some a) (Some b) (Some c) wa wb wc s1 s2 s3 ta tb tc k p = none p
  three_lost (Some a) (Some b) None wa wb wc s1 s2 s3 ta tb tc k p = ta _ ∙ (tb _ ∙ tc _)
  three_lost (Some a) None rc wa wb wc s1 s2 s3 ta tb tc k p = ta _ ∙ tb _
  three_lost None rb rc wa wb wc s1 s2 s3 ta tb tc k p = ta _

  pub four_found : {A B C D : Type 0} (ra : Option A) (rb : Option B) (rc : Option C) (rd : Option D)
      (wa : (A → S → Option S) → Option S) (wb : S → (B → S → Option S) → Option S) (wc : S → (C → S → Option S) → Option S) (wd : S → (D → S → Option S) → Option S) (s1 s2 s3 s4 : S) →
      Took ra wa s1 → Took rb (wb s1) s2 → Took rc (wc s2) s3 → Took rd (wd s3) s4 → (k : A → B → C → D → S → Option S) (x : A × B × C × D) → all_four ra rb rc rd ≡ Some x →
      wa (λ a st1. wb st1 (λ b st2. wc st2 (λ c st3. wd st3 (λ d st4. k a b c d st4)))) ≡ k x.0 x.1 x.2 x.3 s4
  four_found (Some a) (Some b) (Some c) (Some d) wa wb wc wd s1 s2 s3 s4 ta tb tc td k x p = ta _ ∙ (tb _ ∙ (tc _ ∙ (td _ ∙ ap (λ y. k y.0 y.1 y.2 y.3 s4) (same p))))
  four_found (Some a) (Some b) (Some c) None wa wb wc wd s1 s2 s3 s4 ta tb tc td k x p = other p
  four_found (Some a) (Some b) None rd wa wb wc wd s1 s2 s3 s4 ta tb tc td k x p = other p
  four_found (Some a) None rc rd wa wb wc wd s1 s2 s3 s4 ta tb tc td k x p = other p
  four_found None rb rc rd wa wb wc wd s1 s2 s3 s4 ta tb tc td k x p = other p

  pub four_lost : {A B C D : Type 0} (ra : Option A) (rb : Option B) (rc : Option C) (rd : Option D)
      (wa : (A → S → Option S) → Option S) (wb : S → (B → S → Option S) → Option S) (wc : S → (C → S → Option S) → Option S) (wd : S → (D → S → Option S) → Option S) (s1 s2 s3 s4 : S) →
      Took ra wa s1 → Took rb (wb s1) s2 → Took rc (wc s2) s3 → Took rd (wd s3) s4 → (k : A → B → C → D → S → Option S) → all_four ra rb rc rd ≡ None →
      wa (λ a st1. wb st1 (λ b st2. wc st2 (λ c st3. wd st3 (λ d st4. k a b c d st4)))) ≡ None
  four_lost (Some a) (Some b) (Some c) (Some d) wa wb wc wd s1 s2 s3 s4 ta tb tc td k p = none p
  four_lost (Some a) (Some b) (Some c) None wa wb wc wd s1 s2 s3 s4 ta tb tc td k p = ta _ ∙ (tb _ ∙ (tc _ ∙ td _))
  four_lost (Some a) (Some b) None rd wa wb wc wd s1 s2 s3 s4 ta tb tc td k p = ta _ ∙ (tb _ ∙ tc _)
  four_lost (Some a) None rc rd wa wb wc wd s1 s2 s3 s4 ta tb tc td k p = ta _ ∙ tb _
  four_lost None rb rc rd wa wb wc wd s1 s2 s3 s4 ta tb tc td k p = ta _

  pub five_found : {A B C D E : Type 0} (ra : Option A) (rb : Option B) (rc : Option C) (rd : Option D) (re : Option E)
      (wa : (A → S → Option S) → Option S) (wb : S → (B → S → Option S) → Option S) (wc : S → (C → S → Option S) → Option S) (wd : S → (D → S → Option S) → Option S) (we : S → (E → S → Option S) → Option S) (s1 s2 s3 s4 s5 : S) →
      Took ra wa s1 → Took rb (wb s1) s2 → Took rc (wc s2) s3 → Took rd (wd s3) s4 → Took re (we s4) s5 → (k : A → B → C → D → E → S → Option S) (x : A × B × C × D × E) → all_five ra rb rc rd re ≡ Some x →
      wa (λ a st1. wb st1 (λ b st2. wc st2 (λ c st3. wd st3 (λ d st4. we st4 (λ e st5. k a b c d e st5))))) ≡ k x.0 x.1 x.2 x.3 x.4 s5
  five_found (Some a) (Some b) (Some c) (Some d) (Some e) wa wb wc wd we s1 s2 s3 s4 s5 ta tb tc td te k x p = ta _ ∙ (tb _ ∙ (tc _ ∙ (td _ ∙ (te _ ∙ ap (λ y. k y.0 y.1 y.2 y.3 y.4 s5) (same p)))))
  five_found (Some a) (Some b) (Some c) (Some d) None wa wb wc wd we s1 s2 s3 s4 s5 ta tb tc td te k x p = other p
  five_found (Some a) (Some b) (Some c) None re wa wb wc wd we s1 s2 s3 s4 s5 ta tb tc td te k x p = other p
  five_found (Some a) (Some b) None rd re wa wb wc wd we s1 s2 s3 s4 s5 ta tb tc td te k x p = other p
  five_found (Some a) None rc rd re wa wb wc wd we s1 s2 s3 s4 s5 ta tb tc td te k x p = other p
  five_found None rb rc rd re wa wb wc wd we s1 s2 s3 s4 s5 ta tb tc td te k x p = other p

  pub five_lost : {A B C D E : Type 0} (ra : Option A) (rb : Option B) (rc : Option C) (rd : Option D) (re : Option E)
      (wa : (A → S → Option S) → Option S) (wb : S → (B → S → Option S) → Option S) (wc : S → (C → S → Option S) → Option S) (wd : S → (D → S → Option S) → Option S) (we : S → (E → S → Option S) → Option S) (s1 s2 s3 s4 s5 : S) →
      Took ra wa s1 → Took rb (wb s1) s2 → Took rc (wc s2) s3 → Took rd (wd s3) s4 → Took re (we s4) s5 → (k : A → B → C → D → E → S → Option S) → all_five ra rb rc rd re ≡ None →
      wa (λ a st1. wb st1 (λ b st2. wc st2 (λ c st3. wd st3 (λ d st4. we st4 (λ e st5. k a b c d e st5))))) ≡ None
  five_lost (Some a) (Some b) (Some c) (Some d) (Some e) wa wb wc wd we s1 s2 s3 s4 s5 ta tb tc td te k p = none p
  five_lost (Some a) (Some b) (Some c) (Some d) None wa wb wc wd we s1 s2 s3 s4 s5 ta tb tc td te k p = ta _ ∙ (tb _ ∙ (tc _ ∙ (td _ ∙ te _)))
  five_lost (Some a) (Some b) (Some c) None re wa wb wc wd we s1 s2 s3 s4 s5 ta tb tc td te k p = ta _ ∙ (tb _ ∙ (tc _ ∙ td _))
  five_lost (Some a) (Some b) None rd re wa wb wc wd we s1 s2 s3 s4 s5 ta tb tc td te k p = ta _ ∙ (tb _ ∙ tc _)
  five_lost (Some a) None rc rd re wa wb wc wd we s1 s2 s3 s4 s5 ta tb tc td te k p = ta _ ∙ tb _
  five_lost None rb rc rd re wa wb wc wd we s1 s2 s3 s4 s5 ta tb tc td te k p = ta _

  pub six_found : {A B C D E F : Type 0} (ra : Option A) (rb : Option B) (rc : Option C) (rd : Option D) (re : Option E) (rf : Option F)
      (wa : (A → S → Option S) → Option S) (wb : S → (B → S → Option S) → Option S) (wc : S → (C → S → Option S) → Option S) (wd : S → (D → S → Option S) → Option S) (we : S → (E → S → Option S) → Option S) (wf : S → (F → S → Option S) → Option S) (s1 s2 s3 s4 s5 s6 : S) →
      Took ra wa s1 → Took rb (wb s1) s2 → Took rc (wc s2) s3 → Took rd (wd s3) s4 → Took re (we s4) s5 → Took rf (wf s5) s6 → (k : A → B → C → D → E → F → S → Option S) (x : A × B × C × D × E × F) → all_six ra rb rc rd re rf ≡ Some x →
      wa (λ a st1. wb st1 (λ b st2. wc st2 (λ c st3. wd st3 (λ d st4. we st4 (λ e st5. wf st5 (λ f st6. k a b c d e f st6)))))) ≡ k x.0 x.1 x.2 x.3 x.4 x.5 s6
  six_found (Some a) (Some b) (Some c) (Some d) (Some e) (Some f) wa wb wc wd we wf s1 s2 s3 s4 s5 s6 ta tb tc td te tf k x p = ta _ ∙ (tb _ ∙ (tc _ ∙ (td _ ∙ (te _ ∙ (tf _ ∙ ap (λ y. k y.0 y.1 y.2 y.3 y.4 y.5 s6) (same p))))))
  six_found (Some a) (Some b) (Some c) (Some d) (Some e) None wa wb wc wd we wf s1 s2 s3 s4 s5 s6 ta tb tc td te tf k x p = other p
  six_found (Some a) (Some b) (Some c) (Some d) None rf wa wb wc wd we wf s1 s2 s3 s4 s5 s6 ta tb tc td te tf k x p = other p
  six_found (Some a) (Some b) (Some c) None re rf wa wb wc wd we wf s1 s2 s3 s4 s5 s6 ta tb tc td te tf k x p = other p
  six_found (Some a) (Some b) None rd re rf wa wb wc wd we wf s1 s2 s3 s4 s5 s6 ta tb tc td te tf k x p = other p
  six_found (Some a) None rc rd re rf wa wb wc wd we wf s1 s2 s3 s4 s5 s6 ta tb tc td te tf k x p = other p
  six_found None rb rc rd re rf wa wb wc wd we wf s1 s2 s3 s4 s5 s6 ta tb tc td te tf k x p = other p

  pub six_lost : {A B C D E F : Type 0} (ra : Option A) (rb : Option B) (rc : Option C) (rd : Option D) (re : Option E) (rf : Option F)
      (wa : (A → S → Option S) → Option S) (wb : S → (B → S → Option S) → Option S) (wc : S → (C → S → Option S) → Option S) (wd : S → (D → S → Option S) → Option S) (we : S → (E → S → Option S) → Option S) (wf : S → (F → S → Option S) → Option S) (s1 s2 s3 s4 s5 s6 : S) →
      Took ra wa s1 → Took rb (wb s1) s2 → Took rc (wc s2) s3 → Took rd (wd s3) s4 → Took re (we s4) s5 → Took rf (wf s5) s6 → (k : A → B → C → D → E → F → S → Option S) → all_six ra rb rc rd re rf ≡ None →
      wa (λ a st1. wb st1 (λ b st2. wc st2 (λ c st3. wd st3 (λ d st4. we st4 (λ e st5. wf st5 (λ f st6. k a b c d e f st6)))))) ≡ None
  six_lost (Some a) (Some b) (Some c) (Some d) (Some e) (Some f) wa wb wc wd we wf s1 s2 s3 s4 s5 s6 ta tb tc td te tf k p = none p
  six_lost (Some a) (Some b) (Some c) (Some d) (Some e) None wa wb wc wd we wf s1 s2 s3 s4 s5 s6 ta tb tc td te tf k p = ta _ ∙ (tb _ ∙ (tc _ ∙ (td _ ∙ (te _ ∙ tf _))))
  six_lost (Some a) (Some b) (Some c) (Some d) None rf wa wb wc wd we wf s1 s2 s3 s4 s5 s6 ta tb tc td te tf k p = ta _ ∙ (tb _ ∙ (tc _ ∙ (td _ ∙ te _)))
  six_lost (Some a) (Some b) (Some c) None re rf wa wb wc wd we wf s1 s2 s3 s4 s5 s6 ta tb tc td te tf k p = ta _ ∙ (tb _ ∙ (tc _ ∙ td _))
  six_lost (Some a) (Some b) None rd re rf wa wb wc wd we wf s1 s2 s3 s4 s5 s6 ta tb tc td te tf k p = ta _ ∙ (tb _ ∙ tc _)
  six_lost (Some a) None rc rd re rf wa wb wc wd we wf s1 s2 s3 s4 s5 s6 ta tb tc td te tf k p = ta _ ∙ tb _
  six_lost None rb rc rd re rf wa wb wc wd we wf s1 s2 s3 s4 s5 s6 ta tb tc td te tf k p = ta _

  pub seven_found : {A B C D E F G : Type 0} (ra : Option A) (rb : Option B) (rc : Option C) (rd : Option D) (re : Option E) (rf : Option F) (rg : Option G)
      (wa : (A → S → Option S) → Option S) (wb : S → (B → S → Option S) → Option S) (wc : S → (C → S → Option S) → Option S) (wd : S → (D → S → Option S) → Option S) (we : S → (E → S → Option S) → Option S) (wf : S → (F → S → Option S) → Option S) (wg : S → (G → S → Option S) → Option S) (s1 s2 s3 s4 s5 s6 s7 : S) →
      Took ra wa s1 → Took rb (wb s1) s2 → Took rc (wc s2) s3 → Took rd (wd s3) s4 → Took re (we s4) s5 → Took rf (wf s5) s6 → Took rg (wg s6) s7 → (k : A → B → C → D → E → F → G → S → Option S) (x : A × B × C × D × E × F × G) → all_seven ra rb rc rd re rf rg ≡ Some x →
      wa (λ a st1. wb st1 (λ b st2. wc st2 (λ c st3. wd st3 (λ d st4. we st4 (λ e st5. wf st5 (λ f st6. wg st6 (λ g st7. k a b c d e f g st7))))))) ≡ k x.0 x.1 x.2 x.3 x.4 x.5 x.6 s7
  seven_found (Some a) (Some b) (Some c) (Some d) (Some e) (Some f) (Some g) wa wb wc wd we wf wg s1 s2 s3 s4 s5 s6 s7 ta tb tc td te tf tg k x p = ta _ ∙ (tb _ ∙ (tc _ ∙ (td _ ∙ (te _ ∙ (tf _ ∙ (tg _ ∙ ap (λ y. k y.0 y.1 y.2 y.3 y.4 y.5 y.6 s7) (same p)))))))
  seven_found (Some a) (Some b) (Some c) (Some d) (Some e) (Some f) None wa wb wc wd we wf wg s1 s2 s3 s4 s5 s6 s7 ta tb tc td te tf tg k x p = other p
  seven_found (Some a) (Some b) (Some c) (Some d) (Some e) None rg wa wb wc wd we wf wg s1 s2 s3 s4 s5 s6 s7 ta tb tc td te tf tg k x p = other p
  seven_found (Some a) (Some b) (Some c) (Some d) None rf rg wa wb wc wd we wf wg s1 s2 s3 s4 s5 s6 s7 ta tb tc td te tf tg k x p = other p
  seven_found (Some a) (Some b) (Some c) None re rf rg wa wb wc wd we wf wg s1 s2 s3 s4 s5 s6 s7 ta tb tc td te tf tg k x p = other p
  seven_found (Some a) (Some b) None rd re rf rg wa wb wc wd we wf wg s1 s2 s3 s4 s5 s6 s7 ta tb tc td te tf tg k x p = other p
  seven_found (Some a) None rc rd re rf rg wa wb wc wd we wf wg s1 s2 s3 s4 s5 s6 s7 ta tb tc td te tf tg k x p = other p
  seven_found None rb rc rd re rf rg wa wb wc wd we wf wg s1 s2 s3 s4 s5 s6 s7 ta tb tc td te tf tg k x p = other p

  pub seven_lost : {A B C D E F G : Type 0} (ra : Option A) (rb : Option B) (rc : Option C) (rd : Option D) (re : Option E) (rf : Option F) (rg : Option G)
      (wa : (A → S → Option S) → Option S) (wb : S → (B → S → Option S) → Option S) (wc : S → (C → S → Option S) → Option S) (wd : S → (D → S → Option S) → Option S) (we : S → (E → S → Option S) → Option S) (wf : S → (F → S → Option S) → Option S) (wg : S → (G → S → Option S) → Option S) (s1 s2 s3 s4 s5 s6 s7 : S) →
      Took ra wa s1 → Took rb (wb s1) s2 → Took rc (wc s2) s3 → Took rd (wd s3) s4 → Took re (we s4) s5 → Took rf (wf s5) s6 → Took rg (wg s6) s7 → (k : A → B → C → D → E → F → G → S → Option S) → all_seven ra rb rc rd re rf rg ≡ None →
      wa (λ a st1. wb st1 (λ b st2. wc st2 (λ c st3. wd st3 (λ d st4. we st4 (λ e st5. wf st5 (λ f st6. wg st6 (λ g st7. k a b c d e f g st7))))))) ≡ None
  seven_lost (Some a) (Some b) (Some c) (Some d) (Some e) (Some f) (Some g) wa wb wc wd we wf wg s1 s2 s3 s4 s5 s6 s7 ta tb tc td te tf tg k p = none p
  seven_lost (Some a) (Some b) (Some c) (Some d) (Some e) (Some f) None wa wb wc wd we wf wg s1 s2 s3 s4 s5 s6 s7 ta tb tc td te tf tg k p = ta _ ∙ (tb _ ∙ (tc _ ∙ (td _ ∙ (te _ ∙ (tf _ ∙ tg _)))))
  seven_lost (Some a) (Some b) (Some c) (Some d) (Some e) None rg wa wb wc wd we wf wg s1 s2 s3 s4 s5 s6 s7 ta tb tc td te tf tg k p = ta _ ∙ (tb _ ∙ (tc _ ∙ (td _ ∙ (te _ ∙ tf _))))
  seven_lost (Some a) (Some b) (Some c) (Some d) None rf rg wa wb wc wd we wf wg s1 s2 s3 s4 s5 s6 s7 ta tb tc td te tf tg k p = ta _ ∙ (tb _ ∙ (tc _ ∙ (td _ ∙ te _)))
  seven_lost (Some a) (Some b) (Some c) None re rf rg wa wb wc wd we wf wg s1 s2 s3 s4 s5 s6 s7 ta tb tc td te tf tg k p = ta _ ∙ (tb _ ∙ (tc _ ∙ td _))
  seven_lost (Some a) (Some b) None rd re rf rg wa wb wc wd we wf wg s1 s2 s3 s4 s5 s6 s7 ta tb tc td te tf tg k p = ta _ ∙ (tb _ ∙ tc _)
  seven_lost (Some a) None rc rd re rf rg wa wb wc wd we wf wg s1 s2 s3 s4 s5 s6 s7 ta tb tc td te tf tg k p = ta _ ∙ tb _
  seven_lost None rb rc rd re rf rg wa wb wc wd we wf wg s1 s2 s3 s4 s5 s6 s7 ta tb tc td te tf tg k p = ta _
