-- For the crates above: to make and to take apart the derivations of a grammar.
use Rattle.std.proofs.Common.{◌≡◌, ◌≢◌, ℕ, suc, zero, ◌<◌, ◌≤◌, Bool, true, false, cond, ◌⊎◌, inl, inr, List, [], ◌∷◌, ◌++◌, refl, sym, ◌∙◌, ap, subst, arith}
use Rattle.std.proofs.Math.Dec.{eqb}
use Rattle.std.proofs.lemmas.Bool.{eq-eqb}
use Rattle.std.proofs.lemmas.Bool.Decides.{eqb_tells}
use Rattle.ll_parse.specs.Grammar.{Grammar, next_kind, Derives}
use Rattle.ll_parse.specs.Grammar.Derives.{token, production}

-- the numbers below n that pass a test
abbrev pub among : (ℕ → Bool) → ℕ → List ℕ
among f zero = []
among f (suc n) = cond (f n) (n ∷ among f n) (among f n)

abbrev pub In : ℕ → List ℕ → Type 0
In p [] = ⊥
In p (q ∷ qs) = (p ≡ q) ⊎ In p qs

pub among_in : (f : ℕ → Bool) (n p : ℕ) → p < n → f p ≡ true → In p (among f n)
among_in f zero p l h = absurd (omega arith)
among_in f (suc n) p l h = elim (eqb_tells p n) [
  | inl e ↦ here f n p e.1 h
  | inr e ↦ later_of (f n) n p (among f n) (among_in f n p (let ne = e.1 in omega arith) h)
]
  where
    here : (f : ℕ → Bool) (n p : ℕ) → p ≡ n → f p ≡ true → In p (cond (f n) (n ∷ among f n) (among f n))
    here f n p e h = subst (λ b. In p (cond b (n ∷ among f n) (among f n))) (sym (ap f (sym e) ∙ h)) (inl e)

    later_of : (b : Bool) (n p : ℕ) (qs : List ℕ) → In p qs → In p (cond b (n ∷ qs) qs)
    later_of true n p qs h = inr h
    later_of false n p qs h = h

module _ (g : Grammar) where
  pub use_production : (p s : ℕ) (b ss ps ts : List ℕ) → p < g.productions → s ≡ g.head p → g.body p ≡ b → next_kind ts ≢ g.not_before p → Derives g (b ++ ss) ps ts → Derives g (s ∷ ss) (p ∷ ps) ts
  use_production p s b ss ps ts small is body allowed d = production p ps small is allowed (subst (λ x. Derives g (x ++ ss) ps ts) (sym body) d)

  pub record Used (s : ℕ) (ss ps ts : List ℕ) : Type 0 where
    pub p : ℕ
    pub qs : List ℕ
    pub is : ps ≡ p ∷ qs
    pub which : In p (among (λ q. eqb s (g.head q)) g.productions)
    pub allowed : next_kind ts ≢ g.not_before p
    pub goes : Derives g (g.body p ++ ss) qs ts

  pub used : (s : ℕ) (ss ps ts : List ℕ) → 256 ≤ s → Derives g (s ∷ ss) ps ts → Used s ss ps ts
  used s ss ps ts big (token small d) = absurd (omega arith)
  used s ss ps ts big (production p qs small is allowed d) = record {
    p = p;
    qs = qs;
    is = refl;
    which = among_in (λ q. eqb s (g.head q)) g.productions p small (eq-eqb s (g.head p) is);
    allowed = allowed;
    goes = d;
  }

  -- a token on top of the stack comes first
  pub taken : ((p : ℕ) → p < g.productions → 256 ≤ g.head p) → (k : ℕ) (ss ps ts : List ℕ) → k < 256 → Derives g (k ∷ ss) ps ts → (us : List ℕ) × (ts ≡ k ∷ us) × Derives g ss ps us
  taken heads k ss ps ts small (token _ d) = (_, refl, d)
  taken heads k ss ps ts small (production p qs inside is allowed d) = let b = heads p inside in absurd (omega (arith, b))
