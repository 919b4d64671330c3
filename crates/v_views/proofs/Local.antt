-- What a statement does depends on the bits that it reads from outside, and it changes only those that it assigns.
use Rattle.std.proofs.Common.{◌≡◌, ℕ, ◌+◌, ◌%◌, ◌^◌, ◌<◌, List, [], ◌∷◌, ◌++◌, Bool, true, false, ◌⊎◌, inl, inr, refl, sym, ap, ◌∙◌, subst, arith}
use Rattle.std.specs.Prelude.{◌&&◌, ◌||◌, not, nat_lt, nat_le, if◌then◌else◌}
use Rattle.std.proofs.lemmas.Nat.{pow_pos}
use Rattle.v_tree.specs.declared.stmt.AssignmentKind.TheVariants.{Blocking, Nonblocking}
use Rattle.v_views.specs.declared.Pattern.{Pattern}
use Rattle.v_views.specs.declared.Stmt.{Stmt}
use Rattle.v_views.specs.declared.Stmt as stmt
use Rattle.v_views.specs.declared.CaseItem.{CaseItem}
use Rattle.v_views.specs.declared.CaseItem as item
use Rattle.v_views.specs.Spots.{Spot, View, BitWrite, is_written}
use Rattle.v_views.specs.Language.{own_sites, Language}
use Rattle.v_views.specs.Run.{State, pattern_sites, stmt_sites, case_length, case_signed, matches, writes, assigned, holds, hits, run, run_row, first_match, default_of}
use Rattle.v_views.specs.Names.{blank, no_sites, every, target_certain, patterns_read, patterns_fixed, items_read, items_fixed, has_default, is_met, is_complete, is_full, certain, row_certain, items_certain, outside, row_outside, items_outside}
use Rattle.v_views.proofs.Bools.{and_parts, both, or_cases, or_left, or_right, true_or_false, not_both}
use Rattle.v_views.proofs.Bits.{matches_mod, every_below}
use Rattle.v_views.proofs.Writing.{written_alike, writes_local, writes_certain}

-- alike on some bits, with the same updates that wait
pub record Alike (D : Spot → Type 0) (p q : State) : Type 0 where
  pub view : (x : Spot) → D x → p.view x ≡ q.view x
  pub pending : p.pending ≡ q.pending

pub alike_less : (D X : Spot → Type 0) (p q : State) → ((x : Spot) → X x → D x) → Alike D p q → Alike X p q
alike_less D X p q h A = record { view = λ x e. A.view x (h x e); pending = A.pending }

if_alike : (D : Spot → Type 0) (b c : Bool) (p q r s : State) → b ≡ c → Alike D p q → Alike D r s → Alike D (if b then p else r) (if c then q else s)
if_alike D b c p q r s e A B = subst (λ c. Alike D (if b then p else r) (if c then q else s)) e (pick b)
  where
    pick : (b : Bool) → Alike D (if b then p else r) (if b then q else s)
    pick true = A
    pick false = B

-- the same where the second parts are alike only if they are taken
pick_alike : (D : Spot → Type 0) (b c : Bool) (p q r s : State) → b ≡ c → Alike D p q → (c ≡ false → Alike D r s) → Alike D (if b then p else r) (if c then q else s)
pick_alike D b c p q r s e A B = subst (λ b. Alike D (if b then p else r) (if c then q else s)) (sym e) (pick c B)
  where
    pick : (c : Bool) → (c ≡ false → Alike D r s) → Alike D (if c then p else r) (if c then q else s)
    pick true f = A
    pick false f = f refl

-- bits where D holds, or that are assigned for certain
abbrev pub With : (Spot → Type 0) → (Spot → Bool) → Spot → Type 0
With D f x = D x ⊎ (f x ≡ true)

none_certain : (D : Spot → Type 0) (p q : State) → Alike D p q → Alike (With D (λ x. false)) p q
none_certain D p q A = alike_less D (With D (λ x. false)) p q (λ x d. elim d [ inl e ↦ e | inr e ↦ cc ]) A

assigned_alike : (D : Spot → Type 0) (f : Spot → Bool) (p q : State) (bs : List BitWrite) → ((x : Spot) → f x ≡ true → is_written bs x ≡ true) → Alike D p q → Alike (With D f) (assigned Blocking bs p) (assigned Blocking bs q)
assigned_alike D f p q bs h A = record {
  view = λ x d. written_alike bs p.view q.view x (elim d [ inl e ↦ inl (A.view x e) | inr c ↦ inr (h x c) ]);
  pending = A.pending;
}

waiting_alike : (D : Spot → Type 0) (p q : State) (bs : List BitWrite) → Alike D p q → Alike D (assigned Nonblocking bs p) (assigned Nonblocking bs q)
waiting_alike D p q bs A = record { view = A.view; pending = ap (λ l. l ++ bs) A.pending }

module _ {E : Type 0} (l : Language E) (u : ℕ → ℕ) where
  holds_local : (e : E) (v w : View) (k : ℕ) → ((x : Spot) → l.reads e x ≡ true → v x ≡ w x) → holds l u e v k ≡ holds l u e w k
  holds_local e v w k h = ap (λ n. nat_lt 0 n) (l.local e v w u (l.length e) (l.signed e) k h)

  hits_local : (W : ℕ) (sign : Bool) (n : ℕ) (ps : List (Pattern E)) (v w : View) (k : ℕ) → ((x : Spot) → patterns_read l ps x ≡ true → v x ≡ w x) → hits l u W sign n ps v k ≡ hits l u W sign n ps w k
  hits_local W sign n [] v w k h = refl
  hits_local W sign n (p ∷ ps) v w k h =
      ap (λ m. matches W p.loose.value n m || hits l u W sign n ps v (k + l.sites p.value W)) (l.local p.value v w u W sign k (λ x r. h x (or_left (l.reads p.value x) (patterns_read l ps x) r)))
      ∙ ap (λ b. matches W p.loose.value n (l.value p.value w u W sign k) || b) (hits_local W sign n ps v w (k + l.sites p.value W) (λ x r. h x (or_right (l.reads p.value x) (patterns_read l ps x) r)))

  -- items of constants match the same in every view
  hits_steady : (W : ℕ) (sign : Bool) (n : ℕ) (ps : List (Pattern E)) (v : View) (j k : ℕ) → patterns_fixed l W sign ps ≡ true → hits l u W sign n ps v j ≡ hits l no_sites W sign n ps blank k
  hits_steady W sign n [] v j k h = refl
  hits_steady W sign n (p ∷ ps) v j k h =
      let f = and_parts (l.fixed p.value W sign) (patterns_fixed l W sign ps) h in
      ap (λ m. matches W p.loose.value n m || hits l u W sign n ps v (j + l.sites p.value W)) (l.steady p.value v blank u no_sites W sign j k f.0)
      ∙ ap (λ b. matches W p.loose.value n (l.value p.value blank no_sites W sign k) || b) (hits_steady W sign n ps v (j + l.sites p.value W) (k + l.sites p.value W) f.1)

  hits_mod : (t : ℕ → ℕ) (W : ℕ) (sign : Bool) (n : ℕ) (ps : List (Pattern E)) (v : View) (k : ℕ) → hits l t W sign (n % 2 ^ W) ps v k ≡ hits l t W sign n ps v k
  hits_mod t W sign n [] v k = refl
  hits_mod t W sign n (p ∷ ps) v k =
      ap (λ b. b || hits l t W sign (n % 2 ^ W) ps v (k + l.sites p.value W)) (matches_mod W W p.loose.value n (l.value p.value v t W sign k) (omega arith))
      ∙ ap (λ b. matches W p.loose.value n (l.value p.value v t W sign k) || b) (hits_mod t W sign n ps v (k + l.sites p.value W))

  met_mod : {m : _} (W : ℕ) (sign : Bool) (items : stmt.Row_of-CaseItem E m) (n : ℕ) → is_met l W sign items (n % 2 ^ W) ≡ is_met l W sign items n
  met_mod W sign stmt.end_of-CaseItem n = refl
  met_mod W sign (stmt.more_of-CaseItem (item.Values' ps _ a) rest) n =
      ap (λ b. b || is_met l W sign rest (n % 2 ^ W)) (hits_mod no_sites W sign n ps blank 0)
      ∙ ap (λ b. hits l no_sites W sign n ps blank 0 || b) (met_mod W sign rest n)
  met_mod W sign (stmt.more_of-CaseItem (item.Default' p _ a) rest) n = met_mod W sign rest n

  -- in a complete case every number matches an item
  pub complete_met : {m : _} (W : ℕ) (sign : Bool) (items : stmt.Row_of-CaseItem E m) → is_complete l W sign items ≡ true → (n : ℕ) → (items_fixed l W sign items ≡ true) × (is_met l W sign items n ≡ true)
  complete_met W sign items h n =
      let a = and_parts (nat_le W 8) (items_fixed l W sign items && every (2 ^ W) (is_met l W sign items)) h in
      let b = and_parts (items_fixed l W sign items) (every (2 ^ W) (is_met l W sign items)) a.1 in
      let lt : n % 2 ^ W < 2 ^ W = below n (2 ^ W) (pow_pos W) in
      (b.0, sym (met_mod W sign items n) ∙ every_below (2 ^ W) (is_met l W sign items) (n % 2 ^ W) b.1 lt)
    where
      below : (n m : ℕ) → 0 < m → n % m < m
      below n m lt = omega arith

  -- a constant item matches, or what follows where none does is alike
  abbrev Ends : {m : _} → (Spot → Type 0) → ℕ → Bool → ℕ → stmt.Row_of-CaseItem E m → State → State → Type 0
  Ends X W sign n items p q = ((items_fixed l W sign items ≡ true) × (is_met l W sign items n ≡ true)) ⊎ Alike X p q

  mutual
    pub local : (s : Stmt E) (k : ℕ) (D : Spot → Type 0) (p q : State) → ((x : Spot) → outside l s x ≡ true → D x) → Alike D p q → Alike (With D (certain l s)) (run l u s k p) (run l u s k q)
    local (stmt.Block' place _ body) k D p q h A = local_row body k D p q h A
    local (stmt.If' place e _ (stmt.more_of-Stmt a _)) k D p q h A =
        let v = holds_local e p.view q.view k (λ x r. A.view x (h x (or_left (l.reads e x) (outside l a x) r))) in
        let F = local a (k + own_sites l e) D p q (λ x o. h x (or_right (l.reads e x) (outside l a x) o)) A in
        none_certain D _ _ (if_alike D _ _ _ _ _ _ v (alike_less (With D (certain l a)) D _ _ (λ x d. inl d) F) A)
    local (stmt.IfElse' place e _ (stmt.more_of-Stmt a _) _ (stmt.more_of-Stmt b _)) k D p q h A =
        let X = With D (λ x. certain l a x && certain l b x) in
        let o : Spot → Bool = λ x. outside l a x || outside l b x in
        let v = holds_local e p.view q.view k (λ x r. A.view x (h x (or_left (l.reads e x) (o x) r))) in
        let F = local a (k + own_sites l e) D p q (λ x t. h x (or_right (l.reads e x) (o x) (or_left (outside l a x) (outside l b x) t))) A in
        let G = local b (k + own_sites l e + stmt_sites l a) D p q (λ x t. h x (or_right (l.reads e x) (o x) (or_right (outside l a x) (outside l b x) t))) A in
        if_alike X _ _ _ _ _ _ v
        (alike_less (With D (certain l a)) X _ _ (λ x d. elim d [ inl c ↦ inl c | inr c ↦ inr (and_parts (certain l a x) (certain l b x) c).0 ]) F)
        (alike_less (With D (certain l b)) X _ _ (λ x d. elim d [ inl c ↦ inl c | inr c ↦ inr (and_parts (certain l a x) (certain l b x) c).1 ]) G)
    local (stmt.Case' place e _ items) k D p q h A =
        let W = case_length l (l.length e) items in
        let sign = case_signed l (l.signed e) items in
        let j = k + l.sites e W in
        let X = With D (certain l (stmt.Case' place e _ items)) in
        let o : Spot → Bool = λ x. items_read l items x || items_outside l items x in
        let v = l.local e p.view q.view u W sign k (λ x r. A.view x (h x (or_left (l.reads e x) (o x) r))) in
        let n = l.value e q.view u W sign k in
        let reads : (x : Spot) → items_read l items x ≡ true → D x = λ x r. h x (or_right (l.reads e x) (o x) (or_left (items_read l items x) (items_outside l items x) r)) in
        let outs : (x : Spot) → items_outside l items x ≡ true → D x = λ x r. h x (or_right (l.reads e x) (o x) (or_right (items_read l items x) (items_outside l items x) r)) in
        let full = is_full l e items in
        let op = default_of l u W items j p in
        let oq = default_of l u W items j q in
        let by : ((x : Spot) → X x → With D (items_certain l items) x) → Ends X W sign n items op oq → Alike X (run l u (stmt.Case' place e _ items) k p) (run l u (stmt.Case' place e _ items) k q) =
        λ c ends. subst (λ m. Alike X (first_match l u W sign m items j p op) (first_match l u W sign n items j q oq)) (sym v)
        (local_first items W sign n j D X p q op oq reads outs c A ends) in
        elim (true_or_false full) [
          | inl t ↦
              let c : (x : Spot) → X x → With D (items_certain l items) x = λ x d. elim d [ inl c ↦ inl c | inr c ↦ inr (and_parts full (items_certain l items x) c).1 ] in
              by c (elim (or_cases (has_default l items) (is_complete l W sign items) t) [
                | inl y ↦ inr (local_default items W j D X p q outs c (inl y) A)
                | inr y ↦ inl (complete_met W sign items y.1 n)
              ])
          | inr f ↦
              let c : (x : Spot) → X x → D x = λ x d. elim d [ inl c ↦ c | inr c ↦ absurd (not_both full (and_parts full (items_certain l items x) c).0 f) ] in
              by (λ x d. inl (c x d)) (inr (local_default items W j D X p q outs (λ x d. inl (c x d)) (inr c) A))
        ]
    local (stmt.Assignment place Blocking t e) k D p q h A =
        let bs = writes l u t e q.view k in
        subst (λ b. Alike (With D (target_certain l t)) (assigned Blocking b p) (assigned Blocking bs q))
        (sym (writes_local l u t e p.view q.view k (λ x r. A.view x (h x r))))
        (assigned_alike D (target_certain l t) p q bs (λ x c. writes_certain l u t e q.view k x c) A)
    local (stmt.Assignment place Nonblocking t e) k D p q h A =
        let bs = writes l u t e q.view k in
        none_certain D _ _
        (subst (λ b. Alike D (assigned Nonblocking b p) (assigned Nonblocking bs q))
        (sym (writes_local l u t e p.view q.view k (λ x r. A.view x (h x r))))
        (waiting_alike D p q bs A))

    pub local_row : {m : _} (body : stmt.Row_of-Stmt E m) (k : ℕ) (D : Spot → Type 0) (p q : State) → ((x : Spot) → row_outside l body x ≡ true → D x) → Alike D p q → Alike (With D (row_certain l body)) (run_row l u body k p) (run_row l u body k q)
    local_row stmt.end_of-Stmt k D p q h A = none_certain D p q A
    local_row (stmt.more_of-Stmt a rest) k D p q h A =
        let F = local a k D p q (λ x o. h x (or_left (outside l a x) (not (certain l a x) && row_outside l rest x) o)) A in
        let G = local_row rest (k + stmt_sites l a) (With D (certain l a)) (run l u a k p) (run l u a k q) (λ x o. elim (true_or_false (certain l a x)) [
          | inl t ↦ inr t
          | inr f ↦ inl (h x (or_right (outside l a x) (not (certain l a x) && row_outside l rest x) (both (not (certain l a x)) (row_outside l rest x) (ap not f) o)))
        ]) F in
        alike_less _ _ _ _ (λ x d. elim d [
          | inl e ↦ inl (inl e)
          | inr e ↦ elim (or_cases (certain l a x) (row_certain l rest x) e) [ inl t ↦ inl (inr t) | inr f ↦ inr f.1 ]
        ]) G

    -- items: alike on X, whose bits are those of D and perhaps those that all branches assign
    local_first : {m : _} (items : stmt.Row_of-CaseItem E m) (W : ℕ) (sign : Bool) (n k : ℕ) (D X : Spot → Type 0) (p q other_p other_q : State) → ((x : Spot) → items_read l items x ≡ true → D x) → ((x : Spot) → items_outside l items x ≡ true → D x) → ((x : Spot) → X x → With D (items_certain l items) x) → Alike D p q → Ends X W sign n items other_p other_q → Alike X (first_match l u W sign n items k p other_p) (first_match l u W sign n items k q other_q)
    local_first stmt.end_of-CaseItem W sign n k D X p q other_p other_q r h c A o = elim o [ inl t ↦ absurd (not_both false t.1 refl) | inr B ↦ B ]
    local_first (stmt.more_of-CaseItem (item.Values' ps _ (stmt.more_of-Stmt a _)) rest) W sign n k D X p q other_p other_q r h c A o =
        let v = hits_local W sign n ps p.view q.view k (λ x t. A.view x (r x (or_left (patterns_read l ps x) (items_read l rest x) t))) in
        let here = local a (k + pattern_sites l W ps) D p q (λ x t. h x (or_left (outside l a x) (items_outside l rest x) t)) A in
        let first = alike_less (With D (certain l a)) X _ _ (λ x e. elim (c x e) [ inl d ↦ inl d | inr d ↦ inr (and_parts (certain l a x) (items_certain l rest x) d).0 ]) here in
        let after : Ends X W sign n rest other_p other_q → Alike X (first_match l u W sign n rest (k + pattern_sites l W ps + stmt_sites l a) p other_p) (first_match l u W sign n rest (k + pattern_sites l W ps + stmt_sites l a) q other_q) = λ ends. local_first rest W sign n (k + pattern_sites l W ps + stmt_sites l a) D X p q other_p other_q
        (λ x t. r x (or_right (patterns_read l ps x) (items_read l rest x) t))
        (λ x t. h x (or_right (outside l a x) (items_outside l rest x) t))
        (λ x e. elim (c x e) [ inl d ↦ inl d | inr d ↦ inr (and_parts (certain l a x) (items_certain l rest x) d).1 ]) A ends in
        pick_alike X _ _ _ _ _ _ v first (λ miss. after (elim o [
          | inl t ↦
              let f = and_parts (patterns_fixed l W sign ps) (items_fixed l W sign rest) t.0 in
              elim (or_cases (hits l no_sites W sign n ps blank 0) (is_met l W sign rest n) t.1) [
                | inl s ↦ absurd (not_both (hits l u W sign n ps q.view k) (hits_steady W sign n ps q.view k 0 f.0 ∙ s) miss)
                | inr s ↦ inl (f.1, s.1)
              ]
          | inr B ↦ inr B
        ]))
    local_first (stmt.more_of-CaseItem (item.Default' place _ (stmt.more_of-Stmt a _)) rest) W sign n k D X p q other_p other_q r h c A o =
        local_first rest W sign n (k + stmt_sites l a) D X p q other_p other_q r
        (λ x t. h x (or_right (outside l a x) (items_outside l rest x) t))
        (λ x e. elim (c x e) [ inl d ↦ inl d | inr d ↦ inr (and_parts (certain l a x) (items_certain l rest x) d).1 ]) A o

    local_default : {m : _} (items : stmt.Row_of-CaseItem E m) (W : ℕ) (k : ℕ) (D X : Spot → Type 0) (p q : State) → ((x : Spot) → items_outside l items x ≡ true → D x) → ((x : Spot) → X x → With D (items_certain l items) x) → (has_default l items ≡ true) ⊎ ((x : Spot) → X x → D x) → Alike D p q → Alike X (default_of l u W items k p) (default_of l u W items k q)
    local_default stmt.end_of-CaseItem W k D X p q h c o A = elim o [ inl t ↦ absurd (not_both false t refl) | inr f ↦ alike_less D X p q f A ]
    local_default (stmt.more_of-CaseItem (item.Values' ps _ (stmt.more_of-Stmt a _)) rest) W k D X p q h c o A =
        local_default rest W (k + pattern_sites l W ps + stmt_sites l a) D X p q
        (λ x t. h x (or_right (outside l a x) (items_outside l rest x) t))
        (λ x e. elim (c x e) [ inl d ↦ inl d | inr d ↦ inr (and_parts (certain l a x) (items_certain l rest x) d).1 ]) o A
    local_default (stmt.more_of-CaseItem (item.Default' place _ (stmt.more_of-Stmt a _)) rest) W k D X p q h c o A =
        alike_less (With D (certain l a)) X _ _ (λ x e. elim (c x e) [ inl d ↦ inl d | inr d ↦ inr (and_parts (certain l a x) (items_certain l rest x) d).0 ])
        (local a k D p q (λ x t. h x (or_left (outside l a x) (items_outside l rest x) t)) A)
