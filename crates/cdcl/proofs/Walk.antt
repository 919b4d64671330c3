-- A growing log is valid and gaining.
use Rattle.std.proofs.Common.{◌≡◌, ℕ, suc, zero, ◌+◌, ◌-◌, ◌<◌, ◌≤◌, ◌^◌, eqb, true, false, inl, inr, List, [], ◌∷◌, ◌++◌, length, take, get_or, Option, Some, None, refl, sym, ap, ◌∙◌, subst, arith, length-append}
use Rattle.std.specs.List.{list_all, IsDistinct, AllByRecursion}
use Rattle.std.specs.Option.{ForSome, option_to_list}
use Rattle.std.proofs.lemmas.Bool.{cases_Bool, cases_order, and_from, eqb-true, eq-eqb, cond-true, cond-false, both_ways, false_from_ne_true}
use Rattle.std.proofs.lemmas.List.{get_or_past}
use Rattle.clause_arena.specs.Clause.{Clause, Clauses, clause_at, is_same, is_below, AreDifferent}
use Rattle.clause_arena.proofs.Count.{count_law}
use Rattle.res_log.specs.Step.{Step}
use Rattle.res_log.specs.Log.{Book, result_of, input, enter, enter_all, book_before, results, results_from, IsValid, EndsEmpty}
use Rattle.res_log.proofs.Length.{plain-results, length-results, IsBelow, some_from}
use Rattle.res_log.proofs.Same.{SameOption, SameBook, same-option-refl, result-same, is_same-sym, is_same-trans}
use Rattle.res_log.specs.Gaining.{IsGainedOver, IsGaining}
use Rattle.res_log.specs.Partial.{is_open}
use Rattle.cdcl.specs.Trail.{AllClauses}
use Rattle.cdcl.specs.Grown.{Grows, Derives, IsGained}
use Rattle.cdcl.proofs.Parts.{some-parts, some-and, Some-is, same-some}
use Rattle.cdcl.proofs.Spread.{get_or-old, get_or-new}
use Rattle.cdcl.proofs.Gains.{learned-new}
use Rattle.cdcl.proofs.Solves.{grows-old}
use Rattle.cdcl.proofs.Growth.{grows-size, grows-id, grows-above, input-is, gained-over, nil-same}

-- where clauses grow by a log, the log is valid and gaining over just the clauses that were there before
abbrev pub GrowthLaw : Type 0
GrowthLaw =
    (old new : Clauses) (log : List Step) → Grows old log new
    → IsValid new log × IsGaining new log × ((id : ℕ) → input new log id ≡ clause_at old id)

-- a log with no empty result over n variables has fewer than 3 ^ n steps
abbrev pub SpentLaw : Type 0
SpentLaw =
    (old new : Clauses) (log : List Step) (n : ℕ) → Grows old log new → AllClauses (is_below n) old → AllClauses is_open new → length log + 1 ≤ 3 ^ n

None≢Some : (c : Clause) → None ≡ Some c → ⊥
None≢Some c e = cc

not-open : (c : Clause) → is_same [] c ≡ true → is_open c ≡ false
not-open [] s = refl
not-open (x ∷ xs) s = cc

other : (now : Clauses) (c : Clause) (id : ℕ) → (id ≡ length now → ⊥) → clause_at (now ++ Some c ∷ []) id ≡ clause_at now id
other now c id n =
    elim (cases_order id (length now)) [
      | inl e ↦ absurd (n e)
      | inr o ↦
          elim o [
            | inl l ↦ get_or-old now (Some c) id None l
            | inr l ↦
                get_or_past (now ++ Some c ∷ []) id None (omega (arith, l, length-append now (Some c ∷ []))) ∙ sym (get_or_past now id None (omega arith))
          ]
    ]

option-same : (o q x y : Option Clause) → o ≡ x → q ≡ y → SameOption x y → SameOption o q
option-same o q x y e f h = subst (λ (z : Option Clause). SameOption z q) (sym e) (subst (λ (z : Option Clause). SameOption x z) (sym f) h)

-- what the first step of a growing log gives
pub record First (now : Clauses) (s : Step) (c : Clause) (b : Book) : Type 0 where
  pub result : Clause
  pub is : result_of b s ≡ Some result
  pub same : is_same c result ≡ true
  pub gained : IsGainedOver b result
  pub next : SameBook (clause_at (now ++ Some c ∷ [])) (enter b s)

first : (now : Clauses) (s : Step) (c : Clause) (b : Book) → Derives now s c → IsGained now c → SameBook (clause_at now) b → First now s c b
first now s c b d g f =
    let w = some-parts (result_of (clause_at now) s) (λ r. is_same r c ≡ true) d.1 in
    let v = same-some (result_of (clause_at now) s) (result_of b s) w.0 (result-same (clause_at now) b f s) w.1 in
    let h : is_same c v.0 ≡ true = is_same-trans c w.0 v.0 (is_same-sym w.0 c w.2) v.2 in
    record {
      result = v.0;
      is = v.1;
      same = h;
      gained = gained-over now b c v.0 f h g;
      next = λ id.
          elim (cases_Bool (eqb s.derived.0 id)) [
            | inl t ↦
                let i : id ≡ length now = sym (eqb-true _ _ t) ∙ d.0 in
                option-same _ _ (Some c) (Some v.0) (ap (clause_at (now ++ Some c ∷ [])) i ∙ get_or-new now (Some c) None) (cond-true _ _ _ t ∙ v.1) h
            | inr n ↦ option-same _ _ (clause_at now id) (b id) (other now c id (λ q. both_ways _ n (eq-eqb _ _ (d.0 ∙ sym q)))) (cond-false _ _ _ n) (f id)
          ];
    }

-- each step of a growing log
pub record At (end : Clauses) (s : Step) (b : Book) : Type 0 where
  pub result : Clause
  pub is : result_of b s ≡ Some result
  pub held : ForSome (clause_at end s.derived.0) (λ c. is_same result c ≡ true)
  pub gained : IsGainedOver b result

walk : (ss : List Step) (now end : Clauses) (b : Book) → Grows now ss end → SameBook (clause_at now) b → (k : ℕ) (d : Step) → k < length ss → At end (get_or ss k d) (enter_all b (take k ss))
walk [] now end b g f k d l = absurd (omega arith)
walk (s ∷ ss) now end b g f zero d l =
    let x = first now s g.0 b g.1 g.2 f in
    let e : clause_at end s.derived.0 ≡ Some g.0 =
    grows-old ss (now ++ Some g.0 ∷ []) end g.3 s.derived.0 g.0 (ap (clause_at (now ++ Some g.0 ∷ [])) g.1.0 ∙ get_or-new now (Some g.0) None)
    in
    record {
      result = x.result;
      is = x.is;
      held = λ c h. subst (λ (y : Clause). is_same x.result y ≡ true) (Some-is _ _ (sym e ∙ h)) (is_same-sym g.0 x.result x.same);
      gained = x.gained;
    }
walk (s ∷ ss) now end b g f (suc k) d l =
    walk ss (now ++ Some g.0 ∷ []) end (enter b s) g.3 (first now s g.0 b g.1 g.2 f).next k d (omega arith)

-- a gained clause is no clause of the book
gained-new : (b : Book) (id : ℕ) (r c : Clause) → b id ≡ Some c → IsGainedOver b r → is_same r c ≡ false
gained-new b id [] c e g = false_from_ne_true _ (λ s. both_ways _ (not-open c s) (g id c e))
gained-new b id (x ∷ xs) c e g = learned-new g.0 (x ∷ xs) c g.1 g.2 (g.3 id c e)

later : (ss : List Step) (now end : Clauses) (b : Book) (id : ℕ) (c : Clause) → Grows now ss end → SameBook (clause_at now) b → id < length now → b id ≡ Some c → AllByRecursion (λ y. is_same c y ≡ false) (results_from b ss)
later [] now end b id c g f l e = tt
later (s ∷ ss) now end b id c g f l e =
    let x = first now s g.0 b g.1 g.2 f in
    let n : eqb s.derived.0 id ≡ false = false_from_ne_true _ (λ t. let q = eqb-true _ _ t in let i = g.1.0 in omega arith) in
    let h = later ss (now ++ Some g.0 ∷ []) end (enter b s) id c g.3 x.next (omega (arith, l, length-append now (Some g.0 ∷ []))) (cond-false _ _ _ n ∙ e) in
    subst (λ (o : Option Clause). AllByRecursion (λ y. is_same c y ≡ false) (option_to_list o ++ results_from (enter b s) ss)) (sym x.is)
    (false_from_ne_true _ (λ t. both_ways _ (gained-new b id x.result c e x.gained) (is_same-sym c x.result t)), h)

different : (ss : List Step) (now end : Clauses) (b : Book) → Grows now ss end → SameBook (clause_at now) b → AreDifferent (results_from b ss)
unfolding IsDistinct
different [] now end b g f = tt
different (s ∷ ss) now end b g f =
    let x = first now s g.0 b g.1 g.2 f in
    let i : length now < length (now ++ Some g.0 ∷ []) = omega (arith, length-append now (Some g.0 ∷ [])) in
    let e : enter b s (length now) ≡ Some x.result = cond-true _ _ _ (eq-eqb _ _ g.1.0) ∙ x.is in
    subst (λ (o : Option Clause). IsDistinct is_same (option_to_list o ++ results_from (enter b s) ss)) (sym x.is)
    (later ss (now ++ Some g.0 ∷ []) end (enter b s) (length now) x.result g.3 x.next i e, different ss (now ++ Some g.0 ∷ []) end (enter b s) g.3 x.next)

start : (old new : Clauses) (log : List Step) → Grows old log new → SameBook (clause_at old) (input new log)
start old new log g id = option-same _ _ (clause_at old id) (clause_at old id) refl (input-is old new log g id) (same-option-refl (clause_at old id))

pub growth_law : GrowthLaw
growth_law old new log g =
    let f = start old new log g in (
      (
        λ k d l.
            let a = walk log old new (input new log) g f k d l in
            let i = grows-id log old new g k d l in (
              grows-above log old new g k (omega arith) (get_or log k d).derived.0 (omega arith),
              omega (arith, grows-size log old new g),
              some-and (result_of (book_before new log k) (get_or log k d)) (λ r. ForSome (clause_at new (get_or log k d).derived.0) (λ c. is_same r c ≡ true)) a.result a.is a.held,
            ),
        different log old new (input new log) g f,
      ),
      λ k d l.
          let a = walk log old new (input new log) g f k d l in
          some-and (result_of (book_before new log k) (get_or log k d)) (IsGainedOver (book_before new log k)) a.result a.is a.gained,
      input-is old new log g,
    )

open-results : (ss : List Step) (now end : Clauses) (b : Book) → Grows now ss end → SameBook (clause_at now) b → AllClauses is_open end → AllByRecursion (λ y. is_same [] y ≡ false) (results_from b ss)
open-results [] now end b g f o = tt
open-results (s ∷ ss) now end b g f o =
    let x = first now s g.0 b g.1 g.2 f in
    let h = open-results ss (now ++ Some g.0 ∷ []) end (enter b s) g.3 x.next o in
    let e : clause_at end (length now) ≡ Some g.0 = grows-old ss (now ++ Some g.0 ∷ []) end g.3 (length now) g.0 (get_or-new now (Some g.0) None) in
    subst (λ (q : Option Clause). AllByRecursion (λ y. is_same [] y ≡ false) (option_to_list q ++ results_from (enter b s) ss)) (sym x.is)
    (false_from_ne_true _ (λ t. both_ways _ (not-open x.result t) (nil-same g.0 x.result x.same (o (length now) g.0 e))), h)

empty-too : (cs : List Clause) → AllByRecursion (λ y. is_same [] y ≡ false) cs → AreDifferent cs → AreDifferent ([] ∷ cs)
unfolding IsDistinct
empty-too cs a d = (a, d)

pub spent_law : SpentLaw
spent_law old new log n g b o =
    let v = growth_law old new log g in
    let f = start old new log g in
    let below : IsBelow n (input new log) = λ id c e. b id c (sym (input-is old new log g id) ∙ e) in
    let e : length (results new log) ≡ length log =
    length-results log (input new log)
    (λ k d l. some_from (result_of (book_before new log k) (get_or log k d)) (λ r. ForSome (clause_at new (get_or log k d).derived.0) (λ c. is_same r c ≡ true)) (v.0.0 k d l).2)
    in
    let h = count_law n ([] ∷ results new log) (plain-results n log (input new log) below) (empty-too (results new log) (open-results log old new (input new log) g f o) (different log old new (input new log) g f)) in
    omega (arith, h, e)

pub results-open : (ss : List Step) (now end : Clauses) (b : Book) → Grows now ss end → SameBook (clause_at now) b → AllClauses is_open end → list_all is_open (results_from b ss) ≡ true
results-open [] now end b g f o = refl
results-open (s ∷ ss) now end b g f o =
    let x = first now s g.0 b g.1 g.2 f in
    let h = results-open ss (now ++ Some g.0 ∷ []) end (enter b s) g.3 x.next o in
    let e : clause_at end (length now) ≡ Some g.0 = grows-old ss (now ++ Some g.0 ∷ []) end g.3 (length now) g.0 (get_or-new now (Some g.0) None) in
    subst (λ (q : Option Clause). list_all is_open (option_to_list q ++ results_from (enter b s) ss) ≡ true) (sym x.is)
    (and_from _ _ (nil-same g.0 x.result x.same (o (length now) g.0 e)) h)

pub log-results-open : (old new : Clauses) (log : List Step) → Grows old log new → AllClauses is_open new → list_all is_open (results new log) ≡ true
log-results-open old new log g o = results-open log old new (input new log) g (start old new log g) o

nil-of : (r : Clause) → is_same r [] ≡ true → r ≡ []
nil-of [] h = refl
nil-of (x ∷ xs) h = cc

pub ends-empty : (old new : Clauses) (log : List Step) → Grows old log new → 0 < length log → clause_at new (length old + (length log - 1)) ≡ Some [] → EndsEmpty new log
ends-empty old new [] g l e = absurd (omega (arith, l))
ends-empty old new (s ∷ ss) g l e =
    λ d.
    let k : length ss < length (s ∷ ss) = omega arith in
    let a = walk (s ∷ ss) old new (input new (s ∷ ss)) g (start old new (s ∷ ss) g) (length ss) d k in
    let i : (get_or (s ∷ ss) (length ss) d).derived.0 ≡ length old + length ss = grows-id (s ∷ ss) old new g (length ss) d k in
    let n : length old + length ss ≡ length old + (length (s ∷ ss) - 1) = omega arith in
    let q : is_same a.result [] ≡ true = a.held [] (ap (clause_at new) (i ∙ n) ∙ e) in
    a.is ∙ ap (λ (c : Clause). Some c) (nil-of a.result q)
