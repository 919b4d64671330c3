-- What keeps the first steps of a log sound: more clauses, more steps, dead derived clauses, other orders of literals.
use Rattle.std.proofs.Common.{inl, inr, ◌≡◌, ℕ, ◌<◌, ◌≤◌, Bool, true, false, List, [], ◌∷◌, ◌++◌, length, take, set, get_or, Option, Some, None, eqb, cond, refl, sym, ◌∙◌, ap, subst, arith, length-append}
use Rattle.std.specs.Option.{option_and_then, IsSomeAnd, ForSome}
use Rattle.std.proofs.lemmas.Bool.{cases_Bool, cases_lt, cases_eq, cond-true, cond-false, ne_eqb, both_ways, or_from}
use Rattle.std.proofs.lemmas.List.{take-take, take-append-le, get_or-take, get_or-set_same, get_or-set_other, get_or_past, get_or_append_left, length-set}
use Rattle.std.proofs.lemmas.List.Folds.{list_any-append}
use Rattle.clause_arena.specs.Clause.{Clause, Clauses, clause_at, is_same, resolve}
use Rattle.res_log.specs.declared.ChainStep.{ChainStep}
use Rattle.res_log.specs.Step.{Step}
use Rattle.res_log.specs.Log.{Book, derives, chain, result_of, input, enter, enter_all, book_before, IsSoundStep}
use Rattle.res_log.specs.Segments.{AreSoundBelow}
use Rattle.res_log.proofs.Same.{SameOption, is_same-refl, is_same-sym, is_same-trans, resolve-same}
use Rattle.res_log.proofs.Refutes.{and_then-Some, unless_Some, Some-same}
use Rattle.res_log.proofs.Right.{some-and, some-parts}

-- what the first book has, the second has too, as sets of literals
abbrev pub Refines : Book → Book → Type 0
Refines a b = (id : ℕ) (c : Clause) → a id ≡ Some c → IsSomeAnd (b id) (λ d. is_same c d ≡ true)

same-some : (o p : Option Clause) (c : Clause) → o ≡ Some c → SameOption o p → IsSomeAnd p (λ d. is_same c d ≡ true)
same-some None p c e s = cc
same-some (Some x) None c e s = absurd s
same-some (Some x) (Some y) c e s = subst (λ (z : Clause). is_same z y ≡ true) (Some-same x c e) s

then-some : (o : Option Clause) (f : Clause → Option Clause) (x : Clause) → o ≡ Some x → option_and_then f o ≡ f x
then-some o f x e = ap (option_and_then f) e

chain-refines : (a b : Book) → Refines a b → (xs : List ChainStep) (c d r : Clause) → is_same c d ≡ true → chain a xs c ≡ Some r → IsSomeAnd (chain b xs d) (λ q. is_same r q ≡ true)
chain-refines a b f [] c d r s e = subst (λ (x : Clause). is_same x d ≡ true) (Some-same _ _ e) s
chain-refines a b f (x ∷ xs) c d r s e =
    let p = and_then-Some (λ d. option_and_then (chain a xs) (resolve c d x.pivot)) (a x.clause.0) r e in
    let q = and_then-Some (chain a xs) (resolve c p.0 x.pivot) r p.2 in
    let u = some-parts (b x.clause.0) (λ y. is_same p.0 y ≡ true) (f x.clause.0 p.0 p.1) in
    let v = some-parts (resolve d u.0 x.pivot) (λ y. is_same q.0 y ≡ true) (same-some (resolve c p.0 x.pivot) (resolve d u.0 x.pivot) q.0 q.1 (resolve-same c d p.0 u.0 x.pivot s u.2)) in
    let w = chain-refines a b f xs q.0 v.0 r v.2 q.2 in
    subst (λ (o : Option Clause). IsSomeAnd o (λ y. is_same r y ≡ true))
    (sym (then-some (b x.clause.0) (λ y. option_and_then (chain b xs) (resolve d y x.pivot)) u.0 u.1 ∙ then-some (resolve d u.0 x.pivot) (chain b xs) v.0 v.1)) w

result-refines : (a b : Book) → Refines a b → (s : Step) (r : Clause) → result_of a s ≡ Some r → IsSomeAnd (result_of b s) (λ q. is_same r q ≡ true)
result-refines a b f s r e =
    let p = and_then-Some (chain a s.rest) (cond (eqb (length s.rest) 0) None (a s.first.0)) r e in
    let q = unless_Some (eqb (length s.rest) 0) (a s.first.0) p.0 p.1 in
    let u = some-parts (b s.first.0) (λ y. is_same p.0 y ≡ true) (f s.first.0 p.0 q.1) in
    subst (λ (o : Option Clause). IsSomeAnd o (λ y. is_same r y ≡ true))
    (sym (then-some (cond (eqb (length s.rest) 0) None (b s.first.0)) (chain b s.rest) u.0 (cond-false _ _ _ q.0 ∙ u.1)))
    (chain-refines a b f s.rest p.0 u.0 r u.2 p.2)

enter-refines : (a b : Book) → Refines a b → (s : Step) → Refines (enter a s) (enter b s)
enter-refines a b f s id c e =
    elim (cases_Bool (eqb s.derived.0 id)) [
      | inl t ↦
          subst (λ (o : Option Clause). IsSomeAnd o (λ y. is_same c y ≡ true)) (sym (cond-true (eqb s.derived.0 id) (result_of b s) (b id) t))
          (result-refines a b f s c (sym (cond-true (eqb s.derived.0 id) (result_of a s) (a id) t) ∙ e))
      | inr t ↦
          subst (λ (o : Option Clause). IsSomeAnd o (λ y. is_same c y ≡ true)) (sym (cond-false (eqb s.derived.0 id) (result_of b s) (b id) t))
          (f id c (sym (cond-false (eqb s.derived.0 id) (result_of a s) (a id) t) ∙ e))
    ]

all-refines : (ss : List Step) (a b : Book) → Refines a b → Refines (enter_all a ss) (enter_all b ss)
all-refines [] a b f = f
all-refines (s ∷ ss) a b f = all-refines ss (enter a s) (enter b s) (enter-refines a b f s)

-- the first n steps stay sound where their inputs are still there, and each id has the set that it had, or is dead
pub keeps : (arena more : Clauses) (log longer : List Step) (n : ℕ) → length arena ≤ length more → n ≤ length log → take n longer ≡ take n log → Refines (input arena log) (input more longer)
    → ((id : ℕ) (d : Clause) → id < length arena → clause_at more id ≡ Some d → IsSomeAnd (clause_at arena id) (λ c. is_same c d ≡ true))
    → AreSoundBelow arena log n → AreSoundBelow more longer n
keeps arena more log longer n wide within same refines kept f k d l =
    let s : Step = get_or log k d in
    let t : Step = get_or longer k d in
    let e : s ≡ t = sym (get_or-take n log k d l) ∙ ap (λ (xs : List Step). get_or xs k d) (sym same) ∙ get_or-take n longer k d l in
    let front : take k log ≡ take k longer = sym (take-take k n log (omega arith)) ∙ ap (take k) (sym same) ∙ take-take k n longer (omega arith) in
    let p = f k d l in
    let r = some-parts (result_of (book_before arena log k) s) (λ r. ForSome (clause_at arena s.derived.0) (λ c. is_same r c ≡ true)) p.2 in
    let books : Refines (book_before arena log k) (book_before more longer k) =
    subst (λ (xs : List Step). Refines (enter_all (input arena log) (take k log)) (enter_all (input more longer) xs)) front (all-refines (take k log) (input arena log) (input more longer) refines) in
    let q = some-parts (result_of (book_before more longer k) s) (λ q. is_same r.0 q ≡ true) (result-refines (book_before arena log k) (book_before more longer k) books s r.0 r.1) in
    let holds : ForSome (clause_at more s.derived.0) (λ c. is_same q.0 c ≡ true) = λ (c : Clause) (g : clause_at more s.derived.0 ≡ Some c).
    let w = some-parts (clause_at arena s.derived.0) (λ b. is_same b c ≡ true) (kept s.derived.0 c p.1 g) in
    is_same-trans q.0 r.0 c (is_same-sym r.0 q.0 q.2) (is_same-trans r.0 w.0 c (r.2 w.0 w.1) w.2)
    in
    let sound : IsSoundStep more longer k s = (
      ap (λ (xs : List Step). derives xs s.derived.0) (sym front) ∙ p.0,
      omega (arith, p.1),
      some-and (result_of (book_before more longer k) s) (λ r. ForSome (clause_at more s.derived.0) (λ c. is_same r c ≡ true)) q.0 q.1 holds,
    )
    in subst (λ (x : Step). IsSoundStep more longer k x) e sound

live-input : (b : Bool) (o : Option Clause) (c : Clause) → cond b None o ≡ Some c → (b ≡ false) × (o ≡ Some c)
live-input true o c e = cc
live-input false o c e = (refl, e)

some-lt : (arena : Clauses) (id : ℕ) (c : Clause) → clause_at arena id ≡ Some c → id < length arena
some-lt arena id c e =
    elim (cases_lt id (length arena)) [
      | inl l ↦ l
      | inr l ↦ let n : clause_at arena id ≡ None = get_or_past arena id None l in cc
    ]

same-still : (o : Option Clause) (c : Clause) → o ≡ Some c → IsSomeAnd o (λ d. is_same c d ≡ true)
same-still o c e = some-and o (λ d. is_same c d ≡ true) c e (is_same-refl c)

still-same : (o : Option Clause) (d : Clause) → o ≡ Some d → IsSomeAnd o (λ c. is_same c d ≡ true)
still-same o d e = some-and o (λ c. is_same c d ≡ true) d e (is_same-refl d)

-- one clause more
pub keeps-push : (arena : Clauses) (log : List Step) (n : ℕ) (o : Option Clause) → n ≤ length log → AreSoundBelow arena log n → AreSoundBelow (arena ++ o ∷ []) log n
keeps-push arena log n o within f =
    keeps arena (arena ++ o ∷ []) log log n (omega (arith, length-append arena (o ∷ []))) within refl
    (λ id c e.
    let w = live-input (derives log id) (clause_at arena id) c e in
    same-still (input (arena ++ o ∷ []) log id) c
    (cond-false (derives log id) None (clause_at (arena ++ o ∷ []) id) w.0 ∙ get_or_append_left arena (o ∷ []) None id (some-lt arena id c w.1) ∙ w.1))
    (λ id d l e. still-same (clause_at arena id) d (sym (get_or_append_left arena (o ∷ []) None id l) ∙ e))
    f

-- one clause more, and a step at the log's end that derives its id
pub keeps-derive : (arena : Clauses) (log : List Step) (n : ℕ) (o : Option Clause) (s : Step) → n ≤ length log → s.derived.0 ≡ length arena → AreSoundBelow arena log n → AreSoundBelow (arena ++ o ∷ []) (log ++ s ∷ []) n
keeps-derive arena log n o s within at f =
    keeps arena (arena ++ o ∷ []) log (log ++ s ∷ []) n (omega (arith, length-append arena (o ∷ []))) within (take-append-le n log (s ∷ []) within)
    (λ id c e.
    let w = live-input (derives log id) (clause_at arena id) c e in
    let l = some-lt arena id c w.1 in
    let no : derives (log ++ s ∷ []) id ≡ false = list_any-append (λ t. eqb t.derived.0 id) log (s ∷ []) ∙ or_from _ _ w.0 (or_from _ _ (ne_eqb _ _ (λ q. let z : id ≡ length arena = sym q ∙ at in absurd (omega arith))) refl) in
    same-still (input (arena ++ o ∷ []) (log ++ s ∷ []) id) c
    (cond-false (derives (log ++ s ∷ []) id) None (clause_at (arena ++ o ∷ []) id) no ∙ get_or_append_left arena (o ∷ []) None id l ∙ w.1))
    (λ id d l e. still-same (clause_at arena id) d (sym (get_or_append_left arena (o ∷ []) None id l) ∙ e))
    f

set-other : (arena : Clauses) (x id : ℕ) (o : Option Clause) → (id ≡ x → ⊥) → clause_at (set arena x o) id ≡ clause_at arena id
set-other arena x id o ne = get_or-set_other arena x id o None ne

-- a derived clause set dead
pub keeps-dead : (arena : Clauses) (log : List Step) (n x : ℕ) → n ≤ length log → x < length arena → derives log x ≡ true → AreSoundBelow arena log n → AreSoundBelow (set arena x None) log n
keeps-dead arena log n x within small derived f =
    keeps arena (set arena x None) log log n (omega (arith, length-set arena x None)) within refl
    (λ id c e.
    let w = live-input (derives log id) (clause_at arena id) c e in
    same-still (input (set arena x None) log id) c
    (cond-false (derives log id) None (clause_at (set arena x None) id) w.0
    ∙ set-other arena x id None (λ q. both_ways _ w.0 (ap (derives log) q ∙ derived)) ∙ w.1))
    (λ id d l e.
    elim (cases_eq id x) [
      | inl q ↦ let z : clause_at (set arena x None) id ≡ None = ap (clause_at (set arena x None)) q ∙ get_or-set_same arena x None None small in cc
      | inr u ↦ still-same (clause_at arena id) d (sym (set-other arena x id None u) ∙ e)
    ])
    f

-- a live clause given as another list of the same set
pub keeps-reorder : (arena : Clauses) (log : List Step) (n x : ℕ) (c d : Clause) → n ≤ length log → clause_at arena x ≡ Some c → is_same c d ≡ true → AreSoundBelow arena log n → AreSoundBelow (set arena x (Some d)) log n
keeps-reorder arena log n x c d within at s f =
    let small = some-lt arena x c at in
    let now : clause_at (set arena x (Some d)) x ≡ Some d = get_or-set_same arena x (Some d) None small in
    keeps arena (set arena x (Some d)) log log n (omega (arith, length-set arena x (Some d))) within refl
    (λ id b e.
    let w = live-input (derives log id) (clause_at arena id) b e in
    subst (λ (o : Option Clause). IsSomeAnd o (λ y. is_same b y ≡ true)) (sym (cond-false (derives log id) None (clause_at (set arena x (Some d)) id) w.0))
    (elim (cases_eq id x) [
      | inl q ↦ some-and (clause_at (set arena x (Some d)) id) (λ y. is_same b y ≡ true) d (ap (clause_at (set arena x (Some d))) q ∙ now)
          (subst (λ (y : Clause). is_same y d ≡ true) (Some-same c b (sym at ∙ ap (clause_at arena) (sym q) ∙ w.1)) s)
      | inr u ↦ same-still (clause_at (set arena x (Some d)) id) b (set-other arena x id (Some d) u ∙ w.1)
    ]))
    (λ id b l e.
    elim (cases_eq id x) [
      | inl q ↦ some-and (clause_at arena id) (λ y. is_same y b ≡ true) c (ap (clause_at arena) q ∙ at)
          (subst (λ (y : Clause). is_same c y ≡ true) (Some-same d b (sym now ∙ ap (clause_at (set arena x (Some d))) (sym q) ∙ e)) s)
      | inr u ↦ still-same (clause_at arena id) b (sym (set-other arena x id (Some d) u) ∙ e)
    ])
    f
