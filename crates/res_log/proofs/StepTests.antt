-- The test of a step, from the table and the chain.
use Rattle.std.proofs.Common.{inl, inr, ◌≡◌, ℕ, ◌+◌, ◌<◌, Bool, true, false, not, ◌&&◌, ◌||◌, List, [], ◌∷◌, ◌++◌, length, take, get_or, Option, Some, None, eqb, cond, refl, sym, ◌∙◌, ap, subst, arith}
use Rattle.std.specs.List.{list_any, list_all}
use Rattle.std.specs.Option.{option_and_then, option_map_or, IsSomeAnd}
use Rattle.std.proofs.lemmas.Bool.{and_from, not_from_false, cond-true, ne_eqb, eq-eqb, cases_eq, both_ways}
use Rattle.std.proofs.lemmas.List.{map-append, take_more}
use Rattle.clause_arena.specs.declared.ClauseId.{ClauseId}
use Rattle.clause_arena.specs.Clause.{Clause, Clauses, clause_at, is_same}
use Rattle.res_log.specs.declared.ChainStep.{ChainStep}
use Rattle.res_log.specs.declared.origins.Origin.{Origin}
use Rattle.res_log.specs.declared.origins.Origin.TheVariants.{Input}
use Rattle.res_log.specs.Step.{Step}
use Rattle.res_log.specs.Log.{chain, result_of, derives, has_live_ids}
use Rattle.res_log.specs.Shelf.{shelf, lits_at, is_new, live_test, lists}
use Rattle.res_log.specs.Origins.{IsTable, is_reached, is_derived, book_of}
use Rattle.res_log.specs.Marks.{Signs, Marks}
use Rattle.res_log.proofs.Tables.{derived-before, book-shelf, chain-along}
use Rattle.res_log.proofs.Right.{live-lt}
use Rattle.res_log.proofs.Steps.{live-derived, lits-at}

-- what the code found of a step
pub record Found (arena : Clauses) (log : List Step) (table : List Origin) (k : ℕ) (s : Step) (first : Clause) (rest : List ChainStep) : Type 0 where
  pub origins : IsTable log k table
  pub size : length table ≡ length arena
  pub live : has_live_ids arena s ≡ true
  pub fresh : is_derived (get_or table s.derived.0 Input) ≡ false
  pub there : is_reached (get_or table s.first.0 Input) ≡ true
  pub long : 0 < length rest
  pub links : rest ≡ s.rest
  pub start : clause_at arena s.first.0 ≡ Some first

pub found : (arena : Clauses) (log : List Step) (table : List Origin) (k : ℕ) (s : Step) (first : Clause) (rest : List ChainStep) (x f : ClauseId) → IsTable log k table → length table ≡ length arena → has_live_ids arena s ≡ true
    → x ≡ s.derived → f ≡ s.first → rest ≡ s.rest → is_derived (get_or table x.0 Input) ≡ false → is_reached (get_or table f.0 Input) ≡ true → 0 < length rest → clause_at arena f.0 ≡ Some first
    → Found arena log table k s first rest
found arena log table k s first rest x f t z l ex ef er fresh there long start = record {
  origins = t;
  size = z;
  live = l;
  fresh = subst (λ (y : ClauseId). is_derived (get_or table y.0 Input) ≡ false) ex fresh;
  there = subst (λ (y : ClauseId). is_reached (get_or table y.0 Input) ≡ true) ef there;
  long = long;
  links = er;
  start = subst (λ (y : ClauseId). clause_at arena y.0 ≡ Some first) ef start;
}

pub not-empty : (b : Bool) (n : ℕ) → b ≡ eqb n 0 → b ≡ false → 0 < n
not-empty b n e h = elim (cases_eq n 0) [ inl z ↦ absurd (both_ways b h (e ∙ eq-eqb n 0 z)) | inr z ↦ omega arith ]

pub test-found : (arena : Clauses) (log : List Step) (table : List Origin) (k : ℕ) (s : Step) (first : Clause) (rest : List ChainStep) → Found arena log table k s first rest
    → live_test arena log k s ≡ option_map_or (λ r. is_same r (lits_at arena s.derived.0)) (chain (book_of arena table) rest first) false
test-found arena log table k s first rest f =
    let n : s.derived.0 < length table = let l = live-lt arena s.derived.0 (live-derived arena s f.live) in let z = f.size in omega arith in
    let fresh : derives (take k log) s.derived.0 ≡ false = sym (derived-before log table k s.derived.0 f.origins n) ∙ f.fresh in
    let start : shelf arena log k s.first.0 ≡ Some first = sym (book-shelf arena log table k f.origins f.size s.first.0) ∙ cond-true (is_reached (get_or table s.first.0 Input)) (clause_at arena s.first.0) None f.there ∙ f.start in
    let long : eqb (length s.rest) 0 ≡ false = ne_eqb _ _ (λ e. let l = f.long in let q = ap length f.links in absurd (omega arith)) in
    let result : result_of (shelf arena log k) s ≡ chain (book_of arena table) rest first =
    ap (λ (b : Bool). option_and_then (chain (shelf arena log k) s.rest) (cond b None (shelf arena log k s.first.0))) long
    ∙ ap (option_and_then (chain (shelf arena log k) s.rest)) start
    ∙ sym (chain-along (book_of arena table) (shelf arena log k) (book-shelf arena log table k f.origins f.size) s.rest first)
    ∙ ap (λ (xs : List ChainStep). chain (book_of arena table) xs first) (sym f.links)
    in
    ap (λ (b : Bool). b && option_map_or (λ r. is_same r (lits_at arena s.derived.0)) (result_of (shelf arena log k) s) false)
    (and_from (has_live_ids arena s) (not (derives (take k log) s.derived.0)) f.live (not_from_false _ fresh))
    ∙ ap (λ (o : Option Clause). option_map_or (λ r. is_same r (lits_at arena s.derived.0)) o false) result

some-in : (o : Option Clause) (P : Clause → Type 0) → IsSomeAnd o P → (q : Clause) × (o ≡ Some q) × P q
some-in None P h = absurd h
some-in (Some q) P h = (q, refl, h)

-- the chain has a result, which is compared with the arena's list
pub test-same : (arena : Clauses) (log : List Step) (table : List Origin) (k : ℕ) (s : Step) (first : Clause) (rest : List ChainStep) (m : Signs) (d : Clause) (b : Bool) → Found arena log table k s first rest
    → IsSomeAnd (chain (book_of arena table) rest first) (Marks m) → clause_at arena s.derived.0 ≡ Some d → ((c : Clause) → Marks m c → b ≡ is_same c d) → b ≡ live_test arena log k s
test-same arena log table k s first rest m d b f r e g =
    let w = some-in (chain (book_of arena table) rest first) (Marks m) r in
    g w.0 w.2 ∙ ap (is_same w.0) (lits-at arena s.derived.0 d e)
    ∙ ap (λ (o : Option Clause). option_map_or (λ r. is_same r (lits_at arena s.derived.0)) o false) (sym w.1)
    ∙ sym (test-found arena log table k s first rest f)

-- the chain has no result
pub test-none : (arena : Clauses) (log : List Step) (table : List Origin) (k : ℕ) (s : Step) (first : Clause) (rest : List ChainStep) → Found arena log table k s first rest
    → chain (book_of arena table) rest first ≡ None → false ≡ live_test arena log k s
test-none arena log table k s first rest f e =
    ap (λ (o : Option Clause). option_map_or (λ r. is_same r (lits_at arena s.derived.0)) o false) (sym e)
    ∙ sym (test-found arena log table k s first rest f)

new-any : (arena : Clauses) (steps : List Step) (c : Clause) → list_all (λ t. not (is_same c (lits_at arena t.derived.0))) steps ≡ not (list_any (is_same c) (lists arena steps))
new-any arena [] c = refl
new-any arena (t ∷ ts) c = ap (λ (b : Bool). not (is_same c (lits_at arena t.derived.0)) && b) (new-any arena ts c) ∙ both (is_same c (lits_at arena t.derived.0)) (list_any (is_same c) (lists arena ts))
  where
    both : (a b : Bool) → (not a && not b) ≡ not (a || b)
    both true b = refl
    both false b = refl

-- the arena's list at the id is none of the earlier ones
pub new-list : (arena : Clauses) (steps : List Step) (id : ℕ) (d : Clause) → clause_at arena id ≡ Some d → not (list_any (is_same d) (lists arena steps)) ≡ is_new arena steps id
new-list arena steps id d e =
    ap (λ (c : Clause). not (list_any (is_same c) (lists arena steps))) (lits-at arena id d e) ∙ sym (new-any arena steps (lits_at arena id))

pub lists-more : (arena : Clauses) (log : List Step) (k : ℕ) (d : Step) (c : Clause) → k < length log → clause_at arena (get_or log k d).derived.0 ≡ Some c → lists arena (take k log) ++ c ∷ [] ≡ lists arena (take (k + 1) log)
lists-more arena log k d c l e =
    ap (λ (x : Clause). lists arena (take k log) ++ x ∷ []) (lits-at arena (get_or log k d).derived.0 c e)
    ∙ sym (map-append (λ t. lits_at arena t.derived.0) (take k log) (get_or log k d ∷ []))
    ∙ ap (lists arena) (sym (take_more log k d l))
