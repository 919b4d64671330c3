-- Steps by their places.
use Rattle.std.proofs.Common.{◌≡◌, ◌<◌, ℕ, Bool, true, false, List, [], ◌∷◌, length, Option, Some, refl, sym, ap, arith}
use Rattle.std.specs.List.{list_all}
use Rattle.std.specs.Option.{is_some, unwrap_or}
use Rattle.std.proofs.lemmas.Bool.{and_parts, both_ways}
use Rattle.clause_arena.specs.declared.ClauseId.{ClauseId}
use Rattle.res_log.specs.Step.{Step}
use Rattle.clause_arena.specs.Clause.{Clause, Clauses, clause_at}
use Rattle.res_log.specs.Log.{has_live_ids}
use Rattle.res_log.specs.Shelf.{lits_at}

abbrev pub bare : ClauseId → Step
bare id = record { derived = id; first = id; rest = [] }

pub live-derived : (arena : Clauses) (s : Step) → has_live_ids arena s ≡ true → is_some (clause_at arena s.derived.0) ≡ true
live-derived arena s h = (and_parts _ _ (and_parts _ _ h).0).0

pub live-first : (arena : Clauses) (s : Step) → has_live_ids arena s ≡ true → is_some (clause_at arena s.first.0) ≡ true
live-first arena s h = (and_parts _ _ (and_parts _ _ h).0).1

pub live-rest : (arena : Clauses) (s : Step) → has_live_ids arena s ≡ true → list_all (λ x. is_some (clause_at arena x.clause.0)) s.rest ≡ true
live-rest arena s h = (and_parts _ _ h).1

pub lits-at : (arena : Clauses) (id : ℕ) (c : Clause) → clause_at arena id ≡ Some c → c ≡ lits_at arena id
lits-at arena id c e = ap (λ (o : Option Clause). unwrap_or o []) (sym e)

pub some-step : (log : List Step) (b : Bool) → (log ≡ [] → b ≡ true) → b ≡ false → 0 < length log
some-step [] b f h = absurd (both_ways b h (f refl))
some-step (s ∷ ss) b f h = omega arith
