-- Clauses that stay under their ids.
use Rattle.std.proofs.Common.{◌≡◌, true, [], ◌∷◌, ◌++◌, Some, ap, ◌∙◌}
use Rattle.clause_arena.specs.Clause.{Clause, Clauses, clause_at, is_same}
use Rattle.res_log.proofs.Same.{is_same-refl, is_same-trans}
use Rattle.cdcl.specs.Answer.{Keeps}
use Rattle.cdcl.proofs.Parts.{some-parts, some-and}
use Rattle.cdcl.proofs.Gains.{clause-old}

pub keeps-same : (old new : Clauses) → new ≡ old → Keeps old new
keeps-same old new e id c h =
    some-and (clause_at new id) (λ d. is_same c d ≡ true) c (ap (λ (x : Clauses). clause_at x id) e ∙ h) (is_same-refl c)

pub keeps-push : (old new : Clauses) (c : Clause) → new ≡ old ++ Some c ∷ [] → Keeps old new
keeps-push old new c e id d h =
    some-and (clause_at new id) (λ x. is_same d x ≡ true) d (ap (λ (x : Clauses). clause_at x id) e ∙ clause-old old c id d h) (is_same-refl d)

pub keeps-then : (a b c : Clauses) → Keeps a b → Keeps b c → Keeps a c
keeps-then a b c f g id x h =
    let w = some-parts (clause_at b id) (λ d. is_same x d ≡ true) (f id x h) in
    let v = some-parts (clause_at c id) (λ d. is_same w.0 d ≡ true) (g id w.0 w.1) in
    some-and (clause_at c id) (λ d. is_same x d ≡ true) v.0 v.1 (is_same-trans x w.0 v.0 w.2 v.2)
