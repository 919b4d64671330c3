-- Lists are walked piece by piece.
use Rattle.std.proofs.Common.{◌≡◌, List, [], ◌∷◌, ◌++◌, refl, sym, ap, ◌∙◌, append_assoc, append-nil}
use Rattle.word_eqs.specs.declared.list.Step.{Step}
use Rattle.word_eqs.specs.Meaning.{Values}
use Rattle.word_eqs.specs.Guarded.{Walk, Passes, Stops, walk_then, step_walk, walk}

pub walk_then-none : (w : Walk) → walk_then w (Passes []) ≡ w
walk_then-none (Passes r) = ap Passes (append-nil r)
walk_then-none (Stops r e) = refl

pub none-walk_then : (w : Walk) → walk_then (Passes []) w ≡ w
none-walk_then (Passes r) = refl
none-walk_then (Stops r e) = refl

pub walk_then_assoc : (a b c : Walk) → walk_then (walk_then a b) c ≡ walk_then a (walk_then b c)
walk_then_assoc (Stops r e) b c = refl
walk_then_assoc (Passes r) (Stops r' e) c = refl
walk_then_assoc (Passes r) (Passes r') (Passes r'') = ap Passes (append_assoc r r' r'')
walk_then_assoc (Passes r) (Passes r') (Stops r'' e) = ap (λ l. Stops l e) (append_assoc r r' r'')

pub walk-append : (v : Values) (xs ys : List Step) → walk v (xs ++ ys) ≡ walk_then (walk v xs) (walk v ys)
walk-append v [] ys = sym (none-walk_then (walk v ys))
walk-append v (s ∷ xs) ys = ap (walk_then (step_walk v s)) (walk-append v xs ys) ∙ sym (walk_then_assoc (step_walk v s) (walk v xs) (walk v ys))

pub walk_push : (v : Values) (xs : List Step) (s : Step) → walk v (xs ++ s ∷ []) ≡ walk_then (walk v xs) (step_walk v s)
walk_push v xs s = walk-append v xs (s ∷ []) ∙ ap (walk_then (walk v xs)) (walk_then-none (step_walk v s))
