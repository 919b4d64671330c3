-- Values of a net, as it grows.
use Rattle.std.proofs.Common.{◌≡◌, ℕ, Bool, true, false, ◌&&◌, List, [], ◌∷◌, ◌++◌, length, Some, Result, Ok, Err, IfOk, OnOk, refl, sym, ◌∙◌, subst}
use Rattle.std.specs.List.{slice_get}
use Rattle.clause_arena.specs.Clause.{bool_eq}
use Rattle.gate_net.specs.declared.net.Edge.{Edge}
use Rattle.gate_net.specs.declared.net.Gate.{Gate}
use Rattle.gate_net.specs.declared.net.Node.{Node}
use Rattle.gate_net.specs.declared.net.Node.TheVariants.{One, And}
use Rattle.gate_net.specs.Edge.{edge_value}
use Rattle.gate_net.specs.Net.{IsValuation, IsConjunction}

bool_eq-same : (x : Bool) → bool_eq x true ≡ x
bool_eq-same true = refl
bool_eq-same false = refl

-- the value of an edge that is not negated is that of its node
pub edge_value-plain : (a : ℕ → Bool) (i : ℕ) → edge_value a (record { node = i; negated = false }) ≡ a i
edge_value-plain a i = bool_eq-same (a i)

pub one-true : (net : List Node) (a : ℕ → Bool) → slice_get net 0 ≡ Some One → IsValuation net a → a 0 ≡ true
one-true net a s v = v 0 One s

-- the edge to a gate is the conjunction of the gate's edges
pub conjunction-of_gate : (net : List Node) (i : ℕ) (g : Gate) (l r : Edge) → slice_get net i ≡ Some (And g) → ((v : ℕ → Bool) → (edge_value v g.left && edge_value v g.right) ≡ (edge_value v l && edge_value v r)) → IsConjunction net (record { node = i; negated = false }) l r
conjunction-of_gate net i g l r s joins a v = edge_value-plain a i ∙ v i (And g) s ∙ joins a

slice_get-last : (net : List Node) (x : Node) → slice_get (net ++ x ∷ []) (length net) ≡ Some x
slice_get-last [] x = refl
slice_get-last (y ∷ ys) x = slice_get-last ys x

-- the same, where the gate was put last
pub conjunction-of_last : {E : Type 0} (old new : List Node) (g : Gate) (l r : Edge) (result : Result Edge E) → OnOk result (new ≡ old ++ And g ∷ []) → IfOk result (λ e. e ≡ record { node = length old; negated = false }) → ((v : ℕ → Bool) → (edge_value v g.left && edge_value v g.right) ≡ (edge_value v l && edge_value v r)) → IfOk result (λ e. IsConjunction new e l r)
conjunction-of_last old new g l r (Ok e) all edge joins =
    subst (λ (n : List Node). IsConjunction n e l r) (sym all)
    (subst (λ (x : Edge). IsConjunction (old ++ And g ∷ []) x l r) (sym edge) (conjunction-of_gate (old ++ And g ∷ []) (length old) g l r (slice_get-last old (And g)) joins))
conjunction-of_last old new g l r (Err x) all edge joins = tt
