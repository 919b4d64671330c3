-- Where expressions, lists of values and a file begin, as their looks say.
use Rattle.std.proofs.Common.{◌≡◌, List, [], ◌∷◌, refl, ap, unwrap_or}
use Rattle.std.specs.Option.{option_or}
use Rattle.std.specs.declared.option.Option.{Option}
use Rattle.std.specs.declared.option.Option.TheVariants.{None, Some}
use Rattle.src_text.specs.declared.refusal.Place.{Place}
use Rattle.v_tree.specs.declared.expr.Expr.{Expr}
use Rattle.v_tree.specs.declared.expr.Expr as expr
use Rattle.v_tree.specs.declared.item.Module.{Module}
use Rattle.v_tree.specs.Nodes.{expr_trees, module_trees}
use Rattle.v_tree.specs.Starts.{expr_start, values_start}
use Rattle.src_text.specs.Trees.{Trees, none, node, also, one, all_trees}
use Rattle.node_places.proofs.Looks.{PlaceLook, first_in}
use Rattle.node_places.proofs.Beside.{end1, looks}
use Rattle.v_depth.proofs.Values.{root_first, module_start, first_start}

pub or_none : (x : Option Place) → x ≡ option_or x None
or_none None = refl
or_none (Some p) = refl

pub values_or : (values : List Expr) (p : Place) → Some (values_start values p) ≡ option_or (first_in expr_start values) (Some p)
values_or [] p = refl
values_or (e ∷ es) p = refl

-- an expression is one tree, which begins where it does
pub expr_root : (e : Expr) → root_first (expr_trees e) ≡ Some (expr_start e)
expr_root (expr.Literal l) = refl
expr_root (expr.Name x) = refl
expr_root (expr.Select' x _ (expr.more_of-Selection s _)) = refl
expr_root (expr.Unary' operator _ (expr.more_of-Expr a _)) = refl
expr_root (expr.Binary' _ (expr.more_of-Expr a _) operator _ (expr.more_of-Expr b _)) = refl
expr_root (expr.Conditional' _ (expr.more_of-Expr c _) _ (expr.more_of-Expr a _) _ (expr.more_of-Expr b _)) = refl
expr_root (expr.Parentheses' place _ (expr.more_of-Expr a _)) = refl
expr_root (expr.Concatenation' place _ parts) = refl
expr_root (expr.Replication' place _ (expr.more_of-Expr count _) _ parts) = refl
expr_root (expr.Signed' place _ (expr.more_of-Expr a _)) = refl
expr_root (expr.Unsigned' place _ (expr.more_of-Expr a _)) = refl

pub also_root : (a b : Trees) (p : Place) → root_first a ≡ Some p → root_first (also a b) ≡ Some p
also_root none b p e = absurd (let z : None ≡ Some p = e in cc)
also_root (node q x y) b p e = e

-- the file
pub whole : (nothing : Place) (xs : List Module) (rest : List PlaceLook) → let first = option_or (first_in module_start xs) None in
    looks (first_in module_start xs) (one (first_start xs nothing) (all_trees module_trees xs)) ∷ rest ≡ looks first (one (unwrap_or first nothing) (also (all_trees module_trees xs) none)) ∷ rest
whole nothing [] rest = refl
whole nothing (x ∷ xs) rest = ap (λ z. looks (Some (module_start x)) (one (module_start x) z) ∷ rest) (end1 (also (module_trees x) (all_trees module_trees xs)))
