use Rattle.std.proofs.Common.{refl}
use Rattle.v_views.specs.declared.Selection.TheVariants as which
use Rattle.elab_names.proofs.Cases.{case_one, case_two}
use Rattle.elab_flat.specs.Flat.{known, flat_expr, flat_which}
use Rattle.elab_flat.proofs.Equations.{which_index, which_range, which_up, which_down}
use Rattle.elab_flat.proofs.target.flat_which.Goals as goal

pub returns-in_ok-i-in-Index : goal.returns-in_ok-i-in-Index
returns-in_ok-i-in-Index c =
    case_one (flat_which c.args.names.now c.args.turns.now) (flat_expr c.args.names.now c.args.turns.now) which.Bit _ _ _ _ _ _ c.in-Index.is c.get.ensures c.in_ok-i-in-Index.ensures refl (which_index c.args.names.now c.args.turns.now _)

pub returns-in_ok-l-in-Range : goal.returns-in_ok-l-in-Range
returns-in_ok-l-in-Range c =
    case_two (flat_which c.args.names.now c.args.turns.now) (known c.args.names.now c.args.turns.now 4294967295) (known c.args.names.now c.args.turns.now 4294967295) which.Part _ _ _ _ _ _ _ _ _
    c.in-Range.is c.get-in-Range.ensures c.get-in-Range-2.ensures c.in_ok-h-in-Range.ensures.value c.in_ok-l-in-Range.ensures.value refl (which_range c.args.names.now c.args.turns.now _ _)

pub returns-in_ok-w-in-Up : goal.returns-in_ok-w-in-Up
returns-in_ok-w-in-Up c =
    case_two (flat_which c.args.names.now c.args.turns.now) (flat_expr c.args.names.now c.args.turns.now) (known c.args.names.now c.args.turns.now 64) which.Up _ _ _ _ _ _ _ _ _
    c.in-Up.is c.get-in-Up.ensures c.get-in-Up-2.ensures c.in_ok-b-in-Up.ensures c.in_ok-w-in-Up.ensures.value refl (which_up c.args.names.now c.args.turns.now _ _)

pub returns-in_ok-w-in-Down : goal.returns-in_ok-w-in-Down
returns-in_ok-w-in-Down c =
    case_two (flat_which c.args.names.now c.args.turns.now) (flat_expr c.args.names.now c.args.turns.now) (known c.args.names.now c.args.turns.now 64) which.Down _ _ _ _ _ _ _ _ _
    c.in-Down.is c.get-in-Down.ensures c.get-in-Down-2.ensures c.in_ok-b-in-Down.ensures c.in_ok-w-in-Down.ensures.value refl (which_down c.args.names.now c.args.turns.now _ _)
