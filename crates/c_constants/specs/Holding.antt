-- Whether an expression holds a path, and what is known of one that holds none.
use Rattle.std.specs.Prelude.{◌≡◌, Bool}
use Rattle.std.specs.Bool.{OnFalse}
use Rattle.c_tree.specs.declared.expressions.Expression.{Expression}
use Rattle.c_meaning.specs.Sound.{AreBytes}
use Rattle.c_constants.specs.Constants.{holds_path}

-- the answer to whether an expression holds a path; where it holds none, its characters are bytes
pub record Holds (e : Expression) (b : Bool) : Type 0 where
  pub is : b ≡ holds_path e
  pub bytes : OnFalse b (AreBytes e)
