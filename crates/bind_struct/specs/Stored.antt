-- What is said of each target that statements store to, in text order.
use Rattle.std.specs.Prelude.{List, [], ◌∷◌, ◌++◌, Option, Some, None}
use Rattle.joint_ir.specs.declared.stmt.Group.{Group, Group', out-Group}
use Rattle.joint_ir.specs.declared.stmt.SNode.{SNode, Block', Declare, Store, Update, Call, If', Loop, Switch', Break, Continue, Return, Assert, Assume, SetInputs, NextFrame, Row_of-TStmt, end_of-TStmt, more_of-TStmt, Row_of-Group, end_of-Group, more_of-Group, Held-SNode-If-2, None', Some'}
use Rattle.joint_ir.specs.declared.stmt.TLoop.{TLoop, TLoop'}
use Rattle.joint_ir.specs.declared.stmt.TStmt.{TStmt}
use Rattle.joint_ir.specs.declared.stmt.TTarget.{TTarget}
use Rattle.offence_order.specs.declared.Offence.{Offence}

-- what is said of each target of a statement, and of the statements inside it
abbrev mutual
  pub stored_in : (TTarget → List Offence) → SNode → List Offence
  stored_in f (Block' _ row) = stored_row f row
  stored_in f (Declare x init) = []
  stored_in f (Store target init) = f target
  stored_in f (Update target u) = f target
  stored_in f (Call call) = []
  stored_in f (If' e _ (more_of-TStmt q a _) other) = stored_in f a ++ stored_other f other
  stored_in f (Loop loop) = stored_loop f loop
  stored_in f (Switch' e _ groups) = stored_groups f groups
  stored_in f Break = []
  stored_in f Continue = []
  stored_in f (Return init) = []
  stored_in f (Assert e prop) = []
  stored_in f (Assume e) = []
  stored_in f SetInputs = []
  stored_in f (NextFrame prop) = []

  -- statements one after another
  pub stored_row : {m : _} → (TTarget → List Offence) → Row_of-TStmt m → List Offence
  stored_row f end_of-TStmt = []
  stored_row f (more_of-TStmt p a rest) = stored_in f a ++ stored_row f rest

  -- the `else` part of an `if`, or the last part of a `for`, if there is one
  pub stored_other : (TTarget → List Offence) → Held-SNode-If-2 → List Offence
  stored_other f None' = []
  stored_other f (Some' _ (more_of-TStmt p a _)) = stored_in f a

  -- the first part of a loop, its body, then its last part
  pub stored_loop : (TTarget → List Offence) → TLoop → List Offence
  stored_loop f (TLoop' tests_first _ heads cond step _ (more_of-TStmt p body _) prop) =
      stored_row f heads ++ (stored_in f body ++ stored_other f step)

  -- the groups of a switch, in order
  pub stored_groups : {m : _} → (TTarget → List Offence) → Row_of-Group m → List Offence
  stored_groups f end_of-Group = []
  stored_groups f (more_of-Group g rest) = stored_group f g ++ stored_groups f rest

  -- the statements behind labels
  pub stored_group : (TTarget → List Offence) → Group → List Offence
  stored_group f (Group' labels _ row) = stored_row f row

-- the same of lists
abbrev pub stored_items : (TTarget → List Offence) → List TStmt → List Offence
stored_items f [] = []
stored_items f (s ∷ items) = stored_in f s.node ++ stored_items f items

-- of a statement that may be left out
abbrev pub stored_option : (TTarget → List Offence) → Option TStmt → List Offence
stored_option f None = []
stored_option f (Some s) = stored_in f s.node

-- of the groups of a switch
abbrev pub stored_cases : (TTarget → List Offence) → List Group → List Offence
stored_cases f [] = []
stored_cases f (g ∷ groups) = stored_items f (out-Group g).body ++ stored_cases f groups
