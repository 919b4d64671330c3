-- What typed statements have of their sources.
use Rattle.std.specs.Prelude.{◌≡◌, ◌<◌, ◌≤◌, ◌^◌, ℕ, List, [], length, All, Bool, false, IsTrue}
use Rattle.c_tree.specs.declared.declarations.Declarator.{Declarator}
use Rattle.c_tree.specs.declared.declarations.Initializer.{Initializer}
use Rattle.c_tree.specs.declared.declarations.Initializer.TheVariants as initializer
use Rattle.c_tree.specs.declared.expressions.Call.{Call}
use Rattle.c_tree.specs.declared.statements.Simple.{Simple}
use Rattle.c_tree.specs.declared.statements.Statement.{Statement}
use Rattle.joint_ir.specs.declared.program.CProgram.{CProgram}
use Rattle.joint_ir.specs.declared.ctype.IntType.{IntType}
use Rattle.joint_ir.specs.Types.{IsType}
use Rattle.joint_ir.specs.WellFormed as well
use Rattle.joint_ir.specs.WellFormed.{FitsInit, FitsStmt, is_simple}
use Rattle.c_words.specs.declared.notes.Site.{Site}
use Rattle.c_names.specs.Scope.{Scope}
use Rattle.c_expressions.specs.Values.{StandAt}
use Rattle.c_meaning.specs.Sound.{AreThere, AreProps}
use Rattle.c_statements.specs.declared.calls.Signature.{Signature}
use Rattle.c_statements.specs.Calls.{callee, init_offences, init_sites, init_typed}
use Rattle.c_statements.specs.Known.{Known}
use Rattle.c_statements.specs.declared.walk.Around.{Around}
use Rattle.c_statements.specs.Statements.{declarators_known, declarators_offences, declarators_typed, known_after, offences_of, stmt_typed}
use Rattle.c_statements.specs.Simple.{simple_offences, simple_sites, simple_typed}
use Rattle.joint_lists.specs.Lists.{FitsItems}
use Rattle.c_statement_laws.specs.Agreeing.{Agree, InitBytes, HasSignature, SimpleBytes, DeclaratorBytes, IsSetting, IsPrefix, IsPlace, AreFew, StatementBytes, behind_items}

-- what an object of a type is set to is well-formed, a call with its arguments too, where nothing in it is an offence
abbrev pub InitializersFit : Type 0
InitializersFit =
    (c : well.Scope) (all : List Site) → AreProps all c.program → (env : List Scope) → AreThere c env →
    (fns : List Signature) → Agree c.program fns → (t : IntType) → IsType t → (base : ℕ) (i : Initializer) →
    ((call : Call) → i ≡ initializer.Called call → HasSignature fns (callee env call)) →
    init_offences fns env i ≡ [] → InitBytes i → StandAt all base (init_sites env i) → FitsInit c false t (init_typed fns env base t i)

-- an assignment, an update or a call is well-formed, and may be a part of a `for`, where nothing in it is an offence
abbrev pub SimplesFit : Type 0
SimplesFit =
    (c : well.Scope) (all : List Site) (fns : List Signature) (env : List Scope) → IsSetting c all fns env → (base : ℕ) (s : Simple) →
    simple_offences fns env s ≡ [] → SimpleBytes s → StandAt all base (simple_sites env s) →
    FitsStmt c (simple_typed fns env base s) × IsTrue (is_simple (simple_typed fns env base s))

-- the objects that declarators of a type declare, and what they are set to, are well-formed where nothing in them is an
-- offence, and what names mean behind them fits the program again
abbrev pub DeclaratorsFit : Type 0
DeclaratorsFit =
    (c : well.Scope) (all : List Site) (k : Known) (t : IntType) (constant : Bool) (ds : List Declarator) → IsType t → IsSetting c all k.fns k.scopes →
    length c.program.locals < 2 ^ 32 → length all ≤ 2 ^ 32 →
    IsPrefix (declarators_known t constant ds k).locals c.program.locals → IsPrefix (declarators_known t constant ds k).sites all →
    declarators_offences t constant k ds ≡ [] → All DeclaratorBytes ds →
    FitsItems c (declarators_typed t constant k ds)
    × IsSetting (behind_items c (declarators_typed t constant k ds)) all k.fns (declarators_known t constant ds k).scopes

-- a statement is well-formed where it stands, where nothing in it is an offence, and what it declares and the properties in it
-- are those of the program
abbrev pub StatementsFit : Type 0
StatementsFit =
    (p : CProgram) (all : List Site) → AreFew p all → (c : well.Scope) (a : Around) (k : Known) → IsPlace p all c a k → (s : Statement) →
    IsPrefix (known_after s k).locals p.locals → IsPrefix (known_after s k).sites all →
    offences_of a k s ≡ [] → StatementBytes s → FitsStmt c (stmt_typed a k s).node
