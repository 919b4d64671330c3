-- Declarations and their trees (ISO C99, 6.7 and 6.9).
use Rattle.std.specs.Prelude.{[], ◌∷◌, codes, Some, None}
use Rattle.c_tree.specs.declared.statements.BlockItem.TheVariants as BlockItem
use Rattle.c_tree.specs.declared.declarations.Declarator.TheVariants as Declarator
use Rattle.c_tree.specs.declared.expressions.Expression.TheVariants as Expression
use Rattle.c_tree.specs.declared.file.External.TheVariants as External
use Rattle.c_tree.specs.declared.declarations.Initializer.TheVariants as Initializer
use Rattle.c_tree.specs.declared.declarations.IntegerType.TheVariants as Integer
use Rattle.c_tree.specs.declared.declarations.Member.TheVariants as Member
use Rattle.c_tree.specs.declared.declarations.MemberDeclarator.TheVariants as MemberDeclarator
use Rattle.c_tree.specs.declared.declarations.ResultType.TheVariants as ResultType
use Rattle.c_tree.specs.declared.declarations.Sign.TheVariants as Sign
use Rattle.c_tree.specs.declared.statements.Statement.TheVariants as Statement
use Rattle.c_tree.specs.declared.declarations.Storage.TheVariants as Storage
use Rattle.tree_laws.specs.CWords.{at, named, i, integer, typed, block, parameter, head, objects, HasExternals}

-- small texts, and the declarations that they are
pub record DeclarationTrees : Type 0 where
  -- a struct, and the mirror
  pub structs : HasExternals (codes "struct p { unsigned char a, t[4]; struct q r, s; _Bool b; }; extern struct p m;")
      (External.Struct (at 1)
      (named 8 (codes "p"))
      (Member.Integers
      (typed 12 (Integer.Char Sign.Unsigned))
      (MemberDeclarator.Plain (named 26 (codes "a")) ∷ MemberDeclarator.Array (named 29 (codes "t")) (integer 31 (codes "4")) ∷ [])
      ∷ Member.Structs (at 35) (named 42 (codes "q")) (named 44 (codes "r") ∷ named 47 (codes "s") ∷ [])
      ∷ Member.Integers (typed 50 Integer.Bool) (MemberDeclarator.Plain (named 56 (codes "b")) ∷ [])
      ∷ [])
      ∷ External.Mirror (at 62) (named 76 (codes "p")) (named 78 (codes "m"))
      ∷ [])
  -- functions without and with bodies, and the bound
  pub functions : HasExternals (codes "extern const unsigned int k; extern void g(void); static int h(const char a, long); unsigned short e(int i) { return i; }")
      (External.Bound (at 1) (typed 14 (Integer.Int Sign.Unsigned)) (named 27 (codes "k"))
      ∷ External.Function (head (Storage.Extern (at 30)) (ResultType.Void (at 37)) (named 42 (codes "g")) [])
      ∷ External.Function
      (head
      (Storage.Static (at 51))
      (ResultType.Integer (typed 58 (Integer.Int Sign.Signed)))
      (named 62 (codes "h"))
      (parameter (Some (at 64)) (typed 70 (Integer.Char Sign.Signed)) (Some (named 75 (codes "a"))) ∷ parameter None (typed 78 (Integer.Long Sign.Signed)) None ∷ []))
      ∷ External.Definition
      (head Storage.Unspecified
      (ResultType.Integer (typed 85 (Integer.Short Sign.Unsigned)))
      (named 100 (codes "e"))
      (parameter None (typed 102 (Integer.Int Sign.Signed)) (Some (named 106 (codes "i"))) ∷ []))
      (block 109 (BlockItem.Statement (Statement.Return (at 111) (Some (Initializer.Value (i 118)))) ∷ []))
      ∷ [])
  -- objects of a file
  pub objects_of_files : HasExternals (codes "int x; static signed y = 1, t[2]; const uint16_t z[2] = { 1, 2 }; static const bool w = true;")
      (objects Storage.Unspecified None (typed 1 (Integer.Int Sign.Signed)) (Declarator.Plain (named 5 (codes "x")) ∷ [])
      ∷ objects
      (Storage.Static (at 8))
      None (typed 15 (Integer.Int Sign.Signed))
      (Declarator.Initialized (named 22 (codes "y")) (Initializer.Value (integer 26 (codes "1"))) ∷ Declarator.Array (named 29 (codes "t")) (integer 31 (codes "2")) ∷ [])
      ∷ objects Storage.Unspecified (Some (at 35))
      (typed 41 Integer.Uint16)
      (Declarator.InitializedArray (named 50 (codes "z")) (integer 52 (codes "2")) (integer 59 (codes "1") ∷ integer 62 (codes "2") ∷ []) ∷ [])
      ∷ objects
      (Storage.Static (at 67))
      (Some (at 74))
      (typed 80 Integer.Bool)
      (Declarator.Initialized (named 85 (codes "w")) (Initializer.Value (Expression.True (at 89))) ∷ [])
      ∷ [])
  -- the words of types
  pub types : HasExternals (codes "char p; signed char q; unsigned char r; short s; short int t; unsigned short int v; unsigned w; long x; long int y; unsigned long long int z;")
      (objects Storage.Unspecified None (typed 1 (Integer.Char Sign.Signed)) (Declarator.Plain (named 6 (codes "p")) ∷ [])
      ∷ objects Storage.Unspecified None (typed 9 (Integer.Char Sign.Signed)) (Declarator.Plain (named 21 (codes "q")) ∷ [])
      ∷ objects Storage.Unspecified None (typed 24 (Integer.Char Sign.Unsigned)) (Declarator.Plain (named 38 (codes "r")) ∷ [])
      ∷ objects Storage.Unspecified None (typed 41 (Integer.Short Sign.Signed)) (Declarator.Plain (named 47 (codes "s")) ∷ [])
      ∷ objects Storage.Unspecified None (typed 50 (Integer.Short Sign.Signed)) (Declarator.Plain (named 60 (codes "t")) ∷ [])
      ∷ objects Storage.Unspecified None (typed 63 (Integer.Short Sign.Unsigned)) (Declarator.Plain (named 82 (codes "v")) ∷ [])
      ∷ objects Storage.Unspecified None (typed 85 (Integer.Int Sign.Unsigned)) (Declarator.Plain (named 94 (codes "w")) ∷ [])
      ∷ objects Storage.Unspecified None (typed 97 (Integer.Long Sign.Signed)) (Declarator.Plain (named 102 (codes "x")) ∷ [])
      ∷ objects Storage.Unspecified None (typed 105 (Integer.Long Sign.Signed)) (Declarator.Plain (named 114 (codes "y")) ∷ [])
      ∷ objects Storage.Unspecified None (typed 117 (Integer.Long Sign.Unsigned)) (Declarator.Plain (named 140 (codes "z")) ∷ [])
      ∷ [])
  -- types of exact widths
  pub exact_types : HasExternals (codes "int8_t p; int16_t q; int32_t r; int64_t s; uint8_t t; uint16_t v; uint32_t w; uint64_t x; bool y; _Bool z;")
      (objects Storage.Unspecified None (typed 1 Integer.Int8) (Declarator.Plain (named 8 (codes "p")) ∷ [])
      ∷ objects Storage.Unspecified None (typed 11 Integer.Int16) (Declarator.Plain (named 19 (codes "q")) ∷ [])
      ∷ objects Storage.Unspecified None (typed 22 Integer.Int32) (Declarator.Plain (named 30 (codes "r")) ∷ [])
      ∷ objects Storage.Unspecified None (typed 33 Integer.Int64) (Declarator.Plain (named 41 (codes "s")) ∷ [])
      ∷ objects Storage.Unspecified None (typed 44 Integer.Uint8) (Declarator.Plain (named 52 (codes "t")) ∷ [])
      ∷ objects Storage.Unspecified None (typed 55 Integer.Uint16) (Declarator.Plain (named 64 (codes "v")) ∷ [])
      ∷ objects Storage.Unspecified None (typed 67 Integer.Uint32) (Declarator.Plain (named 76 (codes "w")) ∷ [])
      ∷ objects Storage.Unspecified None (typed 79 Integer.Uint64) (Declarator.Plain (named 88 (codes "x")) ∷ [])
      ∷ objects Storage.Unspecified None (typed 91 Integer.Bool) (Declarator.Plain (named 96 (codes "y")) ∷ [])
      ∷ objects Storage.Unspecified None (typed 99 Integer.Bool) (Declarator.Plain (named 105 (codes "z")) ∷ [])
      ∷ [])
  -- a file without declarations
  pub empty_file : HasExternals (codes "") []
  -- each way to begin a function, and `()` for no parameters
  pub storage_classes : HasExternals (codes "extern int f(int a); static void g(void) { } int h();")
      (External.Function
      (head (Storage.Extern (at 1)) (ResultType.Integer (typed 8 (Integer.Int Sign.Signed))) (named 12 (codes "f")) (parameter None (typed 14 (Integer.Int Sign.Signed)) (Some (named 18 (codes "a"))) ∷ []))
      ∷ External.Definition (head (Storage.Static (at 22)) (ResultType.Void (at 29)) (named 34 (codes "g")) []) (block 42 [])
      ∷ External.Function (head Storage.Unspecified (ResultType.Integer (typed 46 (Integer.Int Sign.Signed))) (named 50 (codes "h")) [])
      ∷ [])
