-- The symbols of the grammar of the C profile, by their numbers.
use Rattle.std.specs.Prelude.{ℕ}

-- the kinds of token, which are those of `TokenKind` in `c_tokens`
abbrev pub Identifier : ℕ  -- ID
Identifier = 1

abbrev pub Integer : ℕ  -- INT
Integer = 2

abbrev pub Character : ℕ  -- CHAR
Character = 3

abbrev pub StringLiteral : ℕ  -- STRING
StringLiteral = 4

abbrev pub Struct : ℕ  -- struct
Struct = 5

abbrev pub Extern : ℕ  -- extern
Extern = 6

abbrev pub Static : ℕ  -- static
Static = 7

abbrev pub Const : ℕ  -- const
Const = 8

abbrev pub Void : ℕ  -- void
Void = 9

abbrev pub UnderscoreBool : ℕ  -- _Bool
UnderscoreBool = 10

abbrev pub Bool : ℕ  -- bool
Bool = 11

abbrev pub Char : ℕ  -- char
Char = 12

abbrev pub Short : ℕ  -- short
Short = 13

abbrev pub Int : ℕ  -- int
Int = 14

abbrev pub Long : ℕ  -- long
Long = 15

abbrev pub Signed : ℕ  -- signed
Signed = 16

abbrev pub Unsigned : ℕ  -- unsigned
Unsigned = 17

abbrev pub Int8 : ℕ  -- int8_t
Int8 = 18

abbrev pub Int16 : ℕ  -- int16_t
Int16 = 19

abbrev pub Int32 : ℕ  -- int32_t
Int32 = 20

abbrev pub Int64 : ℕ  -- int64_t
Int64 = 21

abbrev pub Uint8 : ℕ  -- uint8_t
Uint8 = 22

abbrev pub Uint16 : ℕ  -- uint16_t
Uint16 = 23

abbrev pub Uint32 : ℕ  -- uint32_t
Uint32 = 24

abbrev pub Uint64 : ℕ  -- uint64_t
Uint64 = 25

abbrev pub If : ℕ  -- if
If = 26

abbrev pub Else : ℕ  -- else
Else = 27

abbrev pub While : ℕ  -- while
While = 28

abbrev pub Do : ℕ  -- do
Do = 29

abbrev pub For : ℕ  -- for
For = 30

abbrev pub Switch : ℕ  -- switch
Switch = 31

abbrev pub Case : ℕ  -- case
Case = 32

abbrev pub Default : ℕ  -- default
Default = 33

abbrev pub Break : ℕ  -- break
Break = 34

abbrev pub Continue : ℕ  -- continue
Continue = 35

abbrev pub Return : ℕ  -- return
Return = 36

abbrev pub Assert : ℕ  -- assert
Assert = 37

abbrev pub CproverAssert : ℕ  -- __CPROVER_assert
CproverAssert = 38

abbrev pub CproverAssume : ℕ  -- __CPROVER_assume
CproverAssume = 39

abbrev pub True : ℕ  -- true
True = 40

abbrev pub False : ℕ  -- false
False = 41

abbrev pub Plus : ℕ  -- +
Plus = 42

abbrev pub Minus : ℕ  -- -
Minus = 43

abbrev pub Star : ℕ  -- *
Star = 44

abbrev pub Slash : ℕ  -- /
Slash = 45

abbrev pub Percent : ℕ  -- %
Percent = 46

abbrev pub Bang : ℕ  -- !
Bang = 47

abbrev pub Tilde : ℕ  -- ~
Tilde = 48

abbrev pub Ampersand : ℕ  -- &
Ampersand = 49

abbrev pub Bar : ℕ  -- |
Bar = 50

abbrev pub Caret : ℕ  -- ^
Caret = 51

abbrev pub LogicalAnd : ℕ  -- &&
LogicalAnd = 52

abbrev pub LogicalOr : ℕ  -- ||
LogicalOr = 53

abbrev pub Equal : ℕ  -- ==
Equal = 54

abbrev pub NotEqual : ℕ  -- !=
NotEqual = 55

abbrev pub Less : ℕ  -- <
Less = 56

abbrev pub LessEqual : ℕ  -- <=
LessEqual = 57

abbrev pub Greater : ℕ  -- >
Greater = 58

abbrev pub GreaterEqual : ℕ  -- >=
GreaterEqual = 59

abbrev pub ShiftLeft : ℕ  -- <<
ShiftLeft = 60

abbrev pub ShiftRight : ℕ  -- >>
ShiftRight = 61

abbrev pub Question : ℕ  -- ?
Question = 62

abbrev pub Colon : ℕ  -- :
Colon = 63

abbrev pub Becomes : ℕ  -- =
Becomes = 64

abbrev pub PlusBecomes : ℕ  -- +=
PlusBecomes = 65

abbrev pub MinusBecomes : ℕ  -- -=
MinusBecomes = 66

abbrev pub StarBecomes : ℕ  -- *=
StarBecomes = 67

abbrev pub SlashBecomes : ℕ  -- /=
SlashBecomes = 68

abbrev pub PercentBecomes : ℕ  -- %=
PercentBecomes = 69

abbrev pub AmpersandBecomes : ℕ  -- &=
AmpersandBecomes = 70

abbrev pub BarBecomes : ℕ  -- |=
BarBecomes = 71

abbrev pub CaretBecomes : ℕ  -- ^=
CaretBecomes = 72

abbrev pub ShiftLeftBecomes : ℕ  -- <<=
ShiftLeftBecomes = 73

abbrev pub ShiftRightBecomes : ℕ  -- >>=
ShiftRightBecomes = 74

abbrev pub Increment : ℕ  -- ++
Increment = 75

abbrev pub Decrement : ℕ  -- --
Decrement = 76

abbrev pub OpenParenthesis : ℕ  -- (
OpenParenthesis = 77

abbrev pub CloseParenthesis : ℕ  -- )
CloseParenthesis = 78

abbrev pub OpenBracket : ℕ  -- [
OpenBracket = 79

abbrev pub CloseBracket : ℕ  -- ]
CloseBracket = 80

abbrev pub OpenBrace : ℕ  -- {
OpenBrace = 81

abbrev pub CloseBrace : ℕ  -- }
CloseBrace = 82

abbrev pub Semicolon : ℕ  -- ;
Semicolon = 83

abbrev pub Comma : ℕ  -- ,
Comma = 84

abbrev pub Dot : ℕ  -- .
Dot = 85

abbrev pub Hash : ℕ  -- #
Hash = 86

abbrev pub Reserved : ℕ  -- reserved
Reserved = 87

-- the nonterminals
abbrev pub File : ℕ
File = 256

abbrev pub Externals : ℕ
Externals = 257

abbrev pub MoreExternals : ℕ
MoreExternals = 258

abbrev pub External : ℕ
External = 259

abbrev pub ExternRest : ℕ
ExternRest = 260

abbrev pub StaticRest : ℕ
StaticRest = 261

abbrev pub AfterName : ℕ
AfterName = 262

abbrev pub FunctionRest : ℕ
FunctionRest = 263

abbrev pub FunctionEnd : ℕ
FunctionEnd = 264

abbrev pub MoreMembers : ℕ
MoreMembers = 265

abbrev pub Member : ℕ
Member = 266

abbrev pub Item : ℕ
Item = 267

abbrev pub ItemRest : ℕ
ItemRest = 268

abbrev pub MoreItems : ℕ
MoreItems = 269

abbrev pub MoreNames : ℕ
MoreNames = 270

abbrev pub Params : ℕ
Params = 271

abbrev pub MoreParams : ℕ
MoreParams = 272

abbrev pub Param : ℕ
Param = 273

abbrev pub ParamName : ℕ
ParamName = 274

abbrev pub MoreDecls : ℕ
MoreDecls = 275

abbrev pub Decl : ℕ
Decl = 276

abbrev pub DeclRest : ℕ
DeclRest = 277

abbrev pub ArrayInit : ℕ
ArrayInit = 278

abbrev pub MoreElements : ℕ
MoreElements = 279

abbrev pub NextElement : ℕ
NextElement = 280

abbrev pub Init : ℕ
Init = 281

abbrev pub InitRest : ℕ
InitRest = 282

abbrev pub IntegerType : ℕ
IntegerType = 283

abbrev pub Sign : ℕ
Sign = 284

abbrev pub AfterSign : ℕ
AfterSign = 285

abbrev pub LongOpt : ℕ
LongOpt = 286

abbrev pub IntOpt : ℕ
IntOpt = 287

abbrev pub Block : ℕ
Block = 288

abbrev pub Parts : ℕ
Parts = 289

abbrev pub Local : ℕ
Local = 290

abbrev pub Stmt : ℕ
Stmt = 291

abbrev pub ElseOpt : ℕ
ElseOpt = 292

abbrev pub ForFirst : ℕ
ForFirst = 293

abbrev pub ForSimple : ℕ
ForSimple = 294

abbrev pub SimpleOpt : ℕ
SimpleOpt = 295

abbrev pub ExprOpt : ℕ
ExprOpt = 296

abbrev pub InitOpt : ℕ
InitOpt = 297

abbrev pub Groups : ℕ
Groups = 298

abbrev pub AfterLabel : ℕ
AfterLabel = 299

abbrev pub AfterStmt : ℕ
AfterStmt = 300

abbrev pub Label : ℕ
Label = 301

abbrev pub Simple : ℕ
Simple = 302

abbrev pub Step : ℕ
Step = 303

abbrev pub SimpleRest : ℕ
SimpleRest = 304

abbrev pub Assign : ℕ
Assign = 305

abbrev pub AssignOp : ℕ
AssignOp = 306

abbrev pub Args : ℕ
Args = 307

abbrev pub MoreArgs : ℕ
MoreArgs = 308

abbrev pub Path : ℕ
Path = 309

abbrev pub PathRest : ℕ
PathRest = 310

abbrev pub Expr : ℕ
Expr = 311

abbrev pub U10 : ℕ
U10 = 312

abbrev pub U9 : ℕ
U9 = 313

abbrev pub U8 : ℕ
U8 = 314

abbrev pub U7 : ℕ
U7 = 315

abbrev pub U6 : ℕ
U6 = 316

abbrev pub U5 : ℕ
U5 = 317

abbrev pub U4 : ℕ
U4 = 318

abbrev pub U3 : ℕ
U3 = 319

abbrev pub U2 : ℕ
U2 = 320

abbrev pub U1 : ℕ
U1 = 321

abbrev pub T0 : ℕ
T0 = 322

abbrev pub T1 : ℕ
T1 = 323

abbrev pub T2 : ℕ
T2 = 324

abbrev pub T3 : ℕ
T3 = 325

abbrev pub T4 : ℕ
T4 = 326

abbrev pub T5 : ℕ
T5 = 327

abbrev pub T6 : ℕ
T6 = 328

abbrev pub T7 : ℕ
T7 = 329

abbrev pub T8 : ℕ
T8 = 330

abbrev pub T9 : ℕ
T9 = 331

abbrev pub T10 : ℕ
T10 = 332

abbrev pub EqualOp : ℕ
EqualOp = 333

abbrev pub OrderOp : ℕ
OrderOp = 334

abbrev pub ShiftOp : ℕ
ShiftOp = 335

abbrev pub SumOp : ℕ
SumOp = 336

abbrev pub ProductOp : ℕ
ProductOp = 337

abbrev pub Unary : ℕ
Unary = 338

abbrev pub UnaryNoId : ℕ
UnaryNoId = 339

abbrev pub UnaryOp : ℕ
UnaryOp = 340

abbrev pub Paren : ℕ
Paren = 341

-- the first of the actions, which stand for no token
abbrev pub FIRST_ACTION : ℕ
FIRST_ACTION = 342
