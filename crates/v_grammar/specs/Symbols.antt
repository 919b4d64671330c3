-- The symbols of the grammar of the Verilog profile, by their numbers.
use Rattle.std.specs.Prelude.{ℕ}

-- the kinds of token, which are those of `TokenKind` in `v_tokens`
abbrev pub Identifier : ℕ  -- ID
Identifier = 1

abbrev pub Decimal : ℕ  -- DEC
Decimal = 2

abbrev pub Based : ℕ  -- BASED
Based = 3

abbrev pub Always : ℕ  -- always
Always = 4

abbrev pub Assign : ℕ  -- assign
Assign = 5

abbrev pub Begin : ℕ  -- begin
Begin = 6

abbrev pub Case : ℕ  -- case
Case = 7

abbrev pub Casez : ℕ  -- casez
Casez = 8

abbrev pub Default : ℕ  -- default
Default = 9

abbrev pub Else : ℕ  -- else
Else = 10

abbrev pub End : ℕ  -- end
End = 11

abbrev pub Endcase : ℕ  -- endcase
Endcase = 12

abbrev pub Endmodule : ℕ  -- endmodule
Endmodule = 13

abbrev pub For : ℕ  -- for
For = 14

abbrev pub If : ℕ  -- if
If = 15

abbrev pub Initial : ℕ  -- initial
Initial = 16

abbrev pub Input : ℕ  -- input
Input = 17

abbrev pub Integer : ℕ  -- integer
Integer = 18

abbrev pub Localparam : ℕ  -- localparam
Localparam = 19

abbrev pub Module : ℕ  -- module
Module = 20

abbrev pub Or : ℕ  -- or
Or = 21

abbrev pub Output : ℕ  -- output
Output = 22

abbrev pub Parameter : ℕ  -- parameter
Parameter = 23

abbrev pub Posedge : ℕ  -- posedge
Posedge = 24

abbrev pub Reg : ℕ  -- reg
Reg = 25

abbrev pub Signed : ℕ  -- signed
Signed = 26

abbrev pub Wire : ℕ  -- wire
Wire = 27

abbrev pub Plus : ℕ  -- +
Plus = 28

abbrev pub Minus : ℕ  -- -
Minus = 29

abbrev pub Star : ℕ  -- *
Star = 30

abbrev pub Slash : ℕ  -- /
Slash = 31

abbrev pub Percent : ℕ  -- %
Percent = 32

abbrev pub Bang : ℕ  -- !
Bang = 33

abbrev pub Tilde : ℕ  -- ~
Tilde = 34

abbrev pub Ampersand : ℕ  -- &
Ampersand = 35

abbrev pub Bar : ℕ  -- |
Bar = 36

abbrev pub Caret : ℕ  -- ^
Caret = 37

abbrev pub TildeAmpersand : ℕ  -- ~&
TildeAmpersand = 38

abbrev pub TildeBar : ℕ  -- ~|
TildeBar = 39

abbrev pub TildeCaret : ℕ  -- ~^
TildeCaret = 40

abbrev pub CaretTilde : ℕ  -- ^~
CaretTilde = 41

abbrev pub LogicalAnd : ℕ  -- &&
LogicalAnd = 42

abbrev pub LogicalOr : ℕ  -- ||
LogicalOr = 43

abbrev pub Equal : ℕ  -- ==
Equal = 44

abbrev pub NotEqual : ℕ  -- !=
NotEqual = 45

abbrev pub Less : ℕ  -- <
Less = 46

abbrev pub LessEqual : ℕ  -- <=
LessEqual = 47

abbrev pub Greater : ℕ  -- >
Greater = 48

abbrev pub GreaterEqual : ℕ  -- >=
GreaterEqual = 49

abbrev pub ShiftLeft : ℕ  -- <<
ShiftLeft = 50

abbrev pub ShiftRight : ℕ  -- >>
ShiftRight = 51

abbrev pub ArithmeticShiftLeft : ℕ  -- <<<
ArithmeticShiftLeft = 52

abbrev pub ArithmeticShiftRight : ℕ  -- >>>
ArithmeticShiftRight = 53

abbrev pub Question : ℕ  -- ?
Question = 54

abbrev pub Colon : ℕ  -- :
Colon = 55

abbrev pub Becomes : ℕ  -- =
Becomes = 56

abbrev pub PlusColon : ℕ  -- +:
PlusColon = 57

abbrev pub MinusColon : ℕ  -- -:
MinusColon = 58

abbrev pub OpenParenthesis : ℕ  -- (
OpenParenthesis = 59

abbrev pub CloseParenthesis : ℕ  -- )
CloseParenthesis = 60

abbrev pub OpenBracket : ℕ  -- [
OpenBracket = 61

abbrev pub CloseBracket : ℕ  -- ]
CloseBracket = 62

abbrev pub OpenBrace : ℕ  -- {
OpenBrace = 63

abbrev pub CloseBrace : ℕ  -- }
CloseBrace = 64

abbrev pub Semicolon : ℕ  -- ;
Semicolon = 65

abbrev pub Comma : ℕ  -- ,
Comma = 66

abbrev pub Dot : ℕ  -- .
Dot = 67

abbrev pub Hash : ℕ  -- #
Hash = 68

abbrev pub At : ℕ  -- @
At = 69

abbrev pub SignedCall : ℕ  -- $signed
SignedCall = 70

abbrev pub UnsignedCall : ℕ  -- $unsigned
UnsignedCall = 71

-- the nonterminals
abbrev pub Source : ℕ
Source = 256

abbrev pub Modules : ℕ
Modules = 257

abbrev pub WholeModule : ℕ
WholeModule = 258

abbrev pub Groups : ℕ
Groups = 259

abbrev pub Group : ℕ
Group = 260

abbrev pub GroupRest : ℕ
GroupRest = 261

abbrev pub GroupNext : ℕ
GroupNext = 262

abbrev pub ParameterRange : ℕ
ParameterRange = 263

abbrev pub ParameterValue : ℕ
ParameterValue = 264

abbrev pub Parameters : ℕ
Parameters = 265

abbrev pub MoreParameters : ℕ
MoreParameters = 266

abbrev pub Range : ℕ
Range = 267

abbrev pub RangeOption : ℕ
RangeOption = 268

abbrev pub Header : ℕ
Header = 269

abbrev pub Ports : ℕ
Ports = 270

abbrev pub Port : ℕ
Port = 271

abbrev pub PortRest : ℕ
PortRest = 272

abbrev pub PortNext : ℕ
PortNext = 273

abbrev pub Direction : ℕ
Direction = 274

abbrev pub NetKind : ℕ
NetKind = 275

abbrev pub Sign : ℕ
Sign = 276

abbrev pub Declarator : ℕ
Declarator = 277

abbrev pub Declarators : ℕ
Declarators = 278

abbrev pub MoreDeclarators : ℕ
MoreDeclarators = 279

abbrev pub ValueOption : ℕ
ValueOption = 280

abbrev pub Names : ℕ
Names = 281

abbrev pub MoreNames : ℕ
MoreNames = 282

abbrev pub DeclaredNames : ℕ
DeclaredNames = 283

abbrev pub MoreDeclaredNames : ℕ
MoreDeclaredNames = 284

abbrev pub Items : ℕ
Items = 285

abbrev pub Item : ℕ
Item = 286

abbrev pub Registers : ℕ
Registers = 287

abbrev pub MoreRegisters : ℕ
MoreRegisters = 288

abbrev pub Register : ℕ
Register = 289

abbrev pub RegisterRest : ℕ
RegisterRest = 290

abbrev pub NetAssignments : ℕ
NetAssignments = 291

abbrev pub MoreNetAssignments : ℕ
MoreNetAssignments = 292

abbrev pub NetAssignment : ℕ
NetAssignment = 293

abbrev pub Overrides : ℕ
Overrides = 294

abbrev pub Instances : ℕ
Instances = 295

abbrev pub MoreInstances : ℕ
MoreInstances = 296

abbrev pub Instance : ℕ
Instance = 297

abbrev pub Connections : ℕ
Connections = 298

abbrev pub MoreOrdered : ℕ
MoreOrdered = 299

abbrev pub MoreNamed : ℕ
MoreNamed = 300

abbrev pub Named : ℕ
Named = 301

abbrev pub ExprOption : ℕ
ExprOption = 302

abbrev pub Event : ℕ
Event = 303

abbrev pub EventRest : ℕ
EventRest = 304

abbrev pub EventIn : ℕ
EventIn = 305

abbrev pub EventMore : ℕ
EventMore = 306

abbrev pub EventMark : ℕ
EventMark = 307

abbrev pub Stmt : ℕ
Stmt = 308

abbrev pub Label : ℕ
Label = 309

abbrev pub Stmts : ℕ
Stmts = 310

abbrev pub ElseOption : ℕ
ElseOption = 311

abbrev pub CaseItems : ℕ
CaseItems = 312

abbrev pub MoreCaseItems : ℕ
MoreCaseItems = 313

abbrev pub CaseItem : ℕ
CaseItem = 314

abbrev pub ColonOption : ℕ
ColonOption = 315

abbrev pub AssignmentKind : ℕ
AssignmentKind = 316

abbrev pub Target : ℕ
Target = 317

abbrev pub TargetRest : ℕ
TargetRest = 318

abbrev pub MoreTargets : ℕ
MoreTargets = 319

abbrev pub Selection : ℕ
Selection = 320

abbrev pub SelectionRest : ℕ
SelectionRest = 321

abbrev pub Exprs : ℕ
Exprs = 322

abbrev pub MoreExprs : ℕ
MoreExprs = 323

abbrev pub Expr : ℕ
Expr = 324

abbrev pub U10 : ℕ
U10 = 325

abbrev pub U9 : ℕ
U9 = 326

abbrev pub U8 : ℕ
U8 = 327

abbrev pub U7 : ℕ
U7 = 328

abbrev pub U6 : ℕ
U6 = 329

abbrev pub U5 : ℕ
U5 = 330

abbrev pub U4 : ℕ
U4 = 331

abbrev pub U3 : ℕ
U3 = 332

abbrev pub U2 : ℕ
U2 = 333

abbrev pub U1 : ℕ
U1 = 334

abbrev pub T0 : ℕ
T0 = 335

abbrev pub T1 : ℕ
T1 = 336

abbrev pub T2 : ℕ
T2 = 337

abbrev pub T3 : ℕ
T3 = 338

abbrev pub T4 : ℕ
T4 = 339

abbrev pub T5 : ℕ
T5 = 340

abbrev pub T6 : ℕ
T6 = 341

abbrev pub T7 : ℕ
T7 = 342

abbrev pub T8 : ℕ
T8 = 343

abbrev pub T9 : ℕ
T9 = 344

abbrev pub T10 : ℕ
T10 = 345

abbrev pub XorOperator : ℕ
XorOperator = 346

abbrev pub EqualOperator : ℕ
EqualOperator = 347

abbrev pub OrderOperator : ℕ
OrderOperator = 348

abbrev pub ShiftOperator : ℕ
ShiftOperator = 349

abbrev pub SumOperator : ℕ
SumOperator = 350

abbrev pub ProductOperator : ℕ
ProductOperator = 351

abbrev pub Unary : ℕ
Unary = 352

abbrev pub UnaryOperator : ℕ
UnaryOperator = 353

abbrev pub Primary : ℕ
Primary = 354

abbrev pub BasedOption : ℕ
BasedOption = 355

abbrev pub SelectOption : ℕ
SelectOption = 356

abbrev pub BraceRest : ℕ
BraceRest = 357

-- the first of the actions, which stand for no token
abbrev pub FIRST_ACTION : ℕ
FIRST_ACTION = 358
