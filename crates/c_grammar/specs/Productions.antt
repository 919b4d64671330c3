-- The grammar of the C profile, factored so that one token ahead decides: docs/C_PROFILE.md has the
-- published form. A nonterminal with several productions is a choice of them.
use Rattle.std.specs.Prelude.{List, [], ◌∷◌}
use Rattle.ll_parse.specs.Productions.{Production, ◌⟶◌, nothing_but_before}
use Rattle.c_grammar.specs.Symbols.{AfterLabel, AfterName, AfterSign, AfterStmt, Ampersand, AmpersandBecomes, Args, ArrayInit, Assert, Assign, AssignOp, Bang, Bar, BarBecomes, Becomes, Block, Bool, Break, Caret, CaretBecomes, Case, Char, Character, CloseBrace, CloseBracket, CloseParenthesis, Colon, Comma, Const, Continue, CproverAssert, CproverAssume, Decl, DeclRest, Decrement, Default, Do, Dot, Else, ElseOpt, Equal, EqualOp, Expr, ExprOpt, Extern, ExternRest, External, Externals, False, File, For, ForFirst, ForSimple, FunctionEnd, FunctionRest, Greater, GreaterEqual, Groups, Identifier, If, Increment, Init, InitOpt, InitRest, Int, Int16, Int32, Int64, Int8, IntOpt, Integer, IntegerType, Item, ItemRest, Label, Less, LessEqual, Local, LogicalAnd, LogicalOr, Long, LongOpt, Member, Minus, MinusBecomes, MoreArgs, MoreDecls, MoreElements, MoreExternals, MoreItems, MoreMembers, MoreNames, MoreParams, NextElement, NotEqual, OpenBrace, OpenBracket, OpenParenthesis, OrderOp, Param, ParamName, Params, Paren, Parts, Path, PathRest, Percent, PercentBecomes, Plus, PlusBecomes, ProductOp, Question, Return, Semicolon, ShiftLeft, ShiftLeftBecomes, ShiftOp, ShiftRight, ShiftRightBecomes, Short, Sign, Signed, Simple, SimpleOpt, SimpleRest, Slash, SlashBecomes, Star, StarBecomes, Static, StaticRest, Step, Stmt, StringLiteral, Struct, SumOp, Switch, T0, T1, T10, T2, T3, T4, T5, T6, T7, T8, T9, Tilde, True, U1, U10, U2, U3, U4, U5, U6, U7, U8, U9, Uint16, Uint32, Uint64, Uint8, Unary, UnaryNoId, UnaryOp, UnderscoreBool, Unsigned, Void, While}

-- all productions, in the order of their numbers
unfoldable pub PRODUCTIONS : List Production
PRODUCTIONS =
    -- File = Externals
    (File ⟶ Externals ∷ []) ∷
    -- Externals = External MoreExternals | nothing
    (Externals ⟶ External ∷ MoreExternals ∷ []) ∷
    (Externals ⟶ []) ∷
    -- MoreExternals = External MoreExternals | nothing
    (MoreExternals ⟶ External ∷ MoreExternals ∷ []) ∷
    (MoreExternals ⟶ []) ∷
    -- External = "struct" ID "{" Member MoreMembers "}" ";" | "extern" ExternRest | "static" StaticRest | "const" Type ID DeclRest MoreDecls ";" | Type ID AfterName | "void" ID FunctionRest
    (External ⟶ Struct ∷ Identifier ∷ OpenBrace ∷ Member ∷ MoreMembers ∷ CloseBrace ∷ Semicolon ∷ []) ∷
    (External ⟶ Extern ∷ ExternRest ∷ []) ∷
    (External ⟶ Static ∷ StaticRest ∷ []) ∷
    (External ⟶ Const ∷ IntegerType ∷ Identifier ∷ DeclRest ∷ MoreDecls ∷ Semicolon ∷ []) ∷
    (External ⟶ IntegerType ∷ Identifier ∷ AfterName ∷ []) ∷
    (External ⟶ Void ∷ Identifier ∷ FunctionRest ∷ []) ∷
    -- ExternRest = "struct" ID ID ";" | "const" Type ID ";" | Type ID FunctionRest | "void" ID FunctionRest
    (ExternRest ⟶ Struct ∷ Identifier ∷ Identifier ∷ Semicolon ∷ []) ∷
    (ExternRest ⟶ Const ∷ IntegerType ∷ Identifier ∷ Semicolon ∷ []) ∷
    (ExternRest ⟶ IntegerType ∷ Identifier ∷ FunctionRest ∷ []) ∷
    (ExternRest ⟶ Void ∷ Identifier ∷ FunctionRest ∷ []) ∷
    -- StaticRest = "const" Type ID DeclRest MoreDecls ";" | Type ID AfterName | "void" ID FunctionRest
    (StaticRest ⟶ Const ∷ IntegerType ∷ Identifier ∷ DeclRest ∷ MoreDecls ∷ Semicolon ∷ []) ∷
    (StaticRest ⟶ IntegerType ∷ Identifier ∷ AfterName ∷ []) ∷
    (StaticRest ⟶ Void ∷ Identifier ∷ FunctionRest ∷ []) ∷
    -- AfterName = FunctionRest | DeclRest MoreDecls ";"
    (AfterName ⟶ FunctionRest ∷ []) ∷
    (AfterName ⟶ DeclRest ∷ MoreDecls ∷ Semicolon ∷ []) ∷
    -- FunctionRest = "(" Params ")" FunctionEnd
    (FunctionRest ⟶ OpenParenthesis ∷ Params ∷ CloseParenthesis ∷ FunctionEnd ∷ []) ∷
    -- FunctionEnd = ";" | Block
    (FunctionEnd ⟶ Semicolon ∷ []) ∷
    (FunctionEnd ⟶ Block ∷ []) ∷
    -- MoreMembers = Member MoreMembers | nothing
    (MoreMembers ⟶ Member ∷ MoreMembers ∷ []) ∷
    (MoreMembers ⟶ []) ∷
    -- Member = Type Item MoreItems ";" | "struct" ID ID MoreNames ";"
    (Member ⟶ IntegerType ∷ Item ∷ MoreItems ∷ Semicolon ∷ []) ∷
    (Member ⟶ Struct ∷ Identifier ∷ Identifier ∷ MoreNames ∷ Semicolon ∷ []) ∷
    -- Item = ID ItemRest
    (Item ⟶ Identifier ∷ ItemRest ∷ []) ∷
    -- ItemRest = "[" Expr "]" | nothing
    (ItemRest ⟶ OpenBracket ∷ Expr ∷ CloseBracket ∷ []) ∷
    (ItemRest ⟶ []) ∷
    -- MoreItems = "," Item MoreItems | nothing
    (MoreItems ⟶ Comma ∷ Item ∷ MoreItems ∷ []) ∷
    (MoreItems ⟶ []) ∷
    -- MoreNames = "," ID MoreNames | nothing
    (MoreNames ⟶ Comma ∷ Identifier ∷ MoreNames ∷ []) ∷
    (MoreNames ⟶ []) ∷
    -- Params = "void" | Param MoreParams | nothing
    (Params ⟶ Void ∷ []) ∷
    (Params ⟶ Param ∷ MoreParams ∷ []) ∷
    (Params ⟶ []) ∷
    -- MoreParams = "," Param MoreParams | nothing
    (MoreParams ⟶ Comma ∷ Param ∷ MoreParams ∷ []) ∷
    (MoreParams ⟶ []) ∷
    -- Param = "const" Type ParamName | Type ParamName
    (Param ⟶ Const ∷ IntegerType ∷ ParamName ∷ []) ∷
    (Param ⟶ IntegerType ∷ ParamName ∷ []) ∷
    -- ParamName = ID | nothing
    (ParamName ⟶ Identifier ∷ []) ∷
    (ParamName ⟶ []) ∷
    -- MoreDecls = "," Decl MoreDecls | nothing
    (MoreDecls ⟶ Comma ∷ Decl ∷ MoreDecls ∷ []) ∷
    (MoreDecls ⟶ []) ∷
    -- Decl = ID DeclRest
    (Decl ⟶ Identifier ∷ DeclRest ∷ []) ∷
    -- DeclRest = "=" Init | "[" Expr "]" ArrayInit | nothing
    (DeclRest ⟶ Becomes ∷ Init ∷ []) ∷
    (DeclRest ⟶ OpenBracket ∷ Expr ∷ CloseBracket ∷ ArrayInit ∷ []) ∷
    (DeclRest ⟶ []) ∷
    -- ArrayInit = "=" "{" Expr MoreElements "}" | nothing
    (ArrayInit ⟶ Becomes ∷ OpenBrace ∷ Expr ∷ MoreElements ∷ CloseBrace ∷ []) ∷
    (ArrayInit ⟶ []) ∷
    -- MoreElements = "," NextElement | nothing
    (MoreElements ⟶ Comma ∷ NextElement ∷ []) ∷
    (MoreElements ⟶ []) ∷
    -- NextElement = Expr MoreElements | nothing
    (NextElement ⟶ Expr ∷ MoreElements ∷ []) ∷
    (NextElement ⟶ []) ∷
    -- Init = ID InitRest | UnaryNoId T10 T9 T8 T7 T6 T5 T4 T3 T2 T1 T0
    (Init ⟶ Identifier ∷ InitRest ∷ []) ∷
    (Init ⟶ UnaryNoId ∷ T10 ∷ T9 ∷ T8 ∷ T7 ∷ T6 ∷ T5 ∷ T4 ∷ T3 ∷ T2 ∷ T1 ∷ T0 ∷ []) ∷
    -- InitRest = "(" Args ")" | PathRest T10 T9 T8 T7 T6 T5 T4 T3 T2 T1 T0
    (InitRest ⟶ OpenParenthesis ∷ Args ∷ CloseParenthesis ∷ []) ∷
    (InitRest ⟶ PathRest ∷ T10 ∷ T9 ∷ T8 ∷ T7 ∷ T6 ∷ T5 ∷ T4 ∷ T3 ∷ T2 ∷ T1 ∷ T0 ∷ []) ∷
    -- Type = "_Bool" | "bool" | Sign AfterSign | "char" | "short" IntOpt | "int" | "long" LongOpt | "int8_t" | "int16_t" | "int32_t" | "int64_t" | "uint8_t" | "uint16_t" | "uint32_t" | "uint64_t"
    (IntegerType ⟶ UnderscoreBool ∷ []) ∷
    (IntegerType ⟶ Bool ∷ []) ∷
    (IntegerType ⟶ Sign ∷ AfterSign ∷ []) ∷
    (IntegerType ⟶ Char ∷ []) ∷
    (IntegerType ⟶ Short ∷ IntOpt ∷ []) ∷
    (IntegerType ⟶ Int ∷ []) ∷
    (IntegerType ⟶ Long ∷ LongOpt ∷ []) ∷
    (IntegerType ⟶ Int8 ∷ []) ∷
    (IntegerType ⟶ Int16 ∷ []) ∷
    (IntegerType ⟶ Int32 ∷ []) ∷
    (IntegerType ⟶ Int64 ∷ []) ∷
    (IntegerType ⟶ Uint8 ∷ []) ∷
    (IntegerType ⟶ Uint16 ∷ []) ∷
    (IntegerType ⟶ Uint32 ∷ []) ∷
    (IntegerType ⟶ Uint64 ∷ []) ∷
    -- Sign = "signed" | "unsigned"
    (Sign ⟶ Signed ∷ []) ∷
    (Sign ⟶ Unsigned ∷ []) ∷
    -- AfterSign = "char" | "short" IntOpt | "int" | "long" LongOpt | nothing
    (AfterSign ⟶ Char ∷ []) ∷
    (AfterSign ⟶ Short ∷ IntOpt ∷ []) ∷
    (AfterSign ⟶ Int ∷ []) ∷
    (AfterSign ⟶ Long ∷ LongOpt ∷ []) ∷
    (AfterSign ⟶ []) ∷
    -- LongOpt = "long" IntOpt | "int" | nothing
    (LongOpt ⟶ Long ∷ IntOpt ∷ []) ∷
    (LongOpt ⟶ Int ∷ []) ∷
    (LongOpt ⟶ []) ∷
    -- IntOpt = "int" | nothing
    (IntOpt ⟶ Int ∷ []) ∷
    (IntOpt ⟶ []) ∷
    -- Block = "{" Parts "}"
    (Block ⟶ OpenBrace ∷ Parts ∷ CloseBrace ∷ []) ∷
    -- Parts = Local Parts | Stmt Parts | nothing
    (Parts ⟶ Local ∷ Parts ∷ []) ∷
    (Parts ⟶ Stmt ∷ Parts ∷ []) ∷
    (Parts ⟶ []) ∷
    -- Local = "const" Type Decl MoreDecls ";" | Type Decl MoreDecls ";"
    (Local ⟶ Const ∷ IntegerType ∷ Decl ∷ MoreDecls ∷ Semicolon ∷ []) ∷
    (Local ⟶ IntegerType ∷ Decl ∷ MoreDecls ∷ Semicolon ∷ []) ∷
    -- Stmt = Block | ";" | Simple ";" | "if" "(" Expr ")" Stmt ElseOpt | "while" "(" Expr ")" Stmt | "do" Stmt "while" "(" Expr ")" ";" | "for" "(" ForFirst ExprOpt ";" SimpleOpt ")" Stmt | "switch" "(" Expr ")" "{" Groups "}" | "break" ";" | "continue" ";" | "return" InitOpt ";" | "assert" "(" Expr ")" ";" | "__CPROVER_assert" "(" Expr "," STRING ")" ";" | "__CPROVER_assume" "(" Expr ")" ";"
    (Stmt ⟶ Block ∷ []) ∷
    (Stmt ⟶ Semicolon ∷ []) ∷
    (Stmt ⟶ Simple ∷ Semicolon ∷ []) ∷
    (Stmt ⟶ If ∷ OpenParenthesis ∷ Expr ∷ CloseParenthesis ∷ Stmt ∷ ElseOpt ∷ []) ∷
    (Stmt ⟶ While ∷ OpenParenthesis ∷ Expr ∷ CloseParenthesis ∷ Stmt ∷ []) ∷
    (Stmt ⟶ Do ∷ Stmt ∷ While ∷ OpenParenthesis ∷ Expr ∷ CloseParenthesis ∷ Semicolon ∷ []) ∷
    (Stmt ⟶ For ∷ OpenParenthesis ∷ ForFirst ∷ ExprOpt ∷ Semicolon ∷ SimpleOpt ∷ CloseParenthesis ∷ Stmt ∷ []) ∷
    (Stmt ⟶ Switch ∷ OpenParenthesis ∷ Expr ∷ CloseParenthesis ∷ OpenBrace ∷ Groups ∷ CloseBrace ∷ []) ∷
    (Stmt ⟶ Break ∷ Semicolon ∷ []) ∷
    (Stmt ⟶ Continue ∷ Semicolon ∷ []) ∷
    (Stmt ⟶ Return ∷ InitOpt ∷ Semicolon ∷ []) ∷
    (Stmt ⟶ Assert ∷ OpenParenthesis ∷ Expr ∷ CloseParenthesis ∷ Semicolon ∷ []) ∷
    (Stmt ⟶ CproverAssert ∷ OpenParenthesis ∷ Expr ∷ Comma ∷ StringLiteral ∷ CloseParenthesis ∷ Semicolon ∷ []) ∷
    (Stmt ⟶ CproverAssume ∷ OpenParenthesis ∷ Expr ∷ CloseParenthesis ∷ Semicolon ∷ []) ∷
    -- ElseOpt = "else" Stmt | (not before else)
    (ElseOpt ⟶ Else ∷ Stmt ∷ []) ∷
    nothing_but_before ElseOpt Else ∷
    -- ForFirst = Local | ForSimple
    (ForFirst ⟶ Local ∷ []) ∷
    (ForFirst ⟶ ForSimple ∷ []) ∷
    -- ForSimple = Simple ";" | ";"
    (ForSimple ⟶ Simple ∷ Semicolon ∷ []) ∷
    (ForSimple ⟶ Semicolon ∷ []) ∷
    -- SimpleOpt = Simple | nothing
    (SimpleOpt ⟶ Simple ∷ []) ∷
    (SimpleOpt ⟶ []) ∷
    -- ExprOpt = Expr | nothing
    (ExprOpt ⟶ Expr ∷ []) ∷
    (ExprOpt ⟶ []) ∷
    -- InitOpt = Init | nothing
    (InitOpt ⟶ Init ∷ []) ∷
    (InitOpt ⟶ []) ∷
    -- Groups = Label AfterLabel | nothing
    (Groups ⟶ Label ∷ AfterLabel ∷ []) ∷
    (Groups ⟶ []) ∷
    -- AfterLabel = Label AfterLabel | Stmt AfterStmt | nothing
    (AfterLabel ⟶ Label ∷ AfterLabel ∷ []) ∷
    (AfterLabel ⟶ Stmt ∷ AfterStmt ∷ []) ∷
    (AfterLabel ⟶ []) ∷
    -- AfterStmt = Stmt AfterStmt | Label AfterLabel | nothing
    (AfterStmt ⟶ Stmt ∷ AfterStmt ∷ []) ∷
    (AfterStmt ⟶ Label ∷ AfterLabel ∷ []) ∷
    (AfterStmt ⟶ []) ∷
    -- Label = "case" Expr ":" | "default" ":"
    (Label ⟶ Case ∷ Expr ∷ Colon ∷ []) ∷
    (Label ⟶ Default ∷ Colon ∷ []) ∷
    -- Simple = ID SimpleRest | Step Path
    (Simple ⟶ Identifier ∷ SimpleRest ∷ []) ∷
    (Simple ⟶ Step ∷ Path ∷ []) ∷
    -- Step = "++" | "--"
    (Step ⟶ Increment ∷ []) ∷
    (Step ⟶ Decrement ∷ []) ∷
    -- SimpleRest = "(" Args ")" | PathRest Assign
    (SimpleRest ⟶ OpenParenthesis ∷ Args ∷ CloseParenthesis ∷ []) ∷
    (SimpleRest ⟶ PathRest ∷ Assign ∷ []) ∷
    -- Assign = "=" Init | AssignOp Expr | Step
    (Assign ⟶ Becomes ∷ Init ∷ []) ∷
    (Assign ⟶ AssignOp ∷ Expr ∷ []) ∷
    (Assign ⟶ Step ∷ []) ∷
    -- AssignOp = "+=" | "-=" | "*=" | "/=" | "%=" | "&=" | "|=" | "^=" | "<<=" | ">>="
    (AssignOp ⟶ PlusBecomes ∷ []) ∷
    (AssignOp ⟶ MinusBecomes ∷ []) ∷
    (AssignOp ⟶ StarBecomes ∷ []) ∷
    (AssignOp ⟶ SlashBecomes ∷ []) ∷
    (AssignOp ⟶ PercentBecomes ∷ []) ∷
    (AssignOp ⟶ AmpersandBecomes ∷ []) ∷
    (AssignOp ⟶ BarBecomes ∷ []) ∷
    (AssignOp ⟶ CaretBecomes ∷ []) ∷
    (AssignOp ⟶ ShiftLeftBecomes ∷ []) ∷
    (AssignOp ⟶ ShiftRightBecomes ∷ []) ∷
    -- Args = Expr MoreArgs | nothing
    (Args ⟶ Expr ∷ MoreArgs ∷ []) ∷
    (Args ⟶ []) ∷
    -- MoreArgs = "," Expr MoreArgs | nothing
    (MoreArgs ⟶ Comma ∷ Expr ∷ MoreArgs ∷ []) ∷
    (MoreArgs ⟶ []) ∷
    -- Path = ID PathRest
    (Path ⟶ Identifier ∷ PathRest ∷ []) ∷
    -- PathRest = "." ID PathRest | "[" Expr "]" | nothing
    (PathRest ⟶ Dot ∷ Identifier ∷ PathRest ∷ []) ∷
    (PathRest ⟶ OpenBracket ∷ Expr ∷ CloseBracket ∷ []) ∷
    (PathRest ⟶ []) ∷
    -- Expr = Unary T10 T9 T8 T7 T6 T5 T4 T3 T2 T1 T0
    (Expr ⟶ Unary ∷ T10 ∷ T9 ∷ T8 ∷ T7 ∷ T6 ∷ T5 ∷ T4 ∷ T3 ∷ T2 ∷ T1 ∷ T0 ∷ []) ∷
    -- U10 = Unary
    (U10 ⟶ Unary ∷ []) ∷
    -- U9 = Unary T10
    (U9 ⟶ Unary ∷ T10 ∷ []) ∷
    -- U8 = Unary T10 T9
    (U8 ⟶ Unary ∷ T10 ∷ T9 ∷ []) ∷
    -- U7 = Unary T10 T9 T8
    (U7 ⟶ Unary ∷ T10 ∷ T9 ∷ T8 ∷ []) ∷
    -- U6 = Unary T10 T9 T8 T7
    (U6 ⟶ Unary ∷ T10 ∷ T9 ∷ T8 ∷ T7 ∷ []) ∷
    -- U5 = Unary T10 T9 T8 T7 T6
    (U5 ⟶ Unary ∷ T10 ∷ T9 ∷ T8 ∷ T7 ∷ T6 ∷ []) ∷
    -- U4 = Unary T10 T9 T8 T7 T6 T5
    (U4 ⟶ Unary ∷ T10 ∷ T9 ∷ T8 ∷ T7 ∷ T6 ∷ T5 ∷ []) ∷
    -- U3 = Unary T10 T9 T8 T7 T6 T5 T4
    (U3 ⟶ Unary ∷ T10 ∷ T9 ∷ T8 ∷ T7 ∷ T6 ∷ T5 ∷ T4 ∷ []) ∷
    -- U2 = Unary T10 T9 T8 T7 T6 T5 T4 T3
    (U2 ⟶ Unary ∷ T10 ∷ T9 ∷ T8 ∷ T7 ∷ T6 ∷ T5 ∷ T4 ∷ T3 ∷ []) ∷
    -- U1 = Unary T10 T9 T8 T7 T6 T5 T4 T3 T2
    (U1 ⟶ Unary ∷ T10 ∷ T9 ∷ T8 ∷ T7 ∷ T6 ∷ T5 ∷ T4 ∷ T3 ∷ T2 ∷ []) ∷
    -- T0 = "?" Expr ":" Expr | nothing
    (T0 ⟶ Question ∷ Expr ∷ Colon ∷ Expr ∷ []) ∷
    (T0 ⟶ []) ∷
    -- T1 = "||" U1 T1 | nothing
    (T1 ⟶ LogicalOr ∷ U1 ∷ T1 ∷ []) ∷
    (T1 ⟶ []) ∷
    -- T2 = "&&" U2 T2 | nothing
    (T2 ⟶ LogicalAnd ∷ U2 ∷ T2 ∷ []) ∷
    (T2 ⟶ []) ∷
    -- T3 = "|" U3 T3 | nothing
    (T3 ⟶ Bar ∷ U3 ∷ T3 ∷ []) ∷
    (T3 ⟶ []) ∷
    -- T4 = "^" U4 T4 | nothing
    (T4 ⟶ Caret ∷ U4 ∷ T4 ∷ []) ∷
    (T4 ⟶ []) ∷
    -- T5 = "&" U5 T5 | nothing
    (T5 ⟶ Ampersand ∷ U5 ∷ T5 ∷ []) ∷
    (T5 ⟶ []) ∷
    -- T6 = EqualOp U6 T6 | nothing
    (T6 ⟶ EqualOp ∷ U6 ∷ T6 ∷ []) ∷
    (T6 ⟶ []) ∷
    -- T7 = OrderOp U7 T7 | nothing
    (T7 ⟶ OrderOp ∷ U7 ∷ T7 ∷ []) ∷
    (T7 ⟶ []) ∷
    -- T8 = ShiftOp U8 T8 | nothing
    (T8 ⟶ ShiftOp ∷ U8 ∷ T8 ∷ []) ∷
    (T8 ⟶ []) ∷
    -- T9 = SumOp U9 T9 | nothing
    (T9 ⟶ SumOp ∷ U9 ∷ T9 ∷ []) ∷
    (T9 ⟶ []) ∷
    -- T10 = ProductOp U10 T10 | nothing
    (T10 ⟶ ProductOp ∷ U10 ∷ T10 ∷ []) ∷
    (T10 ⟶ []) ∷
    -- EqualOp = "==" | "!="
    (EqualOp ⟶ Equal ∷ []) ∷
    (EqualOp ⟶ NotEqual ∷ []) ∷
    -- OrderOp = "<" | "<=" | ">" | ">="
    (OrderOp ⟶ Less ∷ []) ∷
    (OrderOp ⟶ LessEqual ∷ []) ∷
    (OrderOp ⟶ Greater ∷ []) ∷
    (OrderOp ⟶ GreaterEqual ∷ []) ∷
    -- ShiftOp = "<<" | ">>"
    (ShiftOp ⟶ ShiftLeft ∷ []) ∷
    (ShiftOp ⟶ ShiftRight ∷ []) ∷
    -- SumOp = "+" | "-"
    (SumOp ⟶ Plus ∷ []) ∷
    (SumOp ⟶ Minus ∷ []) ∷
    -- ProductOp = "*" | "/" | "%"
    (ProductOp ⟶ Star ∷ []) ∷
    (ProductOp ⟶ Slash ∷ []) ∷
    (ProductOp ⟶ Percent ∷ []) ∷
    -- Unary = ID PathRest | UnaryNoId
    (Unary ⟶ Identifier ∷ PathRest ∷ []) ∷
    (Unary ⟶ UnaryNoId ∷ []) ∷
    -- UnaryNoId = UnaryOp Unary | "(" Paren | INT | CHAR | "true" | "false"
    (UnaryNoId ⟶ UnaryOp ∷ Unary ∷ []) ∷
    (UnaryNoId ⟶ OpenParenthesis ∷ Paren ∷ []) ∷
    (UnaryNoId ⟶ Integer ∷ []) ∷
    (UnaryNoId ⟶ Character ∷ []) ∷
    (UnaryNoId ⟶ True ∷ []) ∷
    (UnaryNoId ⟶ False ∷ []) ∷
    -- UnaryOp = "+" | "-" | "!" | "~"
    (UnaryOp ⟶ Plus ∷ []) ∷
    (UnaryOp ⟶ Minus ∷ []) ∷
    (UnaryOp ⟶ Bang ∷ []) ∷
    (UnaryOp ⟶ Tilde ∷ []) ∷
    -- Paren = Type ")" Unary | Expr ")"
    (Paren ⟶ IntegerType ∷ CloseParenthesis ∷ Unary ∷ []) ∷
    (Paren ⟶ Expr ∷ CloseParenthesis ∷ []) ∷
    []
