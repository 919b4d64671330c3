-- The grammar of the Verilog profile, factored so that one token ahead decides: docs/VERILOG_PROFILE.md has the
-- published form. A nonterminal with several productions is a choice of them.
use Rattle.std.specs.Prelude.{List, [], ◌∷◌}
use Rattle.ll_parse.specs.Productions.{Production, ◌⟶◌, nothing_but_before}
use Rattle.v_grammar.specs.Symbols.{Always, Ampersand, ArithmeticShiftLeft, ArithmeticShiftRight, Assign, AssignmentKind, At, Bang, Bar, Based, BasedOption, Becomes, Begin, BraceRest, Caret, CaretTilde, Case, CaseItem, CaseItems, Casez, CloseBrace, CloseBracket, CloseParenthesis, Colon, ColonOption, Comma, Connections, Decimal, Declarator, Declarators, DeclaredNames, Default, Direction, Dot, Else, ElseOption, End, Endcase, Endmodule, Equal, EqualOperator, Event, EventIn, EventMark, EventMore, EventRest, Expr, ExprOption, Exprs, For, Greater, GreaterEqual, Group, GroupNext, GroupRest, Groups, Hash, Header, Identifier, If, Initial, Input, Instance, Instances, Integer, Item, Items, Label, Less, LessEqual, Localparam, LogicalAnd, LogicalOr, Minus, MinusColon, Module, Modules, MoreCaseItems, MoreDeclarators, MoreDeclaredNames, MoreExprs, MoreInstances, MoreNamed, MoreNames, MoreNetAssignments, MoreOrdered, MoreParameters, MoreRegisters, MoreTargets, Named, Names, NetAssignment, NetAssignments, NetKind, NotEqual, OpenBrace, OpenBracket, OpenParenthesis, Or, OrderOperator, Output, Overrides, Parameter, ParameterRange, ParameterValue, Parameters, Percent, Plus, PlusColon, Port, PortNext, PortRest, Ports, Posedge, Primary, ProductOperator, Question, Range, RangeOption, Reg, Register, RegisterRest, Registers, SelectOption, Selection, SelectionRest, Semicolon, ShiftLeft, ShiftOperator, ShiftRight, Sign, Signed, SignedCall, Slash, Source, Star, Stmt, Stmts, SumOperator, T0, T1, T10, T2, T3, T4, T5, T6, T7, T8, T9, Target, TargetRest, Tilde, TildeAmpersand, TildeBar, TildeCaret, U1, U10, U2, U3, U4, U5, U6, U7, U8, U9, Unary, UnaryOperator, UnsignedCall, ValueOption, WholeModule, Wire, XorOperator}

-- all productions, in the order of their numbers
unfoldable pub PRODUCTIONS : List Production
PRODUCTIONS =
    -- Source = Modules
    (Source ⟶ Modules ∷ []) ∷
    -- Modules = Module Modules | nothing
    (Modules ⟶ WholeModule ∷ Modules ∷ []) ∷
    (Modules ⟶ []) ∷
    -- Module = "module" ID Groups Header ";" Items "endmodule"
    (WholeModule ⟶ Module ∷ Identifier ∷ Groups ∷ Header ∷ Semicolon ∷ Items ∷ Endmodule ∷ []) ∷
    -- Groups = "#" "(" Group GroupRest ")" | nothing
    (Groups ⟶ Hash ∷ OpenParenthesis ∷ Group ∷ GroupRest ∷ CloseParenthesis ∷ []) ∷
    (Groups ⟶ []) ∷
    -- Group = "parameter" ParameterRange Parameter
    (Group ⟶ Parameter ∷ ParameterRange ∷ ParameterValue ∷ []) ∷
    -- GroupRest = "," GroupNext | nothing
    (GroupRest ⟶ Comma ∷ GroupNext ∷ []) ∷
    (GroupRest ⟶ []) ∷
    -- GroupNext = Parameter GroupRest | Group GroupRest
    (GroupNext ⟶ ParameterValue ∷ GroupRest ∷ []) ∷
    (GroupNext ⟶ Group ∷ GroupRest ∷ []) ∷
    -- ParameterRange = "signed" Range | Range | nothing
    (ParameterRange ⟶ Signed ∷ Range ∷ []) ∷
    (ParameterRange ⟶ Range ∷ []) ∷
    (ParameterRange ⟶ []) ∷
    -- Parameter = ID "=" Expr
    (ParameterValue ⟶ Identifier ∷ Becomes ∷ Expr ∷ []) ∷
    -- Parameters = Parameter MoreParameters
    (Parameters ⟶ ParameterValue ∷ MoreParameters ∷ []) ∷
    -- MoreParameters = "," Parameter MoreParameters | nothing
    (MoreParameters ⟶ Comma ∷ ParameterValue ∷ MoreParameters ∷ []) ∷
    (MoreParameters ⟶ []) ∷
    -- Range = "[" Expr ":" Expr "]"
    (Range ⟶ OpenBracket ∷ Expr ∷ Colon ∷ Expr ∷ CloseBracket ∷ []) ∷
    -- RangeOption = Range | nothing
    (RangeOption ⟶ Range ∷ []) ∷
    (RangeOption ⟶ []) ∷
    -- Header = "(" Ports ")" | nothing
    (Header ⟶ OpenParenthesis ∷ Ports ∷ CloseParenthesis ∷ []) ∷
    (Header ⟶ []) ∷
    -- Ports = Names | Port PortRest | nothing
    (Ports ⟶ Names ∷ []) ∷
    (Ports ⟶ Port ∷ PortRest ∷ []) ∷
    (Ports ⟶ []) ∷
    -- Port = Direction NetKind Sign RangeOption Declarator
    (Port ⟶ Direction ∷ NetKind ∷ Sign ∷ RangeOption ∷ Declarator ∷ []) ∷
    -- PortRest = "," PortNext | nothing
    (PortRest ⟶ Comma ∷ PortNext ∷ []) ∷
    (PortRest ⟶ []) ∷
    -- PortNext = Declarator PortRest | Port PortRest
    (PortNext ⟶ Declarator ∷ PortRest ∷ []) ∷
    (PortNext ⟶ Port ∷ PortRest ∷ []) ∷
    -- Direction = "input" | "output"
    (Direction ⟶ Input ∷ []) ∷
    (Direction ⟶ Output ∷ []) ∷
    -- NetKind = "wire" | "reg" | nothing
    (NetKind ⟶ Wire ∷ []) ∷
    (NetKind ⟶ Reg ∷ []) ∷
    (NetKind ⟶ []) ∷
    -- Sign = "signed" | nothing
    (Sign ⟶ Signed ∷ []) ∷
    (Sign ⟶ []) ∷
    -- Declarator = ID ValueOption
    (Declarator ⟶ Identifier ∷ ValueOption ∷ []) ∷
    -- Declarators = Declarator MoreDeclarators
    (Declarators ⟶ Declarator ∷ MoreDeclarators ∷ []) ∷
    -- MoreDeclarators = "," Declarator MoreDeclarators | nothing
    (MoreDeclarators ⟶ Comma ∷ Declarator ∷ MoreDeclarators ∷ []) ∷
    (MoreDeclarators ⟶ []) ∷
    -- ValueOption = "=" Expr | nothing
    (ValueOption ⟶ Becomes ∷ Expr ∷ []) ∷
    (ValueOption ⟶ []) ∷
    -- Names = ID MoreNames
    (Names ⟶ Identifier ∷ MoreNames ∷ []) ∷
    -- MoreNames = "," ID MoreNames | nothing
    (MoreNames ⟶ Comma ∷ Identifier ∷ MoreNames ∷ []) ∷
    (MoreNames ⟶ []) ∷
    -- DeclaredNames = ID MoreDeclaredNames
    (DeclaredNames ⟶ Identifier ∷ MoreDeclaredNames ∷ []) ∷
    -- MoreDeclaredNames = "," ID MoreDeclaredNames | nothing
    (MoreDeclaredNames ⟶ Comma ∷ Identifier ∷ MoreDeclaredNames ∷ []) ∷
    (MoreDeclaredNames ⟶ []) ∷
    -- Items = Item Items | nothing
    (Items ⟶ Item ∷ Items ∷ []) ∷
    (Items ⟶ []) ∷
    -- Item = Direction NetKind Sign RangeOption DeclaredNames ";" | "wire" Sign RangeOption Declarators ";" | "reg" Sign RangeOption Registers ";" | "integer" DeclaredNames ";" | "parameter" ParameterRange Parameters ";" | "localparam" ParameterRange Parameters ";" | "assign" NetAssignments ";" | "always" Event Stmt | "initial" Stmt | ID Overrides Instances ";"
    (Item ⟶ Direction ∷ NetKind ∷ Sign ∷ RangeOption ∷ DeclaredNames ∷ Semicolon ∷ []) ∷
    (Item ⟶ Wire ∷ Sign ∷ RangeOption ∷ Declarators ∷ Semicolon ∷ []) ∷
    (Item ⟶ Reg ∷ Sign ∷ RangeOption ∷ Registers ∷ Semicolon ∷ []) ∷
    (Item ⟶ Integer ∷ DeclaredNames ∷ Semicolon ∷ []) ∷
    (Item ⟶ Parameter ∷ ParameterRange ∷ Parameters ∷ Semicolon ∷ []) ∷
    (Item ⟶ Localparam ∷ ParameterRange ∷ Parameters ∷ Semicolon ∷ []) ∷
    (Item ⟶ Assign ∷ NetAssignments ∷ Semicolon ∷ []) ∷
    (Item ⟶ Always ∷ Event ∷ Stmt ∷ []) ∷
    (Item ⟶ Initial ∷ Stmt ∷ []) ∷
    (Item ⟶ Identifier ∷ Overrides ∷ Instances ∷ Semicolon ∷ []) ∷
    -- Registers = Register MoreRegisters
    (Registers ⟶ Register ∷ MoreRegisters ∷ []) ∷
    -- MoreRegisters = "," Register MoreRegisters | nothing
    (MoreRegisters ⟶ Comma ∷ Register ∷ MoreRegisters ∷ []) ∷
    (MoreRegisters ⟶ []) ∷
    -- Register = ID RegisterRest
    (Register ⟶ Identifier ∷ RegisterRest ∷ []) ∷
    -- RegisterRest = "=" Expr | Range | nothing
    (RegisterRest ⟶ Becomes ∷ Expr ∷ []) ∷
    (RegisterRest ⟶ Range ∷ []) ∷
    (RegisterRest ⟶ []) ∷
    -- NetAssignments = NetAssignment MoreNetAssignments
    (NetAssignments ⟶ NetAssignment ∷ MoreNetAssignments ∷ []) ∷
    -- MoreNetAssignments = "," NetAssignment MoreNetAssignments | nothing
    (MoreNetAssignments ⟶ Comma ∷ NetAssignment ∷ MoreNetAssignments ∷ []) ∷
    (MoreNetAssignments ⟶ []) ∷
    -- NetAssignment = Target "=" Expr
    (NetAssignment ⟶ Target ∷ Becomes ∷ Expr ∷ []) ∷
    -- Overrides = "#" "(" Connections ")" | nothing
    (Overrides ⟶ Hash ∷ OpenParenthesis ∷ Connections ∷ CloseParenthesis ∷ []) ∷
    (Overrides ⟶ []) ∷
    -- Instances = Instance MoreInstances
    (Instances ⟶ Instance ∷ MoreInstances ∷ []) ∷
    -- MoreInstances = "," Instance MoreInstances | nothing
    (MoreInstances ⟶ Comma ∷ Instance ∷ MoreInstances ∷ []) ∷
    (MoreInstances ⟶ []) ∷
    -- Instance = ID "(" Connections ")"
    (Instance ⟶ Identifier ∷ OpenParenthesis ∷ Connections ∷ CloseParenthesis ∷ []) ∷
    -- Connections = Expr MoreOrdered | Named MoreNamed | nothing
    (Connections ⟶ Expr ∷ MoreOrdered ∷ []) ∷
    (Connections ⟶ Named ∷ MoreNamed ∷ []) ∷
    (Connections ⟶ []) ∷
    -- MoreOrdered = "," Expr MoreOrdered | nothing
    (MoreOrdered ⟶ Comma ∷ Expr ∷ MoreOrdered ∷ []) ∷
    (MoreOrdered ⟶ []) ∷
    -- MoreNamed = "," Named MoreNamed | nothing
    (MoreNamed ⟶ Comma ∷ Named ∷ MoreNamed ∷ []) ∷
    (MoreNamed ⟶ []) ∷
    -- Named = "." ID "(" ExprOption ")"
    (Named ⟶ Dot ∷ Identifier ∷ OpenParenthesis ∷ ExprOption ∷ CloseParenthesis ∷ []) ∷
    -- ExprOption = Expr | nothing
    (ExprOption ⟶ Expr ∷ []) ∷
    (ExprOption ⟶ []) ∷
    -- Event = "@" EventRest
    (Event ⟶ At ∷ EventRest ∷ []) ∷
    -- EventRest = "*" | "(" EventIn ")"
    (EventRest ⟶ Star ∷ []) ∷
    (EventRest ⟶ OpenParenthesis ∷ EventIn ∷ CloseParenthesis ∷ []) ∷
    -- EventIn = "*" | "posedge" ID | ID EventMore
    (EventIn ⟶ Star ∷ []) ∷
    (EventIn ⟶ Posedge ∷ Identifier ∷ []) ∷
    (EventIn ⟶ Identifier ∷ EventMore ∷ []) ∷
    -- EventMore = EventMark ID EventMore | nothing
    (EventMore ⟶ EventMark ∷ Identifier ∷ EventMore ∷ []) ∷
    (EventMore ⟶ []) ∷
    -- EventMark = "or" | ","
    (EventMark ⟶ Or ∷ []) ∷
    (EventMark ⟶ Comma ∷ []) ∷
    -- Stmt = "begin" Label Stmts "end" | ";" | "if" "(" Expr ")" Stmt ElseOption | "case" "(" Expr ")" CaseItems "endcase" | "casez" "(" Expr ")" CaseItems "endcase" | "for" "(" ID "=" Expr ";" Expr ";" ID "=" Expr ")" Stmt | Target AssignmentKind Expr ";"
    (Stmt ⟶ Begin ∷ Label ∷ Stmts ∷ End ∷ []) ∷
    (Stmt ⟶ Semicolon ∷ []) ∷
    (Stmt ⟶ If ∷ OpenParenthesis ∷ Expr ∷ CloseParenthesis ∷ Stmt ∷ ElseOption ∷ []) ∷
    (Stmt ⟶ Case ∷ OpenParenthesis ∷ Expr ∷ CloseParenthesis ∷ CaseItems ∷ Endcase ∷ []) ∷
    (Stmt ⟶ Casez ∷ OpenParenthesis ∷ Expr ∷ CloseParenthesis ∷ CaseItems ∷ Endcase ∷ []) ∷
    (Stmt ⟶ For ∷ OpenParenthesis ∷ Identifier ∷ Becomes ∷ Expr ∷ Semicolon ∷ Expr ∷ Semicolon ∷ Identifier ∷ Becomes ∷ Expr ∷ CloseParenthesis ∷ Stmt ∷ []) ∷
    (Stmt ⟶ Target ∷ AssignmentKind ∷ Expr ∷ Semicolon ∷ []) ∷
    -- Label = ":" ID | nothing
    (Label ⟶ Colon ∷ Identifier ∷ []) ∷
    (Label ⟶ []) ∷
    -- Stmts = Stmt Stmts | nothing
    (Stmts ⟶ Stmt ∷ Stmts ∷ []) ∷
    (Stmts ⟶ []) ∷
    -- ElseOption = "else" Stmt | (not before else)
    (ElseOption ⟶ Else ∷ Stmt ∷ []) ∷
    nothing_but_before ElseOption Else ∷
    -- CaseItems = CaseItem MoreCaseItems
    (CaseItems ⟶ CaseItem ∷ MoreCaseItems ∷ []) ∷
    -- MoreCaseItems = CaseItem MoreCaseItems | nothing
    (MoreCaseItems ⟶ CaseItem ∷ MoreCaseItems ∷ []) ∷
    (MoreCaseItems ⟶ []) ∷
    -- CaseItem = Exprs ":" Stmt | "default" ColonOption Stmt
    (CaseItem ⟶ Exprs ∷ Colon ∷ Stmt ∷ []) ∷
    (CaseItem ⟶ Default ∷ ColonOption ∷ Stmt ∷ []) ∷
    -- ColonOption = ":" | nothing
    (ColonOption ⟶ Colon ∷ []) ∷
    (ColonOption ⟶ []) ∷
    -- AssignmentKind = "=" | "<="
    (AssignmentKind ⟶ Becomes ∷ []) ∷
    (AssignmentKind ⟶ LessEqual ∷ []) ∷
    -- Target = ID TargetRest | "{" Target MoreTargets "}"
    (Target ⟶ Identifier ∷ TargetRest ∷ []) ∷
    (Target ⟶ OpenBrace ∷ Target ∷ MoreTargets ∷ CloseBrace ∷ []) ∷
    -- TargetRest = "[" Selection "]" | nothing
    (TargetRest ⟶ OpenBracket ∷ Selection ∷ CloseBracket ∷ []) ∷
    (TargetRest ⟶ []) ∷
    -- MoreTargets = "," Target MoreTargets | nothing
    (MoreTargets ⟶ Comma ∷ Target ∷ MoreTargets ∷ []) ∷
    (MoreTargets ⟶ []) ∷
    -- Selection = Expr SelectionRest
    (Selection ⟶ Expr ∷ SelectionRest ∷ []) ∷
    -- SelectionRest = ":" Expr | "+:" Expr | "-:" Expr | nothing
    (SelectionRest ⟶ Colon ∷ Expr ∷ []) ∷
    (SelectionRest ⟶ PlusColon ∷ Expr ∷ []) ∷
    (SelectionRest ⟶ MinusColon ∷ Expr ∷ []) ∷
    (SelectionRest ⟶ []) ∷
    -- Exprs = Expr MoreExprs
    (Exprs ⟶ Expr ∷ MoreExprs ∷ []) ∷
    -- MoreExprs = "," Expr MoreExprs | nothing
    (MoreExprs ⟶ Comma ∷ Expr ∷ MoreExprs ∷ []) ∷
    (MoreExprs ⟶ []) ∷
    -- Expr = Unary T10 T9 T8 T7 T6 T5 T4 T3 T2 T1 T0
    (Expr ⟶ Unary ∷ T10 ∷ T9 ∷ T8 ∷ T7 ∷ T6 ∷ T5 ∷ T4 ∷ T3 ∷ T2 ∷ T1 ∷ T0 ∷ []) ∷
    -- U10 = Unary
    (U10 ⟶ Unary ∷ []) ∷
    -- U9 = Unary T10
    (U9 ⟶ Unary ∷ T10 ∷ []) ∷
    -- U8 = Unary T10 T9
    (U8 ⟶ Unary ∷ T10 ∷ T9 ∷ []) ∷
    -- U7 = Unary T10 T9 T8
    (U7 ⟶ Unary ∷ T10 ∷ T9 ∷ T8 ∷ []) ∷
    -- U6 = Unary T10 T9 T8 T7
    (U6 ⟶ Unary ∷ T10 ∷ T9 ∷ T8 ∷ T7 ∷ []) ∷
    -- U5 = Unary T10 T9 T8 T7 T6
    (U5 ⟶ Unary ∷ T10 ∷ T9 ∷ T8 ∷ T7 ∷ T6 ∷ []) ∷
    -- U4 = Unary T10 T9 T8 T7 T6 T5
    (U4 ⟶ Unary ∷ T10 ∷ T9 ∷ T8 ∷ T7 ∷ T6 ∷ T5 ∷ []) ∷
    -- U3 = Unary T10 T9 T8 T7 T6 T5 T4
    (U3 ⟶ Unary ∷ T10 ∷ T9 ∷ T8 ∷ T7 ∷ T6 ∷ T5 ∷ T4 ∷ []) ∷
    -- U2 = Unary T10 T9 T8 T7 T6 T5 T4 T3
    (U2 ⟶ Unary ∷ T10 ∷ T9 ∷ T8 ∷ T7 ∷ T6 ∷ T5 ∷ T4 ∷ T3 ∷ []) ∷
    -- U1 = Unary T10 T9 T8 T7 T6 T5 T4 T3 T2
    (U1 ⟶ Unary ∷ T10 ∷ T9 ∷ T8 ∷ T7 ∷ T6 ∷ T5 ∷ T4 ∷ T3 ∷ T2 ∷ []) ∷
    -- T0 = "?" Expr ":" Expr | nothing
    (T0 ⟶ Question ∷ Expr ∷ Colon ∷ Expr ∷ []) ∷
    (T0 ⟶ []) ∷
    -- T1 = "||" U1 T1 | nothing
    (T1 ⟶ LogicalOr ∷ U1 ∷ T1 ∷ []) ∷
    (T1 ⟶ []) ∷
    -- T2 = "&&" U2 T2 | nothing
    (T2 ⟶ LogicalAnd ∷ U2 ∷ T2 ∷ []) ∷
    (T2 ⟶ []) ∷
    -- T3 = "|" U3 T3 | nothing
    (T3 ⟶ Bar ∷ U3 ∷ T3 ∷ []) ∷
    (T3 ⟶ []) ∷
    -- T4 = XorOperator U4 T4 | nothing
    (T4 ⟶ XorOperator ∷ U4 ∷ T4 ∷ []) ∷
    (T4 ⟶ []) ∷
    -- T5 = "&" U5 T5 | nothing
    (T5 ⟶ Ampersand ∷ U5 ∷ T5 ∷ []) ∷
    (T5 ⟶ []) ∷
    -- T6 = EqualOperator U6 T6 | nothing
    (T6 ⟶ EqualOperator ∷ U6 ∷ T6 ∷ []) ∷
    (T6 ⟶ []) ∷
    -- T7 = OrderOperator U7 T7 | nothing
    (T7 ⟶ OrderOperator ∷ U7 ∷ T7 ∷ []) ∷
    (T7 ⟶ []) ∷
    -- T8 = ShiftOperator U8 T8 | nothing
    (T8 ⟶ ShiftOperator ∷ U8 ∷ T8 ∷ []) ∷
    (T8 ⟶ []) ∷
    -- T9 = SumOperator U9 T9 | nothing
    (T9 ⟶ SumOperator ∷ U9 ∷ T9 ∷ []) ∷
    (T9 ⟶ []) ∷
    -- T10 = ProductOperator U10 T10 | nothing
    (T10 ⟶ ProductOperator ∷ U10 ∷ T10 ∷ []) ∷
    (T10 ⟶ []) ∷
    -- XorOperator = "^" | "~^" | "^~"
    (XorOperator ⟶ Caret ∷ []) ∷
    (XorOperator ⟶ TildeCaret ∷ []) ∷
    (XorOperator ⟶ CaretTilde ∷ []) ∷
    -- EqualOperator = "==" | "!="
    (EqualOperator ⟶ Equal ∷ []) ∷
    (EqualOperator ⟶ NotEqual ∷ []) ∷
    -- OrderOperator = "<" | "<=" | ">" | ">="
    (OrderOperator ⟶ Less ∷ []) ∷
    (OrderOperator ⟶ LessEqual ∷ []) ∷
    (OrderOperator ⟶ Greater ∷ []) ∷
    (OrderOperator ⟶ GreaterEqual ∷ []) ∷
    -- ShiftOperator = "<<" | ">>" | "<<<" | ">>>"
    (ShiftOperator ⟶ ShiftLeft ∷ []) ∷
    (ShiftOperator ⟶ ShiftRight ∷ []) ∷
    (ShiftOperator ⟶ ArithmeticShiftLeft ∷ []) ∷
    (ShiftOperator ⟶ ArithmeticShiftRight ∷ []) ∷
    -- SumOperator = "+" | "-"
    (SumOperator ⟶ Plus ∷ []) ∷
    (SumOperator ⟶ Minus ∷ []) ∷
    -- ProductOperator = "*" | "/" | "%"
    (ProductOperator ⟶ Star ∷ []) ∷
    (ProductOperator ⟶ Slash ∷ []) ∷
    (ProductOperator ⟶ Percent ∷ []) ∷
    -- Unary = UnaryOperator Unary | Primary
    (Unary ⟶ UnaryOperator ∷ Unary ∷ []) ∷
    (Unary ⟶ Primary ∷ []) ∷
    -- UnaryOperator = "+" | "-" | "!" | "~" | "&" | "~&" | "|" | "~|" | "^" | "~^" | "^~"
    (UnaryOperator ⟶ Plus ∷ []) ∷
    (UnaryOperator ⟶ Minus ∷ []) ∷
    (UnaryOperator ⟶ Bang ∷ []) ∷
    (UnaryOperator ⟶ Tilde ∷ []) ∷
    (UnaryOperator ⟶ Ampersand ∷ []) ∷
    (UnaryOperator ⟶ TildeAmpersand ∷ []) ∷
    (UnaryOperator ⟶ Bar ∷ []) ∷
    (UnaryOperator ⟶ TildeBar ∷ []) ∷
    (UnaryOperator ⟶ Caret ∷ []) ∷
    (UnaryOperator ⟶ TildeCaret ∷ []) ∷
    (UnaryOperator ⟶ CaretTilde ∷ []) ∷
    -- Primary = DEC BasedOption | BASED | ID SelectOption | "(" Expr ")" | "{" Expr BraceRest | "$signed" "(" Expr ")" | "$unsigned" "(" Expr ")"
    (Primary ⟶ Decimal ∷ BasedOption ∷ []) ∷
    (Primary ⟶ Based ∷ []) ∷
    (Primary ⟶ Identifier ∷ SelectOption ∷ []) ∷
    (Primary ⟶ OpenParenthesis ∷ Expr ∷ CloseParenthesis ∷ []) ∷
    (Primary ⟶ OpenBrace ∷ Expr ∷ BraceRest ∷ []) ∷
    (Primary ⟶ SignedCall ∷ OpenParenthesis ∷ Expr ∷ CloseParenthesis ∷ []) ∷
    (Primary ⟶ UnsignedCall ∷ OpenParenthesis ∷ Expr ∷ CloseParenthesis ∷ []) ∷
    -- BasedOption = BASED | nothing
    (BasedOption ⟶ Based ∷ []) ∷
    (BasedOption ⟶ []) ∷
    -- SelectOption = "[" Selection "]" | nothing
    (SelectOption ⟶ OpenBracket ∷ Selection ∷ CloseBracket ∷ []) ∷
    (SelectOption ⟶ []) ∷
    -- BraceRest = MoreExprs "}" | "{" Exprs "}" "}"
    (BraceRest ⟶ MoreExprs ∷ CloseBrace ∷ []) ∷
    (BraceRest ⟶ OpenBrace ∷ Exprs ∷ CloseBrace ∷ CloseBrace ∷ []) ∷
    []
