-- The kinds of token of Verilog by number, its operators and marks (IEEE 1364-2005, 5.1) and its keywords (Annex B).
use Rattle.std.specs.Prelude.{ℕ, List, [], ◌∷◌, codes}
use Rattle.v_tokens.specs.declared.kinds.TokenKind.{TokenKind}
use Rattle.v_tokens.specs.declared.kinds.TokenKind.TheVariants.{Identifier, Decimal, Based, Always, Assign, Begin, Case, Casez, Default, Else, End, Endcase, Endmodule, For, If, Initial, Input, Integer, Localparam, Module, Or, Output, Parameter, Posedge, Reg, Signed, Wire, Plus, Minus, Star, Slash, Percent, Bang, Tilde, Ampersand, Bar, Caret, TildeAmpersand, TildeBar, TildeCaret, CaretTilde, LogicalAnd, LogicalOr, Equal, NotEqual, Less, LessEqual, Greater, GreaterEqual, ShiftLeft, ShiftRight, ArithmeticShiftLeft, ArithmeticShiftRight, Question, Colon, Becomes, PlusColon, MinusColon, OpenParenthesis, CloseParenthesis, OpenBracket, CloseBracket, OpenBrace, CloseBrace, Semicolon, Comma, Dot, Hash, At, SignedCall, UnsignedCall, Reserved}

-- the number of a kind, which the grammar's table has
abbrev pub number_of : TokenKind → ℕ
number_of Identifier = 1
number_of Decimal = 2
number_of Based = 3
number_of Always = 4
number_of Assign = 5
number_of Begin = 6
number_of Case = 7
number_of Casez = 8
number_of Default = 9
number_of Else = 10
number_of End = 11
number_of Endcase = 12
number_of Endmodule = 13
number_of For = 14
number_of If = 15
number_of Initial = 16
number_of Input = 17
number_of Integer = 18
number_of Localparam = 19
number_of Module = 20
number_of Or = 21
number_of Output = 22
number_of Parameter = 23
number_of Posedge = 24
number_of Reg = 25
number_of Signed = 26
number_of Wire = 27
number_of Plus = 28
number_of Minus = 29
number_of Star = 30
number_of Slash = 31
number_of Percent = 32
number_of Bang = 33
number_of Tilde = 34
number_of Ampersand = 35
number_of Bar = 36
number_of Caret = 37
number_of TildeAmpersand = 38
number_of TildeBar = 39
number_of TildeCaret = 40
number_of CaretTilde = 41
number_of LogicalAnd = 42
number_of LogicalOr = 43
number_of Equal = 44
number_of NotEqual = 45
number_of Less = 46
number_of LessEqual = 47
number_of Greater = 48
number_of GreaterEqual = 49
number_of ShiftLeft = 50
number_of ShiftRight = 51
number_of ArithmeticShiftLeft = 52
number_of ArithmeticShiftRight = 53
number_of Question = 54
number_of Colon = 55
number_of Becomes = 56
number_of PlusColon = 57
number_of MinusColon = 58
number_of OpenParenthesis = 59
number_of CloseParenthesis = 60
number_of OpenBracket = 61
number_of CloseBracket = 62
number_of OpenBrace = 63
number_of CloseBrace = 64
number_of Semicolon = 65
number_of Comma = 66
number_of Dot = 67
number_of Hash = 68
number_of At = 69
number_of SignedCall = 70
number_of UnsignedCall = 71
number_of Reserved = 72

-- operators and marks, longer ones first
unfoldable pub MARKS : List (List ℕ × ℕ)
MARKS =
    (codes "$unsigned", number_of UnsignedCall) ∷
    (codes "$signed", number_of SignedCall) ∷
    (codes "<<<", number_of ArithmeticShiftLeft) ∷
    (codes ">>>", number_of ArithmeticShiftRight) ∷
    (codes "~&", number_of TildeAmpersand) ∷
    (codes "~|", number_of TildeBar) ∷
    (codes "~^", number_of TildeCaret) ∷
    (codes "^~", number_of CaretTilde) ∷
    (codes "&&", number_of LogicalAnd) ∷
    (codes "||", number_of LogicalOr) ∷
    (codes "==", number_of Equal) ∷
    (codes "!=", number_of NotEqual) ∷
    (codes "<=", number_of LessEqual) ∷
    (codes ">=", number_of GreaterEqual) ∷
    (codes "<<", number_of ShiftLeft) ∷
    (codes ">>", number_of ShiftRight) ∷
    (codes "+:", number_of PlusColon) ∷
    (codes "-:", number_of MinusColon) ∷
    (codes "+", number_of Plus) ∷
    (codes "-", number_of Minus) ∷
    (codes "*", number_of Star) ∷
    (codes "/", number_of Slash) ∷
    (codes "%", number_of Percent) ∷
    (codes "!", number_of Bang) ∷
    (codes "~", number_of Tilde) ∷
    (codes "&", number_of Ampersand) ∷
    (codes "|", number_of Bar) ∷
    (codes "^", number_of Caret) ∷
    (codes "<", number_of Less) ∷
    (codes ">", number_of Greater) ∷
    (codes "?", number_of Question) ∷
    (codes ":", number_of Colon) ∷
    (codes "=", number_of Becomes) ∷
    (codes "(", number_of OpenParenthesis) ∷
    (codes ")", number_of CloseParenthesis) ∷
    (codes "[", number_of OpenBracket) ∷
    (codes "]", number_of CloseBracket) ∷
    (codes "{", number_of OpenBrace) ∷
    (codes "}", number_of CloseBrace) ∷
    (codes ";", number_of Semicolon) ∷
    (codes ",", number_of Comma) ∷
    (codes ".", number_of Dot) ∷
    (codes "#", number_of Hash) ∷
    (codes "@", number_of At) ∷ []

-- all keywords; those that the profile has no use for are reserved
unfoldable pub KEYWORDS : List (List ℕ × ℕ)
KEYWORDS =
    (codes "always", number_of Always) ∷
    (codes "and", number_of Reserved) ∷
    (codes "assign", number_of Assign) ∷
    (codes "automatic", number_of Reserved) ∷
    (codes "begin", number_of Begin) ∷
    (codes "buf", number_of Reserved) ∷
    (codes "bufif0", number_of Reserved) ∷
    (codes "bufif1", number_of Reserved) ∷
    (codes "case", number_of Case) ∷
    (codes "casex", number_of Reserved) ∷
    (codes "casez", number_of Casez) ∷
    (codes "cell", number_of Reserved) ∷
    (codes "cmos", number_of Reserved) ∷
    (codes "config", number_of Reserved) ∷
    (codes "deassign", number_of Reserved) ∷
    (codes "default", number_of Default) ∷
    (codes "defparam", number_of Reserved) ∷
    (codes "design", number_of Reserved) ∷
    (codes "disable", number_of Reserved) ∷
    (codes "edge", number_of Reserved) ∷
    (codes "else", number_of Else) ∷
    (codes "end", number_of End) ∷
    (codes "endcase", number_of Endcase) ∷
    (codes "endconfig", number_of Reserved) ∷
    (codes "endfunction", number_of Reserved) ∷
    (codes "endgenerate", number_of Reserved) ∷
    (codes "endmodule", number_of Endmodule) ∷
    (codes "endprimitive", number_of Reserved) ∷
    (codes "endspecify", number_of Reserved) ∷
    (codes "endtable", number_of Reserved) ∷
    (codes "endtask", number_of Reserved) ∷
    (codes "event", number_of Reserved) ∷
    (codes "for", number_of For) ∷
    (codes "force", number_of Reserved) ∷
    (codes "forever", number_of Reserved) ∷
    (codes "fork", number_of Reserved) ∷
    (codes "function", number_of Reserved) ∷
    (codes "generate", number_of Reserved) ∷
    (codes "genvar", number_of Reserved) ∷
    (codes "highz0", number_of Reserved) ∷
    (codes "highz1", number_of Reserved) ∷
    (codes "if", number_of If) ∷
    (codes "ifnone", number_of Reserved) ∷
    (codes "incdir", number_of Reserved) ∷
    (codes "include", number_of Reserved) ∷
    (codes "initial", number_of Initial) ∷
    (codes "inout", number_of Reserved) ∷
    (codes "input", number_of Input) ∷
    (codes "instance", number_of Reserved) ∷
    (codes "integer", number_of Integer) ∷
    (codes "join", number_of Reserved) ∷
    (codes "large", number_of Reserved) ∷
    (codes "liblist", number_of Reserved) ∷
    (codes "library", number_of Reserved) ∷
    (codes "localparam", number_of Localparam) ∷
    (codes "macromodule", number_of Reserved) ∷
    (codes "medium", number_of Reserved) ∷
    (codes "module", number_of Module) ∷
    (codes "nand", number_of Reserved) ∷
    (codes "negedge", number_of Reserved) ∷
    (codes "nmos", number_of Reserved) ∷
    (codes "nor", number_of Reserved) ∷
    (codes "noshowcancelled", number_of Reserved) ∷
    (codes "not", number_of Reserved) ∷
    (codes "notif0", number_of Reserved) ∷
    (codes "notif1", number_of Reserved) ∷
    (codes "or", number_of Or) ∷
    (codes "output", number_of Output) ∷
    (codes "parameter", number_of Parameter) ∷
    (codes "pmos", number_of Reserved) ∷
    (codes "posedge", number_of Posedge) ∷
    (codes "primitive", number_of Reserved) ∷
    (codes "pull0", number_of Reserved) ∷
    (codes "pull1", number_of Reserved) ∷
    (codes "pulldown", number_of Reserved) ∷
    (codes "pullup", number_of Reserved) ∷
    (codes "pulsestyle_onevent", number_of Reserved) ∷
    (codes "pulsestyle_ondetect", number_of Reserved) ∷
    (codes "rcmos", number_of Reserved) ∷
    (codes "real", number_of Reserved) ∷
    (codes "realtime", number_of Reserved) ∷
    (codes "reg", number_of Reg) ∷
    (codes "release", number_of Reserved) ∷
    (codes "repeat", number_of Reserved) ∷
    (codes "rnmos", number_of Reserved) ∷
    (codes "rpmos", number_of Reserved) ∷
    (codes "rtran", number_of Reserved) ∷
    (codes "rtranif0", number_of Reserved) ∷
    (codes "rtranif1", number_of Reserved) ∷
    (codes "scalared", number_of Reserved) ∷
    (codes "showcancelled", number_of Reserved) ∷
    (codes "signed", number_of Signed) ∷
    (codes "small", number_of Reserved) ∷
    (codes "specify", number_of Reserved) ∷
    (codes "specparam", number_of Reserved) ∷
    (codes "strong0", number_of Reserved) ∷
    (codes "strong1", number_of Reserved) ∷
    (codes "supply0", number_of Reserved) ∷
    (codes "supply1", number_of Reserved) ∷
    (codes "table", number_of Reserved) ∷
    (codes "task", number_of Reserved) ∷
    (codes "time", number_of Reserved) ∷
    (codes "tran", number_of Reserved) ∷
    (codes "tranif0", number_of Reserved) ∷
    (codes "tranif1", number_of Reserved) ∷
    (codes "tri", number_of Reserved) ∷
    (codes "tri0", number_of Reserved) ∷
    (codes "tri1", number_of Reserved) ∷
    (codes "triand", number_of Reserved) ∷
    (codes "trior", number_of Reserved) ∷
    (codes "trireg", number_of Reserved) ∷
    (codes "unsigned", number_of Reserved) ∷
    (codes "use", number_of Reserved) ∷
    (codes "uwire", number_of Reserved) ∷
    (codes "vectored", number_of Reserved) ∷
    (codes "wait", number_of Reserved) ∷
    (codes "wand", number_of Reserved) ∷
    (codes "weak0", number_of Reserved) ∷
    (codes "weak1", number_of Reserved) ∷
    (codes "while", number_of Reserved) ∷
    (codes "wire", number_of Wire) ∷
    (codes "wor", number_of Reserved) ∷
    (codes "xnor", number_of Reserved) ∷
    (codes "xor", number_of Reserved) ∷ []
