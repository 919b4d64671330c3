-- The kinds of token of C by number, its operators and marks (ISO C99, 6.4.6), its reserved words (6.4.1, and those of
-- the profile) and the suffixes of integers (6.4.4.1).
use Rattle.std.specs.Prelude.{ℕ, List, [], ◌∷◌, codes}
use Rattle.c_tokens.specs.declared.kinds.TokenKind.{TokenKind}
use Rattle.c_tokens.specs.declared.kinds.TokenKind.TheVariants.{Identifier, Integer, Character, StringLiteral, Struct, Extern, Static, Const, Void, UnderscoreBool, Bool, Char, Short, Int, Long, Signed, Unsigned, Int8, Int16, Int32, Int64, Uint8, Uint16, Uint32, Uint64, If, Else, While, Do, For, Switch, Case, Default, Break, Continue, Return, Assert, CproverAssert, CproverAssume, True, False, Plus, Minus, Star, Slash, Percent, Bang, Tilde, Ampersand, Bar, Caret, LogicalAnd, LogicalOr, Equal, NotEqual, Less, LessEqual, Greater, GreaterEqual, ShiftLeft, ShiftRight, Question, Colon, Becomes, PlusBecomes, MinusBecomes, StarBecomes, SlashBecomes, PercentBecomes, AmpersandBecomes, BarBecomes, CaretBecomes, ShiftLeftBecomes, ShiftRightBecomes, Increment, Decrement, OpenParenthesis, CloseParenthesis, OpenBracket, CloseBracket, OpenBrace, CloseBrace, Semicolon, Comma, Dot, Hash, Reserved}

-- the number of a kind, which the grammar's table has
abbrev pub number_of : TokenKind → ℕ
number_of Identifier = 1
number_of Integer = 2
number_of Character = 3
number_of StringLiteral = 4
number_of Struct = 5
number_of Extern = 6
number_of Static = 7
number_of Const = 8
number_of Void = 9
number_of UnderscoreBool = 10
number_of Bool = 11
number_of Char = 12
number_of Short = 13
number_of Int = 14
number_of Long = 15
number_of Signed = 16
number_of Unsigned = 17
number_of Int8 = 18
number_of Int16 = 19
number_of Int32 = 20
number_of Int64 = 21
number_of Uint8 = 22
number_of Uint16 = 23
number_of Uint32 = 24
number_of Uint64 = 25
number_of If = 26
number_of Else = 27
number_of While = 28
number_of Do = 29
number_of For = 30
number_of Switch = 31
number_of Case = 32
number_of Default = 33
number_of Break = 34
number_of Continue = 35
number_of Return = 36
number_of Assert = 37
number_of CproverAssert = 38
number_of CproverAssume = 39
number_of True = 40
number_of False = 41
number_of Plus = 42
number_of Minus = 43
number_of Star = 44
number_of Slash = 45
number_of Percent = 46
number_of Bang = 47
number_of Tilde = 48
number_of Ampersand = 49
number_of Bar = 50
number_of Caret = 51
number_of LogicalAnd = 52
number_of LogicalOr = 53
number_of Equal = 54
number_of NotEqual = 55
number_of Less = 56
number_of LessEqual = 57
number_of Greater = 58
number_of GreaterEqual = 59
number_of ShiftLeft = 60
number_of ShiftRight = 61
number_of Question = 62
number_of Colon = 63
number_of Becomes = 64
number_of PlusBecomes = 65
number_of MinusBecomes = 66
number_of StarBecomes = 67
number_of SlashBecomes = 68
number_of PercentBecomes = 69
number_of AmpersandBecomes = 70
number_of BarBecomes = 71
number_of CaretBecomes = 72
number_of ShiftLeftBecomes = 73
number_of ShiftRightBecomes = 74
number_of Increment = 75
number_of Decrement = 76
number_of OpenParenthesis = 77
number_of CloseParenthesis = 78
number_of OpenBracket = 79
number_of CloseBracket = 80
number_of OpenBrace = 81
number_of CloseBrace = 82
number_of Semicolon = 83
number_of Comma = 84
number_of Dot = 85
number_of Hash = 86
number_of Reserved = 87

-- operators and marks, longer ones first
unfoldable pub MARKS : List (List ℕ × ℕ)
MARKS =
    (codes "<<=", number_of ShiftLeftBecomes) ∷
    (codes ">>=", number_of ShiftRightBecomes) ∷
    (codes "&&", number_of LogicalAnd) ∷
    (codes "||", number_of LogicalOr) ∷
    (codes "==", number_of Equal) ∷
    (codes "!=", number_of NotEqual) ∷
    (codes "<=", number_of LessEqual) ∷
    (codes ">=", number_of GreaterEqual) ∷
    (codes "<<", number_of ShiftLeft) ∷
    (codes ">>", number_of ShiftRight) ∷
    (codes "+=", number_of PlusBecomes) ∷
    (codes "-=", number_of MinusBecomes) ∷
    (codes "*=", number_of StarBecomes) ∷
    (codes "/=", number_of SlashBecomes) ∷
    (codes "%=", number_of PercentBecomes) ∷
    (codes "&=", number_of AmpersandBecomes) ∷
    (codes "|=", number_of BarBecomes) ∷
    (codes "^=", number_of CaretBecomes) ∷
    (codes "++", number_of Increment) ∷
    (codes "--", number_of Decrement) ∷
    (codes "+", number_of Plus) ∷
    (codes "-", number_of Minus) ∷
    (codes "*", number_of Star) ∷
    (codes "/", number_of Slash) ∷
    (codes "%", number_of Percent) ∷
    (codes "!", number_of Bang) ∷
    (codes "~", number_of Tilde) ∷
    (codes "&", number_of Ampersand) ∷
    (codes "|", number_of Bar) ∷
    (codes "^", number_of Caret) ∷
    (codes "<", number_of Less) ∷
    (codes ">", number_of Greater) ∷
    (codes "?", number_of Question) ∷
    (codes ":", number_of Colon) ∷
    (codes "=", number_of Becomes) ∷
    (codes "(", number_of OpenParenthesis) ∷
    (codes ")", number_of CloseParenthesis) ∷
    (codes "[", number_of OpenBracket) ∷
    (codes "]", number_of CloseBracket) ∷
    (codes "{", number_of OpenBrace) ∷
    (codes "}", number_of CloseBrace) ∷
    (codes ";", number_of Semicolon) ∷
    (codes ",", number_of Comma) ∷
    (codes ".", number_of Dot) ∷
    (codes "#", number_of Hash) ∷ []

-- all reserved words; those that the profile has no use for have one kind
unfoldable pub KEYWORDS : List (List ℕ × ℕ)
KEYWORDS =
    (codes "auto", number_of Reserved) ∷
    (codes "break", number_of Break) ∷
    (codes "case", number_of Case) ∷
    (codes "char", number_of Char) ∷
    (codes "const", number_of Const) ∷
    (codes "continue", number_of Continue) ∷
    (codes "default", number_of Default) ∷
    (codes "do", number_of Do) ∷
    (codes "double", number_of Reserved) ∷
    (codes "else", number_of Else) ∷
    (codes "enum", number_of Reserved) ∷
    (codes "extern", number_of Extern) ∷
    (codes "float", number_of Reserved) ∷
    (codes "for", number_of For) ∷
    (codes "goto", number_of Reserved) ∷
    (codes "if", number_of If) ∷
    (codes "inline", number_of Reserved) ∷
    (codes "int", number_of Int) ∷
    (codes "long", number_of Long) ∷
    (codes "register", number_of Reserved) ∷
    (codes "restrict", number_of Reserved) ∷
    (codes "return", number_of Return) ∷
    (codes "short", number_of Short) ∷
    (codes "signed", number_of Signed) ∷
    (codes "sizeof", number_of Reserved) ∷
    (codes "static", number_of Static) ∷
    (codes "struct", number_of Struct) ∷
    (codes "switch", number_of Switch) ∷
    (codes "typedef", number_of Reserved) ∷
    (codes "union", number_of Reserved) ∷
    (codes "unsigned", number_of Unsigned) ∷
    (codes "void", number_of Void) ∷
    (codes "volatile", number_of Reserved) ∷
    (codes "while", number_of While) ∷
    (codes "_Bool", number_of UnderscoreBool) ∷
    (codes "_Complex", number_of Reserved) ∷
    (codes "_Imaginary", number_of Reserved) ∷
    (codes "bool", number_of Bool) ∷
    (codes "true", number_of True) ∷
    (codes "false", number_of False) ∷
    (codes "assert", number_of Assert) ∷
    (codes "__CPROVER_assert", number_of CproverAssert) ∷
    (codes "__CPROVER_assume", number_of CproverAssume) ∷
    (codes "int8_t", number_of Int8) ∷
    (codes "int16_t", number_of Int16) ∷
    (codes "int32_t", number_of Int32) ∷
    (codes "int64_t", number_of Int64) ∷
    (codes "uint8_t", number_of Uint8) ∷
    (codes "uint16_t", number_of Uint16) ∷
    (codes "uint32_t", number_of Uint32) ∷
    (codes "uint64_t", number_of Uint64) ∷ []

-- `u`, and `l` or `ll`, in either order and case, the two letters of `ll` in one case; longer ones first
unfoldable pub SUFFIXES : List (List ℕ × ℕ)
SUFFIXES =
    (codes "ull", number_of Integer) ∷
    (codes "uLL", number_of Integer) ∷
    (codes "Ull", number_of Integer) ∷
    (codes "ULL", number_of Integer) ∷
    (codes "llu", number_of Integer) ∷
    (codes "llU", number_of Integer) ∷
    (codes "LLu", number_of Integer) ∷
    (codes "LLU", number_of Integer) ∷
    (codes "ul", number_of Integer) ∷
    (codes "uL", number_of Integer) ∷
    (codes "Ul", number_of Integer) ∷
    (codes "UL", number_of Integer) ∷
    (codes "lu", number_of Integer) ∷
    (codes "lU", number_of Integer) ∷
    (codes "Lu", number_of Integer) ∷
    (codes "LU", number_of Integer) ∷
    (codes "ll", number_of Integer) ∷
    (codes "LL", number_of Integer) ∷
    (codes "u", number_of Integer) ∷
    (codes "U", number_of Integer) ∷
    (codes "l", number_of Integer) ∷
    (codes "L", number_of Integer) ∷ []
