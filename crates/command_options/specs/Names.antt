-- Names in words.
use Rattle.std.specs.Prelude.{ℕ, Bool, false, ◌==◌, List, Option, None, Some}
use Rattle.v_tokens.specs.Rules.{kind_of as verilog_kind}
use Rattle.v_tokens.specs.Kinds.{number_of as verilog_number}
use Rattle.v_tokens.specs.declared.kinds.TokenKind.TheVariants as verilog
use Rattle.c_tokens.specs.Rules.{kind_of as c_kind}
use Rattle.c_tokens.specs.Kinds.{number_of as c_number}
use Rattle.c_tokens.specs.declared.kinds.TokenKind.TheVariants as c

-- the text is one token, and of this kind
abbrev pub is_kind : (kind : ℕ) → Option ℕ → Bool
is_kind kind None = false
is_kind kind (Some k) = k == kind

-- an identifier of Verilog, and no keyword (IEEE 1364-2005, 3.7)
abbrev pub is_verilog_name : List ℕ → Bool
is_verilog_name text = is_kind (verilog_number verilog.Identifier) (verilog_kind text)

-- an identifier of C, and no reserved word (C99 6.4.2.1)
abbrev pub is_c_name : List ℕ → Bool
is_c_name text = is_kind (c_number c.Identifier) (c_kind text)
