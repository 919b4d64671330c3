-- What an assignment to a register stores (IEEE 1364-2005, 5.4.1 and 9.2.1).
use Rattle.std.specs.Prelude.{ℕ, ◌%◌, ◌^◌, max, min, List, [], ◌∷◌, Option, Some, None}
use Rattle.v_tree.specs.declared.expr.Expr.{Expr}
use Rattle.elab_names.specs.declared.constant.Worth.{Worth}
use Rattle.elab_names.specs.declared.constant.Worth.TheVariants.{Value, Open, NotConstant}
use Rattle.elab_names.specs.declared.context.Context.{Context}
use Rattle.elab_names.specs.declared.measure.Measured.{Measured}
use Rattle.elab_names.specs.declared.names.Entry.{Entry}
use Rattle.elab_names.specs.declared.names.Entry.TheVariants.{Signal}
use Rattle.elab_names.specs.declared.names.Shape.{Shape}
use Rattle.elab_names.specs.declared.names.Turn.{Turn}
use Rattle.elab_names.specs.Constants.{context_of}
use Rattle.elab_names.specs.Names.{Scope}
use Rattle.elab_names.specs.Measured.{greater, length_of, signed_of, worth_in, measured}
use Rattle.elab_firsts.specs.declared.values.FirstWrite.{FirstWrite}

-- a register has from 1 to 64 bits
abbrev pub register_bits : ℕ → ℕ
register_bits bits = max 1 (min 64 bits)

-- the low bits that the register holds, and 0 for what has no value
abbrev pub low_value : ℕ → Worth → ℕ
low_value bits (Value w) = w.value % 2 ^ register_bits bits
low_value bits Open = 0
low_value bits NotConstant = 0

-- the context of what is assigned: the greater of both lengths, and the sign of the right side
abbrev pub assigned_context : ℕ → Measured → Option Context
assigned_context bits m = context_of (greater (Some bits) (length_of m)) (signed_of m)

-- what a register of so many bits holds after the assignment (IEEE 1364-2005, 5.5.3)
abbrev pub stored : ℕ → Measured → ℕ
stored bits m = low_value bits (worth_in (assigned_context bits m) m)

-- the write to a signal, if it has a shape
abbrev pub shape_write : ℕ → Option Shape → ℕ → Measured → List FirstWrite
shape_write number None at m = []
shape_write number (Some shape) at m = (record { signal = number; word = at; value = stored shape.bits m }) ∷ []

-- what `name = e` writes to a word of the signal that the name stands for
abbrev pub entry_write : Option Entry → ℕ → Measured → List FirstWrite
entry_write (Some (Signal s)) at m = shape_write s.number s.shape at m
entry_write e at m = []

-- what `name = e` writes to a word, where the names and the turns of loops around it are these
abbrev pub write_of : Scope → List Turn → Option Entry → ℕ → Expr → List FirstWrite
write_of names turns entry at e = entry_write entry at (measured names turns e)
