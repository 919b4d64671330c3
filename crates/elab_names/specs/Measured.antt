-- Constant expressions: length, sign and value (IEEE 1364-2005, 5.4 and 5.5).
use Rattle.std.specs.Prelude.{ℕ, ◌+◌, ◌-◌, max, min, List, [], ◌∷◌, Option, Some, None, Bool, true, false, ◌&&◌, nat_lt, if◌then◌else◌, ℤ, pos, int_lt, unsigned_abs}
use Rattle.std.proofs.Common.{zero, suc}
use Rattle.bits_core.specs.Word.{Word, joined}
use Rattle.v_tree.specs.declared.expr.BinaryOp.{BinaryOp}
use Rattle.v_tree.specs.declared.expr.Expr.{Expr}
use Rattle.v_tree.specs.declared.expr.Expr as expr
use Rattle.v_tree.specs.declared.expr.Selection.{Selection}
use Rattle.v_tree.specs.declared.expr.Selection as selection
use Rattle.v_tree.specs.declared.expr.UnaryOp.{UnaryOp}
use Rattle.elab_names.specs.declared.context.Context.{Context}
use Rattle.elab_names.specs.declared.constant.Standing.{Standing}
use Rattle.elab_names.specs.declared.constant.Worth.{Worth}
use Rattle.elab_names.specs.declared.constant.Worth.TheVariants.{Value, Open, NotConstant}
use Rattle.elab_names.specs.declared.measure.Measured.{Measured}
use Rattle.elab_names.specs.declared.measure.Measured as m
use Rattle.elab_names.specs.declared.measure.Measured.TheVariants as a
use Rattle.elab_names.specs.declared.names.Turn.{Turn}
use Rattle.elab_names.specs.declared.operator.Form.{Form}
use Rattle.elab_names.specs.declared.operator.Form.TheVariants as form
use Rattle.elab_names.specs.declared.select.Choice.{Choice}
use Rattle.elab_names.specs.declared.select.Choice.TheVariants as choice
use Rattle.elab_names.specs.declared.select.Number.{Number}
use Rattle.elab_names.specs.declared.select.Number.TheVariants as the
use Rattle.elab_names.specs.Constants.{WIDE, standing, literal_constant, literal_standing, context_of, extended, both}
use Rattle.elab_names.specs.Names.{Scope, find_in, entry_standing}
use Rattle.elab_names.specs.Operators.{form_of, is_reduction, arithmetic_worth, comparison_worth, logical_worth, shifted_worth, unary_worth, reduced_worth, chosen, sign_of}
use Rattle.elab_names.specs.Selects.{number_of, select_standing}

-- the greater of two lengths, if both are known
abbrev pub greater : Option ℕ → Option ℕ → Option ℕ
greater (Some x) (Some y) = Some (max x y)
greater (Some x) None = None
greater None y = None

-- a result has a sign only if both operands have (IEEE 1364-2005, 5.5.1)
abbrev pub signed_if_both : Option Bool → Option Bool → Option Bool
signed_if_both (Some x) (Some y) = Some (x && y)
signed_if_both (Some x) None = None
signed_if_both None y = None

-- the length of an expression, up to 129
abbrev pub length_of : Measured → Option ℕ
length_of (m.Standing s) = s.length
length_of (m.Unary' op _ (m.more_of-Measured x _)) = length_of x
length_of (m.Arithmetic' op _ (m.more_of-Measured x _) _ (m.more_of-Measured y _)) = greater (length_of x) (length_of y)
length_of (m.Shift' op _ (m.more_of-Measured x _) amount) = length_of x
length_of (m.Conditional' c _ (m.more_of-Measured x _) _ (m.more_of-Measured y _)) = greater (length_of x) (length_of y)

-- whether an expression has a sign; the amount of a shift and the condition of `?:` don't count (IEEE 1364-2005,
-- 5.5.1)
abbrev pub signed_of : Measured → Option Bool
signed_of (m.Standing s) = s.signed
signed_of (m.Unary' op _ (m.more_of-Measured x _)) = signed_of x
signed_of (m.Arithmetic' op _ (m.more_of-Measured x _) _ (m.more_of-Measured y _)) = signed_if_both (signed_of x) (signed_of y)
signed_of (m.Shift' op _ (m.more_of-Measured x _) amount) = signed_of x
signed_of (m.Conditional' c _ (m.more_of-Measured x _) _ (m.more_of-Measured y _)) = signed_if_both (signed_of x) (signed_of y)

-- the value in a context
abbrev pub worth_in : Option Context → Measured → Worth
worth_in x (m.Standing s) = extended x s.worth
worth_in x (m.Unary' op _ (m.more_of-Measured p _)) = unary_worth op (worth_in x p)
worth_in x (m.Arithmetic' op _ (m.more_of-Measured p _) _ (m.more_of-Measured q _)) = arithmetic_worth op (sign_of x) (worth_in x p) (worth_in x q)
worth_in x (m.Shift' op _ (m.more_of-Measured p _) amount) = shifted_worth op (sign_of x) (worth_in x p) amount
worth_in x (m.Conditional' c _ (m.more_of-Measured p _) _ (m.more_of-Measured q _)) = chosen c (worth_in x p) (worth_in x q)

-- the length and the sign of an expression itself
abbrev pub own_context : Measured → Option Context
own_context e = context_of (length_of e) (signed_of e)

-- an expression that stands for itself: its context has its own length and sign
abbrev pub by_itself : Measured → Standing
by_itself e = standing (length_of e) (signed_of e) (worth_in (own_context e) e)

-- the value of a part
abbrev pub worth_of : Standing → Worth
worth_of s = s.worth

-- what two operands are compared in
abbrev pub common_context : Measured → Measured → Option Context
common_context p q = context_of (greater (length_of p) (length_of q)) (signed_if_both (signed_of p) (signed_of q))

-- one bit without sign
abbrev pub bit_standing : Worth → Standing
bit_standing w = standing (Some 1) (Some false) w

-- a comparison of operands at the greater length, read with sign if both have one (IEEE 1364-2005, 5.5.1, table 5-22)
abbrev pub compared : BinaryOp → Measured → Measured → Standing
compared op p q =
    let x = common_context p q in
    bit_standing (comparison_worth op (sign_of x) (worth_in x p) (worth_in x q))

-- a binary operator; what stands for itself is evaluated at once, and what takes the context waits for it
abbrev pub by_form : Form → BinaryOp → Measured → Measured → Measured
by_form form.Arithmetic op p q = a.Arithmetic op p q
by_form form.Shift op p q = a.Shift op p (worth_of (by_itself q))
by_form form.Comparison op p q = a.Standing (compared op p q)
by_form form.Logical op p q = a.Standing (bit_standing (logical_worth op (worth_of (by_itself p)) (worth_of (by_itself q))))

-- a unary operator; one that gives a single bit is evaluated at once
abbrev pub by_operator : UnaryOp → Measured → Measured
by_operator op p = if is_reduction op then a.Standing (bit_standing (reduced_worth op (worth_of (by_itself p)))) else a.Unary op p

-- a length, where all lengths past 128 are alike
abbrev pub cut : ℕ → ℕ
cut n = min WIDE n

-- the sum of two lengths, if both are known
abbrev pub sum_length : Option ℕ → Option ℕ → Option ℕ
sum_length (Some x) (Some y) = Some (cut (x + y))
sum_length (Some x) None = None
sum_length None y = None

-- two words side by side, the first on the left; open past 128 bits
abbrev pub joined_words : Word → Word → Worth
joined_words v w = if nat_lt 128 (v.width + w.width) then Open else Value (joined v w)

-- one part beside another, the first one on the left
abbrev pub beside : Standing → Standing → Standing
beside p q = standing (sum_length p.length q.length) (Some false) (both p.worth q.worth joined_words)

-- a part of a concatenation has no sign (IEEE 1364-2005, 5.5.1)
abbrev pub without_sign : Standing → Standing
without_sign s = standing s.length (Some false) s.worth

-- some parts, and one more
abbrev pub with_part : Option Standing → Standing → Option Standing
with_part None p = Some (without_sign p)
with_part (Some so_far) p = Some (beside so_far p)

-- some parts, and more, from left to right
abbrev pub with_parts : Option Standing → List Standing → Option Standing
with_parts so_far [] = so_far
with_parts so_far (p ∷ ps) = with_parts (with_part so_far p) ps

-- a concatenation of no parts has no bits and no value
abbrev pub or_nothing : Option Standing → Standing
or_nothing None = standing (Some 0) (Some false) Open
or_nothing (Some s) = s

-- parts side by side (IEEE 1364-2005, 5.1.14)
abbrev pub concatenation : List Standing → Standing
concatenation ps = or_nothing (with_parts None ps)

-- so many copies side by side
abbrev pub copies : (count : ℕ) → Standing → Standing
copies zero s = s
copies (suc n) s = beside (copies n s) s

-- a count from 1 to 128
abbrev pub counted : ℤ → Standing → Standing
counted n s =
    if int_lt n (pos 1) then standing None (Some false) Open
    else (if int_lt (pos 128) n then standing None (Some false) Open else copies (unsigned_abs n - 1) s)

-- so many copies of a concatenation, where the count is known (IEEE 1364-2005, 5.1.14)
abbrev pub replicated : Number → Standing → Standing
replicated (the.Known n) s = counted n s
replicated the.Open s = standing None (Some false) Open
replicated the.NotConstant s = standing None (Some false) NotConstant

-- the same bits with another sign
abbrev pub with_sign : Bool → Standing → Standing
with_sign signed s = standing s.length (Some signed) s.worth

module _ (names : Scope) (turns : List Turn) where
  abbrev mutual
    -- what an expression is by the names round it
    pub measured : Expr → Measured
    measured (expr.Literal l) = a.Standing (literal_standing (literal_constant l))
    measured (expr.Name x) = a.Standing (entry_standing turns (find_in names x.name))
    measured (expr.Select' x _ (expr.more_of-Selection s _)) = a.Standing (select_standing turns (find_in names x.name) (choice_of s))
    measured (expr.Unary' operator _ (expr.more_of-Expr p _)) = by_operator operator.op (measured p)
    measured (expr.Binary' _ (expr.more_of-Expr p _) operator _ (expr.more_of-Expr q _)) = by_form (form_of operator.op) operator.op (measured p) (measured q)
    measured (expr.Conditional' _ (expr.more_of-Expr c _) _ (expr.more_of-Expr p _) _ (expr.more_of-Expr q _)) =
        a.Conditional (worth_of (by_itself (measured c))) (measured p) (measured q)
    measured (expr.Parentheses' place _ (expr.more_of-Expr p _)) = measured p
    measured (expr.Concatenation' place _ parts) = a.Standing (concatenation (part_standings parts))
    measured (expr.Replication' place _ (expr.more_of-Expr count _) _ parts) =
        a.Standing (replicated (number_of (by_itself (measured count))) (concatenation (part_standings parts)))
    measured (expr.Signed' place _ (expr.more_of-Expr p _)) = a.Standing (with_sign true (by_itself (measured p)))
    measured (expr.Unsigned' place _ (expr.more_of-Expr p _)) = a.Standing (with_sign false (by_itself (measured p)))

    -- a selection, its parts as numbers
    pub choice_of : Selection → Choice
    choice_of (selection.Index' _ (expr.more_of-Expr i _)) = choice.Index (number_of (by_itself (measured i)))
    choice_of (selection.Range' _ (expr.more_of-Expr h _) _ (expr.more_of-Expr l _)) = choice.Range (number_of (by_itself (measured h))) (number_of (by_itself (measured l)))
    choice_of (selection.Up' _ (expr.more_of-Expr b _) _ (expr.more_of-Expr w _)) = choice.Up (number_of (by_itself (measured b))) (number_of (by_itself (measured w)))
    choice_of (selection.Down' _ (expr.more_of-Expr b _) _ (expr.more_of-Expr w _)) = choice.Down (number_of (by_itself (measured b))) (number_of (by_itself (measured w)))

    -- the parts of a concatenation, each by itself
    pub part_standings : {m : _} → expr.Row_of-Expr m → List Standing
    part_standings expr.end_of-Expr = []
    part_standings (expr.more_of-Expr p rest) = by_itself (measured p) ∷ part_standings rest

  -- an expression that must be constant, by itself
  abbrev pub constant_of : Expr → Standing
  constant_of e = by_itself (measured e)
