use Rattle.std.proofs.Common.{List, length, ◌+◌, ◌*◌, ◌<◌, rules, false, ◌≡◌, refl, sym, ap, ◌∙◌, subst, arith}
use Rattle.std.proofs.lemmas.Grind.{common_steps}
use Rattle.bits_core.specs.Word.{number}
use Rattle.word_eqs.specs.declared.term.TermId.{TermId}
use Rattle.joint_ir.specs.declared.ctype.IntType.{IntType}
use Rattle.joint_ir.specs.declared.expr.Slot.{Slot}
use Rattle.joint_ir.specs.declared.expr.Slot.TheVariants.{BoundValue}
use Rattle.joint_ir.specs.declared.expr.TNode.{the_lemmas, TNode, Read}
use Rattle.joint_ir.specs.WellFormed.{FitsNode, is_bound}
use Rattle.sized_terms.specs.declared.SizedTerm.{SizedTerm}
use Rattle.sized_terms.specs.Sized.{Has}
use Rattle.joint_ir.specs.Values.{element_at}
use Rattle.joint_ir.specs.Weights.{read_weight}
use Rattle.checked_terms.specs.Checked.{stands}
use Rattle.element_terms.specs.Elements.{AreElements}
use Rattle.expression_steps.specs.Asking.{side_of, IsDone}
use Rattle.expression_steps.specs.Objects.{AsksFor, numbers_of}
use Rattle.expression_steps.proofs.Nodes.{asked, ready, some_terms, array_stored, array_terms, fits_index, done_index, side_has, side_width, bound_type, objects_kept, done_read, fits_unary, done_unary, fits_binary, done_binary, fits_logic, done_logic, fits_choose, done_choose, fits_convert, done_convert}
use Rattle.expression_steps.proofs.exprs.+expr.Goals as goal

pub literal-requires-in-BoundValue-clause-ty : goal.literal-requires-in-BoundValue-clause-ty
literal-requires-in-BoundValue-clause-ty t c =
    let f : FitsNode c.requires.scope c.args.e.now.ty (Read BoundValue) = subst (FitsNode c.requires.scope c.args.e.now.ty) (c.in-Read.is ∙ ap Read c.in-BoundValue.is) c.requires.fits in
    bound_type c.args.e.now.ty c.requires.scope.program f.1

pub expr-requires : goal.expr-requires
expr-requires t c =
    (grind (the_lemmas, arith, common_steps), ready c.requires.scope c.args.net.now.terms c.args.net.now.terms c.args.objects.now c.get-operand.result.now c.args.guard (fits_unary c.args.e.now c.in-Unary.a c.get-operand.result.now c.in-Unary.op c.in-Unary.prop c.in-Unary.is c.get-operand.ensures c.requires.scope c.requires.fits).1 c.requires.objects (λ y p. p) c.requires.there c.requires.bit)

pub unary-requires-clause-has : goal.unary-requires-clause-has
unary-requires-clause-has t c =
    let a = asked c.args.net.now c.expr.new.net c.args.objects.now c.args.frames c.get-operand.result.now c.args.guard c.in_ok-x-in-Unary.x c.requires.scope (fits_unary c.args.e.now c.in-Unary.a c.get-operand.result.now c.in-Unary.op c.in-Unary.prop c.in-Unary.is c.get-operand.ensures c.requires.scope c.requires.fits).1 c.requires.objects c.requires.there c.in_ok-x-in-Unary.ensures in a.has

pub unary-requires-clause-width : goal.unary-requires-clause-width
unary-requires-clause-width t c =
    let a = asked c.args.net.now c.expr.new.net c.args.objects.now c.args.frames c.get-operand.result.now c.args.guard c.in_ok-x-in-Unary.x c.requires.scope (fits_unary c.args.e.now c.in-Unary.a c.get-operand.result.now c.in-Unary.op c.in-Unary.prop c.in-Unary.is c.get-operand.ensures c.requires.scope c.requires.fits).1 c.requires.objects c.requires.there c.in_ok-x-in-Unary.ensures in a.width

pub unary-requires-clause-fits : goal.unary-requires-clause-fits
unary-requires-clause-fits t c =
    record { program = c.requires.scope.program; fits = (fits_unary c.args.e.now c.in-Unary.a c.get-operand.result.now c.in-Unary.op c.in-Unary.prop c.in-Unary.is c.get-operand.ensures c.requires.scope c.requires.fits).0 }

pub expr-requires-in-Binary : goal.expr-requires-in-Binary
expr-requires-in-Binary t c =
    (grind (the_lemmas, arith, common_steps), ready c.requires.scope c.args.net.now.terms c.args.net.now.terms c.args.objects.now c.get-left.result.now c.args.guard (fits_binary c.args.e.now c.in-Binary.a c.get-left.result.now c.in-Binary.b c.get-right.result.now c.in-Binary.op c.in-Binary.division c.in-Binary.other c.in-Binary.is c.get-left.ensures c.get-right.ensures c.requires.scope c.requires.fits).1 c.requires.objects (λ y p. p) c.requires.there c.requires.bit)

pub expr-requires-in-Binary-2 : goal.expr-requires-in-Binary-2
expr-requires-in-Binary-2 t c =
    let a = asked c.args.net.now c.expr-in-Binary.new.net c.args.objects.now c.args.frames c.get-left.result.now c.args.guard c.in_ok-x-in-Binary.x c.requires.scope (fits_binary c.args.e.now c.in-Binary.a c.get-left.result.now c.in-Binary.b c.get-right.result.now c.in-Binary.op c.in-Binary.division c.in-Binary.other c.in-Binary.is c.get-left.ensures c.get-right.ensures c.requires.scope c.requires.fits).1 c.requires.objects c.requires.there c.in_ok-x-in-Binary.ensures in
    (grind (the_lemmas, arith, common_steps), ready c.requires.scope c.args.net.now.terms c.expr-in-Binary.new.net.terms c.args.objects.now c.get-right.result.now c.args.guard (fits_binary c.args.e.now c.in-Binary.a c.get-left.result.now c.in-Binary.b c.get-right.result.now c.in-Binary.op c.in-Binary.division c.in-Binary.other c.in-Binary.is c.get-left.ensures c.get-right.ensures c.requires.scope c.requires.fits).2 c.requires.objects a.builds.kept (a.builds.kept c.args.guard c.requires.there) c.requires.bit)

pub binary-requires-clause-first : goal.binary-requires-clause-first
binary-requires-clause-first t c =
    let a = asked c.args.net.now c.expr-in-Binary.new.net c.args.objects.now c.args.frames c.get-left.result.now c.args.guard c.in_ok-x-in-Binary.x c.requires.scope (fits_binary c.args.e.now c.in-Binary.a c.get-left.result.now c.in-Binary.b c.get-right.result.now c.in-Binary.op c.in-Binary.division c.in-Binary.other c.in-Binary.is c.get-left.ensures c.get-right.ensures c.requires.scope c.requires.fits).1 c.requires.objects c.requires.there c.in_ok-x-in-Binary.ensures in
    let b = asked c.expr-in-Binary.new.net c.expr-in-Binary-2.new.net c.args.objects.now c.args.frames c.get-right.result.now c.args.guard c.in_ok-y-in-Binary.y c.requires.scope (fits_binary c.args.e.now c.in-Binary.a c.get-left.result.now c.in-Binary.b c.get-right.result.now c.in-Binary.op c.in-Binary.division c.in-Binary.other c.in-Binary.is c.get-left.ensures c.get-right.ensures c.requires.scope c.requires.fits).2 (objects_kept c.requires.scope c.args.net.now.terms c.expr-in-Binary.new.net.terms c.args.objects.now a.builds.kept c.requires.objects) (a.builds.kept c.args.guard c.requires.there) c.in_ok-y-in-Binary.ensures in
    b.builds.kept c.in_ok-x-in-Binary.x a.has

pub binary-requires-clause-second : goal.binary-requires-clause-second
binary-requires-clause-second t c =
    let a = asked c.args.net.now c.expr-in-Binary.new.net c.args.objects.now c.args.frames c.get-left.result.now c.args.guard c.in_ok-x-in-Binary.x c.requires.scope (fits_binary c.args.e.now c.in-Binary.a c.get-left.result.now c.in-Binary.b c.get-right.result.now c.in-Binary.op c.in-Binary.division c.in-Binary.other c.in-Binary.is c.get-left.ensures c.get-right.ensures c.requires.scope c.requires.fits).1 c.requires.objects c.requires.there c.in_ok-x-in-Binary.ensures in
    let b = asked c.expr-in-Binary.new.net c.expr-in-Binary-2.new.net c.args.objects.now c.args.frames c.get-right.result.now c.args.guard c.in_ok-y-in-Binary.y c.requires.scope (fits_binary c.args.e.now c.in-Binary.a c.get-left.result.now c.in-Binary.b c.get-right.result.now c.in-Binary.op c.in-Binary.division c.in-Binary.other c.in-Binary.is c.get-left.ensures c.get-right.ensures c.requires.scope c.requires.fits).2 (objects_kept c.requires.scope c.args.net.now.terms c.expr-in-Binary.new.net.terms c.args.objects.now a.builds.kept c.requires.objects) (a.builds.kept c.args.guard c.requires.there) c.in_ok-y-in-Binary.ensures in
    b.has

pub binary-requires-clause-width_x : goal.binary-requires-clause-width_x
binary-requires-clause-width_x t c =
    let a = asked c.args.net.now c.expr-in-Binary.new.net c.args.objects.now c.args.frames c.get-left.result.now c.args.guard c.in_ok-x-in-Binary.x c.requires.scope (fits_binary c.args.e.now c.in-Binary.a c.get-left.result.now c.in-Binary.b c.get-right.result.now c.in-Binary.op c.in-Binary.division c.in-Binary.other c.in-Binary.is c.get-left.ensures c.get-right.ensures c.requires.scope c.requires.fits).1 c.requires.objects c.requires.there c.in_ok-x-in-Binary.ensures in
    let b = asked c.expr-in-Binary.new.net c.expr-in-Binary-2.new.net c.args.objects.now c.args.frames c.get-right.result.now c.args.guard c.in_ok-y-in-Binary.y c.requires.scope (fits_binary c.args.e.now c.in-Binary.a c.get-left.result.now c.in-Binary.b c.get-right.result.now c.in-Binary.op c.in-Binary.division c.in-Binary.other c.in-Binary.is c.get-left.ensures c.get-right.ensures c.requires.scope c.requires.fits).2 (objects_kept c.requires.scope c.args.net.now.terms c.expr-in-Binary.new.net.terms c.args.objects.now a.builds.kept c.requires.objects) (a.builds.kept c.args.guard c.requires.there) c.in_ok-y-in-Binary.ensures in
    a.width

pub binary-requires-clause-width_y : goal.binary-requires-clause-width_y
binary-requires-clause-width_y t c =
    let a = asked c.args.net.now c.expr-in-Binary.new.net c.args.objects.now c.args.frames c.get-left.result.now c.args.guard c.in_ok-x-in-Binary.x c.requires.scope (fits_binary c.args.e.now c.in-Binary.a c.get-left.result.now c.in-Binary.b c.get-right.result.now c.in-Binary.op c.in-Binary.division c.in-Binary.other c.in-Binary.is c.get-left.ensures c.get-right.ensures c.requires.scope c.requires.fits).1 c.requires.objects c.requires.there c.in_ok-x-in-Binary.ensures in
    let b = asked c.expr-in-Binary.new.net c.expr-in-Binary-2.new.net c.args.objects.now c.args.frames c.get-right.result.now c.args.guard c.in_ok-y-in-Binary.y c.requires.scope (fits_binary c.args.e.now c.in-Binary.a c.get-left.result.now c.in-Binary.b c.get-right.result.now c.in-Binary.op c.in-Binary.division c.in-Binary.other c.in-Binary.is c.get-left.ensures c.get-right.ensures c.requires.scope c.requires.fits).2 (objects_kept c.requires.scope c.args.net.now.terms c.expr-in-Binary.new.net.terms c.args.objects.now a.builds.kept c.requires.objects) (a.builds.kept c.args.guard c.requires.there) c.in_ok-y-in-Binary.ensures in
    b.width

pub binary-requires-clause-fits : goal.binary-requires-clause-fits
binary-requires-clause-fits t c =
    record { program = c.requires.scope.program; fits = (fits_binary c.args.e.now c.in-Binary.a c.get-left.result.now c.in-Binary.b c.get-right.result.now c.in-Binary.op c.in-Binary.division c.in-Binary.other c.in-Binary.is c.get-left.ensures c.get-right.ensures c.requires.scope c.requires.fits).0 }

pub expr-requires-in-Logic : goal.expr-requires-in-Logic
expr-requires-in-Logic t c =
    (grind (the_lemmas, arith, common_steps), ready c.requires.scope c.args.net.now.terms c.args.net.now.terms c.args.objects.now c.get.result.now c.args.guard (fits_logic c.args.e.now c.in-Logic.a c.get.result.now c.in-Logic.b c.in-Logic.b c.in-Logic.op c.in-Logic.is c.get.ensures refl c.requires.scope c.requires.fits).1 c.requires.objects (λ y p. p) c.requires.there c.requires.bit)

pub split_by-requires-clause-guard : goal.split_by-requires-clause-guard
split_by-requires-clause-guard t c =
    let a = asked c.args.net.now c.expr-in-Logic.new.net c.args.objects.now c.args.frames c.get.result.now c.args.guard c.in_ok-x-in-Logic.x c.requires.scope (fits_logic c.args.e.now c.in-Logic.a c.get.result.now c.in-Logic.b c.in-Logic.b c.in-Logic.op c.in-Logic.is c.get.ensures refl c.requires.scope c.requires.fits).1 c.requires.objects c.requires.there c.in_ok-x-in-Logic.ensures in a.builds.kept c.args.guard c.requires.there

pub split_by-requires-clause-has : goal.split_by-requires-clause-has
split_by-requires-clause-has t c =
    let a = asked c.args.net.now c.expr-in-Logic.new.net c.args.objects.now c.args.frames c.get.result.now c.args.guard c.in_ok-x-in-Logic.x c.requires.scope (fits_logic c.args.e.now c.in-Logic.a c.get.result.now c.in-Logic.b c.in-Logic.b c.in-Logic.op c.in-Logic.is c.get.ensures refl c.requires.scope c.requires.fits).1 c.requires.objects c.requires.there c.in_ok-x-in-Logic.ensures in a.has

pub expr-requires-in-Logic-2 : goal.expr-requires-in-Logic-2
expr-requires-in-Logic-2 t c =
    let a = asked c.args.net.now c.expr-in-Logic.new.net c.args.objects.now c.args.frames c.get.result.now c.args.guard c.in_ok-x-in-Logic.x c.requires.scope (fits_logic c.args.e.now c.in-Logic.a c.get.result.now c.in-Logic.b c.in-Logic.b c.in-Logic.op c.in-Logic.is c.get.ensures refl c.requires.scope c.requires.fits).1 c.requires.objects c.requires.there c.in_ok-x-in-Logic.ensures in
    (grind (the_lemmas, arith, common_steps), ready c.requires.scope c.args.net.now.terms c.split_by.new.net.terms c.args.objects.now c.get-in-Logic.result.now c.side-under.result (fits_logic c.args.e.now c.in-Logic.a c.get.result.now c.in-Logic.b c.get-in-Logic.result.now c.in-Logic.op c.in-Logic.is c.get.ensures c.get-in-Logic.ensures c.requires.scope c.requires.fits).2 c.requires.objects (λ y p. c.in_ok-s-in-Logic.ensures.builds.kept y (a.builds.kept y p)) (subst (Has c.split_by.new.net.terms) (sym c.side-under.ensures) (side_has c.expr-in-Logic.new.net c.split_by.new.net c.args.guard c.in_ok-x-in-Logic.x c.in_ok-s-in-Logic.s c.in-Logic.op c.in_ok-s-in-Logic.ensures)) (ap (λ (x : SizedTerm). x.width) c.side-under.ensures ∙ (side_width c.expr-in-Logic.new.net c.split_by.new.net c.args.guard c.in_ok-x-in-Logic.x c.in_ok-s-in-Logic.s c.in-Logic.op c.in_ok-s-in-Logic.ensures)))

pub join-requires-clause-set : goal.join-requires-clause-set
join-requires-clause-set t c =
    let a = asked c.args.net.now c.expr-in-Logic.new.net c.args.objects.now c.args.frames c.get.result.now c.args.guard c.in_ok-x-in-Logic.x c.requires.scope (fits_logic c.args.e.now c.in-Logic.a c.get.result.now c.in-Logic.b c.get-in-Logic.result.now c.in-Logic.op c.in-Logic.is c.get.ensures c.get-in-Logic.ensures c.requires.scope c.requires.fits).1 c.requires.objects c.requires.there c.in_ok-x-in-Logic.ensures in
    let b = asked c.split_by.new.net c.expr-in-Logic-2.new.net c.args.objects.now c.args.frames c.get-in-Logic.result.now c.side-under.result c.in_ok-y-in-Logic.y c.requires.scope (fits_logic c.args.e.now c.in-Logic.a c.get.result.now c.in-Logic.b c.get-in-Logic.result.now c.in-Logic.op c.in-Logic.is c.get.ensures c.get-in-Logic.ensures c.requires.scope c.requires.fits).2 (objects_kept c.requires.scope c.args.net.now.terms c.split_by.new.net.terms c.args.objects.now (λ y p. c.in_ok-s-in-Logic.ensures.builds.kept y (a.builds.kept y p)) c.requires.objects) (subst (Has c.split_by.new.net.terms) (sym c.side-under.ensures) (side_has c.expr-in-Logic.new.net c.split_by.new.net c.args.guard c.in_ok-x-in-Logic.x c.in_ok-s-in-Logic.s c.in-Logic.op c.in_ok-s-in-Logic.ensures)) c.in_ok-y-in-Logic.ensures in
    b.builds.kept c.in_ok-s-in-Logic.s.set c.in_ok-s-in-Logic.ensures.has_set

pub join-requires-clause-has : goal.join-requires-clause-has
join-requires-clause-has t c =
    let a = asked c.args.net.now c.expr-in-Logic.new.net c.args.objects.now c.args.frames c.get.result.now c.args.guard c.in_ok-x-in-Logic.x c.requires.scope (fits_logic c.args.e.now c.in-Logic.a c.get.result.now c.in-Logic.b c.get-in-Logic.result.now c.in-Logic.op c.in-Logic.is c.get.ensures c.get-in-Logic.ensures c.requires.scope c.requires.fits).1 c.requires.objects c.requires.there c.in_ok-x-in-Logic.ensures in
    let b = asked c.split_by.new.net c.expr-in-Logic-2.new.net c.args.objects.now c.args.frames c.get-in-Logic.result.now c.side-under.result c.in_ok-y-in-Logic.y c.requires.scope (fits_logic c.args.e.now c.in-Logic.a c.get.result.now c.in-Logic.b c.get-in-Logic.result.now c.in-Logic.op c.in-Logic.is c.get.ensures c.get-in-Logic.ensures c.requires.scope c.requires.fits).2 (objects_kept c.requires.scope c.args.net.now.terms c.split_by.new.net.terms c.args.objects.now (λ y p. c.in_ok-s-in-Logic.ensures.builds.kept y (a.builds.kept y p)) c.requires.objects) (subst (Has c.split_by.new.net.terms) (sym c.side-under.ensures) (side_has c.expr-in-Logic.new.net c.split_by.new.net c.args.guard c.in_ok-x-in-Logic.x c.in_ok-s-in-Logic.s c.in-Logic.op c.in_ok-s-in-Logic.ensures)) c.in_ok-y-in-Logic.ensures in
    b.has

pub expr-requires-in-Choose : goal.expr-requires-in-Choose
expr-requires-in-Choose t c =
    (grind (the_lemmas, arith, common_steps), ready c.requires.scope c.args.net.now.terms c.args.net.now.terms c.args.objects.now c.get-in-Choose.result.now c.args.guard (fits_choose c.args.e.now c.in-Choose.c c.get-in-Choose.result.now c.in-Choose.a c.in-Choose.a c.in-Choose.b c.in-Choose.b c.in-Choose.is c.get-in-Choose.ensures refl refl c.requires.scope c.requires.fits).2 c.requires.objects (λ y p. p) c.requires.there c.requires.bit)

pub split_by-requires-in-Choose-clause-guard : goal.split_by-requires-in-Choose-clause-guard
split_by-requires-in-Choose-clause-guard t c =
    let a = asked c.args.net.now c.expr-in-Choose.new.net c.args.objects.now c.args.frames c.get-in-Choose.result.now c.args.guard c.in_ok-x-in-Choose.x c.requires.scope (fits_choose c.args.e.now c.in-Choose.c c.get-in-Choose.result.now c.in-Choose.a c.in-Choose.a c.in-Choose.b c.in-Choose.b c.in-Choose.is c.get-in-Choose.ensures refl refl c.requires.scope c.requires.fits).2 c.requires.objects c.requires.there c.in_ok-x-in-Choose.ensures in a.builds.kept c.args.guard c.requires.there

pub split_by-requires-in-Choose-clause-has : goal.split_by-requires-in-Choose-clause-has
split_by-requires-in-Choose-clause-has t c =
    let a = asked c.args.net.now c.expr-in-Choose.new.net c.args.objects.now c.args.frames c.get-in-Choose.result.now c.args.guard c.in_ok-x-in-Choose.x c.requires.scope (fits_choose c.args.e.now c.in-Choose.c c.get-in-Choose.result.now c.in-Choose.a c.in-Choose.a c.in-Choose.b c.in-Choose.b c.in-Choose.is c.get-in-Choose.ensures refl refl c.requires.scope c.requires.fits).2 c.requires.objects c.requires.there c.in_ok-x-in-Choose.ensures in a.has

pub expr-requires-in-Choose-2 : goal.expr-requires-in-Choose-2
expr-requires-in-Choose-2 t c =
    let a = asked c.args.net.now c.expr-in-Choose.new.net c.args.objects.now c.args.frames c.get-in-Choose.result.now c.args.guard c.in_ok-x-in-Choose.x c.requires.scope (fits_choose c.args.e.now c.in-Choose.c c.get-in-Choose.result.now c.in-Choose.a c.in-Choose.a c.in-Choose.b c.in-Choose.b c.in-Choose.is c.get-in-Choose.ensures refl refl c.requires.scope c.requires.fits).2 c.requires.objects c.requires.there c.in_ok-x-in-Choose.ensures in
    (grind (the_lemmas, arith, common_steps), ready c.requires.scope c.args.net.now.terms c.split_by-in-Choose.new.net.terms c.args.objects.now c.get-in-Choose-2.result.now c.in_ok-s-in-Choose.s.taken (fits_choose c.args.e.now c.in-Choose.c c.get-in-Choose.result.now c.in-Choose.a c.get-in-Choose-2.result.now c.in-Choose.b c.in-Choose.b c.in-Choose.is c.get-in-Choose.ensures c.get-in-Choose-2.ensures refl c.requires.scope c.requires.fits).3 c.requires.objects (λ y p. c.in_ok-s-in-Choose.ensures.builds.kept y (a.builds.kept y p)) c.in_ok-s-in-Choose.ensures.has_taken c.in_ok-s-in-Choose.ensures.width_taken)

pub expr-requires-in-Choose-3 : goal.expr-requires-in-Choose-3
expr-requires-in-Choose-3 t c =
    let a = asked c.args.net.now c.expr-in-Choose.new.net c.args.objects.now c.args.frames c.get-in-Choose.result.now c.args.guard c.in_ok-x-in-Choose.x c.requires.scope (fits_choose c.args.e.now c.in-Choose.c c.get-in-Choose.result.now c.in-Choose.a c.get-in-Choose-2.result.now c.in-Choose.b c.in-Choose.b c.in-Choose.is c.get-in-Choose.ensures c.get-in-Choose-2.ensures refl c.requires.scope c.requires.fits).2 c.requires.objects c.requires.there c.in_ok-x-in-Choose.ensures in
    let b = asked c.split_by-in-Choose.new.net c.expr-in-Choose-2.new.net c.args.objects.now c.args.frames c.get-in-Choose-2.result.now c.in_ok-s-in-Choose.s.taken c.in_ok-y-in-Choose.y c.requires.scope (fits_choose c.args.e.now c.in-Choose.c c.get-in-Choose.result.now c.in-Choose.a c.get-in-Choose-2.result.now c.in-Choose.b c.in-Choose.b c.in-Choose.is c.get-in-Choose.ensures c.get-in-Choose-2.ensures refl c.requires.scope c.requires.fits).3 (objects_kept c.requires.scope c.args.net.now.terms c.split_by-in-Choose.new.net.terms c.args.objects.now (λ y p. c.in_ok-s-in-Choose.ensures.builds.kept y (a.builds.kept y p)) c.requires.objects) c.in_ok-s-in-Choose.ensures.has_taken c.in_ok-y-in-Choose.ensures in
    (grind (the_lemmas, arith, common_steps), ready c.requires.scope c.args.net.now.terms c.expr-in-Choose-2.new.net.terms c.args.objects.now c.get-in-Choose-3.result.now c.in_ok-s-in-Choose.s.other (fits_choose c.args.e.now c.in-Choose.c c.get-in-Choose.result.now c.in-Choose.a c.get-in-Choose-2.result.now c.in-Choose.b c.get-in-Choose-3.result.now c.in-Choose.is c.get-in-Choose.ensures c.get-in-Choose-2.ensures c.get-in-Choose-3.ensures c.requires.scope c.requires.fits).4 c.requires.objects (λ y p. b.builds.kept y (c.in_ok-s-in-Choose.ensures.builds.kept y (a.builds.kept y p))) (b.builds.kept c.in_ok-s-in-Choose.s.other c.in_ok-s-in-Choose.ensures.has_other) c.in_ok-s-in-Choose.ensures.width_other)

pub choice-requires-clause-set : goal.choice-requires-clause-set
choice-requires-clause-set t c =
    let a = asked c.args.net.now c.expr-in-Choose.new.net c.args.objects.now c.args.frames c.get-in-Choose.result.now c.args.guard c.in_ok-x-in-Choose.x c.requires.scope (fits_choose c.args.e.now c.in-Choose.c c.get-in-Choose.result.now c.in-Choose.a c.get-in-Choose-2.result.now c.in-Choose.b c.get-in-Choose-3.result.now c.in-Choose.is c.get-in-Choose.ensures c.get-in-Choose-2.ensures c.get-in-Choose-3.ensures c.requires.scope c.requires.fits).2 c.requires.objects c.requires.there c.in_ok-x-in-Choose.ensures in
    let b = asked c.split_by-in-Choose.new.net c.expr-in-Choose-2.new.net c.args.objects.now c.args.frames c.get-in-Choose-2.result.now c.in_ok-s-in-Choose.s.taken c.in_ok-y-in-Choose.y c.requires.scope (fits_choose c.args.e.now c.in-Choose.c c.get-in-Choose.result.now c.in-Choose.a c.get-in-Choose-2.result.now c.in-Choose.b c.get-in-Choose-3.result.now c.in-Choose.is c.get-in-Choose.ensures c.get-in-Choose-2.ensures c.get-in-Choose-3.ensures c.requires.scope c.requires.fits).3 (objects_kept c.requires.scope c.args.net.now.terms c.split_by-in-Choose.new.net.terms c.args.objects.now (λ y p. c.in_ok-s-in-Choose.ensures.builds.kept y (a.builds.kept y p)) c.requires.objects) c.in_ok-s-in-Choose.ensures.has_taken c.in_ok-y-in-Choose.ensures in
    let d = asked c.expr-in-Choose-2.new.net c.expr-in-Choose-3.new.net c.args.objects.now c.args.frames c.get-in-Choose-3.result.now c.in_ok-s-in-Choose.s.other c.in_ok-z-in-Choose.z c.requires.scope (fits_choose c.args.e.now c.in-Choose.c c.get-in-Choose.result.now c.in-Choose.a c.get-in-Choose-2.result.now c.in-Choose.b c.get-in-Choose-3.result.now c.in-Choose.is c.get-in-Choose.ensures c.get-in-Choose-2.ensures c.get-in-Choose-3.ensures c.requires.scope c.requires.fits).4 (objects_kept c.requires.scope c.args.net.now.terms c.expr-in-Choose-2.new.net.terms c.args.objects.now (λ y p. b.builds.kept y (c.in_ok-s-in-Choose.ensures.builds.kept y (a.builds.kept y p))) c.requires.objects) (b.builds.kept c.in_ok-s-in-Choose.s.other c.in_ok-s-in-Choose.ensures.has_other) c.in_ok-z-in-Choose.ensures in
    d.builds.kept c.in_ok-s-in-Choose.s.set (b.builds.kept c.in_ok-s-in-Choose.s.set c.in_ok-s-in-Choose.ensures.has_set)

pub choice-requires-clause-first : goal.choice-requires-clause-first
choice-requires-clause-first t c =
    let a = asked c.args.net.now c.expr-in-Choose.new.net c.args.objects.now c.args.frames c.get-in-Choose.result.now c.args.guard c.in_ok-x-in-Choose.x c.requires.scope (fits_choose c.args.e.now c.in-Choose.c c.get-in-Choose.result.now c.in-Choose.a c.get-in-Choose-2.result.now c.in-Choose.b c.get-in-Choose-3.result.now c.in-Choose.is c.get-in-Choose.ensures c.get-in-Choose-2.ensures c.get-in-Choose-3.ensures c.requires.scope c.requires.fits).2 c.requires.objects c.requires.there c.in_ok-x-in-Choose.ensures in
    let b = asked c.split_by-in-Choose.new.net c.expr-in-Choose-2.new.net c.args.objects.now c.args.frames c.get-in-Choose-2.result.now c.in_ok-s-in-Choose.s.taken c.in_ok-y-in-Choose.y c.requires.scope (fits_choose c.args.e.now c.in-Choose.c c.get-in-Choose.result.now c.in-Choose.a c.get-in-Choose-2.result.now c.in-Choose.b c.get-in-Choose-3.result.now c.in-Choose.is c.get-in-Choose.ensures c.get-in-Choose-2.ensures c.get-in-Choose-3.ensures c.requires.scope c.requires.fits).3 (objects_kept c.requires.scope c.args.net.now.terms c.split_by-in-Choose.new.net.terms c.args.objects.now (λ y p. c.in_ok-s-in-Choose.ensures.builds.kept y (a.builds.kept y p)) c.requires.objects) c.in_ok-s-in-Choose.ensures.has_taken c.in_ok-y-in-Choose.ensures in
    let d = asked c.expr-in-Choose-2.new.net c.expr-in-Choose-3.new.net c.args.objects.now c.args.frames c.get-in-Choose-3.result.now c.in_ok-s-in-Choose.s.other c.in_ok-z-in-Choose.z c.requires.scope (fits_choose c.args.e.now c.in-Choose.c c.get-in-Choose.result.now c.in-Choose.a c.get-in-Choose-2.result.now c.in-Choose.b c.get-in-Choose-3.result.now c.in-Choose.is c.get-in-Choose.ensures c.get-in-Choose-2.ensures c.get-in-Choose-3.ensures c.requires.scope c.requires.fits).4 (objects_kept c.requires.scope c.args.net.now.terms c.expr-in-Choose-2.new.net.terms c.args.objects.now (λ y p. b.builds.kept y (c.in_ok-s-in-Choose.ensures.builds.kept y (a.builds.kept y p))) c.requires.objects) (b.builds.kept c.in_ok-s-in-Choose.s.other c.in_ok-s-in-Choose.ensures.has_other) c.in_ok-z-in-Choose.ensures in
    d.builds.kept c.in_ok-y-in-Choose.y b.has

pub choice-requires-clause-second : goal.choice-requires-clause-second
choice-requires-clause-second t c =
    let a = asked c.args.net.now c.expr-in-Choose.new.net c.args.objects.now c.args.frames c.get-in-Choose.result.now c.args.guard c.in_ok-x-in-Choose.x c.requires.scope (fits_choose c.args.e.now c.in-Choose.c c.get-in-Choose.result.now c.in-Choose.a c.get-in-Choose-2.result.now c.in-Choose.b c.get-in-Choose-3.result.now c.in-Choose.is c.get-in-Choose.ensures c.get-in-Choose-2.ensures c.get-in-Choose-3.ensures c.requires.scope c.requires.fits).2 c.requires.objects c.requires.there c.in_ok-x-in-Choose.ensures in
    let b = asked c.split_by-in-Choose.new.net c.expr-in-Choose-2.new.net c.args.objects.now c.args.frames c.get-in-Choose-2.result.now c.in_ok-s-in-Choose.s.taken c.in_ok-y-in-Choose.y c.requires.scope (fits_choose c.args.e.now c.in-Choose.c c.get-in-Choose.result.now c.in-Choose.a c.get-in-Choose-2.result.now c.in-Choose.b c.get-in-Choose-3.result.now c.in-Choose.is c.get-in-Choose.ensures c.get-in-Choose-2.ensures c.get-in-Choose-3.ensures c.requires.scope c.requires.fits).3 (objects_kept c.requires.scope c.args.net.now.terms c.split_by-in-Choose.new.net.terms c.args.objects.now (λ y p. c.in_ok-s-in-Choose.ensures.builds.kept y (a.builds.kept y p)) c.requires.objects) c.in_ok-s-in-Choose.ensures.has_taken c.in_ok-y-in-Choose.ensures in
    let d = asked c.expr-in-Choose-2.new.net c.expr-in-Choose-3.new.net c.args.objects.now c.args.frames c.get-in-Choose-3.result.now c.in_ok-s-in-Choose.s.other c.in_ok-z-in-Choose.z c.requires.scope (fits_choose c.args.e.now c.in-Choose.c c.get-in-Choose.result.now c.in-Choose.a c.get-in-Choose-2.result.now c.in-Choose.b c.get-in-Choose-3.result.now c.in-Choose.is c.get-in-Choose.ensures c.get-in-Choose-2.ensures c.get-in-Choose-3.ensures c.requires.scope c.requires.fits).4 (objects_kept c.requires.scope c.args.net.now.terms c.expr-in-Choose-2.new.net.terms c.args.objects.now (λ y p. b.builds.kept y (c.in_ok-s-in-Choose.ensures.builds.kept y (a.builds.kept y p))) c.requires.objects) (b.builds.kept c.in_ok-s-in-Choose.s.other c.in_ok-s-in-Choose.ensures.has_other) c.in_ok-z-in-Choose.ensures in
    d.has

pub choice-requires-clause-same : goal.choice-requires-clause-same
choice-requires-clause-same t c =
    let a = asked c.args.net.now c.expr-in-Choose.new.net c.args.objects.now c.args.frames c.get-in-Choose.result.now c.args.guard c.in_ok-x-in-Choose.x c.requires.scope (fits_choose c.args.e.now c.in-Choose.c c.get-in-Choose.result.now c.in-Choose.a c.get-in-Choose-2.result.now c.in-Choose.b c.get-in-Choose-3.result.now c.in-Choose.is c.get-in-Choose.ensures c.get-in-Choose-2.ensures c.get-in-Choose-3.ensures c.requires.scope c.requires.fits).2 c.requires.objects c.requires.there c.in_ok-x-in-Choose.ensures in
    let b = asked c.split_by-in-Choose.new.net c.expr-in-Choose-2.new.net c.args.objects.now c.args.frames c.get-in-Choose-2.result.now c.in_ok-s-in-Choose.s.taken c.in_ok-y-in-Choose.y c.requires.scope (fits_choose c.args.e.now c.in-Choose.c c.get-in-Choose.result.now c.in-Choose.a c.get-in-Choose-2.result.now c.in-Choose.b c.get-in-Choose-3.result.now c.in-Choose.is c.get-in-Choose.ensures c.get-in-Choose-2.ensures c.get-in-Choose-3.ensures c.requires.scope c.requires.fits).3 (objects_kept c.requires.scope c.args.net.now.terms c.split_by-in-Choose.new.net.terms c.args.objects.now (λ y p. c.in_ok-s-in-Choose.ensures.builds.kept y (a.builds.kept y p)) c.requires.objects) c.in_ok-s-in-Choose.ensures.has_taken c.in_ok-y-in-Choose.ensures in
    let d = asked c.expr-in-Choose-2.new.net c.expr-in-Choose-3.new.net c.args.objects.now c.args.frames c.get-in-Choose-3.result.now c.in_ok-s-in-Choose.s.other c.in_ok-z-in-Choose.z c.requires.scope (fits_choose c.args.e.now c.in-Choose.c c.get-in-Choose.result.now c.in-Choose.a c.get-in-Choose-2.result.now c.in-Choose.b c.get-in-Choose-3.result.now c.in-Choose.is c.get-in-Choose.ensures c.get-in-Choose-2.ensures c.get-in-Choose-3.ensures c.requires.scope c.requires.fits).4 (objects_kept c.requires.scope c.args.net.now.terms c.expr-in-Choose-2.new.net.terms c.args.objects.now (λ y p. b.builds.kept y (c.in_ok-s-in-Choose.ensures.builds.kept y (a.builds.kept y p))) c.requires.objects) (b.builds.kept c.in_ok-s-in-Choose.s.other c.in_ok-s-in-Choose.ensures.has_other) c.in_ok-z-in-Choose.ensures in
    d.width ∙ ap (λ (t : IntType). t.bits) ((fits_choose c.args.e.now c.in-Choose.c c.get-in-Choose.result.now c.in-Choose.a c.get-in-Choose-2.result.now c.in-Choose.b c.get-in-Choose-3.result.now c.in-Choose.is c.get-in-Choose.ensures c.get-in-Choose-2.ensures c.get-in-Choose-3.ensures c.requires.scope c.requires.fits).1 ∙ sym ((fits_choose c.args.e.now c.in-Choose.c c.get-in-Choose.result.now c.in-Choose.a c.get-in-Choose-2.result.now c.in-Choose.b c.get-in-Choose-3.result.now c.in-Choose.is c.get-in-Choose.ensures c.get-in-Choose-2.ensures c.get-in-Choose-3.ensures c.requires.scope c.requires.fits).0)) ∙ sym b.width

pub expr-requires-in-Convert : goal.expr-requires-in-Convert
expr-requires-in-Convert t c =
    (grind (the_lemmas, arith, common_steps), ready c.requires.scope c.args.net.now.terms c.args.net.now.terms c.args.objects.now c.get-operand-in-Convert.result.now c.args.guard (fits_convert c.args.e.now c.in-Convert.a c.get-operand-in-Convert.result.now c.in-Convert.is c.get-operand-in-Convert.ensures c.requires.scope c.requires.fits).1 c.requires.objects (λ y p. p) c.requires.there c.requires.bit)

pub converted-requires-clause-has : goal.converted-requires-clause-has
converted-requires-clause-has t c =
    let a = asked c.args.net.now c.expr-in-Convert.new.net c.args.objects.now c.args.frames c.get-operand-in-Convert.result.now c.args.guard c.in_ok-x-in-Convert.x c.requires.scope (fits_convert c.args.e.now c.in-Convert.a c.get-operand-in-Convert.result.now c.in-Convert.is c.get-operand-in-Convert.ensures c.requires.scope c.requires.fits).1 c.requires.objects c.requires.there c.in_ok-x-in-Convert.ensures in a.has

pub converted-requires-clause-width : goal.converted-requires-clause-width
converted-requires-clause-width t c =
    let a = asked c.args.net.now c.expr-in-Convert.new.net c.args.objects.now c.args.frames c.get-operand-in-Convert.result.now c.args.guard c.in_ok-x-in-Convert.x c.requires.scope (fits_convert c.args.e.now c.in-Convert.a c.get-operand-in-Convert.result.now c.in-Convert.is c.get-operand-in-Convert.ensures c.requires.scope c.requires.fits).1 c.requires.objects c.requires.there c.in_ok-x-in-Convert.ensures in a.width

pub converted-requires-clause-ty : goal.converted-requires-clause-ty
converted-requires-clause-ty t c =
    (fits_convert c.args.e.now c.in-Convert.a c.get-operand-in-Convert.result.now c.in-Convert.is c.get-operand-in-Convert.ensures c.requires.scope c.requires.fits).0

pub expr-requires-in-Index : goal.expr-requires-in-Index
expr-requires-in-Index t c =
    (grind (the_lemmas, arith, common_steps), ready c.requires.scope c.args.net.now.terms c.args.net.now.terms c.args.objects.now c.get-index.result.now c.args.guard (fits_index c.args.e.now c.in-Index.a c.get-index.result.now c.in-Index.slot c.in-Index.prop c.in-Index.is c.get-index.ensures c.requires.scope c.requires.fits).3 c.requires.objects (λ y p. p) c.requires.there c.requires.bit)

pub elements-row-requires-clause-stored : goal.elements-row-requires-clause-stored
elements-row-requires-clause-stored t c = array_stored c.requires.scope c.in-Index.slot (fits_index c.args.e.now c.in-Index.a c.get-index.result.now c.in-Index.slot c.in-Index.prop c.in-Index.is c.get-index.ensures c.requires.scope c.requires.fits).0

pub elements-row-requires-clause-some : goal.elements-row-requires-clause-some
elements-row-requires-clause-some t c =
    some_terms c.requires.scope c.args.net.now.terms c.args.objects.now c.in-Index.slot c.requires.objects (fits_index c.args.e.now c.in-Index.a c.get-index.result.now c.in-Index.slot c.in-Index.prop c.in-Index.is c.get-index.ensures c.requires.scope c.requires.fits).0.visible (array_stored c.requires.scope c.in-Index.slot (fits_index c.args.e.now c.in-Index.a c.get-index.result.now c.in-Index.slot c.in-Index.prop c.in-Index.is c.get-index.ensures c.requires.scope c.requires.fits).0)

pub element-requires-clause-has : goal.element-requires-clause-has
element-requires-clause-has t c =
    let a = asked c.args.net.now c.expr-in-Index.new.net c.args.objects.now c.args.frames c.get-index.result.now c.args.guard c.in_ok-x-in-Index.x c.requires.scope (fits_index c.args.e.now c.in-Index.a c.get-index.result.now c.in-Index.slot c.in-Index.prop c.in-Index.is c.get-index.ensures c.requires.scope c.requires.fits).3 c.requires.objects c.requires.there c.in_ok-x-in-Index.ensures in
    a.has

pub element-requires-clause-width : goal.element-requires-clause-width
element-requires-clause-width t c =
    let a = asked c.args.net.now c.expr-in-Index.new.net c.args.objects.now c.args.frames c.get-index.result.now c.args.guard c.in_ok-x-in-Index.x c.requires.scope (fits_index c.args.e.now c.in-Index.a c.get-index.result.now c.in-Index.slot c.in-Index.prop c.in-Index.is c.get-index.ensures c.requires.scope c.requires.fits).3 c.requires.objects c.requires.there c.in_ok-x-in-Index.ensures in
    a.width

pub element-requires-clause-filled : goal.element-requires-clause-filled
element-requires-clause-filled t c =
    subst (λ (l : List TermId). 0 < length l) (sym c.elements-row.ensures) (some_terms c.requires.scope c.args.net.now.terms c.args.objects.now c.in-Index.slot c.requires.objects (fits_index c.args.e.now c.in-Index.a c.get-index.result.now c.in-Index.slot c.in-Index.prop c.in-Index.is c.get-index.ensures c.requires.scope c.requires.fits).0.visible (array_stored c.requires.scope c.in-Index.slot (fits_index c.args.e.now c.in-Index.a c.get-index.result.now c.in-Index.slot c.in-Index.prop c.in-Index.is c.get-index.ensures c.requires.scope c.requires.fits).0))

pub element-requires-clause-elements : goal.element-requires-clause-elements
element-requires-clause-elements t c =
    let a = asked c.args.net.now c.expr-in-Index.new.net c.args.objects.now c.args.frames c.get-index.result.now c.args.guard c.in_ok-x-in-Index.x c.requires.scope (fits_index c.args.e.now c.in-Index.a c.get-index.result.now c.in-Index.slot c.in-Index.prop c.in-Index.is c.get-index.ensures c.requires.scope c.requires.fits).3 c.requires.objects c.requires.there c.in_ok-x-in-Index.ensures in
    subst (λ (l : List TermId). AreElements c.expr-in-Index.new.net.terms l c.args.e.now.ty.bits) (sym c.elements-row.ensures)
    (array_terms c.args.e.now c.in-Index.a c.get-index.result.now c.in-Index.slot c.in-Index.prop c.in-Index.is c.get-index.ensures c.requires.scope c.expr-in-Index.new.net.terms c.args.objects.now c.requires.fits (objects_kept c.requires.scope c.args.net.now.terms c.expr-in-Index.new.net.terms c.args.objects.now a.builds.kept c.requires.objects))

pub returns-in_ok-r-in-Index : goal.returns-in_ok-r-in-Index
returns-in_ok-r-in-Index t c =
    done_index c.args.e.now c.in-Index.a c.get-index.result.now c.in-Index.slot c.in-Index.prop c.in-Index.is c.get-index.ensures c.args.net.now c.expr-in-Index.new.net c.element.new.net c.args.objects.now c.args.frames c.args.guard c.in_ok-x-in-Index.x c.in_ok-r-in-Index.r c.in_ok-x-in-Index.ensures
    (subst (λ (l : List TermId). IsDone c.expr-in-Index.new.net c.element.new.net c.args.e.now.ty (8 * read_weight (length l) c.get-index.result.now.ty.bits c.args.e.now.ty.bits) (3 + 3 * length l) c.args.guard c.in_ok-r-in-Index.r (λ v. element_at (numbers_of (number c.args.e.now.ty.signed c.args.e.now.ty.bits) v l) c.in-Index.prop (stands c.get-index.result.now.ty v c.in_ok-x-in-Index.x))) c.elements-row.ensures c.in_ok-r-in-Index.ensures)

pub returns-in_default : goal.returns-in_default
returns-in_default t c =
    let s : is_bound c.in-Read.slot ≡ false = search rules in
    done_read c.args.net.now c.args.objects.now c.args.frames c.args.e.now c.args.guard c.in-Read.slot c.first.result c.len.ensures.proper c.in-Read.is s c.first.ensures

pub returns-in_ok-r-in-Unary : goal.returns-in_ok-r-in-Unary
returns-in_ok-r-in-Unary t c =
    done_unary c.args.e.now c.in-Unary.a c.get-operand.result.now c.in-Unary.op c.in-Unary.prop c.in-Unary.is c.get-operand.ensures c.args.net.now c.expr.new.net c.unary.new.net c.args.objects.now c.args.frames c.args.guard c.in_ok-x-in-Unary.x c.in_ok-r-in-Unary.r c.in_ok-x-in-Unary.ensures c.in_ok-r-in-Unary.ensures

pub returns-in_ok-r-in-Binary : goal.returns-in_ok-r-in-Binary
returns-in_ok-r-in-Binary t c =
    done_binary c.args.e.now c.in-Binary.a c.get-left.result.now c.in-Binary.b c.get-right.result.now c.in-Binary.op c.in-Binary.division c.in-Binary.other c.in-Binary.is c.get-left.ensures c.get-right.ensures c.args.net.now c.expr-in-Binary.new.net c.expr-in-Binary-2.new.net c.binary.new.net c.args.objects.now c.args.frames c.args.guard c.in_ok-x-in-Binary.x c.in_ok-y-in-Binary.y c.in_ok-r-in-Binary.r c.in_ok-x-in-Binary.ensures c.in_ok-y-in-Binary.ensures c.in_ok-r-in-Binary.ensures

pub returns-in_ok-t-in-Logic : goal.returns-in_ok-t-in-Logic
returns-in_ok-t-in-Logic t c =
    done_logic c.args.e.now c.in-Logic.a c.get.result.now c.in-Logic.b c.get-in-Logic.result.now c.in-Logic.op c.in-Logic.is c.get.ensures c.get-in-Logic.ensures c.args.net.now c.expr-in-Logic.new.net c.split_by.new.net c.expr-in-Logic-2.new.net c.join.new.net c.args.objects.now c.args.frames c.args.guard c.in_ok-x-in-Logic.x c.in_ok-y-in-Logic.y c.in_ok-t-in-Logic.t c.in_ok-s-in-Logic.s c.in_ok-x-in-Logic.ensures c.in_ok-s-in-Logic.ensures (side_has c.expr-in-Logic.new.net c.split_by.new.net c.args.guard c.in_ok-x-in-Logic.x c.in_ok-s-in-Logic.s c.in-Logic.op c.in_ok-s-in-Logic.ensures)
    (subst (λ s. AsksFor c.split_by.new.net c.expr-in-Logic-2.new.net c.args.objects.now c.args.frames c.get-in-Logic.result.now s c.in_ok-y-in-Logic.y) c.side-under.ensures c.in_ok-y-in-Logic.ensures) c.in_ok-t-in-Logic.ensures

pub returns-in_ok-t-in-Choose : goal.returns-in_ok-t-in-Choose
returns-in_ok-t-in-Choose t c =
    done_choose c.args.e.now c.in-Choose.c c.get-in-Choose.result.now c.in-Choose.a c.get-in-Choose-2.result.now c.in-Choose.b c.get-in-Choose-3.result.now c.in-Choose.is c.get-in-Choose.ensures c.get-in-Choose-2.ensures c.get-in-Choose-3.ensures c.args.net.now c.expr-in-Choose.new.net c.split_by-in-Choose.new.net c.expr-in-Choose-2.new.net c.expr-in-Choose-3.new.net c.choice.new.net c.args.objects.now c.args.frames c.args.guard c.in_ok-x-in-Choose.x c.in_ok-y-in-Choose.y c.in_ok-z-in-Choose.z c.in_ok-t-in-Choose.t c.in_ok-s-in-Choose.s c.in_ok-x-in-Choose.ensures c.in_ok-s-in-Choose.ensures c.in_ok-y-in-Choose.ensures c.in_ok-z-in-Choose.ensures c.in_ok-t-in-Choose.ensures.list c.in_ok-t-in-Choose.ensures.made

pub returns-in_ok-r-in-Convert : goal.returns-in_ok-r-in-Convert
returns-in_ok-r-in-Convert t c =
    done_convert c.args.e.now c.in-Convert.a c.get-operand-in-Convert.result.now c.in-Convert.is c.get-operand-in-Convert.ensures c.args.net.now c.expr-in-Convert.new.net c.converted.new.net c.args.objects.now c.args.frames c.args.guard c.in_ok-x-in-Convert.x c.in_ok-r-in-Convert.r c.in_ok-x-in-Convert.ensures c.in_ok-r-in-Convert.ensures
