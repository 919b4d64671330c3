use Rattle.std.proofs.Common.{[], sym, inl}
use Rattle.std.specs.Prelude.{string_bytes}
use Rattle.hwcbmc_core.specs.Runs.{Property, CanBreak, assertion}
use Rattle.hwcbmc_core.specs.Answers.{IsTraceOfBreak, options_unsupported, c_unsupported, v_unsupported}
use Rattle.hwcbmc_core.proofs.AnswerLemmas.{holds_of}
use Rattle.hwcbmc_core.proofs.answering.verdict.Goals as goal

pub returns-then-not-fit_forms : goal.returns-then-not-fit_forms
returns-then-not-fit_forms c = rw c.refused.ensures (options_unsupported c.requires.c_read c.requires.v_read (sym c.if-not-fit_forms.ensures))

pub returns-in_default : goal.returns-in_default
returns-in_default c = rw c.refused-in_default.ensures (c_unsupported c.requires.c_read c.requires.v_read c.in_default.ensures.none)

pub returns-in_default-read_v : goal.returns-in_default-read_v
returns-in_default-read_v c =
    rw c.refused-in_default-read_v.ensures (v_unsupported c.requires.c_read c.requires.v_read (c.in-Some.program, c.in-Some.ensures.found) c.in_default-read_v.ensures.none)

pub returns-in-Ok : goal.returns-in-Ok
returns-in-Ok c = inl (holds_of c.args.options c.args.c_text.now c.args.v_text.now c.in-Some.program c.in-Some-read_v.counter
    (λ program counter. IsTraceOfBreak program counter c.args.options (string_bytes c.in-Ok.text)) (sym c.if-not-fit_forms.ensures) c.requires.c_read c.requires.v_read c.in-Some.ensures.found c.in-Some-read_v.ensures.found
    (assertion c.in-Some.program, [], c.if-not-breaks.ensures [], c.in-Ok.ensures c.args.options.bounds [] (c.if-not-breaks.ensures [])))

pub returns-then-not-breaks : goal.returns-then-not-breaks
returns-then-not-breaks c = holds_of c.args.options c.args.c_text.now c.args.v_text.now c.in-Some.program c.in-Some-read_v.counter
    (λ program counter. (property : Property) → ¬ (CanBreak program counter c.args.options.bounds property)) (sym c.if-not-fit_forms.ensures) c.requires.c_read c.requires.v_read c.in-Some.ensures.found c.in-Some-read_v.ensures.found
    c.if-not-breaks.ensures
