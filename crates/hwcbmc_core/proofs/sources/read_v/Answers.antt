use Rattle.std.proofs.Common.{◌∙◌, ◌++◌, sym, decimal}
use Rattle.std.proofs.lemmas.Slice.Eq.{bytes_eq-Decides}
use Rattle.hwcbmc_core.specs.Sources.{v_middle, v_tail}
use Rattle.hwcbmc_core.proofs.BoolLemmas.{true_from_not, false_from_not}
use Rattle.hwcbmc_core.proofs.SourceLemmas.{first_is, middle_is, step_is, number_end, v_middle_ends, v_tail_ends, v_source_is}
use Rattle.hwcbmc_core.proofs.sources.read_v.Goals as goal

pub returns-in_err-strip-clause-none : goal.returns-in_err-strip-clause-none
returns-in_err-strip-clause-none c = rw c.from_residual.ensures (λ counter is. c.in_err-strip.ensures.none _ is.text_is)

pub returns-in_err-first-clause-none : goal.returns-in_err-first-clause-none
returns-in_err-first-clause-none c = rw c.from_residual-in_err-first.ensures (λ counter is.
    c.in_err-first.ensures.none counter.first (v_middle ++ (decimal counter.step ++ v_tail)) is.first_byte (v_middle_ends (decimal counter.step ++ v_tail))
    (first_is _ _ counter c.in_ok-strip.ensures.found is))

pub returns-in_err-strip-2-clause-none : goal.returns-in_err-strip-2-clause-none
returns-in_err-strip-2-clause-none c = rw c.from_residual-in_err-strip-2.ensures (λ counter is.
    let middle = middle_is _ _ _ _ counter c.in_ok-strip.ensures.found c.in_ok-first.ensures.found c.in_ok-first.ensures.byte c.in_ok-first.ensures.ends is in
    c.in_err-strip-2.ensures.none (decimal counter.step ++ v_tail) middle.1)

pub returns-in_err-step-clause-none : goal.returns-in_err-step-clause-none
returns-in_err-step-clause-none c = rw c.from_residual-in_err-step.ensures (λ counter is.
    let middle = middle_is _ _ _ _ counter c.in_ok-strip.ensures.found c.in_ok-first.ensures.found c.in_ok-first.ensures.byte c.in_ok-first.ensures.ends is in
    c.in_err-step.ensures.none counter.step v_tail is.step_byte v_tail_ends (step_is _ _ counter.step c.in_ok-strip-2.ensures.found middle.1))

pub returns-then-ne-clause-none : goal.returns-then-ne-clause-none
returns-then-ne-clause-none c = λ counter is.
    let middle = middle_is _ _ _ _ counter c.in_ok-strip.ensures.found c.in_ok-first.ensures.found c.in_ok-first.ensures.byte c.in_ok-first.ensures.ends is in
    let tail = number_end c.in_ok-step.step counter.step c.in_ok-step.rest.now v_tail c.in_ok-step.ensures.byte is.step_byte c.in_ok-step.ensures.ends v_tail_ends
    (sym c.in_ok-step.ensures.found ∙ step_is _ _ counter.step c.in_ok-strip-2.ensures.found middle.1) in
    false_from_not _ c.if-ne.ensures ((bytes_eq-Decides c.in_ok-step.rest.now v_tail).1 tail.1)

pub returns-clause-found : goal.returns-clause-found
returns-clause-found c = record {
  text_is = v_source_is _ _ _ _ c.in_ok-step.rest.now _ _ c.in_ok-strip.ensures.found c.in_ok-first.ensures.found c.in_ok-strip-2.ensures.found c.in_ok-step.ensures.found
      ((bytes_eq-Decides c.in_ok-step.rest.now v_tail).0 (true_from_not _ c.if-ne.ensures));
  first_byte = c.in_ok-first.ensures.byte;
  step_byte = c.in_ok-step.ensures.byte;
}
