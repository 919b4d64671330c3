use Rattle.std.proofs.Common.{◌∙◌, ◌++◌, sym, decimal}
use Rattle.std.proofs.lemmas.Slice.Eq.{bytes_eq-Decides}
use Rattle.hwcbmc_core.specs.Sources.{c_tail}
use Rattle.hwcbmc_core.proofs.BoolLemmas.{true_from_not, false_from_not}
use Rattle.hwcbmc_core.proofs.SourceLemmas.{assert_is, expected_is, number_end, c_tail_ends, c_source_is}
use Rattle.hwcbmc_core.proofs.sources.read_c.Goals as goal

pub returns-in_err-strip-clause-none : goal.returns-in_err-strip-clause-none
returns-in_err-strip-clause-none c = rw c.from_residual.ensures (λ program is. c.in_err-strip.ensures.none _ is.text_is)

pub returns-in_err-strip-2-clause-none : goal.returns-in_err-strip-2-clause-none
returns-in_err-strip-2-clause-none c = rw c.from_residual-in_err-strip-2.ensures (λ program is.
    let foot = assert_is _ _ _ _ program c.in_ok-strip.ensures.found c.strip_edges-edges.ensures.lines c.strip_edges-edges.ensures.all is in
    c.in_err-strip-2.ensures.none (decimal program.expected ++ c_tail) foot.1)

pub returns-in_err-expected-clause-none : goal.returns-in_err-expected-clause-none
returns-in_err-expected-clause-none c = rw c.from_residual-in_err-expected.ensures (λ program is.
    let foot = assert_is _ _ _ _ program c.in_ok-strip.ensures.found c.strip_edges-edges.ensures.lines c.strip_edges-edges.ensures.all is in
    c.in_err-expected.ensures.none program.expected c_tail is.byte c_tail_ends (expected_is _ _ program.expected c.in_ok-strip-2.ensures.found foot.1))

pub returns-then-ne-clause-none : goal.returns-then-ne-clause-none
returns-then-ne-clause-none c = λ program is.
    let foot = assert_is _ _ _ _ program c.in_ok-strip.ensures.found c.strip_edges-edges.ensures.lines c.strip_edges-edges.ensures.all is in
    let number = expected_is _ _ program.expected c.in_ok-strip-2.ensures.found foot.1 in
    let both = number_end c.in_ok-expected.expected program.expected c.in_ok-expected.rest.now c_tail c.in_ok-expected.ensures.byte is.byte c.in_ok-expected.ensures.ends c_tail_ends
    (sym c.in_ok-expected.ensures.found ∙ number) in
    false_from_not _ c.if-ne.ensures ((bytes_eq-Decides c.in_ok-expected.rest.now c_tail).1 both.1)

pub returns-clause-found : goal.returns-clause-found
returns-clause-found c = record {
  text_is = c_source_is _ _ _ _ c.in_ok-expected.rest.now _ _ c.in_ok-strip.ensures.found c.strip_edges-edges.ensures.lines c.in_ok-strip-2.ensures.found c.in_ok-expected.ensures.found
      ((bytes_eq-Decides c.in_ok-expected.rest.now c_tail).0 (true_from_not _ c.if-ne.ensures));
  byte = c.in_ok-expected.ensures.byte;
}
