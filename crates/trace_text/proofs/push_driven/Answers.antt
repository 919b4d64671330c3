use Rattle.std.proofs.Common.{◌≡◌, ◌++◌, ap, ◌∙◌, append_assoc}
use Rattle.std.specs.Prelude.{codes, string_bytes}
use Rattle.std.specs.List.{flat_map}
use Rattle.std.proofs.lemmas.Result.{on_ok_weaker}
use Rattle.trace_text.specs.Trace.{shown_text}
use Rattle.trace_text.proofs.push_driven.Goals as goal

pub returns : goal.returns
returns c =
    let lines = flat_map (shown_text c.args.pair.now) c.args.shown.now in
    on_ok_weaker {P = string_bytes c.push_all_shown.new.text ≡ string_bytes c.push_str.new.self ++ lines} c.push_all_shown.result (λ e. e ∙ ap (λ l. l ++ lines) c.in_ok-push_str.ensures.bytes ∙ append_assoc (string_bytes c.args.text.now) (codes "inputs driven\n") lines) c.push_all_shown.ensures
