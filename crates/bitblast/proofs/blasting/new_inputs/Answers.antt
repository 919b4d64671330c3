use Rattle.std.proofs.Common.{◌≡◌, false, ◌+◌, ◌∷◌, ◌++◌, [], length, length-append, replicate, append_assoc, sym, ap, ◌∙◌, arith, lit<}
use Rattle.std.proofs.lemmas.List.{length-replicate, replicate_more}
use Rattle.gate_net.specs.declared.net.Node.TheVariants.{Input}
use Rattle.bitblast.specs.Blasted.{inputs_from}
use Rattle.bitblast.proofs.Inputs.{length-new_inputs, new_inputs_more}
use Rattle.bitblast.proofs.blasting.new_inputs.Goals as goal

pub push-requires : goal.push-requires
push-requires c =
    let e : length c.loop.word.items ≡ c.loop.counter = ap length c.loop.invariant.word ∙ length-new_inputs (length c.args.net.now) c.loop.counter in
    let l = c.requires.within in
    (lit< tt, omega arith)

pub loop-preserved : goal.loop-preserved
loop-preserved c =
    let n : length c.loop.net ≡ length c.args.net.now + c.loop.counter = ap length c.loop.invariant.net ∙ length-append c.args.net.now (replicate c.loop.counter Input) ∙ ap (λ k. length c.args.net.now + k) (length-replicate c.loop.counter Input) in
    record {
      net =
          c.in_ok-e.ensures.added ∙ ap (λ l. l ++ Input ∷ []) c.loop.invariant.net ∙ append_assoc c.args.net.now (replicate c.loop.counter Input) (Input ∷ [])
          ∙ ap (λ l. c.args.net.now ++ l) (replicate_more c.loop.counter Input);
      word =
          c.push.ensures.items ∙ ap (λ l. l ++ c.in_ok-e.e ∷ []) c.loop.invariant.word
          ∙ ap (λ e. inputs_from (length c.args.net.now) (replicate c.loop.counter Input) ++ e ∷ []) (c.in_ok-e.ensures.edge ∙ ap (λ k. record { node = k; negated = false }) n)
          ∙ sym (new_inputs_more (length c.args.net.now) c.loop.counter);
    }
