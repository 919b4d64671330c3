use Rattle.std.proofs.Common.{List, subst, refl}
use Rattle.word_eqs.specs.declared.term.TermId.{TermId}
use Rattle.word_eqs.specs.Graph.{places}
use Rattle.module_copies.specs.Copying.{IsPicked}
use Rattle.module_copies.proofs.Numbers.{copies_are}
use Rattle.module_copies.proofs.copied.Goals as goal

pub returns : goal.returns
returns c =
    copies_are c.args.net.now (record { terms = c.import.new.self; list = c.args.net.now.list }) c.args.from.now c.args.wanted.now c.args.subs.now c.in_ok-all.all c.in_ok-ids.ids c.len.ensures.proper c.requires.subs c.requires.there
    c.in_ok-all.ensures.extends c.import.ensures.proper refl c.in_ok-all.ensures.copied c.in_ok-all.ensures.typed c.in_ok-all.ensures.cost
    (subst (λ (l : List TermId). IsPicked (places l) c.args.wanted.now (places c.in_ok-ids.ids)) c.as_slice.ensures (subst (λ (l : List TermId). IsPicked (places c.as_slice.result.now) l (places c.in_ok-ids.ids)) c.as_slice-2.ensures c.in_ok-ids.ensures))
