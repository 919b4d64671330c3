use Rattle.word_eqs.specs.Graph.{places}
use Rattle.std.proofs.Common.{◌≡◌, ◌+◌, ◌<◌, [], ◌∷◌, ◌++◌, length, get_or, Some, sym, ap, ◌∙◌, subst, arith}
use Rattle.std.specs.Prelude.{slice_get}
use Rattle.std.proofs.lemmas.List.{map-append}
use Rattle.std.proofs.lemmas.Option.{slice_get-get_or}
use Rattle.word_eqs.specs.declared.term.TermId.{TermId}
use Rattle.word_eqs.specs.declared.term.Term.{Term}
use Rattle.word_eqs.specs.Import.{IsCopy}
use Rattle.word_eqs.proofs.Graphs.{no_term, extends_trans}
use Rattle.word_eqs.proofs.Importing.{Imported, subs_kept, room_for, imported_more, copies_all}
use Rattle.word_eqs.proofs.terms.Terms.import_terms.Goals as goal

pub import_at-requires-clause-subs : goal.import_at-requires-clause-subs
import_at-requires-clause-subs c = subs_kept c.args.self.now c.loop-k.self c.args.from.now (places c.args.map.now) c.loop-k.invariant.extends c.requires.subs

pub import_at-requires-clause-room : goal.import_at-requires-clause-room
import_at-requires-clause-room c = λ x at. room_for c.args.self.now c.loop-k.self c.args.from.now (places c.args.map.now) (places c.loop-k.ids) c.loop-k.k x c.loop-k.invariant c.requires.room at

copy : (c : goal.After-drop-ids-inside-in_err-push) → IsCopy c.loop-k.self c.import_at.new.self c.args.from.now (places c.args.map.now) (places c.loop-k.ids) (get_or c.args.from.now.terms c.loop-k.k no_term) c.in_ok-id.id.0
copy c =
    let lt : c.loop-k.k < length c.args.from.now.terms = omega (arith, c.loop-k-test.true, c.len-k-end.ensures.value) in
    c.in_ok-id.ensures.copy (get_or c.args.from.now.terms c.loop-k.k no_term) (slice_get-get_or c.args.from.now.terms c.loop-k.k no_term lt)

pub returns-in_err-push-clause-extends : goal.returns-in_err-push-clause-extends
returns-in_err-push-clause-extends c = extends_trans c.args.self.now c.loop-k.self c.import_at.new.self c.loop-k.invariant.extends (copy c).extends

pub returns-in_err-push-clause-vars : goal.returns-in_err-push-clause-vars
returns-in_err-push-clause-vars c = (copy c).vars ∙ c.loop-k.invariant.vars

pub returns-in_err-push-clause-proper : goal.returns-in_err-push-clause-proper
returns-in_err-push-clause-proper c = (copy c).proper

pub loop-k-preserved : goal.loop-k-preserved
loop-k-preserved c =
    let k = c.loop-k.k in
    let lt : k < length c.args.from.now.terms = omega (arith, c.loop-k-test.true, c.len-k-end.ensures.value) in
    let x : Term = get_or c.args.from.now.terms k no_term in
    let at : slice_get c.args.from.now.terms k ≡ Some x = slice_get-get_or c.args.from.now.terms k no_term lt in
    let e : places c.push.new.self ≡ places c.loop-k.ids ++ c.in_ok-id.id.0 ∷ [] = ap places c.in_ok-push.ensures.ok ∙ map-append (λ (t : TermId). t.0) c.loop-k.ids (c.in_ok-id.id ∷ []) in
    subst (λ ids. Imported c.args.self.now c.import_at.new.self c.args.from.now (places c.args.map.now) ids (k + 1)) (sym e)
    (imported_more c.args.self.now c.loop-k.self c.import_at.new.self c.args.from.now (places c.args.map.now) (places c.loop-k.ids) k x c.in_ok-id.id.0 c.len-k-end.ensures.proper c.loop-k.invariant at (c.in_ok-id.ensures.copy x at))

pub returns-clause-copied : goal.returns-clause-copied
returns-clause-copied c =
    let n : length c.args.from.now.terms ≡ c.loop-k.k = omega (arith, c.loop-k-test.false, c.len-k-end.ensures.value, c.loop-k.auto.k-end) in
    copies_all c.args.self.now c.loop-k.self c.args.from.now (places c.args.map.now) (places c.loop-k.ids) c.loop-k.k n c.len-k-end.ensures.proper c.requires.subs c.loop-k.invariant
