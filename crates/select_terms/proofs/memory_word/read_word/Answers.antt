use Rattle.std.proofs.Common.{◌≡◌, ◌<◌, refl, arith, length, ℕ, zero, suc, List, [], ◌∷◌, get_or}
use Rattle.std.specs.Prelude.{slice_index}
use Rattle.word_eqs.specs.Graph.{places}
use Rattle.word_eqs.specs.declared.term.TermId.{TermId}
use Rattle.select_terms.proofs.Reading.{reads_none, reads_more}
use Rattle.select_terms.proofs.memory_word.read_word.Goals as goal

pub loop-j-init : goal.loop-j-init
loop-j-init c = reads_none c.args.terms.now c.args.index.0 c.args.signed (places c.args.words.now) c.args.site.0 c.len.ensures.proper c.requires.site

abbrev zero_id : TermId
zero_id = record { 0 = 0 }

place_at : (ids : List TermId) (k : ℕ) → (get_or ids k zero_id).0 ≡ slice_index (places ids) k
place_at [] k = refl
place_at (x ∷ ids) zero = refl
place_at (x ∷ ids) (suc k) = place_at ids k

pub loop-j-preserved : goal.loop-j-preserved
loop-j-preserved c =
    let lt : c.loop-j.j < length c.args.words.now = let t = c.loop-j-test.true in omega (arith, t) in
    reads_more c.args.terms.now c.loop-j.terms c.found.new.terms c.args.index.0 c.args.signed (places c.args.words.now) c.args.site.0 c.loop-j.j c.loop-j.t.0 _ c.in_ok-t.t.0 c.requires.index
    (c.requires.words c.loop-j.j zero_id lt) (c.requires.widths c.loop-j.j zero_id lt) (place_at c.args.words.now c.loop-j.j) c.loop-j.invariant c.found.ensures.proper c.in_ok-t.ensures.adds
