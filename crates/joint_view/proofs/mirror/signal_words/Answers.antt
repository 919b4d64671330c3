use Rattle.std.proofs.Common.{◌≡◌, ◌+◌, ◌∷◌, ◌++◌, [], ◌<◌, ◌^◌, length, drop, ◌∙◌, arith}
use Rattle.joint_ir.specs.Views.{signal_words}
use Rattle.joint_view.proofs.Rows.{rows_more, few_more, words_clock, words_input, words_wire, words_register, few_taken}
use Rattle.joint_view.proofs.mirror.signal_words.Goals as goal
use Rattle.joint_view.proofs.mirror.signal_words.Goals.{in-Clock+in_ok-push_row-in-Clock, in-Input+in_ok-push_row-in-Input, in-Wire+in_ok-push_row-in-Wire, in-Register+in_ok-push_row-in-Register}

pub loop-signal-preserved : goal.loop-signal-preserved
loop-signal-preserved c =
    let s = c.signal-item.result in
    let signals = c.as_slice-signal-items.result.now in
    let k = c.loop-signal.signal-index in
    let more = drop (k + 1) signals in
    let R = c.loop-signal.registers.now in
    let I = c.loop-signal.inputs.now in
    let W = c.loop-signal.wires.now in
    let R' = c.match-signal.registers.now in
    let I' = c.match-signal.inputs.now in
    let W' = c.match-signal.wires.now in
    let rows = c.loop-signal.rows in
    let all = c.match-signal.rows in
    let so_far = c.loop-signal.invariant.words in
    elim c.match-signal.branch [
      | in-Clock+in_ok-push_row-in-Clock w ↦
          let row = 0 ∷ [] in
          let own = words_clock s more R I W w.in-Clock.is in
          let step : signal_words (s ∷ more) R I W ≡ row ∷ signal_words more R' I' W' = cc in
          let is : all ≡ rows ++ row ∷ [] = w.rows-is ∙ w.in_ok-push_row-in-Clock.ensures in
          record {
            words = rows_more signals s R I W R' I' W' row rows all _ k c.loop-signal-test.true c.signal-item.is step is so_far;
            few = few_more rows all row c.loop-signal.invariant.few (omega arith) is;
          }
      | in-Input+in_ok-push_row-in-Input w ↦
          let row = w.first.result.now in
          let own = words_input s more R I W w.in-Input.is in
          let step : signal_words (s ∷ more) R I W ≡ row ∷ signal_words more R' I' W' = cc in
          let is : all ≡ rows ++ row ∷ [] = w.rows-is ∙ w.in_ok-push_row-in-Input.ensures in
          let lt : length row < 2 ^ 32 = rw w.first.ensures (few_taken 1 I (omega arith)) in
          record {
            words = rows_more signals s R I W R' I' W' row rows all _ k c.loop-signal-test.true c.signal-item.is step is so_far;
            few = few_more rows all row c.loop-signal.invariant.few lt is;
          }
      | in-Wire+in_ok-push_row-in-Wire w ↦
          let row = w.first-in-Wire.result.now in
          let own = words_wire s more R I W w.in-Wire.is in
          let step : signal_words (s ∷ more) R I W ≡ row ∷ signal_words more R' I' W' = cc in
          let is : all ≡ rows ++ row ∷ [] = w.rows-is ∙ w.in_ok-push_row-in-Wire.ensures in
          let lt : length row < 2 ^ 32 = rw w.first-in-Wire.ensures (few_taken 1 W (omega arith)) in
          record {
            words = rows_more signals s R I W R' I' W' row rows all _ k c.loop-signal-test.true c.signal-item.is step is so_far;
            few = few_more rows all row c.loop-signal.invariant.few lt is;
          }
      | in-Register+in_ok-push_row-in-Register w ↦
          let row = w.first-in-Register.result.now in
          let own = words_register s more R I W w.in-Register.is in
          let step : signal_words (s ∷ more) R I W ≡ row ∷ signal_words more R' I' W' = cc in
          let is : all ≡ rows ++ row ∷ [] = w.rows-is ∙ w.in_ok-push_row-in-Register.ensures in
          let lt : length row < 2 ^ 32 = rw w.first-in-Register.ensures (few_taken w.word_count-count.result R (omega arith)) in
          record {
            words = rows_more signals s R I W R' I' W' row rows all _ k c.loop-signal-test.true c.signal-item.is step is so_far;
            few = few_more rows all row c.loop-signal.invariant.few lt is;
          }
    ]
