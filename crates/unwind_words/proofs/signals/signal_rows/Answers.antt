use Rattle.std.proofs.Common.{◌+◌, ◌<◌, ◌∷◌, ◌++◌, [], Bor, List, length, take, drop, sym, ap, ◌∙◌, subst, arith}
use Rattle.std.specs.Global.{Vec}
use Rattle.word_eqs.specs.declared.term.TermId.{TermId}
use Rattle.joint_ir.specs.States.{element_count}
use Rattle.joint_ir.specs.WellFormed.{FitsSignal}
use Rattle.unwind_state.proofs.Gates.{adds_none}
use Rattle.unwind_module.proofs.Terms.{sized_is}
use Rattle.unwind_words.proofs.Taken.{AreTaken, none_taken, one_taken, all_taken, taken_as, have_here, have_kept, taken_clock, taken_input, taken_wire, taken_register}
use Rattle.unwind_words.proofs.signals.signal_rows.Goals as goal
use Rattle.unwind_words.proofs.signals.signal_rows.Goals.{in-Clock+in_ok-zero-in-Clock+in_ok-push_row-in-Clock, in-Input+in_ok-push_row-in-Input, in-Wire+in_ok-push_row-in-Wire, in-Register+in_ok-push_row-in-Register}

pub loop-signal-init : goal.loop-signal-init
loop-signal-init c =
    let n = c.args.net.now in
    let ss = c.args.signals.now in
    let R = c.args.registers.now in
    let I = c.args.inputs.now in
    let W = c.args.wires.now in
    subst (λ l. AreTaken n n ss 0 R I W l R I W) (sym c.new-rows.ensures.items) (none_taken n ss R I W c.len.ensures.proper c.requires.terms)

pub loop-signal-preserved : goal.loop-signal-preserved
loop-signal-preserved c =
    let n0 = c.args.net.now in
    let n1 = c.loop-signal.net in
    let ss = c.args.signals.now in
    let k = c.loop-signal.signal-index in
    let s = c.signal-item.result in
    let Ra = c.args.registers.now in
    let Ia = c.args.inputs.now in
    let Wa = c.args.wires.now in
    let R = c.loop-signal.registers.now in
    let I = c.loop-signal.inputs.now in
    let W = c.loop-signal.wires.now in
    let R' = c.match-signal.registers.now in
    let I' = c.match-signal.inputs.now in
    let W' = c.match-signal.wires.now in
    let rows = c.loop-signal.rows.items in
    let all = c.match-signal.rows.items in
    let A = c.loop-signal.invariant in
    let lt : k < length ss = c.loop-signal-test.true in
    let at = c.signal-item.is in
    let fits : FitsSignal s = subst FitsSignal (sym at) (c.requires.signals k s lt) in
    let have = have_here n1.terms ss k s R I W lt at A.left in
    let same = adds_none n1 A.adds.proper in
    let now = λ (b : Bor (List TermId)). b.now in
    let items = λ (x : Vec (List TermId)). x.items in
    elim c.match-signal.branch [
      | in-Clock+in_ok-zero-in-Clock+in_ok-push_row-in-Clock w ↦
          let n2 = w.low.new.net in
          let Z = w.in_ok-zero-in-Clock.ensures in
          let zero = w.in_ok-zero-in-Clock.zero in
          let T = taken_clock n2.terms s (drop (k + 1) ss) fits R I W (have_kept n1 n2 (s ∷ drop (k + 1) ss) R I W Z.adds have) zero.term w.in-Clock.is (sized_is n2.terms zero 1 Z.has Z.width) Z.value in
          taken_as n0 n2 c.match-signal.net ss (k + 1) Ra Ia Wa (rows ++ (zero.term ∷ []) ∷ []) all R I W R' I' W' w.net-is (ap items w.rows-is ∙ w.in_ok-push_row-in-Clock.ensures) (ap now w.registers-is) (ap now w.inputs-is) (ap now w.wires-is)
          (one_taken n0 n1 n2 ss k s Ra Ia Wa rows R I W R I W (zero.term ∷ []) lt at A Z.adds T)
      | in-Input+in_ok-push_row-in-Input w ↦
          let T = taken_input n1.terms s (drop (k + 1) ss) fits R I W have w.in-Input.is in
          taken_as n0 n1 c.match-signal.net ss (k + 1) Ra Ia Wa (rows ++ take 1 I ∷ []) all R (drop 1 I) W R' I' W' w.net-is
          (ap items w.rows-is ∙ w.in_ok-push_row-in-Input.ensures ∙ ap (λ l. rows ++ l ∷ []) w.first.ensures) (ap now w.registers-is) (ap now w.inputs-is ∙ w.rest-inputs.ensures) (ap now w.wires-is)
          (one_taken n0 n1 n1 ss k s Ra Ia Wa rows R I W R (drop 1 I) W (take 1 I) lt at A same T)
      | in-Wire+in_ok-push_row-in-Wire w ↦
          let T = taken_wire n1.terms s (drop (k + 1) ss) fits R I W have w.in-Wire.is in
          taken_as n0 n1 c.match-signal.net ss (k + 1) Ra Ia Wa (rows ++ take 1 W ∷ []) all R I (drop 1 W) R' I' W' w.net-is
          (ap items w.rows-is ∙ w.in_ok-push_row-in-Wire.ensures ∙ ap (λ l. rows ++ l ∷ []) w.first-in-Wire.ensures) (ap now w.registers-is) (ap now w.inputs-is) (ap now w.wires-is ∙ w.rest-wires.ensures)
          (one_taken n0 n1 n1 ss k s Ra Ia Wa rows R I W R I (drop 1 W) (take 1 W) lt at A same T)
      | in-Register+in_ok-push_row-in-Register w ↦
          let T = taken_register n1.terms s (drop (k + 1) ss) fits R I W have w.in-Register.is in
          let n = element_count s.words in
          let e = w.word_count-count.ensures.value in
          taken_as n0 n1 c.match-signal.net ss (k + 1) Ra Ia Wa (rows ++ take n R ∷ []) all (drop n R) I W R' I' W' w.net-is
          (ap items w.rows-is ∙ w.in_ok-push_row-in-Register.ensures ∙ ap (λ l. rows ++ l ∷ []) (w.first-in-Register.ensures ∙ ap (λ m. take m R) e)) (ap now w.registers-is ∙ w.rest-registers.ensures ∙ ap (λ m. drop m R) e) (ap now w.inputs-is) (ap now w.wires-is)
          (one_taken n0 n1 n1 ss k s Ra Ia Wa rows R I W (drop n R) I W (take n R) lt at A same T)
    ]

pub returns : goal.returns
returns c =
    all_taken c.args.net.now c.loop-signal.net c.args.signals.now c.loop-signal.signal-index c.args.registers.now c.args.inputs.now c.args.wires.now c.loop-signal.rows.items c.loop-signal.registers.now c.loop-signal.inputs.now c.loop-signal.wires.now (omega (arith, c.loop-signal-test.false)) c.loop-signal.invariant
