use Rattle.std.proofs.Common.{◌∙◌, length, Err, Some, ap, refl, arith}
use Rattle.hwcbmc_core.specs.Answers.{FitsLength}
use Rattle.hwcbmc_core.proofs.AnswerLemmas.{c_unread, v_unread, leaves_after, fits_read, read_whole, judged_right}
use Rattle.hwcbmc_core.proofs.answering.read_files.Goals as goal

pub returns-in-Err-clause-right : goal.returns-in-Err-clause-right
returns-in-Err-clause-right g c = rw c.unread.ensures (c_unread c.args.options (g.F.Files.told c.args.files.now) _ _ c.text.result.now c.in-Err.end c.text.ensures (record {
  rose = λ is. c.in-Err.ensures.rose (ap Err is);
  fault = λ is. c.in-Err.ensures.fault (ap Err is);
  started = λ ne. c.in-Err.ensures.started (λ is. ne cc);
  taken = λ is. c.in-Err.ensures.too_long (ap Err is);
  long = λ is. c.in-Err.ensures.told_long (ap Err is);
  same_count = λ ne. c.in-Err.ensures.same_count (λ is. ne cc);
  no_fault = λ ne nm. c.in-Err.ensures.no_fault (λ is. ne cc) (λ is. nm cc);
}))

pub returns-in-Err-read_all-clause-right : goal.returns-in-Err-read_all-clause-right
returns-in-Err-read_all-clause-right g c =
    let told = g.F.Files.told c.args.files.now in
    let fits : FitsLength (told c.args.options.c_file) = fits_read (told c.args.options.c_file) c.in-Ok.text.items
    (read_whole told told c.text.result.now c.args.options.c_file c.in-Ok.text.items c.in-Ok.text.items refl c.text.ensures refl c.in-Ok.ensures.whole) c.in-Ok.ensures.not_long in
    rw c.unread-in-Err-read_all.ensures (v_unread c.args.options told _ _ c.text-2.result.now c.in-Err-read_all.end c.text-2.ensures fits
    (leaves_after c.text-2.result.now told (g.F.Files.told c.read_all.new.files) _ (g.F.Files.reading c.read_all.new.files) _ c.in-Err-read_all.end c.in-Ok.ensures.told (c.in-Ok.ensures.same_count (λ is. cc)) (record {
      rose = λ is. c.in-Err-read_all.ensures.rose (ap Err is);
      fault = λ is. c.in-Err-read_all.ensures.fault (ap Err is);
      started = λ ne. c.in-Err-read_all.ensures.started (λ is. ne cc);
      taken = λ is. c.in-Err-read_all.ensures.too_long (ap Err is);
      long = λ is. c.in-Err-read_all.ensures.told_long (ap Err is);
      same_count = λ ne. c.in-Err-read_all.ensures.same_count (λ is. ne cc);
      no_fault = λ ne nm. c.in-Err-read_all.ensures.no_fault (λ is. ne cc) (λ is. nm cc);
    })))

pub returns-clause-right : goal.returns-clause-right
returns-clause-right g c =
    let told = g.F.Files.told c.args.files.now in
    let c_whole = read_whole told told c.text.result.now c.args.options.c_file c.in-Ok.text.items c.deref.result.now refl c.text.ensures c.deref.ensures.value c.in-Ok.ensures.whole in
    let v_whole = read_whole told (g.F.Files.told c.read_all.new.files) c.text-2.result.now c.args.options.v_file c.in-Ok-read_all.text.items c.deref-2.result.now c.in-Ok.ensures.told c.text-2.ensures c.deref-2.ensures.value c.in-Ok-read_all.ensures.whole in
    judged_right c.args.options told _ _ c.deref.result.now c.deref-2.result.now c.judge.result (record {
      started = c.in-Ok-read_all.ensures.started (λ is. cc) ∙ ap Some c.text-2.ensures;
      taken = omega (arith, c.in-Ok-read_all.ensures.all_taken, c.in-Ok-read_all.ensures.not_long);
      none_since_start = c.in-Ok-read_all.ensures.no_fault (λ is. cc) (λ is. cc);
      no_fault = c.in-Ok-read_all.ensures.same_count (λ is. cc) ∙ c.in-Ok.ensures.same_count (λ is. cc);
      c_fits = fits_read (told c.args.options.c_file) c.deref.result.now c_whole (omega (arith, c.in-Ok.ensures.not_long, ap length c.deref.ensures.value));
      v_fits = fits_read (told c.args.options.v_file) c.deref-2.result.now v_whole (omega (arith, c.in-Ok-read_all.ensures.not_long, ap length c.deref-2.ensures.value));
    }) c_whole v_whole c.judge.ensures
