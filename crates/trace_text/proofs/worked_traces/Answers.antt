use Rattle.std.proofs.Common.{refl}
use Rattle.std.specs.Fmt.{digits}
use Rattle.trace_text.proofs.worked_traces.Goals as goal

pub returns : goal.returns
unfolding digits
returns c = record {
  counting = refl;
  out_of_frames = refl;
  turns = refl;
  words = refl;
}
