use Rattle.unwind_frames.proofs.beginning.first_view.Goals as goal

pub filled_view-requires-clause-sources : goal.filled_view-requires-clause-sources
filled_view-requires-clause-sources c = c.in_ok-sources.ensures.typed

pub returns : goal.returns
returns c = record { n1 = c.first_sources.new.net; drawn = c.in_ok-sources.ensures; filled_ = c.in_ok-filled.ensures }
