pub mod KindLemmas
pub mod BasedLemmas
