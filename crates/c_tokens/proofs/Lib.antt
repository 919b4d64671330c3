pub mod FrontLemmas
pub mod IntegerLemmas
pub mod QuoteLemmas
pub mod KindLemmas
pub mod NameLemmas
pub mod PartLemmas
pub mod LineLemmas
pub mod GivenLemmas
