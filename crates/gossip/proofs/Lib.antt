pub mod AskLemmas
pub mod CarryLemmas
pub mod MailLemmas
pub mod NewsLemmas
pub mod PartLemmas
pub mod RangeLemmas
pub mod StepLemmas
