mod Common
pub mod Members
pub mod Named
pub mod RangeItems
pub mod LimitLemmas
pub mod JudgedLemmas
pub mod ReportLemmas
pub mod PartLemmas
pub mod LineLemmas
mod ReportFacts
mod AddressFacts
mod PartFacts
pub mod WordEntries
pub mod SettingsFacts
mod PairFacts
mod RangeFacts
