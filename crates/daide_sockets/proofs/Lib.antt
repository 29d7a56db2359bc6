mod PairingLemmas
mod OnceLemmas
mod LingeringLemmas
mod TableLemmas
pub mod KeptRowLemmas
mod NetworkCallLemmas
mod PollLemmas
mod RunPollLemmas
mod AtRestLemmas
mod ControlLemmas
mod ConnectLemmas
pub mod RowLemmas
pub mod InTimeLemmas
mod BesideLemmas
mod FinishingLemmas
pub mod AccountedLemmas
pub mod ClosingTimeLemmas
pub mod SchedulingLemmas
pub mod SocketLemmas
mod PortLemmas
mod AcceptLemmas
mod AcceptFacts
pub mod ControlInTimeLemmas
mod CapacityFacts
mod LineFacts
mod LawFacts
