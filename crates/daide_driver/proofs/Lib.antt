pub mod AnswerWork
pub mod Stretches
pub mod PortCalls
pub mod TurnLemmas
pub mod MeterLemmas
pub mod Standing
pub mod RelayLemmas
pub mod HubLemmas
pub mod SlabLemmas
mod BoundFacts
mod LawFacts
pub mod ApartLemmas
pub mod DueLemmas
pub mod FramesGone
