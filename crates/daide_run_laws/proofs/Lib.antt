pub mod TurnSettled
pub mod RecordedPorts
pub mod RestLemmas
pub mod AsleepLemmas
pub mod AwaitedLemmas
pub mod TimedSessions
pub mod BegunSessions
pub mod OpenSessions
pub mod Deadlines
pub mod DeadlineLemmas
pub mod OverdueLemmas
pub mod StayLemmas
pub mod RoomLemmas
pub mod FinishTimeLemmas
mod LawFacts
