pub mod NoLostWakeups
pub mod FreedPlaces
pub mod Room
pub mod FinishTime
