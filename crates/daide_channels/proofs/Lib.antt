mod Common
pub mod AwaitedLemmas
pub mod DroppedLemmas
pub mod FrontLemmas
pub mod QueuedLemmas
pub mod FrontsKept
pub mod GoneLemmas
pub mod HeadLemmas
pub mod ReceiverLemmas
pub mod MarksLemmas
pub mod NewLemmas
pub mod PartsLemmas
pub mod SidesLemmas
pub mod QueueLemmas
