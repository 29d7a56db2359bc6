mod EndingLemmas
mod CheckingLemmas
mod Reading
mod JudgingLemmas
mod ControllingLemmas
