mod ExchangeLemmas
mod StreamLemmas
mod AcceptedLemmas
mod RecordLemmas
mod EndLemmas
pub mod RunLemmas
mod LawFacts
