pub mod Serving
pub mod Served
pub mod Independence
pub mod Waiting
pub mod Fairness
