pub mod Requests
pub mod Counts
pub mod Pieces
pub mod Columns
pub mod Json
pub mod Metrics
pub mod Totals
pub mod StatusTexts
