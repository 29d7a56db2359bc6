pub mod Line
pub mod Word
pub mod Pieces
pub mod Frames
pub mod Lines
