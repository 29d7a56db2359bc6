-- The messages from either side, rule by rule as in docs/PROTOCOL.md.
pub mod Lists
pub mod Places
pub mod Orders
pub mod Arrangements
pub mod Press
pub mod Client
pub mod Server
