pub mod CommandLine
pub mod CommandTable
