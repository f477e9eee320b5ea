pub mod Subcommands
pub mod CommandLine
pub mod Words
pub mod Faults
pub mod Outputs
pub mod Commands
