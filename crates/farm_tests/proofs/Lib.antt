pub mod RelayPairs
