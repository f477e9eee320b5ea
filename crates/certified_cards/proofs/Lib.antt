pub mod BundleLemmas
