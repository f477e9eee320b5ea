mod BestLaws
mod BundleLemmas
mod FaultLaws
mod ReachLaws
