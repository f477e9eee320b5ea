mod ClaimLaws
mod EntryLaws
mod LossLaws
mod BundleLaws
