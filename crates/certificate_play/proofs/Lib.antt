pub mod PromiseLaws
mod StepLaws
mod BranchLaws
mod CopyLaws
mod OwnCardLaws
