pub mod Cycle
pub mod KeptNamed
pub mod Named
pub mod LinesTaken
pub mod GamesTaken
pub mod AllLines
