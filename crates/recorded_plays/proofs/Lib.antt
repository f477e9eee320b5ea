pub mod Walks
pub mod WordsCut
pub mod Taken
pub mod LinesTaken
pub mod GamesTaken
pub mod OneEnd
pub mod OneReading
pub mod WrittenBack
