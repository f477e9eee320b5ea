pub mod LineLemmas
mod NumberLemmas
pub mod CardLemmas
mod WriteParts
mod TrickLemmas
pub mod ClaimLemmas
pub mod SectionLemmas
