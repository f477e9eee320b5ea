pub mod LegalLaws
pub mod PublicationLaws
