pub mod NamedLemmas
pub mod NamingLemmas
pub mod PartsLemmas
pub mod PlacesLemmas
pub mod TokensLemmas
pub mod WordsLemmas
