pub mod CutLemmas
pub mod DefinitionsLemmas
pub mod LinesLemmas
pub mod PartsLemmas
pub mod Splitting
pub mod TokensLemmas
