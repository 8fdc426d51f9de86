pub mod TypedLemmas
pub mod SizesLemmas
pub mod RefinedLemmas
pub mod ModulesLemmas
pub mod PlacesLemmas
pub mod PassedLemmas
pub mod SpotsLemmas
pub mod QuietLemmas
pub mod WordsLemmas
pub mod RunsLemmas
mod TwinsLemmas
mod TextsLemmas
mod StoresLemmas
mod InputLemmas
mod FormatsLemmas
mod IntegersLemmas
mod BigStepLemmas
