pub mod TableMeaning
pub mod Over
pub mod ValueAgreement
pub mod Agreement
pub mod CopyExamples
