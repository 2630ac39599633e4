pub mod BindLemmas
pub mod FormLemmas
pub mod FoundLemmas
pub mod HeldLemmas
pub mod NamedLemmas
pub mod PropertyKeys
