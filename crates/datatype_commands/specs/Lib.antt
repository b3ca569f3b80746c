pub mod GroupRules
pub mod Answers
pub mod KnownDatatypes
pub mod DeclaredDatatypes
