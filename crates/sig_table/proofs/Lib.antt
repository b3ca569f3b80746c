pub mod Ascending
pub mod UnreservedTexts
