pub mod CodeText
pub mod Reserved
pub mod Row
