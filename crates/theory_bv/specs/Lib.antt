pub mod Answers
pub mod Declarations
pub mod Indices
pub mod Ranks
pub mod Shapes
pub mod Symbols
