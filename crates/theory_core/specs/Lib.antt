pub mod IntsRanks
pub mod ArraysRanks
pub mod TheorySymbols
pub mod Interned
pub mod Answers
pub mod Arguments
pub mod Kinds
pub mod Laws
