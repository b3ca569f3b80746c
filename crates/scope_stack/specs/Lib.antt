pub mod Levels
pub mod LevelStarts
pub mod DistinctNames
pub mod Environment
pub mod Coded
pub mod Calls
