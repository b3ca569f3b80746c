pub mod LevelsInOneList
pub mod DistinctNamesKept
pub mod CallLaws
