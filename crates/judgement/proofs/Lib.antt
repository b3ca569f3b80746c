pub mod JudgementLaws
pub mod NamesKept
