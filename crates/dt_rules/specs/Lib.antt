pub mod Coverage
pub mod PatternRules
pub mod Answers
pub mod Groups
pub mod Unfolding
pub mod Worklist
pub mod Settling
pub mod Judgement
