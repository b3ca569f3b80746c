pub mod ArgumentWidths
pub mod IndexValues
pub mod ListedSymbols
pub mod NumberTests
pub mod NumeralDigits
pub mod RankAnswers
