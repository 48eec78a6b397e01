pub mod LetterLists
pub mod BoxHistories
pub mod BoxRules
pub mod ShutCounts
pub mod BoxEnds
pub mod BoxPasses
