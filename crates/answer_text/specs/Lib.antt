pub mod AnswerData
pub mod IsAnswer
pub mod AnswerText
pub mod AnswerFiles
pub mod AnswerTakes
pub mod Writable
