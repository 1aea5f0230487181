mod Words
mod ListFields
pub mod HeldQuestionLines
mod QuestionParserLaws
mod BundleParserLaws
mod WrittenQuestions
pub mod QuestionLaws
mod BundleAgain
mod RoadNumbers
mod RequestParserLaws
