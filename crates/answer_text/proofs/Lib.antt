mod Words
pub mod VertexLines
mod Blocks
pub mod OneAnswer
mod ListFields
mod HeldAnswerLines
mod AnswerParserLaws
mod ReadAgain
mod FewHops
mod RightIsWritable
mod AnswerNumbers
