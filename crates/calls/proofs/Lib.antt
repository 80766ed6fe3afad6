-- That every answer fits, and what a call comes to.
pub mod AnswersFit
pub mod Performed
