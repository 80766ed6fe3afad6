-- A session: the reply to each command, the transcript of an input, and what it says of a history.
pub mod Replies
pub mod Transcript
pub mod RunTranscript
pub mod ProgramLimits
pub mod PrintedExamples
pub mod SessionBalance
