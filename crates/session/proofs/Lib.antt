-- Laws of the lines, of the calls that change no byte, of the room that a reply takes, and of the loop over the lines.
pub mod LedgerReplies
pub mod ReplyRoom
pub mod Lines
pub mod SessionBalance
pub mod RunTranscript
pub mod ProgramLimits
pub mod PrintedExamples
