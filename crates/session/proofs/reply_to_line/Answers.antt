-- `reply_to_line` writes the line of the reply to the line's command, for which there is room.
use borrow.Author.Rules.{rules}
use Rattle.session.proofs.ReplyRoom.{next-held, said-few, said-room, said-written}
use Rattle.session.proofs.reply_to_line.Goals as goal

pub write_line-requires : goal.write_line-requires
write_line-requires c = (search said-few, search said-room)

pub returns : goal.returns
returns c = record { wrote_within = search (said-written, rules); book_after = search (next-held, rules) }
