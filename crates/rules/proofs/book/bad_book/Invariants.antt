-- `bad_book` is the test of a book: its length, and the highest of its entries.
use Rattle.rules.proofs.Books.{HighestTo}
use Rattle.rules.proofs.book.bad_book.Given as goal

abbrev pub invariant-loop-price : goal.invariant-loop-price
invariant-loop-price l = HighestTo l.book l.price-index l.highest
