-- `bad_book` is the test of a book: its length, and the highest of its entries.
use Rattle.rules.proofs.Books.{book-length, highest-none, highest-next, book-tested}
use Rattle.rules.proofs.book.bad_book.Goals as goal

pub returns-then-book-ne-BOOK_LENGTH : goal.returns-then-book-ne-BOOK_LENGTH
returns-then-book-ne-BOOK_LENGTH c = search book-length

pub loop-price-init : goal.loop-price-init
loop-price-init c = highest-none _

pub loop-price-preserved : goal.loop-price-preserved
loop-price-preserved c = search highest-next

pub returns : goal.returns
returns c = search book-tested
