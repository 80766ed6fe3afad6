-- Texts as lists of bytes. Assumes nothing.
use Rattle.std.specs.Prelude.{List, ℕ, codes}
use Prim.Native.Char.{Char, code}
use Prim.Native.String.{String}

-- the byte of a character in ASCII
abbrev pub byte : Char → ℕ
byte c = code c

-- the bytes of a text in ASCII
abbrev pub ascii : String → List ℕ
ascii = codes

-- what stands between two words of a line
abbrev pub space : ℕ
space = byte " "

-- what ends a line
abbrev pub line_feed : ℕ
line_feed = byte "\n"
