-- Numbers in decimal: how they are written, and how they are read. Assumes nothing.
use Rattle.std.specs.Prelude.{◌≡◌, Bool, false, cond, List, [], ◌∷◌, ◌++◌, ℕ, zero, suc, ◌+◌, ◌*◌, ◌-◌, ◌/◌, ◌%◌, ◌≤◌, eqb, ltb, ℤ, pos, negsuc, length, get_or, Option, Some, None}
use Rattle.std.specs.Char.{is_ascii_digit}
use Rattle.text.specs.Bytes.{byte}

-- the digits of n, the most significant first, by at most f divisions
unfoldable pub digits_by : ℕ → ℕ → List ℕ
digits_by zero n = (byte "0" + n) ∷ []
digits_by (suc f) n =
    let more = digits_by f (n / 10) ++ ((byte "0" + n % 10) ∷ []) in
    cond (ltb n 10) ((byte "0" + n) ∷ []) more

-- a number in decimal, without leading zeros: n divisions are enough
unfoldable pub digits : ℕ → List ℕ
digits n = digits_by n n

-- an integer in decimal, with a minus sign before a negative one (negsuc n is −(n + 1))
abbrev pub integer_text : ℤ → List ℕ
integer_text (pos n) = digits n
integer_text (negsuc n) = byte "-" ∷ digits (suc n)

-- the value of a word that is all digits, after digits of value v
unfoldable pub decimal_value : ℕ → List ℕ → Option ℕ
decimal_value v [] = Some v
decimal_value v (b ∷ bs) = cond (is_ascii_digit b) (decimal_value (v * 10 + (b - byte "0")) bs) None

-- more than one digit, of which the first is 0
abbrev pub has_leading_zero : List ℕ → Bool
has_leading_zero word = cond (ltb 1 (length word)) (eqb (get_or word 0 0) (byte "0")) false

-- a value that is at most 4,294,967,295
abbrev pub as_number : Option ℕ → Option ℕ
as_number None = None
as_number (Some v) = cond (ltb 4294967295 v) None (Some v)

-- a number of a line: 1 to 10 digits without leading zeros, at most 4,294,967,295
unfoldable pub number_of : List ℕ → Option ℕ
number_of word =
    cond (eqb (length word) 0) None
    (cond (ltb 10 (length word)) None
    (cond (has_leading_zero word) None
    (as_number (decimal_value 0 word))))

-- a number of 32 bits is read back from the digits that are written for it
abbrev pub NumbersReadBack : Type 0
NumbersReadBack = (n : ℕ) → n ≤ 4294967295 → number_of (digits n) ≡ Some n

-- a number before numbers
abbrev pub followed_by : Option ℕ → Option (List ℕ) → Option (List ℕ)
followed_by None ns = None
followed_by (Some n) None = None
followed_by (Some n) (Some ns) = Some (n ∷ ns)

-- the numbers of words, where each is a number
unfoldable pub numbers_of : List (List ℕ) → Option (List ℕ)
numbers_of [] = Some []
numbers_of (word ∷ words) = followed_by (number_of word) (numbers_of words)
