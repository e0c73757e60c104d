-- The number that a decimal text stands for: perhaps `-`, and then one to 39 digits. Only an i128 is read.
use Rattle.std.specs.Prelude.{ℕ, ◌+◌, ◌-◌, ◌*◌, ℤ, pos, ◌-ℤ◌, Bool, true, ◌&&◌, if◌then◌else◌, int_le, nat_eq, nat_lt, List, [], ◌∷◌, length, Option, Some, None}
use Rattle.std.specs.Char.{is_ascii_digit}
use Rattle.std.specs.List.{list_all, fold}
use Rattle.iv_words.specs.Kinds.{least_of, greatest_of}

abbrev pub are_digits : List ℕ → Bool
are_digits bs = nat_lt 0 (length bs) && nat_lt (length bs) 40 && list_all is_ascii_digit bs

-- the value of digits in base ten; byte 48 is `0`
abbrev pub value : List ℕ → ℕ
value bs = fold (λ n b. 10 * n + (b - 48)) 0 bs

abbrev pub unsigned : List ℕ → Option ℕ
unsigned bs = if are_digits bs then Some (value bs) else None

abbrev pub is_i128 : ℤ → Bool
is_i128 v = int_le (least_of 128 true) v && int_le v (greatest_of 128 true)

abbrev pub narrowed : ℤ → Option ℤ
narrowed v = if is_i128 v then Some v else None

abbrev pub positive : Option ℕ → Option ℤ
positive None = None
positive (Some n) = narrowed (pos n)

abbrev pub negative : Option ℕ → Option ℤ
negative None = None
negative (Some n) = narrowed (pos 0 -ℤ pos n)

-- byte 45 is `-`
abbrev pub number_of : List ℕ → Option ℤ
number_of [] = None
number_of (b ∷ bs) = if nat_eq 45 b then negative (unsigned bs) else positive (unsigned (b ∷ bs))
