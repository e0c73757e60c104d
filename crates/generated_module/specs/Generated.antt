-- The text of a module of as many procedures as is wanted, that all add to one area, and of one that calls them in order.
use Rattle.std.specs.Prelude.{ℕ, zero, suc, List, [], ◌∷◌, ◌++◌, codes}
use Rattle.std.specs.Fmt.{decimal}

abbrev pub line : List ℕ → List ℕ
line text = text ++ 10 ∷ []

-- the procedure of a number
abbrev pub procedure : ℕ → List ℕ
procedure i = line (codes "proc p" ++ decimal i ++ codes "(x : uint32_t) { let y = x % 97 + " ++ decimal i ++ codes "; *acc = *acc *% 31 +% y; }")

-- a call of it
abbrev pub call : ℕ → List ℕ
call i = line (codes "  p" ++ decimal i ++ codes "(x);")

-- the texts of the numbers below a number, in order
abbrev pub texts_below : (ℕ → List ℕ) → ℕ → List ℕ
texts_below text zero = []
texts_below text (suc n) = texts_below text n ++ text n

abbrev pub generated : ℕ → List ℕ
generated k =
    line (codes "module big;") ++ line (codes "area acc : uint32_t;")
    ++ texts_below procedure k
    ++ line (codes "export proc all(x : uint32_t) -> uint32_t {")
    ++ texts_below call k
    ++ line (codes "  return *acc;") ++ line (codes "}")
