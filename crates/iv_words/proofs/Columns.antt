-- What one more byte does to the column.
use Rattle.std.proofs.Common.{◌≡◌, refl, ℕ, ◌+◌, ◌<◌, List, [], ◌∷◌, length, take, get_or, nat_eq, if◌then◌else◌, reverse}
use Rattle.std.proofs.lemmas.List.{reverse-append, take_more}
use Rattle.iv_words.specs.Lines.{before_line_end}

pub one_more : (text : List ℕ) (i : ℕ) (d : ℕ) → i < length text →
    before_line_end (reverse (take (i + 1) text)) ≡ (if nat_eq 10 (get_or text i d) then 0 else 1 + before_line_end (reverse (take i text)))
one_more text i d small = rw (take_more text i d small) (rw (reverse-append (take i text) (get_or text i d ∷ [])) refl)
