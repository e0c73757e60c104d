-- What a table of numbers holds.
use Rattle.std.specs.Prelude.{◌≡◌, ℕ, List}
use Rattle.std.specs.List.{position_from}
use Rattle.indexmap.specs.IndexMap.{IndexMap, get_by}
use Rattle.iv_words.specs.Words.{same_word}

-- the number of each name's first place
abbrev pub NumbersOf : {S : Type 0} → IndexMap (List ℕ) ℕ S → List (List ℕ) → Type 0
NumbersOf numbers names = (q : List ℕ) → get_by (λ k. same_word q k) numbers ≡ position_from (λ n. same_word n q) 0 names
