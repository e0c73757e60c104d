-- The places of names in a row: of two of a name the first counts.
use Rattle.std.specs.Prelude.{◌≡◌, ℕ, suc, List, [], ◌∷◌, Option, Some, None, if◌then◌else◌}
use Rattle.std.specs.Borrow.{Bor}
use Rattle.indexmap.specs.IndexMap.{IndexMap, get_by}
use Rattle.iv_words.specs.Words.{same_word}

-- the place of the first of a name, where the first of these has place k
abbrev pub first_from : ℕ → List (List ℕ) → List ℕ → Option ℕ
first_from k [] name = None
first_from k (n ∷ ns) name = if same_word n name then Some k else first_from (suc k) ns name

-- the map has the place of each name
abbrev pub Placed : {S : Type 0} → IndexMap (Bor (List ℕ)) ℕ S → List (List ℕ) → Type 0
Placed places ns = (q : Bor (List ℕ)) → get_by (λ k. same_word q.now k.now) places ≡ first_from 0 ns q.now
