-- One more declaration behind others.
use Rattle.std.proofs.Common.{◌≡◌, ℕ, List, [], ◌∷◌, ◌++◌, Some, cond, refl, sym, ap, ◌∙◌}
use Rattle.std.specs.Borrow.{Bor}
use Rattle.indexmap.specs.IndexMap.{IndexMap, get_by}
use Rattle.iv_words.specs.Words.{same_word}
use Rattle.name_tables.specs.declared.table.Declared.{Declared}
use Rattle.name_tables.specs.Latest.{latest}
use Rattle.name_tables.specs.Tables.{declared_in, Agree}

more_behind : {T : Type 0} (ds : List (List ℕ × T)) (es : List (Declared T)) (e : Declared T) → declared_in ds (es ++ e ∷ []) ≡ (e.name.now, e.value) ∷ declared_in ds es
more_behind ds [] e = refl
more_behind ds (x ∷ es) e = more_behind ((x.name.now, x.value) ∷ ds) es e

pub declared_more : {T : Type 0} (es now : List (Declared T)) (e : Declared T) → now ≡ es ++ e ∷ [] → declared_in [] now ≡ (e.name.now, e.value) ∷ declared_in [] es
declared_more es now e is = ap (declared_in []) is ∙ more_behind [] es e

pub agree_more : {T S : Type 0} (hashed after : IndexMap (Bor (List ℕ)) T S) (es now : List (Declared T)) (e : Declared T) → now ≡ es ++ e ∷ [] → Agree hashed (declared_in [] es)
    → ((q : Bor (List ℕ)) → get_by (λ k. same_word q.now k.now) after ≡ cond (same_word e.name.now q.now) (Some e.value) (get_by (λ k. same_word q.now k.now) hashed))
    → Agree after (declared_in [] now)
agree_more hashed after es now e is before puts q =
    puts q ∙ ap (cond (same_word e.name.now q.now) (Some e.value)) (before q) ∙ sym (ap (λ ds. latest ds q.now) (declared_more es now e is))
