-- One more name in a row.
use Rattle.std.proofs.Common.{◌≡◌, ℕ, suc, ◌+◌, Bool, true, false, List, [], ◌∷◌, ◌++◌, length, Some, None, Option, cond, map, refl, sym, ap, ◌∙◌, if◌then◌else◌, arith}
use Rattle.std.specs.Borrow.{Bor}
use Rattle.std.proofs.lemmas.List.{map-append, length-map}
use Rattle.indexmap.specs.IndexMap.{IndexMap, get_by}
use Rattle.iv_words.specs.Words.{same_word}
use Rattle.iv_words.proofs.Equality.{same_equal}
use Rattle.name_tables.specs.FirstPlaces.{first_from, Placed}

abbrev or_else : Option ℕ → Option ℕ → Option ℕ
or_else None other = other
or_else (Some p) other = Some p

or_none : (o : Option ℕ) → or_else o None ≡ o
or_none None = refl
or_none (Some p) = refl

one_more : (k : ℕ) (ns : List (List ℕ)) (name q : List ℕ) → first_from k (ns ++ name ∷ []) q ≡ or_else (first_from k ns q) (if same_word name q then Some (k + length ns) else None)
one_more k [] name q = ap (λ p. if same_word name q then Some p else None) (omega arith)
one_more k (n ∷ ns) name q = at (same_word n q) (one_more (suc k) ns name q ∙ ap (λ p. or_else (first_from (suc k) ns q) (if same_word name q then Some p else None)) (omega arith))
  where
    at : (b : Bool) → first_from (suc k) (ns ++ name ∷ []) q ≡ or_else (first_from (suc k) ns q) (if same_word name q then Some (k + suc (length ns)) else None)
        → (if b then Some k else first_from (suc k) (ns ++ name ∷ []) q) ≡ or_else (if b then Some k else first_from (suc k) ns q) (if same_word name q then Some (k + suc (length ns)) else None)
    at true rest = refl
    at false rest = rest

there_already : (ns : List (List ℕ)) (name q : List ℕ) (p : ℕ) → first_from 0 ns name ≡ Some p → (b : Bool) → same_word name q ≡ b
    → first_from 0 ns q ≡ or_else (first_from 0 ns q) (if b then Some (0 + length ns) else None)
there_already ns name q p there true same = let found : first_from 0 ns q ≡ Some p = ap (first_from 0 ns) (sym (same_equal name q same)) ∙ there in found ∙ sym (ap (λ o. or_else o (Some (0 + length ns))) found)
there_already ns name q p there false same = sym (or_none (first_from 0 ns q))

new_one : (ns : List (List ℕ)) (name q : List ℕ) → first_from 0 ns name ≡ None → (b : Bool) → same_word name q ≡ b
    → cond b (Some (length ns)) (first_from 0 ns q) ≡ or_else (first_from 0 ns q) (if b then Some (0 + length ns) else None)
new_one ns name q absent true same =
    let none : first_from 0 ns q ≡ None = ap (first_from 0 ns) (sym (same_equal name q same)) ∙ absent in
    ap Some (omega arith) ∙ sym (ap (λ o. or_else o (Some (0 + length ns))) none)
new_one ns name q absent false same = sym (or_none (first_from 0 ns q))

pub names_more : (ns now : List (Bor (List ℕ))) (name : Bor (List ℕ)) → now ≡ ns ++ name ∷ [] → map (λ n. n.now) now ≡ map (λ n. n.now) ns ++ name.now ∷ []
names_more ns now name is = ap (map (λ n. n.now)) is ∙ map-append (λ n. n.now) ns (name ∷ [])

module _ {S : Type 0} where
  pub placed_already : (places : IndexMap (Bor (List ℕ)) ℕ S) (ns now : List (Bor (List ℕ))) (name : Bor (List ℕ)) (before : Option ℕ) (p : ℕ) → now ≡ ns ++ name ∷ [] → Placed places (map (λ n. n.now) ns)
      → before ≡ get_by (λ k. same_word name.now k.now) places → before ≡ Some p → Placed places (map (λ n. n.now) now)
  placed_already places ns now name before p is was found there q =
      let names : List (List ℕ) = map (λ n. n.now) ns in
      was q ∙ there_already names name.now q.now p (sym (was name) ∙ sym found ∙ there) (same_word name.now q.now) refl
      ∙ sym (ap (λ xs. first_from 0 xs q.now) (names_more ns now name is) ∙ one_more 0 names name.now q.now)

  pub placed_more : (places after : IndexMap (Bor (List ℕ)) ℕ S) (ns now : List (Bor (List ℕ))) (name : Bor (List ℕ)) (before : Option ℕ) (count : ℕ) → now ≡ ns ++ name ∷ [] → Placed places (map (λ n. n.now) ns)
      → before ≡ get_by (λ k. same_word name.now k.now) places → before ≡ None → count ≡ length ns
      → ((q : Bor (List ℕ)) → get_by (λ k. same_word q.now k.now) after ≡ cond (same_word name.now q.now) (Some count) (get_by (λ k. same_word q.now k.now) places))
      → Placed after (map (λ n. n.now) now)
  placed_more places after ns now name before count is was found absent counted puts q =
      let names : List (List ℕ) = map (λ n. n.now) ns in
      puts q ∙ ap (λ n. cond (same_word name.now q.now) (Some n) (get_by (λ k. same_word q.now k.now) places)) (counted ∙ sym (length-map ns (λ n. n.now)))
      ∙ ap (cond (same_word name.now q.now) (Some (length names))) (was q)
      ∙ new_one names name.now q.now (sym (was name) ∙ sym found ∙ absent) (same_word name.now q.now) refl
      ∙ sym (ap (λ xs. first_from 0 xs q.now) (names_more ns now name is) ∙ one_more 0 names name.now q.now)
