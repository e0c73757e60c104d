-- Tables of names, no two of which are the same.
use Rattle.std.proofs.Common.{◌≡◌, ◌≢◌, ℕ, zero, suc, ◌+◌, ◌<◌, nat_lt, Bool, true, false, not, cond, List, [], ◌∷◌, ◌++◌, length, take, get_or, Some, None, Contains, refl, sym, ap, ◌∙◌, subst, arith, lt-ltb}
use Rattle.std.proofs.lemmas.Bool.{ltb-true, not-false, not-true}
use native.Mathlib.Decide.{dec_lt}
use Rattle.std.specs.List.{position_or_len}
use Rattle.std.specs.Cmp.Lexicographic.{same_text}
use Rattle.std.proofs.lemmas.Cmp.{nat_list_eq_equiv}
use Rattle.std.proofs.lemmas.List.Quantifiers.{all_pairs_push}
use Rattle.std.proofs.lemmas.List.Sums.{prefix_len_passes, prefix_len_stops}
use Rattle.std.proofs.lemmas.Map.Views.{list_any-from_Contains}
use Rattle.indexmap.proofs.CallerLemmas.{Contains-list_any}
use Rattle.iv_words.specs.Words.{same_word}
use Rattle.first_form.specs.Valid.{AllDifferent}
use Rattle.first_form.specs.Tables.{place_of, is_noted, noted}
use Rattle.first_form.proofs.Lists.{taken_more}

same_is : (a b : List ℕ) → same_word a b ≡ true → a ≡ b
same_is a b e = same_text a b (sym e)

pub contains_noted : (name : List ℕ) (names : List (List ℕ)) → is_noted name names ≡ true → Contains names name
contains_noted name names e = Contains-list_any same_word same_is names name e

pub noted_contained : (name : List ℕ) (names : List (List ℕ)) → Contains names name → is_noted name names ≡ true
noted_contained name names c = list_any-from_Contains nat_list_eq_equiv name names c

pub get_taken : (names : List (List ℕ)) (i k : ℕ) (d : List ℕ) → k < length (take i names) → (get_or (take i names) k d ≡ get_or names k d) × (k < i) × (k < length names)
get_taken [] zero k d h = absurd (omega arith)
get_taken [] (suc i) k d h = absurd (omega arith)
get_taken (n ∷ names) zero k d h = absurd (omega arith)
get_taken (n ∷ names) (suc i) zero d h = (refl, omega arith, omega arith)
get_taken (n ∷ names) (suc i) (suc k) d h = let w = get_taken names i k d (omega arith) in (w.0, omega (arith, w.1), omega (arith, w.2))

-- ---- one more name

unused : (name : List ℕ) (names : List (List ℕ)) → is_noted name names ≡ false → (k : ℕ) (d : List ℕ) → k < length names → get_or names k d ≢ name
unused name names e k d h same = let no = noted_contained name names (k, h, get_any names k d name h ∙ same) in cc
  where
    get_any : (names : List (List ℕ)) (k : ℕ) (d e : List ℕ) → k < length names → get_or names k e ≡ get_or names k d
    get_any [] k d e h = absurd (omega arith)
    get_any (n ∷ names) zero d e h = refl
    get_any (n ∷ names) (suc k) d e h = get_any names k d e (omega arith)

pub record Table (names : List (List ℕ)) (i : ℕ) (table : List (List ℕ)) : Type 0 where
  pub same : table ≡ take i names
  pub different : AllDifferent (take i names)

pub table_more : (names : List (List ℕ)) (i : ℕ) (table now : List (List ℕ)) (name : List ℕ) → Table names i table → i < length names → name ≡ get_or names i name
    → is_noted name table ≡ false → now ≡ noted table name → Table names (i + 1) now
table_more names i table now name t h e fresh f =
    let more : take (i + 1) names ≡ take i names ++ name ∷ [] = taken_more names i name h e in
    record {
      same = f ∙ ap (λ b. cond b table (table ++ name ∷ [])) fresh ∙ ap (λ x. x ++ name ∷ []) t.same ∙ sym more;
      different = subst (λ x. AllDifferent x) (sym more) (all_pairs_push (λ a b. a ≢ b) (take i names) name t.different
          (unused name (take i names) (ap (is_noted name) (sym t.same) ∙ fresh)));
    }

pub table_refused : (names : List (List ℕ)) (i : ℕ) (table : List (List ℕ)) (name : List ℕ) → Table names i table → i < length names → name ≡ get_or names i name
    → is_noted name table ≡ true → AllDifferent names → ⊥
table_refused names i table name t h e used all =
    let c = contains_noted name (take i names) (ap (is_noted name) (sym t.same) ∙ used) in
    let w = get_taken names i c.0 name c.1 in
    all c.0 i name w.1 h (sym w.0 ∙ c.2 ∙ e)

-- ---- places

pub place_stops : (name : List ℕ) (names : List (List ℕ)) (k : ℕ) (d : List ℕ) → place_of name names ≡ Some k → (k < length names) × (get_or names k d ≡ name)
place_stops name names k d e = at (nat_lt (position_or_len (same_word name) names) (length names)) refl e
  where
    at : (b : Bool) → nat_lt (position_or_len (same_word name) names) (length names) ≡ b → cond b (Some (position_or_len (same_word name) names)) None ≡ Some k → (k < length names) × (get_or names k d ≡ name)
    at false i h = absurd cc
    at true i h =
        let here : position_or_len (same_word name) names ≡ k = cc in
        let within = ltb-true (position_or_len (same_word name) names) (length names) i in
        let stops = not-false (same_word name (get_or names (position_or_len (same_word name) names) d)) (prefix_len_stops (λ x. not (same_word name x)) names d within) in
        (omega (arith, here, within), sym (same_is name (get_or names k d) (ap (λ n. same_word name (get_or names n d)) (sym here) ∙ stops)))

same_self : (a : List ℕ) → same_word a a ≡ true
same_self a = nat_list_eq_equiv.refl a

-- where no two names are the same, a name stands at one place
pub place_is : (name : List ℕ) (names : List (List ℕ)) (k : ℕ) → AllDifferent names → k < length names → get_or names k name ≡ name → place_of name names ≡ Some k
place_is name names k all h e =
    ap (λ n. cond (nat_lt n (length names)) (Some n) None) here ∙ ap (λ b. cond b (Some k) None) (lt-ltb k (length names) h)
  where
    n : ℕ
    n = position_or_len (same_word name) names

    not_later : k < n → ⊥
    not_later lt =
        let passes = not-true (same_word name (get_or names k name)) (prefix_len_passes (λ x. not (same_word name x)) names k name lt) in
        let is = ap (same_word name) e ∙ same_self name in
        cc

    not_earlier : n < k → ⊥
    not_earlier lt =
        let stops = not-false (same_word name (get_or names n name)) (prefix_len_stops (λ x. not (same_word name x)) names name (omega (arith, lt, h))) in
        all n k name lt h (sym (same_is name (get_or names n name) stops) ∙ sym e)

    here : n ≡ k
    here = elim (dec_lt k n) [ yes lt ↦ absurd (not_later lt) | no ge ↦ elim (dec_lt n k) [ yes lt ↦ absurd (not_earlier lt) | no le ↦ omega arith ] ]
