-- Rows of values with others before them, and the numbers that are left behind values.
use Rattle.std.proofs.Common.{◌≡◌, ℕ, suc, ◌+◌, ◌*◌, ◌<◌, ℤ, List, [], ◌∷◌, ◌++◌, length, map, drop, get_or, refl, ap, sym, ◌∙◌, arith, suc-mul}
use Rattle.std.proofs.lemmas.List.{drop-drop}
use Rattle.std.proofs.Math.Seq.{drop-cons}
use Rattle.type_trees.specs.Trees.{Field, count, count_row}
use Rattle.type_trees.specs.Values.{Value, Values, Nil, Cons}
use Rattle.area_types.specs.Trees as trees
use Rattle.core_meaning.specs.Areas.{filled, filled_each, filled_row}
use Rattle.core_state.specs.Types.{written_of, fields_from, row_of}
use Rattle.core_state.specs.declared.written.Written.{Written}

-- values in front of a row
abbrev pub row_with : List (Value ℤ) → Values ℤ → Values ℤ
row_with [] row = row
row_with (v ∷ vs) row = Cons v (row_with vs row)

pub one_before : (vs : List (Value ℤ)) (v : Value ℤ) (row : Values ℤ) → row_with (vs ++ v ∷ []) row ≡ row_with vs (Cons v row)
one_before [] v row = refl
one_before (u ∷ vs) v row = ap (Cons u) (one_before vs v row)

pub all_before : (vs : List (Value ℤ)) → row_with vs Nil ≡ row_of vs
all_before [] = refl
all_before (v ∷ vs) = ap (Cons v) (all_before vs)

-- ---- elements

pub element_more : (a : trees.Written) (many less : ℕ) (front : List (Value ℤ)) (h : Value ℤ) (rest new : List ℤ) (whole : Values ℤ) → many ≡ suc less → h ≡ filled a rest → new ≡ drop (count a) rest
    → row_with front (filled_each many (count a) (filled a) rest) ≡ whole → row_with (front ++ h ∷ []) (filled_each less (count a) (filled a) new) ≡ whole
element_more a many less front h rest new whole e is left inv =
    one_before front h (filled_each less (count a) (filled a) new)
    ∙ ap (λ v. row_with front (Cons v (filled_each less (count a) (filled a) new))) is
    ∙ ap (λ r. row_with front (Cons (filled a rest) (filled_each less (count a) (filled a) r))) left
    ∙ ap (λ n. row_with front (filled_each n (count a) (filled a) rest)) (sym e) ∙ inv

pub element_behind : (many less size : ℕ) (rest new whole : List ℤ) → many ≡ suc less → new ≡ drop size rest → drop (many * size) rest ≡ whole → drop (less * size) new ≡ whole
element_behind many less size rest new whole e is inv =
    let all : size + less * size ≡ suc less * size = omega (arith, suc-mul less size) in
    ap (drop (less * size)) is ∙ drop-drop (less * size) size rest ∙ ap (λ k. drop k rest) all ∙ ap (λ n. drop (n * size) rest) (sym e) ∙ inv

-- ---- fields

-- those from a place on
abbrev pub row_from : ℕ → List Written → trees.WrittenRow
row_from i fields = fields_from i (map written_of (drop i fields))

pub field_here : (fields : List Written) (i : ℕ) (x : Written) → i < length fields → x ≡ get_or fields i x → row_from i fields ≡ Field i (written_of x) (row_from (i + 1) fields)
field_here fields i x h is = let e : suc i ≡ i + 1 = omega arith in
    ap (λ xs. fields_from i (map written_of xs)) (drop-cons fields i x h ∙ ap (λ y. y ∷ drop (suc i) fields) (sym is))
    ∙ ap (λ k. Field i (written_of x) (fields_from k (map written_of (drop k fields)))) e

pub field_more : (row next : trees.WrittenRow) (i : ℕ) (a : trees.Written) (front : List (Value ℤ)) (h : Value ℤ) (rest new : List ℤ) (whole : Values ℤ) → row ≡ Field i a next → h ≡ filled a rest → new ≡ drop (count a) rest
    → row_with front (filled_row row rest) ≡ whole → row_with (front ++ h ∷ []) (filled_row next new) ≡ whole
field_more row next i a front h rest new whole e is left inv =
    one_before front h (filled_row next new) ∙ ap (λ v. row_with front (Cons v (filled_row next new))) is ∙ ap (λ r. row_with front (Cons (filled a rest) (filled_row next r))) left
    ∙ ap (λ r. row_with front (filled_row r rest)) (sym e) ∙ inv

pub field_behind : (row next : trees.WrittenRow) (i : ℕ) (a : trees.Written) (rest new whole : List ℤ) → row ≡ Field i a next → new ≡ drop (count a) rest → drop (count_row row) rest ≡ whole → drop (count_row next) new ≡ whole
field_behind row next i a rest new whole e is inv =
    ap (drop (count_row next)) is ∙ drop-drop (count_row next) (count a) rest ∙ ap (λ r. drop (count_row r) rest) (sym e) ∙ inv
