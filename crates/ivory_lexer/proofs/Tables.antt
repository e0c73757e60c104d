-- Looking a text up in a table.
use Rattle.std.proofs.Common.{◌≡◌, ℕ, ◌&&◌, ◌==◌, Bool, true, false, List, [], ◌∷◌, length, Option, Some, None, cond, refl, sym, ap, ◌∙◌}
use Rattle.std.specs.Prelude.{bytes_eq}
use Rattle.std.specs.List.{list_all}
use Rattle.std.proofs.lemmas.Slice.Eq.{bytes_eq-Decides}
use Rattle.std.proofs.lemmas.Bool.{eq-eqb}
use Rattle.ivory_lexer.specs.Table.{look_up}
use Rattle.ivory_lexer.specs.Scanning.{of_length}

-- a text that fails a test which every row passes is in no row
pub look_up_none : {A : Type 0} (p : List ℕ → Bool) (rows : List (List ℕ × A)) (text : List ℕ) → list_all (λ row. p row.0) rows ≡ true → p text ≡ false → look_up rows text ≡ None
look_up_none p [] text h fails = refl
look_up_none {A} p (row ∷ rows) text h fails = at (p row.0) refl h (λ g. look_up_none p rows text g fails)
  where
    found : p row.0 ≡ true → (t : Bool) → bytes_eq text row.0 ≡ t → look_up rows text ≡ None → cond {A = Option A} t (Some row.1) (look_up rows text) ≡ None
    found passes true e ih = let same = (bytes_eq-Decides text row.0).0 e in let clash : p text ≡ true = ap p same ∙ passes in absurd cc
    found passes false e ih = ih

    at : (t : Bool) → p row.0 ≡ t → (t && list_all (λ row. p row.0) rows) ≡ true → (list_all (λ row. p row.0) rows ≡ true → look_up rows text ≡ None) → look_up (row ∷ rows) text ≡ None
    at true e h ih = found e (bytes_eq text row.0) refl (ih h)
    at false e h ih = absurd cc

-- a text is looked up among the rows of its length
pub look_up_of_length : {A : Type 0} (rows : List (List ℕ × A)) (text : List ℕ) (n : ℕ) → length text ≡ n → look_up (of_length n rows) text ≡ look_up rows text
look_up_of_length [] text n h = refl
look_up_of_length {A} (row ∷ rows) text n h = at (length row.0 == n) refl (look_up_of_length rows text n h)
  where
    other : length row.0 == n ≡ false → (t : Bool) → bytes_eq text row.0 ≡ t → look_up rows text ≡ cond {A = Option A} t (Some row.1) (look_up rows text)
    other apart true e = let same = (bytes_eq-Decides text row.0).0 e in let clash : (length row.0 == n) ≡ true = eq-eqb (length row.0) n (sym (ap length same) ∙ h) in absurd cc
    other apart false e = refl

    at : (t : Bool) → length row.0 == n ≡ t → look_up (of_length n rows) text ≡ look_up rows text
        → look_up (cond t (row ∷ of_length n rows) (of_length n rows)) text ≡ look_up (row ∷ rows) text
    at true e ih = ap (λ o. cond {A = Option A} (bytes_eq text row.0) (Some row.1) o) ih
    at false e ih = ih ∙ other e (bytes_eq text row.0) refl
