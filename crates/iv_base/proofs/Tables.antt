-- A table that is filled from the last file to the first has the first file of each name.
use Rattle.std.proofs.Common.{◌≡◌, refl, sym, ◌∙◌, ap, ℕ, List, [], ◌∷◌, ◌++◌, Bool, true, false, if◌then◌else◌, nat_eq}
use Rattle.std.specs.Prelude.{Option, Some, None}
use Rattle.std.specs.Cmp.Lexicographic.{pointwise}
use Rattle.iv_base.specs.Stores.{file_of, with_first}
use Rattle.iv_base.specs.declared.store.File.{File}

-- the first of the two that is there
abbrev pub or_else : Option (List ℕ) → Option (List ℕ) → Option (List ℕ)
or_else None b = b
or_else (Some a) b = Some a

picked : (t : Bool) (x : List ℕ) (b : Option (List ℕ)) → or_else (if t then Some x else None) b ≡ (if t then Some x else b)
picked true x b = refl
picked false x b = refl

passed : (t : Bool) (x : List ℕ) (r s b c : Option (List ℕ)) → or_else r b ≡ or_else s c → or_else (if t then Some x else r) b ≡ or_else (if t then Some x else s) c
passed true x r s b c e = refl
passed false x r s b c e = e

pub last_file : (fs : List File) (f : File) (q : List ℕ) (b : Option (List ℕ)) →
    or_else (file_of (fs ++ f ∷ []) q) b ≡ or_else (file_of fs q) (with_first f (λ _. b) q)
last_file [] f q b = picked (pointwise nat_eq f.name q) f.bytes b
last_file (g ∷ fs) f q b = passed (pointwise nat_eq g.name q) g.bytes _ _ b _ (last_file fs f q b)

-- the last file goes from the list into the table, and all names stand for what they stood for
pub moved : (before now : List File) (f : File) (table grown whole : List ℕ → Option (List ℕ)) → before ≡ now ++ f ∷ [] →
    ((q : List ℕ) → grown q ≡ with_first f table q) →
    ((q : List ℕ) → or_else (file_of before q) (table q) ≡ whole q) →
    (q : List ℕ) → or_else (file_of now q) (grown q) ≡ whole q
moved before now f table grown whole last put same q =
    ap (or_else (file_of now q)) (put q) ∙ sym (last_file now f q (table q)) ∙ ap (λ fs. or_else (file_of fs q) (table q)) (sym last) ∙ same q
