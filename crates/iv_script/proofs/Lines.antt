-- One line of a script: its values one after another, and what a fault among them makes of the line.
use Rattle.std.proofs.Common.{◌≡◌, refl, sym, ◌∙◌, ap, ℕ, List, [], ◌∷◌, ◌++◌, append_assoc}
use Rattle.std.specs.Prelude.{ℤ, Option, Some, None}
use Rattle.std.proofs.lemmas.List.{append-nil}
use Rattle.iv_base.specs.Numbers.{number_of}
use Rattle.iv_script.specs.ScriptText.{words, with_first, numbers}

-- values that were read, before those that the rest gives
abbrev pub joined : List ℤ → Option (List ℤ) → Option (List ℤ)
joined values None = None
joined values (Some more) = Some (values ++ more)

joined_one : (values : List ℤ) (v : ℤ) (o : Option (List ℤ)) → joined values (with_first (Some v) o) ≡ joined (values ++ v ∷ []) o
joined_one values v None = refl
joined_one values v (Some more) = ap Some (sym (append_assoc values (v ∷ []) more))

pub number_more : (values : List ℤ) (rest word more : List ℕ) (v : ℤ) → words rest ≡ word ∷ words more → Some v ≡ number_of word
    → joined values (numbers (words rest)) ≡ joined (values ++ v ∷ []) (numbers (words more))
number_more values rest word more v is number =
    ap (λ ws. joined values (numbers ws)) is ∙ ap (λ o. joined values (with_first o (numbers (words more)))) (sym number) ∙ joined_one values v (numbers (words more))

pub no_number : (values : List ℤ) (rest word more : List ℕ) → words rest ≡ word ∷ words more → None ≡ number_of word → joined values (numbers (words rest)) ≡ None
no_number values rest word more is number =
    ap (λ ws. joined values (numbers ws)) is ∙ ap (λ o. joined values (with_first o (numbers (words more)))) (sym number)

pub numbers_done : (values : List ℤ) (rest : List ℕ) → words rest ≡ [] → joined values (numbers (words rest)) ≡ Some values
numbers_done values rest none = ap (λ ws. joined values (numbers ws)) none ∙ ap Some (append-nil values)
