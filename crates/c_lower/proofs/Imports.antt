-- The extern of an import is the first of its name.
use Rattle.std.proofs.Common.{◌≡◌, ◌≢◌, ℕ, zero, suc, Bool, true, cond, List, [], ◌∷◌, ◌++◌, map, Some, ◌∙◌, ap, subst}
use Rattle.std.specs.Prelude.{slice_get, AllPairs}
use Rattle.std.specs.List.{find}
use Rattle.iv_words.specs.Words.{same_word}
use Rattle.first_form.specs.declared.FirstImport.{FirstImport}
use Rattle.c_ast.specs.declared.CExtern.{CExtern}
use Rattle.c_ast.specs.Names.{prefixed}
use Rattle.c_lower.specs.Shape.{extern_for}
use Rattle.c_lower.proofs.Lists.{some_is, pairs_head, pairs_tail, at_place}
use Rattle.c_lower.proofs.Words.{same_self, same_not}

abbrev pub has_name : List ℕ → CExtern → Bool
has_name name x = same_word x.name name

-- the first extern of a name, where it is found at the head, and where it is not
at_head : (j i : FirstImport) (xs : List CExtern) → j ≡ i → find (has_name (prefixed i.name)) (extern_for j ∷ xs) ≡ Some (extern_for i)
at_head j i xs e =
    let same : same_word j.name i.name ≡ true = subst (λ z. same_word j.name z.name ≡ true) e (same_self j.name) in
    ap (λ b. cond b (Some (extern_for j)) (find (has_name (prefixed i.name)) xs)) same ∙ ap (λ z. Some (extern_for z)) e

past_head : (j i : FirstImport) (xs : List CExtern) → j.name ≢ i.name → find (has_name (prefixed i.name)) (extern_for j ∷ xs) ≡ find (has_name (prefixed i.name)) xs
past_head j i xs differ = ap (λ b. cond b (Some (extern_for j)) (find (has_name (prefixed i.name)) xs)) (same_not j.name i.name differ)

module _ (rest : List (List ℕ)) where
  abbrev Names : List FirstImport → List (List ℕ)
  Names imports = map (λ i. i.name) imports ++ rest

  abbrev Different : List ℕ → List ℕ → Type 0
  Different a b = a ≢ b

  pub found : (imports : List FirstImport) → AllPairs Different (Names imports) → (k : ℕ) (i : FirstImport) → slice_get imports k ≡ Some i → find (has_name (prefixed i.name)) (map extern_for imports) ≡ Some (extern_for i)
  found [] h k i e = let no : ⊥ = cc in absurd no
  found (j ∷ js) h zero i e = at_head j i (map extern_for js) (some_is j i e)
  found (j ∷ js) h (suc k) i e =
      past_head j i (map extern_for js) (at_place (λ i. i.name) rest (Different j.name) js (pairs_head Different j.name (Names js) h) k i e)
      ∙ found js (pairs_tail Different j.name (Names js) h) k i e
