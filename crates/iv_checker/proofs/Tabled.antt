-- A table that grows by structs each of which fits after those before it.
use Rattle.std.proofs.Common.{◌≡◌, ℕ, ◌+◌, ◌<◌, List, [], ◌∷◌, ◌++◌, length, get_or, take, drop, map, IsTrue, sym, ap, ◌∙◌, subst, append_assoc}
use Rattle.std.proofs.lemmas.List.{take_more, map-append}
use Rattle.area_types.specs.Syntax.{StructType}
use Rattle.area_types.specs.Tables.{Table, structs_of, fits_after, fit_after}
use Rattle.area_types.specs.View.{struct_of}
use Rattle.area_types.specs.declared.StructDef.{StructDef}
use Rattle.area_types.proofs.Truths.{both}
use Rattle.item_rules.proofs.Steps.{rest_of}

-- the rest, after the structs of a table
abbrev pub RestFits : Table → List StructDef → Type 0
RestFits t rest = IsTrue (fit_after (structs_of t) t.words (map struct_of rest))

next_and_rest : (t : Table) (structs : List StructDef) (i : ℕ) (x : StructDef) → i < length structs → x ≡ get_or structs i x → RestFits t (drop i structs)
    → IsTrue (fits_after (structs_of t) t.words (struct_of x)) × IsTrue (fit_after (structs_of t ++ struct_of x ∷ []) t.words (map struct_of (drop (i + 1) structs)))
next_and_rest t structs i x h e fit =
    both (fits_after (structs_of t) t.words (struct_of x)) (fit_after (structs_of t ++ struct_of x ∷ []) t.words (map struct_of (drop (i + 1) structs)))
    (subst (λ (ss : List StructType). IsTrue (fit_after (structs_of t) t.words ss)) (rest_of struct_of structs i x h e) fit)

pub next_fits : (t : Table) (structs : List StructDef) (i : ℕ) (x y : StructDef) → i < length structs → x ≡ get_or structs i x → y ≡ x → RestFits t (drop i structs) → IsTrue (fits_after (structs_of t) t.words (struct_of y))
next_fits t structs i x y h e c fit = subst (λ (d : StructDef). IsTrue (fits_after (structs_of t) t.words (struct_of d))) (sym c) (next_and_rest t structs i x h e fit).0

pub rest_fits : (t new : Table) (structs : List StructDef) (i : ℕ) (x y : StructDef) → i < length structs → x ≡ get_or structs i x → y ≡ x → RestFits t (drop i structs) → new ≡ record t { structs = t.structs ++ y ∷ [] }
    → RestFits new (drop (i + 1) structs)
rest_fits t new structs i x y h e c fit is =
    let grown : structs_of (record t { structs = t.structs ++ y ∷ [] }) ≡ structs_of t ++ struct_of x ∷ [] =
    map-append struct_of t.structs (y ∷ []) ∙ ap (λ (d : StructDef). structs_of t ++ struct_of d ∷ []) c in
    let there : RestFits (record t { structs = t.structs ++ y ∷ [] }) (drop (i + 1) structs) =
    subst (λ (ss : List StructType). IsTrue (fit_after ss t.words (map struct_of (drop (i + 1) structs)))) (sym grown) (next_and_rest t structs i x h e fit).1 in
    subst (λ (z : Table). RestFits z (drop (i + 1) structs)) (sym is) there

pub front_grows : (first now new structs : List StructDef) (i : ℕ) (x y : StructDef) → i < length structs → x ≡ get_or structs i x → y ≡ x → now ≡ first ++ take i structs → new ≡ now ++ y ∷ [] → new ≡ first ++ take (i + 1) structs
front_grows first now new structs i x y h e c so_far is =
    is
    ∙ ap (λ (xs : List StructDef). xs ++ y ∷ []) so_far
    ∙ append_assoc first (take i structs) (y ∷ [])
    ∙ ap (λ (d : StructDef). first ++ (take i structs ++ d ∷ [])) (c ∙ e)
    ∙ ap (λ (xs : List StructDef). first ++ xs) (sym (take_more structs i x h))
