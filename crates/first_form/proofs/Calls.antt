-- Which import a call is of, by a table of the items' names.
use Rattle.std.proofs.Common.{◌≡◌, ℕ, zero, suc, ◌<◌, List, [], ◌∷◌, length, map, take, get_or, slice_get, Some, None, sym, ap, ◌∙◌, arith}
use Rattle.std.specs.List.{AllZip}
use Rattle.std.proofs.lemmas.List.{length-map}
use Rattle.ivory_tree.specs.Syntax.{CallSyntax}
use Rattle.first_form.specs.Stands.{ByteStands, CallStands}
use Rattle.first_form.specs.Tables.{place_of, ImportsFirst}
use Rattle.first_form.specs.Valid.{AllDifferent}
use Rattle.first_form.specs.declared.first.FirstImport.{FirstImport}
use Rattle.first_form.specs.declared.first.FirstCall.{FirstCall}
use Rattle.first_form.proofs.NameTables.{get_taken, place_stops, place_is}

named_import : (imports : List FirstImport) (k : ℕ) (target : FirstImport) (d : List ℕ) → slice_get imports k ≡ Some target → (k < length imports) × (get_or (map (λ (i : FirstImport). i.name) imports) k d ≡ target.name)
named_import [] k target d e = absurd cc
named_import (i ∷ imports) zero target d e = let same : i ≡ target = cc in (omega arith, ap (λ (x : FirstImport). x.name) same)
named_import (i ∷ imports) (suc k) target d e = let w = named_import imports k target d e in (omega (arith, w.0), w.1)

-- the name at an import's place is the import's
name_at : (imports : List FirstImport) (names : List (List ℕ)) (k : ℕ) (target : FirstImport) (d : List ℕ) → ImportsFirst imports names → slice_get imports k ≡ Some target
    → (k < length names) × (get_or names k d ≡ target.name)
name_at imports names k target d first e =
    let w = named_import imports k target d e in
    let within : k < length (take (length imports) names) = omega (arith, w.0, ap length first, length-map imports (λ (i : FirstImport). i.name)) in
    let g = get_taken names (length imports) k d within in
    (g.2, sym g.0 ∙ ap (λ x. get_or x k d) first ∙ w.1)

pub place_of_call : (imports : List FirstImport) (names : List (List ℕ)) (c : CallSyntax) (d : FirstCall) → ImportsFirst imports names → AllDifferent names → CallStands imports c d
    → place_of c.name.text names ≡ Some d.import
place_of_call imports names c d first all s =
    let w = name_at imports names d.import s.target c.name.text first s.found in
    place_is c.name.text names d.import all w.0 (w.1 ∙ s.named)

name_of_place : (imports : List FirstImport) (names : List (List ℕ)) (name : List ℕ) (k : ℕ) (target : FirstImport) → ImportsFirst imports names → place_of name names ≡ Some k → slice_get imports k ≡ Some target
    → target.name ≡ name
name_of_place imports names name k target first e f = sym (name_at imports names k target name first f).1 ∙ (place_stops name names k name e).1

-- ---- no call of an import

pub no_place : (imports : List FirstImport) (names : List (List ℕ)) (c : CallSyntax) → ImportsFirst imports names → AllDifferent names → place_of c.name.text names ≡ None → (d : FirstCall) → CallStands imports c d → ⊥
no_place imports names c first all none d s = let some = place_of_call imports names c d first all s in cc

pub no_import : (imports : List FirstImport) (names : List (List ℕ)) (c : CallSyntax) (k : ℕ) → ImportsFirst imports names → AllDifferent names → place_of c.name.text names ≡ Some k → slice_get imports k ≡ None
    → (d : FirstCall) → CallStands imports c d → ⊥
no_import imports names c k first all e none d s =
    let both = sym e ∙ place_of_call imports names c d first all s in
    let here : k ≡ d.import = cc in
    let found = ap (slice_get imports) here ∙ s.found in
    cc

-- the import of the call is the one at the name's place
target_is : (imports : List FirstImport) (names : List (List ℕ)) (c : CallSyntax) (k : ℕ) (target : FirstImport) → ImportsFirst imports names → AllDifferent names → place_of c.name.text names ≡ Some k
    → slice_get imports k ≡ Some target → (d : FirstCall) (s : CallStands imports c d) → target ≡ s.target
target_is imports names c k target first all e f d s =
    let both = sym e ∙ place_of_call imports names c d first all s in
    let here : k ≡ d.import = cc in
    let found : Some target ≡ Some s.target = sym f ∙ ap (slice_get imports) here ∙ s.found in
    cc

pub miscounted : (imports : List FirstImport) (names : List (List ℕ)) (c : CallSyntax) (k : ℕ) (target : FirstImport) → ImportsFirst imports names → AllDifferent names → place_of c.name.text names ≡ Some k
    → slice_get imports k ≡ Some target → (length c.args ≡ target.params → ⊥) → (d : FirstCall) → CallStands imports c d → ⊥
miscounted imports names c k target first all e f differs d s =
    differs (sym s.counted ∙ sym (ap (λ (i : FirstImport). i.params) (target_is imports names c k target first all e f d s)))

-- ---- a call of an import

pub call_stands : (imports : List FirstImport) (names : List (List ℕ)) (c : CallSyntax) (d : FirstCall) (target : FirstImport) → ImportsFirst imports names → place_of c.name.text names ≡ Some d.import
    → slice_get imports d.import ≡ Some target → length c.args ≡ target.params → AllZip ByteStands c.args d.values → CallStands imports c d
call_stands imports names c d target first e f counted values =
    record { target = target; found = f; named = name_of_place imports names c.name.text d.import target first e f; counted = sym counted; values = values }
