-- What holds of each module that a tree with names of the language stands for. The layers above rely on it.
use Rattle.std.specs.Prelude.{◌≡◌, ◌≢◌, ℕ, ◌<◌, ◌^◌, List, ◌++◌, length, map, slice_get, Some, All, AllPairs}
use Rattle.ivory_lexer.specs.Tokens.{IsName}
use Rattle.first_form.specs.declared.first.FirstModule.{FirstModule}
use Rattle.first_form.specs.declared.first.FirstImport.{FirstImport}
use Rattle.first_form.specs.declared.first.FirstCall.{FirstCall}

abbrev pub AllDifferent : List (List ℕ) → Type 0
AllDifferent names = AllPairs (λ a b. a ≢ b) names

-- the names of the imports, and then of the procedures
abbrev pub item_names : FirstModule → List (List ℕ)
item_names m = map (λ i. i.name) m.imports ++ map (λ p. p.name) m.procs

-- the call is of one of the imports, with a value of uint8_t for each of its parameters
pub record CallFits (imports : List FirstImport) (c : FirstCall) : Type 0 where
  pub target : FirstImport
  pub found : slice_get imports c.import ≡ Some target
  pub counted : length c.values ≡ target.params
  pub small : All (λ v. v < 2 ^ 8) c.values

pub record Valid (m : FirstModule) : Type 0 where
  pub named : All IsName (item_names m)
  pub different : AllDifferent (item_names m)
  pub calls : All (λ p. All (CallFits m.imports) p.calls) m.procs
