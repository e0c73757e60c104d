-- A store in memory that never fails: what one load makes of it, and what it answers.
use Rattle.std.specs.Prelude.{ℕ, ◌+◌, List, Result, Ok, Err, Some}
use Rattle.iv_base.specs.Counts.{capped}
use Rattle.iv_base.specs.Stores.{FileMap, Gives}
use Rattle.iv_base.specs.Tables.{map_of}
use Rattle.iv_base.specs.declared.store.LoadFault.{LoadFault}
use Rattle.iv_base.specs.declared.store.LoadFault.TheVariants.{Fault, Memory}
use Rattle.iv_base.specs.declared.sure_store.SureStore.{SureStore}

pub record SureStoreState : Type 0 where
  pub files : FileMap
  pub loads : ℕ

-- the state of a store as it is kept
abbrev pub state : SureStore → SureStoreState
state s = record { files = map_of s.files; loads = s.loads }

abbrev pub after : SureStoreState → SureStoreState
after s = record { files = s.files; loads = capped (s.loads + 1) }

-- an absent name gives the empty text; want of memory is free
abbrev pub Answers : SureStoreState → List ℕ → ℕ → Result (List ℕ) LoadFault → Type 0
Answers s name most (Ok given) = Gives (Some s.files) name most given
Answers s name most (Err Fault) = ⊥
Answers s name most (Err Memory) = Unit {0}
