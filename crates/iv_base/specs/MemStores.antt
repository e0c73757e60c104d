-- A store in memory: what one load makes of it, and what it answers.
use Rattle.std.specs.Prelude.{ℕ, ◌+◌, Bool, if◌then◌else◌, ◌||◌, is_none, nat_eq, List, IsTrue, IsFalse, Result, Ok, Err, Some}
use Rattle.std.specs.List.{list_any}
use Rattle.iv_base.specs.Counts.{capped}
use Rattle.iv_base.specs.Stores.{FileMap, Gives}
use Rattle.iv_base.specs.Tables.{map_of}
use Rattle.iv_base.specs.declared.mem_store.MemStore.{MemStore}
use Rattle.iv_base.specs.declared.store.LoadFault.{LoadFault}
use Rattle.iv_base.specs.declared.store.LoadFault.TheVariants.{Fault, Memory}

-- `loads` is the number of the next load; the loads whose numbers are in `failing` fail
pub record MemStoreState : Type 0 where
  pub files : FileMap
  pub failing : List ℕ
  pub faults : ℕ
  pub loads : ℕ

-- the state of a store as it is kept
abbrev pub state : MemStore → MemStoreState
state s = record { files = map_of s.files; failing = s.failing; faults = s.faults; loads = s.loads }

-- the load fails, or no file has the name
abbrev pub refused : MemStoreState → List ℕ → Bool
refused s name = list_any (nat_eq s.loads) s.failing || is_none (s.files name)

abbrev pub after : MemStoreState → List ℕ → MemStoreState
after s name = record {
  files = s.files;
  failing = s.failing;
  faults = if refused s name then capped (s.faults + 1) else s.faults;
  loads = capped (s.loads + 1);
}

-- a fault comes exactly where the load is refused; want of memory is free elsewhere
abbrev pub Answers : MemStoreState → List ℕ → ℕ → Result (List ℕ) LoadFault → Type 0
Answers s name most (Ok given) = IsFalse (refused s name) × Gives (Some s.files) name most given
Answers s name most (Err Fault) = IsTrue (refused s name)
Answers s name most (Err Memory) = IsFalse (refused s name)
