-- Calls of imports: what the outside sees of them, and what its replies do.
use Rattle.std.specs.Prelude.{◌≡◌, ℕ, ℤ, pos, true, false, List, [], ◌∷◌, replicate, Some, None, codes}
use Rattle.iv_words.specs.declared.IntKind.TheVariants.{U8, U16}
use Rattle.run_records.specs.declared.End.{End}
use Rattle.run_records.specs.declared.End.TheVariants.{Ended, NoReply, BadReply, Undefined}
use Rattle.run_records.specs.declared.Event.{Event}
use Rattle.run_records.specs.declared.Event.TheVariants as event
use Rattle.run_records.specs.declared.Outcome.{Outcome}
use Rattle.run_records.specs.declared.Piece.TheVariants as piece
use Rattle.run_records.specs.declared.Plain.TheVariants as plain
use Rattle.run_records.specs.declared.Reason.TheVariants.{Dead}
use Rattle.area_types.specs.Syntax.{ValueType, Truth, Int, Ix, Ref, Area, Stored, Array}
use Rattle.area_types.specs.declared.region.Region.TheVariants.{Param}
use Rattle.core_tree.specs.Syntax.{ModuleCore, CallCore, ExprCore, LetCall, Store, Call, Forever, Return}
use Rattle.core_meaning.specs.Run.{run_src}
use Rattle.core_meaning.specs.ExampleForms.{constant, local, area, stmts, procedure, stored_area, module_of, script, shown, going, cells_of, ret, gave}

abbrev pub u8 : ValueType
u8 = Int U8

abbrev pub importing : List ExprCore → CallCore
importing args = record { import = true; callee = 0; args = args }

-- ---- `import tick();`, `export proc run() { forever { tick(); } }`

abbrev pub ticking : ModuleCore
ticking = module_of [] (record { name = codes "tick"; params = []; result = None } ∷ []) (procedure (codes "run") [] None [] (Forever (stmts (Call (importing []) ∷ [])) ∷ []) ∷ [])

abbrev pub ticked : ℕ → Outcome
ticked n = run_src ticking (script ((codes "run", []) ∷ []) []) n

abbrev pub tick_event : Event
tick_event = event.Call (codes "tick") []

pub record TickExamples : Type 0 where
  pub none : ticked 0 ≡ going []
  pub entered : ticked 1 ≡ going []
  pub turned : ticked 2 ≡ going []
  pub once : ticked 3 ≡ going (tick_event ∷ [])
  pub often : ticked 1_000 ≡ going (replicate 499 tick_event)

-- ---- `import get() -> uint8_t;`, `area a : uint8_t;`, `export proc two() { let x = get(); *a = x; let y = get(); *a = y; }`

abbrev pub cell : ExprCore
cell = area (Stored u8) 0

abbrev pub getting : ModuleCore
getting = module_of (stored_area (codes "a") u8 (pos 0 ∷ []) ∷ []) (record { name = codes "get"; params = []; result = Some (plain.Int U8) } ∷ [])
    (procedure (codes "two") [] None (u8 ∷ u8 ∷ []) (LetCall 0 (importing []) ∷ Store cell (local u8 0) ∷ LetCall 1 (importing []) ∷ Store cell (local u8 1) ∷ []) ∷ [])

abbrev pub got : List (List ℤ) → ℕ → Outcome
got replies n = run_src getting (script ((codes "two", []) ∷ []) replies) n

abbrev pub gets : List Event → End → ℕ → Outcome
gets more end v = shown (event.Call (codes "get") [] ∷ event.Call (codes "get") [] ∷ more) end (cells_of (codes "a") (pos v ∷ []) ∷ [])

pub record ReplyExamples : Type 0 where
  pub one : got ((pos 7 ∷ []) ∷ []) 10_000 ≡ gets [] NoReply 7
  pub unfit : got ((pos 7 ∷ []) ∷ (pos 256 ∷ []) ∷ []) 10_000 ≡ gets [] BadReply 7
  pub too_long : got ((pos 7 ∷ []) ∷ (pos 9 ∷ pos 9 ∷ []) ∷ []) 10_000 ≡ gets [] BadReply 7
  pub two : got ((pos 7 ∷ []) ∷ (pos 9 ∷ []) ∷ []) 10_000 ≡ gets (ret (codes "two") ∷ []) Ended 9
  -- the entry call, and for each reply the call and the store
  pub in_five : got ((pos 7 ∷ []) ∷ (pos 9 ∷ []) ∷ []) 5 ≡ gets (ret (codes "two") ∷ []) Ended 9
  pub in_four : got ((pos 7 ∷ []) ∷ (pos 9 ∷ []) ∷ []) 4 ≡ going (event.Call (codes "get") [] ∷ event.Call (codes "get") [] ∷ [])

-- ---- `import fill(p : ref r [2] uint8_t);`, `area d : [2] uint8_t = {1, 2};`, `export proc f() { fill(d); }`

abbrev pub row : Area
row = Array 2 (Stored u8)

abbrev pub filling : ModuleCore
filling = module_of (record { name = codes "d"; constant = false; area = row; first = pos 1 ∷ pos 2 ∷ [] } ∷ [])
    (record { name = codes "fill"; params = Ref false (Param 0) row ∷ []; result = None } ∷ [])
    (procedure (codes "f") [] None [] (Call (importing (area row 0 ∷ [])) ∷ []) ∷ [])

-- `import swap(v : bool, p : ref r [2] uint8_t, q : const ref s uint8_t, t : ref r uint8_t) -> uint16_t;`, and
-- `export proc f() -> uint16_t { let x = swap(true, d, e, e); return x; }`
abbrev pub swapping : ModuleCore
swapping = module_of (record { name = codes "d"; constant = false; area = row; first = pos 1 ∷ pos 2 ∷ [] } ∷ stored_area (codes "e") u8 (pos 3 ∷ []) ∷ [])
    (record { name = codes "swap"; params = Truth ∷ Ref false (Param 0) row ∷ Ref true (Param 1) (Stored u8) ∷ Ref false (Param 0) (Stored u8) ∷ []; result = Some (plain.Int U16) } ∷ [])
    (procedure (codes "f") [] (Some (Int U16)) (Int U16 ∷ [])
    (LetCall 0 (importing (constant Truth 1 ∷ area row 0 ∷ area (Stored u8) 1 ∷ area (Stored u8) 1 ∷ [])) ∷ Return (Some (local (Int U16) 0)) ∷ []) ∷ [])

abbrev pub f_with : ModuleCore → List (List ℤ) → ℕ → Outcome
f_with core replies n = run_src core (script ((codes "f", []) ∷ []) replies) n

abbrev pub swap_event : Event
swap_event = event.Call (codes "swap") (piece.Value (pos 1) ∷ piece.Cells (pos 1 ∷ pos 2 ∷ []) ∷ piece.Cells (pos 3 ∷ []) ∷ piece.Cells (pos 3 ∷ []) ∷ [])

pub record CellExamples : Type 0 where
  -- the outside sees the cells as they were
  pub filled : f_with filling ((pos 3 ∷ pos 4 ∷ []) ∷ []) 10_000
      ≡ shown (event.Call (codes "fill") (piece.Cells (pos 1 ∷ pos 2 ∷ []) ∷ []) ∷ ret (codes "f") ∷ []) Ended (cells_of (codes "d") (pos 3 ∷ pos 4 ∷ []) ∷ [])
  -- the result is the first value of a reply, and nothing is written by a const reference
  pub swapped : f_with swapping ((pos 300 ∷ pos 8 ∷ pos 9 ∷ pos 5 ∷ []) ∷ []) 10_000
      ≡ shown (swap_event ∷ gave (codes "f") (pos 300) ∷ []) Ended (cells_of (codes "d") (pos 8 ∷ pos 9 ∷ []) ∷ cells_of (codes "e") (pos 5 ∷ []) ∷ [])
  pub short : f_with swapping ((pos 300 ∷ pos 8 ∷ pos 9 ∷ []) ∷ []) 10_000
      ≡ shown (swap_event ∷ []) BadReply (cells_of (codes "d") (pos 1 ∷ pos 2 ∷ []) ∷ cells_of (codes "e") (pos 3 ∷ []) ∷ [])

-- ---- what no valid module has: a call of an import that is not there, and `import fill(p : ref r [2] ix(4));`, which would write indices

abbrev pub without_import : ModuleCore
without_import = module_of [] [] (procedure (codes "f") [] None [] (Call (importing []) ∷ []) ∷ [])

abbrev pub index_row : Area
index_row = Array 2 (Stored (Ix 4))

abbrev pub filling_indices : ModuleCore
filling_indices = module_of (record { name = codes "d"; constant = false; area = index_row; first = pos 1 ∷ pos 2 ∷ [] } ∷ [])
    (record { name = codes "fill"; params = Ref false (Param 0) index_row ∷ []; result = None } ∷ [])
    (procedure (codes "f") [] None [] (Call (importing (area index_row 0 ∷ [])) ∷ []) ∷ [])

pub record FormlessCalls : Type 0 where
  -- it has no meaning before the call's step: the entry call takes the one that there is
  pub no_import : f_with without_import [] 1 ≡ shown [] (Undefined Dead) []
  pub of_indices : f_with filling_indices [] 1 ≡ shown [] (Undefined Dead) []
