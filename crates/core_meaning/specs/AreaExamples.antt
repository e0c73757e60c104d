-- Areas: references that are passed and returned, copies, initializers, and what becomes of an area at the end of its block and of its call.
use Rattle.std.specs.Prelude.{◌≡◌, ℕ, pos, false, List, [], ◌∷◌, Some, None, codes}
use Rattle.iv_words.specs.declared.IntKind.TheVariants.{U8}
use Rattle.run_records.specs.declared.End.TheVariants.{Ended}
use Rattle.run_records.specs.declared.Outcome.{Outcome}
use Rattle.run_records.specs.declared.Reason.TheVariants.{Dead}
use Rattle.step_semantics.specs.Steps.{World, NoMeaning, Finished, Halted}
use Rattle.step_semantics.specs.Control.{Falls, Returned}
use Rattle.type_trees.specs.Trees.{Leaf, Many, Struct, End, Field as Member}
use Rattle.type_trees.specs.Values.{Cell, Parts, Nil, Cons}
use Rattle.area_types.specs.Syntax.{ValueType, Truth, Int, Ref, Area, Stored, Array}
use Rattle.area_types.specs.declared.region.Region.TheVariants.{Own, Param}
use Rattle.area_types.specs.Trees.{Written}
use Rattle.core_tree.specs.Syntax.{InitCore, InitsCore, ModuleCore, ProcCore, ExprCore, One, Many as Braces, NoInits, MoreInits, Element, StmtCore, LetCall, Alloc, Store, Copy, If, Return}
use Rattle.core_meaning.specs.Values.{Num, Ref as Refers}
use Rattle.core_meaning.specs.Areas as areas
use Rattle.core_meaning.specs.Areas.{Held, AreaState, Live, Marked, Gone}
use Rattle.core_meaning.specs.State.{State}
use Rattle.core_meaning.specs.Expressions.{eval}
use Rattle.core_meaning.specs.Initializers.{first_value}
use Rattle.core_meaning.specs.Conditions.{ensured}
use Rattle.core_meaning.specs.Calls.{no_procedures}
use Rattle.core_meaning.specs.Statements.{exec}
use Rattle.core_meaning.specs.Run.{procedure_call, run_src}
use Rattle.core_meaning.specs.ExampleForms.{plain, constant, local, area, read, stmts, procedure, stored_area, module_of, script, shown, going, cells_of, ret}

abbrev pub u8 : ValueType
u8 = Int U8

abbrev pub byte : Area
byte = Stored u8

-- ---- references

-- `area out : uint8_t;`, `proc pick(a : ref r uint8_t, b : ref r uint8_t) -> ref r uint8_t { return b; }`, and
-- `export proc go(c : bool) { alloc p : uint8_t = 1; if c { let x = pick(p, p); *x = 5; } *out = *p; }`
abbrev pub param : ValueType
param = Ref false (Param 0) byte

abbrev pub pick : ProcCore
pick = record (procedure (codes "pick") (param ∷ param ∷ []) (Some param) [] (Return (Some (local param 1)) ∷ [])) { exported = false }

abbrev pub own : ValueType
own = Ref false Own byte

abbrev pub go : ProcCore
go = procedure (codes "go") (Truth ∷ []) None (own ∷ own ∷ [])
    (Alloc 1 byte (Some (One (constant u8 1)))
    ∷ If (local Truth 0) (stmts (LetCall 2 (record { import = false; callee = 0; args = local own 1 ∷ local own 1 ∷ [] }) ∷ Store (local own 2) (constant u8 5) ∷ []))
    ∷ Store (area byte 0) (read u8 (local own 1)) ∷ [])

abbrev pub picking : ModuleCore
picking = module_of (stored_area (codes "out") u8 (pos 0 ∷ []) ∷ []) [] (pick ∷ go ∷ [])

abbrev pub went : ℕ → Outcome
went v = shown (ret (codes "go") ∷ []) Ended (cells_of (codes "out") (pos v ∷ []) ∷ [])

abbrev pub going_with : ℕ → ℕ → Outcome
going_with c n = run_src picking (script ((codes "go", pos c ∷ []) ∷ []) []) n

pub record ReferenceExamples : Type 0 where
  pub left : going_with 0 10_000 ≡ went 1
  pub changed : going_with 1 10_000 ≡ went 5
  -- the entry call, the area, the choice, the reading, the store
  pub left_in_five : going_with 0 5 ≡ went 1
  pub left_early : going_with 0 4 ≡ going []
  -- and the call, the return and the store between them
  pub changed_in_eight : going_with 1 8 ≡ went 5
  pub changed_early : going_with 1 7 ≡ going []

-- ---- copies

-- `[1][1][1][1][1][1][1] uint8_t`
abbrev pub nested : Area
nested = Array 1 (Array 1 (Array 1 (Array 1 (Array 1 (Array 1 (Array 1 byte))))))

-- `area a : .. = {{{{{{{9}}}}}}};`, `area b : ..;`, `export proc c() { copy b, a; }`
abbrev pub copying : ModuleCore
copying = module_of
    (record { name = codes "a"; constant = false; area = nested; first = pos 9 ∷ [] } ∷ record { name = codes "b"; constant = false; area = nested; first = pos 0 ∷ [] } ∷ []) []
    (procedure (codes "c") [] None [] (Copy (area nested 1) (area nested 0) ∷ []) ∷ [])

abbrev pub copied : ℕ → Outcome
copied n = run_src copying (script ((codes "c", []) ∷ []) []) n

pub record CopyExamples : Type 0 where
  pub in_nine : copied 9 ≡ shown (ret (codes "c") ∷ []) Ended (cells_of (codes "a") (pos 9 ∷ []) ∷ cells_of (codes "b") (pos 9 ∷ []) ∷ [])
  pub in_eight : copied 8 ≡ going []

-- ---- what becomes of areas

abbrev pub inits : List InitCore → InitsCore
inits [] = NoInits
inits (i ∷ is) = MoreInits i (inits is)

-- a module with nothing in it
abbrev pub empty : ModuleCore
empty = module_of [] [] []

-- a state between calls, with these areas, and names that refer to the first of them
abbrev pub resting : List AreaState → State
resting all = record { areas = all; frames = record { own = record { names = (0, Refers 0 []) ∷ (1, Refers 0 (2 ∷ [])) ∷ []; first = 0 }; callers = [] } }

abbrev pub row : Written
row = Many 2 (Leaf u8)

abbrev pub pair : ℕ → ℕ → Held
pair a b = Parts (Cons (Cell (pos a)) (Cons (Cell (pos b)) Nil))

abbrev pub two : Held → areas.Area
two held = record { ty = row; constant = false; held = held }

abbrev pub row_type : ValueType
row_type = Ref false Own (Array 2 byte)

-- `x[1]`, of the name x
abbrev pub second : ExprCore
second = Element (plain own) (local row_type 0) (constant u8 1)

-- values in braces
abbrev pub braces : List InitCore → InitCore
braces is = Braces (inits is)

-- `alloc y : [2] uint8_t = {7};`
abbrev pub allocating : StmtCore
allocating = Alloc 3 (Array 2 byte) (Some (braces (One (constant u8 7) ∷ [])))

abbrev pub run_one : StmtCore → ProcCore
run_one s = procedure [] [] None [] (s ∷ [])

-- a struct of a byte and of two rows
abbrev pub mixed : Written
mixed = Struct 0 (Member 0 (Leaf u8) (Member 1 (Many 2 row) End))

abbrev pub byte_init : ℕ → InitCore
byte_init v = One (constant u8 v)

abbrev pub mixed_value : ℕ → Held → Held → Held
mixed_value a x y = Parts (Cons (Cell (pos a)) (Cons (Parts (Cons x (Cons y Nil))) Nil))

-- `{1, {{2}, {3, 4}}}`
abbrev pub nested_init : InitCore
nested_init = braces (byte_init 1 ∷ braces (braces (byte_init 2 ∷ []) ∷ braces (byte_init 3 ∷ byte_init 4 ∷ []) ∷ []) ∷ [])

pub record InitializerExamples : Type 0 where
  pub all : (w : World) (s : State) → first_value empty (Some nested_init) mixed 0 w s ≡ Finished (mixed_value 1 (pair 2 0) (pair 3 4)) w s 0
  -- `= {1}`, and none
  pub fewer : (w : World) (s : State) → first_value empty (Some (braces (byte_init 1 ∷ []))) mixed 0 w s ≡ Finished (mixed_value 1 (pair 0 0) (pair 0 0)) w s 0
  pub none : (w : World) (s : State) → first_value empty None mixed 0 w s ≡ Finished (mixed_value 0 (pair 0 0) (pair 0 0)) w s 0
  -- no valid module has one value for a row, or values in braces for a byte
  pub one_for_row : (w : World) → first_value empty (Some (byte_init 1)) row 0 w (resting []) ≡ Halted (NoMeaning Dead) w []
  pub braces_for_byte : (w : World) → first_value empty (Some (braces (byte_init 1 ∷ []))) (Leaf u8) 0 w (resting []) ≡ Halted (NoMeaning Dead) w []

pub record EndExamples : Type 0 where
  -- an area whose block has ended is still read until its procedure ends
  pub marked : (w : World) → eval empty None (read u8 second) 2 w (resting (Marked (two (pair 3 4)) ∷ [])) ≡ Finished (Num (pos 4)) w (resting (Marked (two (pair 3 4)) ∷ [])) 0
  -- behind that no name with a reference to it is, and none with a path that leaves its area
  pub gone : (w : World) → eval empty None (local row_type 0) 0 w (resting (Gone ∷ [])) ≡ Halted (NoMeaning Dead) w []
  pub never : (w : World) → eval empty None (local row_type 0) 0 w (resting []) ≡ Halted (NoMeaning Dead) w []
  pub outside : (w : World) → eval empty None (local own 1) 0 w (resting (Live (two (pair 3 4)) ∷ [])) ≡ Halted (NoMeaning Dead) w []
  -- the initializer's missing elements are zero
  pub made : (w : World) → exec empty (no_procedures empty) (ensured empty pick) allocating 1 w (resting [])
      ≡ Finished Falls w (record { areas = Live (two (pair 7 0)) ∷ []; frames = record { own = record { names = (3, Refers 0 []) ∷ (resting []).frames.own.names; first = 0 }; callers = [] } }) 0
  -- at the end of its block it is marked, and the name is out of scope
  pub block_ends : (w : World) → exec empty (no_procedures empty) (ensured empty pick) (If (constant Truth 1) (stmts (allocating ∷ []))) 2 w (resting [])
      ≡ Finished Falls w (resting (Marked (two (pair 7 0)) ∷ [])) 0
  -- also where a return leaves it
  pub block_left : (w : World) → exec empty (no_procedures empty) (ensured empty pick) (If (constant Truth 1) (stmts (allocating ∷ Return None ∷ []))) 3 w (resting [])
      ≡ Finished (Returned None) w (resting (Marked (two (pair 7 0)) ∷ [])) 0
  -- at the end of its call it is gone, whether or not its block has ended before
  pub call_ends : (w : World) → procedure_call empty (no_procedures empty) (run_one allocating) [] 1 w (resting []) ≡ Finished None w (resting (Gone ∷ [])) 0
  pub later : (w : World) → procedure_call empty (no_procedures empty) (run_one (If (constant Truth 1) (stmts (allocating ∷ [])))) [] 2 w (resting []) ≡ Finished None w (resting (Gone ∷ [])) 0
