-- A driver, as a firmware author writes it: bit data, a struct with a ring of bytes, imports, contracts, and a script of forty calls.
use Rattle.std.specs.Prelude.{◌≡◌, ℕ, zero, suc, ℤ, pos, true, false, List, [], ◌∷◌, Some, None, codes}
use Rattle.iv_words.specs.declared.IntKind.TheVariants.{U8, U16}
use Rattle.run_records.specs.declared.AreaCells.{AreaCells}
use Rattle.run_records.specs.declared.End.TheVariants.{Ended, Stopped}
use Rattle.run_records.specs.declared.Event.{Event}
use Rattle.run_records.specs.declared.Event.TheVariants as event
use Rattle.run_records.specs.declared.Script.{Script}
use Rattle.run_records.specs.declared.Piece.TheVariants as piece
use Rattle.ivory_tree.specs.declared.BinOp.TheVariants.{Add, Sub, WrapAdd, Rem, Eq, Lt, Gt}
use Rattle.bit_data.specs.declared.BitLayout.{BitLayout}
use Rattle.area_types.specs.Syntax.{Name, ValueType, Truth, Int, Ix, Bits, Ref, Stored, Array, Struct, Area}
use Rattle.area_types.specs.Tables.{Table}
use Rattle.area_types.specs.declared.Area.TheVariants as tree
use Rattle.area_types.specs.declared.StructDef.{StructDef}
use Rattle.area_types.specs.declared.ValueType.TheVariants as held
use Rattle.area_types.specs.declared.region.Region.{Region}
use Rattle.area_types.specs.declared.region.Region.TheVariants.{Global, Param}
use Rattle.core_tree.specs.declared.SiteKind.TheVariants.{Overflow, DivZero, Cast as CastSite, Pre, Post}
use Rattle.core_tree.specs.Syntax.{ModuleCore, ProcCore, CallCore, ExprCore, Cast, WrapIndex, SetField, Field, Element, Whole, Let, LetCall, Store, Call, If, Return}
use Rattle.core_meaning.specs.Run.{run_src}
use Rattle.core_meaning.specs.ExampleForms.{plain, site, with_checks, constant, local, area, read, chain, stmts, procedure, stored_area, script, shown, going, cells_of, ret}

-- ---- types

abbrev pub u8 : ValueType
u8 = Int U8

abbrev pub u16 : ValueType
u16 = Int U16

-- `bitdata Ctrl : uint8_t { enable : bool, mode : 3, level : 4 }`
abbrev pub ctrl_layout : BitLayout
ctrl_layout = record {
  name = codes "Ctrl";
  word = U8;
  fields = record { name = codes "enable"; low = 0; width = 1; truth = true } ∷ record { name = codes "mode"; low = 1; width = 3; truth = false }
      ∷ record { name = codes "level"; low = 4; width = 4; truth = false } ∷ [];
}

-- `struct Uart { head : ix(8); count : uint8_t; buf : [8] uint8_t; }`
abbrev pub uart_struct : StructDef
uart_struct = record {
  name = codes "Uart";
  fields = record { name = codes "head"; area = tree.Stored (held.Ix 8) } ∷ record { name = codes "count"; area = tree.Stored (held.Int U8) }
      ∷ record { name = codes "buf"; area = tree.Array 8 (tree.Stored (held.Int U8)) } ∷ [];
}

abbrev pub types : Table
types = record { structs = uart_struct ∷ []; words = U8 ∷ [] }

-- ---- areas

abbrev pub ctrl : ExprCore
ctrl = area (Stored (Bits 0)) 0

abbrev pub uart : ExprCore
uart = area (Struct 0) 1

abbrev pub ticks : ExprCore
ticks = area (Stored u16) 2

-- references to the fields of a Uart in a region, and to a byte of its ring
abbrev pub field_of : Region → Area → ExprCore → ℕ → ExprCore
field_of r a e field = Field (plain (Ref false r a)) e field

abbrev pub head_of : Region → ExprCore → ExprCore
head_of r e = Whole (plain (Ref false r (Stored (Ix 8)))) (field_of r (Stored (Ix 8)) e 0)

abbrev pub count_of : Region → ExprCore → ExprCore
count_of r e = Whole (plain (Ref false r (Stored u8))) (field_of r (Stored u8) e 1)

abbrev pub slot_of : Region → ExprCore → ExprCore → ExprCore
slot_of r e i = Whole (plain (Ref false r (Stored u8))) (Element (plain (Ref false r (Stored u8))) (field_of r (Array 8 (Stored u8)) e 2) i)

-- ---- procedures

-- the parameter u
abbrev pub u : ExprCore
u = local (Ref false (Param 0) (Struct 0)) 0

-- `proc push(u : ref r struct Uart, b : uint8_t) requires(*u.count < 8) {
--    *u.buf[wrapix(8, uint8_t(*u.head) +% *u.count)] = b;  *u.count = *u.count + 1; }`
abbrev pub push : ProcCore
push = record (procedure (codes "push") (Ref false (Param 0) (Struct 0) ∷ u8 ∷ []) None []
    (Store (slot_of (Param 0) u (WrapIndex (plain (Ix 8)) (chain u8 [] WrapAdd (Cast (plain u8) (read (Ix 8) (head_of (Param 0) u))) (read u8 (count_of (Param 0) u))))) (local u8 1)
    ∷ Store (count_of (Param 0) u) (chain u8 (site 1 Overflow ∷ []) Add (read u8 (count_of (Param 0) u)) (constant u8 1)) ∷ [])) {
      exported = false;
      contracts = record { before = true; cond = chain Truth [] Lt (read u8 (count_of (Param 0) u)) (constant u8 8); check = site 0 Pre } ∷ [];
    }

-- `proc pop(u : ref r struct Uart) -> uint8_t requires(*u.count > 0) ensures(*u.count < 8) {
--    let b = *u.buf[*u.head];  *u.head = wrapix(8, uint8_t(*u.head) + 1);  *u.count = *u.count - 1;  return b; }`
abbrev pub pop : ProcCore
pop = record (procedure (codes "pop") (Ref false (Param 0) (Struct 0) ∷ []) (Some u8) (u8 ∷ [])
    (Let 1 (read u8 (slot_of (Param 0) u (read (Ix 8) (head_of (Param 0) u))))
    ∷ Store (head_of (Param 0) u) (WrapIndex (plain (Ix 8)) (chain u8 (site 4 Overflow ∷ []) Add (Cast (plain u8) (read (Ix 8) (head_of (Param 0) u))) (constant u8 1)))
    ∷ Store (count_of (Param 0) u) (chain u8 (site 5 Overflow ∷ []) Sub (read u8 (count_of (Param 0) u)) (constant u8 1))
    ∷ Return (Some (local u8 1)) ∷ [])) {
      exported = false;
      contracts = record { before = true; cond = chain Truth [] Gt (read u8 (count_of (Param 0) u)) (constant u8 0); check = site 2 Pre }
          ∷ record { before = false; cond = chain Truth [] Lt (read u8 (count_of (Param 0) u)) (constant u8 8); check = site 3 Post } ∷ [];
    }

-- `export proc setup(m : uint8_t) { *ctrl = set(set(*ctrl, enable, true), mode, m); }`
abbrev pub setup : ProcCore
setup = procedure (codes "setup") (u8 ∷ []) None []
    (Store ctrl (SetField (with_checks (Bits 0) (site 6 CastSite ∷ [])) (SetField (plain (Bits 0)) (read (Bits 0) ctrl) 0 (constant Truth 1)) 1 (local u8 0)) ∷ [])

abbrev pub import_with : ℕ → List ExprCore → CallCore
import_with k args = record { import = true; callee = k; args = args }

abbrev pub call_of : ℕ → List ExprCore → CallCore
call_of k args = record { import = false; callee = k; args = args }

-- `proc blink() { if (*ctrl).enable { led(*ticks % 2 == 0); } }`
abbrev pub blink : ProcCore
blink = record (procedure (codes "blink") [] None []
    (If (Whole (plain Truth) (Field (plain Truth) (read (Bits 0) ctrl) 0))
    (stmts (Call (import_with 0 (chain Truth [] Eq (chain u16 (site 7 DivZero ∷ []) Rem (read u16 ticks) (constant u16 2)) (constant u16 0) ∷ [])) ∷ [])) ∷ [])) { exported = false }

-- `export proc tick() { *ticks = *ticks + 1;  blink();  if *uart.count < 8 { push(uart, uint8_t(*ticks % 256)); } }`
abbrev pub tick : ProcCore
tick = procedure (codes "tick") [] None []
    (Store ticks (chain u16 (site 8 Overflow ∷ []) Add (read u16 ticks) (constant u16 1))
    ∷ Call (call_of 3 [])
    ∷ If (chain Truth [] Lt (read u8 (count_of Global uart)) (constant u8 8))
    (stmts (Call (call_of 0 (uart ∷ Cast (with_checks u8 (site 9 CastSite ∷ [])) (chain u16 (site 10 DivZero ∷ []) Rem (read u16 ticks) (constant u16 256)) ∷ [])) ∷ [])) ∷ [])

-- `export proc drain() { if *uart.count > 0 { let b = pop(uart); send(b); } }`
abbrev pub drain : ProcCore
drain = procedure (codes "drain") [] None (u8 ∷ [])
    (If (chain Truth [] Gt (read u8 (count_of Global uart)) (constant u8 0)) (stmts (LetCall 0 (call_of 1 (uart ∷ [])) ∷ Call (import_with 1 (local u8 0 ∷ [])) ∷ [])) ∷ [])

abbrev pub ten_zeros : List ℤ
ten_zeros = pos 0 ∷ pos 0 ∷ pos 0 ∷ pos 0 ∷ pos 0 ∷ pos 0 ∷ pos 0 ∷ pos 0 ∷ pos 0 ∷ pos 0 ∷ []

-- `area ctrl : Ctrl;`, `area uart : struct Uart;`, `area ticks : uint16_t;`, `import led(on : bool);`, `import send(byte : uint8_t);`
abbrev pub driver : ModuleCore
driver = record {
  structs = types;
  layouts = ctrl_layout ∷ [];
  areas = stored_area (codes "ctrl") (Bits 0) (pos 0 ∷ []) ∷ record { name = codes "uart"; constant = false; area = Struct 0; first = ten_zeros }
      ∷ stored_area (codes "ticks") u16 (pos 0 ∷ []) ∷ [];
  imports = record { name = codes "led"; params = Truth ∷ []; result = None } ∷ record { name = codes "send"; params = u8 ∷ []; result = None } ∷ [];
  procs = push ∷ pop ∷ setup ∷ blink ∷ tick ∷ drain ∷ [];
}

-- ---- its runs

abbrev pub areas_with : ℕ → List ℤ → ℕ → List AreaCells
areas_with c cells t = cells_of (codes "ctrl") (pos c ∷ []) ∷ cells_of (codes "uart") cells ∷ cells_of (codes "ticks") (pos t ∷ []) ∷ []

abbrev pub set_up_script : ℕ → Script
set_up_script m = script ((codes "setup", pos m ∷ []) ∷ []) []

-- two ticks and a drain, so many times
abbrev pub rounds : ℕ → List (Name × List ℤ)
rounds zero = []
rounds (suc k) = (codes "tick", []) ∷ (codes "tick", []) ∷ (codes "drain", []) ∷ rounds k

abbrev pub passed : Name → ℕ → Event
passed name v = event.Call name (piece.Value (pos v) ∷ [])

abbrev pub whole_script : Script
whole_script = script ((codes "setup", pos 5 ∷ []) ∷ rounds 13) []

-- what they show, where the first of them sends v
abbrev pub round_events : ℕ → ℕ → List Event
round_events zero v = []
round_events (suc k) v =
    passed (codes "led") 0 ∷ ret (codes "tick") ∷ passed (codes "led") 1 ∷ ret (codes "tick") ∷ passed (codes "send") v ∷ ret (codes "drain") ∷ round_events k (suc v)

pub record DriverExamples : Type 0 where
  -- the entry call, the reading, two changes, the store
  pub set_up_in_five : run_src driver (set_up_script 5) 5 ≡ shown (ret (codes "setup") ∷ []) Ended (areas_with 11 ten_zeros 0)
  pub early : run_src driver (set_up_script 5) 4 ≡ going []
  pub too_wide : run_src driver (set_up_script 8) 10_000 ≡ shown [] (Stopped 6) (areas_with 0 ten_zeros 0)
  pub whole : run_src driver whole_script 100_000
      ≡ shown (ret (codes "setup") ∷ round_events 13 1) Ended (areas_with 11 (pos 5 ∷ pos 7 ∷ pos 19 ∷ pos 21 ∷ pos 23 ∷ pos 25 ∷ pos 13 ∷ pos 14 ∷ pos 15 ∷ pos 17 ∷ []) 26)
