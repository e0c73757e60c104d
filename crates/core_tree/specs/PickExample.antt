-- A module with references: an area, a region parameter, an allocation, a call with two references to it, and stores.
--   area o : uint8_t;
--   proc p(a : ref r uint8_t, b : ref r uint8_t) -> ref r uint8_t { return b; }
--   export proc q(c : bool) { alloc m : uint8_t = 1; if c { let x = p(m, m); *x = 5; } *o = *m; }
use Rattle.std.specs.Prelude.{ℕ, pos, true, false, [], ◌∷◌, Some, None}
use Rattle.ivory_tree.specs.declared.expr.PrefixOp.TheVariants as prefix
use Rattle.area_types.specs.Syntax as types
use Rattle.area_types.specs.Syntax.{ValueType}
use Rattle.area_types.specs.declared.region.Region.{Region}
use Rattle.area_types.specs.declared.region.Region.TheVariants as region
use Rattle.core_tree.specs.Syntax.{ExprCore, Number, Local, AreaName, Prefix, One, Alloc, LetCall, Store, If, StmtsCore, MoreStmts, AreaCore, ProcCore, ModuleCore}
use Rattle.core_tree.specs.Examples.{plain, u8, one, returned}
use Rattle.core_tree.specs.Valid.{ValidCore}

-- a mutable reference to a byte
abbrev pub cell : Region → ValueType
cell r = types.Ref false r (types.Stored u8)

abbrev pub byte : ℕ → ExprCore
byte n = Number (plain u8) (pos n)

abbrev pub local : ValueType → ℕ → ExprCore
local ty number = Local (plain ty) number

abbrev pub out : AreaCore
out = record { name = 111 ∷ []; constant = false; area = types.Stored u8; first = pos 0 ∷ [] }

abbrev pub pick : ProcCore
pick = record { name = 112 ∷ []; exported = false; params = record { name = 97 ∷ []; ty = cell (region.Param 0) } ∷ record { name = 98 ∷ []; ty = cell (region.Param 0) } ∷ []; result = Some (cell (region.Param 0)); contracts = []; locals = cell (region.Param 0) ∷ cell (region.Param 0) ∷ []; body = returned (local (cell (region.Param 0)) 1) }

abbrev pub picked : StmtsCore
picked = MoreStmts (LetCall 2 (record { import = false; callee = 0; args = local (cell region.Own) 1 ∷ local (cell region.Own) 1 ∷ [] })) (one (Store (local (cell region.Own) 2) (byte 5)))

abbrev pub kept : StmtsCore
kept = one (Store (AreaName (plain (cell region.Global)) 0) (Prefix (plain u8) prefix.Deref (local (cell region.Own) 1)))

abbrev pub go : ProcCore
go = record { name = 113 ∷ []; exported = true; params = record { name = 99 ∷ []; ty = types.Truth } ∷ []; result = None; contracts = []; locals = types.Truth ∷ cell region.Own ∷ cell region.Own ∷ []; body = MoreStmts (Alloc 1 (types.Stored u8) (Some (One (byte 1)))) (MoreStmts (If (local types.Truth 0) picked) kept) }

abbrev pub picker : ModuleCore
picker = record { structs = record { structs = []; words = [] }; layouts = []; areas = out ∷ []; imports = []; procs = pick ∷ go ∷ [] }

abbrev pub PickIsValid : Type 0
PickIsValid = ValidCore picker
