-- Small procedures, and exactly the C that the map has for each.
use Rattle.std.specs.Prelude.{◌≡◌, ℕ, pos, true, false, List, [], ◌∷◌, map, Some, None, codes}
use Rattle.iv_words.specs.declared.IntKind.TheVariants.{U8, U16}
use Rattle.ivory_tree.specs.declared.BinOp.TheVariants.{Add, Eq, Lt, WrapAdd}
use Rattle.area_types.specs.Syntax.{ValueType, Truth, Int, Ix, Ref, Area, Stored, Array}
use Rattle.area_types.specs.declared.region.Region.TheVariants.{Global, Own}
use Rattle.core_tree.specs.declared.SiteKind.TheVariants.{Overflow, Pre, Post}
use Rattle.core_tree.specs.Syntax as core
use Rattle.core_tree.specs.Syntax.{ModuleCore, AreaCore, ProcCore, ExprCore, Outcome, Element}
use Rattle.core_meaning.specs.ExampleForms.{plain, site, constant, local, area, with_op, stmts, procedure, stored_area, module_of}
use Rattle.c_ast.specs.declared.Target.TheVariants.{T32}
use Rattle.c_ast.specs.declared.CScalar.TheVariants as scalar
use Rattle.c_ast.specs.declared.CBase.TheVariants as base
use Rattle.c_ast.specs.declared.CType.{CType}
use Rattle.c_ast.specs.declared.CType.TheVariants.{Void, Value}
use Rattle.c_ast.specs.declared.Suffix.TheVariants.{Plain}
use Rattle.c_ast.specs.declared.CUnary.TheVariants as prefix
use Rattle.c_ast.specs.declared.CBinary.TheVariants as c
use Rattle.c_ast.specs.Syntax.{Name, Expr, Number, Read, Unary, Binary, Cast, Place, Var, Member, Stmt, Const, Object, Assign, If, IfElse, Forever, Break, Return, Call, One, Many, NoInits, MoreInits, Function}
use Rattle.c_ast.specs.Syntax as syntax
use Rattle.c_ast.specs.View.{stmts_from}
use Rattle.lower_types.specs.Names.{array_name, local_name}
use Rattle.lower_statements.specs.Units.{lowered}

-- ---- writing

abbrev pub u8 : ValueType
u8 = Int U8

abbrev pub bytes : ℕ → Area
bytes n = Array n (Stored u8)

-- `area s : uint8_t; area xs : [4] uint8_t;`
abbrev pub areas : List AreaCore
areas = stored_area (codes "s") u8 (pos 0 ∷ []) ∷ record { name = codes "xs"; constant = false; area = bytes 4; first = pos 0 ∷ pos 0 ∷ pos 0 ∷ pos 0 ∷ [] } ∷ []

abbrev pub store : ExprCore
store = area (Stored u8) 0

abbrev pub xs : ExprCore
xs = area (bytes 4) 1

-- `xs[e]`
abbrev pub element : ExprCore → ExprCore
element e = Element (plain (Ref false Global (Stored u8))) xs e

abbrev pub alone : ProcCore → ModuleCore
alone p = module_of areas [] (p ∷ [])

abbrev pub functions_of : ProcCore → List Function
functions_of p = (lowered (alone p) T32).functions

abbrev pub named : Name → Expr
named x = Read (Var x)

abbrev pub n : ℕ → Expr
n v = Number v Plain

abbrev pub byte : CType
byte = Value (scalar.Int U8)

abbrev pub check : Expr → ℕ → Stmt
check e k = If (Unary prefix.Not e) (stmts_from (Call (record { name = codes "ivory_stop"; args = n k ∷ [] }) ∷ []))

abbrev pub idle : Stmt
idle = If (n 1) (stmts_from [])

abbrev pub function : CType → Name → List (Name × CType) → List Stmt → Function
function result name params body = record { hidden = false; name = name; params = map (λ x. record { name = x.0; ty = x.1 }) params; result = result; body = stmts_from body }

-- ---- returns and contracts

-- `export proc sum(x : uint8_t, y : uint8_t) -> uint8_t { return x + y; }`
abbrev pub sum : ProcCore
sum = procedure (codes "sum") (u8 ∷ u8 ∷ []) (Some u8) [] (core.Return (Some (with_op u8 (site 0 Overflow ∷ []) Add (local u8 0) (local u8 1))) ∷ [])

-- uint8_t iv_sum(uint8_t const iv_x, uint8_t const iv_y) {
--   if ((!(((uint8_t)(iv_x + iv_y)) >= iv_x))) { ivory_stop(0); }
--   return (iv_x + iv_y);
-- }
abbrev pub SumStands : Type 0
SumStands =
    functions_of sum
    ≡ function byte (codes "iv_sum") ((codes "iv_x", byte) ∷ (codes "iv_y", byte) ∷ []) (
    check (Binary c.Ge (Cast byte (Binary c.Add (named (codes "iv_x")) (named (codes "iv_y")))) (named (codes "iv_x"))) 0
    ∷ Return (Some (Binary c.Add (named (codes "iv_x")) (named (codes "iv_y")))) ∷ []) ∷ []

-- `export proc low(x : uint8_t) -> uint8_t requires(x < 9) ensures(result < 8) { return x; }`
abbrev pub low : ProcCore
low = record (procedure (codes "low") (u8 ∷ []) (Some u8) [] (core.Return (Some (local u8 0)) ∷ [])) {
  contracts = record { before = true; cond = with_op Truth [] Lt (local u8 0) (constant u8 9); check = site 0 Pre }
      ∷ record { before = false; cond = with_op Truth [] Lt (Outcome (plain u8)) (constant u8 8); check = site 1 Post } ∷ [];
}

-- uint8_t iv_low(uint8_t const iv_x) {
--   if (1) { } if ((!(iv_x < ((uint8_t)9)))) { ivory_stop(0); }
--   uint8_t const ivt_1 = iv_x;
--   if (1) { } if ((!(ivt_1 < ((uint8_t)8)))) { ivory_stop(1); }
--   return ivt_1;
-- }
abbrev pub LowStands : Type 0
LowStands =
    functions_of low
    ≡ function byte (codes "iv_low") ((codes "iv_x", byte) ∷ []) (
    idle ∷ check (Binary c.Lt (named (codes "iv_x")) (Cast byte (n 9))) 0
    ∷ Const (local_name 1) byte (named (codes "iv_x"))
    ∷ idle ∷ check (Binary c.Lt (named (local_name 1)) (Cast byte (n 8))) 1
    ∷ Return (Some (named (local_name 1))) ∷ []) ∷ []

-- a body without statements has none
abbrev pub EmptyStands : Type 0
EmptyStands = functions_of (procedure (codes "none") [] None [] []) ≡ function Void (codes "iv_none") [] [] ∷ []

-- ---- loops, choices and stores

-- `export proc fill(x : uint8_t) { map i : ix(4) { *xs[i] = x; } }`
abbrev pub fill : ProcCore
fill = procedure (codes "fill") (u8 ∷ []) None (Ix 4 ∷ []) (core.Map 1 4 (stmts (core.Store (element (local (Ix 4) 1)) (local u8 0) ∷ [])) ∷ [])

abbrev pub xs_at : Expr → Place
xs_at e = syntax.Element (Member (Var (codes "iv_xs")) (codes "at")) e

-- uint16_t ivt_1 = 0;
-- for (;;) { if (1) { } iv_xs.at[ivt_1] = iv_x; if ((!(ivt_1 != 3))) { break; } ivt_1 = (ivt_1 + 1); }
abbrev pub FillStands : Type 0
FillStands =
    functions_of fill
    ≡ function Void (codes "iv_fill") ((codes "iv_x", byte) ∷ []) (
    Object (local_name 1) (base.Scalar (scalar.Int U16)) (Some (One (n 0)))
    ∷ Forever (stmts_from (idle ∷ Assign (xs_at (named (local_name 1))) (named (codes "iv_x"))
    ∷ If (Unary prefix.Not (Binary c.Ne (named (local_name 1)) (n 3))) (stmts_from (Break ∷ []))
    ∷ Assign (Var (local_name 1)) (Binary c.Add (named (local_name 1)) (n 1)) ∷ [])) ∷ []) ∷ []

-- `export proc down(x : ix(4)) { downto i : ix(4) first x { *s = 1; } }`
abbrev pub down : ProcCore
down = procedure (codes "down") (Ix 4 ∷ []) None (Ix 4 ∷ []) (core.Downto 1 4 (local (Ix 4) 0) (stmts (core.Store store (constant u8 1) ∷ [])) ∷ [])

-- uint16_t ivt_1 = iv_x;
-- for (;;) { iv_s = 1; if ((!ivt_1)) { break; } ivt_1 = (ivt_1 - 1); }
abbrev pub DownStands : Type 0
DownStands =
    functions_of down
    ≡ function Void (codes "iv_down") ((codes "iv_x", Value (scalar.Int U16)) ∷ []) (
    Object (local_name 1) (base.Scalar (scalar.Int U16)) (Some (One (named (codes "iv_x"))))
    ∷ Forever (stmts_from (Assign (Var (codes "iv_s")) (n 1)
    ∷ If (Unary prefix.Not (named (local_name 1))) (stmts_from (Break ∷ []))
    ∷ Assign (Var (local_name 1)) (Binary c.Sub (named (local_name 1)) (n 1)) ∷ [])) ∷ []) ∷ []

-- `export proc pick(x : uint8_t, y : uint8_t) { let z = x +% y; if z == 3 { *s = z; } else { forever { break; } } }`
abbrev pub pick : ProcCore
pick = procedure (codes "pick") (u8 ∷ u8 ∷ []) None (u8 ∷ []) (
    core.Let 2 (with_op u8 [] WrapAdd (local u8 0) (local u8 1))
    ∷ core.IfElse (with_op Truth [] Eq (local u8 2) (constant u8 3)) (stmts (core.Store store (local u8 2) ∷ [])) (stmts (core.Forever (stmts (core.Break ∷ [])) ∷ [])) ∷ [])

-- if (1) { } uint8_t const ivt_2 = (iv_x + iv_y);
-- if (1) { } if ((!(ivt_2 != ((uint8_t)3)))) { iv_s = ivt_2; } else { for (;;) { break; } }
abbrev pub PickStands : Type 0
PickStands =
    functions_of pick
    ≡ function Void (codes "iv_pick") ((codes "iv_x", byte) ∷ (codes "iv_y", byte) ∷ []) (
    idle ∷ Const (local_name 2) byte (Binary c.Add (named (codes "iv_x")) (named (codes "iv_y")))
    ∷ idle ∷ IfElse (Unary prefix.Not (Binary c.Ne (named (local_name 2)) (Cast byte (n 3)))) (stmts_from (Assign (Var (codes "iv_s")) (named (local_name 2)) ∷ []))
    (stmts_from (Forever (stmts_from (Break ∷ [])) ∷ [])) ∷ []) ∷ []

-- ---- areas of a body, and copies

abbrev pub own : Area → ValueType
own a = Ref false Own a

-- `export proc keep(x : uint8_t) { alloc m : [4] uint8_t = {x, 7}; copy xs, m; }`
abbrev pub keep : ProcCore
keep = procedure (codes "keep") (u8 ∷ []) None (own (bytes 4) ∷ []) (
    core.Alloc 1 (bytes 4) (Some (core.Many (core.MoreInits (core.One (local u8 0)) (core.MoreInits (core.One (constant u8 7)) core.NoInits))))
    ∷ core.Copy xs (local (own (bytes 4)) 1) ∷ [])

-- struct iva_0 ivt_1 = {{iv_x, 7}};
-- uint16_t ivt_2 = 0;
-- for (;;) { iv_xs.at[ivt_2] = ivt_1.at[ivt_2]; if ((!(ivt_2 != 3))) { break; } ivt_2 = (ivt_2 + 1); }
abbrev pub KeepStands : Type 0
KeepStands =
    functions_of keep
    ≡ function Void (codes "iv_keep") ((codes "iv_x", byte) ∷ []) (
    Object (local_name 1) (base.Struct (array_name 0)) (Some (Many (MoreInits (Many (MoreInits (One (named (codes "iv_x"))) (MoreInits (One (n 7)) NoInits))) NoInits)))
    ∷ Object (local_name 2) (base.Scalar (scalar.Int U16)) (Some (One (n 0)))
    ∷ Forever (stmts_from (Assign (xs_at (named (local_name 2))) (Read (syntax.Element (Member (Var (local_name 1)) (codes "at")) (named (local_name 2))))
    ∷ If (Unary prefix.Not (Binary c.Ne (named (local_name 2)) (n 3))) (stmts_from (Break ∷ []))
    ∷ Assign (Var (local_name 2)) (Binary c.Add (named (local_name 2)) (n 1)) ∷ [])) ∷ []) ∷ []
