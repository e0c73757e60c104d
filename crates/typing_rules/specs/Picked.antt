-- A module in which a procedure returns one of the references that it is given, and its core: the callee's region stands for the caller's own.
use Rattle.std.specs.Prelude.{pos, true, false, [], ◌∷◌, Some, None, codes}
use Rattle.iv_words.specs.declared.IntKind.TheVariants.{U8}
use Rattle.ivory_tree.specs.Syntax as syntax
use Rattle.ivory_tree.specs.Syntax.{HeaderSyntax, ProcSyntax, GlobalSyntax, ModuleSyntax}
use Rattle.ivory_tree.specs.declared.expr.PrefixOp.TheVariants.{Deref}
use Rattle.area_types.specs.Syntax.{ValueType, Truth, Int, Ref, Area, Stored}
use Rattle.area_types.specs.declared.region.Region.{Region}
use Rattle.area_types.specs.declared.region.Region.TheVariants.{Global, Param, Own}
use Rattle.core_tree.specs.Syntax as core
use Rattle.core_tree.specs.Syntax.{AreaCore, ProcCore, ModuleCore}
use Rattle.source_types.specs.Short.{span, name, cell, byte_in_r, variable, number, block, param, call, header, module_m}
use Rattle.typing_rules.specs.Sites.{unchecked}
use Rattle.typing_rules.specs.WellTyped.{Stands}

-- `module m;` / `area out : uint8_t;`
abbrev pub out : GlobalSyntax
out = record { name = name (codes "out") 15 18; constant = false; area = cell 21 28; init = None; span = span 10 29 }

-- `proc pick(a : ref r uint8_t, b : ref r uint8_t) -> ref r uint8_t {` / `  return b;` / `}`
abbrev pub pick_header : HeaderSyntax
pick_header = header (name (codes "pick") 35 39) (param (name (codes "a") 40 41) (byte_in_r 44 57 50) 40 57 ∷ param (name (codes "b") 59 60) (byte_in_r 63 76 69) 59 76 ∷ []) (Some (byte_in_r 81 94 87)) 35 94

abbrev pub pick : ProcSyntax
pick = record { exported = false; header = pick_header; contracts = []; body = block 95 110 (syntax.Return (span 99 108) (Some (variable (codes "b") 106 107)) ∷ []); span = span 30 110 }

-- `export proc go(c : bool) {` / `  alloc p : uint8_t = 1;` / `  if c {` / `    let x = pick(p, p);` / `    *x = 5;` / `  }` / `  *out = *p;` / `}`
abbrev pub go_header : HeaderSyntax
go_header = header (name (codes "go") 123 125) (param (name (codes "c") 126 127) (syntax.TruthType (span 130 134)) 126 134 ∷ []) None 123 135

abbrev pub go : ProcSyntax
go = record {
  exported = true;
  header = go_header;
  contracts = [];
  span = span 111 226;
  body = block 136 226 (syntax.Alloc (span 140 162) (name (codes "p") 146 147) (cell 150 157) (Some (syntax.One (number 1 160 161)))
      ∷ syntax.If (span 165 211) (variable (codes "c") 168 169) (block 170 211
      (syntax.LetCall (span 176 195) (name (codes "x") 180 181) (call (name (codes "pick") 184 188) (variable (codes "p") 189 190 ∷ variable (codes "p") 192 193 ∷ []) 184 194)
      ∷ syntax.Store (span 200 207) (variable (codes "x") 201 202) (number 5 205 206) ∷ []))
      ∷ syntax.Store (span 214 224) (variable (codes "out") 215 218) (syntax.Prefix (span 221 223) Deref (variable (codes "p") 222 223)) ∷ []);
}

abbrev pub picked : ModuleSyntax
picked = module_m (syntax.Global out ∷ syntax.Procedure pick ∷ syntax.Procedure go ∷ []) 226

-- ---- its core

abbrev pub byte_area : Area
byte_area = Stored (Int U8)

-- a mutable reference to a byte
abbrev pub byte_at : Region → ValueType
byte_at region = Ref false region byte_area

abbrev pub out_core : AreaCore
out_core = record { name = codes "out"; constant = false; area = byte_area; first = pos 0 ∷ [] }

abbrev pub pick_core : ProcCore
pick_core = record {
  name = codes "pick";
  exported = false;
  params = record { name = codes "a"; ty = byte_at (Param 0) } ∷ record { name = codes "b"; ty = byte_at (Param 0) } ∷ [];
  result = Some (byte_at (Param 0));
  contracts = [];
  locals = byte_at (Param 0) ∷ byte_at (Param 0) ∷ [];
  body = core.MoreStmts (core.Return (Some (core.Local (unchecked (byte_at (Param 0))) 1))) core.NoStmts;
}

abbrev pub go_core : ProcCore
go_core = record {
  name = codes "go";
  exported = true;
  params = record { name = codes "c"; ty = Truth } ∷ [];
  result = None;
  contracts = [];
  locals = Truth ∷ byte_at Own ∷ byte_at Own ∷ [];
  body = core.MoreStmts (core.Alloc 1 byte_area (Some (core.One (core.Number (unchecked (Int U8)) (pos 1)))))
      (core.MoreStmts (core.If (core.Local (unchecked Truth) 0)
      (core.MoreStmts (core.LetCall 2 (record { import = false; callee = 0; args = core.Local (unchecked (byte_at Own)) 1 ∷ core.Local (unchecked (byte_at Own)) 1 ∷ [] }))
      (core.MoreStmts (core.Store (core.Local (unchecked (byte_at Own)) 2) (core.Number (unchecked (Int U8)) (pos 5))) core.NoStmts)))
      (core.MoreStmts (core.Store (core.AreaName (unchecked (byte_at Global)) 0) (core.Prefix (unchecked (Int U8)) Deref (core.Local (unchecked (byte_at Own)) 1))) core.NoStmts));
}

abbrev pub picked_core : ModuleCore
picked_core = record { structs = record { structs = []; words = [] }; layouts = []; areas = out_core ∷ []; imports = []; procs = pick_core ∷ go_core ∷ [] }

abbrev pub PickedStands : Type 0
PickedStands = Stands picked picked_core
