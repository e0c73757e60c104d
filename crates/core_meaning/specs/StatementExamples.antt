-- Statements and their steps: loops that count from both ends, ways out of them, choices, conditions and contracts.
use Rattle.std.specs.Prelude.{◌≡◌, ℕ, ℤ, pos, true, false, List, [], ◌∷◌, Some, None, codes}
use Rattle.iv_words.specs.declared.IntKind.TheVariants.{U8}
use Rattle.run_records.specs.declared.End.{End}
use Rattle.run_records.specs.declared.End.TheVariants.{Ended, Stopped}
use Rattle.run_records.specs.declared.Event.{Event}
use Rattle.run_records.specs.declared.Outcome.{Outcome}
use Rattle.ivory_tree.specs.declared.BinOp.TheVariants.{Div, Add, WrapAdd, WrapMul, Lt, Gt}
use Rattle.area_types.specs.Syntax.{Name, ValueType, Truth, Int, Ix, Stored, Ref, Area, Array}
use Rattle.area_types.specs.declared.region.Region.TheVariants.{Global, Own}
use Rattle.core_tree.specs.declared.SiteKind.TheVariants.{Overflow, DivZero, Index, Assert as AssertSite, Pre, Post}
use Rattle.core_tree.specs.Syntax.{ModuleCore, ProcCore, ContractCore, ExprCore, Outcome as Result, Cast, ToIndex, Cond, Element, Whole, One, Many, NoInits, MoreInits}
use Rattle.core_tree.specs.Syntax.{StmtCore, Let, LetCall, Alloc, Store, Copy, Call, If, IfElse, Map, Upto, Downto, Forever, Break, Return, Assert, NoAlloc, NoBreak, NoReturn}
use Rattle.core_meaning.specs.Run.{run_src}
use Rattle.core_meaning.specs.ExampleForms.{plain, site, with_checks, constant, local, area, read, chain, with_op, stmts, procedure, stored_area, module_of, script, shown, going, cells_of, ret, gave}

abbrev pub u8 : ValueType
u8 = Int U8

-- `area n : uint8_t;`, and procedures over it
abbrev pub over_n : List ProcCore → ModuleCore
over_n procs = module_of (stored_area (codes "n") u8 (pos 0 ∷ []) ∷ []) [] procs

abbrev pub n : ExprCore
n = area (Stored u8) 0

abbrev pub run_of : List ProcCore → List (Name × List ℤ) → ℕ → Outcome
run_of procs calls steps = run_src (over_n procs) (script calls []) steps

-- one call, with these numbers
abbrev pub one_of : List ProcCore → Name → List ℤ → ℕ → Outcome
one_of procs name values steps = run_of procs ((name, values) ∷ []) steps

abbrev pub comes : List Event → End → ℕ → Outcome
comes events end v = shown events end (cells_of (codes "n") (pos v ∷ []) ∷ [])

-- ---- loops

-- `*n = *n + 1;`
abbrev pub increment : ℕ → StmtCore
increment k = Store n (chain u8 (site k Overflow ∷ []) Add (read u8 n) (constant u8 1))

-- `export proc up() { map i : ix(1) { *n = *n + 1; } }`
abbrev pub up : ProcCore
up = procedure (codes "up") [] None (Ix 1 ∷ []) (Map 0 1 (stmts (increment 0 ∷ [])) ∷ [])

-- `export proc down(k : uint8_t) { downto j : ix(4) first toix(4, k) { *n = *n + 1; } }`
abbrev pub down : ProcCore
down = procedure (codes "down") (u8 ∷ []) None (Ix 4 ∷ []) (Downto 1 4 (ToIndex (with_checks (Ix 4) (site 1 Index ∷ [])) (local u8 0)) (stmts (increment 2 ∷ [])) ∷ [])

abbrev pub up_and_down : List ProcCore
up_and_down = up ∷ down ∷ []

pub record LoopExamples : Type 0 where
  pub both : run_of up_and_down ((codes "up", []) ∷ (codes "down", pos 0 ∷ []) ∷ (codes "down", pos 3 ∷ []) ∷ (codes "down", pos 4 ∷ []) ∷ []) 10_000
      ≡ comes (ret (codes "up") ∷ ret (codes "down") ∷ ret (codes "down") ∷ []) (Stopped 1) 6
  -- the call, the loop, its turn, the reading, the sum, the store
  pub up_in_six : one_of up_and_down (codes "up") [] 6 ≡ comes (ret (codes "up") ∷ []) Ended 1
  pub up_in_five : one_of up_and_down (codes "up") [] 5 ≡ going []
  -- the call, the index, the loop, and four turns of four steps
  pub down_in_nineteen : one_of up_and_down (codes "down") (pos 3 ∷ []) 19 ≡ comes (ret (codes "down") ∷ []) Ended 4
  pub down_in_eighteen : one_of up_and_down (codes "down") (pos 3 ∷ []) 18 ≡ going []

-- `*n = *n *% 10 +% uint8_t(i);`, which notes the turns
abbrev pub note : StmtCore
note = Store n (chain u8 [] WrapAdd (with_op u8 [] WrapMul (read u8 n) (constant u8 10)) (Cast (plain u8) (local (Ix 3) 0)))

abbrev pub looping : StmtCore → ProcCore
looping loop = procedure (codes "go") [] None (Ix 3 ∷ []) (loop ∷ [])

abbrev pub after_loop : StmtCore → ℕ → Outcome
after_loop loop steps = one_of (looping loop ∷ []) (codes "go") [] steps

abbrev pub gone : ℕ → Outcome
gone v = comes (ret (codes "go") ∷ []) Ended v

pub record TurnExamples : Type 0 where
  pub from_zero : after_loop (Map 0 3 (stmts (note ∷ []))) 20 ≡ gone 12
  pub in_nineteen : after_loop (Map 0 3 (stmts (note ∷ []))) 19 ≡ going []
  pub up_to_the_bound : after_loop (Upto 0 3 (constant (Ix 3) 1) (stmts (note ∷ []))) 14 ≡ gone 1
  pub down_from_the_bound : after_loop (Downto 0 3 (constant (Ix 3) 2) (stmts (note ∷ []))) 20 ≡ gone 210
  -- a break leaves its own loop, and falls through there
  pub broken : after_loop (Map 0 3 (stmts (note ∷ Break ∷ []))) 9 ≡ gone 0
  pub broken_early : after_loop (Map 0 3 (stmts (note ∷ Break ∷ []))) 8 ≡ going []
  pub endless : after_loop (Forever (stmts [])) 1_000 ≡ going []
  pub left : after_loop (Forever (stmts (increment 0 ∷ Break ∷ []))) 6 ≡ gone 1
  pub left_early : after_loop (Forever (stmts (increment 0 ∷ Break ∷ []))) 5 ≡ going []
  -- a return leaves them all
  pub returned : after_loop (Forever (stmts (Map 0 3 (stmts (increment 0 ∷ Return None ∷ [])) ∷ []))) 8 ≡ gone 1

-- ---- order: which of two checks that fail stops the run

-- `1 / 0`
abbrev pub failing : ℕ → ExprCore
failing k = chain u8 (site k DivZero ∷ []) Div (constant u8 1) (constant u8 0)

abbrev pub zeros : List ℤ
zeros = pos 0 ∷ pos 0 ∷ pos 0 ∷ pos 0 ∷ []

abbrev pub bytes : Area
bytes = Array 2 (Stored u8)

-- `area d : [2][2] uint8_t;`, `import two(a : uint8_t, b : uint8_t);`, and a procedure of one statement
abbrev pub over_d : List ValueType → StmtCore → ModuleCore
over_d locals s = module_of
    (record { name = codes "d"; constant = false; area = Array 2 bytes; first = zeros } ∷ []) (record { name = codes "two"; params = u8 ∷ u8 ∷ []; result = None } ∷ [])
    (procedure (codes "go") [] None locals (s ∷ []) ∷ [])

-- `d[toix(2, 5)]`, and `d[toix(2, 5)][0]`
abbrev pub past : ℕ → ExprCore
past k = Element (plain (Ref false Global bytes)) (area (Array 2 bytes) 0) (ToIndex (with_checks (Ix 2) (site k Index ∷ [])) (constant u8 5))

abbrev pub cell_past : ℕ → ExprCore
cell_past k = Whole (plain (Ref false Global (Stored u8))) (Element (plain (Ref false Global (Stored u8))) (past k) (constant (Ix 2) 0))

abbrev pub StopsAt : List ValueType → StmtCore → ℕ → Type 0
StopsAt locals s k = run_src (over_d locals s) (script ((codes "go", []) ∷ []) []) 10_000 ≡ shown [] (Stopped k) (cells_of (codes "d") zeros ∷ [])

pub record OrderExamples : Type 0 where
  -- `*d[toix(2, 5)][0] = 1 / 0;`: the value comes before the reference
  pub store : StopsAt [] (Store (cell_past 0) (failing 1)) 1
  -- `copy d[toix(2, 5)], d[toix(2, 5)];`: the target comes first
  pub copy : StopsAt [] (Copy (past 0) (past 1)) 0
  pub operands : StopsAt (u8 ∷ []) (Let 0 (chain u8 (site 1 Overflow ∷ []) Add (failing 0) (failing 2))) 0
  pub arguments : StopsAt [] (Call (record { import = true; callee = 0; args = failing 0 ∷ failing 1 ∷ [] })) 0
  pub elements : StopsAt (Ref false Own bytes ∷ []) (Alloc 0 bytes (Some (Many (MoreInits (One (failing 0)) (MoreInits (One (failing 1)) NoInits))))) 0
  -- the array comes before its index
  pub index : StopsAt (Ref false Global (Stored u8) ∷ []) (Let 0 (Element (plain (Ref false Global (Stored u8))) (past 0) (ToIndex (with_checks (Ix 2) (site 1 Index ∷ [])) (constant u8 5)))) 0

-- ---- choices, conditions, blocks that narrow what is allowed

-- `export proc pick(c : bool) -> uint8_t { if c { return 1; } else { return 2; } }`, and with `let x = c ? 1 : 2; return x;`
abbrev pub pick : ProcCore
pick = procedure (codes "pick") (Truth ∷ []) (Some u8) [] (IfElse (local Truth 0) (stmts (Return (Some (constant u8 1)) ∷ [])) (stmts (Return (Some (constant u8 2)) ∷ [])) ∷ [])

abbrev pub choose : ProcCore
choose = procedure (codes "pick") (Truth ∷ []) (Some u8) (u8 ∷ []) (Let 1 (Cond (plain u8) (local Truth 0) (constant u8 1) (constant u8 2)) ∷ Return (Some (local u8 1)) ∷ [])

abbrev pub picked : ℕ → Outcome
picked v = comes (gave (codes "pick") (pos v) ∷ []) Ended 0

pub record ChoiceExamples : Type 0 where
  pub first : one_of (pick ∷ []) (codes "pick") (pos 1 ∷ []) 3 ≡ picked 1
  pub second : one_of (pick ∷ []) (codes "pick") (pos 0 ∷ []) 3 ≡ picked 2
  pub early : one_of (pick ∷ []) (codes "pick") (pos 0 ∷ []) 2 ≡ going []
  pub first_arm : one_of (choose ∷ []) (codes "pick") (pos 1 ∷ []) 4 ≡ picked 1
  pub second_arm : one_of (choose ∷ []) (codes "pick") (pos 0 ∷ []) 4 ≡ picked 2
  pub arm_early : one_of (choose ∷ []) (codes "pick") (pos 0 ∷ []) 3 ≡ going []
  -- a narrowing block takes no step
  pub narrowed : after_loop (NoAlloc (stmts (NoBreak (stmts (NoReturn (stmts (increment 0 ∷ [])) ∷ [])) ∷ []))) 4 ≡ gone 1

-- `export proc sure(c : bool) { assert(c); }`
abbrev pub sure : ProcCore
sure = procedure (codes "sure") (Truth ∷ []) None [] (Assert (local Truth 0) (site 0 AssertSite) ∷ [])

pub record AssertExamples : Type 0 where
  pub true_ : one_of (sure ∷ []) (codes "sure") (pos 1 ∷ []) 2 ≡ comes (ret (codes "sure") ∷ []) Ended 0
  pub false_ : one_of (sure ∷ []) (codes "sure") (pos 0 ∷ []) 2 ≡ comes [] (Stopped 0) 0
  pub early : one_of (sure ∷ []) (codes "sure") (pos 0 ∷ []) 1 ≡ going []

-- ---- calls and contracts

abbrev pub with_contracts : List ContractCore → ProcCore → ProcCore
with_contracts contracts p = record p { contracts = contracts }

-- `proc small(a : uint8_t) -> uint8_t requires(a > 0) ensures(result < 10) { return a; }`
abbrev pub small : ProcCore
small = with_contracts
    (record { before = true; cond = chain Truth [] Gt (local u8 0) (constant u8 0); check = site 0 Pre }
    ∷ record { before = false; cond = chain Truth [] Lt (Result (plain u8)) (constant u8 10); check = site 1 Post } ∷ [])
    (procedure (codes "small") (u8 ∷ []) (Some u8) [] (Return (Some (local u8 0)) ∷ []))

-- `export proc ask(a : uint8_t) -> uint8_t { let x = small(a); return x; }`
abbrev pub ask : ProcCore
ask = procedure (codes "ask") (u8 ∷ []) (Some u8) (u8 ∷ []) (LetCall 1 (record { import = false; callee = 0; args = local u8 0 ∷ [] }) ∷ Return (Some (local u8 1)) ∷ [])

abbrev pub asked : ℕ → ℕ → Outcome
asked v steps = one_of (small ∷ ask ∷ []) (codes "ask") (pos v ∷ []) steps

-- `export proc zero() ensures(*n < 1) { *n = *n + 1; }`, and the same that returns, from a block
abbrev pub ensuring : List StmtCore → ProcCore
ensuring body = with_contracts (record { before = false; cond = chain Truth [] Lt (read u8 n) (constant u8 1); check = site 1 Post } ∷ []) (procedure (codes "zero") [] None [] body)

pub record ContractExamples : Type 0 where
  -- the entry call, the call, the comparison and its test, the return, the comparison and its test, the return
  pub both_hold : asked 9 8 ≡ comes (gave (codes "ask") (pos 9) ∷ []) Ended 0
  pub early : asked 9 7 ≡ going []
  -- what is required is tested behind the call's step
  pub before : asked 0 4 ≡ comes [] (Stopped 0) 0
  pub before_early : asked 0 3 ≡ going []
  pub behind : asked 10 7 ≡ comes [] (Stopped 1) 0
  pub behind_early : asked 10 6 ≡ going []
  -- the outside's own call is tested too
  pub outside : one_of (small ∷ []) (codes "small") (pos 0 ∷ []) 3 ≡ comes [] (Stopped 0) 0
  -- falling off takes no step, and tests what is ensured
  pub falls_off : one_of (ensuring [] ∷ []) (codes "zero") [] 4 ≡ comes (ret (codes "zero") ∷ []) Ended 0
  pub fails_there : one_of (ensuring (increment 0 ∷ []) ∷ []) (codes "zero") [] 7 ≡ comes [] (Stopped 1) 1
  pub returns : one_of (ensuring (If (constant Truth 1) (stmts (increment 0 ∷ Return None ∷ [])) ∷ []) ∷ []) (codes "zero") [] 9 ≡ comes [] (Stopped 1) 1
