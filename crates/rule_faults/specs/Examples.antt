-- Small modules and their first faults. Each text begins with `module m;` and a line end.
use Rattle.std.specs.Prelude.{◌≡◌, true, false, [], ◌∷◌, Some, None, codes}
use Rattle.iv_words.specs.declared.IntKind.TheVariants.{U8}
use Rattle.ivory_tree.specs.Syntax.{TruthType, Cast, Prefix, Binary, One, Let, LetCall, Alloc, Store, Call, If, IfElse, Forever, Break, Return, NoBreak, BitsData, Global, ModuleSyntax}
use Rattle.ivory_tree.specs.declared.expr.BinOp.TheVariants.{Add}
use Rattle.ivory_tree.specs.declared.expr.PrefixOp.TheVariants.{Neg, Deref}
use Rattle.source_types.specs.Short.{span, name, byte, cell, byte_in_r, variable, number, block, param, call, header, procedure, module_m}
use Rattle.rule_faults.specs.FirstFault.{FirstFault, module_in_order}

-- `proc bad(p : ref r uint8_t) -> ref r uint8_t {` / `  alloc x : uint8_t;` / `  return x;` / `}`
abbrev pub own_returned : ModuleSyntax
own_returned = module_m (procedure false (header (name (codes "bad") 15 18) (param (name (codes "p") 19 20) (byte_in_r 23 36 29) 19 36 ∷ []) (Some (byte_in_r 41 54 47)) 15 54)
    (block 55 91 (Alloc (span 59 77) (name (codes "x") 65 66) (cell 69 76) None ∷ Return (span 80 89) (Some (variable (codes "x") 87 88)) ∷ [])) 10 91 ∷ []) 91

-- a reference to an area of the procedure's own is not returned
abbrev pub OwnIsNotReturned : Type 0
OwnIsNotReturned = FirstFault own_returned 38 (span 87 88)

-- `area out : uint8_t;` / `proc pick(a : ref r uint8_t, b : ref r uint8_t) -> ref r uint8_t {` / `  return b;` / `}` /
-- `export proc go(c : bool) {` / `  alloc p : uint8_t = 1;` / `  if c {` / `    let x = pick(out, p);` / `    *x = 5;` / `  }` / `  *out = *p;` / `}`
abbrev pub two_regions : ModuleSyntax
two_regions = module_m
    (Global (record { name = name (codes "out") 15 18; constant = false; area = cell 21 28; init = None; span = span 10 29 })
    ∷ procedure false (header (name (codes "pick") 35 39) (param (name (codes "a") 40 41) (byte_in_r 44 57 50) 40 57 ∷ param (name (codes "b") 59 60) (byte_in_r 63 76 69) 59 76 ∷ []) (Some (byte_in_r 81 94 87)) 35 94)
    (block 95 110 (Return (span 99 108) (Some (variable (codes "b") 106 107)) ∷ [])) 30 110
    ∷ procedure true (header (name (codes "go") 123 125) (param (name (codes "c") 126 127) (TruthType (span 130 134)) 126 134 ∷ []) None 123 135)
    (block 136 228
    (Alloc (span 140 162) (name (codes "p") 146 147) (cell 150 157) (Some (One (number 1 160 161)))
    ∷ If (span 165 213) (variable (codes "c") 168 169)
    (block 170 213 (LetCall (span 176 197) (name (codes "x") 180 181) (call (name (codes "pick") 184 188) (variable (codes "out") 189 192 ∷ variable (codes "p") 194 195 ∷ []) 184 196)
    ∷ Store (span 202 209) (variable (codes "x") 203 204) (number 5 207 208) ∷ []))
    ∷ Store (span 216 226) (variable (codes "out") 217 220) (Prefix (span 223 225) Deref (variable (codes "p") 224 225)) ∷ [])) 111 228
    ∷ []) 228

-- one region parameter is not global and the caller's own
abbrev pub TwoRegionsClash : Type 0
TwoRegionsClash = FirstFault two_regions 35 (span 194 195)

-- its nodes are in the order of the text
abbrev pub NodesAreInOrder : Type 0
NodesAreInOrder = module_in_order two_regions ≡ true

-- `export proc f() {` / `  forever { nobreak { break; } }` / `}`
abbrev pub narrowed_break : ModuleSyntax
narrowed_break = module_m (procedure true (header (name (codes "f") 22 23) [] None 22 25)
    (block 26 62 (Forever (span 30 60) (block 38 60 (NoBreak (span 40 58) (block 48 58 (Break (span 50 56) ∷ [])) ∷ [])) ∷ [])) 10 62 ∷ []) 62

abbrev pub NarrowedBreak : Type 0
NarrowedBreak = FirstFault narrowed_break 42 (span 50 56)

-- `export proc f() { let x = 5; }`
abbrev pub five : ModuleSyntax
five = module_m (procedure true (header (name (codes "f") 22 23) [] None 22 25) (block 26 40 (Let (span 28 38) (name (codes "x") 32 33) (number 5 36 37) ∷ [])) 10 40 ∷ []) 40

-- nothing is wanted of the literal
abbrev pub NothingIsWanted : Type 0
NothingIsWanted = FirstFault five 18 (span 36 37)

-- `export proc f() { let x = uint8_t(256); }`
abbrev pub too_great : ModuleSyntax
too_great = module_m (procedure true (header (name (codes "f") 22 23) [] None 22 25) (block 26 51 (Let (span 28 49) (name (codes "x") 32 33) (Cast (span 36 48) U8 (number 256 44 47)) ∷ [])) 10 51 ∷ []) 51

-- `uint8_t` does not hold it
abbrev pub LiteralIsTooGreat : Type 0
LiteralIsTooGreat = FirstFault too_great 19 (span 44 47)

-- `proc f() -> bool { forever { break; } }`
abbrev pub left_loop : ModuleSyntax
left_loop = module_m (procedure false (header (name (codes "f") 15 16) [] (Some (TruthType (span 22 26))) 15 26)
    (block 27 49 (Forever (span 29 47) (block 37 47 (Break (span 39 45) ∷ [])) ∷ [])) 10 49 ∷ []) 49

-- the body falls through
abbrev pub BodyFallsThrough : Type 0
BodyFallsThrough = FirstFault left_loop 44 (span 27 49)

-- `bitdata B : uint8_t { x : 3, y : 4 }`
abbrev pub short_fields : ModuleSyntax
short_fields = module_m (BitsData (record {
  name = name (codes "B") 18 19;
  word = U8;
  span = span 10 46;
  fields = record { name = name (codes "x") 32 33; width = 3; truth = false; span = span 32 37 } ∷ record { name = name (codes "y") 39 40; width = 4; truth = false; span = span 39 44 } ∷ [];
}) ∷ []) 46

-- the widths miss the word
abbrev pub WidthsMissTheWord : Type 0
WidthsMissTheWord = FirstFault short_fields 10 (span 10 46)

-- `proc f(x : uint8_t) {` / `  if -x {}` / `}`
abbrev pub two_rules : ModuleSyntax
two_rules = module_m (procedure false (header (name (codes "f") 15 16) (param (name (codes "x") 17 18) (byte 21 28) 17 28 ∷ []) None 15 29)
    (block 30 44 (If (span 34 42) (Prefix (span 37 39) Neg (variable (codes "x") 38 39)) (block 40 42 []) ∷ [])) 10 44 ∷ []) 44

-- `-x` is no bool, and `-` is not for uint8_t: the least rule counts
abbrev pub LeastRuleCounts : Type 0
LeastRuleCounts = FirstFault two_rules 20 (span 37 39)

-- `proc f(x : uint8_t) { if x + y {} }`
abbrev pub two_nodes : ModuleSyntax
two_nodes = module_m (procedure false (header (name (codes "f") 15 16) (param (name (codes "x") 17 18) (byte 21 28) 17 28 ∷ []) None 15 29)
    (block 30 45 (If (span 32 43) (Binary (span 35 40) Add (span 37 38) (variable (codes "x") 35 36) (variable (codes "y") 39 40)) (block 41 43 []) ∷ [])) 10 45 ∷ []) 45

-- the sum is no bool, and y is unknown: the outer node counts
abbrev pub OuterNodeCounts : Type 0
OuterNodeCounts = FirstFault two_nodes 20 (span 35 40)

-- `proc f(b : bool) {` / `  if b {} else { let c = b; }` / `  let d = c;` / `}`
abbrev pub after_else : ModuleSyntax
after_else = module_m (procedure false (header (name (codes "f") 15 16) (param (name (codes "b") 17 18) (TruthType (span 21 25)) 17 25 ∷ []) None 15 26)
    (block 27 73 (IfElse (span 31 58) (variable (codes "b") 34 35) (block 36 38 []) (block 44 58 (Let (span 46 56) (name (codes "c") 50 51) (variable (codes "b") 54 55) ∷ []))
    ∷ Let (span 61 71) (name (codes "d") 65 66) (variable (codes "c") 69 70) ∷ [])) 10 73 ∷ []) 73

-- what the `else` block names is not known after it
abbrev pub ElseBlockEnds : Type 0
ElseBlockEnds = FirstFault after_else 4 (span 69 70)

-- `proc f() { g(); }` / `proc g() {}`
abbrev pub later_call : ModuleSyntax
later_call = module_m
    (procedure false (header (name (codes "f") 15 16) [] None 15 18) (block 19 27 (Call (span 21 25) (call (name (codes "g") 21 22) [] 21 24) ∷ [])) 10 27
    ∷ procedure false (header (name (codes "g") 33 34) [] None 33 36) (block 37 39 []) 28 39 ∷ []) 39

abbrev pub LaterIsNotCalled : Type 0
LaterIsNotCalled = FirstFault later_call 7 (span 21 24)
