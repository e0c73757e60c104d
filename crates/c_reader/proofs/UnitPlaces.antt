-- Every rule is asked for at a place within the text: statements, declarations and units.
use Rattle.std.proofs.Common.{◌≡◌, ℕ, ◌+◌, ◌≤◌, Bool, true, List, [], ◌∷◌, ◌++◌, map, length, codes, Option, Some, None, refl, ap, subst, append_assoc, length-append, arith}
use Rattle.std.specs.Option.{option_and_then}
use Rattle.c_ast.specs.declared.types.CScalar.{CScalar}
use Rattle.c_ast.specs.declared.types.CType.{CType}
use Rattle.c_ast.specs.declared.types.CType.TheVariants.{Value}
use Rattle.c_ast.specs.declared.types.CBase.{CBase}
use Rattle.c_ast.specs.declared.types.Target.{Target}
use Rattle.c_ast.specs.declared.unit.CMember.{CMember}
use Rattle.c_ast.specs.declared.unit.CStruct.{CStruct}
use Rattle.c_ast.specs.declared.unit.CExtern.{CExtern}
use Rattle.c_ast.specs.declared.unit.CParam.{CParam}
use Rattle.c_ast.specs.Names.{stop_name}
use Rattle.c_ast.specs.Signatures.{Signature, stop_signature, extern_signature, function_signature}
use Rattle.c_ast.specs.StaticTypes.{Entity, ObjectName, assigned_scalar}
use Rattle.c_ast.specs.Structs.{tree}
use Rattle.c_ast.specs.Syntax.{Name, Expr, Init, Stmt, Const, ConstCall, Object, Assign, If, IfElse, Forever, Break, Return, Block, Call, Stmts, Nil, Cons, FileObject, Function, TranslationUnit}
use Rattle.c_text.specs.TypeText.{line, listed, texts, base_text, type_text, gap_text, typed_text, const_text, object_text}
use Rattle.c_text.specs.ExpressionText.{expr_text, place_text, init_text, call_text}
use Rattle.c_text.specs.StatementText.{indent, first_value_text, return_text, stmt_text, block_text, stmts_text}
use Rattle.c_text.specs.Spelling.{length_text, member_text, struct_text, params_text, extern_text, base_const_text, file_object_text, storage_text, param_text, function_text, fixed_text, unit_text}
use Rattle.c_text.specs.Rules.{Demand, behind}
use Rattle.c_text.specs.Scopes.{Names, after, new_name, with_const}
use Rattle.c_text.specs.ExpressionRules.{base_demands, type_demands, place_of, place_demands, given_demands, tested_demands, call_demands, init_demands}
use Rattle.c_text.specs.StatementRules.{first_value_demands, assigned_demands, return_demands, stmt_demands, stmts_demands}
use Rattle.c_text.specs.UnitRules.{file_scope, file_name, params_demands, with_params, inside, types_demands, extern_demands, member_demands, members_demands, struct_demands, function_demands, functions_demands, object_demands, objects_demands, externs_demands, structs_demands, unit_demands}
use Rattle.c_text.specs.FirstFault.{Among, here, there}
use Rattle.c_reader.proofs.Places.{Within, both, Fits, starts, front, rest, middle, base_within, type_within, expr_within, place_within, given_within, tested_within, call_within, init_within}

-- ---- where the parts of a line stand, behind what it is indented by

-- T const x = v;
module _ (at e : ℕ) (i t g x v : List ℕ) (f : Fits at (line (i ++ (t ++ g ++ codes "const " ++ x) ++ codes " = " ++ v ++ codes ";")) e) where
  const_type : Fits (behind at i) t e
  const_type = grind (arith, length-append)

  const_name : behind (behind at i) (t ++ g ++ codes "const " ++ []) ≤ e
  const_name = grind (arith, length-append)

  const_value : Fits (behind (behind at i) ((t ++ g ++ codes "const " ++ x) ++ codes " = ")) v e
  const_value = grind (arith, length-append)

-- B x v;
module _ (at e : ℕ) (i b x v : List ℕ) (f : Fits at (line (i ++ (b ++ codes " " ++ x) ++ v ++ codes ";")) e) where
  object_base : Fits (behind at i) b e
  object_base = grind (arith, length-append)

  object_name : behind (behind at i) (b ++ codes " " ++ []) ≤ e
  object_name = grind (arith, length-append)

  object_value : Fits (behind (behind at i) (b ++ codes " " ++ x)) v e
  object_value = grind (arith, length-append)

-- p = v;
module _ (at e : ℕ) (i p v : List ℕ) (f : Fits at (line (i ++ p ++ codes " = " ++ v ++ codes ";")) e) where
  assigned_place : Fits (behind at i) p e
  assigned_place = grind (arith, length-append)

  assigned_value : Fits (behind (behind at i) (p ++ codes " = ")) v e
  assigned_value = grind (arith, length-append)

-- if (c) { .. }
module _ (at e : ℕ) (i c l : List ℕ) (f : Fits at (i ++ codes "if (" ++ c ++ codes ") " ++ line (line (codes "{") ++ l ++ i ++ codes "}")) e) where
  if_test : Fits (behind (behind at i) (codes "if (")) c e
  if_test = grind (arith, length-append)

  if_body : Fits (behind (behind at i) (codes "if (" ++ c ++ line (codes ") {"))) l e
  if_body = grind (arith, length-append)

-- if (c) { .. } else { .. }
module _ (at e : ℕ) (i c l m : List ℕ) (f : Fits at (i ++ codes "if (" ++ c ++ codes ") " ++ (line (codes "{") ++ l ++ i ++ codes "}") ++ codes " else " ++ line (line (codes "{") ++ m ++ i ++ codes "}")) e) where
  else_test : Fits (behind (behind at i) (codes "if (")) c e
  else_test = grind (arith, length-append)

  else_first : Fits (behind (behind at i) (codes "if (" ++ c ++ line (codes ") {"))) l e
  else_first = grind (arith, length-append)

  else_second : Fits (behind (behind at i) (codes "if (" ++ c ++ codes ") " ++ (line (codes "{") ++ l ++ i ++ codes "}") ++ line (codes " else {"))) m e
  else_second = grind (arith, length-append)

loop_body : (at e : ℕ) (i l : List ℕ) → Fits at (i ++ codes "for (;;) " ++ line (line (codes "{") ++ l ++ i ++ codes "}")) e → Fits (behind (behind at i) (line (codes "for (;;) {"))) l e
loop_body at e i l f = grind (arith, length-append)

block_body : (at e : ℕ) (i l : List ℕ) → Fits at (i ++ line (line (codes "{") ++ l ++ i ++ codes "}")) e → Fits (behind (behind at i) (line (codes "{"))) l e
block_body at e i l f = grind (arith, length-append)

-- a line of one part
alone : (at e : ℕ) (i t : List ℕ) → Fits at (line (i ++ t ++ codes ";")) e → Fits (behind at i) t e
alone at e i t f = grind (arith, length-append)

-- ---- statements

module _ (target : Target) where
  first_value_within : (names : Names) (at e : ℕ) (b : CBase) (i : Option Init) → Fits at (first_value_text i) e → Within e (first_value_demands target names at b i)
  first_value_within names at e b None f = tt
  first_value_within names at e b (Some i) f = init_within target names (behind at (codes " = ")) e (tree names.structs b) i (rest at e (codes " = ") (init_text i) f)

  assigned_within : (names : Names) (at e : ℕ) (s : Option CScalar) (x : Expr) → Fits at (expr_text x) e → Within e (assigned_demands target names at s x)
  assigned_within names at e None x f = expr_within target names at e x f
  assigned_within names at e (Some s) x f = given_within target names at e (Value s) x f

  return_within : (names : Names) (result : CType) (at e : ℕ) (x : Option Expr) → Fits at (return_text x) e → Within e (return_demands target names result at x)
  return_within names result at e None f = (starts at e (codes "return") f, tt)
  return_within names result at e (Some x) f = (starts at e (codes "return " ++ expr_text x) f, given_within target names (behind at (codes "return ")) e result x (rest at e (codes "return ") (expr_text x) f))

  mutual
    stmt_within : (result : CType) (in_loop : Bool) (braces : ℕ) (names : Names) (at e : ℕ) (s : Stmt) → Fits at (stmt_text braces s) e → Within e (stmt_demands target result in_loop braces names (behind at (indent braces)) s)
    stmt_within result in_loop braces names at e (Const x t v) f =
        let i = indent braces in
        let value = behind (behind at i) (const_text t x ++ codes " = ") in
        both e (type_demands names (behind at i) t ++ new_name names (behind (behind at i) (const_text t [])) x) (given_demands target names value t v)
        (both e (type_demands names (behind at i) t) (new_name names (behind (behind at i) (const_text t [])) x) (type_within names (behind at i) e t (const_type at e i (type_text t) (gap_text t) x (expr_text v) f)) (const_name at e i (type_text t) (gap_text t) x (expr_text v) f, tt))
        (given_within target names value e t v (const_value at e i (type_text t) (gap_text t) x (expr_text v) f))
    stmt_within result in_loop braces names at e (ConstCall x t c) f =
        let i = indent braces in
        let value = behind (behind at i) (const_text t x ++ codes " = ") in
        both e (type_demands names (behind at i) t ++ new_name names (behind (behind at i) (const_text t [])) x) (call_demands target names value (Some t) c)
        (both e (type_demands names (behind at i) t) (new_name names (behind (behind at i) (const_text t [])) x) (type_within names (behind at i) e t (const_type at e i (type_text t) (gap_text t) x (call_text c) f)) (const_name at e i (type_text t) (gap_text t) x (call_text c) f, tt))
        (call_within target names value e (Some t) c (const_value at e i (type_text t) (gap_text t) x (call_text c) f))
    stmt_within result in_loop braces names at e (Object x b v) f =
        let i = indent braces in
        let value = behind (behind at i) (object_text b x) in
        both e (base_demands names (behind at i) b ++ new_name names (behind (behind at i) (object_text b [])) x) (first_value_demands target names value b v)
        (both e (base_demands names (behind at i) b) (new_name names (behind (behind at i) (object_text b [])) x) (base_within names (behind at i) e b (object_base at e i (base_text b) x (first_value_text v) f)) (object_name at e i (base_text b) x (first_value_text v) f, tt))
        (first_value_within names value e b v (object_value at e i (base_text b) x (first_value_text v) f))
    stmt_within result in_loop braces names at e (Assign p v) f =
        let i = indent braces in
        let value = behind (behind at i) (place_text p ++ codes " = ") in
        let place = assigned_place at e i (place_text p) (expr_text v) f in (
          starts (behind at i) e (place_text p) place,
          both e (place_demands target names (behind at i) p) (assigned_demands target names value (option_and_then assigned_scalar (place_of target names p)) v) (place_within target names (behind at i) e p place)
              (assigned_within names value e (option_and_then assigned_scalar (place_of target names p)) v (assigned_value at e i (place_text p) (expr_text v) f)),
        )
    stmt_within result in_loop braces names at e (If c a) f =
        let i = indent braces in
        let test = behind (behind at i) (codes "if (") in
        let body = behind (behind at i) (codes "if (" ++ expr_text c ++ line (codes ") {")) in
        both e (tested_demands target names test c) (stmts_demands target result in_loop (braces + 1) names body a) (tested_within target names test e c (if_test at e i (expr_text c) (stmts_text (braces + 1) a) f))
        (stmts_within result in_loop (braces + 1) names body e a (if_body at e i (expr_text c) (stmts_text (braces + 1) a) f))
    stmt_within result in_loop braces names at e (IfElse c a b) f =
        let i = indent braces in
        let la = stmts_text (braces + 1) a in
        let lb = stmts_text (braces + 1) b in
        let test = behind (behind at i) (codes "if (") in
        let first = behind (behind at i) (codes "if (" ++ expr_text c ++ line (codes ") {")) in
        let second = behind (behind at i) (codes "if (" ++ expr_text c ++ codes ") " ++ block_text braces la ++ line (codes " else {")) in
        both e (tested_demands target names test c ++ stmts_demands target result in_loop (braces + 1) names first a) (stmts_demands target result in_loop (braces + 1) names second b)
        (both e (tested_demands target names test c) (stmts_demands target result in_loop (braces + 1) names first a) (tested_within target names test e c (else_test at e i (expr_text c) la lb f))
        (stmts_within result in_loop (braces + 1) names first e a (else_first at e i (expr_text c) la lb f)))
        (stmts_within result in_loop (braces + 1) names second e b (else_second at e i (expr_text c) la lb f))
    stmt_within result in_loop braces names at e (Forever a) f = stmts_within result true (braces + 1) names (behind (behind at (indent braces)) (line (codes "for (;;) {"))) e a (loop_body at e (indent braces) (stmts_text (braces + 1) a) f)
    stmt_within result in_loop braces names at e Break f = (starts (behind at (indent braces)) e (codes "break") (break_fits at e (indent braces) f), tt)
      where
        break_fits : (at e : ℕ) (i : List ℕ) → Fits at (line (i ++ codes "break;")) e → Fits (behind at i) (codes "break") e
        break_fits at e i f = grind (arith, length-append)
    stmt_within result in_loop braces names at e (Return v) f = return_within names result (behind at (indent braces)) e v (alone at e (indent braces) (return_text v) f)
    stmt_within result in_loop braces names at e (Block a) f = stmts_within result in_loop (braces + 1) names (behind (behind at (indent braces)) (line (codes "{"))) e a (block_body at e (indent braces) (stmts_text (braces + 1) a) f)
    stmt_within result in_loop braces names at e (Call c) f = call_within target names (behind at (indent braces)) e None c (alone at e (indent braces) (call_text c) f)

    stmts_within : (result : CType) (in_loop : Bool) (braces : ℕ) (names : Names) (at e : ℕ) (ss : Stmts) → Fits at (stmts_text braces ss) e → Within e (stmts_demands target result in_loop braces names at ss)
    stmts_within result in_loop braces names at e Nil f = tt
    stmts_within result in_loop braces names at e (Cons s ss) f =
        both e (stmt_demands target result in_loop braces names (behind at (indent braces)) s) (stmts_demands target result in_loop braces (after s names) (behind at (stmt_text braces s)) ss)
        (stmt_within result in_loop braces names at e s (front at e (stmt_text braces s) (stmts_text braces ss) f)) (stmts_within result in_loop braces (after s names) (behind at (stmt_text braces s)) e ss (rest at e (stmt_text braces s) (stmts_text braces ss) f))

-- ---- parameters, and externs

param_type : (at e : ℕ) (t g x : List ℕ) → Fits at (t ++ g ++ codes "const " ++ x) e → Fits at t e
param_type at e t g x f = grind (arith, length-append)

param_name : (at e : ℕ) (t g x : List ℕ) → Fits at (t ++ g ++ codes "const " ++ x) e → behind at (t ++ g ++ codes "const " ++ []) ≤ e
param_name at e t g x f = grind (arith, length-append)

param_within : (names : Names) (at e : ℕ) (p : CParam) → Fits at (param_text p) e → Within e (type_demands names at p.ty ++ new_name names (behind at (const_text p.ty [])) p.name)
param_within names at e p f =
    both e (type_demands names at p.ty) (new_name names (behind at (const_text p.ty [])) p.name) (type_within names at e p.ty (param_type at e (type_text p.ty) (gap_text p.ty) p.name f)) (param_name at e (type_text p.ty) (gap_text p.ty) p.name f, tt)

params_within : (names : Names) (at e : ℕ) (ps : List CParam) → Fits at (listed (map param_text ps)) e → Within e (params_demands names at ps)
params_within names at e [] f = tt
params_within names at e (p ∷ []) f = both e (type_demands names at p.ty ++ new_name names (behind at (const_text p.ty [])) p.name) [] (param_within names at e p f) tt
params_within names at e (p ∷ q ∷ ps) f =
    let next = param_text p ++ codes ", " in
    let more = listed (map param_text (q ∷ ps)) in
    both e (type_demands names at p.ty ++ new_name names (behind at (const_text p.ty [])) p.name) (params_demands (with_const names p.name p.ty) (behind at next) (q ∷ ps))
    (param_within names at e p (front at e (param_text p) (codes ", ") (front at e next more f))) (params_within (with_const names p.name p.ty) (behind at next) e (q ∷ ps) (rest at e next more f))

types_within : (names : Names) (at e : ℕ) (ts : List CType) → Fits at (listed (map type_text ts)) e → Within e (types_demands names at ts)
types_within names at e [] f = tt
types_within names at e (t ∷ []) f = both e (type_demands names at t) [] (type_within names at e t f) tt
types_within names at e (t ∷ u ∷ ts) f =
    let next = type_text t ++ codes ", " in
    let more = listed (map type_text (u ∷ ts)) in
    both e (type_demands names at t) (types_demands names (behind at next) (u ∷ ts)) (type_within names at e t (front at e (type_text t) (codes ", ") (front at e next more f)))
    (types_within names (behind at next) e (u ∷ ts) (rest at e next more f))

-- extern T x(..);
module _ (at e : ℕ) (t g x p : List ℕ) (f : Fits at (line (codes "extern " ++ (t ++ g ++ x) ++ p ++ codes ";")) e) where
  extern_type : Fits (behind at (codes "extern ")) t e
  extern_type = grind (arith, length-append)

  extern_name : Fits (behind at (codes "extern " ++ (t ++ g ++ []))) x e
  extern_name = grind (arith, length-append)

extern_types : (at e : ℕ) (t g x l : List ℕ) → Fits at (line (codes "extern " ++ (t ++ g ++ x) ++ (codes "(" ++ l ++ codes ")") ++ codes ";")) e → Fits (behind (behind at (codes "extern " ++ (t ++ g ++ []))) (x ++ codes "(")) l e
extern_types at e t g x l f = grind (arith, length-append)

extern_params : (names : Names) (at e : ℕ) (t g x : List ℕ) (ps : List CType) → Fits at (line (codes "extern " ++ (t ++ g ++ x) ++ params_text (map type_text ps) ++ codes ";")) e
    → Within e (types_demands names (behind (behind at (codes "extern " ++ (t ++ g ++ []))) (x ++ codes "(")) ps)
extern_params names at e t g x [] f = tt
extern_params names at e t g x (p ∷ ps) f = types_within names (behind (behind at (codes "extern " ++ (t ++ g ++ []))) (x ++ codes "(")) e (p ∷ ps) (extern_types at e t g x (listed (map type_text (p ∷ ps))) f)

extern_within : (names : Names) (at e : ℕ) (x : CExtern) → Fits at (extern_text x) e → Within e (extern_demands names at x)
extern_within names at e x f =
    let t = type_text x.result in
    let g = gap_text x.result in
    let p = params_text (map type_text x.params) in
    let name = behind at (codes "extern " ++ typed_text x.result []) in
    let s = starts name e x.name (extern_name at e t g x.name p f) in
    both e (type_demands names (behind at (codes "extern ")) x.result ++ file_name names name x.name) (types_demands names (behind name (x.name ++ codes "(")) x.params)
    (both e (type_demands names (behind at (codes "extern ")) x.result) (file_name names name x.name) (type_within names (behind at (codes "extern ")) e x.result (extern_type at e t g x.name p f)) (s, (s, tt)))
    (extern_params names at e t g x.name x.params f)

-- ---- structs

module _ (at e : ℕ) (b x n : List ℕ) (f : Fits at (line (codes "  " ++ (b ++ codes " " ++ x) ++ n ++ codes ";")) e) where
  member_base : Fits (behind at (codes "  ")) b e
  member_base = grind (arith, length-append)

  member_name : behind (behind at (codes "  ")) (b ++ codes " " ++ []) ≤ e
  member_name = grind (arith, length-append)

struct_name : (at e : ℕ) (x l : List ℕ) → Fits at (line (codes "struct " ++ x ++ codes " {") ++ l ++ line (codes "};")) e → behind at (codes "struct ") ≤ e
struct_name at e x l f = grind (arith, length-append)

struct_members : (at e : ℕ) (x l : List ℕ) → Fits at (line (codes "struct " ++ x ++ codes " {") ++ l ++ line (codes "};")) e → Fits (behind at (line (codes "struct " ++ x ++ codes " {"))) l e
struct_members at e x l f = grind (arith, length-append)

-- ---- functions

module _ (at e : ℕ) (s t g x p l z : List ℕ) (f : Fits at (s ++ (t ++ g ++ x) ++ p ++ codes " " ++ line (line (codes "{") ++ l ++ z ++ codes "}")) e) where
  function_type : Fits (behind at s) t e
  function_type = grind (arith, length-append)

  function_name : Fits (behind (behind at s) (t ++ g ++ [])) x e
  function_name = grind (arith, length-append)

  function_params : Fits (behind (behind (behind at s) (t ++ g ++ [])) x) p e
  function_params = grind (arith, length-append)

  function_body : Fits (behind (behind (behind (behind at s) (t ++ g ++ [])) x) (p ++ line (codes " {"))) l e
  function_body = grind (arith, length-append)

-- static B x = i;
module _ (at e : ℕ) (b c x i : List ℕ) (f : Fits at (line (codes "static " ++ b ++ codes " " ++ c ++ x ++ codes " = " ++ i ++ codes ";")) e) where
  static_base : Fits (behind at (codes "static ")) b e
  static_base = grind (arith, length-append)

  static_name : Fits (behind (behind at (codes "static ")) (b ++ codes " " ++ c)) x e
  static_name = grind (arith, length-append)

  static_value : Fits (behind (behind (behind at (codes "static ")) (b ++ codes " " ++ c)) (x ++ codes " = ")) i e
  static_value = grind (arith, length-append)

in_params : (names : Names) (at e : ℕ) (ps : List CParam) → Fits at (params_text (map param_text ps)) e → Within e (params_demands names (behind at (codes "(")) ps)
in_params names at e [] f = tt
in_params names at e (p ∷ ps) f = params_within names (behind at (codes "(")) e (p ∷ ps) (middle at e (codes "(") (listed (map param_text (p ∷ ps))) (codes ")") f)

-- one more declaration before others
declared_first : (at e : ℕ) (t ts more : List ℕ) → Fits at ((t ++ ts) ++ more) e → Fits at t e × Fits (behind at t) (ts ++ more) e
declared_first at e t ts more f = (front at e t ts (front at e (t ++ ts) more f), rest at e t (ts ++ more) (subst (λ z. Fits at z e) (append_assoc t ts more) f))

module _ (target : Target) where
  members_within : (structs : List CStruct) (earlier : List CMember) (at e : ℕ) (ms : List CMember) → Fits at (texts (map member_text ms)) e → Within e (members_demands target structs earlier at ms)
  members_within structs earlier at e [] f = tt
  members_within structs earlier at e (m ∷ ms) f =
      let here = front at e (member_text m) (texts (map member_text ms)) f in
      let b = member_base at e (base_text m.base) m.name (length_text m.length) here in
      let s = starts (behind at (codes "  ")) e (base_text m.base) b in
      let one : Within e (member_demands target structs earlier (behind at (codes "  ")) m) =
      (s, (s, both e (base_demands (file_scope structs [] []) (behind at (codes "  ")) m.base) _ (base_within (file_scope structs [] []) (behind at (codes "  ")) e m.base b) (member_name at e (base_text m.base) m.name (length_text m.length) here, tt))) in
      both e (member_demands target structs earlier (behind at (codes "  ")) m) (members_demands target structs (earlier ++ m ∷ []) (behind at (member_text m)) ms) one
      (members_within structs (earlier ++ m ∷ []) (behind at (member_text m)) e ms (rest at e (member_text m) (texts (map member_text ms)) f))

  struct_within : (structs : List CStruct) (at e : ℕ) (s : CStruct) → Fits at (struct_text s) e → Within e (struct_demands target structs at s)
  struct_within structs at e s f =
      let l = texts (map member_text s.members) in
      (struct_name at e s.name l f, members_within structs [] (behind at (line (codes "struct " ++ s.name ++ codes " {"))) e s.members (struct_members at e s.name l f))

  function_within : (names : Names) (at e : ℕ) (f : Function) → Fits at (function_text f) e → Within e (function_demands target names at f)
  function_within names at e f fits =
      let s = storage_text f.hidden in
      let t = type_text f.result in
      let g = gap_text f.result in
      let p = params_text (map param_text f.params) in
      let l = stmts_text 1 f.body in
      let z = indent 0 in
      let typed = behind at s in
      let name = behind typed (typed_text f.result []) in
      let open_at = behind name f.name in
      let body = behind open_at (p ++ line (codes " {")) in
      let known = inside names f.name in
      let n = starts name e f.name (function_name at e s t g f.name p l z fits) in
      both e ((type_demands names typed f.result ++ file_name names name f.name) ++ params_demands known (behind open_at (codes "(")) f.params) (stmts_demands target f.result _ 1 (with_params known f.params) body f.body)
      (both e (type_demands names typed f.result ++ file_name names name f.name) (params_demands known (behind open_at (codes "(")) f.params)
      (both e (type_demands names typed f.result) (file_name names name f.name) (type_within names typed e f.result (function_type at e s t g f.name p l z fits)) (n, (n, tt)))
      (in_params known open_at e f.params (function_params at e s t g f.name p l z fits)))
      (stmts_within target f.result _ 1 (with_params known f.params) body e f.body (function_body at e s t g f.name p l z fits))

  object_within : (names : Names) (at e : ℕ) (o : FileObject) → Fits at (file_object_text o) e → Within e (object_demands target names at o)
  object_within names at e o f =
      let b = base_text o.base in
      let c = base_const_text o.constant in
      let i = init_text o.init in
      let typed = behind at (codes "static ") in
      let name = behind typed (object_text o.base (base_const_text o.constant)) in
      let n = starts name e o.name (static_name at e b c o.name i f) in
      both e (base_demands names typed o.base ++ file_name names name o.name) (init_demands target names (behind name (o.name ++ codes " = ")) (tree names.structs o.base) o.init)
      (both e (base_demands names typed o.base) (file_name names name o.name) (base_within names typed e o.base (static_base at e b c o.name i f)) (n, (n, tt)))
      (init_within target names (behind name (o.name ++ codes " = ")) e (tree names.structs o.base) o.init (static_value at e b c o.name i f))

  -- ---- units

  functions_within : (structs : List CStruct) (functions : List (Name × Signature)) (objects : List (Name × Entity)) (at e : ℕ) (fs : List Function) → Fits at (texts (map function_text fs)) e
      → Within e (functions_demands target structs functions objects at fs)
  functions_within structs functions objects at e [] fits = tt
  functions_within structs functions objects at e (f ∷ fs) fits =
      both e (function_demands target (file_scope structs functions objects) at f) (functions_demands target structs ((f.name, function_signature f) ∷ functions) objects (behind at (function_text f)) fs)
      (function_within (file_scope structs functions objects) at e f (front at e (function_text f) (texts (map function_text fs)) fits))
      (functions_within structs ((f.name, function_signature f) ∷ functions) objects (behind at (function_text f)) e fs (rest at e (function_text f) (texts (map function_text fs)) fits))

  objects_within : (structs : List CStruct) (functions : List (Name × Signature)) (objects : List (Name × Entity)) (at e : ℕ) (os : List FileObject) (fs : List Function)
      → Fits at (texts (map file_object_text os) ++ texts (map function_text fs)) e → Within e (objects_demands target structs functions objects at os fs)
  objects_within structs functions objects at e [] fs f = functions_within structs functions objects at e fs f
  objects_within structs functions objects at e (o ∷ os) fs f =
      let w = declared_first at e (file_object_text o) (texts (map file_object_text os)) (texts (map function_text fs)) f in
      both e (object_demands target (file_scope structs functions objects) at o) (objects_demands target structs functions ((o.name, ObjectName o.constant o.base) ∷ objects) (behind at (file_object_text o)) os fs)
      (object_within (file_scope structs functions objects) at e o w.0) (objects_within structs functions ((o.name, ObjectName o.constant o.base) ∷ objects) (behind at (file_object_text o)) e os fs w.1)

  externs_within : (structs : List CStruct) (functions : List (Name × Signature)) (at e : ℕ) (xs : List CExtern) (os : List FileObject) (fs : List Function)
      → Fits at (texts (map extern_text xs) ++ (texts (map file_object_text os) ++ texts (map function_text fs))) e → Within e (externs_demands target structs functions at xs os fs)
  externs_within structs functions at e [] os fs f = objects_within structs functions [] at e os fs f
  externs_within structs functions at e (x ∷ xs) os fs f =
      let w = declared_first at e (extern_text x) (texts (map extern_text xs)) (texts (map file_object_text os) ++ texts (map function_text fs)) f in
      both e (extern_demands (file_scope structs functions []) at x) (externs_demands target structs ((x.name, extern_signature x) ∷ functions) (behind at (extern_text x)) xs os fs)
      (extern_within (file_scope structs functions []) at e x w.0) (externs_within structs ((x.name, extern_signature x) ∷ functions) (behind at (extern_text x)) e xs os fs w.1)

  structs_within : (earlier : List CStruct) (at e : ℕ) (ss : List CStruct) (u : TranslationUnit)
      → Fits at (texts (map struct_text ss) ++ (texts (map extern_text u.externs) ++ (texts (map file_object_text u.objects) ++ texts (map function_text u.functions)))) e → Within e (structs_demands target earlier at ss u)
  structs_within earlier at e [] u f = externs_within earlier ((stop_name, stop_signature) ∷ []) at e u.externs u.objects u.functions f
  structs_within earlier at e (s ∷ ss) u f =
      let w = declared_first at e (struct_text s) (texts (map struct_text ss)) (texts (map extern_text u.externs) ++ (texts (map file_object_text u.objects) ++ texts (map function_text u.functions))) f in
      both e (struct_demands target earlier at s) (structs_demands target (earlier ++ s ∷ []) (behind at (struct_text s)) ss u)
      (struct_within earlier at e s w.0) (structs_within (earlier ++ s ∷ []) (behind at (struct_text s)) e ss u w.1)

  unit_within : (u : TranslationUnit) → Within (length (unit_text u)) (unit_demands target u)
  unit_within u =
      let all = texts (map struct_text u.structs) ++ (texts (map extern_text u.externs) ++ (texts (map file_object_text u.objects) ++ texts (map function_text u.functions))) in
      structs_within [] (behind 0 fixed_text) (length (unit_text u)) u.structs u
      (rest 0 (length (unit_text u)) fixed_text all (whole (fixed_text ++ all) (unit_text u) (plain fixed_text (texts (map struct_text u.structs)) (texts (map extern_text u.externs)) (texts (map file_object_text u.objects)) (texts (map function_text u.functions)))))
    where
      plain : (a b c d f : List ℕ) → a ++ (b ++ (c ++ (d ++ f))) ≡ (a ++ b ++ c ++ d) ++ f
      plain a b c d f = simp append_assoc refl

      whole : (s t : List ℕ) → s ≡ t → Fits 0 s (length t)
      whole s t e = let same = ap length e in omega (arith, same)

  among_within : (e : ℕ) (d : Demand) (ds : List Demand) → Within e ds → Among d ds → d.at ≤ e
  among_within e d [] w a = elim a [ ]
  among_within e d (x ∷ ds) w here = w.0
  among_within e d (x ∷ ds) w (there a) = among_within e d ds w.1 a

  pub asked_within : (u : TranslationUnit) (d : Demand) → Among d (unit_demands target u) → d.at ≤ length (unit_text u)
  asked_within u d a = among_within (length (unit_text u)) d (unit_demands target u) (unit_within u) a
