-- Declarations of each kind in a row, and a whole unit.
use Rattle.std.proofs.Common.{◌≡◌, refl, sym, ◌∙◌, ap, ℕ, List, [], ◌∷◌, ◌++◌, append_assoc, arith}
use Rattle.std.specs.Prelude.{map, is_some}
use denote.Bor.{Bor}
use Rattle.std.proofs.lemmas.List.{append-nil}
use Rattle.c_ast.specs.declared.types.Target.{Target}
use Rattle.c_ast.specs.declared.unit.CExtern.{CExtern}
use Rattle.c_ast.specs.declared.unit.CFunction.{CFunction}
use Rattle.c_ast.specs.declared.unit.CObject.{CObject}
use Rattle.c_ast.specs.declared.unit.CStruct.{CStruct}
use Rattle.c_ast.specs.Signatures.{Signature, extern_signature, function_signature}
use Rattle.c_ast.specs.StaticTypes.{Entity, ObjectName}
use Rattle.c_ast.specs.Syntax.{Name, FileObject, Function, TranslationUnit}
use Rattle.c_ast.specs.View.{function_of, object_of}
use Rattle.c_text.specs.Rules.{Demand, behind}
use Rattle.c_text.specs.Scopes as scopes
use Rattle.c_text.specs.Scopes.{with_value}
use Rattle.c_text.specs.Spelling.{extern_text, file_object_text, fixed_text, function_text, struct_text}
use Rattle.c_text.specs.TypeText.{texts}
use Rattle.c_text.specs.UnitRules.{file_scope, extern_demands, externs_demands, function_demands, functions_demands, object_demands, objects_demands, struct_demands, structs_demands, unit_demands}
use Rattle.c_scopes.specs.declared.names.Names.{Names}
use Rattle.c_rules.specs.Kept.{OthersStay, ButObjects}
use Rattle.c_scopes.specs.declared.names.Entity as borrowed
use Rattle.c_scopes.specs.declared.names.Signature as called
use Rattle.c_scopes.specs.declared.names.Signature.TheVariants as signature
use Rattle.c_scopes.specs.Scope.{entity_view, functions_view, itself_view, names_view, stop_alone, values_view, with_externs}
use Rattle.c_scopes.specs.StructViews.{structs_view}
use Rattle.c_rules.specs.UnitRows.{structs_asks, externs_asks, extern_rows, with_extern, behind_externs, with_object, with_objects, objects_asks, with_function, functions_asks}
use Rattle.c_scopes.proofs.Rows.{asks}
use Rattle.c_scopes.proofs.Walks.{behind_both}

-- ---- one kind after another

functions_are : (target : Target) (structs : List CStruct) (functions : List (Name × Signature)) (objects : List (Name × Entity)) (at : ℕ) (fs : List Function)
    → functions_demands target structs functions objects at fs ≡ functions_asks target (file_scope structs functions objects) at fs
functions_are target structs functions objects at [] = refl
functions_are target structs functions objects at (f ∷ fs) =
    ap (λ ds. function_demands target (file_scope structs functions objects) at f ++ ds) (functions_are target structs ((f.name, function_signature f) ∷ functions) objects (behind at (function_text f)) fs)

here : (at : ℕ) → at ≡ behind at []
here at = omega arith

objects_are : (target : Target) (structs : List CStruct) (functions : List (Name × Signature)) (objects : List (Name × Entity)) (at : ℕ) (os : List FileObject) (fs : List Function)
    → objects_demands target structs functions objects at os fs
    ≡ objects_asks target (file_scope structs functions objects) at os ++ functions_asks target (with_objects (file_scope structs functions objects) os) (behind at (texts (map file_object_text os))) fs
objects_are target structs functions objects at [] fs =
    functions_are target structs functions objects at fs ∙ ap (λ n. functions_asks target (file_scope structs functions objects) n fs) (here at)
objects_are target structs functions objects at (o ∷ os) fs =
    let names : scopes.Names = file_scope structs functions objects in
    let next : scopes.Names = with_object names o in
    let mine : List Demand = object_demands target names at o in
    let rest : List Demand = objects_asks target next (behind at (file_object_text o)) os in
    ap (λ ds. mine ++ ds) (objects_are target structs functions ((o.name, ObjectName o.constant o.base) ∷ objects) (behind at (file_object_text o)) os fs)
    ∙ ap (λ n. mine ++ (rest ++ functions_asks target (with_objects next os) n fs)) (sym (behind_both at (file_object_text o) (texts (map file_object_text os))))
    ∙ sym (append_assoc mine rest (functions_asks target (with_objects next os) (behind at (file_object_text o ++ texts (map file_object_text os))) fs))

externs_are : (target : Target) (structs : List CStruct) (functions : List (Name × Signature)) (at : ℕ) (xs : List CExtern) (os : List FileObject) (fs : List Function)
    → externs_demands target structs functions at xs os fs
    ≡ externs_asks structs functions at xs ++ objects_demands target structs (with_externs functions xs) [] (behind at (texts (map extern_text xs))) os fs
externs_are target structs functions at [] os fs = ap (λ n. objects_demands target structs functions [] n os fs) (here at)
externs_are target structs functions at (x ∷ xs) os fs =
    let more : List (Name × Signature) = (x.name, extern_signature x) ∷ functions in
    let mine : List Demand = extern_demands (file_scope structs functions []) at x in
    let rest : List Demand = externs_asks structs more (behind at (extern_text x)) xs in
    ap (λ ds. mine ++ ds) (externs_are target structs more (behind at (extern_text x)) xs os fs)
    ∙ ap (λ n. mine ++ (rest ++ objects_demands target structs (with_externs more xs) [] n os fs)) (sym (behind_both at (extern_text x) (texts (map extern_text xs))))
    ∙ sym (append_assoc mine rest (objects_demands target structs (with_externs more xs) [] (behind at (extern_text x ++ texts (map extern_text xs))) os fs))

structs_are : (target : Target) (earlier : List CStruct) (at : ℕ) (ss : List CStruct) (u : TranslationUnit)
    → structs_demands target earlier at ss u
    ≡ structs_asks target earlier at ss ++ externs_demands target (earlier ++ ss) stop_alone (behind at (texts (map struct_text ss))) u.externs u.objects u.functions
structs_are target earlier at [] u =
    ap (λ n. externs_demands target earlier stop_alone n u.externs u.objects u.functions) (here at)
    ∙ ap (λ ss. externs_demands target ss stop_alone (behind at []) u.externs u.objects u.functions) (sym (append-nil earlier))
structs_are target earlier at (s ∷ ss) u =
    let next : List CStruct = earlier ++ s ∷ [] in
    let mine : List Demand = struct_demands target earlier at s in
    let rest : List Demand = structs_asks target next (behind at (struct_text s)) ss in
    ap (λ ds. mine ++ ds) (structs_are target next (behind at (struct_text s)) ss u)
    ∙ ap (λ n. mine ++ (rest ++ externs_demands target (next ++ ss) stop_alone n u.externs u.objects u.functions)) (sym (behind_both at (struct_text s) (texts (map struct_text ss))))
    ∙ ap (λ l. mine ++ (rest ++ externs_demands target l stop_alone (behind at (struct_text s ++ texts (map struct_text ss))) u.externs u.objects u.functions)) (append_assoc earlier (s ∷ []) ss)
    ∙ sym (append_assoc mine rest (externs_demands target (earlier ++ s ∷ ss) stop_alone (behind at (struct_text s ++ texts (map struct_text ss))) u.externs u.objects u.functions))

four : (a b c d : List Demand) → ((a ++ b) ++ c) ++ d ≡ a ++ (b ++ (c ++ d))
four a b c d = simp append_assoc

-- the names in scope before the first object
abbrev pub outside : TranslationUnit → scopes.Names
outside u = file_scope u.structs (with_externs stop_alone u.externs) []

-- a unit's demands are those of its four kinds of declarations, each where the kinds before it end
pub unit_is : (target : Target) (u : TranslationUnit) (at : ℕ) → at ≡ 0 →
    structs_asks target [] (behind at fixed_text) u.structs
    ++ externs_asks u.structs stop_alone (behind at (fixed_text ++ texts (map struct_text u.structs))) u.externs
    ++ objects_asks target (outside u) (behind at (fixed_text ++ texts (map struct_text u.structs) ++ texts (map extern_text u.externs))) u.objects
    ++ functions_asks target (with_objects (outside u) u.objects) (behind at (fixed_text ++ texts (map struct_text u.structs) ++ texts (map extern_text u.externs) ++ texts (map file_object_text u.objects))) u.functions
    ≡ unit_demands target u
unit_is target u at zero =
    let ts : List ℕ = texts (map struct_text u.structs) in
    let tx : List ℕ = texts (map extern_text u.externs) in
    let to : List ℕ = texts (map file_object_text u.objects) in
    let p0 : ℕ = behind at fixed_text in
    let p1 : ℕ = behind p0 ts in
    let p2 : ℕ = behind p1 tx in
    let p3 : ℕ = behind p2 to in
    let names : scopes.Names = outside u in
    let S : List Demand = structs_asks target [] p0 u.structs in
    let X : ℕ → List Demand = λ n. externs_asks u.structs stop_alone n u.externs in
    let O : ℕ → List Demand = λ n. objects_asks target names n u.objects in
    let F : ℕ → List Demand = λ n. functions_asks target (with_objects names u.objects) n u.functions in
    let e1 : behind at (fixed_text ++ ts) ≡ p1 = behind_both at fixed_text ts in
    let e2 : behind at (fixed_text ++ ts ++ tx) ≡ p2 = behind_both at (fixed_text ++ ts) tx ∙ ap (λ n. behind n tx) e1 in
    let e3 : behind at (fixed_text ++ ts ++ tx ++ to) ≡ p3 = behind_both at (fixed_text ++ ts ++ tx) to ∙ ap (λ n. behind n to) e2 in
    ap (λ n. ((S ++ X n) ++ O (behind at (fixed_text ++ ts ++ tx))) ++ F (behind at (fixed_text ++ ts ++ tx ++ to))) e1
    ∙ ap (λ n. ((S ++ X p1) ++ O n) ++ F (behind at (fixed_text ++ ts ++ tx ++ to))) e2
    ∙ ap (λ n. ((S ++ X p1) ++ O p2) ++ F n) e3
    ∙ four S (X p1) (O p2) (F p3)
    ∙ ap (λ ds. S ++ (X p1 ++ ds)) (sym (objects_are target u.structs (with_externs stop_alone u.externs) [] p2 u.objects u.functions))
    ∙ ap (λ ds. S ++ ds) (sym (externs_are target u.structs stop_alone p1 u.externs u.objects u.functions))
    ∙ sym (structs_are target [] p0 u.structs u)
    ∙ ap (λ n. structs_demands target [] (behind n fixed_text) u.structs u) zero

-- ---- the loops

abbrev pub struct_item : Target → List CStruct → ℕ → CStruct → List Demand
struct_item target earlier at s = struct_demands target earlier at s

abbrev pub struct_next : List CStruct → CStruct → List CStruct
struct_next earlier s = earlier ++ s ∷ []

pub structs_row : (target : Target) (earlier : List CStruct) (at : ℕ) (ss : List CStruct) → asks struct_text (struct_item target) struct_next earlier at ss ≡ structs_asks target earlier at ss
structs_row target earlier at [] = refl
structs_row target earlier at (s ∷ ss) = ap (λ ds. struct_demands target earlier at s ++ ds) (structs_row target (struct_next earlier s) (behind at (struct_text s)) ss)

abbrev pub extern_item : List CStruct → List (Name × Signature) → ℕ → CExtern → List Demand
extern_item structs functions at x = extern_demands (file_scope structs functions []) at x

abbrev pub extern_next : List (Name × Signature) → CExtern → List (Name × Signature)
extern_next functions x = (x.name, extern_signature x) ∷ functions

pub externs_row : (structs : List CStruct) (functions : List (Name × Signature)) (at : ℕ) (xs : List CExtern) → asks extern_text (extern_item structs) extern_next functions at xs ≡ externs_asks structs functions at xs
externs_row structs functions at [] = refl
externs_row structs functions at (x ∷ xs) = ap (λ ds. extern_item structs functions at x ++ ds) (externs_row structs (extern_next functions x) (behind at (extern_text x)) xs)

abbrev pub object_line : CObject → List ℕ
object_line o = file_object_text (object_of o)

abbrev pub object_item : Target → scopes.Names → ℕ → CObject → List Demand
object_item target names at o = object_demands target names at (object_of o)

abbrev pub object_next : scopes.Names → CObject → scopes.Names
object_next names o = with_object names (object_of o)

pub objects_row : (target : Target) (names : scopes.Names) (at : ℕ) (os : List CObject) → asks object_line (object_item target) object_next names at os ≡ objects_asks target names at (map object_of os)
objects_row target names at [] = refl
objects_row target names at (o ∷ os) = ap (λ ds. object_item target names at o ++ ds) (objects_row target (object_next names o) (behind at (object_line o)) os)

abbrev pub function_line : CFunction → List ℕ
function_line f = function_text (function_of f)

abbrev pub function_item : Target → scopes.Names → ℕ → CFunction → List Demand
function_item target names at f = function_demands target names at (function_of f)

abbrev pub function_next : scopes.Names → CFunction → scopes.Names
function_next names f = with_function names (function_of f)

pub functions_row : (target : Target) (names : scopes.Names) (at : ℕ) (fs : List CFunction) → asks function_line (function_item target) function_next names at fs ≡ functions_asks target names at (map function_of fs)
functions_row target names at [] = refl
functions_row target names at (f ∷ fs) = ap (λ ds. function_item target names at f ++ ds) (functions_row target (function_next names f) (behind at (function_line f)) fs)

-- ---- externs, by the names in scope

pub rows_of_externs : (structs : List CStruct) (functions : List (Name × Signature)) (at : ℕ) (xs : List CExtern) → extern_rows (file_scope structs functions []) at xs ≡ externs_asks structs functions at xs
rows_of_externs structs functions at [] = refl
rows_of_externs structs functions at (x ∷ xs) = ap (λ ds. extern_item structs functions at x ++ ds) (rows_of_externs structs (extern_next functions x) (behind at (extern_text x)) xs)

pub scope_behind_externs : (structs : List CStruct) (functions : List (Name × Signature)) (xs : List CExtern) → behind_externs (file_scope structs functions []) xs ≡ file_scope structs (with_externs functions xs) []
scope_behind_externs structs functions [] = refl
scope_behind_externs structs functions (x ∷ xs) = scope_behind_externs structs (extern_next functions x) xs

abbrev pub extern_asked : scopes.Names → ℕ → CExtern → List Demand
extern_asked names at x = extern_demands names at x

pub asked_of_externs : (names : scopes.Names) (at : ℕ) (xs : List CExtern) → asks extern_text extern_asked with_extern names at xs ≡ extern_rows names at xs
asked_of_externs names at [] = refl
asked_of_externs names at (x ∷ xs) = ap (λ ds. extern_asked names at x ++ ds) (asked_of_externs (with_extern names x) (behind at (extern_text x)) xs)

-- ---- names that are declared at file scope

pub extern_declared : (before now : Names) (x : Bor CExtern) → (let more : Names = record before { functions = (x.now.name, signature.Extern x) ∷ before.functions } in now ≡ more)
    → names_view now ≡ with_extern (names_view before) x.now
extern_declared before now x is = ap names_view is

pub function_declared : (before now : Names) (f : Bor CFunction) → (let more : Names = record before { functions = (f.now.name, signature.Function f) ∷ before.functions } in now ≡ more)
    → names_view now ≡ with_function (names_view before) (function_of f.now)
function_declared before now f is = ap names_view is

pub object_declared : (before now : Names) (o : CObject) (e : borrowed.Entity) → before.values ≡ [] → entity_view e ≡ ObjectName o.constant o.base
    → (let more : Names = record before { objects = (o.name, e) ∷ before.objects } in now ≡ more) → names_view now ≡ with_object (names_view before) (object_of o)
object_declared before now o e none says is =
    ap names_view is ∙ ap (in_scope ((o.name, e) ∷ before.objects)) none ∙ ap (λ x. with_value (in_scope before.objects []) o.name x) says
    ∙ ap (λ vs. with_value (in_scope before.objects vs) o.name (ObjectName o.constant o.base)) (sym none)
  where
    in_scope : List (Name × borrowed.Entity) → List (Name × borrowed.Entity) → scopes.Names
    in_scope os vs = record { structs = structs_view before.structs; functions = functions_view before.functions; itself = itself_view before.itself; values = values_view os vs; in_function = is_some before.itself }

pub save_functions : (before now : Names) (fs : List (Name × called.Signature)) → (let more : Names = record before { functions = fs } in now ≡ more) → OthersStay before now
save_functions before now fs is = is ∙ ap (λ n. let m : Names = record before { functions = n.functions } in m) (sym is)

pub save_objects : (before now : Names) (os : List (Name × borrowed.Entity)) → (let more : Names = record before { objects = os } in now ≡ more) → ButObjects before now
save_objects before now os is = is ∙ ap (λ n. let m : Names = record before { objects = n.objects } in m) (sym is)

pub others_stay : (before now after : Names) → OthersStay before now → OthersStay now after → OthersStay before after
others_stay before now after first second = second ∙ ap (λ n. let m : Names = record n { functions = after.functions } in m) first

pub objects_alone : (before now after : Names) → ButObjects before now → ButObjects now after → ButObjects before after
objects_alone before now after first second = second ∙ ap (λ n. let m : Names = record n { objects = after.objects } in m) first
