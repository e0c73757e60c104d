-- What the unit of a module must look like, whatever its bodies do: exactly the declarations below, in order, and no other.
use Rattle.std.specs.Prelude.{◌≡◌, List, [], ◌∷◌, ◌++◌, map, replicate, codes, false, All}
use Rattle.std.specs.List.{AllZip}
use Rattle.iv_words.specs.declared.IntKind.TheVariants.{U8}
use Rattle.first_form.specs.declared.FirstModule.{FirstModule}
use Rattle.first_form.specs.declared.FirstImport.{FirstImport}
use Rattle.first_form.specs.declared.FirstProc.{FirstProc}
use Rattle.c_ast.specs.declared.CScalar.TheVariants.{Int}
use Rattle.c_ast.specs.declared.CType.TheVariants.{Void, Value}
use Rattle.c_ast.specs.declared.CExtern.{CExtern}
use Rattle.c_ast.specs.Names.{prefixed}
use Rattle.c_ast.specs.Syntax.{Name, Stmt, Const, ConstCall, Object, Assign, If, IfElse, Forever, Break, Return, Block, Call, Stmts, Nil, Cons, Function, TranslationUnit}

-- an import: `extern void iv_NAME(uint8_t, ..);`
abbrev pub extern_for : FirstImport → CExtern
extern_for i = record { name = prefixed i.name; params = replicate i.params (Value (Int U8)); result = Void }

-- the names that are declared inside a body
abbrev mutual
  pub stmt_names : Stmt → List Name
  stmt_names (Const x t e) = x ∷ []
  stmt_names (ConstCall x t c) = x ∷ []
  stmt_names (Object x b i) = x ∷ []
  stmt_names (Assign p e) = []
  stmt_names (If e a) = stmts_names a
  stmt_names (IfElse e a b) = stmts_names a ++ stmts_names b
  stmt_names (Forever a) = stmts_names a
  stmt_names Break = []
  stmt_names (Return e) = []
  stmt_names (Block a) = stmts_names a
  stmt_names (Call c) = []

  pub stmts_names : Stmts → List Name
  stmts_names Nil = []
  stmts_names (Cons s rest) = stmt_names s ++ stmts_names rest

-- a name of the compiler's own
pub record IsTemporary (name : Name) : Type 0 where
  pub rest : Name
  pub prefixed : name ≡ codes "ivt_" ++ rest

-- an exported procedure: `void iv_NAME(void) { .. }`, whose body is empty where the procedure's is
pub record FunctionFor (p : FirstProc) (f : Function) : Type 0 where
  pub shown : f.hidden ≡ false
  pub name : f.name ≡ prefixed p.name
  pub params : f.params ≡ []
  pub result : f.result ≡ Void
  pub empty : p.calls ≡ [] → f.body ≡ Nil
  pub locals : All IsTemporary (stmts_names f.body)

pub record Shape (m : FirstModule) (u : TranslationUnit) : Type 0 where
  pub structs : u.structs ≡ []
  pub externs : u.externs ≡ map extern_for m.imports
  pub objects : u.objects ≡ []
  pub functions : AllZip FunctionFor m.procs u.functions
