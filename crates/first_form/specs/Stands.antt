-- When a tree stands for a module of the first form: imports whose parameters are all uint8_t, then exported procedures, each of whose
-- statements calls an import with a number from 0 to 255 for each parameter, and names used as the language allows.
use Rattle.std.specs.Prelude.{◌≡◌, ℕ, pos, ◌<◌, ◌^◌, Bool, true, false, IsTrue, List, [], ◌++◌, length, map, slice_get, Some, None, All, Contains}
use Rattle.std.specs.List.{AllZip, list_all}
use Rattle.iv_words.specs.declared.Span.{Span}
use Rattle.iv_words.specs.declared.IntKind.TheVariants.{U8}
use Rattle.ivory_tree.specs.Syntax.{Word, TypeSyntax, IntType, ExprSyntax, Literal, CallSyntax, StmtSyntax, Call, Braces, HeaderSyntax, ProcSyntax, ItemSyntax, BitsData, Struct, Global, Import, Procedure, ModuleSyntax}
use Rattle.ivory_tree.specs.View.{stmts_from}
use Rattle.first_form.specs.Valid.{AllDifferent}
use Rattle.first_form.specs.declared.first.FirstModule.{FirstModule}
use Rattle.first_form.specs.declared.first.FirstImport.{FirstImport}
use Rattle.first_form.specs.declared.first.FirstProc.{FirstProc}
use Rattle.first_form.specs.declared.first.FirstCall.{FirstCall}

abbrev pub name_of : ItemSyntax → Word
name_of (BitsData i) = i.name.text
name_of (Struct i) = i.name.text
name_of (Global i) = i.name.text
name_of (Import h) = h.name.text
name_of (Procedure p) = p.header.name.text

-- imports and procedures share one name space, in which the module's own name is not
abbrev pub names_of : List ItemSyntax → List Word
names_of items = map name_of items

-- a parameter has no name of another parameter of its import, nor of an item at any place of the module
pub record ParamsStand (items params : List Word) : Type 0 where
  pub different : AllDifferent params
  pub local : All (λ p. ¬ Contains items p) params

abbrev pub is_uint8 : TypeSyntax → Bool
is_uint8 (IntType s U8) = true
is_uint8 t = false

-- `import NAME(NAME : uint8_t, ..);`
pub record HeaderStands (names : List Word) (h : HeaderSyntax) (i : FirstImport) : Type 0 where
  pub result : h.result ≡ None
  pub uint8s : IsTrue (list_all (λ p. is_uint8 p.ty) h.params)
  pub params : ParamsStand names (map (λ p. p.name.text) h.params)
  pub named : i.name ≡ h.name.text
  pub counted : i.params ≡ length h.params

abbrev pub ImportStands : List Word → ItemSyntax → FirstImport → Type 0
ImportStands names (Import h) i = HeaderStands names h i
ImportStands names item i = ⊥

-- a literal of this value, which a uint8_t holds
abbrev pub ByteStands : ExprSyntax → ℕ → Type 0
ByteStands (Literal s value) v = (value ≡ pos v) × (v < 2 ^ 8)
ByteStands e v = ⊥

-- `NAME(NUM, ..)`, where the name is an import's that has as many parameters
pub record CallStands (imports : List FirstImport) (c : CallSyntax) (d : FirstCall) : Type 0 where
  pub target : FirstImport
  pub found : slice_get imports d.import ≡ Some target
  pub named : target.name ≡ c.name.text
  pub counted : target.params ≡ length c.args
  pub values : AllZip ByteStands c.args d.values

abbrev pub StmtStands : List FirstImport → StmtSyntax → FirstCall → Type 0
StmtStands imports (Call s c) d = CallStands imports c d
StmtStands imports s d = ⊥

-- `export proc NAME() { .. }`
pub record BodyStands (imports : List FirstImport) (p : ProcSyntax) (q : FirstProc) : Type 0 where
  pub exported : p.exported ≡ true
  pub params : p.header.params ≡ []
  pub result : p.header.result ≡ None
  pub contracts : p.contracts ≡ []
  pub named : q.name ≡ p.header.name.text
  pub span : Span
  pub stmts : List StmtSyntax
  pub body : p.body ≡ Braces span (stmts_from stmts)
  pub calls : AllZip (StmtStands imports) stmts q.calls

abbrev pub ProcStands : List FirstImport → ItemSyntax → FirstProc → Type 0
ProcStands imports (Procedure p) q = BodyStands imports p q
ProcStands imports item q = ⊥

pub record Stands (t : ModuleSyntax) (m : FirstModule) : Type 0 where
  pub different : AllDifferent (names_of t.items)
  pub imports : List ItemSyntax
  pub procs : List ItemSyntax
  pub in_order : t.items ≡ imports ++ procs
  pub each_import : AllZip (ImportStands (names_of t.items)) imports m.imports
  pub each_proc : AllZip (ProcStands m.imports) procs m.procs
