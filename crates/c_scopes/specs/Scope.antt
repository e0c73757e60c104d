-- What the names that the code has in scope say in the words of the rules.
use Rattle.std.specs.Prelude.{ℕ, List, [], ◌∷◌, ◌++◌, map, Option, Some, None, is_some}
use Rattle.std.specs.Option.{option_map}
use denote.Bor.{Bor}
use Rattle.c_ast.specs.declared.types.CKind.TheVariants as kind
use Rattle.c_ast.specs.declared.types.CType.{CType}
use Rattle.c_ast.specs.declared.unit.CExtern.{CExtern}
use Rattle.c_ast.specs.declared.unit.CFunction.{CFunction}
use Rattle.c_ast.specs.Names.{stop_name}
use Rattle.c_ast.specs.Signatures.{Signature, stop_signature, extern_signature}
use Rattle.c_ast.specs.StaticTypes.{Entity, ConstName, ObjectName, Arithmetic, PointerTo}
use Rattle.c_ast.specs.Syntax.{Name}
use Rattle.c_text.specs.Scopes as scopes
use Rattle.c_scopes.specs.declared.names.Entity as borrowed
use Rattle.c_scopes.specs.declared.names.Entity.TheVariants as entity
use Rattle.c_scopes.specs.declared.names.Signature as called
use Rattle.c_scopes.specs.declared.names.Signature.TheVariants as signature
use Rattle.c_scopes.specs.declared.names.Names.{Names}
use Rattle.c_scopes.specs.declared.names.Params.{Params}
use Rattle.c_scopes.specs.declared.names.Params.TheVariants as params
use Rattle.c_scopes.specs.StructViews.{structs_view}
use Rattle.c_scopes.specs.Views.{base_view}
use Rattle.name_tables.specs.Scoped.{latest_first}

-- ---- what names are declared as

abbrev pub entity_view : borrowed.Entity → Entity
entity_view (entity.Number s) = ConstName (Arithmetic (kind.Scalar s))
entity_view (entity.Pointer constant b) = ConstName (PointerTo constant (base_view b))
entity_view (entity.Object constant b) = ObjectName constant (base_view b)

abbrev pub entity_found : Option borrowed.Entity → Option Entity
entity_found = option_map entity_view

-- ---- functions

abbrev pub declared_signature : CFunction → Signature
declared_signature f = record { params = map (λ x. x.ty) f.params; result = f.result }

abbrev pub signature_view : called.Signature → Signature
signature_view signature.Stop = stop_signature
signature_view (signature.Extern x) = extern_signature x.now
signature_view (signature.Function f) = declared_signature f.now

-- parameters that no argument is given for yet
abbrev pub params_view : Params → List CType
params_view params.None = []
params_view params.Stop = stop_signature.params
params_view (params.Types ts) = ts.now
params_view (params.Named ps) = map (λ x. x.ty) ps.now

abbrev pub first_type : List CType → Option CType
first_type [] = None
first_type (t ∷ ts) = Some t

abbrev pub rest_types : List CType → List CType
rest_types [] = []
rest_types (t ∷ ts) = ts

abbrev pub signature_found : Option called.Signature → Option Signature
signature_found = option_map signature_view

-- what each unit declares first
abbrev pub stop_alone : List (Name × Signature)
stop_alone = (stop_name, stop_signature) ∷ []

abbrev pub with_externs : List (Name × Signature) → List CExtern → List (Name × Signature)
with_externs declared [] = declared
with_externs declared (x ∷ xs) = with_externs ((x.name, extern_signature x) ∷ declared) xs

abbrev pub signature_entry : Name × called.Signature → Name × Signature
signature_entry d = (d.0, signature_view d.1)

-- these declarations, and what is declared before them
abbrev pub functions_view : List (Name × called.Signature) → List (Name × Signature)
functions_view ds = map signature_entry ds ++ stop_alone

abbrev pub entity_entry : Name × borrowed.Entity → Name × Entity
entity_entry d = (d.0, entity_view d.1)

-- the objects of file scope, and the names in a function on top of them
abbrev pub values_view : List (Name × borrowed.Entity) → List (Name × borrowed.Entity) → List (Name × Entity)
values_view objects values = latest_first (map entity_entry objects) (map entity_entry values)

-- ---- all of them

abbrev pub itself_view : Option (Bor (List ℕ)) → List Name
itself_view None = []
itself_view (Some name) = name.now ∷ []

abbrev pub names_view : Names → scopes.Names
names_view n = record {
  structs = structs_view n.structs;
  functions = functions_view n.functions;
  itself = itself_view n.itself;
  values = values_view n.objects n.values;
  in_function = is_some n.itself;
}
