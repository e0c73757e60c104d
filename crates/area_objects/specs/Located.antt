-- Places of C that lead to parts of areas, and what is asked of names so that they do.
use Rattle.std.specs.Prelude.{◌≡◌, ℕ, suc, ◌<◌, List, [], ◌∷◌, Bool}
use Rattle.type_trees.specs.Trees.{Leaf, Many, Struct, End, Field}
use Rattle.area_types.specs.Tables.{Table, written_out}
use Rattle.area_types.specs.Trees.{Written, WrittenRow}
use Rattle.core_tree.specs.Syntax.{AreaCore}
use Rattle.c_ast.specs.declared.CBase.{CBase}
use Rattle.c_ast.specs.declared.CStruct.{CStruct}
use Rattle.c_ast.specs.declared.Target.{Target}
use Rattle.c_ast.specs.Names.{outer_name}
use Rattle.c_ast.specs.Scalars.{metric_of}
use Rattle.c_ast.specs.Structs.{tree}
use Rattle.c_ast.specs.Syntax.{FileObject}
use Rattle.c_meaning.specs.Places.{Lvalue, Located}
use Rattle.c_meaning.specs.Values.{Address}
use Rattle.area_objects.specs.Shapes.{Naming, shape, place}

abbrev pub many_fields : WrittenRow → ℕ
many_fields End = 0
many_fields (Field f a r) = suc (many_fields r)

-- no two fields of the struct of number k have one name
abbrev pub FieldsApart : Naming → (k : ℕ) → WrittenRow → Type 0
FieldsApart g k r = (i j : ℕ) → i < many_fields r → j < many_fields r → g.member k i ≡ g.member k j → i ≡ j

-- the fields of each struct are numbered in order, as they are in all areas of a module
abbrev mutual
  pub Numbered : Written → Type 0
  Numbered (Leaf s) = Unit {0}
  Numbered (Many n a) = Numbered a
  Numbered (Struct k r) = NumberedFrom r 0

  pub NumberedFrom : WrittenRow → ℕ → Type 0
  NumberedFrom End i = Unit {0}
  NumberedFrom (Field f a r) i = (f ≡ i) × Numbered a × NumberedFrom r (suc i)

-- where the part to which a path leads begins, in object o of an area of this type
abbrev pub begins : Target → Naming → ℕ → Written → List ℕ → Address
begins t g o ty path = record { object = o; offset = place (metric_of t) g ty path }

-- the place of that part, of type b
abbrev pub located : Target → Naming → Bool → ℕ → Written → List ℕ → Written → Lvalue
located t g constant o ty path b = Located constant (begins t g o ty path) (shape g b)

-- a declared type is the C type of an area
abbrev pub IsType : Naming → List CStruct → CBase → Written → Type 0
IsType g structs b ty = tree structs b ≡ shape g ty

-- the objects of file scope are those of the module's areas, in order, by name and type
abbrev pub SameGlobals : Naming → Table → List CStruct → List AreaCore → List FileObject → Type 0
SameGlobals g table structs [] [] = Unit {0}
SameGlobals g table structs [] (f ∷ fs) = ⊥
SameGlobals g table structs (x ∷ xs) [] = ⊥
SameGlobals g table structs (x ∷ xs) (f ∷ fs) = (outer_name f.name ≡ x.name) × IsType g structs f.base (written_out table x.area) × SameGlobals g table structs xs fs
