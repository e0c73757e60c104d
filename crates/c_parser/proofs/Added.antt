-- A unit that grows by one item after the other.
use Rattle.std.proofs.Common.{◌≡◌, List, [], ◌∷◌, ◌++◌, map, refl, sym, ap, ◌∙◌, append_assoc}
use Rattle.reading.proofs.Rows.{append_nil}
use Rattle.c_ast.specs.Syntax.{TranslationUnit}
use Rattle.c_ast.specs.View as view
use Rattle.c_ast.specs.declared.unit.CStruct.{CStruct}
use Rattle.c_ast.specs.declared.unit.CExtern.{CExtern}
use Rattle.c_ast.specs.declared.unit.CObject.{CObject}
use Rattle.c_ast.specs.declared.unit.CFunction.{CFunction}
use Rattle.c_ast.specs.declared.unit.CUnit.{CUnit}
use Rattle.c_grammar.specs.UnitRules.{Item, a_struct, an_extern, an_object, a_function, structs_in, externs_in, objects_in, functions_in, unit_of}
use Rattle.c_parser.specs.Views.{added}

pub added_one : (u : TranslationUnit) (i : Item) (is : List Item) → added (added u (i ∷ [])) is ≡ added u (i ∷ is)
added_one u (a_struct s) is = λ d. record {
  structs = append_assoc u.structs (s ∷ []) (structs_in is) d;
  externs = ap (λ x. x ++ externs_in is) (append_nil u.externs) d;
  objects = ap (λ x. x ++ objects_in is) (append_nil u.objects) d;
  functions = ap (λ x. x ++ functions_in is) (append_nil u.functions) d;
}
added_one u (an_extern x) is = λ d. record {
  structs = ap (λ y. y ++ structs_in is) (append_nil u.structs) d;
  externs = append_assoc u.externs (x ∷ []) (externs_in is) d;
  objects = ap (λ y. y ++ objects_in is) (append_nil u.objects) d;
  functions = ap (λ y. y ++ functions_in is) (append_nil u.functions) d;
}
added_one u (an_object o) is = λ d. record {
  structs = ap (λ y. y ++ structs_in is) (append_nil u.structs) d;
  externs = ap (λ y. y ++ externs_in is) (append_nil u.externs) d;
  objects = append_assoc u.objects (o ∷ []) (objects_in is) d;
  functions = ap (λ y. y ++ functions_in is) (append_nil u.functions) d;
}
added_one u (a_function f) is = λ d. record {
  structs = ap (λ y. y ++ structs_in is) (append_nil u.structs) d;
  externs = ap (λ y. y ++ externs_in is) (append_nil u.externs) d;
  objects = ap (λ y. y ++ objects_in is) (append_nil u.objects) d;
  functions = append_assoc u.functions (f ∷ []) (functions_in is) d;
}

pub added_none : (u : TranslationUnit) → added u [] ≡ u
added_none u = λ d. record { structs = append_nil u.structs d; externs = append_nil u.externs d; objects = append_nil u.objects d; functions = append_nil u.functions d }

pub map_pushed : {A V : Type 0} (says : V → A) (xs : List V) (x : V) → map says (xs ++ x ∷ []) ≡ map says xs ++ says x ∷ []
map_pushed says [] x = refl
map_pushed says (y ∷ ys) x = ap (λ zs. says y ∷ zs) (map_pushed says ys x)

-- ---- one item more in a tree

module _ (u v : CUnit) where
  pub added_struct : (s : CStruct) → v.structs ≡ u.structs ++ s ∷ [] → v.externs ≡ u.externs → v.objects ≡ u.objects → v.functions ≡ u.functions → view.unit_of v ≡ added (view.unit_of u) (a_struct s ∷ [])
  added_struct s e f g h = λ d. record {
    structs = e d;
    externs = (f ∙ sym (append_nil u.externs)) d;
    objects = (ap (map view.object_of) g ∙ sym (append_nil (map view.object_of u.objects))) d;
    functions = (ap (map view.function_of) h ∙ sym (append_nil (map view.function_of u.functions))) d;
  }

  pub added_extern : (x : CExtern) → v.structs ≡ u.structs → v.externs ≡ u.externs ++ x ∷ [] → v.objects ≡ u.objects → v.functions ≡ u.functions → view.unit_of v ≡ added (view.unit_of u) (an_extern x ∷ [])
  added_extern x e f g h = λ d. record {
    structs = (e ∙ sym (append_nil u.structs)) d;
    externs = f d;
    objects = (ap (map view.object_of) g ∙ sym (append_nil (map view.object_of u.objects))) d;
    functions = (ap (map view.function_of) h ∙ sym (append_nil (map view.function_of u.functions))) d;
  }

  pub added_object : (o : CObject) → v.structs ≡ u.structs → v.externs ≡ u.externs → v.objects ≡ u.objects ++ o ∷ [] → v.functions ≡ u.functions → view.unit_of v ≡ added (view.unit_of u) (an_object (view.object_of o) ∷ [])
  added_object o e f g h = λ d. record {
    structs = (e ∙ sym (append_nil u.structs)) d;
    externs = (f ∙ sym (append_nil u.externs)) d;
    objects = (ap (map view.object_of) g ∙ map_pushed view.object_of u.objects o) d;
    functions = (ap (map view.function_of) h ∙ sym (append_nil (map view.function_of u.functions))) d;
  }

  pub added_function : (x : CFunction) → v.structs ≡ u.structs → v.externs ≡ u.externs → v.objects ≡ u.objects → v.functions ≡ u.functions ++ x ∷ [] → view.unit_of v ≡ added (view.unit_of u) (a_function (view.function_of x) ∷ [])
  added_function x e f g h = λ d. record {
    structs = (e ∙ sym (append_nil u.structs)) d;
    externs = (f ∙ sym (append_nil u.externs)) d;
    objects = (ap (map view.object_of) g ∙ sym (append_nil (map view.object_of u.objects))) d;
    functions = (ap (map view.function_of) h ∙ map_pushed view.function_of u.functions x) d;
  }
