-- The lowered unit has the shape that is wanted, and exports what its module exports.
use Rattle.std.proofs.Common.{◌≡◌, List, [], ◌∷◌, ◌++◌, map, refl, sym, ◌∙◌, ap, subst}
use Rattle.std.specs.Prelude.{All}
use Rattle.std.specs.List.{AllZip}
use Rattle.std.proofs.lemmas.List.Elements.{All-nil}
use Rattle.first_form.specs.declared.FirstModule.{FirstModule}
use Rattle.first_form.specs.declared.FirstImport.{FirstImport}
use Rattle.first_form.specs.declared.FirstProc.{FirstProc}
use Rattle.first_form.specs.declared.FirstCall.{FirstCall}
use Rattle.first_meaning.specs.Source.{export_for, exports_of}
use Rattle.c_ast.specs.Names.{prefixed}
use Rattle.c_ast.specs.Syntax.{Function, TranslationUnit}
use Rattle.c_ast.specs.Exports.{exports_by, export_as, exports_among, c_exports, plain_params, plain_result}
use Rattle.c_lower.specs.Shape.{stmts_names, IsTemporary, FunctionFor, Shape}
use Rattle.c_lower.specs.Lowered.{body_for, function_for, lowered}

module _ (imports : List FirstImport) where
  -- calls declare no name
  no_names : (cs : List FirstCall) → stmts_names (body_for imports cs) ≡ []
  no_names [] = refl
  no_names (c ∷ cs) = no_names cs

  function_shaped : (p : FirstProc) → FunctionFor p (function_for imports p)
  function_shaped p = record {
    shown = refl;
    name = refl;
    params = refl;
    result = refl;
    empty = λ none. ap (body_for imports) none;
    locals = subst (All IsTemporary) (sym (no_names p.calls)) (All-nil IsTemporary);
  }

  functions_shaped : (ps : List FirstProc) → AllZip FunctionFor ps (map (function_for imports) ps)
  functions_shaped [] = tt
  functions_shaped (p ∷ ps) = (function_shaped p, functions_shaped ps)

pub lowered_shape : (m : FirstModule) → Shape m (lowered m)
lowered_shape m = record { structs = refl; externs = refl; objects = refl; functions = functions_shaped m.imports m.procs }

-- a function of that shape is the export of its procedure
function_exports : (p : FirstProc) (f : Function) → FunctionFor p f → exports_by f.hidden f ≡ export_for p ∷ []
function_exports p f h =
    ap (λ hidden. exports_by hidden f) h.shown
    ∙ ap (λ name. export_as name (plain_params f.params) (plain_result f.result)) h.name
    ∙ ap (λ params. export_as (prefixed p.name) (plain_params params) (plain_result f.result)) h.params
    ∙ ap (λ result. export_as (prefixed p.name) (plain_params []) (plain_result result)) h.result

functions_export : (ps : List FirstProc) (fs : List Function) → AllZip FunctionFor ps fs → exports_among fs ≡ map export_for ps
functions_export [] [] h = refl
functions_export [] (f ∷ fs) h = absurd h
functions_export (p ∷ ps) [] h = absurd h
functions_export (p ∷ ps) (f ∷ fs) h =
    ap (λ first. first ++ exports_among fs) (function_exports p f h.0) ∙ ap (λ rest. export_for p ∷ rest) (functions_export ps fs h.1)

pub shape_exports : (m : FirstModule) (u : TranslationUnit) → Shape m u → c_exports u ≡ exports_of m
shape_exports m u shape = functions_export m.procs u.functions shape.functions
