-- The lowered unit is in the subset, and nests no deeper than the parentheses of its calls.
use Rattle.std.proofs.Common.{ℕ, zero, suc, ◌<◌, ◌≤◌, ◌^◌, List, [], ◌∷◌, ◌++◌, map, sym, subst, arith}
use Rattle.std.specs.Prelude.{slice_get, All, replicate}
use Rattle.std.proofs.Math.Nat.{max-le}
use Rattle.std.proofs.lemmas.List.Elements.{All-nil, All-head, All-tail, All-cons}
use Rattle.iv_words.specs.declared.IntKind.TheVariants.{U8}
use Rattle.first_form.specs.declared.FirstModule.{FirstModule}
use Rattle.first_form.specs.declared.FirstImport.{FirstImport}
use Rattle.first_form.specs.declared.FirstProc.{FirstProc}
use Rattle.first_form.specs.declared.FirstCall.{FirstCall}
use Rattle.ivory_lexer.specs.Tokens.{IsName}
use Rattle.first_form.specs.Valid.{CallFits, Valid}
use Rattle.c_ast.specs.declared.CScalar.TheVariants.{Int}
use Rattle.c_ast.specs.declared.CType.TheVariants.{Value}
use Rattle.c_ast.specs.Names.{prefixed}
use Rattle.c_text.specs.Identifiers.{IsIdentifier}
use Rattle.c_text.specs.Subset.{ValueInSubset, ExprInSubset, CallInSubset, StmtsInSubset, StructInSubset, ExternInSubset, ObjectInSubset, ParamInSubset, FunctionInSubset, InSubset}
use Rattle.c_text.specs.Nested.{deepest, expr_nested, stmts_nested, function_nested, nested}
use Rattle.c_lower.specs.Shape.{extern_for}
use Rattle.c_lower.specs.Lowered.{constant_for, name_of, body_for, function_for, lowered}
use Rattle.c_lower.proofs.Lists.{all_mapped, all_before, all_after, at_place}
use Rattle.c_lower.proofs.Identifiers.{prefixed_identifier}

scalars : (k : ℕ) → All ValueInSubset (replicate k (Value (Int U8)))
scalars zero = All-nil ValueInSubset
scalars (suc k) = All-cons ValueInSubset (Value (Int U8)) (replicate k (Value (Int U8))) tt (scalars k)

abbrev Small : ℕ → Type 0
Small v = v < 2 ^ 8

constant_in : (v : ℕ) → Small v → ExprInSubset (constant_for v)
constant_in v small = omega (arith, small)

extern_in : (i : FirstImport) → IsName i.name → ExternInSubset (extern_for i)
extern_in i named = record { name = prefixed_identifier i.name named; params = scalars i.params; result = tt }

module _ (imports : List FirstImport) (rest : List (List ℕ)) (named : All IsName (map (λ i. i.name) imports ++ rest)) where
  call_in : (c : FirstCall) → CallFits imports c → CallInSubset (record { name = prefixed (name_of (slice_get imports c.import)); args = map constant_for c.values })
  call_in c fits = record {
    name = subst (λ i. IsIdentifier (prefixed (name_of i))) (sym fits.found) (prefixed_identifier fits.target.name (at_place (λ i. i.name) rest IsName imports named c.import fits.target fits.found));
    args = all_mapped Small ExprInSubset constant_for constant_in c.values fits.small;
  }

  calls_in : (cs : List FirstCall) → All (CallFits imports) cs → StmtsInSubset (body_for imports cs)
  calls_in [] fits = tt
  calls_in (c ∷ cs) fits = (call_in c (All-head (CallFits imports) c cs fits), calls_in cs (All-tail (CallFits imports) c cs fits))

  functions_in : (ps : List FirstProc) → All IsName (map (λ p. p.name) ps) → All (λ p. All (CallFits imports) p.calls) ps → All FunctionInSubset (map (function_for imports) ps)
  functions_in [] names fits = All-nil FunctionInSubset
  functions_in (p ∷ ps) names fits =
      All-cons FunctionInSubset (function_for imports p) (map (function_for imports) ps)
      (record {
        name = prefixed_identifier p.name (All-head IsName p.name (map (λ p. p.name) ps) names);
        params = All-nil ParamInSubset;
        result = tt;
        body = calls_in p.calls (All-head (λ p. All (CallFits imports) p.calls) p ps fits);
      })
      (functions_in ps (All-tail IsName p.name (map (λ p. p.name) ps) names) (All-tail (λ p. All (CallFits imports) p.calls) p ps fits))

externs_in : (is : List FirstImport) → All IsName (map (λ i. i.name) is) → All ExternInSubset (map extern_for is)
externs_in [] named = All-nil ExternInSubset
externs_in (i ∷ is) named =
    All-cons ExternInSubset (extern_for i) (map extern_for is) (extern_in i (All-head IsName i.name (map (λ i. i.name) is) named)) (externs_in is (All-tail IsName i.name (map (λ i. i.name) is) named))

module _ (m : FirstModule) (valid : Valid m) where
  abbrev pub import_names : List (List ℕ)
  import_names = map (λ i. i.name) m.imports

  abbrev pub proc_names : List (List ℕ)
  proc_names = map (λ p. p.name) m.procs

  pub lowered_in_subset : InSubset (lowered m)
  lowered_in_subset = record {
    structs = All-nil StructInSubset;
    externs = externs_in m.imports (all_before IsName import_names proc_names valid.named);
    objects = All-nil ObjectInSubset;
    functions = functions_in m.imports proc_names valid.named m.procs (all_after IsName import_names proc_names valid.named) valid.calls;
  }

-- ---- nesting

constants_flat : (vs : List ℕ) → deepest (map expr_nested (map constant_for vs)) ≤ 0
constants_flat [] = omega arith
constants_flat (v ∷ vs) = max-le (omega arith) (constants_flat vs)

module _ (imports : List FirstImport) where
  calls_nest : (cs : List FirstCall) → stmts_nested (body_for imports cs) ≤ 1
  calls_nest [] = omega arith
  calls_nest (c ∷ cs) = max-le (omega (arith, constants_flat c.values)) (calls_nest cs)

  functions_nest : (ps : List FirstProc) → deepest (map function_nested (map (function_for imports) ps)) ≤ 2
  functions_nest [] = omega arith
  functions_nest (p ∷ ps) = max-le (omega (arith, calls_nest p.calls)) (functions_nest ps)

pub lowered_nests : (m : FirstModule) → nested (lowered m) ≤ 2
lowered_nests m = max-le (omega arith) (max-le (omega arith) (max-le (omega arith) (functions_nest m.imports m.procs)))
