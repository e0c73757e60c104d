-- In a valid core each exported procedure is an export.
use Rattle.std.proofs.Common.{◌≡◌, ℕ, suc, Bool, true, false, List, [], ◌∷◌, ◌++◌, map, refl, ap, ◌∙◌, slice_get}
use Rattle.std.specs.Prelude.{Option, Some, None, All, IsTrue, if◌then◌else◌, filter}
use Rattle.std.proofs.lemmas.List.{map-append}
use Rattle.std.proofs.lemmas.List.Elements.{All-head, All-tail}
use Rattle.run_records.specs.declared.Plain.{Plain}
use Rattle.run_records.specs.declared.Plain.TheVariants as plain
use Rattle.area_types.specs.Syntax.{Name, ValueType, Truth, Int, Ix, Bits, Ref}
use Rattle.core_tree.specs.Syntax.{ParamCore, ProcCore}
use Rattle.source_types.specs.Values.{is_plain}
use Rattle.core_tree.specs.Exports.{plain_of, plain_params, plain_result, exports_by, exports_among}
use Rattle.core_tree.specs.TypedItems.{ExportTyped, is_plain_result}
use Rattle.core_tree.specs.Laws.{ExportsAreAll}

plain_some : (t : ValueType) → IsTrue (is_plain t) → (x : Plain) × (plain_of t ≡ Some x)
plain_some Truth h = (plain.Truth, refl)
plain_some (Int kind) h = (plain.Int kind, refl)
plain_some (Ix n) h = absurd (cc)
plain_some (Bits k) h = absurd (cc)
plain_some (Ref constant region area) h = absurd (cc)

abbrev PlainType : ValueType → Type 0
PlainType t = IsTrue (is_plain t)

params_some : (ps : List ParamCore) → All PlainType (map (λ x. x.ty) ps) → (ts : List Plain) × (plain_params ps ≡ Some ts)
params_some [] all = ([], refl)
params_some (p ∷ ps) all =
    let first = plain_some p.ty (All-head PlainType p.ty (map (λ x. x.ty) ps) all) in
    let rest = params_some ps (All-tail PlainType p.ty (map (λ x. x.ty) ps) all) in
    (first.0 ∷ rest.0, rw (first.1, rest.1) refl)

result_some : (r : Option ValueType) → IsTrue (is_plain_result r) → (x : Option Plain) × (plain_result r ≡ Some x)
result_some None h = (None, refl)
result_some (Some t) h = let some = plain_some t h in (Some some.0, rw some.1 refl)

-- one procedure
named : (p : ProcCore) → ExportTyped p → map (λ x. x.name) (exports_by true p) ≡ p.name ∷ []
named p typed =
    let params = params_some p.params typed.params in
    let result = result_some p.result typed.result in
    rw (params.1, result.1) refl

one : (b : Bool) (p : ProcCore) (names : List Name) (more : List ProcCore) → (IsTrue b → ExportTyped p) → names ≡ map (λ q. q.name) more → map (λ x. x.name) (exports_by b p) ++ names ≡ map (λ q. q.name) (if b then p ∷ more else more)
one true p names more typed same = rw (named p (typed refl)) (ap (λ ns. p.name ∷ ns) same)
one false p names more typed same = same

all_named : (ps : List ProcCore) → ((k : ℕ) (p : ProcCore) → slice_get ps k ≡ Some p → IsTrue p.exported → ExportTyped p) → map (λ x. x.name) (exports_among ps) ≡ map (λ q. q.name) (filter (λ q. q.exported) ps)
all_named [] typed = refl
all_named (p ∷ ps) typed =
    map-append (λ x. x.name) (exports_by p.exported p) (exports_among ps)
    ∙ one p.exported p (map (λ x. x.name) (exports_among ps)) (filter (λ q. q.exported) ps) (typed 0 p refl) (all_named ps (λ k q. typed (suc k) q))

pub exports_are_all : ExportsAreAll
exports_are_all m v = all_named m.procs (λ k p e. (v.procs k p e).exported)
