-- One element more in the walks over types, exports and calls; and that no call is at fault exactly where the script fits.
use Rattle.std.proofs.Common.{◌≡◌, refl, sym, ◌∙◌, subst, ℕ, ◌+◌, ◌<◌, Bool, true, false, List, [], ◌∷◌, length, drop, get_or, arith}
use Rattle.std.specs.Prelude.{◌↔◌, ℤ, ◌&&◌, if◌then◌else◌, nat_eq, Option, Some, None, Result, IsOk, IsTrue}
use Rattle.std.proofs.lemmas.List.{drop_more}
use Rattle.iv_words.specs.Words.{same_word}
use Rattle.run_records.specs.declared.Plain.{Plain}
use Rattle.run_records.specs.declared.Export.{Export}
use Rattle.run_records.specs.declared.EntryCall.{EntryCall}
use Rattle.run_records.specs.Scripts.{plain_fits, values_fit, export_of, found_fits, calls_fit}
use Rattle.iv_script.specs.Fit.{why_unfit, fault_or, fit_of}
use Rattle.iv_script.specs.declared.fault.ScriptFault.{ScriptFault}
use Rattle.iv_script.specs.declared.fault.ScriptWhy.{ScriptWhy}
use Rattle.iv_script.specs.declared.fault.ScriptWhy.TheVariants.{BadCount, OutOfRange}

pub values_more : (plains : List Plain) (values : List ℤ) (i : ℕ) (d : Plain) (e : ℤ) → i < length plains → i < length values
    → values_fit (drop i plains) (drop i values) ≡ (plain_fits (get_or plains i d) (get_or values i e) && values_fit (drop (i + 1) plains) (drop (i + 1) values))
values_more plains values i d e small few = rw (drop_more plains i d small) (rw (drop_more values i e few) refl)

pub export_more : (name : List ℕ) (exports : List Export) (i : ℕ) (d : Export) → i < length exports
    → export_of name (drop i exports) ≡ (if same_word (get_or exports i d).name name then Some (get_or exports i d) else export_of name (drop (i + 1) exports))
export_more name exports i d small = rw (drop_more exports i d small) refl

pub fit_more : (calls : List EntryCall) (exports : List Export) (i : ℕ) (d : EntryCall) → i < length calls
    → fit_of (drop i calls) exports ≡ fault_or (get_or calls i d).line (why_unfit (export_of (get_or calls i d).name exports) (get_or calls i d).values) (fit_of (drop (i + 1) calls) exports)
fit_more calls exports i d small = rw (drop_more calls i d small) refl

-- ---- a script fits exactly where no call is at fault

same_count : (plains : List Plain) (values : List ℤ) → values_fit plains values ≡ true → nat_eq (length values) (length plains) ≡ true
same_count [] [] fit = refl
same_count [] (v ∷ vs) fit = let no : ⊥ = cc in absurd no
same_count (t ∷ ts) [] fit = let no : ⊥ = cc in absurd no
same_count (t ∷ ts) (v ∷ vs) fit = let more = same_count ts vs (grind arith) in grind arith

passed_both : (counted fit : Bool) → (if counted then (if fit then None else Some OutOfRange) else Some BadCount) ≡ None → fit ≡ true
passed_both true true none = refl
passed_both true false none = let no : ⊥ = cc in absurd no
passed_both false fit none = let no : ⊥ = cc in absurd no

fits_unless : (found : Option Export) (values : List ℤ) → why_unfit found values ≡ None → found_fits found values ≡ true
fits_unless None values none = let no : ⊥ = cc in absurd no
fits_unless (Some x) values none = passed_both (nat_eq (length values) (length x.params)) (values_fit x.params values) none

both_pass : (counted fit : Bool) → counted ≡ true → fit ≡ true → (if counted then (if fit then None else Some OutOfRange) else Some BadCount) ≡ None
both_pass true true a b = refl
both_pass true false a b = let no : ⊥ = cc in absurd no
both_pass false fit a b = let no : ⊥ = cc in absurd no

none_where_fits : (found : Option Export) (values : List ℤ) → found_fits found values ≡ true → why_unfit found values ≡ None
none_where_fits None values fit = let no : ⊥ = cc in absurd no
none_where_fits (Some x) values fit = both_pass (nat_eq (length values) (length x.params)) (values_fit x.params values) (same_count x.params values fit) fit

ok_both : (line : ℕ) (why : Option ScriptWhy) (rest : Result (Unit {0}) ScriptFault) → IsOk (fault_or line why rest) → (why ≡ None) × IsOk rest
ok_both line None rest ok = (refl, ok)
ok_both line (Some why) rest ok = let no : ⊥ = cc in absurd no

both_true : (a b : Bool) → a ≡ true → b ≡ true → (a && b) ≡ true
both_true true true x y = refl
both_true true false x y = let no : ⊥ = cc in absurd no
both_true false b x y = let no : ⊥ = cc in absurd no

parts_true : (a b : Bool) → (a && b) ≡ true → (a ≡ true) × (b ≡ true)
parts_true true true x = (refl, refl)
parts_true true false x = let no : ⊥ = cc in absurd no
parts_true false b x = let no : ⊥ = cc in absurd no

ok_fits : (calls : List EntryCall) (exports : List Export) → IsOk (fit_of calls exports) → calls_fit calls exports ≡ true
ok_fits [] exports ok = refl
ok_fits (c ∷ cs) exports ok =
    let both = ok_both c.line (why_unfit (export_of c.name exports) c.values) (fit_of cs exports) ok in
    both_true (found_fits (export_of c.name exports) c.values) (calls_fit cs exports) (fits_unless (export_of c.name exports) c.values both.0) (ok_fits cs exports both.1)

fits_ok : (calls : List EntryCall) (exports : List Export) → calls_fit calls exports ≡ true → IsOk (fit_of calls exports)
fits_ok [] exports fit = refl
fits_ok (c ∷ cs) exports fit =
    let both = parts_true (found_fits (export_of c.name exports) c.values) (calls_fit cs exports) fit in
    let none : why_unfit (export_of c.name exports) c.values ≡ None = none_where_fits (export_of c.name exports) c.values both.0 in
    subst (λ why. IsOk (fault_or c.line why (fit_of cs exports))) (sym none) (fits_ok cs exports both.1)

pub fits_where_ok : (calls : List EntryCall) (exports : List Export) (r : Result (Unit {0}) ScriptFault) → r ≡ fit_of calls exports → IsOk r ↔ IsTrue (calls_fit calls exports)
fits_where_ok calls exports r is = (λ ok. ok_fits calls exports (subst IsOk is ok), λ fit. subst IsOk (sym is) (fits_ok calls exports fit))

both_more : (a b : Bool) → a ≡ true → b ≡ (a && b)
both_more true b is = refl
both_more false b is = let no : ⊥ = cc in absurd no

pub values_next : (plains : List Plain) (values : List ℤ) (i : ℕ) (d : Plain) (e : ℤ) → i < length plains → length values ≡ length plains
    → plain_fits (get_or plains i d) (get_or values i e) ≡ true → values_fit (drop (i + 1) plains) (drop (i + 1) values) ≡ values_fit (drop i plains) (drop i values)
values_next plains values i d e small same fits =
    both_more (plain_fits (get_or plains i d) (get_or values i e)) (values_fit (drop (i + 1) plains) (drop (i + 1) values)) fits ∙ sym (values_more plains values i d e small (omega (arith, same)))
