-- One more declaration in a table that can take it back, and one less.
use Rattle.std.proofs.Common.{◌≡◌, ℕ, Bool, true, false, List, [], ◌∷◌, ◌++◌, Some, Option, cond, map, refl, sym, ap, ◌∙◌, subst, if◌then◌else◌}
use Rattle.std.specs.Prelude.{is_some}
use Rattle.std.specs.Borrow.{Bor}
use Rattle.std.proofs.lemmas.List.{map-append}
use Rattle.indexmap.specs.IndexMap.{IndexMap, get_by}
use Rattle.iv_words.specs.Words.{same_word}
use Rattle.iv_words.proofs.Equality.{same_equal, same_self}
use Rattle.name_tables.specs.declared.scoped.Shadowing.{Shadowing}
use Rattle.name_tables.specs.Latest.{latest}
use Rattle.name_tables.specs.Scoped.{declaration, latest_first, Restores, Scoped}

pub first_is_latest : {T : Type 0} (ds es : List (List ℕ × T)) (e : List ℕ × T) → latest_first ds (es ++ e ∷ []) ≡ e ∷ latest_first ds es
first_is_latest ds [] e = refl
first_is_latest ds (x ∷ es) e = first_is_latest (x ∷ ds) es e

pub declared_more : {T : Type 0} (es : List (Shadowing T)) (e : Shadowing T) → map declaration (es ++ e ∷ []) ≡ map declaration es ++ declaration e ∷ []
declared_more es e = map-append declaration es (e ∷ [])

rows_more : {T : Type 0} (es : List (Shadowing T)) (e : Shadowing T) → latest_first [] (map declaration (es ++ e ∷ [])) ≡ declaration e ∷ latest_first [] (map declaration es)
rows_more es e = ap (latest_first []) (declared_more es e) ∙ first_is_latest [] (map declaration es) (declaration e)

restores_more : {T : Type 0} (ds : List (List ℕ × T)) (es : List (Shadowing T)) (e : Shadowing T) → Restores ds es → e.before ≡ latest (latest_first ds (map declaration es)) e.name.now → Restores ds (es ++ e ∷ [])
restores_more ds [] e all before = (before, tt)
restores_more ds (x ∷ es) e all before = (all.0, restores_more (declaration x ∷ ds) es e all.1 before)

restores_less : {T : Type 0} (ds : List (List ℕ × T)) (es : List (Shadowing T)) (e : Shadowing T) → Restores ds (es ++ e ∷ []) → (e.before ≡ latest (latest_first ds (map declaration es)) e.name.now) × Restores ds es
restores_less ds [] e all = (all.0, tt)
restores_less ds (x ∷ es) e all =
    let rest : (e.before ≡ latest (latest_first (declaration x ∷ ds) (map declaration es)) e.name.now) × Restores (declaration x ∷ ds) es = restores_less (declaration x ∷ ds) es e all.1 in
    (rest.0, (all.0, rest.1))

module _ {T S : Type 0} where
  pub scoped_more : (hashed after : IndexMap (Bor (List ℕ)) T S) (es now : List (Shadowing T)) (e : Shadowing T) → now ≡ es ++ e ∷ [] → Scoped hashed es → e.before ≡ get_by (λ k. same_word e.name.now k.now) hashed
      → ((q : Bor (List ℕ)) → get_by (λ k. same_word q.now k.now) after ≡ cond (same_word e.name.now q.now) (Some e.value) (get_by (λ k. same_word q.now k.now) hashed))
      → Scoped after now
  scoped_more hashed after es now e is was before puts =
      subst (Scoped after) (sym is) (record {
        found = λ q. puts q ∙ ap (cond (same_word e.name.now q.now) (Some e.value)) (was.found q) ∙ sym (ap (λ ds. latest ds q.now) (rows_more es e));
        restores = restores_more [] es e was.restores (before ∙ was.found e.name);
      })

  -- the name of the latest declaration is there
  pub latest_is_there : (hashed : IndexMap (Bor (List ℕ)) T S) (es now : List (Shadowing T)) (e : Shadowing T) → es ≡ now ++ e ∷ [] → Scoped hashed es → is_some (get_by (λ k. same_word e.name.now k.now) hashed) ≡ true
  latest_is_there hashed es now e is was =
      ap is_some (was.found e.name ∙ ap (λ xs. latest (latest_first [] (map declaration xs)) e.name.now) is ∙ ap (λ ds. latest ds e.name.now) (rows_more now e)
      ∙ ap (λ b. if b then Some e.value else latest (latest_first [] (map declaration now)) e.name.now) (same_self e.name.now))

  pub scoped_less : (hashed after : IndexMap (Bor (List ℕ)) T S) (es now : List (Shadowing T)) (e : Shadowing T) → es ≡ now ++ e ∷ [] → Scoped hashed es
      → ((q : Bor (List ℕ)) → get_by (λ k. same_word q.now k.now) after ≡ cond (same_word e.name.now q.now) e.before (get_by (λ k. same_word q.now k.now) hashed))
      → Scoped after now
  scoped_less hashed after es now e is was puts =
      let ds : List (List ℕ × T) = latest_first [] (map declaration now) in
      let both : (e.before ≡ latest ds e.name.now) × Restores [] now = restores_less [] now e (subst (Restores []) is was.restores) in
      record {
        found = λ q. puts q ∙ ap (cond (same_word e.name.now q.now) e.before) (was.found q ∙ ap (λ xs. latest (latest_first [] (map declaration xs)) q.now) is ∙ ap (λ rows. latest rows q.now) (rows_more now e))
            ∙ as_before ds e.name.now q.now e.before (Some e.value) both.0 (same_word e.name.now q.now) refl;
        restores = both.1;
      }
    where
      as_before : (ds : List (List ℕ × T)) (name q : List ℕ) (before value : Option T) → before ≡ latest ds name → (b : Bool) → same_word name q ≡ b → cond b before (if b then value else latest ds q) ≡ latest ds q
      as_before ds name q before value is true same = is ∙ ap (latest ds) (same_equal name q same)
      as_before ds name q before value is false same = refl
