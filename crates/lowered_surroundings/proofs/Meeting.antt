-- Array types and structs are declared behind the types of their parts, and each area that is met is declared from then on.
use Rattle.std.proofs.Common.{◌≡◌, ℕ, zero, suc, ◌+◌, ◌<◌, Bool, true, false, ◌||◌, if◌then◌else◌, List, [], ◌∷◌, ◌++◌, length, slice_get, Some, IsTrue, refl, sym, ap, subst, arith, append-nil, append_assoc, length-append, ltb-false}
use Rattle.std.specs.Prelude.{nat_lt}
use Rattle.std.specs.List.{list_all}
use Rattle.iv_words.specs.declared.IntKind.{IntKind}
use Rattle.area_types.specs.Syntax.{Area, Stored, Array, Struct, Field, StructType}
use Rattle.area_types.specs.Tables.{is_stored, is_length, is_made_of, is_field, has_index_lengths, fits_after, fit_after}
use Rattle.area_types.proofs.Truths.{both, is_below}
use Rattle.area_types.proofs.Sound.{fitting}
use Rattle.source_types.specs.Values.{same_area}
use Rattle.typing_laws.proofs.Quiet.{area_same}
use Rattle.lower_types.specs.Arrays.{Declared, is_declared, with_new, met, met_fields, met_structs}

-- ---- what is declared

pub declared_front : (d more : Declared) (a : Area) → IsTrue (is_declared d a) → IsTrue (is_declared (d ++ more) a)
declared_front [] more a h = let no : ⊥ = cc in absurd no
declared_front (x ∷ d) more a h = go (declared_front d more a) (same_area x a) h
  where
    go : (IsTrue (is_declared d a) → IsTrue (is_declared (d ++ more) a)) → (b : Bool) → IsTrue (b || is_declared d a) → IsTrue (b || is_declared (d ++ more) a)
    go later true h = refl
    go later false h = later h

declared_last : (d : Declared) (a : Area) → IsTrue (is_declared (d ++ a ∷ []) a)
declared_last [] a = ap (λ b. b || false) (area_same a)
declared_last (x ∷ d) a = go (same_area x a) (declared_last d a)
  where
    go : (b : Bool) → IsTrue (is_declared (d ++ a ∷ []) a) → IsTrue (b || is_declared (d ++ a ∷ []) a)
    go true h = refl
    go false h = h

module _ (structs : List StructType) (words : ℕ) where
  -- what is stored needs no declaration
  abbrev pub Known : Declared → Area → Type 0
  Known d (Stored held) = IsTrue (is_stored words held)
  Known d (Array n element) = IsTrue (is_declared d (Array n element))
  Known d (Struct k) = IsTrue (is_declared d (Struct k))

  pub record FieldsKnown (d : Declared) (k : ℕ) : Type 0 where
    pub struct_type : StructType
    pub found : slice_get structs k ≡ Some struct_type
    pub fields : (i : ℕ) (f : Field) → slice_get struct_type.fields i ≡ Some f → Known d f.area

  abbrev pub PartsKnown : Declared → Area → Type 0
  PartsKnown d (Stored held) = ⊥
  PartsKnown d (Array n element) = Known d element
  PartsKnown d (Struct k) = FieldsKnown d k

  -- each behind its parts
  abbrev pub Ordered : (before more : Declared) → Type 0
  Ordered before [] = Unit {0}
  Ordered before (a ∷ more) = PartsKnown before a × Ordered (before ++ a ∷ []) more

  -- the first n structs are declared
  pub record Good (n : ℕ) (d : Declared) : Type 0 where
    pub ordered : Ordered [] d
    pub numbered : (i : ℕ) → i < n → IsTrue (is_declared d (Struct i))

  pub record Grows (n : ℕ) (d e : Declared) : Type 0 where
    pub good : Good n d → Good n e
    pub kept : (a : Area) → Known d a → Known e a

  pub same_grows : (n : ℕ) (d : Declared) → Grows n d d
  same_grows n d = record { good = λ g. g; kept = λ a k. k }

  pub grows_on : (n : ℕ) (d e f : Declared) → Grows n d e → Grows n e f → Grows n d f
  grows_on n d e f g h = record { good = λ x. h.good (g.good x); kept = λ a k. h.kept a (g.kept a k) }

  -- ---- one more

  pub known_front : (d more : Declared) (a : Area) → Known d a → Known (d ++ more) a
  known_front d more (Stored held) k = k
  known_front d more (Array n element) k = declared_front d more (Array n element) k
  known_front d more (Struct j) k = declared_front d more (Struct j) k

  ordered_last : (before more : Declared) (a : Area) → Ordered before more → PartsKnown (before ++ more) a → Ordered before (more ++ a ∷ [])
  ordered_last before [] a o p = (subst (λ d. PartsKnown d a) (append-nil before) p, tt)
  ordered_last before (x ∷ more) a o p = (o.0, ordered_last (before ++ x ∷ []) more a o.1 (subst (λ d. PartsKnown d a) (sym (append_assoc before (x ∷ []) more)) p))

  last_good : (n : ℕ) (d : Declared) (a : Area) → Good n d → PartsKnown d a → Good n (d ++ a ∷ [])
  last_good n d a g p = record {
    ordered = ordered_last [] d a g.ordered p;
    numbered = λ i low. declared_front d (a ∷ []) (Struct i) (g.numbered i low);
  }

  new_good : (n : ℕ) (d : Declared) (a : Area) → Good n d → PartsKnown d a → Good n (with_new d a)
  new_good n d a g p = go (is_declared d a)
    where
      go : (b : Bool) → Good n (if b then d else d ++ a ∷ [])
      go true = g
      go false = last_good n d a g p

  new_kept : (d : Declared) (a x : Area) → Known d x → Known (with_new d a) x
  new_kept d a x k = go (is_declared d a)
    where
      go : (b : Bool) → Known (if b then d else d ++ a ∷ []) x
      go true = k
      go false = known_front d (a ∷ []) x k

  new_declared : (d : Declared) (a : Area) → IsTrue (is_declared (with_new d a) a)
  new_declared d a = go (is_declared d a) refl
    where
      go : (b : Bool) → is_declared d a ≡ b → IsTrue (is_declared (if b then d else d ++ a ∷ []) a)
      go true e = e
      go false e = declared_last d a

  -- ---- areas

  mutual
    pub met_good : (n : ℕ) (d : Declared) (a : Area) → IsTrue (is_made_of n words a) → Good n d → Good n (met d a)
    met_good n d (Stored held) h g = g
    met_good n d (Array m element) h g =
        let inner = (both (is_length m) (is_made_of n words element) h).1 in
        new_good n (met d element) (Array m element) (met_good n d element inner g) (met_known n d element inner g)
    met_good n d (Struct k) h g = g

    pub met_known : (n : ℕ) (d : Declared) (a : Area) → IsTrue (is_made_of n words a) → Good n d → Known (met d a) a
    met_known n d (Stored held) h g = h
    met_known n d (Array m element) h g = new_declared (met d element) (Array m element)
    met_known n d (Struct k) h g = g.numbered k (is_below k n h)

  met_kept : (d : Declared) (a x : Area) → Known d x → Known (met d a) x
  met_kept d (Stored held) x k = k
  met_kept d (Array m element) x k = new_kept (met d element) (Array m element) x (met_kept d element x k)
  met_kept d (Struct j) x k = k

  pub met_grows : (n : ℕ) (d : Declared) (a : Area) → IsTrue (is_made_of n words a) → Grows n d (met d a)
  met_grows n d a h = record { good = met_good n d a h; kept = λ x k. met_kept d a x k }

  -- ---- structs

  field_made_of : (n : ℕ) (f : Field) (fs : List Field) → IsTrue (list_all (is_field n words) (f ∷ fs)) → IsTrue (is_made_of n words f.area) × IsTrue (list_all (is_field n words) fs)
  field_made_of n f fs h =
      let p = both (is_field n words f) (list_all (is_field n words) fs) h in
      ((both (is_made_of n words f.area) (has_index_lengths f.area) p.0).0, p.1)

  fields_grow : (n : ℕ) (d : Declared) (fs : List Field) → IsTrue (list_all (is_field n words) fs) → Grows n d (met_fields d fs)
  fields_grow n d [] h = same_grows n d
  fields_grow n d (f ∷ fs) h =
      let p = field_made_of n f fs h in
      grows_on n d (met d f.area) (met_fields (met d f.area) fs) (met_grows n d f.area p.0) (fields_grow n (met d f.area) fs p.1)

  fields_known : (n : ℕ) (d : Declared) (fs : List Field) → IsTrue (list_all (is_field n words) fs) → Good n d → (i : ℕ) (x : Field) → slice_get fs i ≡ Some x → Known (met_fields d fs) x.area
  fields_known n d [] h g i x e = let no : ⊥ = cc in absurd no
  fields_known n d (f ∷ fs) h g zero x e =
      let p = field_made_of n f fs h in
      let same : f ≡ x = cc in
      subst (λ (y : Field). Known (met_fields (met d f.area) fs) y.area) same ((fields_grow n (met d f.area) fs p.1).kept f.area (met_known n d f.area p.0 g))
  fields_known n d (f ∷ fs) h g (suc i) x e =
      let p = field_made_of n f fs h in
      fields_known n (met d f.area) fs p.1 (met_good n d f.area p.0 g) i x e

  struct_good : (k : ℕ) (d : Declared) → Good k d → FieldsKnown d k → Good (suc k) (d ++ Struct k ∷ [])
  struct_good k d g p = record { ordered = ordered_last [] d (Struct k) g.ordered p; numbered = λ i low. go i low (nat_lt i k) refl }
    where
      go : (i : ℕ) → i < suc k → (b : Bool) → nat_lt i k ≡ b → IsTrue (is_declared (d ++ Struct k ∷ []) (Struct i))
      go i low true e = declared_front d (Struct k ∷ []) (Struct i) (g.numbered i (is_below i k e))
      go i low false e =
          let same : k ≡ i = omega (arith, low, ltb-false i k e) in
          subst (λ j. IsTrue (is_declared (d ++ Struct k ∷ []) (Struct j))) same (declared_last d (Struct k))

  pub structs_good : (ws : List IntKind) → length ws ≡ words → (more done : List StructType) (k : ℕ) (d : Declared) → length done ≡ k → IsTrue (fit_after done ws more)
      → ((j : ℕ) (s : StructType) → slice_get more j ≡ Some s → slice_get structs (k + j) ≡ Some s) → Good k d → Good (k + length more) (met_structs k d more)
  structs_good ws w [] done k d n fits there g = subst (λ m. Good m d) (let e : k ≡ k + 0 = omega arith in e) g
  structs_good ws w (s ∷ more) done k d n fits there g =
      let p = both (fits_after done ws s) (fit_after (done ++ s ∷ []) ws more) fits in
      let made : IsTrue (list_all (is_field k words) s.fields) = subst (λ v. IsTrue (list_all (is_field k v) s.fields)) w (subst (λ m. IsTrue (list_all (is_field m (length ws)) s.fields)) n (fitting done ws s p.0).fields) in
      let found : slice_get structs k ≡ Some s = subst (λ m. slice_get structs m ≡ Some s) (let e : k + 0 ≡ k = omega arith in e) (there 0 s refl) in
      let inner : Good k (met_fields d s.fields) = (fields_grow k d s.fields made).good g in
      let here : FieldsKnown (met_fields d s.fields) k = record { struct_type = s; found = found; fields = fields_known k d s.fields made g } in
      let later : Good (suc k + length more) (met_structs (suc k) (met_fields d s.fields ++ Struct k ∷ []) more) =
      structs_good ws w more (done ++ s ∷ []) (suc k) (met_fields d s.fields ++ Struct k ∷ []) (omega (arith, n, length-append done (s ∷ []))) p.1
      (λ j x e. subst (λ m. slice_get structs m ≡ Some x) (let e : k + suc j ≡ suc k + j = omega arith in e) (there (suc j) x e))
      (struct_good k (met_fields d s.fields) inner here) in
      subst (λ m. Good m (met_structs (suc k) (met_fields d s.fields ++ Struct k ∷ []) more)) (let e : suc k + length more ≡ k + suc (length more) = omega arith in e) later
