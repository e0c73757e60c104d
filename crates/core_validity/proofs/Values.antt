-- First values: lists of numbers that fit lists of types, and zero, which fits each type that is stored.
use Rattle.std.proofs.Common.{◌≡◌, ℕ, zero, suc, ◌<◌, ◌≤◌, ℤ, pos, List, [], ◌∷◌, ◌++◌, length, slice_get, get_or, unwrap_or, All, IsTrue, refl, sym, ap, subst, arith, length-append, le-leb}
use Rattle.std.specs.List.{list_all}
use Rattle.std.proofs.lemmas.Option.{slice_get-get_or}
use Rattle.std.proofs.lemmas.List.Elements.{All-head, All-tail, All-cons, All-nil, All-append, All-push}
use Rattle.iv_words.specs.declared.IntKind.{IntKind}
use Rattle.iv_words.specs.declared.IntKind.TheVariants.{U8, U16, U32, U64, I8, I16, I32, I64}
use Rattle.iv_words.specs.Kinds.{in_range}
use Rattle.index_types.specs.Indices.{is_index}
use Rattle.type_trees.specs.Trees.{Struct, End, repeated, scalars, scalars_row}
use Rattle.area_types.specs.Syntax as types
use Rattle.area_types.specs.Syntax.{ValueType, Area, StructType}
use Rattle.area_types.specs.Tables.{Table, is_length, is_stored, is_made_of, is_field, has_index_length, has_index_lengths, fits_after, fit_after}
use Rattle.area_types.specs.Trees.{Written, tree_of, fields_from, fields_of, trees_from, trees_of}
use Rattle.area_types.proofs.Truths.{both, is_below, is_at_most}
use Rattle.area_types.proofs.Sound.{fitting}
use Rattle.core_tree.specs.Types.{is_word, is_value}
use Rattle.core_tree.specs.TypedItems.{ValuesFit}
use Rattle.typing_rules.specs.Initializers.{zeros}
use Rattle.core_validity.proofs.Lists.{All-at}

-- ---- lists of values

pub fit_both : (table : Table) (ts us : List ValueType) (vs ws : List ℤ) → ValuesFit table ts vs → ValuesFit table us ws → ValuesFit table (ts ++ us) (vs ++ ws)
fit_both table [] us [] ws h k = k
fit_both table [] us (v ∷ vs) ws h k = absurd h
fit_both table (t ∷ ts) us [] ws h k = absurd h
fit_both table (t ∷ ts) us (v ∷ vs) ws h k = (h.0, fit_both table ts us vs ws h.1 k)

-- zero is a value of the type
abbrev pub Zero : Table → ValueType → Type 0
Zero table t = IsTrue (is_value table t (pos 0))

zeros_fit : (table : Table) (ts : List ValueType) → All (Zero table) ts → ValuesFit table ts (zeros (length ts))
zeros_fit table [] h = tt
zeros_fit table (t ∷ ts) h = (All-head (Zero table) t ts h, zeros_fit table ts (All-tail (Zero table) t ts h))

pub so_many_zeros : (table : Table) (ts : List ValueType) (n : ℕ) → All (Zero table) ts → length ts ≡ n → ValuesFit table ts (zeros n)
so_many_zeros table ts n h e = subst (λ m. ValuesFit table ts (zeros m)) e (zeros_fit table ts h)

-- ---- zero

zero_of_kind : (kind : IntKind) → IsTrue (in_range kind (pos 0))
zero_of_kind U8 = refl
zero_of_kind U16 = refl
zero_of_kind U32 = refl
zero_of_kind U64 = refl
zero_of_kind I8 = refl
zero_of_kind I16 = refl
zero_of_kind I32 = refl
zero_of_kind I64 = refl

zero_of_word : (words : List IntKind) (k : ℕ) → k < length words → IsTrue (is_word (slice_get words k) (pos 0))
zero_of_word [] k h = let no : ⊥ = omega arith in absurd no
zero_of_word (w ∷ ws) zero h = zero_of_kind w
zero_of_word (w ∷ ws) (suc k) h = zero_of_word ws k (omega (arith, h))

zero_index : (n : ℕ) → 1 ≤ n → IsTrue (is_index n (pos 0))
zero_index zero h = let no : ⊥ = omega arith in absurd no
zero_index (suc n) h = le-leb 1 (suc n) h

zero_held : (table : Table) (t : ValueType) → IsTrue (is_stored (length table.words) t) → IsTrue (has_index_length t) → Zero table t
zero_held table types.Truth h k = refl
zero_held table (types.Int kind) h k = zero_of_kind kind
zero_held table (types.Ix n) h k = zero_index n (is_at_most 1 n (both _ _ k).0)
zero_held table (types.Bits j) h k = zero_of_word table.words j (is_below j (length table.words) h)
zero_held table (types.Ref c r a) h k = absurd (cc)

pub zero_repeated : (table : Table) (n : ℕ) (ts : List ValueType) → All (Zero table) ts → All (Zero table) (repeated n ts)
zero_repeated table zero ts h = All-nil (Zero table)
zero_repeated table (suc n) ts h = All-append (Zero table) ts (repeated n ts) h (zero_repeated table n ts h)

abbrev pub ZeroTree : Table → Written → Type 0
ZeroTree table a = All (Zero table) (scalars a)

module _ (table : Table) (trees : List Written) (each : All (ZeroTree table) trees) where
  pub zero_tree : (a : Area) → IsTrue (is_made_of (length trees) (length table.words) a) → IsTrue (has_index_lengths a) → ZeroTree table (tree_of trees a)
  zero_tree (types.Stored t) h k = All-cons (Zero table) t [] (zero_held table t h k) (All-nil (Zero table))
  zero_tree (types.Array n a) h k = zero_repeated table n (scalars (tree_of trees a)) (zero_tree a (both (is_length n) (is_made_of (length trees) (length table.words) a) h).1 k)
  zero_tree (types.Struct j) h k =
      let e = slice_get-get_or trees j (Struct j End) (is_below j (length trees) h) in
      subst (ZeroTree table) (sym (ap (λ o. unwrap_or o (Struct j End)) e)) (All-at (ZeroTree table) trees j (get_or trees j (Struct j End)) each e)

  pub zero_row : (i : ℕ) (fs : List types.Field) → IsTrue (list_all (is_field (length trees) (length table.words)) fs) → All (Zero table) (scalars_row (fields_from i trees fs))
  zero_row i [] h = All-nil (Zero table)
  zero_row i (f ∷ fs) h =
      let p = both (is_field (length trees) (length table.words) f) (list_all (is_field (length trees) (length table.words)) fs) h in
      let q = both (is_made_of (length trees) (length table.words) f.area) (has_index_lengths f.area) p.0 in
      All-append (Zero table) (scalars (tree_of trees f.area)) (scalars_row (fields_from (suc i) trees fs)) (zero_tree f.area q.0 q.1) (zero_row (suc i) fs p.1)

-- the trees of the table's structs
zero_from : (table : Table) (more done : List StructType) (trees : List Written) → length done ≡ length trees → All (ZeroTree table) trees → IsTrue (fit_after done table.words more) → All (ZeroTree table) (trees_from trees more)
zero_from table [] done trees n h k = h
zero_from table (s ∷ more) done trees n h k =
    let p = both (fits_after done table.words s) (fit_after (done ++ s ∷ []) table.words more) k in
    let fields : IsTrue (list_all (is_field (length trees) (length table.words)) s.fields) = subst (λ m. IsTrue (list_all (is_field m (length table.words)) s.fields)) n (fitting done table.words s p.0).fields in
    let here : Written = Struct (length trees) (fields_of trees s.fields) in
    zero_from table more (done ++ s ∷ []) (trees ++ here ∷ []) (omega (arith, n, length-append done (s ∷ []), length-append trees (here ∷ [])))
    (All-push (ZeroTree table) trees here h (zero_row table trees h 0 s.fields fields)) p.1

pub zero_table : (table : Table) (ss : List StructType) → IsTrue (fit_after [] table.words ss) → All (ZeroTree table) (trees_of ss)
zero_table table ss h = zero_from table ss [] [] refl (All-nil (ZeroTree table)) h
