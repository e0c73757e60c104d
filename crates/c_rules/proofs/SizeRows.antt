-- Sizes that are counted up to a bound, along members and structs.
use Rattle.std.proofs.Common.{◌≡◌, refl, sym, ◌∙◌, ap, ℕ, ◌+◌, ◌*◌, ◌≤◌, Bool, true, false, if◌then◌else◌, suc, length, List, [], ◌∷◌, ◌++◌, min, max, Option, Some, None, ⊎_elim, arith}
use Rattle.std.specs.Prelude.{map, slice_get}
use Rattle.std.specs.Option.{option_map}
use Rattle.std.proofs.Math.Nat.{mul-le-mul_left}
use Rattle.std.proofs.lemmas.Bool.{cases_lt}
use Rattle.std.proofs.lemmas.List.{map-append}
use Rattle.iv_words.specs.Words.{same_word}
use Rattle.c_ast.specs.declared.types.CBase.{CBase}
use Rattle.c_ast.specs.declared.types.CBase.TheVariants.{Scalar, Struct as Named}
use Rattle.c_ast.specs.declared.types.Target.{Target}
use Rattle.c_ast.specs.declared.unit.CMember.{CMember}
use Rattle.c_ast.specs.declared.unit.CStruct.{CStruct}
use Rattle.c_ast.specs.Names.{named}
use Rattle.c_ast.specs.Places.{place_from}
use Rattle.c_ast.specs.Scalars.{metric_of}
use Rattle.c_ast.specs.Structs.{CTree, or_empty, base_tree, times, row_of, struct_of, table, tree}
use Rattle.c_ast.specs.Syntax.{Name}
use Rattle.c_ast.specs.Targets.{table_of}
use Rattle.c_ast.proofs.Scalars.{types_have_alignments}
use Rattle.c_ast.proofs.Promotions.{targets_are_sound}
use Rattle.type_trees.specs.Layouts.{align, align_row, size, end_row}
use Rattle.type_trees.specs.Multiples.{up}
use Rattle.type_trees.proofs.Multiples.{up_from, up_none}
use Rattle.c_rules.specs.declared.sizes.Size.{Size}
use Rattle.c_rules.specs.Sizes.{bound, capped, ended, sized_times, tree_size, row_size, entry_size, sized_view, sizes_of, or_nothing, base_size}

-- ---- counting up to a bound

cap_times : (n s : ℕ) → capped (n * capped s) ≡ capped (n * s)
cap_times n s = ⊎_elim
    (λ lt. let same : min s bound ≡ s = omega arith in ap (λ x. capped (n * x)) same)
    (λ le. let most : min s bound ≡ bound = omega arith in
    let more : n * bound ≤ n * s = mul-le-mul_left n le in
    ap (λ x. capped (n * x)) most ∙ beyond n (n * s) more (none n s))
    (cases_lt s bound)
  where
    none : (n s : ℕ) → n ≡ 0 → n * s ≡ 0
    none n s e = grind arith

    beyond : (n m : ℕ) → n * bound ≤ m → (n ≡ 0 → m ≡ 0) → capped (n * bound) ≡ capped m
    beyond n m more zero = grind arith

cap_end : (e a s : ℕ) → capped (up (capped e) a + capped s) ≡ capped (up e a + s)
cap_end e a s = ⊎_elim
    (λ lt. let same : min e bound ≡ e = omega arith in ap (λ x. capped (up x a + capped s)) same ∙ omega arith)
    (λ le. let most : min e bound ≡ bound = omega arith in
    ap (λ x. capped (up x a + capped s)) most ∙ omega (arith, up_from bound a, up_from e a))
    (cases_lt e bound)

pub cap_up : (e a : ℕ) → capped (up (capped e) a) ≡ capped (up e a)
cap_up e a = ap capped (omega arith) ∙ cap_end e a 0 ∙ ap capped (omega arith)

some_align : (target : Target) (a : CTree) → 1 ≤ align (metric_of target) a
some_align target a = types_have_alignments (table_of target) (targets_are_sound target) a

-- ---- one after another

pub end_push : (target : Target) (tbl : List (Name × CTree)) (ms : List CMember) (m : CMember) (o : ℕ) → end_row (metric_of target) (row_of tbl (ms ++ m ∷ [])) o
    ≡ up (end_row (metric_of target) (row_of tbl ms) o) (align (metric_of target) (times m.length (base_tree tbl m.base))) + size (metric_of target) (times m.length (base_tree tbl m.base))
end_push target tbl [] m o = refl
end_push target tbl (x ∷ ms) m o =
    end_push target tbl ms m (up o (align (metric_of target) (times x.length (base_tree tbl x.base))) + size (metric_of target) (times x.length (base_tree tbl x.base)))

pub align_push : (target : Target) (tbl : List (Name × CTree)) (ms : List CMember) (m : CMember)
    → align_row (metric_of target) (row_of tbl (ms ++ m ∷ [])) ≡ max (align_row (metric_of target) (row_of tbl ms)) (align (metric_of target) (times m.length (base_tree tbl m.base)))
align_push target tbl [] m = omega arith
align_push target tbl (x ∷ ms) m = omega (arith, align_push target tbl ms m)

table_push : (named : List (Name × CTree)) (ss : List CStruct) (s : CStruct) → table named (ss ++ s ∷ []) ≡ table named ss ++ (s.name, struct_of (table named ss) s) ∷ []
table_push named [] s = refl
table_push named (x ∷ ss) s = table_push (named ++ (x.name, struct_of named x) ∷ []) ss s

pub sizes_push : (target : Target) (ss : List CStruct) (s : CStruct) → sizes_of target (ss ++ s ∷ []) ≡ sizes_of target ss ++ (s.name, row_size target (row_of (table [] ss) s.members)) ∷ []
sizes_push target ss s = ap (map (entry_size target)) (table_push [] ss s) ∙ map-append (entry_size target) (table [] ss) ((s.name, struct_of (table [] ss) s) ∷ [])

-- ---- what is found

named_mapped : (target : Target) (tbl : List (Name × CTree)) (w : Name) → named (map (entry_size target) tbl) w ≡ option_map (tree_size target) (named tbl w)
named_mapped target [] w = refl
named_mapped target (x ∷ tbl) w = go (same_word x.0 w) (named_mapped target tbl w)
  where
    go : (b : Bool) → named (map (entry_size target) tbl) w ≡ option_map (tree_size target) (named tbl w)
        → (if b then Some (tree_size target x.1) else named (map (entry_size target) tbl) w) ≡ option_map (tree_size target) (if b then Some x.1 else named tbl w)
    go true e = refl
    go false e = e

found_is : (target : Target) (w : Name) (found : Option CTree) → or_nothing (option_map (tree_size target) found) ≡ tree_size target (or_empty w found)
found_is target w None = ap (λ n. let s : Size = record { bytes = capped n; align = 1 } in s) (sym (up_none 1))
found_is target w (Some a) = refl

pub base_is : (target : Target) (ss : List CStruct) (b : CBase) → base_size target (sizes_of target ss) b ≡ tree_size target (tree ss b)
base_is target ss (Scalar s) = refl
base_is target ss (Named w) = ap or_nothing (named_mapped target (table [] ss) w) ∙ found_is target w (named (table [] ss) w)

pub times_is : (target : Target) (n : Option ℕ) (a : CTree) → sized_times n (tree_size target a) ≡ tree_size target (times n a)
times_is target None a = refl
times_is target (Some n) a = ap (λ b. let s : Size = record { bytes = b; align = align (metric_of target) a } in s) (cap_times n (size (metric_of target) a))

pub member_is : (target : Target) (ss : List CStruct) (m : CMember) → sized_times m.length (base_size target (sizes_of target ss) m.base) ≡ tree_size target (times m.length (tree ss m.base))
member_is target ss m = ap (sized_times m.length) (base_is target ss m.base) ∙ times_is target m.length (tree ss m.base)

pub ended_is : (target : Target) (e : ℕ) (a : CTree) → ended (capped e) (tree_size target a) ≡ capped (up e (align (metric_of target) a) + size (metric_of target) a)
ended_is target e a =
    let some : max (align (metric_of target) a) 1 ≡ align (metric_of target) a = omega (arith, some_align target a) in
    ap (λ x. capped (up (capped e) x + capped (size (metric_of target) a))) some ∙ cap_end e (align (metric_of target) a) (size (metric_of target) a)

sized_push : (ss : List CStruct) (s : CStruct) (zs : List Size) (z : Size) → length zs ≡ length ss → sized_view (ss ++ s ∷ []) (zs ++ z ∷ []) ≡ sized_view ss zs ++ (s.name, z) ∷ []
sized_push [] s [] z e = refl
sized_push [] s (y ∷ zs) z e = absurd (omega (arith, e))
sized_push (t ∷ ss) s [] z e = absurd (omega (arith, e))
sized_push (t ∷ ss) s (y ∷ zs) z e = ap (λ l. (t.name, y) ∷ l) (sized_push ss s zs z (omega (arith, e)))

-- one more struct
pub sized_more : (target : Target) (ss : List CStruct) (s : CStruct) (old new : List Size) (z : Size) → sized_view ss old ≡ sizes_of target ss → length old ≡ length ss → new ≡ old ++ z ∷ [] → z ≡ row_size target (row_of (table [] ss) s.members)
    → sized_view (ss ++ s ∷ []) new ≡ sizes_of target (ss ++ s ∷ [])
sized_more target ss s old new z so_far counted pushed size =
    ap (sized_view (ss ++ s ∷ [])) pushed ∙ sized_push ss s old z counted ∙ ap (λ l. l ++ (s.name, z) ∷ []) so_far
    ∙ ap (λ x. sizes_of target ss ++ (s.name, x) ∷ []) size ∙ sym (sizes_push target ss s)

-- ---- by the number of a struct

size_lies : (j : ℕ) (ss : List CStruct) (zs : List Size) (w : Name) (k : ℕ) → place_from j ss w ≡ Some k → (i : ℕ) × (k ≡ j + i) × (slice_get zs i ≡ named (sized_view ss zs) w)
size_lies j [] zs w k e = absurd (cc)
size_lies j (s ∷ ss) [] w k e = at (same_word s.name w) e (size_lies (suc j) ss [] w k)
  where
    at : (b : Bool) → (if b then Some j else place_from (suc j) ss w) ≡ Some k
        → (place_from (suc j) ss w ≡ Some k → (i : ℕ) × (k ≡ suc j + i) × (slice_get {X = Size} [] i ≡ named (sized_view ss []) w))
        → (i : ℕ) × (k ≡ j + i) × (slice_get {X = Size} [] i ≡ None)
    at true here later = let same : j ≡ k = cc in (0, omega (arith, same), refl)
    at false here later = let lies = later here in (suc lies.0, omega (arith, lies.1), refl)
size_lies j (s ∷ ss) (z ∷ zs) w k e = at (same_word s.name w) e (size_lies (suc j) ss zs w k)
  where
    at : (b : Bool) → (if b then Some j else place_from (suc j) ss w) ≡ Some k
        → (place_from (suc j) ss w ≡ Some k → (i : ℕ) × (k ≡ suc j + i) × (slice_get zs i ≡ named (sized_view ss zs) w))
        → (i : ℕ) × (k ≡ j + i) × (slice_get (z ∷ zs) i ≡ (if b then Some z else named (sized_view ss zs) w))
    at true here later = let same : j ≡ k = cc in (0, omega (arith, same), refl)
    at false here later = let lies = later here in (suc lies.0, omega (arith, lies.1), lies.2)

pub size_at : (ss : List CStruct) (zs : List Size) (w : Name) (found : Option ℕ) (k : ℕ) → found ≡ place_from 0 ss w → found ≡ Some k → slice_get zs k ≡ named (sized_view ss zs) w
size_at ss zs w found k is at =
    let lies : (i : ℕ) × (k ≡ 0 + i) × (slice_get zs i ≡ named (sized_view ss zs) w) = size_lies 0 ss zs w k (sym is ∙ at) in
    let same : k ≡ lies.0 = omega (arith, lies.1) in
    ap (slice_get zs) same ∙ lies.2

size_missing : (j : ℕ) (ss : List CStruct) (zs : List Size) (w : Name) → place_from j ss w ≡ None → None ≡ named (sized_view ss zs) w
size_missing j [] zs w e = refl
size_missing j (s ∷ ss) [] w e = refl
size_missing j (s ∷ ss) (z ∷ zs) w e = at (same_word s.name w) e (size_missing (suc j) ss zs w)
  where
    at : (b : Bool) → (if b then Some j else place_from (suc j) ss w) ≡ None → (place_from (suc j) ss w ≡ None → None ≡ named (sized_view ss zs) w) → None ≡ (if b then Some z else named (sized_view ss zs) w)
    at true here later = absurd (cc)
    at false here later = later here

pub no_size : (ss : List CStruct) (zs : List Size) (w : Name) (found : Option ℕ) → found ≡ place_from 0 ss w → found ≡ None → None ≡ named (sized_view ss zs) w
no_size ss zs w found is none = size_missing 0 ss zs w (sym is ∙ none)
