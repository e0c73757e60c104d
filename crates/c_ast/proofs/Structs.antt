-- The struct that is found for a name is the one that the name stands for.
use Rattle.std.proofs.Common.{◌≡◌, ℕ, zero, suc, ◌+◌, ◌<◌, List, [], ◌∷◌, ◌++◌, length, take, drop, get_or, Option, Some, None, Bool, true, false, if◌then◌else◌, refl, sym, ◌∙◌, ap, subst, arith}
use Rattle.iv_words.specs.Words.{same_word}
use Rattle.type_trees.specs.Trees.{Struct, End}
use Rattle.type_trees.specs.Layouts.{Metric, align, align_row, size, end_row}
use Rattle.type_trees.specs.Multiples.{up}
use Rattle.c_ast.specs.declared.types.CScalar.{CScalar}
use Rattle.c_ast.specs.declared.unit.CStruct.{CStruct}
use Rattle.c_ast.specs.declared.unit.CMember.{CMember}
use Rattle.type_trees.proofs.Multiples.{up_from}
use Rattle.type_trees.proofs.Parts.{end_from}
use Rattle.c_ast.specs.declared.types.CBase.{CBase}
use Rattle.c_ast.specs.declared.types.CBase.TheVariants.{Struct as Named}
use Rattle.c_ast.specs.Syntax.{Name}
use Rattle.c_ast.specs.Places.{place_from}
use Rattle.c_ast.specs.Names.{named}
use Rattle.c_ast.specs.Structs.{CTree, or_empty, base_tree, row_of, struct_of, table, tree, times}

pub named_append : (tbl more : List (Name × CTree)) (w : Name) (a : CTree) → named tbl w ≡ Some a → named (tbl ++ more) w ≡ Some a
named_append [] more w a h = absurd (cc)
named_append (x ∷ tbl) more w a h = go (same_word x.0 w) h (named_append tbl more w a)
  where
    go : (b : Bool) → (if b then Some x.1 else named tbl w) ≡ Some a → (named tbl w ≡ Some a → named (tbl ++ more) w ≡ Some a) → (if b then Some x.1 else named (tbl ++ more) w) ≡ Some a
    go true e f = e
    go false e f = f e

pub named_past : (tbl more : List (Name × CTree)) (w : Name) → named tbl w ≡ None → named (tbl ++ more) w ≡ named more w
named_past [] more w h = refl
named_past (x ∷ tbl) more w h = go (same_word x.0 w) h (named_past tbl more w)
  where
    go : (b : Bool) → (if b then Some x.1 else named tbl w) ≡ None → (named tbl w ≡ None → named (tbl ++ more) w ≡ named more w) → (if b then Some x.1 else named (tbl ++ more) w) ≡ named more w
    go true e f = absurd (cc)
    go false e f = f e

-- what stands in the table stays the first
pub named_table : (ss : List CStruct) (tbl : List (Name × CTree)) (w : Name) (a : CTree) → named tbl w ≡ Some a → named (table tbl ss) w ≡ Some a
named_table [] tbl w a h = h
named_table (s ∷ ss) tbl w a h = named_table ss (tbl ++ (s.name, struct_of tbl s) ∷ []) w a (named_append tbl ((s.name, struct_of tbl s) ∷ []) w a h)

-- the struct found at k, built from those before it
abbrev pub Found : ℕ → List (Name × CTree) → List CStruct → Name → Option ℕ → Type 0
Found j tbl ss w None = named (table tbl ss) w ≡ None
Found j tbl ss w (Some k) = (i : ℕ) × (k ≡ j + i) × (i < length ss) × ((d : CStruct) → named (table tbl ss) w ≡ Some (struct_of (table tbl (take i ss)) (get_or ss i d)))

found_later : (s : CStruct) (ss : List CStruct) (j : ℕ) (tbl : List (Name × CTree)) (w : Name) (o : Option ℕ) → Found (suc j) (tbl ++ (s.name, struct_of tbl s) ∷ []) ss w o → Found j tbl (s ∷ ss) w o
found_later s ss j tbl w None h = h
found_later s ss j tbl w (Some k) h = (suc h.0, omega (arith, h.1), omega (arith, h.2), h.3)

pub found : (ss : List CStruct) (j : ℕ) (tbl : List (Name × CTree)) (w : Name) → named tbl w ≡ None → Found j tbl ss w (place_from j ss w)
found [] j tbl w h = h
found (s ∷ ss) j tbl w h =
    let next : List (Name × CTree) = tbl ++ (s.name, struct_of tbl s) ∷ [] in
    go (same_word s.name w) refl (named_past tbl ((s.name, struct_of tbl s) ∷ []) w h) (found ss (suc j) next w)
  where
    go : (b : Bool) → same_word s.name w ≡ b → named (tbl ++ (s.name, struct_of tbl s) ∷ []) w ≡ (if same_word s.name w then Some (struct_of tbl s) else None)
        → (named (tbl ++ (s.name, struct_of tbl s) ∷ []) w ≡ None → Found (suc j) (tbl ++ (s.name, struct_of tbl s) ∷ []) ss w (place_from (suc j) ss w))
        → Found j tbl (s ∷ ss) w (if b then Some j else place_from (suc j) ss w)
    go true e l f = (0, omega arith, omega arith, λ d. named_table ss (tbl ++ (s.name, struct_of tbl s) ∷ []) w (struct_of tbl s) (l ∙ ap (λ b. if b then Some (struct_of tbl s) else None) e))
    go false e l f = found_later s ss j tbl w (place_from (suc j) ss w) (f (l ∙ ap (λ b. if b then Some (struct_of tbl s) else None) e))

pub tree_found : (ss : List CStruct) (w : Name) (k : ℕ) (d : CStruct) → place_from 0 ss w ≡ Some k → or_empty w (named (table [] ss) w) ≡ struct_of (table [] (take k ss)) (get_or ss k d)
tree_found ss w k d h =
    let f : Found 0 [] ss w (Some k) = subst (Found 0 [] ss w) h (found ss 0 [] w refl) in
    let e : f.0 ≡ k = omega (arith, f.1) in
    ap (or_empty w) (f.3 d) ∙ ap (λ i. struct_of (table [] (take i ss)) (get_or ss i d)) e

pub tree_missing : (ss : List CStruct) (w : Name) → place_from 0 ss w ≡ None → or_empty w (named (table [] ss) w) ≡ Struct w End
tree_missing ss w h = (let f : Found 0 [] ss w None = subst (Found 0 [] ss w) h (found ss 0 [] w refl) in ap (or_empty w) f)

pub align_named : (m : Metric CScalar) (ss : List CStruct) (b : CBase) (w : Name) (k : ℕ) (d : CStruct) → b ≡ Named w → place_from 0 ss w ≡ Some k → align m (tree ss b) ≡ align_row m (row_of (table [] (take k ss)) (get_or ss k d).members)
align_named m ss b w k d e h = ap (λ x. align m (tree ss x)) e ∙ ap (align m) (tree_found ss w k d h)

pub align_missing : (m : Metric CScalar) (ss : List CStruct) (b : CBase) (w : Name) → b ≡ Named w → place_from 0 ss w ≡ None → align m (tree ss b) ≡ 1
align_missing m ss b w e h = ap (λ x. align m (tree ss x)) e ∙ ap (align m) (tree_missing ss w h)

pub tree_named : (ss : List CStruct) (b : CBase) (w : Name) (k : ℕ) (d : CStruct) → b ≡ Named w → place_from 0 ss w ≡ Some k → tree ss b ≡ struct_of (table [] (take k ss)) (get_or ss k d)
tree_named ss b w k d e h = ap (λ x. tree ss x) e ∙ tree_found ss w k d h

pub size_missing : (m : Metric CScalar) (ss : List CStruct) (b : CBase) (w : Name) → b ≡ Named w → place_from 0 ss w ≡ None → size m (tree ss b) ≡ 0
unfolding up
size_missing m ss b w e h = ap (λ x. size m (tree ss x)) e ∙ ap (size m) (tree_missing ss w h)

align_times : (m : Metric CScalar) (o : Option ℕ) (a : CTree) → align m (times o a) ≡ align m a
align_times m None a = refl
align_times m (Some n) a = refl

-- one more member, which ends at `next`
module _ (m : Metric CScalar) (tbl : List (Name × CTree)) where
  abbrev pub next : ℕ → CMember → ℕ
  next e x = up e (align m (base_tree tbl x.base)) + size m (times x.length (base_tree tbl x.base))

  pub members_step : (ms : List CMember) (i : ℕ) (x : CMember) (e : ℕ) → i < length ms → x ≡ get_or ms i x → end_row m (row_of tbl (drop i ms)) e ≡ end_row m (row_of tbl (drop (suc i) ms)) (next e x)
  members_step [] i x e lt h = absurd (omega arith)
  members_step (y ∷ ms) zero x e lt h =
      ap (λ a. end_row m (row_of tbl ms) (up e a + size m (times y.length (base_tree tbl y.base)))) (align_times m y.length (base_tree tbl y.base))
      ∙ ap (λ z. end_row m (row_of tbl ms) (next e z)) (sym h)
  members_step (y ∷ ms) (suc i) x e lt h = members_step ms i x e (omega arith) h

  pub members_room : (ms : List CMember) (i : ℕ) (x : CMember) (e top : ℕ) → i < length ms → x ≡ get_or ms i x → end_row m (row_of tbl (drop i ms)) e ≡ end_row m (row_of tbl ms) 0 → up (end_row m (row_of tbl ms) 0) (align_row m (row_of tbl ms)) < top → next e x < top
  members_room ms i x e top lt h inv low =
      omega (arith, members_step ms i x e lt h, inv, low, end_from m (row_of tbl (drop (suc i) ms)) (next e x), up_from (end_row m (row_of tbl ms) 0) (align_row m (row_of tbl ms)))

-- the struct of a name, with what the code reads of it
pub named_struct : (ss : List CStruct) (w : Name) (k : ℕ) (d : CStruct) (ms : List CMember) → place_from 0 ss w ≡ Some k → d ≡ get_or ss k d → ms ≡ (get_or ss k d).members → tree ss (Named w) ≡ Struct d.name (row_of (table [] (take k ss)) ms)
named_struct ss w k d ms h e f =
    tree_found ss w k d h
    ∙ ap (λ s. Struct s.name (row_of (table [] (take k ss)) s.members)) (sym e)
    ∙ ap (λ l. Struct d.name (row_of (table [] (take k ss)) l)) (ap (λ s. s.members) e ∙ sym f)
