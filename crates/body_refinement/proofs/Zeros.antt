-- Zeros on both sides: what a part without an initializer holds, whatever its type.
use Rattle.std.proofs.Common.{◌≡◌, ℕ, zero, suc, ◌*◌, ℤ, pos, List, [], ◌∷◌, ◌++◌, refl, sym, ◌∙◌, ap, subst, append-nil}
use Rattle.std.specs.Prelude.{if◌then◌else◌, take, drop, get_or}
use Rattle.type_trees.specs.Trees.{Leaf, Many, Struct, End, Field, repeated, count}
use Rattle.type_trees.specs.Values.{cells, cells_row, EachOf, FitsRow}
use Rattle.area_types.specs.Syntax.{ValueType}
use Rattle.area_types.specs.Trees.{Written, WrittenRow}
use Rattle.core_meaning.specs.Areas as source
use Rattle.core_meaning.specs.Areas.{Held, filled_each}
use Rattle.c_memory.specs.Initializers.{zeros, zeros_row, copies_of}
use Rattle.c_ast.specs.declared.Target.{Target}
use Rattle.c_ast.specs.Structs.{CTree}
use Rattle.c_ast.specs.Syntax.{Init, NoInits, MoreInits}
use Rattle.c_ast.specs.Targets.{table_of}
use Rattle.c_meaning.specs.Memory.{nought}
use Rattle.c_meaning.specs.State.{Program, CState}
use Rattle.area_objects.specs.Holds.{CellsFit, CanHold}
use Rattle.area_objects.specs.Shapes.{Naming, shape, members}
use Rattle.lower_types.specs.Initializers.{elements, filled, filled_row, zero_init, zero_part, all_zero}
use Rattle.body_refinement.proofs.Braces.{zero_parts, member_types, copies_are_parts, zero_row_is_parts, nought_held, InitGives, InitsGive, zero_gives, none_give, more_give, struct_gives, array_gives}

nothing_dropped : (n : ℕ) (vs : List ℤ) → vs ≡ [] → drop n vs ≡ []
nothing_dropped zero vs e = e
nothing_dropped (suc n) [] e = refl
nothing_dropped (suc n) (v ∷ vs) e = let no : ⊥ = cc in absurd no

nothing_taken : (n : ℕ) (vs : List ℤ) → vs ≡ [] → take n vs ≡ []
nothing_taken zero vs e = refl
nothing_taken (suc n) [] e = refl
nothing_taken (suc n) (v ∷ vs) e = let no : ⊥ = cc in absurd no

-- ---- in the source

module _ (t : Target) (g : Naming) where
  each_zero : (n size : ℕ) (one : List ℤ → Held) (a : CTree) → ((vs : List ℤ) → vs ≡ [] → cells (one vs) ≡ cells (zeros nought a)) → (vs : List ℤ) → vs ≡ [] → cells_row (filled_each n size one vs) ≡ cells_row (copies_of n (zeros nought a))
  each_zero zero size one a h vs e = refl
  each_zero (suc n) size one a h vs e =
      ap (λ l. l ++ cells_row (filled_each n size one (drop size vs))) (h vs e) ∙ ap (λ l. cells (zeros nought a) ++ l) (each_zero n size one a h (drop size vs) (nothing_dropped size vs e))

  mutual
    pub filled_zero : (ty : Written) (vs : List ℤ) → vs ≡ [] → cells (source.filled ty vs) ≡ cells (zeros nought (shape g ty))
    filled_zero (Leaf s) vs e = ap (λ l. get_or l 0 (pos 0) ∷ []) e
    filled_zero (Many n a) vs e = each_zero n (count a) (source.filled a) (shape g a) (λ us q. filled_zero a us q) vs e ∙ sym (append-nil (cells_row (copies_of n (zeros nought (shape g a)))))
    filled_zero (Struct k r) vs e = filled_row_zero r k vs e

    filled_row_zero : (r : WrittenRow) (k : ℕ) (vs : List ℤ) → vs ≡ [] → cells_row (source.filled_row r vs) ≡ cells_row (zeros_row nought (members g r k))
    filled_row_zero End k vs e = refl
    filled_row_zero (Field f a r) k vs e =
        ap (λ l. l ++ cells_row (source.filled_row r (drop (count a) vs))) (filled_zero a vs e)
        ∙ ap (λ l. cells (zeros nought (shape g a)) ++ l) (filled_row_zero r k (drop (count a) vs) (nothing_dropped (count a) vs e))

  each_fits : (n size : ℕ) (one : List ℤ → Held) (P : Held → Type 0) → ((vs : List ℤ) → vs ≡ [] → P (one vs)) → (vs : List ℤ) → vs ≡ [] → EachOf n P (filled_each n size one vs)
  each_fits zero size one P h vs e = tt
  each_fits (suc n) size one P h vs e = (h vs e, each_fits n size one P h (drop size vs) (nothing_dropped size vs e))

  abbrev CanHoldType : ValueType → ℤ → Type 0
  CanHoldType s n = CanHold (table_of t) (g.scalar s) n

  mutual
    pub filled_fits : (ty : Written) (vs : List ℤ) → vs ≡ [] → CellsFit (CanHold (table_of t)) g ty (source.filled ty vs)
    filled_fits (Leaf s) vs e = subst (λ l. CanHoldType s (get_or l 0 (pos 0))) (sym e) (nought_held t (g.scalar s))
    filled_fits (Many n a) vs e = each_fits n (count a) (source.filled a) (CellsFit (CanHold (table_of t)) g a) (λ us q. filled_fits a us q) vs e
    filled_fits (Struct k r) vs e = filled_row_fits r vs e

    filled_row_fits : (r : WrittenRow) (vs : List ℤ) → vs ≡ [] → FitsRow CanHoldType r (source.filled_row r vs)
    filled_row_fits End vs e = tt
    filled_row_fits (Field f a r) vs e = (filled_fits a vs e, filled_row_fits r (drop (count a) vs) (nothing_dropped (count a) vs e))

-- ---- in C

module _ (p : Program) (w : CState) (g : Naming) where
  none_after : (n size : ℕ) (one : List ℤ → Init) (vs : List ℤ) → vs ≡ [] → (if all_zero vs then NoInits else elements n size one vs) ≡ NoInits
  none_after n size one vs e = ap (λ l. if all_zero l then NoInits else elements n size one l) e

  elements_give : (n size : ℕ) (one : List ℤ → Init) (a : CTree) → ((vs : List ℤ) → vs ≡ [] → InitGives p w a (one vs) (cells (zeros nought a)))
      → (vs : List ℤ) → vs ≡ [] → InitsGive p w (repeated n (a ∷ [])) (elements n size one vs) (cells_row (zero_parts (repeated n (a ∷ []))))
  elements_give zero size one a h vs e = none_give p w []
  elements_give (suc n) size one a h vs e =
      let ts : List CTree = repeated n (a ∷ []) in
      subst (λ is. InitsGive p w (a ∷ ts) (MoreInits (one vs) is) (cells (zeros nought a) ++ cells_row (zero_parts ts))) (sym (none_after n size one (drop size vs) (nothing_dropped size vs e)))
      (more_give p w a ts (one vs) NoInits (cells (zeros nought a)) (cells_row (zero_parts ts)) (h vs e) (none_give p w ts))

  mutual
    pub filled_gives : (ty : Written) (vs : List ℤ) → vs ≡ [] → InitGives p w (shape g ty) (filled ty vs) (cells (zeros nought (shape g ty)))
    filled_gives (Leaf s) vs e = subst (λ l. InitGives p w (Leaf (g.scalar s)) (filled (Leaf s) l) (pos 0 ∷ [])) (sym e) (zero_gives p w (g.scalar s))
    filled_gives (Many n a) vs e =
        let ts : List CTree = repeated n (shape g a ∷ []) in
        subst (λ us. InitGives p w (shape g (Many n a)) (filled (Many n a) vs) (cells_row us ++ [])) (sym (copies_are_parts n (shape g a)))
        (array_gives p w (g.array_tag (Many n a)) g.elements n (shape g a) (elements n (count a) (filled a) (take (n * count a) vs)) (cells_row (zero_parts ts))
        (elements_give n (count a) (filled a) (shape g a) (λ us q. filled_gives a us q) (take (n * count a) vs) (nothing_taken (n * count a) vs e)))
    filled_gives (Struct k r) vs e =
        subst (λ us. InitGives p w (shape g (Struct k r)) (filled (Struct k r) vs) (cells_row us)) (sym (zero_row_is_parts (members g r k)))
        (struct_gives p w (g.struct_tag k) (members g r k) (filled_row r vs) (cells_row (zero_parts (member_types (members g r k)))) (row_gives r k vs e))

    row_gives : (r : WrittenRow) (k : ℕ) (vs : List ℤ) → vs ≡ [] → InitsGive p w (member_types (members g r k)) (filled_row r vs) (cells_row (zero_parts (member_types (members g r k))))
    row_gives End k vs e = none_give p w []
    row_gives (Field f a r) k vs e =
        let ts : List CTree = member_types (members g r k) in
        more_give p w (shape g a) ts (filled a vs) (filled_row r (drop (count a) vs)) (cells (zeros nought (shape g a))) (cells_row (zero_parts ts)) (filled_gives a vs e) (row_gives r k (drop (count a) vs) (nothing_dropped (count a) vs e))

  pub zero_part_gives : (ty : Written) → InitGives p w (shape g ty) (zero_part ty) (cells (source.filled ty []))
  zero_part_gives ty = subst (λ vs. InitGives p w (shape g ty) (zero_part ty) vs) (sym (filled_zero p.target g ty [] refl)) (filled_gives ty [] refl)

  whole_zero : (ty : Written) → InitGives p w (shape g ty) (zero_init ty) (cells (zeros nought (shape g ty)))
  whole_zero (Leaf s) = zero_gives p w (g.scalar s)
  whole_zero (Many n a) = record { given = _; is = refl; numbers = _; converted = refl; gives = refl }
  whole_zero (Struct k r) = record { given = _; is = refl; numbers = _; converted = refl; gives = refl }

  pub zero_init_gives : (ty : Written) → InitGives p w (shape g ty) (zero_init ty) (cells (source.filled ty []))
  zero_init_gives ty = subst (λ vs. InitGives p w (shape g ty) (zero_init ty) vs) (sym (filled_zero p.target g ty [] refl)) (whole_zero ty)
