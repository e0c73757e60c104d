-- What is written to the object of a live area that is not const is put in the place of the part.
use Rattle.std.proofs.Common.{◌≡◌, ◌≢◌, ℕ, ◌==◌, ℤ, List, [], ◌∷◌, ◌++◌, length, map, drop, slice_get, Option, Some, None, Result, Ok, Err, Bool, true, false, refl, sym, ◌∙◌, ap, subst, arith}
use Rattle.std.proofs.lemmas.Bool.{eqb-true, eqb-false}
use Rattle.type_trees.specs.Trees.{Leaf, count, part}
use Rattle.type_trees.specs.Layouts.{Metric}
use Rattle.type_trees.specs.Values.{Cell, cells, put}
use Rattle.type_trees.proofs.Layouts.{length_lay}
use Rattle.type_trees.proofs.Values.{lens, length_cells}
use Rattle.area_types.specs.Syntax.{ValueType}
use Rattle.area_types.specs.Trees.{Written}
use Rattle.c_memory.specs.Abstract.{Operations, Lawful}
use Rattle.c_memory.specs.Access.{Fault, and_then}
use Rattle.c_memory.specs.Copies.{write_each, copy_each}
use Rattle.c_memory.specs.ValueLaws.{LawfulValues, Stored}
use Rattle.c_ast.specs.declared.CScalar.{CScalar}
use Rattle.c_ast.specs.Syntax.{Name}
use Rattle.core_meaning.specs.Areas.{Held, Area, Areas, Live, filled, with_part, put_at}
use Rattle.core_meaning.proofs.Areas.{others_stay}
use Rattle.core_meaning.proofs.Filled.{filled_holds}
use Rattle.area_objects.specs.Shapes.{Naming, shape, c_path, place, part_scalars}
use Rattle.area_objects.specs.Holds.{CellsFit, HoldsArea}
use Rattle.area_objects.specs.Both.{Map, LiveIn, Both, Done}
use Rattle.area_objects.specs.Laws.{CellsStored, PartsPut, RepliesWritten, PartsCopied}
use Rattle.area_objects.proofs.Shapes.{count_shape, part_shape}
use Rattle.area_objects.proofs.Values.{c_value, cells_c, fits_c, at_c, put_c}
use Rattle.area_objects.proofs.Kept.{map_same, part_fits, as_value, as_mutable, stays}
use Rattle.area_objects.proofs.Places.{length_put, put_here}

-- numbers behind those that the scalars take are not written
module _ {M : Type 0} (write : M → ℕ → ℕ × CScalar → ℤ → Result M Fault) where
  alike : (r : Result M Fault) (f h : M → Result M Fault) → ((next : M) → f next ≡ h next) → and_then r f ≡ and_then r h
  alike (Ok next) f h e = e next
  alike (Err fault) f h e = refl

  enough : (o : ℕ) (xs : List (ℕ × CScalar)) (vs rest : List ℤ) (mem : M) → length vs ≡ length xs → write_each write mem o xs (vs ++ rest) ≡ write_each write mem o xs vs
  enough o [] vs rest mem e = refl
  enough o (x ∷ xs) [] rest mem e = absurd (omega (arith, e))
  enough o (x ∷ xs) (v ∷ vs) rest mem e = alike (write mem o x v) (λ next. write_each write next o xs (vs ++ rest)) (λ next. write_each write next o xs vs) (λ next. enough o xs vs rest next (omega (arith, e)))

module _ (m : Metric CScalar) (Can : CScalar → ℤ → Type 0) (M : Operations CScalar Name ℤ) (law : Lawful m Can M) (values : LawfulValues m Can (λ (n : ℤ). n) M) (g : Naming) where
  -- ---- what is stored in the object is put in the area

  module _ (objects : Map) (areas : Areas) (mem : M.Memory) (k o : ℕ) (a : Area) (both : Both Can M g objects areas mem) (lives : LiveIn objects areas k o a) (mutable : a.constant ≡ false)
      (p : List ℕ) (b : Written) (u : Held) (leads : part a.ty p ≡ Some b) (fits : CellsFit Can g b u)
      (done : Result M.Memory Fault) (s : Stored m Can (λ (n : ℤ). n) M done mem o (shape g a.ty) (put (c_value a.ty a.held) (c_path a.ty p) (c_value b u))) where
    holds_put : HoldsArea Can M g s.new o (with_part p u a)
    holds_put =
        let same : cells (put (c_value a.ty a.held) (c_path a.ty p) (c_value b u)) ≡ cells (put a.held p u) = ap cells (put_c a.ty p b a.held u leads) ∙ cells_c a.ty (put a.held p u) in
        record {
          fits = (lens (λ (t : ValueType) (n : ℤ). Can (g.scalar t) n) a.ty p b a.held leads (both.holds k o a lives).fits).puts u fits;
          shows = subst (λ c. M.Shows s.new o c (shape g a.ty) (map (λ n. Some n) (cells (put a.held p u)))) (sym mutable)
              (subst (λ us. M.Shows s.new o false (shape g a.ty) (map (λ n. Some n) us)) same s.holds.shows);
        }

    here : (q : ℕ) (c : Area) → LiveIn objects (put_at k p u areas) k q c → HoldsArea Can M g s.new q c
    here q c l =
        let changed : with_part p u a ≡ c = (let e : slice_get (put_at k p u areas) k ≡ Some (Live (with_part p u a)) = put_here k p u areas a lives.live in let f : slice_get (put_at k p u areas) k ≡ Some (Live c) = l.live in cc) in
        let same : o ≡ q = (let e : slice_get objects k ≡ Some o = lives.object in let f : slice_get objects k ≡ Some q = l.object in cc) in
        subst (λ x. HoldsArea Can M g s.new x c) same (subst (λ x. HoldsArea Can M g s.new o x) changed holds_put)

    elsewhere : (j q : ℕ) (c : Area) → j ≢ k → LiveIn objects (put_at k p u areas) j q c → HoldsArea Can M g s.new q c
    elsewhere j q c ne l =
        let before : LiveIn objects areas j q c = record { live = sym (others_stay areas k p u j ne) ∙ l.live; object = l.object } in
        let far : q ≢ o = λ e. ne (both.apart j k o (l.object ∙ ap Some e) lives.object) in
        stays m Can M g mem s.new q c (s.others q far) (both.holds j q c before)

    each : (j q : ℕ) (c : Area) → LiveIn objects (put_at k p u areas) j q c → HoldsArea Can M g s.new q c
    each j q c l = go (j == k) refl
      where
        go : (x : Bool) → (j == k) ≡ x → HoldsArea Can M g s.new q c
        go true e = (let same : j ≡ k = eqb-true j k e in here q c (subst (λ i. LiveIn objects (put_at k p u areas) i q c) same l))
        go false e = elsewhere j q c (eqb-false j k e) l

    pub put_done : Done m Can M g done mem o objects (put_at k p u areas)
    put_done = record {
      new = s.new;
      is = s.is;
      both = record {
        many = both.many ∙ sym (length_put k p u areas);
        made = λ j q e. omega (arith, both.made j q e, s.count);
        apart = both.apart;
        holds = each;
      };
      others = s.others;
      count = s.count;
    }

  -- ---- each way to write

  granted : (mem new : M.Memory) (o : ℕ) (x : ℕ × CScalar) (n : ℤ) → M.write mem o x n ≡ Ok new → M.refuses mem o x ≡ None
  granted mem new o x n e = go (M.refuses mem o x) refl
    where
      go : (r : Option Fault) → M.refuses mem o x ≡ r → r ≡ None
      go None f = refl
      go (Some fault) f = (let k : M.write mem o x n ≡ Err fault = law.refusals mem o x n fault f in let no : ⊥ = cc in absurd no)

  pub cells_stored : CellsStored m Can M g
  cells_stored objects areas mem k o a p s n both lives mutable leads fits =
      let done = values.cell_written mem o (shape g a.ty) (c_value a.ty a.held) (c_path a.ty p) (g.scalar s) n (as_mutable m Can M g mem o a mutable (both.holds k o a lives)) (part_shape g a.ty p (Leaf s) leads) fits in (
        granted mem done.new o (place m g a.ty p, g.scalar s) n done.is,
        put_done objects areas mem k o a both lives mutable p (Leaf s) (Cell n) leads fits (M.write mem o (place m g a.ty p, g.scalar s) n) done,
      )

  pub parts_put : PartsPut m Can M g
  parts_put objects areas mem k o a p b u both lives mutable leads fits =
      let xs = part_scalars m g a.ty p b in
      let v = put (c_value a.ty a.held) (c_path a.ty p) (c_value b u) in
      let done = values.part_written mem o (shape g a.ty) (c_value a.ty a.held) (c_path a.ty p) (shape g b) (c_value b u) (as_mutable m Can M g mem o a mutable (both.holds k o a lives)) (part_shape g a.ty p b leads) (fits_c Can g b u fits) in
      put_done objects areas mem k o a both lives mutable p b u leads fits (write_each M.write mem o xs (cells u))
      (subst (λ vs. Stored m Can (λ (n : ℤ). n) M (write_each M.write mem o xs vs) mem o (shape g a.ty) v) (map_same (cells (c_value b u)) ∙ cells_c b u) done)

  pub replies_written : RepliesWritten m Can M g
  replies_written objects areas mem k o a p b vs both lives mutable leads many fits =
      let xs = part_scalars m g a.ty p b in
      let ws : List ℤ = cells (filled b vs) in
      let long : length ws ≡ length xs =
      length_cells (λ (t : ValueType) (n : ℤ). Can (g.scalar t) n) b (filled b vs) fits ∙ sym (length_lay m (shape g b) (place m g a.ty p) ∙ count_shape g b) in
      let same : write_each M.write mem o xs ws ≡ write_each M.write mem o xs vs =
      sym (enough M.write o xs ws (drop (count b) vs) mem long) ∙ ap (λ l. write_each M.write mem o xs l) (filled_holds b vs many) in
      subst (λ r. Done m Can M g r mem o objects (put_at k p (filled b vs) areas)) same (parts_put objects areas mem k o a p b (filled b vs) both lives mutable leads fits)

  pub parts_copied : PartsCopied m Can M g
  parts_copied objects areas mem k o a p b j q c r u both lives mutable leads other leads_other is =
      let held = both.holds j q c other in
      put_done objects areas mem k o a both lives mutable p b u leads (part_fits Can g c.ty r b c.held u held.fits leads_other is)
      (copy_each M.read M.write mem o (part_scalars m g a.ty p b) q (part_scalars m g c.ty r b))
      (values.copied mem o (shape g a.ty) (c_value a.ty a.held) (c_path a.ty p) (shape g b) q c.constant (shape g c.ty) (c_value c.ty c.held) (c_path c.ty r) (c_value b u)
      (as_mutable m Can M g mem o a mutable (both.holds k o a lives)) (part_shape g a.ty p b leads) (as_value m Can M g mem q c held) (part_shape g c.ty r b leads_other) (at_c c.ty r b c.held u leads_other is))
