-- The frame of a function at its entry, from its last parameter on.
use Rattle.std.proofs.Common.{◌≡◌, ℕ, ◌+◌, ◌-◌, ◌<◌, List, [], ◌∷◌, ◌++◌, length, map, drop, get_or, min, refl, sym, ap, ◌∙◌, arith}
use Rattle.std.proofs.lemmas.List.{map-append, reverse-append}
use Rattle.std.specs.Prelude.{reverse}
use Rattle.c_ast.specs.declared.CParam.{CParam}
use Rattle.c_meaning.specs.Runs.{bound}
use Rattle.c_meaning.specs.State.{Holding}
use Rattle.c_operators.specs.Values.{value_of}
use Rattle.c_operators.specs.declared.Value.{Value}
use Rattle.c_expressions.specs.State.{frame_of, local_of}
use Rattle.c_expressions.specs.declared.Local.{Local}
use Rattle.c_objects.proofs.Rows.{none_left}
use Rattle.run_world.proofs.Rests.{one_left}

module _ {A B : Type 0} (f : A → B) where
  -- what is pushed last is seen first
  pushed : (xs : List A) (x : A) → reverse (map f (xs ++ x ∷ [])) ≡ f x ∷ reverse (map f xs)
  pushed xs x = ap reverse (map-append f xs (x ∷ [])) ∙ reverse-append (map f xs) (f x ∷ [])

module _ (ps : List CParam) (vs : List Value) where
  pub one_bound : (at : ℕ) (p : CParam) (v : Value) → at < length ps → at < length vs → p ≡ get_or ps at p → v ≡ get_or vs at v → bound (drop at ps) (map value_of (drop at vs)) ≡ (p.name, Holding (value_of v)) ∷ bound (drop (at + 1) ps) (map value_of (drop (at + 1) vs))
  one_bound at p v h k is are = ap (λ xs. bound xs (map value_of (drop at vs))) (one_left ps at p h is) ∙ ap (λ ys. bound (p ∷ drop (at + 1) ps) (map value_of ys)) (one_left vs at v k are)

  none_bound : (xs : List CParam) (ys : List Value) → min (length xs) (length ys) ≡ 0 → bound xs (map value_of ys) ≡ []
  none_bound [] ys h = refl
  none_bound (x ∷ xs) [] h = refl
  none_bound (x ∷ xs) (y ∷ ys) h = absurd (omega arith)

  pub first_bound : (many : ℕ) → many ≡ min (length ps) (length vs) → bound (drop many ps) (map value_of (drop many vs)) ≡ []
  first_bound many h = none_bound (drop many ps) (drop many vs) (none_left ps vs many (omega (arith, h)))

  pub next_bound : (many i at : ℕ) (p : CParam) (l : Local) (v : Value) (frame new : List Local) → many ≡ min (length ps) (length vs) → i < many → at ≡ many - 1 - i → p ≡ get_or ps at p → v ≡ get_or vs at v → local_of l ≡ (p.name, Holding (value_of v)) → new ≡ frame ++ l ∷ []
      → frame_of frame ≡ bound (drop (many - i) ps) (map value_of (drop (many - i) vs)) → frame_of new ≡ bound (drop (many - (i + 1)) ps) (map value_of (drop (many - (i + 1)) vs))
  next_bound many i at p l v frame new h lt e is are same pushes inv =
      let here : many - (i + 1) ≡ at = omega (arith, e, lt) in
      let next : many - i ≡ at + 1 = omega (arith, e, lt) in
      ap frame_of pushes ∙ pushed local_of frame l ∙ ap (λ x. x ∷ frame_of frame) same
      ∙ ap (λ f. (p.name, Holding (value_of v)) ∷ f) (inv ∙ ap (λ n. bound (drop n ps) (map value_of (drop n vs))) next)
      ∙ sym (one_bound at p v (omega (arith, h, e, lt)) (omega (arith, h, e, lt)) is are) ∙ ap (λ n. bound (drop n ps) (map value_of (drop n vs))) (sym here)
