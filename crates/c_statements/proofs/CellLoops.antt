-- The scalars of a row and their values, from a place on.
use Rattle.std.proofs.Common.{◌≡◌, ℕ, suc, ◌+◌, ◌<◌, ◌≤◌, ℤ, pos, List, [], ◌∷◌, length, drop, get_or, min, None, Ok, refl, ap, ◌∙◌, arith}
use Rattle.std.proofs.Math.Seq.{drop-cons}
use Rattle.c_memory.specs.Access.{first_of}
use Rattle.c_ast.specs.declared.Target.{Target}
use Rattle.c_meaning.specs.Memory.{CObjects, memory_of}
use Rattle.c_objects.proofs.Rows.{none_left}
use Rattle.c_statements.specs.Cells.{first_refusal, written}
use Rattle.c_statements.specs.declared.cells.Cell.{Cell}

module _ (t : Target) (cs : List Cell) (vs : List ℤ) (i : ℕ) where
  pub refusal_at : (mem : CObjects) (d : Cell) → i < length cs → i < length vs → first_refusal t mem (drop i cs) (drop i vs) ≡ first_of ((memory_of t).refuses mem (get_or cs i d).object ((get_or cs i d).at, (get_or cs i d).scalar)) (first_refusal t mem (drop (i + 1) cs) (drop (i + 1) vs))
  refusal_at mem d h k =
      let e : suc i ≡ i + 1 = omega arith in
      ap (λ xs. first_refusal t mem xs (drop i vs)) (drop-cons cs i d h)
      ∙ ap (λ ys. first_refusal t mem (get_or cs i d ∷ drop (suc i) cs) ys) (drop-cons vs i (pos 0) k)
      ∙ ap (λ n. first_of ((memory_of t).refuses mem (get_or cs i d).object ((get_or cs i d).at, (get_or cs i d).scalar)) (first_refusal t mem (drop n cs) (drop n vs))) e

  refusal_none : (xs : List Cell) (ys : List ℤ) (mem : CObjects) → min (length xs) (length ys) ≡ 0 → first_refusal t mem xs ys ≡ None
  refusal_none [] ys mem h = refl
  refusal_none (x ∷ xs) [] mem h = refl
  refusal_none (x ∷ xs) (y ∷ ys) mem h = absurd (omega arith)

  written_none : (xs : List Cell) (ys : List ℤ) (mem : CObjects) → min (length xs) (length ys) ≡ 0 → written t xs ys mem ≡ Ok mem
  written_none [] ys mem h = refl
  written_none (x ∷ xs) [] mem h = refl
  written_none (x ∷ xs) (y ∷ ys) mem h = absurd (omega arith)

  pub refusal_end : (mem : CObjects) → min (length cs) (length vs) ≤ i → first_refusal t mem (drop i cs) (drop i vs) ≡ None
  refusal_end mem h = refusal_none (drop i cs) (drop i vs) mem (none_left cs vs i h)

  pub written_end : (mem : CObjects) → min (length cs) (length vs) ≤ i → written t (drop i cs) (drop i vs) mem ≡ Ok mem
  written_end mem h = written_none (drop i cs) (drop i vs) mem (none_left cs vs i h)
