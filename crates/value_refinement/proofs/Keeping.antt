-- What declarations, blocks and assignments of temporaries keep, and that a state stays related while names and objects are kept.
use Rattle.std.proofs.Common.{◌≡◌, ◌≢◌, ℕ, ◌<◌, ◌≤◌, ℤ, List, ◌∷◌, length, Some, refl, sym, ◌∙◌, ap, arith}
use Rattle.std.specs.Prelude.{if◌then◌else◌}
use Rattle.iv_words.proofs.Equality.{same_not}
use Rattle.type_trees.specs.Layouts.{Metric}
use Rattle.c_memory.specs.Abstract.{Operations, Same}
use Rattle.c_ast.specs.declared.CScalar.{CScalar}
use Rattle.c_ast.specs.declared.CBase.{CBase}
use Rattle.c_ast.specs.Names.{named}
use Rattle.c_ast.specs.Scalars.{metric_of}
use Rattle.c_ast.specs.Syntax.{Name}
use Rattle.c_meaning.specs.Memory.{CObjects, memory_of}
use Rattle.c_meaning.specs.State.{Program, CState, Slot, Holding, Naming, declare, declare_object}
use Rattle.c_meaning.specs.Values.{CValue}
use Rattle.lower_types.specs.Names.{local_name}
use Rattle.value_refinement.specs.Kept.{Kept}
use Rattle.value_refinement.specs.Settings.{IsOld}

-- ---- objects that are the same

module _ (m : Metric CScalar) (M : Operations CScalar Name ℤ) where
  pub same_itself : (mem : M.Memory) (o : ℕ) → Same m M mem mem o
  same_itself mem o = record { live = refl; reads = λ x. refl; refuses = λ x. refl; shows = λ c a us h. h }

  pub same_twice : (first second third : M.Memory) (o : ℕ) → Same m M first second o → Same m M second third o → Same m M first third o
  same_twice first second third o h g = record {
    live = g.live ∙ h.live;
    reads = λ x. g.reads x ∙ h.reads x;
    refuses = λ x. g.refuses x ∙ h.refuses x;
    shows = λ c a us s. g.shows c a us (h.shows c a us s);
  }

-- ---- names

pub older : (j k : ℕ) (x : Name) → j ≤ k → IsOld j x → IsOld k x
older j k x le old i l = old i (omega (arith, le, l))

module _ (p : Program) where
  pub kept_same : (k : ℕ) (t : CState) → Kept p k t t
  kept_same k t = record { names = λ x old. refl; callers = refl; count = omega arith; objects = λ o lt. same_itself (metric_of p.target) (memory_of p.target) t.objects o }

  pub kept_twice : (j k : ℕ) (t u w : CState) → j ≤ k → Kept p j t u → Kept p k u w → Kept p j t w
  kept_twice j k t u w le h g = record {
    names = λ x old. g.names x (older j k x le old) ∙ h.names x old;
    callers = g.callers ∙ h.callers;
    count = omega (arith, h.count, g.count);
    objects = λ o lt. same_twice (metric_of p.target) (memory_of p.target) t.objects u.objects w.objects o (h.objects o lt) (g.objects o (omega (arith, lt, h.count)));
  }

  -- fewer names are asked about
  pub kept_less : (j k : ℕ) (t u : CState) → j ≤ k → Kept p k t u → Kept p j t u
  kept_less j k t u le h = record { names = λ x old. h.names x (older j k x le old); callers = h.callers; count = h.count; objects = h.objects }

  -- the declaration of a temporary hides no old name
  other_name : (slot : Slot) (names : List (Name × Slot)) (x y : Name) → y ≢ x → named ((x, slot) ∷ names) y ≡ named names y
  other_name slot names x y differ = ap (λ b. if b then Some slot else named names y) (same_not x y (λ e. differ (sym e)))

  pub kept_declared : (k j : ℕ) (v : CValue) (t : CState) → k ≤ j → Kept p k t (declare (local_name j) v t)
  kept_declared k j v t le = record {
    names = λ x old. other_name (Holding v) t.frames.own (local_name j) x (old j le);
    callers = refl;
    count = omega arith;
    objects = λ o lt. same_itself (metric_of p.target) (memory_of p.target) t.objects o;
  }

  -- an object of a temporary is a further one
  pub kept_object : (k j : ℕ) (b : CBase) (made : CObjects) (t : CState) → k ≤ j → length t.objects ≤ length made
      → ((o : ℕ) → o < length t.objects → Same (metric_of p.target) (memory_of p.target) t.objects made o) → Kept p k t (declare_object (local_name j) b made t)
  kept_object k j b made t le more same = record {
    names = λ x old. other_name (Naming (length t.objects) b) t.frames.own (local_name j) x (old j le);
    callers = refl;
    count = more;
    objects = same;
  }

  -- objects made since may change
  pub kept_changed : (k : ℕ) (t u : CState) (new : CObjects) → Kept p k t u → length u.objects ≤ length new
      → ((o : ℕ) → o < length t.objects → Same (metric_of p.target) (memory_of p.target) u.objects new o) → Kept p k t (record u { objects = new })
  kept_changed k t u new h more same = record {
    names = h.names;
    callers = h.callers;
    count = omega (arith, h.count, more);
    objects = λ o lt. same_twice (metric_of p.target) (memory_of p.target) t.objects u.objects new o (h.objects o lt) (same o lt);
  }
