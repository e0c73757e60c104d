-- What a copy keeps as it goes: names but those of temporaries from number k on, and the objects of no area; and each object that lives goes on
-- to live. A place that reads no more stays where it is.
use Rattle.std.proofs.Common.{◌≡◌, ℕ, ◌<◌, ◌≤◌, true, length, Ok, refl, ◌∙◌, arith}
use Rattle.c_ast.specs.Scalars.{metric_of}
use Rattle.c_ast.specs.Syntax.{Place}
use Rattle.c_meaning.specs.Expressions.{eval_place}
use Rattle.c_meaning.specs.Memory.{memory_of}
use Rattle.c_meaning.specs.Places.{Lvalue}
use Rattle.c_meaning.specs.State.{Program, CState, lives}
use Rattle.area_objects.specs.Both.{Map}
use Rattle.value_refinement.specs.Kept.{Kept}
use Rattle.value_refinement.proofs.Keeping.{older, same_itself, same_twice}
use Rattle.statement_refinement.specs.Stores.{KeptApart}

pub record Aside (p : Program) (objects : Map) (k : ℕ) (t u : CState) : Type 0 where
  pub kept : KeptApart p objects k t u
  pub living : (o : ℕ) → o < length t.objects → lives t o ≡ true → lives u o ≡ true

module _ (p : Program) (objects : Map) where
  pub aside_same : (k : ℕ) (t : CState) → Aside p objects k t t
  aside_same k t = record {
    kept = record { names = λ x old. refl; callers = refl; count = omega arith; objects_apart = λ o lt none. same_itself (metric_of p.target) (memory_of p.target) t.objects o };
    living = λ o lt h. h;
  }

  pub aside_twice : (j k : ℕ) (t u w : CState) → j ≤ k → Aside p objects j t u → Aside p objects k u w → Aside p objects j t w
  aside_twice j k t u w le a b = record {
    kept = record {
      names = λ x old. b.kept.names x (older j k x le old) ∙ a.kept.names x old;
      callers = b.kept.callers ∙ a.kept.callers;
      count = omega (arith, a.kept.count, b.kept.count);
      objects_apart = λ o lt none.
          same_twice (metric_of p.target) (memory_of p.target) t.objects u.objects w.objects o (a.kept.objects_apart o lt none) (b.kept.objects_apart o (omega (arith, lt, a.kept.count)) none);
    };
    living = λ o lt h. b.living o (omega (arith, lt, a.kept.count)) (a.living o lt h);
  }

  -- temporaries alone
  pub aside_kept : (k : ℕ) (t u : CState) → Kept p k t u → Aside p objects k t u
  aside_kept k t u h = record {
    kept = record { names = h.names; callers = h.callers; count = h.count; objects_apart = λ o lt none. h.objects o lt };
    living = λ o lt l. (h.objects o lt).live ∙ l;
  }

  -- ---- places

  -- the place is this one, and stays so
  abbrev pub Fixed : ℕ → CState → Place → Lvalue → Type 0
  Fixed k u to l = (w : CState) → Aside p objects k u w → eval_place p to w ≡ Ok l

  pub fixed_on : (j k : ℕ) (u w : CState) (to : Place) (l : Lvalue) → j ≤ k → Fixed j u to l → Aside p objects j u w → Fixed k w to l
  fixed_on j k u w to l le fixed aside z h = fixed z (aside_twice j k u w z le aside h)
