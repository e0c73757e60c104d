-- What moves both sides on: a store, a `let`, and one behind the other.
use Rattle.std.proofs.Common.{◌≡◌, ℕ, ◌<◌, Bool, true, false, Some, refl, sym, ◌∙◌, ap, subst, eqb-true, arith}
use Rattle.std.specs.Prelude.{◌==◌, if◌then◌else◌}
use Rattle.std.specs.Option.{option_map}
use Rattle.std.specs.List.{find}
use Rattle.type_trees.specs.Values.{Cell}
use Rattle.c_ast.specs.Scalars.{metric_of}
use Rattle.c_meaning.specs.Memory.{memory_of}
use Rattle.core_meaning.specs.State.{State, value_of, with_name}
use Rattle.core_meaning.specs.Values.{Value}
use Rattle.value_refinement.specs.Kept.{Kept}
use Rattle.value_refinement.proofs.Keeping.{older, same_twice}
use Rattle.statement_refinement.specs.Moves.{StillLive, MovesJoin, StoresMove, LetsMove}
use Rattle.statement_refinement.proofs.Written.{still_live}

pub moves_join : MovesJoin
moves_join p next later_next le o1 o2 o3 s1 s2 s3 t1 t2 t3 a b = record {
  extends = λ k o h. b.extends k o (a.extends k o h);
  live = λ k x h.
      (let q : StillLive s2.areas k x = a.live k x h in
      let r : StillLive s3.areas k q.area = b.live k q.area q.live in
      record { area = r.area; live = r.live; type = r.type ∙ q.type; access = r.access ∙ q.access });
  count = omega (arith, a.count, b.count);
  same = λ o lt none. same_twice (metric_of p.target) (memory_of p.target) t1.objects t2.objects t3.objects o (a.same o lt none) (b.same o (omega (arith, lt, a.count)) (a.apart o lt none));
  apart = λ o lt none. b.apart o (omega (arith, lt, a.count)) (a.apart o lt none);
  names = λ x old. b.names x (older next later_next x le old) ∙ a.names x old;
  callers = b.callers ∙ a.callers;
  values = λ x lt. b.values x (omega (arith, lt, le)) ∙ a.values x lt;
}

pub stores_move : StoresMove
stores_move g next from le objects s target value t s2 u h = record {
  extends = λ k o e. e;
  live = λ k a e. subst (λ z. StillLive z.areas k a) (sym h.is) (still_live h.area h.path (Cell h.number) s.areas k a e);
  count = h.kept.count;
  same = h.kept.objects_apart;
  apart = λ o lt none. none;
  names = λ x old. h.kept.names x (older next from x le old);
  callers = h.kept.callers;
  values = λ x lt. ap (value_of x) h.is;
}

-- a name that comes hides no other
other_value : (x y : ℕ) (v : Value) (s : State) → x < y → value_of x (with_name y v s) ≡ value_of x s
other_value x y v s lt = go (y == x) refl where
  go : (b : Bool) → (y == x) ≡ b → value_of x (with_name y v s) ≡ value_of x s
  go true is = let same : y ≡ x = eqb-true y x is in let no : ⊥ = omega (arith, lt, same) in absurd no
  go false is = ap (λ b. option_map (λ z. z.1) (if b then Some (y, v) else find (λ z. z.0 == x) s.frames.own.names)) is

pub lets_move : LetsMove
lets_move g objects s x e t s2 u h =
    let is : s2 ≡ with_name x h.0 s = h.2 in
    let kept : Kept g.program x t u = h.3 in
    record {
      extends = λ k o q. q;
      live = λ k a q. subst (λ z. StillLive z.areas k a) (sym is) (record { area = a; live = q; type = refl; access = refl });
      count = kept.count;
      same = λ o lt none. kept.objects o lt;
      apart = λ o lt none. none;
      names = kept.names;
      callers = kept.callers;
      values = λ y lt. ap (value_of y) is ∙ other_value y x h.0 s lt;
    }
