-- A rule in other words, with more tokens that may go on, and with another value.
use Rattle.std.proofs.Common.{◌≡◌, ℕ, Bool, true, false, List, [], ◌∷◌, ◌++◌, refl, sym, ap, ◌∙◌, subst}
use Rattle.reading.specs.Row.{Row, Signs, tokens}
use Rattle.reading.specs.Language.{Language, Mapped}
use Rattle.reading.specs.Reader.{Outcome, Done, Unexpected, TooDeep, Reader, mapped, ◌<$>◌}
use Rattle.reading.specs.Good.{Good, Passed, ReadFrom}
use Rattle.reading.proofs.Passing.{still_stops}

-- as a relation with a constructor for each production
pub good_as : {T A : Type 0} {signs : Signs T} {limit : ℕ} {c : T → Bool} {R S : Language T A} {p : Reader T A}
    → ((a : A) (row : Row T) → R a row → S a row) → ((a : A) (row : Row T) → S a row → R a row) → Good signs limit c R p → Good signs limit c S p
good_as to from g = record {
  example = (g.example.0, g.example.1, to g.example.0 g.example.1 g.example.2);
  done = λ ts a rest h. let d = g.done ts a rest h in (d.0, to a d.0 d.1, d.2, d.3);
  unexpected = λ ts rest h. let d = g.unexpected ts rest h in (d.0, d.1, d.2, to d.2 (d.0 ++ d.1) d.3, d.4, d.5);
  too_deep = λ ts rest h. let d = g.too_deep ts rest h in (d.0, d.1, d.2, d.3, d.4, to d.4 (d.0 ++ d.1 ∷ d.2) d.5, d.6, d.7, d.8, d.9, d.10);
  complete = λ a row rest r. g.complete a row rest (from a row r);
  passes = λ a row m tail rest r. g.passes a row m tail rest (from a (row ++ m ∷ tail) r);
  deep = λ a row m tail rest r. g.deep a row m tail rest (from a (row ++ m ∷ tail) r);
  ends = λ a row m r. g.ends a row m (from a (row ++ m ∷ []) r);
}

pub good_wider : {T A : Type 0} {signs : Signs T} {limit : ℕ} {c wide : T → Bool} {R : Language T A} {p : Reader T A}
    → ((t : T) → c t ≡ true → wide t ≡ true) → Good signs limit c R p → Good signs limit wide R p
good_wider {c} {wide} h g = record {
  example = g.example;
  done = g.done;
  unexpected = g.unexpected;
  too_deep = g.too_deep;
  complete = λ a row rest r s stop. g.complete a row rest r s (still_stops c wide h rest stop);
  passes = g.passes;
  deep = g.deep;
  ends = g.ends;
}

-- no token goes on
abbrev pub none : {T : Type 0} → T → Bool
none _ = false

pub good_ended : {T A : Type 0} {signs : Signs T} {limit : ℕ} {c : T → Bool} {R : Language T A} {p : Reader T A} → Good signs limit none R p → Good signs limit c R p
good_ended g = good_wider (λ t e. cc) g

module _ {T A B : Type 0} {signs : Signs T} (limit : ℕ) (c : T → Bool) (f : A → B) (R : Language T A) (p : Reader T A) (g : Good signs limit c R p) where
  map_done : (ts : List T) (b : B) (rest : List T) (o : Outcome T A) → p ts ≡ o → mapped f o ≡ Done b rest → ReadFrom limit (Mapped f R) ts b rest
  map_done ts b rest (Done a r) e h =
      let d = g.done ts a r e in
      let same : r ≡ rest = cc in
      let is : b ≡ f a = cc in
      (d.0, (a, d.1, is), d.2, subst (λ x. ts ≡ tokens d.0 ++ x) same d.3)
  map_done ts b rest (Unexpected r) e h = cc
  map_done ts b rest (TooDeep r) e h = cc

  map_unexpected : (ts rest : List T) (o : Outcome T A) → p ts ≡ o → mapped f o ≡ Unexpected rest → p ts ≡ Unexpected rest
  map_unexpected ts rest (Done a r) e h = cc
  map_unexpected ts rest (Unexpected r) e h = let same : r ≡ rest = cc in e ∙ ap Unexpected same
  map_unexpected ts rest (TooDeep r) e h = cc

  map_too_deep : (ts rest : List T) (o : Outcome T A) → p ts ≡ o → mapped f o ≡ TooDeep rest → p ts ≡ TooDeep rest
  map_too_deep ts rest (Done a r) e h = cc
  map_too_deep ts rest (Unexpected r) e h = cc
  map_too_deep ts rest (TooDeep r) e h = let same : r ≡ rest = cc in e ∙ ap TooDeep same

  map_passed : (rest : List T) (o : Outcome T A) → Passed rest o → Passed rest (mapped f o)
  map_passed rest (Done a r) w = w
  map_passed rest (Unexpected r) w = w
  map_passed rest (TooDeep r) w = w

  map_all : Good signs limit c (Mapped f R) (f <$> p)
  map_all = record {
    example = (f g.example.0, g.example.1, (g.example.0, g.example.2, refl));
    done = λ ts b rest h. map_done ts b rest (p ts) refl h;
    unexpected = λ ts rest h. let d = g.unexpected ts rest (map_unexpected ts rest (p ts) refl h) in (d.0, d.1, f d.2, (d.2, d.3, refl), d.4, d.5);
    too_deep = λ ts rest h. let d = g.too_deep ts rest (map_too_deep ts rest (p ts) refl h) in (d.0, d.1, d.2, d.3, f d.4, (d.4, d.5, refl), d.6, d.7, d.8, d.9, d.10);
    complete = λ b row rest r s stop. ap (mapped f) (g.complete r.0 row rest r.1 s stop) ∙ ap (λ x. Done x rest) (sym r.2);
    passes = λ b row m tail rest r s. map_passed rest (p (tokens row ++ m.token ∷ rest)) (g.passes r.0 row m tail rest r.1 s);
    deep = λ b row m tail rest r s lt fits. ap (mapped f) (g.deep r.0 row m tail rest r.1 s lt fits);
    ends = λ b row m r. g.ends r.0 row m r.1;
  }

pub good_map : {T A B : Type 0} {signs : Signs T} {limit : ℕ} {c : T → Bool} {R : Language T A} {p : Reader T A} → (f : A → B) → Good signs limit c R p → Good signs limit c (Mapped f R) (f <$> p)
good_map {limit} {c} {R} {p} f g = map_all limit c f R p g
