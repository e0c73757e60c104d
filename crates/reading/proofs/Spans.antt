-- A value made of the tokens that spell it.
use Rattle.std.proofs.Common.{◌≡◌, ℕ, ◌-◌, Bool, List, [], ◌∷◌, ◌++◌, refl, sym, ap, ◌∙◌, subst, arith, length, length-append, take}
use Rattle.reading.specs.Row.{Signs, tokens}
use Rattle.reading.specs.Language.{Language, Spanned}
use Rattle.reading.specs.Reader.{Outcome, Done, Unexpected, TooDeep, Reader, front, spanning, spanned}
use Rattle.reading.specs.Good.{Good, Passed, ReadFrom}

take_front : {T : Type 0} (xs ys : List T) → take (length xs) (xs ++ ys) ≡ xs
take_front [] ys = refl
take_front (x ∷ xs) ys = ap (λ zs. x ∷ zs) (take_front xs ys)

pub front_is : {T : Type 0} (f ts rest : List T) → ts ≡ f ++ rest → front ts rest ≡ f
unfolding front
front_is f ts rest e =
    let n : length ts - length rest ≡ length f = omega (arith, ap length e, length-append f rest) in
    rw (n, e) (take_front f rest)

module _ {T A B : Type 0} {signs : Signs T} (limit : ℕ) (c : T → Bool) (f : A → List T → B) (R : Language T A) (p : Reader T A) (g : Good signs limit c R p) where
  span_done : (ts : List T) (b : B) (rest : List T) (o : Outcome T A) → p ts ≡ o → spanning f ts o ≡ Done b rest → ReadFrom limit (Spanned f R) ts b rest
  span_done ts b rest (Done a r) e h =
      let d = g.done ts a r e in
      let same : r ≡ rest = cc in
      let is : b ≡ f a (front ts r) = cc in
      (d.0, (a, d.1, is ∙ ap (λ x. f a x) (front_is (tokens d.0) ts r d.3)), d.2, subst (λ x. ts ≡ tokens d.0 ++ x) same d.3)
  span_done ts b rest (Unexpected r) e h = cc
  span_done ts b rest (TooDeep r) e h = cc

  span_unexpected : (ts rest : List T) (o : Outcome T A) → p ts ≡ o → spanning f ts o ≡ Unexpected rest → p ts ≡ Unexpected rest
  span_unexpected ts rest (Done a r) e h = cc
  span_unexpected ts rest (Unexpected r) e h = let same : r ≡ rest = cc in e ∙ ap Unexpected same
  span_unexpected ts rest (TooDeep r) e h = cc

  span_too_deep : (ts rest : List T) (o : Outcome T A) → p ts ≡ o → spanning f ts o ≡ TooDeep rest → p ts ≡ TooDeep rest
  span_too_deep ts rest (Done a r) e h = cc
  span_too_deep ts rest (Unexpected r) e h = cc
  span_too_deep ts rest (TooDeep r) e h = let same : r ≡ rest = cc in e ∙ ap TooDeep same

  span_passed : (ts rest : List T) (o : Outcome T A) → Passed rest o → Passed rest (spanning f ts o)
  span_passed ts rest (Done a r) w = w
  span_passed ts rest (Unexpected r) w = w
  span_passed ts rest (TooDeep r) w = w

  span_all : Good signs limit c (Spanned f R) (spanned f p)
  span_all = record {
    example = (f g.example.0 (tokens g.example.1), g.example.1, (g.example.0, g.example.2, refl));
    done = λ ts b rest h. span_done ts b rest (p ts) refl h;
    unexpected = λ ts rest h. let d = g.unexpected ts rest (span_unexpected ts rest (p ts) refl h) in (d.0, d.1, f d.2 (tokens (d.0 ++ d.1)), (d.2, d.3, refl), d.4, d.5);
    too_deep = λ ts rest h. let d = g.too_deep ts rest (span_too_deep ts rest (p ts) refl h) in
        (d.0, d.1, d.2, d.3, f d.4 (tokens (d.0 ++ d.1 ∷ d.2)), (d.4, d.5, refl), d.6, d.7, d.8, d.9, d.10);
    complete = λ b row rest r s stop.
        ap (spanning f (tokens row ++ rest)) (g.complete r.0 row rest r.1 s stop)
        ∙ ap (λ x. Done (f r.0 x) rest) (front_is (tokens row) (tokens row ++ rest) rest refl) ∙ ap (λ x. Done x rest) (sym r.2);
    passes = λ b row m tail rest r s. span_passed (tokens row ++ m.token ∷ rest) rest (p (tokens row ++ m.token ∷ rest)) (g.passes r.0 row m tail rest r.1 s);
    deep = λ b row m tail rest r s lt fits. ap (spanning f (tokens row ++ m.token ∷ rest)) (g.deep r.0 row m tail rest r.1 s lt fits);
    ends = λ b row m r. g.ends r.0 row m r.1;
  }

pub good_spanned : {T A B : Type 0} {signs : Signs T} {limit : ℕ} {c : T → Bool} {R : Language T A} {p : Reader T A} → (f : A → List T → B) → Good signs limit c R p → Good signs limit c (Spanned f R) (spanned f p)
good_spanned {limit} {c} {R} {p} f g = span_all limit c f R p g
