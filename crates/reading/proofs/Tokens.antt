-- A single token, and a value without tokens.
use Rattle.std.proofs.Common.{◌≡◌, ℕ, ◌≤◌, List, [], ◌∷◌, ◌++◌, refl, sym, ap, ◌∙◌, subst, arith, Option, Some, None}
use Rattle.reading.specs.Row.{Entry, Row, Signs, tokens}
use Rattle.reading.specs.Language.{Terminal, Given}
use Rattle.reading.specs.Reader.{Done, Unexpected, TooDeep, accept, picked, give}
use Rattle.reading.specs.Good.{Good, Passed, ReadFrom}
use Rattle.reading.proofs.Rows.{has_one, only_one}
use Rattle.reading.proofs.Same.{none}

pub good_give : {T A : Type 0} {signs : Signs T} {limit : ℕ} → (a : A) → Good signs limit none (Given a) (give a)
good_give a = record {
  example = (a, [], (refl, refl));
  done = λ ts b rest h. let is : b ≡ a = cc in let same : ts ≡ rest = cc in ([], (is, refl), tt, same);
  unexpected = λ ts rest h. absurd cc;
  too_deep = λ ts rest h. absurd cc;
  complete = λ b row rest r s stop. let e : tokens row ++ rest ≡ rest = ap (λ x. tokens x ++ rest) r.1 in ap (λ x. Done a x) e ∙ ap (λ x. Done x rest) (sym r.0);
  passes = λ b row m tail rest r s. absurd (has_one row m tail r.1);
  deep = λ b row m tail rest r s lt fits. absurd (has_one row m tail r.1);
  ends = λ b row m r lt. absurd (has_one row m [] r.1);
}

module _ {T A : Type 0} (signs : Signs T) (limit d : ℕ) (within : d ≤ limit) (select : T → Option A) where
  accept_done : (t : T) (ts : List T) (o : Option A) → select t ≡ o → (a : A) (rest : List T) → picked o t ts ≡ Done a rest → ReadFrom limit (Terminal d select) (t ∷ ts) a rest
  accept_done t ts (Some b) e a rest h =
      let same : ts ≡ rest = cc in
      let is : select t ≡ Some a = cc in
      let m : Entry T = record { token = t; depth = d } in
      (m ∷ [], (m, refl, refl, is), (within, tt), ap (λ x. t ∷ x) same)
  accept_done t ts None e a rest h = cc

  accept_unexpected : (t : T) (ts : List T) (o : Option A) → select t ≡ o → (rest : List T) → picked o t ts ≡ Unexpected rest → t ∷ ts ≡ rest
  accept_unexpected t ts (Some b) e rest h = cc
  accept_unexpected t ts None e rest h = cc

  accept_not_deep : (t : T) (ts : List T) (o : Option A) → (rest : List T) → picked o t ts ≡ TooDeep rest → ⊥
  accept_not_deep t ts (Some b) rest h = cc
  accept_not_deep t ts None rest h = cc

  accept_passed : (b : A) (row : Row T) (m : Entry T) (tail : Row T) (rest : List T) → Terminal d select b (row ++ m ∷ tail) → Passed rest (accept select (tokens row ++ m.token ∷ rest))
  accept_passed b [] m tail rest (n, e, is, sel) =
      let same : m ≡ n = only_one [] m n tail e in
      subst (Passed rest) (sym (ap (λ o. picked o m.token rest) (ap (λ x. select x.token) same ∙ sel))) ([], refl)
  accept_passed b (x ∷ []) m tail rest (n, e, is, sel) = absurd cc
  accept_passed b (x ∷ y ∷ row) m tail rest (n, e, is, sel) = absurd cc

  accept_all : (a : A) (t : T) → select t ≡ Some a → Good signs limit none (Terminal d select) (accept select)
  accept_all a t is = record {
    example = let m : Entry T = record { token = t; depth = d } in (a, m ∷ [], (m, refl, refl, is));
    done = elim [ [] ↦ λ b rest h. absurd cc | u ∷ ts ↦ λ b rest h. accept_done u ts (select u) refl b rest h ];
    unexpected = elim [
      | [] ↦ λ rest h. let e : [] ≡ rest = cc in let m : Entry T = record { token = t; depth = d } in ([], m ∷ [], a, (m, refl, refl, is), tt, e)
      | u ∷ ts ↦ λ rest h. let m : Entry T = record { token = t; depth = d } in ([], m ∷ [], a, (m, refl, refl, is), tt, accept_unexpected u ts (select u) refl rest h)
    ];
    too_deep = elim [ [] ↦ λ rest h. absurd cc | u ∷ ts ↦ λ rest h. absurd (accept_not_deep u ts (select u) rest h) ];
    complete = λ b row rest r s stop.
        ap (λ x. accept select (tokens x ++ rest)) r.1 ∙ ap (λ o. picked o r.0.token rest) r.3;
    passes = λ b row m tail rest r s. accept_passed b row m tail rest r;
    deep = λ b row m tail rest r s lt fit. absurd (let e : m.depth ≡ d = ap (λ x. x.depth) (only_one row m r.0 tail r.1) ∙ r.2 in omega arith);
    ends = λ b row m r lt. absurd (let e : m.depth ≡ d = ap (λ x. x.depth) (only_one row m r.0 [] r.1) ∙ r.2 in omega arith);
  }

-- with one token that is accepted
pub good_accept : {T A : Type 0} {signs : Signs T} {limit d : ℕ} (select : T → Option A) → d ≤ limit → (a : A) (t : T) → select t ≡ Some a → Good signs limit none (Terminal d select) (accept select)
good_accept {limit} {d} select within a t is = accept_all _ limit d within select a t is
