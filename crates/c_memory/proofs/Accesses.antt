-- What a read and a write do to an object that shows values.
use Rattle.std.proofs.Common.{◌≡◌, ℕ, ◌+◌, ◌≤◌, List, ◌∷◌, ◌++◌, length, Option, Some, None, Ok, Err, Bool, true, false, sym, ◌∙◌, ap, subst, arith, if◌then◌else◌}
use Rattle.std.proofs.lemmas.List.{map-append, length-map}
use Rattle.type_trees.specs.Trees.{Tree}
use Rattle.type_trees.specs.Layouts.{Ascends, lay, size}
use Rattle.type_trees.proofs.Layouts.{lay_ascends, reaches}
use Rattle.c_memory.specs.Representations.{Representation}
use Rattle.c_memory.specs.Faithful.{Faithful}
use Rattle.c_memory.specs.Objects.{Object}
use Rattle.c_memory.specs.Seen.{scalar_in, seen, with_scalar}
use Rattle.c_memory.specs.Access.{Dead, BadAccess, ConstWrite, laid_out, known, unless, first_of, access_fault, read_object, written, write_object}
use Rattle.c_memory.specs.Holds.{ShowsValues}
use Rattle.c_memory.proofs.Lists.{cut_same}
use Rattle.c_memory.proofs.Bytes.{length_over, read_same, seen_before, seen_behind}
use Rattle.c_memory.proofs.Laid.{Cut, cut, laid_there}

module _ {S N V B : Type 0} (r : Representation S V B) (a : Tree S N) (us : List (Option V)) (ob : Object S N B) (h : ShowsValues r a us ob) (x : ℕ × S) where
  -- no fault but that of what is laid out
  access_is : (b : Bool) → laid_out r.same x (lay r.metric a 0) ≡ b → access_fault r ob x ≡ (if b then None else Some BadAccess)
  access_is b e =
      ap (λ z. if z then if laid_out r.same x (lay r.metric ob.type 0) then None else Some BadAccess else Some Dead) h.live
      ∙ ap (λ c. if laid_out r.same x (lay r.metric c 0) then None else Some BadAccess) h.type
      ∙ ap (λ z. if z then None else Some BadAccess) e

  pub read_unlaid : laid_out r.same x (lay r.metric a 0) ≡ false → read_object r ob x ≡ Err BadAccess
  read_unlaid e = ap (λ u. unless u (known (scalar_in r ob.bytes x))) (access_is false e)

  pub write_unlaid : (v : V) → laid_out r.same x (lay r.metric a 0) ≡ false → write_object r ob x v ≡ Err BadAccess
  write_unlaid v e = ap (λ u. unless (first_of u (if ob.constant then Some ConstWrite else None)) (Ok (written r ob x v))) (access_is false e)

  module _ (laid : laid_out r.same x (lay r.metric a 0) ≡ true) where
    pub read_laid : (u : Option V) → scalar_in r ob.bytes x ≡ u → read_object r ob x ≡ known u
    read_laid u e = ap (λ f. unless f (known (scalar_in r ob.bytes x))) (access_is true laid) ∙ ap known e

    pub write_laid : (v : V) → ob.constant ≡ false → write_object r ob x v ≡ Ok (written r ob x v)
    write_laid v e =
        ap (λ u. unless (first_of u (if ob.constant then Some ConstWrite else None)) (Ok (written r ob x v))) (access_is true laid)
        ∙ ap (λ b. unless (if b then Some ConstWrite else None) (Ok (written r ob x v))) e

    pub write_const : (v : V) → ob.constant ≡ true → write_object r ob x v ≡ Err ConstWrite
    write_const v e =
        ap (λ u. unless (first_of u (if ob.constant then Some ConstWrite else None)) (Ok (written r ob x v))) (access_is true laid)
        ∙ ap (λ b. unless (if b then Some ConstWrite else None) (Ok (written r ob x v))) e

-- ---- a scalar of the type, behind some and before others

module _ {S N V B : Type 0} (r : Representation S V B) (a : Tree S N) (before after : List (Option V)) (u : Option V) (ob : Object S N B) (h : ShowsValues r a (before ++ u ∷ after) ob) (x : ℕ × S) (left right : List (ℕ × S)) (is : lay r.metric a 0 ≡ left ++ x ∷ right) (number : length left ≡ length before) where
  abbrev shown : (seen r ob.bytes left ≡ before) × (scalar_in r ob.bytes x ∷ seen r ob.bytes right ≡ u ∷ after)
  shown = cut_same (seen r ob.bytes left) before (scalar_in r ob.bytes x ∷ seen r ob.bytes right) (u ∷ after)
      (length-map left (scalar_in r ob.bytes) ∙ number)
      (sym (map-append (scalar_in r ob.bytes) left (x ∷ right)) ∙ ap (seen r ob.bytes) (sym is) ∙ h.same)

  pub scalar_shown : scalar_in r ob.bytes x ≡ u
  scalar_shown = let e : scalar_in r ob.bytes x ∷ seen r ob.bytes right ≡ u ∷ after = shown.1 in cc

  rest_shown : seen r ob.bytes right ≡ after
  rest_shown = let e : scalar_in r ob.bytes x ∷ seen r ob.bytes right ≡ u ∷ after = shown.1 in cc

  abbrev parts : Cut r.metric 0 (0 + size r.metric a) left (x ∷ right)
  parts = cut r.metric 0 (0 + size r.metric a) left (x ∷ right) (subst (λ l. Ascends r.metric 0 l (0 + size r.metric a)) is (lay_ascends r.metric a 0))

  module _ (Can : S → V → Type 0) (faithful : Faithful r Can) where
    pub laid_here : laid_out r.same x (lay r.metric a 0) ≡ true
    laid_here = ap (laid_out r.same x) is ∙ laid_there r.same x left right (faithful.itself x.1)

    pub shows_written : (v : V) → Can x.1 v → ShowsValues r a (before ++ Some v ∷ after) (written r ob x v)
    shows_written v fits =
        let p = parts in
        let bs = with_scalar r ob.bytes x v in
        let low : seen r bs left ≡ before = seen_before r Can faithful ob.bytes 0 p.mid x v left p.left p.right.0 ∙ shown.0 in
        let room : x.0 + r.metric.width x.1 ≤ length ob.bytes = omega (arith, h.room, reaches r.metric (x.0 + r.metric.width x.1) (0 + size r.metric a) right p.right.1) in
        let here : scalar_in r bs x ≡ Some v = read_same r Can faithful ob.bytes x v room fits in
        let high : seen r bs right ≡ after = seen_behind r Can faithful ob.bytes (x.0 + r.metric.width x.1) (0 + size r.metric a) x v right p.right.1 (omega arith) ∙ rest_shown in
        record {
          live = h.live;
          type = h.type;
          room = h.room ∙ sym (length_over x.0 (r.codec.encode x.1 v) ob.bytes);
          same = ap (seen r bs) is ∙ map-append (scalar_in r bs) left (x ∷ right)
              ∙ ap (λ l. l ++ scalar_in r bs x ∷ seen r bs right) low ∙ ap (λ z. before ++ z ∷ seen r bs right) here ∙ ap (λ l. before ++ Some v ∷ l) high;
        }
