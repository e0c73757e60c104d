-- A list that is read in a loop, an element each turn: `for _turn in 0..rest.len()`, which breaks where no further element
-- begins. The loop's invariant is that what it has, and what a reader of many still gives, make the wanted outcome.
use Rattle.std.proofs.Common.{◌≡◌, ℕ, zero, suc, Bool, true, false, List, [], ◌∷◌, ◌++◌, refl, sym, ap, subst, ◌∙◌, append_assoc, length, cond}
use Rattle.reading.specs.Row.{starts}
use Rattle.reading.specs.Reader.{Outcome, Done, Unexpected, TooDeep, Reader, and_then, mapped, many, many_up_to}
use Rattle.reading.proofs.Rows.{append_nil}

-- the first values, what is left to read, and for how many turns
pub record Turns {T A : Type 0} (test : T → Bool) (p : Reader T A) (wanted : Outcome T (List A)) (n : ℕ) (first : List A) (rest : List T) : Type 0 where
  pub same : mapped (λ more. first ++ more) (many_up_to n test p rest) ≡ wanted

-- ---- before the first turn

nothing_before : {T A : Type 0} (o : Outcome T (List A)) → mapped (λ more. [] ++ more) o ≡ o
nothing_before (Done a r) = refl
nothing_before (Unexpected r) = refl
nothing_before (TooDeep r) = refl

many_started : {T A : Type 0} (test : T → Bool) (p : Reader T A) (ts : List T) → Turns test p (many test p ts) (length ts) [] ts
unfolding many
many_started test p ts = record { same = nothing_before (many_up_to (length ts) test p ts) }

more_started : {T A : Type 0} (test : T → Bool) (p : Reader T A) (ts : List T) (x : A) → Turns test p (mapped (λ more. x ∷ more) (many test p ts)) (length ts) (x ∷ []) ts
unfolding many
more_started test p ts x = record { same = refl }

-- none or more, with nothing read yet
pub turns_init : {T A : Type 0} (test : T → Bool) (p : Reader T A) (ts : List T) (n : ℕ) (first : List A) → n ≡ length ts → first ≡ [] → Turns test p (many test p ts) n first ts
turns_init test p ts n first e f =
    subst (λ k. Turns test p (many test p ts) k first ts) (sym e) (subst (λ xs. Turns test p (many test p ts) (length ts) xs ts) (sym f) (many_started test p ts))

-- further ones behind the first, which is pushed before the loop: those of a separated list
pub turns_more_init : {T A : Type 0} (test : T → Bool) (p : Reader T A) (ts : List T) (n : ℕ) (first empty : List A) (x : A) → n ≡ length ts → first ≡ empty ++ x ∷ [] → empty ≡ []
    → Turns test p (mapped (λ more. x ∷ more) (many test p ts)) n first ts
turns_more_init test p ts n first empty x e pushed is_empty =
    let wanted = mapped (λ more. x ∷ more) (many test p ts) in
    let is : first ≡ x ∷ [] = pushed ∙ ap (λ xs. xs ++ x ∷ []) is_empty in
    subst (λ k. Turns test p wanted k first ts) (sym e) (subst (λ xs. Turns test p wanted (length ts) xs ts) (sym is) (more_started test p ts x))

-- ---- a turn

moved : {T A : Type 0} (first : List A) (x : A) (o : Outcome T (List A))
    → mapped (λ more. (first ++ x ∷ []) ++ more) o ≡ mapped (λ more. first ++ more) (mapped (λ more. x ∷ more) o)
moved first x (Done a r) = ap (λ y. Done y r) (append_assoc first (x ∷ []) a)
moved first x (Unexpected r) = refl
moved first x (TooDeep r) = refl

turn : {T A : Type 0} (test : T → Bool) (p : Reader T A) (rest : List T) (n : ℕ) (o : Outcome T A) → starts test rest ≡ true → p rest ≡ o
    → many_up_to (suc n) test p rest ≡ and_then o (λ a r. mapped (λ more. a ∷ more) (many_up_to n test p r))
turn test p rest n o s e =
    ap (λ b. cond b (and_then (p rest) (λ a r. mapped (λ more. a ∷ more) (many_up_to n test p r))) (Done [] rest)) s
    ∙ ap (λ q. and_then q (λ a r. mapped (λ more. a ∷ more) (many_up_to n test p r))) e

-- one more element is read
pub turns_after : {T A : Type 0} {test : T → Bool} {p : Reader T A} {wanted : Outcome T (List A)} {rest : List T} {n : ℕ} {first : List A} (x : A) (after : List T) (m : ℕ) (now : List A)
    → Turns test p wanted n first rest → n ≡ suc m → starts test rest ≡ true → p rest ≡ Done x after → now ≡ first ++ x ∷ [] → Turns test p wanted m now after
turns_after {test} {p} {wanted} {rest} {n} {first} x after m now t e s h f = subst (λ y. Turns test p wanted m y after) (sym f) record {
  same = moved first x (many_up_to m test p after) ∙ sym (ap (mapped (λ more. first ++ more)) (ap (λ k. many_up_to k test p rest) e ∙ turn test p rest m (Done x after) s h)) ∙ t.same;
}

-- ---- the end

stopped : {T A : Type 0} (test : T → Bool) (p : Reader T A) (rest : List T) (n : ℕ) → starts test rest ≡ false → many_up_to n test p rest ≡ Done [] rest
stopped test p rest zero s = refl
stopped test p rest (suc n) s = ap (λ b. cond b (and_then (p rest) (λ a r. mapped (λ more. a ∷ more) (many_up_to n test p r))) (Done [] rest)) s

-- where no element begins there is none
pub many_none : {T A : Type 0} (test : T → Bool) (p : Reader T A) (ts : List T) → starts test ts ≡ false → many test p ts ≡ Done [] ts
unfolding many
many_none test p ts s = stopped test p ts (length ts) s

-- no further element begins
pub turns_stop : {T A : Type 0} {test : T → Bool} {p : Reader T A} {wanted : Outcome T (List A)} {rest : List T} {n : ℕ} {first : List A}
    → Turns test p wanted n first rest → starts test rest ≡ false → wanted ≡ Done first rest
turns_stop {test} {p} {rest = rest} {n} {first} t s =
    sym t.same ∙ ap (mapped (λ more. first ++ more)) (stopped test p rest n s) ∙ ap (λ y. Done y rest) (append_nil first)

-- no turn is left
pub turns_end : {T A : Type 0} {test : T → Bool} {p : Reader T A} {wanted : Outcome T (List A)} {rest : List T} {n : ℕ} {first : List A}
    → Turns test p wanted n first rest → n ≡ 0 → wanted ≡ Done first rest
turns_end {test} {p} {rest = rest} {n} {first} t e =
    sym t.same ∙ ap (λ k. mapped (λ more. first ++ more) (many_up_to k test p rest)) e ∙ ap (λ y. Done y rest) (append_nil first)

-- a fault in an element
pub turns_unexpected : {T A : Type 0} {test : T → Bool} {p : Reader T A} {wanted : Outcome T (List A)} {rest : List T} {n : ℕ} {first : List A} (r : List T) (m : ℕ)
    → Turns test p wanted n first rest → n ≡ suc m → starts test rest ≡ true → p rest ≡ Unexpected r → wanted ≡ Unexpected r
turns_unexpected {test} {p} {rest = rest} {n} {first} r m t e s h =
    sym t.same ∙ ap (mapped (λ more. first ++ more)) (ap (λ k. many_up_to k test p rest) e ∙ turn test p rest m (Unexpected r) s h)

pub turns_too_deep : {T A : Type 0} {test : T → Bool} {p : Reader T A} {wanted : Outcome T (List A)} {rest : List T} {n : ℕ} {first : List A} (r : List T) (m : ℕ)
    → Turns test p wanted n first rest → n ≡ suc m → starts test rest ≡ true → p rest ≡ TooDeep r → wanted ≡ TooDeep r
turns_too_deep {test} {p} {rest = rest} {n} {first} r m t e s h =
    sym t.same ∙ ap (mapped (λ more. first ++ more)) (ap (λ k. many_up_to k test p rest) e ∙ turn test p rest m (TooDeep r) s h)
