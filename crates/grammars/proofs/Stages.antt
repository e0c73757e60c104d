-- A list in stages is read stage by stage. Up to a number of parts it is a choice and a sequence; and where as many parts may
-- be read as there are tokens, more make no difference.
use Rattle.std.proofs.Common.{◌≡◌, ℕ, zero, suc, ◌+◌, ◌≤◌, Bool, true, false, cond, List, [], ◌∷◌, ◌++◌, inl, inr, refl, sym, ap, ◌∙◌, subst, arith, length, length-append}
use Rattle.reading.specs.Row.{Row, Signs, tokens, starts}
use Rattle.reading.specs.Language.{Language, Given, Mapped, Then, Either}
use Rattle.reading.specs.Reader.{Outcome, Done, Unexpected, TooDeep, Reader, and_then, mapped}
use Rattle.reading.specs.Good.{Good, Passed}
use Rattle.reading.proofs.Starts.{StartsWith, starts_then, without_given}
use Rattle.reading.proofs.Same.{good_as, good_ended, good_map}
use Rattle.reading.proofs.Tokens.{good_give}
use Rattle.reading.proofs.Sequence.{good_then}
use Rattle.reading.proofs.Choice.{good_choose}
use Rattle.grammars.specs.Grammar.{stage}
use Rattle.grammars.specs.Spelled.{InStages}
use Rattle.grammars.specs.Reader.{stages_up_to, in_stages}
use Rattle.grammars.proofs.Sets.{stage_within}
use Rattle.grammars.proofs.Begins.{stages_in}

module _ {T A : Type 0} {signs : Signs T} (limit last : ℕ) (rank : A → ℕ) (c : T → Bool) (next test : ℕ → T → Bool) (R : ℕ → Language T A) (p : ℕ → Reader T A)
    (gp : (s : ℕ) → s ≤ last → Good signs limit (next s) (R s) (p s)) (begin : (s : ℕ) → s ≤ last → StartsWith (test s) (R s))
    (apart : (s t : ℕ) → s ≤ last → t ≤ last → (x : T) → test t x ≡ true → next s x ≡ false)
    (within : (s : ℕ) → s ≤ last → (x : T) → test s x ≡ true → c x ≡ true) (wider : (s : ℕ) → s ≤ last → (x : T) → next s x ≡ true → c x ≡ true) where
  -- lists of so many parts at most
  abbrev UpTo : ℕ → ℕ → Language T (List A)
  UpTo n s xs row = InStages last rank R s xs row × (length xs ≤ n)

  abbrev OneMore : ℕ → ℕ → Language T (List A)
  OneMore n s = Either (Then (R s) (λ a. Mapped (λ more. a ∷ more) (UpTo n (stage last (rank a))))) (Given [])

  to_more : (n s : ℕ) (xs : List A) (row : Row T) → OneMore n s xs row → UpTo (suc n) s xs row
  to_more n s xs row (inl (a, f, g, e, one, (more, (rest, few), is))) = subst (λ x. UpTo (suc n) s x row) (sym is) ((f, g, e, one, rest), omega (arith, few))
  to_more n s xs row (inr (is, e)) = subst (λ x. UpTo (suc n) s x row) (sym is) (e, omega arith)

  from_more : (n s : ℕ) (xs : List A) (row : Row T) → UpTo (suc n) s xs row → OneMore n s xs row
  from_more n s [] row (e, few) = inr (refl, e)
  from_more n s (a ∷ more) row ((f, g, e, one, rest), few) = inl (a, f, g, e, one, (more, (rest, omega (arith, few)), refl))

  to_none : (s : ℕ) (xs : List A) (row : Row T) → Given [] xs row → UpTo 0 s xs row
  to_none s xs row (is, e) = subst (λ x. UpTo 0 s x row) (sym is) (e, omega arith)

  from_none : (s : ℕ) (xs : List A) (row : Row T) → UpTo 0 s xs row → Given [] xs row
  from_none s [] row (e, few) = (refl, e)
  from_none s (a ∷ more) row (w, few) = absurd (omega (arith, few))

  bounded : (n s : ℕ) → s ≤ last → Good signs limit c (UpTo n s) (stages_up_to n last rank test p s)
  bounded zero s low = good_as (to_none s) (from_none s) (good_ended (good_give []))
  bounded (suc n) s low =
      good_as (to_more n s) (from_more n s)
      (good_choose
      (good_then (gp s low) (λ a. good_map (λ more. a ∷ more) (bounded n (stage last (rank a)) (stage_within last (rank a))))
      (λ a xs m row w. stages_in last rank R (λ t. next s t ≡ false) (λ t less b k more r. apart s t low less k.token ((begin t less).first b k more r)) (stage last (rank a)) (stage_within last (rank a)) w.0 m row w.1.0)
      (λ a xs w t e. wider s low t e))
      (good_ended (good_give [])) (starts_then (begin s low)) (without_given (test s) []) (λ a w t e. within s low t e))

  -- ---- as many as there are tokens

  shorter : (s : ℕ) → s ≤ last → (a : A) (f : Row T) (r : List T) (n : ℕ) (ts : List T) → R s a f → ts ≡ tokens f ++ r → length ts ≤ suc n → length r ≤ n
  shorter s low a [] r n ts one e fits = absurd ((begin s low).nonempty a one)
  shorter s low a (m ∷ f) r n ts one e fits = omega (arith, ap length e, length-append (tokens f) r, fits)

  abbrev up : ℕ → ℕ → List T → Outcome T (List A)
  up n s ts = stages_up_to n last rank test p s ts

  abbrev turn : ℕ → Outcome T A → Outcome T (List A)
  turn n o = and_then o (λ a rest. mapped (λ more. a ∷ more) (up n (stage last (rank a)) rest))

  same_turn : (n k s : ℕ) → s ≤ last → (ts : List T) → length ts ≤ suc n → length ts ≤ suc k → ((t : ℕ) → t ≤ last → (r : List T) → length r ≤ n → length r ≤ k → up n t r ≡ up k t r)
      → (o : Outcome T A) → p s ts ≡ o → turn n o ≡ turn k o
  same_turn n k s low ts a b ih (Done v r) e =
      let d = (gp s low).done ts v r e in
      ap (mapped (λ more. v ∷ more)) (ih (stage last (rank v)) (stage_within last (rank v)) r (shorter s low v d.0 r n ts d.1 d.3 a) (shorter s low v d.0 r k ts d.1 d.3 b))
  same_turn n k s low ts a b ih (Unexpected r) e = refl
  same_turn n k s low ts a b ih (TooDeep r) e = refl

  same_bound : (n k s : ℕ) → s ≤ last → (ts : List T) → length ts ≤ n → length ts ≤ k → up n s ts ≡ up k s ts
  same_bound zero zero s low ts a b = refl
  same_bound zero (suc k) s low [] a b = refl
  same_bound zero (suc k) s low (t ∷ ts) a b = absurd (omega arith)
  same_bound (suc n) zero s low [] a b = refl
  same_bound (suc n) zero s low (t ∷ ts) a b = absurd (omega arith)
  same_bound (suc n) (suc k) s low ts a b =
      ap (λ o. cond (starts (test s) ts) o (Done [] ts)) (same_turn n k s low ts a b (λ t less r x y. same_bound n k t less r x y) (p s ts) refl)

  pub good_stages : (s : ℕ) → s ≤ last → Good signs limit c (InStages last rank R s) (in_stages last rank test p s)
  unfolding in_stages
  good_stages s low = record {
    example = ([], [], refl);
    done = λ ts xs rest h. let d = (bounded (length ts) s low).done ts xs rest h in (d.0, d.1.0, d.2, d.3);
    unexpected = λ ts rest h. let d = (bounded (length ts) s low).unexpected ts rest h in (d.0, d.1, d.2, d.3.0, d.4, d.5);
    too_deep = λ ts rest h. let d = (bounded (length ts) s low).too_deep ts rest h in (d.0, d.1, d.2, d.3, d.4, d.5.0, d.6, d.7, d.8, d.9, d.10);
    complete = λ xs row rest r sh stop.
        let n = length xs + length (tokens row ++ rest) in
        same_bound (length (tokens row ++ rest)) n s low (tokens row ++ rest) (omega arith) (omega arith) ∙ (bounded n s low).complete xs row rest (r, omega arith) sh stop;
    passes = λ xs row m tail rest r sh.
        let n = length xs + length (tokens row ++ m.token ∷ rest) in
        let ts = tokens row ++ m.token ∷ rest in
        subst (Passed rest) (same_bound n (length ts) s low ts (omega arith) (omega arith)) ((bounded n s low).passes xs row m tail rest (r, omega arith) sh);
    deep = λ xs row m tail rest r sh lt fits.
        let n = length xs + length (tokens row ++ m.token ∷ rest) in
        let ts = tokens row ++ m.token ∷ rest in
        same_bound (length ts) n s low ts (omega arith) (omega arith) ∙ (bounded n s low).deep xs row m tail rest (r, omega arith) sh lt fits;
    ends = λ xs row m r lt. (bounded (length xs) s low).ends xs row m (r, omega arith) lt;
  }
