-- What is left of a list behind a place: the replies that imports have not taken, and the values that are not looked at yet.
use Rattle.std.proofs.Common.{ℕ, zero, suc, ◌+◌, ◌<◌, ◌≤◌, ◌≡◌, ℤ, Bool, true, false, ◌&&◌, List, [], ◌∷◌, drop, length, get_or, if◌then◌else◌, refl, sym, ◌∙◌, ap, subst, arith}
use Rattle.std.proofs.Math.Seq.{drop-cons}
use Rattle.run_records.specs.declared.Plain.{Plain}
use Rattle.run_records.specs.declared.Plain.TheVariants.{Truth}
use Rattle.run_records.specs.Scripts.{plain_fits, values_fit}
use Rattle.step_semantics.specs.Steps as steps
use Rattle.step_semantics.specs.Steps.{Finished, Halted, give, halt}
use Rattle.step_semantics.specs.Imports.{checked, next_reply}
use Rattle.run_world.specs.Comes.{unseen}

pub nothing_left : {A : Type 0} (xs : List A) (i : ℕ) → length xs ≤ i → drop i xs ≡ []
nothing_left [] zero h = refl
nothing_left [] (suc i) h = refl
nothing_left (x ∷ xs) zero h = absurd (omega arith)
nothing_left (x ∷ xs) (suc i) h = nothing_left xs i (omega arith)

pub one_left : {A : Type 0} (xs : List A) (i : ℕ) (x : A) → i < length xs → x ≡ get_or xs i x → drop i xs ≡ x ∷ drop (i + 1) xs
one_left xs i x h is = let e : suc i ≡ i + 1 = omega arith in drop-cons xs i x h ∙ ap (λ y. y ∷ drop (suc i) xs) (sym is) ∙ ap (λ k. x ∷ drop k xs) e

pub empty_of : {A : Type 0} (xs : List A) → length xs ≡ 0 → xs ≡ []
empty_of [] h = refl
empty_of (x ∷ xs) h = absurd (omega arith)

pub too_few : (shape : List Plain) (i : ℕ) → i < length shape → values_fit (drop i shape) [] ≡ false
too_few shape i h = ap (λ ts. values_fit ts []) (drop-cons shape i Truth h)

-- ---- replies

pub no_reply : (shape : List Plain) (replies : List (List ℤ)) (i n : ℕ) (w : steps.World) → length replies ≤ i → next_reply unseen shape (drop i replies) n w tt ≡ Halted steps.MissingReply w []
no_reply shape replies i n w h = ap (λ rs. next_reply unseen shape rs n w tt) (nothing_left replies i h)

pub some_reply : (shape : List Plain) (replies : List (List ℤ)) (i n : ℕ) (events : List _) (values : List ℤ) → i < length replies → values ≡ get_or replies i values → next_reply unseen shape (drop i replies) n (record { events = events; replies = drop i replies }) tt ≡ checked unseen shape values n (record { events = events; replies = drop (i + 1) replies }) tt
some_reply shape replies i n events values h is = ap (λ rs. next_reply unseen shape rs n (record { events = events; replies = drop i replies }) tt) (one_left replies i values h is)

pub fit_reply : (shape : List Plain) (values : List ℤ) (n : ℕ) (w : steps.World) → values_fit shape values ≡ true → checked unseen shape values n w tt ≡ Finished values w tt n
fit_reply shape values n w h = ap (λ (b : Bool). (if b then give values else halt unseen steps.UnfitReply) n w tt) h

pub unfit_reply : (shape : List Plain) (values : List ℤ) (n : ℕ) (w : steps.World) → values_fit shape values ≡ false → checked unseen shape values n w tt ≡ Halted steps.UnfitReply w []
unfit_reply shape values n w h = ap (λ (b : Bool). (if b then give values else halt unseen steps.UnfitReply) n w tt) h
