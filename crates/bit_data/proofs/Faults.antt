-- The fault of a row is that of its first field that is not sound.
use Rattle.std.proofs.Common.{◌≡◌, ℕ, zero, suc, ◌+◌, ◌<◌, ◌≤◌, List, [], ◌∷◌, ◌++◌, length, take, drop, Bool, true, false, Option, Some, None, refl, sym, subst, ap, ◌∙◌, arith, ◌⊎◌, inl, inr}
use Rattle.std.specs.Prelude.{nat_eq, if◌then◌else◌}
use Rattle.std.proofs.lemmas.List.{take_more, at_drop_more, at_drop_all, length-take-le}
use Rattle.std.proofs.lemmas.Bool.{cases_lt}
use Rattle.std.proofs.lemmas.Bool.Decides.{nat_tests}
use Rattle.bit_data.specs.declared.layout.FieldWish.{FieldWish}
use Rattle.bit_data.specs.declared.fault.LayoutFault.{LayoutFault}
use Rattle.bit_data.specs.declared.fault.LayoutFault.TheVariants.{TwiceNamed, EmptyField}
use Rattle.bit_data.specs.Layouts.{is_name_of, first_fault}
use Rattle.bit_data.specs.Laws.{wish_at, IsSound, IsFirstFault, FaultsAreFirst, FaultlessFieldsAreSound}

-- what an answer says of the row
abbrev Verdict : List FieldWish → Option LayoutFault → Type 0
Verdict ws None = (i : ℕ) → i < length ws → IsSound ws i
Verdict ws (Some fault) = IsFirstFault ws fault

next_fault : (ws : List FieldWish) (i : ℕ) → i < length ws
    → first_fault (take i ws) (drop i ws)
    ≡ (if is_name_of (take i ws) (wish_at ws i).name then Some (TwiceNamed i)
    else (if nat_eq (wish_at ws i).width 0 then Some (EmptyField i) else first_fault (take (i + 1) ws) (drop (i + 1) ws)))
next_fault ws i l =
    let none : FieldWish = record { name = []; width = 0; truth = false } in
    let w = wish_at ws i in
    let rest = drop (i + 1) ws in
    at_drop_more (first_fault (take i ws)) ws i none l
    ∙ ap (λ n. let r : Option LayoutFault = if is_name_of (take i ws) w.name then Some (TwiceNamed n) else (if nat_eq w.width 0 then Some (EmptyField n) else first_fault (take i ws ++ w ∷ []) rest) in r) (length-take-le i ws (omega arith))
    ∙ ap (λ front. let r : Option LayoutFault = if is_name_of (take i ws) w.name then Some (TwiceNamed i) else (if nat_eq w.width 0 then Some (EmptyField i) else first_fault front rest) in r) (sym (take_more ws i none l))

so_far : (ws : List FieldWish) (i : ℕ) → ((j : ℕ) → j < i → IsSound ws j) → IsSound ws i → (j : ℕ) → j < i + 1 → IsSound ws j
so_far ws i before here j l = go (cases_lt j i)
  where
    go : (j < i) ⊎ (i ≤ j) → IsSound ws j
    go (inl less) = before j less
    go (inr more) = let same : i ≡ j = omega arith in subst (IsSound ws) same here

walk : (left : ℕ) (ws : List FieldWish) (i : ℕ) → i + left ≡ length ws → ((j : ℕ) → j < i → IsSound ws j) → Verdict ws (first_fault (take i ws) (drop i ws))
walk zero ws i e before =
    subst (Verdict ws) (sym (at_drop_all (first_fault (take i ws)) ws i (omega arith))) (λ j l. before j (omega arith))
walk (suc left) ws i e before =
    let l : i < length ws = omega arith in
    subst (Verdict ws) (sym (next_fault ws i l))
    (go l (is_name_of (take i ws) (wish_at ws i).name) (nat_eq (wish_at ws i).width 0) refl refl (λ here. walk left ws (i + 1) (omega arith) (so_far ws i before here)))
  where
    go : i < length ws → (named empty : Bool) → is_name_of (take i ws) (wish_at ws i).name ≡ named → nat_eq (wish_at ws i).width 0 ≡ empty
        → (IsSound ws i → Verdict ws (first_fault (take (i + 1) ws) (drop (i + 1) ws)))
        → Verdict ws (if named then Some (TwiceNamed i) else (if empty then Some (EmptyField i) else first_fault (take (i + 1) ws) (drop (i + 1) ws)))
    go l true empty n w more = (record { within = l; before = before }, n)
    go l false true n w more = (record { within = l; before = before }, n, grind (arith, nat_tests))
    go l false false n w more = more (record { named = n; some = grind (arith, nat_tests) })

whole : (ws : List FieldWish) → Verdict ws (first_fault [] ws)
whole ws = walk (length ws) ws 0 (omega arith) (λ j l. absurd (omega arith))

pub faults_are_first : FaultsAreFirst
faults_are_first = λ ws fault e. subst (Verdict ws) e (whole ws)

pub faultless_fields_are_sound : FaultlessFieldsAreSound
faultless_fields_are_sound = λ ws e. subst (Verdict ws) e (whole ws)
