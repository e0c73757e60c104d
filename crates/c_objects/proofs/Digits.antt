-- Digits put one by one into bytes.
use Rattle.std.proofs.Common.{◌≡◌, ℕ, zero, suc, ◌+◌, ◌-◌, ◌*◌, ◌^◌, ◌/◌, ◌%◌, ◌<◌, ◌≤◌, List, [], ◌∷◌, length, refl, sym, ◌∙◌, ap, arith}
use Rattle.std.specs.Prelude.{map, slice_set}
use Rattle.c_memory.specs.Bytes.{Byte}
use Rattle.c_memory.specs.Codecs.{digits}
use Rattle.c_memory.specs.Seen.{over}
use Rattle.c_meaning.specs.Values.{Address}
use Rattle.c_objects.specs.Bytes.{as_number}

pub power_step : (k : ℕ) → 256 ^ suc k ≡ 256 * 256 ^ k
power_step k = grind arith

pub powers_rise : (d k : ℕ) → 256 ^ k ≤ 256 ^ (k + d)
powers_rise zero k = omega (arith, ap (λ n. 256 ^ n) (let e : k + 0 ≡ k = omega arith in e))
powers_rise (suc d) k = omega (arith, powers_rise d k, power_step (k + d), ap (λ n. 256 ^ n) (let e : k + suc d ≡ suc (k + d) = omega arith in e))

pub seven_bytes : (k : ℕ) → k ≤ 7 → 256 ^ k ≤ 72057594037927936
seven_bytes k h = omega (arith, powers_rise (7 - k) k, ap (λ n. 256 ^ n) (let e : k + (7 - k) ≡ 7 = omega arith in e))

over_next : {B : Type 0} (o : ℕ) (e : B) (es bs : List B) → over (suc o) es (slice_set bs o e) ≡ over o (e ∷ es) bs
over_next zero e es [] = refl
over_next zero e es (b ∷ bs) = refl
over_next (suc o) e es [] = refl
over_next (suc o) e es (b ∷ bs) = ap (λ x. b ∷ x) (over_next o e es bs)

pub over_nothing : {B : Type 0} (o : ℕ) (bs : List B) → over o [] bs ≡ bs
over_nothing zero bs = refl
over_nothing (suc o) [] = refl
over_nothing (suc o) (b ∷ bs) = ap (λ x. b ∷ x) (over_nothing o bs)

pub over_past : {B : Type 0} (o : ℕ) (es bs : List B) → length bs ≤ o → over o es bs ≡ bs
over_past zero [] bs h = refl
over_past zero (e ∷ es) [] h = refl
over_past zero (e ∷ es) (b ∷ bs) h = absurd (omega arith)
over_past (suc o) es [] h = refl
over_past (suc o) es (b ∷ bs) h = ap (λ x. b ∷ x) (over_past o es bs (omega arith))

pub put_step : (at i many rest : ℕ) (bs new whole : List (Byte Address)) → i < many → new ≡ slice_set bs (at + i) (as_number (rest % 256))
    → over (at + i) (map as_number (digits (many - i) rest)) bs ≡ whole → over (at + (i + 1)) (map as_number (digits (many - (i + 1)) (rest / 256))) new ≡ whole
put_step at i many rest bs new whole lt is h =
    let place : at + (i + 1) ≡ suc (at + i) = omega arith in
    let left : many - i ≡ suc (many - (i + 1)) = omega arith in
    let es : List (Byte Address) = map as_number (digits (many - (i + 1)) (rest / 256)) in
    ap (λ o. over o es new) place
    ∙ ap (λ b. over (suc (at + i)) es b) is
    ∙ over_next (at + i) (as_number (rest % 256)) es bs
    ∙ ap (λ k. over (at + i) (map as_number (digits k rest)) bs) (sym left)
    ∙ h

pub put_end : (o i many rest : ℕ) (bs whole : List (Byte Address)) → many ≤ i → over o (map as_number (digits (many - i) rest)) bs ≡ whole → bs ≡ whole
put_end o i many rest bs whole le h =
    let none : many - i ≡ 0 = omega arith in
    sym (over_nothing o bs) ∙ ap (λ k. over o (map as_number (digits k rest)) bs) (sym none) ∙ h
