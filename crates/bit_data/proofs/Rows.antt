-- Rows of fields: where each of them stands.
use Rattle.std.proofs.Common.{◌≡◌, ℕ, zero, suc, ◌+◌, ◌<◌, ◌≤◌, List, [], ◌∷◌, length, map, get_or, take, false, refl, sym, ap, ◌∙◌, arith}
use Rattle.std.specs.List.{sum_by}
use Rattle.std.proofs.lemmas.List.{take-take}
use Rattle.std.proofs.lemmas.List.Sums.{sum_by-cons, sum_by-take-le, sum_by_more}
use Rattle.bit_data.specs.declared.layout.FieldWish.{FieldWish}
use Rattle.bit_data.specs.declared.layout.FieldBits.{FieldBits}
use Rattle.bit_data.specs.Laws.{wish_at}
use Rattle.bit_data.specs.Layouts.{bits_of, placed_at, placed_from, wish_of}

pub placed_length : (low : ℕ) (ws : List FieldWish) → length (placed_from low ws) ≡ length ws
placed_length low [] = refl
placed_length low (w ∷ ws) = ap suc (placed_length (low + w.width) ws)

pub placed_is : (low : ℕ) (ws : List FieldWish) (i : ℕ) (d : FieldBits) → i < length ws → get_or (placed_from low ws) i d ≡ placed_at (low + bits_of (take i ws)) (wish_at ws i)
placed_is low [] i d l = absurd (omega arith)
placed_is low (w ∷ ws) zero d l = let same : low ≡ low + 0 = omega arith in ap (λ n. placed_at n w) same
placed_is low (w ∷ ws) (suc i) d l =
    let more : i < length ws = omega arith in
    let sum : low + w.width + bits_of (take i ws) ≡ low + bits_of (w ∷ take i ws) = omega (arith, sum_by-cons (λ (x : FieldWish). x.width) w (take i ws)) in
    placed_is (low + w.width) ws i d more ∙ ap (λ n. placed_at n (wish_at ws i)) sum

pub placed_bits : (low : ℕ) (ws : List FieldWish) (i : ℕ) → sum_by (λ (f : FieldBits). f.width) (take i (placed_from low ws)) ≡ bits_of (take i ws)
placed_bits low [] zero = refl
placed_bits low [] (suc i) = refl
placed_bits low (w ∷ ws) zero = refl
placed_bits low (w ∷ ws) (suc i) =
    sum_by-cons (λ (f : FieldBits). f.width) (placed_at low w) (take i (placed_from (low + w.width) ws))
    ∙ ap (λ n. w.width + n) (placed_bits (low + w.width) ws i) ∙ sym (sum_by-cons (λ (x : FieldWish). x.width) w (take i ws))

pub placed_wishes : (low : ℕ) (ws : List FieldWish) → map wish_of (placed_from low ws) ≡ ws
placed_wishes low [] = refl
placed_wishes low (w ∷ ws) = ap (λ more. w ∷ more) (placed_wishes (low + w.width) ws)

pub bits_more : (ws : List FieldWish) (i : ℕ) → i < length ws → bits_of (take (i + 1) ws) ≡ bits_of (take i ws) + (wish_at ws i).width
bits_more ws i l = sum_by_more (λ (x : FieldWish). x.width) ws i (record { name = []; width = 0; truth = false }) l

pub bits_grow : (ws : List FieldWish) (i j : ℕ) → i ≤ j → bits_of (take i ws) ≤ bits_of (take j ws)
bits_grow ws i j le = omega (arith, ap bits_of (take-take i j ws le), sum_by-take-le (λ (x : FieldWish). x.width) (take j ws) i)

-- a field ends in the row, and before each later one
pub ends_before : (ws : List FieldWish) (i j : ℕ) → i < j → i < length ws → bits_of (take i ws) + (wish_at ws i).width ≤ bits_of (take j ws)
ends_before ws i j l k = omega (arith, bits_more ws i k, bits_grow ws (i + 1) j (omega arith))

pub ends_inside : (ws : List FieldWish) (i : ℕ) → i < length ws → bits_of (take i ws) + (wish_at ws i).width ≤ bits_of ws
ends_inside ws i l = omega (arith, bits_more ws i l, sum_by-take-le (λ (x : FieldWish). x.width) ws (i + 1))
