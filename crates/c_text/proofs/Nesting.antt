-- Texts whose brackets all close, and how deep they nest.
use Rattle.std.proofs.Common.{◌≡◌, refl, ◌∙◌, ap, ℕ, zero, suc, ◌+◌, ◌-◌, ◌<◌, ◌≤◌, ◌⊎◌, inl, inr, List, [], ◌∷◌, ◌++◌, length, take, arith}
use Rattle.std.specs.Prelude.{codes}
use Rattle.std.proofs.Math.Seq.{take-append-add}
use Rattle.std.proofs.lemmas.Bool.{cases_lt}
use Rattle.std.proofs.lemmas.List.{take-append-le}
use Rattle.c_text.specs.ReadsBack.{open_after, open_brackets, IsShallow}

-- however many brackets are open before it, the text never has more than `depth` further ones open, and in the end none
pub record Nests (depth : ℕ) (text : List ℕ) : Type 0 where
  pub within : (count n : ℕ) → open_brackets count (take n text) ≤ count + depth
  pub closes : (count : ℕ) → open_brackets count text ≡ count

pub shallow : (depth : ℕ) (text : List ℕ) → depth ≤ 300 → Nests depth text → IsShallow text
shallow depth text few nests n = let bound : open_brackets 0 (take n text) ≤ 0 + depth = nests.within 0 n in omega arith

pub deeper : (depth most : ℕ) (text : List ℕ) → depth ≤ most → Nests depth text → Nests most text
deeper depth most text few nests = record {
  within = λ count n. let bound : open_brackets count (take n text) ≤ count + depth = nests.within count n in omega arith;
  closes = nests.closes;
}

pub empty : (depth : ℕ) → Nests depth []
empty depth = record { within = within; closes = λ count. refl }
  where
    within : (count n : ℕ) → open_brackets count (take n []) ≤ count + depth
    within count zero = omega arith
    within count (suc n) = omega arith

pub open_joined : (count : ℕ) (a b : List ℕ) → open_brackets count (a ++ b) ≡ open_brackets (open_brackets count a) b
open_joined count [] b = refl
open_joined count (x ∷ a) b = open_joined (open_after count x) a b

-- one text after the other

within_joined : (depth : ℕ) (a b : List ℕ) → Nests depth a → Nests depth b → (count n : ℕ) → (n < length a) ⊎ (length a ≤ n) → open_brackets count (take n (a ++ b)) ≤ count + depth
within_joined depth a b first second count n (inl short) =
    let front : n ≤ length a = omega arith in
    rw take-append-le (first.within count n)
within_joined depth a b first second count n (inr long) =
    let more : n ≡ length a + (n - length a) = omega arith in
    let whole : take n (a ++ b) ≡ a ++ take (n - length a) b = ap (λ m. take m (a ++ b)) more ∙ take-append-add a b (n - length a) in
    let opens : open_brackets count (take n (a ++ b)) ≡ open_brackets count (take (n - length a) b)
    = ap (open_brackets count) whole ∙ open_joined count a (take (n - length a) b) ∙ ap (λ m. open_brackets m (take (n - length a) b)) (first.closes count) in
    let bound : open_brackets count (take (n - length a) b) ≤ count + depth = second.within count (n - length a) in
    omega arith

pub joined : (depth : ℕ) (a b : List ℕ) → Nests depth a → Nests depth b → Nests depth (a ++ b)
joined depth a b first second = record {
  within = λ count n. within_joined depth a b first second count n (cases_lt n (length a));
  closes = λ count. open_joined count a b ∙ ap (λ m. open_brackets m b) (first.closes count) ∙ second.closes count;
}

-- a text in brackets

module _ (opening closing : ℕ) (opens : (count : ℕ) → open_after count opening ≡ count + 1) (shuts : (count : ℕ) → open_after (count + 1) closing ≡ count) where
  -- what stands from the closing bracket on
  after_text : (depth count n : ℕ) → open_brackets (count + 1) (take n (closing ∷ [])) ≤ count + (depth + 1)
  after_text depth count zero = omega arith
  after_text depth count (suc zero) = rw (shuts count) (omega arith)
  after_text depth count (suc (suc n)) = rw (shuts count) (omega arith)

  after_opening : (depth : ℕ) (text : List ℕ) → Nests depth text → (count n : ℕ) → (n < length text) ⊎ (length text ≤ n) → open_brackets (count + 1) (take n (text ++ closing ∷ [])) ≤ count + (depth + 1)
  after_opening depth text nests count n (inl short) =
      let front : n ≤ length text = omega arith in
      let bound : open_brackets (count + 1) (take n text) ≤ (count + 1) + depth = nests.within (count + 1) n in
      rw take-append-le (omega arith)
  after_opening depth text nests count n (inr long) =
      let more : n ≡ length text + (n - length text) = omega arith in
      let whole : take n (text ++ closing ∷ []) ≡ text ++ take (n - length text) (closing ∷ [])
      = ap (λ m. take m (text ++ closing ∷ [])) more ∙ take-append-add text (closing ∷ []) (n - length text) in
      let same : open_brackets (count + 1) (take n (text ++ closing ∷ [])) ≡ open_brackets (count + 1) (take (n - length text) (closing ∷ []))
      = ap (open_brackets (count + 1)) whole ∙ open_joined (count + 1) text (take (n - length text) (closing ∷ [])) ∙ ap (λ m. open_brackets m (take (n - length text) (closing ∷ []))) (nests.closes (count + 1)) in
      rw same (after_text depth count (n - length text))

  within_brackets : (depth : ℕ) (text : List ℕ) → Nests depth text → (count n : ℕ) → open_brackets count (take n (opening ∷ text ++ closing ∷ [])) ≤ count + (depth + 1)
  within_brackets depth text nests count zero = omega arith
  within_brackets depth text nests count (suc n) = rw (opens count) (after_opening depth text nests count n (cases_lt n (length text)))

  pub in_brackets : (depth : ℕ) (text : List ℕ) → Nests depth text → Nests (depth + 1) (opening ∷ text ++ closing ∷ [])
  in_brackets depth text nests = record {
    within = within_brackets depth text nests;
    closes = λ count. ap (λ m. open_brackets m (text ++ closing ∷ [])) (opens count) ∙ open_joined (count + 1) text (closing ∷ []) ∙ ap (λ m. open_brackets m (closing ∷ [])) (nests.closes (count + 1)) ∙ shuts count;
  }

pub in_parentheses : (depth : ℕ) (text : List ℕ) → Nests depth text → Nests (depth + 1) (codes "(" ++ text ++ codes ")")
in_parentheses depth text nests = in_brackets 40 41 (λ count. refl) (λ count. omega arith) depth text nests

pub in_square : (depth : ℕ) (text : List ℕ) → Nests depth text → Nests (depth + 1) (codes "[" ++ text ++ codes "]")
in_square depth text nests = in_brackets 91 93 (λ count. refl) (λ count. omega arith) depth text nests

pub in_braces : (depth : ℕ) (text : List ℕ) → Nests depth text → Nests (depth + 1) (codes "{" ++ text ++ codes "}")
in_braces depth text nests = in_brackets 123 125 (λ count. refl) (λ count. omega arith) depth text nests
