-- Fronts of a text, and the longest piece by its length.
use Rattle.std.proofs.Common.{◌≡◌, ℕ, zero, suc, ◌+◌, ◌≤◌, ◌<◌, Bool, List, [], ◌∷◌, ◌++◌, length, take, drop, Option, Some, None, cond, refl, sym, ap, ◌∙◌, arith, length-append}
use Rattle.std.specs.List.{prefix_len, list_all}
use Rattle.std.proofs.lemmas.List.Sums.{prefix_len-le-length}
use Rattle.ivory_lexer.specs.Table.{piece_of}
use Rattle.ivory_lexer.specs.declared.piece.Piece.{Piece}
use Rattle.ivory_lexer.proofs.Runs.{run_passes, run_most}

-- the longest piece at the front of a text, by its length
pub record Best (text : List ℕ) (n : ℕ) (p : Piece) : Type 0 where
  pub some : 0 < n
  pub within : n ≤ length text
  pub is : piece_of (take n text) ≡ Some p
  pub most : (f r : List ℕ) → text ≡ f ++ r → n < length f → piece_of f ≡ None

abbrev pub NoPiece : List ℕ → Type 0
NoPiece text = (f r : List ℕ) → text ≡ f ++ r → piece_of f ≡ None

-- what was found is the longest piece
abbrev pub Found : List ℕ → Option (Piece × ℕ) → Type 0
Found text None = NoPiece text
Found text (Some w) = Best text w.1 w.0

-- a front of a text that reaches past its first bytes
pub past : (first bs f r : List ℕ) → first ++ bs ≡ f ++ r → length first ≤ length f → (cs : List ℕ) × (f ≡ first ++ cs) × (bs ≡ cs ++ r)
past [] bs f r e h = (f, refl, e)
past (b ∷ first) bs [] r e h = absurd (omega arith)
past (b ∷ first) bs (x ∷ f) r e h =
    let same : b ≡ x = cc in
    let back : first ++ bs ≡ f ++ r = cc in
    let w = past first bs f r back (omega arith) in
    (w.0, ap (λ y. y ∷ f) (sym same) ∙ ap (λ ys. b ∷ ys) w.1, w.2)

pub take_past : (first bs : List ℕ) (n : ℕ) → take (n + length first) (first ++ bs) ≡ first ++ take n bs
take_past [] bs n = let e : n + 0 ≡ n = omega arith in ap (λ k. take k bs) e
take_past (b ∷ first) bs n =
    let e : n + suc (length first) ≡ suc (n + length first) = omega arith in
    ap (λ k. take k (b ∷ (first ++ bs))) e ∙ ap (λ ys. b ∷ ys) (take_past first bs n)

pub parts : (n : ℕ) (xs : List ℕ) → xs ≡ take n xs ++ drop n xs
parts zero xs = refl
parts (suc n) [] = refl
parts (suc n) (x ∷ xs) = ap (λ ys. x ∷ ys) (parts n xs)

pub taken_length : (n : ℕ) (xs : List ℕ) → n ≤ length xs → length (take n xs) ≡ n
taken_length zero xs h = refl
taken_length (suc n) [] h = absurd (omega arith)
taken_length (suc n) (x ∷ xs) h = ap suc (taken_length n xs (omega arith))

-- first bytes, and then as many as pass a test
pub run_best : (p : ℕ → Bool) (x : List ℕ → Piece) (first bs : List ℕ) → 0 < length first
    → ((cs r : List ℕ) → bs ≡ cs ++ r → prefix_len p bs ≤ length cs → piece_of (first ++ cs) ≡ cond (list_all p cs) (Some (x cs)) None)
    → Best (first ++ bs) (prefix_len p bs + length first) (x (take (prefix_len p bs) bs))
run_best p x first bs some each =
    let n = prefix_len p bs in
    let fits : n ≤ length bs = prefix_len-le-length p bs in
    record {
      some = omega arith;
      within = omega (arith, fits, length-append first bs);
      is = ap piece_of (take_past first bs n) ∙ each (take n bs) (drop n bs) (parts n bs) (omega (arith, taken_length n bs fits)) ∙ ap (λ t. cond t (Some (x (take n bs))) None) (run_passes p bs);
      most = λ f r e long.
          let w = past first bs f r e (omega arith) in
          let few : n < length w.0 = omega (arith, ap length w.1, length-append first w.0) in
          ap piece_of w.1 ∙ each w.0 r w.2 (omega (arith, few)) ∙ ap (λ t. cond t (Some (x w.0)) None) (run_most p bs w.0 r w.2 few);
    }
