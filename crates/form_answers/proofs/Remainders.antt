-- Remainders of a division by a length: the one toward zero, as C has it, and the one from 0 on.
use Rattle.std.proofs.Common.{◌≡◌, ℕ, suc, ◌-◌, ◌%◌, ◌<◌, ◌≤◌, ◌⊎◌, inl, inr, ℤ, pos, negsuc, ◌+ℤ◌, ◌-ℤ◌, ◌*ℤ◌, neg_ℤ, Bool, true, false, IsTrue, Result, Ok, Err, arith, sym, subst, ap, ◌∙◌}
use Rattle.std.specs.Prelude.{if◌then◌else◌, int_lt, int_div, int_rem, unsigned_abs}
use Rattle.std.specs.Ordering.{int_eq}
use Rattle.std.proofs.lemmas.Int.{ints, rem_below}
use Rattle.std.proofs.lemmas.Nat.{mod_below}
use Rattle.std.proofs.lemmas.Bool.{cases_lt}
use Rattle.std.proofs.lemmas.Bool.Decides.{Decides-int_eq}
use Rattle.std.proofs.Math.Nat.{mod-eq_of_lt, mod-le, suc-mod, mod_self}
use Rattle.iv_words.specs.Kinds.{in_range_of}
use Rattle.run_records.specs.declared.Reason.{Reason}
use Rattle.run_records.specs.declared.Reason.TheVariants.{DivZero}
use Rattle.int_ops.proofs.Division.{left_over}
use Rattle.index_types.specs.Indices.{wrapped}
use Rattle.c_meaning.specs.Values.{on_ok}
use Rattle.c_meaning.specs.Operators.{fitted, quotient, remainder}
use Rattle.overflow_checks.proofs.Alike.{fitted_held}
use Rattle.overflow_checks.proofs.SignedNumbers.{natural_below, negative_below, natural_held, opposite_held, quotient_test}
use Rattle.form_answers.proofs.Naturals.{not_negative}

not_zero : (n : ℕ) → 1 ≤ n → int_eq (pos n) (pos 0) ≡ false
not_zero n some = let d = Decides-int_eq (pos n) (pos 0) in grind arith

-- the remainder of C, where the quotient fits
pub remainder_is : (bits : ℕ) (signed : Bool) (x : ℤ) (n : ℕ) → 1 ≤ n → IsTrue (in_range_of bits signed (int_div x (pos n))) → remainder bits signed x (pos n) ≡ Ok (int_rem x (pos n))
remainder_is bits signed x n some h =
    let there : quotient bits signed x (pos n) ≡ Ok (int_div x (pos n)) =
    ap (λ test. let q : Result ℤ Reason = if test then Err DivZero else fitted bits signed (int_div x (pos n)) in q) (not_zero n some) ∙ fitted_held bits signed (int_div x (pos n)) h in
    ap (λ r. let q : Result ℤ Reason = on_ok r (λ i. Ok (x -ℤ i *ℤ pos n)) in q) there ∙ ap (λ v. let q : Result ℤ Reason = Ok v in q) (sym (left_over x (pos n)))

-- ---- of a signed type

pub signed_quotient_held : (bits : ℕ) (x : ℤ) (n : ℕ) → 1 ≤ n → IsTrue (in_range_of bits true x) → IsTrue (in_range_of bits true (int_div x (pos n)))
signed_quotient_held bits x n some h = sym (quotient_test bits x (pos n) (not_zero n some) h)

-- the remainder lies between 0 and the dividend
pub rest_held : (bits : ℕ) (x : ℤ) (n : ℕ) → IsTrue (in_range_of bits true x) → IsTrue (in_range_of bits true (int_rem x (pos n)))
rest_held bits (pos a) n h = let l = natural_below bits a h in let le = mod-le a n in natural_held bits (a % n) (omega arith)
rest_held bits (negsuc a) n h = let l = negative_below bits a h in let le = mod-le (suc a) n in opposite_held bits (suc a % n) (omega arith)

above_zero : (bits : ℕ) (r : ℤ) (n : ℕ) → IsTrue (in_range_of bits true (pos n)) → int_lt r (pos 0) ≡ true → unsigned_abs r < n → IsTrue (in_range_of bits true (r +ℤ pos n))
above_zero bits (pos a) n h less l = let none = not_negative a in let no : ⊥ = cc in absurd no
above_zero bits (negsuc j) n h less l =
    let e : negsuc j +ℤ pos n ≡ pos (n - suc j) = omega (arith, ints) in
    let k = natural_below bits n h in
    subst (λ v. IsTrue (in_range_of bits true v)) (sym e) (natural_held bits (n - suc j) (omega arith))

-- a negative remainder and the length lie between 0 and the length
pub moved_held : (bits : ℕ) (x : ℤ) (n : ℕ) → 1 ≤ n → IsTrue (in_range_of bits true (pos n)) → int_lt (int_rem x (pos n)) (pos 0) ≡ true → IsTrue (in_range_of bits true (int_rem x (pos n) +ℤ pos n))
moved_held bits x n some h less = above_zero bits (int_rem x (pos n)) n h less (rem_below x (pos n) some)

-- ---- from 0 on

-- the remainder, moved by the length where it is negative
abbrev pub moved : ℤ → ℕ → ℤ
moved r n = if int_lt r (pos 0) then r +ℤ pos n else r

moved_by : (n k : ℕ) → k < n → moved (neg_ℤ (pos (suc k))) n ≡ pos (n - 1 - k)
moved_by n k l = omega (arith, ints)

negative_wraps : (a n : ℕ) → 1 ≤ n → (suc (a % n) < n) ⊎ (n ≤ suc (a % n)) → moved (neg_ℤ (pos (suc a % n))) n ≡ pos (n - 1 - a % n)
negative_wraps a n some (inl l) =
    let e : suc a % n ≡ suc (a % n) = suc-mod a n ∙ mod-eq_of_lt l in
    ap (λ k. moved (neg_ℤ (pos k)) n) e ∙ moved_by n (a % n) (omega arith)
negative_wraps a n some (inr le) =
    let l = mod_below a n some in
    let last : suc (a % n) ≡ n = omega arith in
    let e : suc a % n ≡ 0 = suc-mod a n ∙ ap (λ k. k % n) last ∙ mod_self n in
    let none : 0 ≡ n - 1 - a % n = omega arith in
    ap (λ k. moved (neg_ℤ (pos k)) n) e ∙ ap pos none

pub rest_wraps : (x : ℤ) (n : ℕ) → 1 ≤ n → moved (int_rem x (pos n)) n ≡ pos (wrapped n x)
rest_wraps (pos a) n some = ap (λ test. let q : ℤ = if test then pos (a % n) +ℤ pos n else pos (a % n) in q) (not_negative (a % n))
rest_wraps (negsuc a) n some = negative_wraps a n some (cases_lt (suc (a % n)) n)
