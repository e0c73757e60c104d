-- Names of different things are different: numerals are read back to their numbers, and prefixes differ before their last letter.
use Rattle.std.proofs.Common.{◌≡◌, ◌≢◌, ℕ, zero, suc, ◌+◌, ◌-◌, ◌*◌, ◌/◌, ◌%◌, ◌<◌, ◌≤◌, Bool, true, false, List, [], ◌∷◌, ◌++◌, refl, sym, ◌∙◌, ap, subst, arith}
use Rattle.std.specs.Prelude.{nat_lt, if◌then◌else◌, codes}
use Rattle.std.proofs.Math.Nat.{mod-add-div'}
use Rattle.std.proofs.lemmas.Bool.{ltb-false}
use Rattle.c_ast.specs.Syntax.{Name}
use Rattle.lower_types.specs.Names.{last_digits, numeral, item_name, array_name, local_name}

-- ---- numerals

-- the number of digits that follow those of `before`
abbrev read_on : (before : ℕ) → List ℕ → ℕ
read_on before [] = before
read_on before (d ∷ ds) = read_on (before * 10 + (d - 48)) ds

one_digit : (n : ℕ) (more : List ℕ) → read_on 0 ((48 + n) ∷ more) ≡ read_on n more
one_digit n more = ap (λ m. read_on m more) (let e : 0 * 10 + (48 + n - 48) ≡ n = omega arith in e)

split_digit : (n : ℕ) (more : List ℕ) → read_on (n / 10) ((48 + n % 10) ∷ more) ≡ read_on n more
split_digit n more =
    let whole : n % 10 + n / 10 * 10 ≡ n = mod-add-div' n 10 in
    ap (λ m. read_on m more) (let e : n / 10 * 10 + (48 + n % 10 - 48) ≡ n = omega (arith, whole) in e)

step_read : (k n : ℕ) (more : List ℕ) → ((m : ℕ) (ds : List ℕ) → m < k → read_on 0 (last_digits k m ds) ≡ read_on m ds) → n < suc k → (b : Bool) → nat_lt n 10 ≡ b
    → read_on 0 (if b then (48 + n) ∷ more else last_digits k (n / 10) ((48 + n % 10) ∷ more)) ≡ read_on n more
step_read k n more fewer lt true e = one_digit n more
step_read k n more fewer lt false e =
    let whole : n % 10 + n / 10 * 10 ≡ n = mod-add-div' n 10 in
    let many : 10 ≤ n = ltb-false n 10 e in
    fewer (n / 10) ((48 + n % 10) ∷ more) (omega (arith, whole, many, lt)) ∙ split_digit n more

digits_read : (k n : ℕ) (more : List ℕ) → n < k → read_on 0 (last_digits k n more) ≡ read_on n more
digits_read zero n more lt = absurd (omega (arith, lt))
digits_read (suc k) n more lt = step_read k n more (λ m ds less. digits_read k m ds less) lt (nat_lt n 10) refl

pub numeral_read : (n : ℕ) → read_on 0 (numeral n) ≡ n
numeral_read n = digits_read (suc n) n [] (omega arith)

pub numerals_differ : (m n : ℕ) → numeral m ≡ numeral n → m ≡ n
numerals_differ m n e = sym (numeral_read m) ∙ ap (read_on 0) e ∙ numeral_read n

-- ---- prefixes

pub same_tail : {A : Type 0} (x y : A) (xs ys : List A) → x ∷ xs ≡ y ∷ ys → xs ≡ ys
same_tail x y xs ys e = cc

-- no two locals, and no two array types, are alike
pub locals_differ : (j k : ℕ) → local_name j ≡ local_name k → j ≡ k
locals_differ j k e =
    numerals_differ j k (same_tail 95 95 (numeral j) (numeral k) (same_tail 116 116 _ _ (same_tail 118 118 _ _ (same_tail 105 105 _ _ e))))

pub arrays_differ : (j k : ℕ) → array_name j ≡ array_name k → j ≡ k
arrays_differ j k e =
    numerals_differ j k (same_tail 95 95 (numeral j) (numeral k) (same_tail 97 97 _ _ (same_tail 118 118 _ _ (same_tail 105 105 _ _ e))))

-- nor is an item named as a local is
abbrev head_of : ℕ → List ℕ → ℕ
head_of default [] = default
head_of default (x ∷ xs) = x

pub item_is_no_local : (name : Name) (j : ℕ) → item_name name ≢ local_name j
item_is_no_local name j e =
    let third : (95 ∷ name) ≡ (116 ∷ 95 ∷ numeral j) = same_tail 118 118 _ _ (same_tail 105 105 _ _ e) in
    let first : head_of 0 (95 ∷ name) ≡ head_of 0 (116 ∷ 95 ∷ numeral j) = ap (head_of 0) third in
    absurd (omega (arith, first))

pub item_is_no_array : (name : Name) (j : ℕ) → item_name name ≢ array_name j
item_is_no_array name j e =
    let third : (95 ∷ name) ≡ (97 ∷ 95 ∷ numeral j) = same_tail 118 118 _ _ (same_tail 105 105 _ _ e) in
    let first : head_of 0 (95 ∷ name) ≡ head_of 0 (97 ∷ 95 ∷ numeral j) = ap (head_of 0) third in
    absurd (omega (arith, first))

pub items_differ : (first second : Name) → item_name first ≡ item_name second → first ≡ second
items_differ first second e = same_tail 95 95 first second (same_tail 118 118 _ _ (same_tail 105 105 _ _ e))
