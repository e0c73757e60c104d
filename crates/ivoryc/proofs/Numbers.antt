-- A number from a value that stands still at the greatest u64.
use Rattle.std.proofs.Common.{◌≡◌, ℕ, ◌-◌, ◌^◌, ◌≤◌, ◌<◌, min, Bool, true, false, ◌&&◌, Some, None, refl, arith}
use Rattle.std.specs.Prelude.{nat_le, if◌then◌else◌}
use Rattle.ivoryc.specs.Commands.{most_steps, few_steps, most_procedures, some_procedures}

few_by : (n : ℕ) (x : Bool) → nat_le n most_steps ≡ x → x ≡ true → few_steps n ≡ Some n
few_by n true is e = rw is refl
few_by n false is e = let no : ⊥ = cc in absurd no

many_by : (n : ℕ) (x : Bool) → nat_le n most_steps ≡ x → x ≡ false → few_steps n ≡ None
many_by n true is e = let no : ⊥ = cc in absurd no
many_by n false is e = rw is refl

pub few_is_whole : (n : ℕ) → min n (2 ^ 64 - 1) ≤ most_steps → few_steps n ≡ Some (min n (2 ^ 64 - 1))
few_is_whole n small =
    let same : min n (2 ^ 64 - 1) ≡ n = grind arith in
    let le : nat_le n most_steps ≡ true = grind arith in
    rw same (few_by n (nat_le n most_steps) refl le)

pub many_is_none : (n : ℕ) → most_steps < min n (2 ^ 64 - 1) → few_steps n ≡ None
many_is_none n large =
    let le : nat_le n most_steps ≡ false = grind arith in
    many_by n (nat_le n most_steps) refl le

some_by : (k : ℕ) (x y : Bool) → nat_le 1 k ≡ x → nat_le k most_procedures ≡ y → some_procedures k ≡ (if x && y then Some k else None)
some_by k x y p q = rw p (rw q refl)

pub some_is_whole : (k : ℕ) → 1 ≤ min k (2 ^ 64 - 1) → min k (2 ^ 64 - 1) ≤ most_procedures → some_procedures k ≡ Some (min k (2 ^ 64 - 1))
some_is_whole k some few =
    let same : min k (2 ^ 64 - 1) ≡ k = grind arith in
    let low : nat_le 1 k ≡ true = grind arith in
    let high : nat_le k most_procedures ≡ true = grind arith in
    rw same (some_by k true true low high)

pub none_is_none : (k : ℕ) → min k (2 ^ 64 - 1) < 1 → some_procedures k ≡ None
none_is_none k none =
    let low : nat_le 1 k ≡ false = grind arith in
    some_by k false (nat_le k most_procedures) low refl

pub more_is_none : (k : ℕ) → most_procedures < min k (2 ^ 64 - 1) → some_procedures k ≡ None
more_is_none k more =
    let low : nat_le 1 k ≡ true = grind arith in
    let high : nat_le k most_procedures ≡ false = grind arith in
    some_by k true false low high
