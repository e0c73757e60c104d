-- Tests that hold.
use Rattle.std.proofs.Common.{◌≡◌, ℕ, ◌≤◌, ◌<◌, Bool, true, false, ◌&&◌, IsTrue, arith, refl, sym, subst, Result, Ok, Err, OnOk, OnErr}
use Rattle.std.specs.Prelude.{nat_lt, nat_le}
use Rattle.std.proofs.lemmas.Bool.Decides.{nat_tests}

pub both : (a b : Bool) → IsTrue (a && b) → IsTrue a × IsTrue b
both true b h = (refl, h)
both false b h = absurd (cc)

pub also : (a b : Bool) → IsTrue a → IsTrue b → IsTrue (a && b)
also true b h k = k
also false b h k = absurd (cc)

pub is_below : (m n : ℕ) → IsTrue (nat_lt m n) → m < n
is_below m n h = grind (arith, nat_tests)

pub below_is : (m n : ℕ) → m < n → IsTrue (nat_lt m n)
below_is m n h = grind (arith, nat_tests)

pub is_at_most : (m n : ℕ) → IsTrue (nat_le m n) → m ≤ n
is_at_most m n h = grind (arith, nat_tests)

-- what holds of a list as it was and as it is to be, of the list after a call that may have failed
pub after_push : {A E : Type 0} (P : A → Type 0) (r : Result (Unit {0}) E) (old new grown : A) → OnOk r (new ≡ grown) → OnErr r (new ≡ old) → P old → P grown → P new
after_push P (Ok u) old new grown ok err p q = subst P (sym ok) q
after_push P (Err e) old new grown ok err p q = subst P (sym err) p
