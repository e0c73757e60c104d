-- A field of bit data that is a truth has one bit.
use Rattle.std.proofs.Common.{◌≡◌, ℕ, Bool, true, false, ◌||◌, not, List, [], ◌∷◌, map, IsTrue, refl, ap, sym, ◌∙◌, arith}
use Rattle.std.specs.Prelude.{◌&&◌, nat_eq, All}
use Rattle.std.specs.List.{list_all}
use Rattle.std.proofs.lemmas.List.Elements.{All-head, All-tail}
use Rattle.std.proofs.lemmas.Bool.Decides.{nat_tests}
use Rattle.ivory_tree.specs.Formed.{FormedBitField}
use Rattle.ivory_tree.specs.declared.items.BitField.{BitField}
use Rattle.bit_data.specs.Layouts.{has_its_bit}
use Rattle.typing_rules.specs.Items.{wish_of}

one_bit : (b : Bool) (w : ℕ) → (IsTrue b → w ≡ 1) → IsTrue (not b || nat_eq w 1)
one_bit false w h = refl
one_bit true w h = ap (λ (n : ℕ). nat_eq n 1) (h refl)

also : (a b : Bool) → IsTrue a → IsTrue b → IsTrue (a && b)
also true b h k = k
also false b h k = absurd (cc)

pub truths_have_a_bit : (fs : List BitField) → All FormedBitField fs → IsTrue (list_all has_its_bit (map wish_of fs))
truths_have_a_bit [] h = refl
truths_have_a_bit (f ∷ fs) h =
    also (has_its_bit (wish_of f)) (list_all has_its_bit (map wish_of fs)) (one_bit f.truth f.width (All-head FormedBitField f fs h)) (truths_have_a_bit fs (All-tail FormedBitField f fs h))
