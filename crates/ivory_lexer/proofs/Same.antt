-- The tests of keywords and symbols tell whether they are equal.
use Rattle.std.proofs.Common.{◌≡◌, true, refl, rules}
use denote.Enum.Bare.{same_true, true_same}
use Rattle.ivory_lexer.specs.declared.key.Key.{Key}
use Rattle.ivory_lexer.specs.declared.mark.Mark.{Mark}
use Rattle.ivory_lexer.specs.contracts.key.Key as keys
use Rattle.ivory_lexer.specs.contracts.mark.Mark as marks
use Rattle.ivory_lexer.specs.Same.{same_key, same_mark}

pub same_key_equal : (a b : Key) → same_key a b ≡ true → a ≡ b
same_key_equal a b e = same_true keys.the_type (search rules) a b e

pub same_key_self : (a : Key) → same_key a a ≡ true
same_key_self a = true_same keys.the_type a a refl

pub same_mark_equal : (a b : Mark) → same_mark a b ≡ true → a ≡ b
same_mark_equal a b e = same_true marks.the_type (search rules) a b e

pub same_mark_self : (a : Mark) → same_mark a a ≡ true
same_mark_self a = true_same marks.the_type a a refl
