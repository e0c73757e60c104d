-- One more name in a table of numbers.
use Rattle.std.proofs.Common.{◌≡◌, ℕ, ◌+◌, cond, List, [], ◌∷◌, ◌++◌, length, sym, ap, ◌∙◌, arith}
use Rattle.std.specs.Prelude.{Some, None}
use Rattle.std.specs.List.{position_from}
use Rattle.std.specs.Option.{option_or}
use Rattle.indexmap.specs.IndexMap.{IndexMap, get_by}
use Rattle.iv_words.specs.Words.{same_word}
use Rattle.name_lists.specs.Numbers.{NumbersOf}
use Rattle.name_lists.proofs.Positions.{position_more}

pub numbers_more : {S : Type 0} (numbers after : IndexMap (List ℕ) ℕ S) (names now : List (List ℕ)) (name : List ℕ) (n : ℕ) → now ≡ names ++ name ∷ [] → n ≡ length names
    → ((q : List ℕ) → get_by (λ k. same_word q k) after ≡ option_or (get_by (λ k. same_word q k) numbers) (cond (same_word name q) (Some n) None))
    → NumbersOf numbers names → NumbersOf after now
numbers_more numbers after names now name n is last puts before q =
    let e : n ≡ 0 + length names = omega (arith, last) in
    puts q ∙ ap (λ o. option_or o (cond (same_word name q) (Some n) None)) (before q)
    ∙ sym (position_more (λ x. same_word x q) 0 n names name e) ∙ sym (ap (position_from (λ x. same_word x q) 0) is)
