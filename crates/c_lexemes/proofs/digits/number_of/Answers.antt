use Rattle.std.proofs.Common.{rules, sym, ap, ◌∙◌, take}
use Rattle.std.specs.List.{list_all}
use Rattle.c_text.specs.Identifiers.{is_digit}
use Rattle.c_lexemes.proofs.Cuts.{run_passes}
use Rattle.c_lexemes.proofs.Numbers.{cut_digits, number_not_plain, number_too_large, number_no_suffix, number_is}
use Rattle.c_lexemes.proofs.digits.number_of.Goals as goal

pub returns-then-not-is_plain : goal.returns-then-not-is_plain
returns-then-not-is_plain c = let w = cut_digits c.args.word.now _ _ _ c.digits_length.ensures.value c.split_at.ensures.front c.split_at.ensures.back in number_not_plain _ _ _ w (search rules)

pub value_of-requires : goal.value_of-requires
value_of-requires c =
    ap (list_all is_digit) (c.split_at.ensures.front ∙ ap (λ n. take n c.args.word.now) c.digits_length.ensures.value) ∙ run_passes is_digit c.args.word.now

pub returns-in_default : goal.returns-in_default
returns-in_default c = let w = cut_digits c.args.word.now _ _ _ c.digits_length.ensures.value c.split_at.ensures.front c.split_at.ensures.back in number_too_large _ _ _ w (sym c.in_default.is ∙ c.value_of.ensures)

pub returns-in-None : goal.returns-in-None
returns-in-None c = let w = cut_digits c.args.word.now _ _ _ c.digits_length.ensures.value c.split_at.ensures.front c.split_at.ensures.back in number_no_suffix _ _ _ w (sym c.in-None.is ∙ c.suffix_of.ensures)

pub returns-in-Some-suffix_of : goal.returns-in-Some-suffix_of
returns-in-Some-suffix_of c = let w = cut_digits c.args.word.now _ _ _ c.digits_length.ensures.value c.split_at.ensures.front c.split_at.ensures.back in number_is _ _ _ _ _ w (search rules) (sym c.in-Some.is ∙ c.value_of.ensures) (sym c.in-Some-suffix_of.is ∙ c.suffix_of.ensures)
