-- The text of a unit is spelled by the grammar as that unit, so that no text is that of two units.
use Rattle.std.proofs.Common.{◌≡◌, ℕ, Bool, true, false, cond, List, [], ◌∷◌, refl, sym, ap, ◌∙◌, subst, if◌then◌else◌}
use Rattle.std.specs.Prelude.{nat_eq}
use Rattle.reading.specs.Row.{Row, tokens}
use Rattle.reading.specs.Exact.{Spelled}
use Rattle.c_ast.specs.Syntax.{TranslationUnit}
use Rattle.c_text.specs.Spelling.{unit_text}
use Rattle.c_text.specs.Subset.{InSubset}
use Rattle.c_text.specs.ReadsBack as text
use Rattle.grammars.specs.Neighbours.{SideBySide}
use Rattle.grammars.specs.Spelled.{SpellsWith, Spells}
use Rattle.grammars.proofs.Begins.{first_in}
use Rattle.grammars.proofs.Levels.{to_symbol}
use Rattle.c_grammar.specs.Pieces.{Piece, joined, pieces}
use Rattle.c_grammar.specs.Kinds.{lexicon, is_whole, kind_of, other}
use Rattle.c_grammar.specs.Symbols.{a_unit}
use Rattle.c_grammar.specs.UnitRules.{fixed_lines, unit_rule}
use Rattle.c_grammar.specs.Subset.{grammar, Text}
use Rattle.c_grammar.proofs.Checked.{unique}
use Rattle.c_grammar.proofs.Cut.{Apart, cut_from}
use Rattle.c_grammar.proofs.Parted.{rows_are_apart}
use Rattle.c_grammar.proofs.WrittenUnits.{unit_written}

-- a piece with the kind of `#` is whole
whole : (b : Bool) (k : ℕ) → cond (nat_eq 291 (if b then k else other)) true false ≡ true → b ≡ true
whole true k e = refl
whole false k e = cc

unit_cut : (u : TranslationUnit) (row : Row Piece) → SpellsWith lexicon 0 (Spells lexicon grammar 1) unit_rule u row → SideBySide Apart row → pieces (joined (tokens row)) ≡ tokens row
unfolding fixed_lines
unit_cut u [] s apart = refl
unit_cut u (m ∷ row) s apart = cut_from m row (whole (is_whole m.token) (kind_of 0 m.token) (first_in lexicon 0 (Spells lexicon grammar 1) unit_rule u m row s)) apart

pub text_spelled : (u : TranslationUnit) → InSubset u → Spelled Text u (pieces (unit_text u))
text_spelled u is =
    let w = unit_written u is in
    let s = to_symbol lexicon grammar 0 a_unit u w.row w.spelled in
    (w.row, s, sym (unit_cut u w.row w.spelled (rows_are_apart 0 a_unit u w.row s)) ∙ ap pieces w.makes)

pub texts_apart : (u v : TranslationUnit) (bytes : List ℕ) → text.Spells u bytes → text.Spells v bytes → u ≡ v
texts_apart u v bytes s t =
    unique u v (pieces bytes) (subst (λ b. Spelled Text u (pieces b)) (sym s.is) (text_spelled u s.in_subset)) (subst (λ b. Spelled Text v (pieces b)) (sym t.is) (text_spelled v t.in_subset))
