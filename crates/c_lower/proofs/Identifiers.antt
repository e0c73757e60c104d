-- The C names of a module are identifiers of file scope, and different names stay different.
use Rattle.std.proofs.Common.{◌≡◌, ◌≢◌, ℕ, ◌<◌, true, false, List, [], ◌∷◌, length, refl, sym, ◌∙◌, ap, subst, arith}
use Rattle.std.specs.Prelude.{IsTrue, ◌&&◌, ◌||◌}
use Rattle.std.specs.List.{list_all}
use Rattle.iv_words.specs.Words.{same_word}
use Rattle.ivory_lexer.specs.Table.{is_name, begins_name, is_in_name}
use Rattle.ivory_lexer.specs.Tokens.{IsName}
use Rattle.c_ast.specs.Names.{prefixed, outer_name, stop_name}
use Rattle.c_text.specs.Identifiers.{is_digit, is_identifier_byte, IsIdentifier}
use Rattle.c_lower.proofs.Words.{same_self, not_stop}
use Rattle.std.proofs.lemmas.Bool.{and_parts}

pub word_spelled : (word : List ℕ) → IsTrue (is_name word) → list_all is_identifier_byte word ≡ true
word_spelled [] h = refl
word_spelled (b ∷ bs) h =
    let p = and_parts (begins_name b) (list_all is_in_name bs) h in
    ap (λ l. (l || is_digit b) && list_all is_identifier_byte bs) p.0 ∙ p.1

pub word_some : (word : List ℕ) → IsTrue (is_name word) → 0 < length word
word_some [] h = let no : ⊥ = cc in absurd no
word_some (b ∷ bs) h = omega arith

pub prefixed_identifier : (name : List ℕ) → IsName name → IsIdentifier (prefixed name)
prefixed_identifier name h = record {
  begins = refl;
  spelled = word_spelled name h.0;
  short = omega (arith, h.1);
  free = refl;
}

pub prefixed_differ : (a b : List ℕ) → a ≢ b → prefixed a ≢ prefixed b
prefixed_differ a b differ e = differ (ap outer_name e)

pub stop_differs : (name : List ℕ) → stop_name ≢ prefixed name
stop_differs name e =
    let same : same_word (prefixed name) stop_name ≡ true = subst (λ z. same_word (prefixed name) z ≡ true) (sym e) (same_self (prefixed name)) in
    let not : same_word (prefixed name) stop_name ≡ false = not_stop name in
    let no : false ≡ true = sym not ∙ same in absurd (cc)
