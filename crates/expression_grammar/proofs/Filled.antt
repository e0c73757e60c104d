-- Nothing but a list is spelled by no tokens.
use Rattle.std.proofs.Common.{◌≡◌, ℕ, [], ◌++◌, sym, ◌∙◌, Option}
use Rattle.ivory_lexer.specs.declared.Token.{Token}
use Rattle.ivory_lexer.specs.declared.Mark.TheVariants as mark
use Rattle.ivory_lexer.specs.declared.Key.TheVariants as key
use Rattle.reading.specs.Row.{Row}
use Rattle.reading.specs.Language.{Terminal}
use Rattle.reading.proofs.Rows.{append_nil, front_nil}
use Rattle.reading.proofs.Starts.{terminal_nonempty}
use Rattle.expression_grammar.specs.Tokens.{symbol, keyword, word_of, number_of, truth_of, int_of}
use Rattle.expression_grammar.specs.Operators.{operator, plain_prefix}
use Rattle.expression_grammar.specs.Grammar.{Symbol, Tree, Spells}
use Rattle.expression_grammar.specs.Grammar as spelled

abbrev pub MayBeEmpty : Symbol → Type 0
MayBeEmpty (spelled.many s) = Unit {0}
MayBeEmpty _ = ⊥

not_alone : {A : Type 0} {d : ℕ} (select : Token → Option A) {x : A} (f : Row Token) → Terminal d select x f → f ≡ [] → ⊥
not_alone select f t e = terminal_nonempty select f t [] (sym e ∙ sym (append_nil f))

pub filled : (s : Symbol) (v : Tree s) (d : ℕ) (row : Row Token) → Spells s v d row → row ≡ [] → MayBeEmpty s
filled s v d row spelled.none e = tt
filled s v d row (spelled.more r others) e = tt
filled s v d row (spelled.plain {x} {f} r) e = filled (spelled.chain spelled.operator_levels) x d f r e
filled s v d row (spelled.conditional {x} {f} {g} {h} {i} {j} r q a c b) e = filled (spelled.chain spelled.operator_levels) x d f r (front_nil f (g ++ (h ++ (i ++ j))) (sym e))
filled s v d row (spelled.lone {x} {f} r) e = filled spelled.operand x d f r e
filled s v d row (spelled.linked {n} {x} {f} {g} r links) e = filled (spelled.chain n) x d f r (front_nil f g (sym e))
filled s v d row (spelled.link {n} {f} {g} t r) e = terminal_nonempty (operator n) f t g (sym e)
filled s v d row (spelled.unprefixed {x} {f} r) e = filled spelled.postfix x d f r e
filled s v d row (spelled.negated {f} {g} t r isnt) e = terminal_nonempty (symbol mark.Minus) f t g (sym e)
filled s v d row (spelled.prefixed {f} {g} t r) e = terminal_nonempty plain_prefix f t g (sym e)
filled s v d row (spelled.stepped {x} {f} {g} r steps) e = filled spelled.primary x d f r (front_nil f g (sym e))
filled s v d row (spelled.field {f} {g} t u) e = terminal_nonempty (symbol mark.Dot) f t g (sym e)
filled s v d row (spelled.element {f} {g} {h} t r u) e = terminal_nonempty (symbol mark.OpenBracket) f t (g ++ h) (sym e)
filled s v d row (spelled.number {f} t) e = not_alone number_of f t e
filled s v d row (spelled.negative {f} {g} t u) e = terminal_nonempty (symbol mark.Minus) f t g (sym e)
filled s v d row (spelled.truth {f} t) e = not_alone truth_of f t e
filled s v d row (spelled.outcome {f} t) e = not_alone (keyword key.KwResult) f t e
filled s v d row (spelled.variable {f} t) e = not_alone word_of f t e
filled s v d row (spelled.parentheses {f} {g} {h} t r u) e = terminal_nonempty (symbol mark.OpenParen) f t (g ++ h) (sym e)
filled s v d row (spelled.cast {e = a} {f} {g} {h} t o r u) e = terminal_nonempty int_of a t (f ++ (g ++ h)) (sym e)
filled s v d row (spelled.to_index {e = a} {f} {g} {h} {i} {j} t o n c r u) e = terminal_nonempty (keyword key.KwToix) a t (f ++ (g ++ (h ++ (i ++ j)))) (sym e)
filled s v d row (spelled.wrap_index {e = a} {f} {g} {h} {i} {j} t o n c r u) e = terminal_nonempty (keyword key.KwWrapix) a t (f ++ (g ++ (h ++ (i ++ j)))) (sym e)
filled s v d row (spelled.make_bits {e = a} {f} {g} {h} {i} {j} t o n c r u) e = terminal_nonempty (keyword key.KwBits) a t (f ++ (g ++ (h ++ (i ++ j)))) (sym e)
filled s v d row (spelled.raw {e = a} {f} {g} {h} t o r u) e = terminal_nonempty (keyword key.KwRaw) a t (f ++ (g ++ h)) (sym e)
filled s v d row (spelled.set_field {e = a} {f} {g} {h} {i} {j} {k} {l} t o r c n c2 w u) e = terminal_nonempty (keyword key.KwSet) a t (f ++ (g ++ (h ++ (i ++ (j ++ (k ++ l)))))) (sym e)
