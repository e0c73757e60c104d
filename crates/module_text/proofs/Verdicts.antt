-- Of a text one verdict holds, and no other.
use Rattle.std.proofs.Common.{◌≡◌, ℕ, ◌≤◌, ◌<◌, ◌⊎◌, Bool, true, false, cond, nat_lt, List, length, Option, Some, None, Result, Ok, Err, refl, sym, ◌∙◌, ap, inl, inr, arith, ⊎_elim}
use Rattle.std.proofs.lemmas.Bool.{cases_lt}
use Rattle.ivory_lexer.specs.Limits.{longest_name, source_limit}
use Rattle.ivory_lexer.specs.Texts.{kind_of_name, gives, TokensOf, LexFaultOf, no_piece, refused, later}
use Rattle.ivory_lexer.specs.Table.{look_up}
use Rattle.ivory_lexer.specs.Words.{keywords}
use Rattle.ivory_lexer.specs.declared.piece.Piece.{Piece}
use Rattle.ivory_lexer.specs.declared.piece.Piece.TheVariants as piece
use Rattle.ivory_lexer.specs.declared.TokenKind.{TokenKind}
use Rattle.ivory_lexer.specs.declared.LexFault.TheVariants as lexical
use Rattle.ivory_lexer.specs.declared.Token.{Token}
use Rattle.ivory_lexer.specs.declared.LexFault.{LexFault}
use Rattle.ivory_lexer.proofs.Readings.{exactly_one}
use Rattle.reading.specs.Exact.{Answer, Tree, UnexpectedToken, DeepToken}
use Rattle.module_grammar.specs.Parse.{levels, parse}
use Rattle.module_grammar.proofs.Exactly.{parse_exact}
use Rattle.module_text.specs.declared.fault.Why.TheVariants.{Unexpected, TooDeep}
use Rattle.ivory_tree.specs.declared.Module.{Module}
use Rattle.module_text.specs.Lines.{fault_at, fault_line}
use Rattle.module_text.specs.Verdicts.{Verdict, TooLong, Faulty, Reads, lexical_line, token_start, Judged, too_long, not_cut, unexpected, too_deep, reads, EachTextHasOneVerdict}

-- what the parser's answer says of the text
abbrev pub of_answer : List ℕ → List Token → Answer Module → Verdict
of_answer text ts (Tree tree) = Reads tree
of_answer text ts (UnexpectedToken i) = Faulty (fault_line (fault_at text (token_start text ts i) Unexpected))
of_answer text ts (DeepToken i) = Faulty (fault_line (fault_at text (token_start text ts i) TooDeep))

-- the three grounds of a verdict
abbrev Long : List ℕ → Verdict → Type 0
Long text v = (source_limit < length text) × (v ≡ TooLong)

abbrev Uncut : List ℕ → Verdict → Type 0
Uncut text v = (length text ≤ source_limit) × (why : LexFault) × (line : List ℕ) × LexFaultOf 0 text why × (lexical_line text why ≡ Some line) × (v ≡ Faulty line)

abbrev Parsed : List ℕ → Verdict → Type 0
Parsed text v = (length text ≤ source_limit) × (ts : List Token) × TokensOf 0 text ts × (v ≡ of_answer text ts (parse levels ts))

ground : (text : List ℕ) (v : Verdict) → Judged text v → Long text v ⊎ (Uncut text v ⊎ Parsed text v)
ground text v (too_long long) = inl (long, refl)
ground text v (not_cut {why} {line} short fault is) = inr (inl (short, why, line, fault, is, refl))
ground text v (unexpected {ts} {i} short cut at none) = inr (inr (short, ts, cut, sym (ap (of_answer text ts) ((parse_exact levels).only_unexpected ts i at none))))
ground text v (too_deep {ts} {i} short cut at) = inr (inr (short, ts, cut, sym (ap (of_answer text ts) ((parse_exact levels).only_deep ts i at))))
ground text v (reads {ts} {tree} short cut spelled) = inr (inr (short, ts, cut, sym (ap (of_answer text ts) ((parse_exact levels).only ts tree spelled))))

one_ground : (text : List ℕ) (v w : Verdict) → Long text v ⊎ (Uncut text v ⊎ Parsed text v) → Long text w ⊎ (Uncut text w ⊎ Parsed text w) → v ≡ w
one_ground text v w (inl (long, is)) (inl (longer, is2)) = is ∙ sym is2
one_ground text v w (inl (long, is)) (inr (inl (short, a, b, d, e, f))) = absurd (omega arith)
one_ground text v w (inl (long, is)) (inr (inr (short, a, b, d))) = absurd (omega arith)
one_ground text v w (inr (inl (short, a, b, d, e, f))) (inl (long, is)) = absurd (omega arith)
one_ground text v w (inr (inr (short, a, b, d))) (inl (long, is)) = absurd (omega arith)
one_ground text v w (inr (inl (short, why, line, fault, says, is))) (inr (inl (short2, why2, line2, fault2, says2, is2))) =
    let same : why ≡ why2 = (exactly_one text).same_fault why why2 fault fault2 in
    let lines : Some line ≡ Some line2 = sym says ∙ ap (lexical_line text) same ∙ says2 in
    let one : line ≡ line2 = cc in
    is ∙ ap Faulty one ∙ sym is2
one_ground text v w (inr (inl (short, why, line, fault, says, is))) (inr (inr (short2, ts, cut, is2))) = absurd ((exactly_one text).not_both ts why cut fault)
one_ground text v w (inr (inr (short, ts, cut, is))) (inr (inl (short2, why, line, fault, says, is2))) = absurd ((exactly_one text).not_both ts why cut fault)
one_ground text v w (inr (inr (short, ts, cut, is))) (inr (inr (short2, us, cut2, is2))) =
    let same : ts ≡ us = (exactly_one text).same_tokens ts us cut cut2 in
    is ∙ ap (λ xs. of_answer text xs (parse levels xs)) same ∙ sym is2

pub judged_once : (text : List ℕ) (v w : Verdict) → Judged text v → Judged text w → v ≡ w
judged_once text v w j k = one_ground text v w (ground text v j) (ground text w k)

-- ---- and there is one

name_without_memory : (at : ℕ) (k : TokenKind) (long : Bool) → cond {A = Result (Option TokenKind) LexFault} long (Err (lexical.LongName at)) (Ok (Some k)) ≡ Err lexical.Memory → ⊥
name_without_memory at k true e = cc
name_without_memory at k false e = cc

piece_without_memory : (at : ℕ) (front : List ℕ) (p : Piece) (why : LexFault) → gives at front p ≡ Err why → why ≡ lexical.Memory → ⊥
piece_without_memory at front piece.Dropped why e m = cc
piece_without_memory at front piece.OpenComment why e m = cc
piece_without_memory at front piece.Name why e m = name_without_memory at (kind_of_name (look_up keywords front) front) (nat_lt longest_name (length front)) (e ∙ ap Err m)
piece_without_memory at front (piece.Number (Some value)) why e m = cc
piece_without_memory at front (piece.Number None) why e m = cc
piece_without_memory at front (piece.Mark mark) why e m = cc

-- want of memory is no fault of a text
fault_without_memory : {at : ℕ} {text : List ℕ} {why : LexFault} → LexFaultOf at text why → why ≡ lexical.Memory → ⊥
fault_without_memory (no_piece {at} {text} some none) m = cc
fault_without_memory (refused {at} front rest {p} {why} l g) m = piece_without_memory at front p why g m
fault_without_memory (later {at} front rest {p} {k} {why} l g f) m = fault_without_memory f m

abbrev SomeVerdict : List ℕ → Type 0
SomeVerdict text = (v : Verdict) × Judged text v

some_uncut : (text : List ℕ) → length text ≤ source_limit → (why : LexFault) → LexFaultOf 0 text why → (why ≡ lexical.Memory → ⊥) → SomeVerdict text
some_uncut text short (lexical.BadByte at) fault known = (_, not_cut short fault refl)
some_uncut text short (lexical.LongName at) fault known = (_, not_cut short fault refl)
some_uncut text short (lexical.BigLiteral at) fault known = (_, not_cut short fault refl)
some_uncut text short (lexical.OpenComment at) fault known = (_, not_cut short fault refl)
some_uncut text short lexical.Memory fault known = absurd (known refl)

some_parsed : (text : List ℕ) → length text ≤ source_limit → (ts : List Token) → TokensOf 0 text ts → (a : Answer Module) → parse levels ts ≡ a → SomeVerdict text
some_parsed text short ts cut (Tree tree) e = (Reads tree, reads short cut ((parse_exact levels).found ts tree e))
some_parsed text short ts cut (UnexpectedToken i) e =
    (_, unexpected short cut ((parse_exact levels).unexpected ts i e) (λ j lt deep. let other : UnexpectedToken i ≡ DeepToken j = sym e ∙ (parse_exact levels).only_deep ts j deep in absurd cc))
some_parsed text short ts cut (DeepToken i) e = (_, too_deep short cut ((parse_exact levels).too_deep ts i e))

some_short : (text : List ℕ) → length text ≤ source_limit → SomeVerdict text
some_short text short = ⊎_elim
    (λ read. some_parsed text short read.0 read.1 (parse levels read.0) refl)
    (λ fault. some_uncut text short fault.0 fault.1 (fault_without_memory fault.1))
    (exactly_one text).one

some_verdict : (text : List ℕ) → SomeVerdict text
some_verdict text = ⊎_elim (λ long. (TooLong, too_long long)) (some_short text) (cases_lt source_limit (length text))

pub one_verdict : EachTextHasOneVerdict
one_verdict text = record { one = some_verdict text; same = judged_once text }
