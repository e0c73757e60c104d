-- The line and the column so far.
use Rattle.std.proofs.Common.{◌≡◌, ◌+◌, ◌≤◌}
use Rattle.iv_words.specs.Lines.{line, column}
use Rattle.ivoryc.proofs.place.Place.later.Given as goal

abbrev pub invariant-loop-byte : goal.invariant-loop-byte
invariant-loop-byte l =
    (l.line ≡ line l.text (l.from + l.byte-index)) × (l.column ≡ column l.text (l.from + l.byte-index)) × (l.column ≤ l.from + l.byte-index + 1)
