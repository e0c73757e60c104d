-- A sink in memory: what one put makes of it, and whether that put refuses.
use Rattle.std.specs.Prelude.{ℕ, ◌+◌, ◌-◌, ◌++◌, Bool, if◌then◌else◌, ◌||◌, nat_lt, nat_eq, List, length, take}
use Rattle.std.specs.List.{list_any}
use Rattle.iv_base.specs.Counts.{capped}

-- `calls` is the number of the next call of put; the calls whose numbers are in `failing` fail
pub record MemSinkState : Type 0 where
  pub room : ℕ
  pub failing : List ℕ
  pub calls : ℕ
  pub text : List ℕ
  pub faults : ℕ
  pub taken : ℕ

abbrev pub is_failing : MemSinkState → Bool
is_failing s = list_any (nat_eq s.calls) s.failing

-- the call fails, or the piece does not fit
abbrev pub refused : MemSinkState → List ℕ → Bool
refused s piece = is_failing s || nat_lt s.room (length s.text + length piece)

-- a failing call takes nothing; any other takes the piece as far as it fits
abbrev pub text_after : MemSinkState → List ℕ → List ℕ
text_after s piece = if is_failing s then s.text else s.text ++ take (s.room - length s.text) piece

abbrev pub after : MemSinkState → List ℕ → MemSinkState
after s piece = record {
  room = s.room;
  failing = s.failing;
  calls = capped (s.calls + 1);
  text = text_after s piece;
  faults = if refused s piece then capped (s.faults + 1) else s.faults;
  taken = if refused s piece then s.taken else capped (s.taken + length piece);
}
