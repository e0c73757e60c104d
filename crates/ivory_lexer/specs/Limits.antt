-- The limits of a text.
use Rattle.std.specs.Prelude.{ℕ}

-- how many bytes a module's text has at most
abbrev pub source_limit : ℕ
source_limit = 262144

-- and a name
abbrev pub longest_name : ℕ
longest_name = 28
