-- The lines that the program writes to its error output.
use Rattle.std.specs.Prelude.{◌≡◌, ◌≤◌, ℕ, pos, List, [], ◌∷◌, ◌++◌, length, codes}
use Rattle.std.specs.Fmt.{signed_decimal}
use Rattle.std.specs.List.{flat_map}
use Rattle.iv_script.specs.declared.ScriptFault.{ScriptFault}
use Rattle.iv_script.specs.declared.ScriptWhy.{ScriptWhy}
use Rattle.iv_script.specs.declared.ScriptWhy.TheVariants.{BadWord, BadNumber, NoSuchName, BadCount, OutOfRange}
use Rattle.iv_words.specs.Lines as places
use Rattle.iv_words.specs.declared.Span.{Span}
use Rattle.core_tree.specs.declared.Check.{Check}
use Rattle.core_tree.specs.declared.SiteKind.{SiteKind}
use Rattle.core_tree.specs.declared.SiteKind.TheVariants as kind
use Rattle.c_text.specs.declared.CFault.{CFault}
use Rattle.ivoryc.specs.declared.place.Place.{Place}
use Rattle.ivoryc.specs.declared.place.Reached.{Reached}
use Rattle.c_text.specs.declared.CWhy.{CWhy}
use Rattle.c_text.specs.declared.CWhy.TheVariants.{Syntax, TooDeep, BadName, BadType}

abbrev pub line : List ℕ → List ℕ
line text = text ++ 10 ∷ []

abbrev pub usage_line : List ℕ
usage_line = line (codes "usage: ivoryc emit FILE | check FILE | sites FILE | run FILE SCRIPT N | crun CFILE SCRIPT N | big K")

abbrev pub read_fault_line : List ℕ
read_fault_line = line (codes "read fault")

abbrev pub too_large_line : List ℕ
too_large_line = line (codes "too large")

abbrev pub memory_line : List ℕ
memory_line = line (codes "no memory")

abbrev pub not_built_line : List ℕ
not_built_line = line (codes "not built yet")

-- ---- module texts

-- what is written where a module is well typed
abbrev pub ok_line : List ℕ
ok_line = line (codes "ok")

-- a place of a text, which is a number of bytes from its start, by its line and column
abbrev pub place_in : List ℕ → ℕ → Place
place_in text at = record { line = places.line text at; column = places.column text at }

-- it is the place of the text behind so many bytes
abbrev pub Stands : List ℕ → Reached → Type 0
Stands text r = (r.before ≤ length text) × (r.place ≡ place_in text r.before)

-- `LINE:COLUMN`
abbrev pub place_text : Place → List ℕ
place_text p = signed_decimal (pos p.line) ++ (codes ":" ++ signed_decimal (pos p.column))

-- `LINE:COLUMN-LINE:COLUMN: rule K`
abbrev pub rule_line : (start end : Place) (rule : ℕ) → List ℕ
rule_line start end rule = place_text start ++ (codes "-" ++ (place_text end ++ (codes ": rule " ++ line (signed_decimal (pos rule)))))

-- of a rule that is broken between two places of a text
abbrev pub rule_fault_line : List ℕ → ℕ → Span → List ℕ
rule_fault_line text rule span = rule_line (place_in text span.start) (place_in text span.end) rule

-- ---- sites and generated modules

-- what a check guards against, in a word
abbrev pub kind_word : SiteKind → List ℕ
kind_word kind.Overflow = codes "overflow"
kind_word kind.DivZero = codes "divzero"
kind_word kind.Shift = codes "shift"
kind_word kind.Index = codes "index"
kind_word kind.Cast = codes "cast"
kind_word kind.Assert = codes "assert"
kind_word kind.Pre = codes "pre"
kind_word kind.Post = codes "post"

-- `site K KIND LINE:COLUMN`
abbrev pub site_text : (site : ℕ) → SiteKind → Place → List ℕ
site_text site kind p = codes "site " ++ (signed_decimal (pos site) ++ (codes " " ++ (kind_word kind ++ (codes " " ++ line (place_text p)))))

-- a line for each check, at the token that carries it
abbrev pub site_line : List ℕ → Check → List ℕ
site_line text c = site_text c.site c.kind (place_in text c.span.start)

abbrev pub sites_text : List ℕ → List Check → List ℕ
sites_text text checks = flat_map (site_line text) checks

-- the number of procedures, of bytes and of sites
abbrev pub size_text : (procedures bytes sites : ℕ) → List ℕ
size_text procedures bytes sites =
    codes "big " ++ (signed_decimal (pos procedures) ++ (codes "\nbytes " ++ (signed_decimal (pos bytes) ++ (codes "\nsites " ++ line (signed_decimal (pos sites))))))

-- ---- C texts

abbrev pub c_words : CWhy → List ℕ
c_words Syntax = codes "c syntax"
c_words TooDeep = codes "c too deep"
c_words BadName = codes "c name"
c_words BadType = codes "c type"

-- `LINE:COLUMN: words`
abbrev pub c_line : (row column : ℕ) → CWhy → List ℕ
c_line row column why = signed_decimal (pos row) ++ (codes ":" ++ (signed_decimal (pos column) ++ (codes ": " ++ line (c_words why))))

-- of a fault at a place of a text, which is a number of bytes from its start
abbrev pub c_fault_line : List ℕ → CFault → List ℕ
c_fault_line text f = c_line (places.line text f.at) (places.column text f.at) f.why

-- ---- scripts

abbrev pub script_word : ScriptWhy → List ℕ
script_word BadWord = codes "word"
script_word BadNumber = codes "number"
script_word NoSuchName = codes "name"
script_word BadCount = codes "count"
script_word OutOfRange = codes "range"

-- `script line N: word`
abbrev pub script_line : ScriptFault → List ℕ
script_line f = codes "script line " ++ (signed_decimal (pos f.line) ++ (codes ": " ++ line (script_word f.why)))
