-- The report of a run, as text: a line for each event, one for the end, and one for the cells of each area of a run that
-- came to a defined end. A truth is printed as 0 or 1. Each line ends with byte 10.
use Rattle.std.specs.Prelude.{ℕ, pos, ℤ, List, [], ◌∷◌, ◌++◌, map, codes, Option, Some, None}
use Rattle.std.specs.List.{concat}
use Rattle.std.specs.Fmt.{signed_decimal}
use Rattle.run_records.specs.declared.Event.{Event}
use Rattle.run_records.specs.declared.Event.TheVariants.{Call, Ret}
use Rattle.run_records.specs.declared.Piece.{Piece}
use Rattle.run_records.specs.declared.Piece.TheVariants.{Value, Cells}
use Rattle.run_records.specs.declared.Reason.{Reason}
use Rattle.run_records.specs.declared.Reason.TheVariants.{SignedOverflow, DivZero, Shift, Dead, Bounds, BadAccess, Indeterminate, ConstWrite, NoValue, Implementation}
use Rattle.run_records.specs.declared.End.{End}
use Rattle.run_records.specs.declared.End.TheVariants.{Ended, Stopped, NoReply, BadReply, Going, Undefined}
use Rattle.run_records.specs.declared.Outcome.{Outcome}
use Rattle.run_records.specs.declared.AreaCells.{AreaCells}

-- ---- numbers

-- a space and a number
abbrev pub spaced : ℤ → List ℕ
spaced v = codes " " ++ signed_decimal v

-- numbers with a space between two of them
abbrev pub row : List ℤ → List ℕ
row [] = []
row (v ∷ vs) = signed_decimal v ++ concat (map spaced vs)

-- ---- events

-- an argument of an import, behind a space: a value, or the cells behind a reference
abbrev pub piece_text : Piece → List ℕ
piece_text (Value v) = spaced v
piece_text (Cells cells) = codes " [" ++ row cells ++ codes "]"

abbrev pub returned_text : Option ℤ → List ℕ
returned_text None = []
returned_text (Some v) = spaced v

abbrev pub event_line : Event → List ℕ
event_line (Call name arguments) = codes "call " ++ name ++ concat (map piece_text arguments) ++ 10 ∷ []
event_line (Ret name value) = codes "ret " ++ name ++ returned_text value ++ 10 ∷ []

-- ---- the end

abbrev pub reason_word : Reason → List ℕ
reason_word SignedOverflow = codes "overflow"
reason_word DivZero = codes "divzero"
reason_word Shift = codes "shift"
reason_word Dead = codes "dead"
reason_word Bounds = codes "bounds"
reason_word BadAccess = codes "access"
reason_word Indeterminate = codes "indeterminate"
reason_word ConstWrite = codes "constwrite"
reason_word NoValue = codes "novalue"
reason_word Implementation = codes "implementation"

abbrev pub end_text : End → List ℕ
end_text Ended = codes "end"
end_text (Stopped site) = codes "stop" ++ spaced (pos site)
end_text NoReply = codes "noreply"
end_text BadReply = codes "badreply"
end_text Going = codes "going"
end_text (Undefined reason) = codes "undefined " ++ reason_word reason

abbrev pub end_line : End → List ℕ
end_line end = end_text end ++ 10 ∷ []

-- ---- areas

abbrev pub area_line : AreaCells → List ℕ
area_line area = codes "area " ++ area.name ++ concat (map spaced area.cells) ++ 10 ∷ []

abbrev pub area_lines : List AreaCells → List ℕ
area_lines areas = concat (map area_line areas)

-- a run that goes on, or that has no meaning, shows no areas
abbrev pub shown_areas : End → List AreaCells → List AreaCells
shown_areas Ended areas = areas
shown_areas (Stopped site) areas = areas
shown_areas NoReply areas = areas
shown_areas BadReply areas = areas
shown_areas Going areas = []
shown_areas (Undefined reason) areas = []

-- ---- the whole

abbrev pub report : Outcome → List ℕ
report o = concat (map event_line o.events) ++ end_line o.end ++ area_lines (shown_areas o.end o.areas)
