-- A row of numbers, number by number, and a report from the end of its run on.
use Rattle.std.proofs.Common.{◌≡◌, refl, sym, ap, subst, ℕ, zero, suc, ◌+◌, ◌<◌, List, [], ◌∷◌, ◌++◌, length, take, get_or, append_assoc, arith}
use Rattle.std.specs.Prelude.{ℤ, map}
use Rattle.std.specs.List.{concat}
use Rattle.std.specs.Fmt.{signed_decimal}
use Rattle.run_records.specs.declared.Outcome.{Outcome}
use Rattle.text_pieces.specs.Stages.{Stage, Puts}
use Rattle.text_pieces.proofs.Stages.{as_text}
use Rattle.text_pieces.proofs.Lists.{one_more}
use Rattle.iv_script.specs.Report.{spaced, row, event_line, end_text, area_lines, shown_areas, report}

pub row_put : (values : List ℤ) (first : ℤ) (rest : List ℤ) {s e : Stage} → values ≡ first ∷ rest
    → Puts s e (signed_decimal first ++ concat (map spaced rest)) → Puts s e (row values)
row_put values first rest {s} {e} is puts = subst (λ vs. Puts s e (row vs)) (sym is) puts

-- the end of the line of the run's end is put by itself
pub ends : (o : Outcome) {s e : Stage} → Puts s e (concat (map event_line o.events) ++ end_text o.end ++ 10 ∷ [] ++ area_lines (shown_areas o.end o.areas)) → Puts s e (report o)
ends o {s} {e} puts =
    as_text (ap (λ t. t ++ area_lines (shown_areas o.end o.areas)) (append_assoc (concat (map event_line o.events)) (end_text o.end) (10 ∷ []))) puts

same_at : (xs : List ℤ) (i : ℕ) (d e : ℤ) → i < length xs → get_or xs i d ≡ get_or xs i e
same_at [] i d e below = absurd (omega arith)
same_at (x ∷ xs) zero d e below = refl
same_at (x ∷ xs) (suc i) d e below = same_at xs i d e (omega arith)

-- the step of a loop over numbers
pub one_number : (xs : List ℤ) (i : ℕ) (d : ℤ) {s m e : Stage} → i < length xs
    → Puts s m (concat (map spaced (take i xs))) → Puts m e (spaced (get_or xs i d)) → Puts s e (concat (map spaced (take (i + 1) xs)))
one_number xs i d below so_far last = one_more spaced xs i (get_or xs i d) below (same_at xs i d (get_or xs i d) below) so_far last
