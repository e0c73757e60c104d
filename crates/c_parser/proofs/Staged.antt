-- The items of a unit are read in a loop, an item each turn, at the stage that the last item tells.
use Rattle.std.proofs.Common.{◌≡◌, ℕ, zero, suc, ◌+◌, ◌-◌, ◌≤◌, Bool, true, false, cond, List, [], ◌∷◌, ◌++◌, map, length, refl, sym, ap, ◌∙◌, subst, arith, append_assoc}
use Rattle.reading.specs.Row.{starts}
use Rattle.reading.specs.Reader.{Outcome, Done, Unexpected, TooDeep, Reader, and_then, mapped}
use Rattle.reading.proofs.Rows.{append_nil}
use Rattle.grammars.specs.Grammar.{stage}
use Rattle.grammars.specs.Kinds.{holds, first, nullable}
use Rattle.grammars.specs.Reader.{among, next, stages_up_to, in_stages}
use Rattle.c_grammar.specs.Pieces.{Piece, pieces}
use Rattle.c_grammar.specs.Kinds.{lexicon}
use Rattle.c_grammar.specs.UnitRules as units
use Rattle.c_grammar.specs.UnitRules.{rank, at_stage, items, a_struct, an_extern, an_object, a_function, static_item, defined, first_value}
use Rattle.c_lexemes.specs.Gives.{Faults}
use Rattle.c_lexemes.specs.Levels.{reads_at}
use Rattle.c_parser.specs.Views.{item_of}
use Rattle.c_lexemes.specs.declared.fault.Fault.{Fault}
use Rattle.c_lexemes.specs.declared.fault.Fault.TheVariants as fault
use Rattle.c_parser.specs.declared.parts.Item.{Item}
use Rattle.c_lexemes.proofs.Cuts.{few_pieces}
use Rattle.c_lexemes.proofs.Shrinks.{Left, same_stages}
use Rattle.c_lexemes.proofs.Turned.{takes}

abbrev pub stage_test : ℕ → ℕ → Piece → Bool
stage_test d s = among lexicon d (first (at_stage s))

abbrev pub stage_reader : ℕ → ℕ → Reader Piece units.Item
stage_reader d s = reads_at d (at_stage s)

abbrev up : ℕ → ℕ → ℕ → List Piece → Outcome Piece (List units.Item)
up n d s ts = stages_up_to n 3 rank (stage_test d) (stage_reader d) s ts

-- what is read, for how many turns more, at which stage, what was read and what is left
pub record Staged (d : ℕ) (wanted : Outcome Piece (List units.Item)) (n s : ℕ) (found : List Item) (rest : List Piece) : Type 0 where
  pub same : mapped (λ more. map item_of found ++ more) (stages_up_to n 3 rank (λ k. among lexicon d (first (at_stage k))) (λ k. reads_at d (at_stage k)) s rest) ≡ wanted

not_empty : (s : ℕ) → nullable (at_stage s) ≡ false
unfolding at_stage static_item
not_empty zero = refl
not_empty (suc zero) = refl
not_empty (suc (suc zero)) = refl
not_empty (suc (suc (suc n))) = refl

each_takes : (d s : ℕ) (ts : List Piece) → Left 1 ts (stage_reader d s ts)
each_takes d s ts = takes d (at_stage s) ts (not_empty s)

nothing_before : (o : Outcome Piece (List units.Item)) → mapped (λ more. [] ++ more) o ≡ o
nothing_before (Done a r) = refl
nothing_before (Unexpected r) = refl
nothing_before (TooDeep r) = refl

pub staged_init : (d : ℕ) (bytes : List ℕ) (n : ℕ) (found : List Item) → n ≡ length bytes → found ≡ [] → Staged d (reads_at d items (pieces bytes)) n 0 found (pieces bytes)
unfolding in_stages
staged_init d bytes n found e none =
    let few = few_pieces bytes in
    let o = up n d 0 (pieces bytes) in
    let same : up n d 0 (pieces bytes) ≡ up (length (pieces bytes)) d 0 (pieces bytes) =
    same_stages 3 rank (stage_test d) (stage_reader d) (λ s ts low. each_takes d s ts) n (length (pieces bytes)) 0 (pieces bytes) (omega arith) (omega (arith, few, e)) (omega arith) in
    record { same = ap (λ (xs : List Item). mapped (λ more. map item_of xs ++ more) o) none ∙ nothing_before o ∙ same }

-- ---- a turn

within_three : (i : units.Item) → stage 3 (rank i) ≡ rank i
within_three (a_struct s) = refl
within_three (an_extern x) = refl
within_three (an_object o) = refl
within_three (a_function f) = refl

moved : (front : List units.Item) (x : units.Item) (o : Outcome Piece (List units.Item)) → mapped (λ more. (front ++ x ∷ []) ++ more) o ≡ mapped (λ more. front ++ more) (mapped (λ more. x ∷ more) o)
moved front x (Done a r) = ap (λ y. Done y r) (append_assoc front (x ∷ []) a)
moved front x (Unexpected r) = refl
moved front x (TooDeep r) = refl

map_pushed : (xs : List Item) (x : Item) → map item_of (xs ++ x ∷ []) ≡ map item_of xs ++ item_of x ∷ []
map_pushed [] x = refl
map_pushed (y ∷ ys) x = ap (λ zs. item_of y ∷ zs) (map_pushed ys x)

turn : (d n s : ℕ) (rest : List Piece) (o : Outcome Piece units.Item) → starts (stage_test d s) rest ≡ true → stage_reader d s rest ≡ o
    → up (suc n) d s rest ≡ and_then o (λ a r. mapped (λ more. a ∷ more) (up n d (stage 3 (rank a)) r))
turn d n s rest o is e =
    ap (λ b. cond b (and_then (stage_reader d s rest) (λ a r. mapped (λ more. a ∷ more) (up n d (stage 3 (rank a)) r))) (Done [] rest)) is
    ∙ ap (λ q. and_then q (λ a r. mapped (λ more. a ∷ more) (up n d (stage 3 (rank a)) r))) e

pub staged_after : {d : ℕ} {wanted : Outcome Piece (List units.Item)} {n s : ℕ} (found : List Item) {rest : List Piece} (x : Item) (after : List Piece) (m t : ℕ) (now : List Item)
    → Staged d wanted n s found rest → n ≡ suc m → starts (among lexicon d (first (at_stage s))) rest ≡ true → reads_at d (at_stage s) rest ≡ Done (item_of x) after → t ≡ rank (item_of x) → now ≡ found ++ x ∷ []
    → Staged d wanted m t now after
staged_after {d} {wanted} {n} {s} found {rest} x after m t now h e is read tells pushed =
    let next : t ≡ stage 3 (rank (item_of x)) = tells ∙ sym (within_three (item_of x)) in
    let front : map item_of now ≡ map item_of found ++ item_of x ∷ [] = ap (map item_of) pushed ∙ map_pushed found x in
    record {
      same = ap (λ (xs : List units.Item). mapped (λ more. xs ++ more) (up m d t after)) front ∙ ap (λ k. mapped (λ more. (map item_of found ++ item_of x ∷ []) ++ more) (up m d k after)) next
          ∙ moved (map item_of found) (item_of x) (up m d (stage 3 (rank (item_of x))) after)
          ∙ sym (ap (mapped (λ more. map item_of found ++ more)) (ap (λ k. up k d s rest) e ∙ turn d m s rest (Done (item_of x) after) is read)) ∙ h.same;
    }

-- ---- the end

stopped : (d n s : ℕ) (rest : List Piece) → starts (stage_test d s) rest ≡ false → up n d s rest ≡ Done [] rest
stopped d zero s rest e = refl
stopped d (suc n) s rest e = ap (λ b. cond b (and_then (stage_reader d s rest) (λ a r. mapped (λ more. a ∷ more) (up n d (stage 3 (rank a)) r))) (Done [] rest)) e

pub staged_stop : {d : ℕ} {wanted : Outcome Piece (List units.Item)} {n s : ℕ} (found : List Item) {rest : List Piece} → Staged d wanted n s found rest → starts (among lexicon d (first (at_stage s))) rest ≡ false → wanted ≡ Done (map item_of found) rest
staged_stop {d} {n = n} {s} found {rest} h e = sym h.same ∙ ap (mapped (λ more. map item_of found ++ more)) (stopped d n s rest e) ∙ ap (λ y. Done y rest) (append_nil (map item_of found))

pub staged_end : {d : ℕ} {wanted : Outcome Piece (List units.Item)} {n s : ℕ} (found : List Item) {rest : List Piece} → Staged d wanted n s found rest → n ≡ 0 → wanted ≡ Done (map item_of found) rest
staged_end {d} {s = s} found {rest} h e = sym h.same ∙ ap (λ k. mapped (λ more. map item_of found ++ more) (up k d s rest)) e ∙ ap (λ y. Done y rest) (append_nil (map item_of found))

-- a fault in an item
pub staged_fault : {d : ℕ} {wanted : Outcome Piece (List units.Item)} {n s : ℕ} (found : List Item) {rest : List Piece} (e : Fault)
    → Staged d wanted n s found rest → (n ≡ 0 → ⊥) → starts (among lexicon d (first (at_stage s))) rest ≡ true → Faults e (reads_at d (at_stage s) rest) → Faults e wanted
staged_fault {d} {wanted} {n} {s} found {rest} e h some b f = at n refl
  where
    at : (k : ℕ) → n ≡ k → Faults e wanted
    at zero is = absurd (some is)
    at (suc m) is = by_fault e f
      where
        by_fault : (e : Fault) → Faults e (reads_at d (at_stage s) rest) → Faults e wanted
        by_fault fault.Memory f = tt
        by_fault (fault.Unexpected r) f = sym h.same ∙ ap (mapped (λ more. map item_of found ++ more)) (ap (λ k. up k d s rest) is ∙ turn d m s rest (Unexpected (pieces r.now)) b f)
        by_fault (fault.TooDeep r) f = sym h.same ∙ ap (mapped (λ more. map item_of found ++ more)) (ap (λ k. up k d s rest) is ∙ turn d m s rest (TooDeep (pieces r.now)) b f)

-- ---- the test of the loop

pub starts_among : (d : ℕ) (kinds : List ℕ) (ts : List Piece) → holds kinds 0 ≡ false → starts (among lexicon d kinds) ts ≡ holds kinds (next lexicon d ts)
starts_among d kinds [] e = sym e
starts_among d kinds (t ∷ ts) e = refl

pub structs_start : (d : ℕ) (ts : List Piece) → starts (among lexicon d (first (at_stage 0))) ts ≡ holds (9 ∷ 7 ∷ 6 ∷ 8 ∷ 22 ∷ []) (next lexicon d ts)
unfolding at_stage static_item
structs_start d ts = starts_among d (9 ∷ 7 ∷ 6 ∷ 8 ∷ 22 ∷ []) ts refl

pub externs_start : (d : ℕ) (ts : List Piece) → starts (among lexicon d (first (at_stage 1))) ts ≡ holds (7 ∷ 6 ∷ 8 ∷ 22 ∷ 9 ∷ []) (next lexicon d ts)
unfolding at_stage static_item
externs_start d ts = starts_among d (7 ∷ 6 ∷ 8 ∷ 22 ∷ 9 ∷ []) ts refl

pub objects_start : (d : ℕ) (ts : List Piece) → starts (among lexicon d (first (at_stage 2))) ts ≡ holds (6 ∷ 8 ∷ 22 ∷ 9 ∷ []) (next lexicon d ts)
unfolding at_stage static_item
objects_start d ts = starts_among d (6 ∷ 8 ∷ 22 ∷ 9 ∷ []) ts refl

pub functions_start : (d : ℕ) (ts : List Piece) → starts (among lexicon d (first (at_stage 3))) ts ≡ holds (6 ∷ 8 ∷ 22 ∷ 9 ∷ []) (next lexicon d ts)
unfolding at_stage
functions_start d ts = starts_among d (6 ∷ 8 ∷ 22 ∷ 9 ∷ []) ts refl
