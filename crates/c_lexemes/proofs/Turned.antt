-- A list that is read in a loop, an element each turn, with as many turns as there are bytes; and what the elements say.
use Rattle.std.proofs.Common.{◌≡◌, ℕ, zero, suc, ◌+◌, ◌-◌, ◌≤◌, Bool, true, false, cond, List, [], ◌∷◌, ◌++◌, map, length, refl, sym, ap, ◌∙◌, subst, arith, Option, Some, None}
use Rattle.std.specs.Prelude.{nat_eq}
use Rattle.std.proofs.lemmas.Bool.{ne_eqb}
use Rattle.reading.specs.Row.{starts}
use Rattle.reading.specs.Reader.{Outcome, Done, mapped, many, many_up_to, below}
use Rattle.reading.proofs.Turns.{Turns, turns_after, turns_unexpected, turns_too_deep}
use Rattle.grammars.specs.Kinds.{holds, first, nullable}
use Rattle.grammars.specs.Reader.{among, next, read}
use Rattle.c_grammar.specs.Pieces.{Piece, pieces}
use Rattle.c_grammar.specs.Kinds.{lexicon}
use Rattle.c_grammar.specs.Symbols.{Rule}
use Rattle.c_grammar.specs.Subset.{grammar}
use Rattle.c_lexemes.specs.Levels.{most_open, inner_at, reads_at}
use Rattle.c_lexemes.specs.Gives.{Faults}
use Rattle.c_lexemes.specs.declared.fault.Fault.{Fault}
use Rattle.c_lexemes.specs.declared.fault.Fault.TheVariants as fault
use Rattle.c_lexemes.proofs.Cuts.{few_pieces}
use Rattle.c_lexemes.proofs.Shrinks.{Left, InnerLeft, cost, rule_left, below_left, same_bound}

inner_left : (d : ℕ) → InnerLeft lexicon (inner_at d)
unfolding inner_at
inner_left d = below_left lexicon grammar (d + 1) (most_open - d)

pub takes : {A : Type 0} (d : ℕ) (r : Rule A) (ts : List Piece) → nullable r ≡ false → Left 1 ts (reads_at d r ts)
takes d r ts e = subst (λ b. Left (cost b) ts (reads_at d r ts)) e (rule_left lexicon d (inner_at d) (inner_left d) r ts)

-- ---- the test of a loop

pub starts_kind : (d k : ℕ) (ts : List Piece) → (k ≡ 0 → ⊥) → starts (among lexicon d (k ∷ [])) ts ≡ holds (k ∷ []) (next lexicon d ts)
starts_kind d k [] some = sym (ap (λ t. cond t true false) (ne_eqb k 0 some))
starts_kind d k (t ∷ ts) some = refl

-- ---- before the first turn

started : {A : Type 0} (d : ℕ) (r : Rule A) (bytes : List ℕ) (n : ℕ) → nullable r ≡ false → n ≡ length bytes
    → many_up_to n (among lexicon d (first r)) (reads_at d r) (pieces bytes) ≡ many (among lexicon d (first r)) (reads_at d r) (pieces bytes)
unfolding many
started d r bytes n e is =
    let few = few_pieces bytes in
    same_bound (among lexicon d (first r)) (reads_at d r) (λ ts. takes d r ts e) n (length (pieces bytes)) (pieces bytes) (omega (arith, few, is)) (omega arith)

nothing_before : {A : Type 0} (o : Outcome Piece (List A)) → mapped (λ more. [] ++ more) o ≡ o
nothing_before (Done a r) = refl
nothing_before (Outcome.Unexpected r) = refl
nothing_before (Outcome.TooDeep r) = refl

-- with nothing read yet
pub turned_init : {A V : Type 0} (says : V → A) (d : ℕ) (r : Rule A) (bytes : List ℕ) (n : ℕ) (items : List V) → nullable r ≡ false → n ≡ length bytes → items ≡ []
    → Turns (among lexicon d (first r)) (reads_at d r) (many (among lexicon d (first r)) (reads_at d r) (pieces bytes)) n (map says items) (pieces bytes)
turned_init says d r bytes n items e is none =
    let o = many_up_to n (among lexicon d (first r)) (reads_at d r) (pieces bytes) in
    record { same = ap (λ (xs : List _). mapped (λ more. map says xs ++ more) o) none ∙ nothing_before o ∙ started d r bytes n e is }

-- further ones behind the first
pub turned_more : {A V : Type 0} (says : V → A) (d : ℕ) (r : Rule A) (bytes : List ℕ) (n : ℕ) (items empty : List V) (x : V) → nullable r ≡ false → n ≡ length bytes → items ≡ empty ++ x ∷ [] → empty ≡ []
    → Turns (among lexicon d (first r)) (reads_at d r) (mapped (λ more. says x ∷ more) (many (among lexicon d (first r)) (reads_at d r) (pieces bytes))) n (map says items) (pieces bytes)
turned_more {A} {V} says d r bytes n items empty x e is pushed none =
    let o = many_up_to n (among lexicon d (first r)) (reads_at d r) (pieces bytes) in
    let one : items ≡ x ∷ [] = pushed ∙ ap (λ (xs : List V). xs ++ x ∷ []) none in
    record { same = ap (λ (xs : List V). mapped (λ more. map says xs ++ more) o) one ∙ ap (mapped (λ more. says x ∷ more)) (started d r bytes n e is) }

-- ---- a turn

map_pushed : {A V : Type 0} (says : V → A) (xs : List V) (x : V) → map says (xs ++ x ∷ []) ≡ map says xs ++ says x ∷ []
map_pushed says [] x = refl
map_pushed says (y ∷ ys) x = ap (λ zs. says y ∷ zs) (map_pushed says ys x)

pub turned_after : {A V : Type 0} (says : V → A) {test : Piece → Bool} {p : List Piece → Outcome Piece A} {wanted : Outcome Piece (List A)} {rest : List Piece} {n : ℕ} (items : List V)
    (x : V) (after : List Piece) (m : ℕ) (now : List V)
    → Turns test p wanted n (map says items) rest → n ≡ suc m → starts test rest ≡ true → p rest ≡ Done (says x) after → now ≡ items ++ x ∷ [] → Turns test p wanted m (map says now) after
turned_after says items x after m now t e s h f = turns_after (says x) after m (map says now) t e s h (ap (map says) f ∙ map_pushed says items x)

-- of elements that say themselves
pub plain_more : {A : Type 0} (d : ℕ) (r : Rule A) (bytes : List ℕ) (n : ℕ) (items empty : List A) (x : A) → nullable r ≡ false → n ≡ length bytes → items ≡ empty ++ x ∷ [] → empty ≡ []
    → Turns (among lexicon d (first r)) (reads_at d r) (mapped (λ more. x ∷ more) (many (among lexicon d (first r)) (reads_at d r) (pieces bytes))) n items (pieces bytes)
plain_more {A} d r bytes n items empty x e is pushed none =
    let o = many_up_to n (among lexicon d (first r)) (reads_at d r) (pieces bytes) in
    let one : items ≡ x ∷ [] = pushed ∙ ap (λ (xs : List A). xs ++ x ∷ []) none in
    record { same = ap (λ (xs : List A). mapped (λ more. xs ++ more) o) one ∙ ap (mapped (λ more. x ∷ more)) (started d r bytes n e is) }

-- ---- a fault in an element

pub turned_fault : {A : Type 0} {test : Piece → Bool} {p : List Piece → Outcome Piece A} {wanted : Outcome Piece (List A)} {rest : List Piece} {n : ℕ} {front : List A} (e : Fault)
    → Turns test p wanted n front rest → (n ≡ 0 → ⊥) → starts test rest ≡ true → Faults e (p rest) → Faults e wanted
turned_fault {test = test} {p} {wanted} {rest} {n} {front} e t some s f = at n refl
  where
    at : (k : ℕ) → n ≡ k → Faults e wanted
    at zero is = absurd (some is)
    at (suc m) is = by_fault e f
      where
        by_fault : (e : Fault) → Faults e (p rest) → Faults e wanted
        by_fault fault.Memory f = tt
        by_fault (fault.Unexpected r) f = turns_unexpected (pieces r.now) m t is s f
        by_fault (fault.TooDeep r) f = turns_too_deep (pieces r.now) m t is s f
