-- The names of parameters, from the last on, and what a block leaves.
use Rattle.std.proofs.Common.{◌≡◌, ℕ, suc, ◌+◌, List, [], ◌∷◌, ◌++◌, length, map, take, refl, ap, sym, ◌∙◌, arith, append_assoc}
use Rattle.std.specs.Prelude.{reverse}
use Rattle.std.proofs.lemmas.List.{map-append, length-map, reverse-append, reverse-reverse, length-reverse, take-map, take_at}
use Rattle.step_semantics.specs.Frames.{Frames}
use Rattle.core_meaning.specs.Areas.{Areas}
use Rattle.core_meaning.specs.State as states
use Rattle.core_meaning.specs.State.{numbered}
use Rattle.core_meaning.specs.Values as meaning
use Rattle.core_state.specs.Changes.{names_of}
use Rattle.core_state.specs.State.{value_of, name_of, frame_of, slot_of, state_of}
use Rattle.core_state.specs.declared.state.Frame.{Frame}
use Rattle.core_state.specs.declared.state.Name.{Name}
use Rattle.core_state.specs.declared.state.State.{State}
use Rattle.core_state.specs.declared.value.Value.{Value}
use Rattle.core_state.proofs.Places.{latest}

numbered_last : (k : ℕ) (vs : List meaning.Value) (v : meaning.Value) → numbered k (vs ++ v ∷ []) ≡ numbered k vs ++ (k + length vs, v) ∷ []
numbered_last k [] v = let e : k ≡ k + 0 = omega arith in ap (λ n. (n, v) ∷ []) e
numbered_last k (u ∷ vs) v = let e : suc k + length vs ≡ k + suc (length vs) = omega arith in ap (λ ns. (k, u) ∷ ns) (numbered_last (suc k) vs v ∙ ap (λ n. numbered (suc k) vs ++ (n, v) ∷ []) e)

-- the last argument that is left becomes a name
pub one_named : (left new : List Value) (v : Value) (names more : List Name) (name : Name) → left ≡ new ++ v ∷ [] → more ≡ names ++ name ∷ [] → name_of name ≡ (length new, value_of v)
    → numbered 0 (map value_of new) ++ names_of more ≡ numbered 0 (map value_of left) ++ names_of names
one_named left new v names more name e is named =
    let zero : length (map value_of new) ≡ 0 + length (map value_of new) = omega arith in
    ap (λ ns. numbered 0 (map value_of new) ++ names_of ns) is ∙ ap (λ ns. numbered 0 (map value_of new) ++ ns) (latest name_of names name)
    ∙ ap (λ n. numbered 0 (map value_of new) ++ n ∷ names_of names) (named ∙ ap (λ k. (k, value_of v)) (sym (length-map new value_of) ∙ zero))
    ∙ sym (append_assoc (numbered 0 (map value_of new)) ((0 + length (map value_of new), value_of v) ∷ []) (names_of names))
    ∙ ap (λ ns. ns ++ names_of names) (sym (numbered_last 0 (map value_of new) (value_of v)))
    ∙ ap (λ vs. numbered 0 vs ++ names_of names) (sym (map-append value_of new (v ∷ []))) ∙ ap (λ vs. numbered 0 (map value_of vs) ++ names_of names) (sym e)

-- the first n names of the code are the last n that are seen
pub names_kept : (names : List Name) (more before : List (ℕ × meaning.Value)) (n : ℕ) → names_of names ≡ more ++ before → n ≡ length before → names_of (take n names) ≡ before
names_kept names more before n e h =
    let whole : map name_of names ≡ reverse before ++ reverse more = sym (reverse-reverse (map name_of names)) ∙ ap reverse e ∙ reverse-append more before in
    ap reverse (sym (take-map name_of n names) ∙ ap (take n) whole ∙ take_at (reverse before) (reverse more) n (length-reverse before ∙ sym h)) ∙ reverse-reverse before

-- ---- states

abbrev pub state_with : List (ℕ × meaning.Value) → ℕ → List states.Frame → Areas → states.State
state_with names first callers areas = record { areas = areas; frames = record { own = record { names = names; first = first }; callers = callers } }

pub same_state : {names before : List (ℕ × meaning.Value)} {areas left : Areas} (first : ℕ) (callers : List states.Frame) → names ≡ before → areas ≡ left → state_with names first callers areas ≡ state_with before first callers left
same_state {before = before} {areas = areas} first callers e h = ap (λ ns. state_with ns first callers areas) e ∙ ap (state_with before first callers) h

-- a state whose frames are these
pub state_is : (s : State) (own : Frame) (callers : List Frame) → s.own ≡ own → s.callers ≡ callers → state_of s ≡ state_with (names_of own.names) own.first (reverse (map frame_of callers)) (map slot_of s.areas.items)
state_is s own callers e h =
    ap (λ (f : Frame). state_with (names_of f.names) f.first (reverse (map frame_of s.callers)) (map slot_of s.areas.items)) e ∙ ap (λ fs. state_with (names_of own.names) own.first (reverse (map frame_of fs)) (map slot_of s.areas.items)) h
