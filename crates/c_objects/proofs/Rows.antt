-- Steps of loops over bytes, rows and objects.
use Rattle.std.proofs.Common.{◌≡◌, ℕ, zero, suc, ◌+◌, ◌-◌, ◌<◌, ◌≤◌, min, Bool, false, ◌||◌, List, [], ◌∷◌, ◌++◌, length, take, drop, refl, sym, ◌∙◌, ap, append_assoc, arith}
use Rattle.std.specs.Prelude.{map, ℤ, None, Some, Option, Result, Ok, Err, slice_get, slice_set, slice_index_or, replicate}
use Rattle.type_trees.specs.Layouts.{rows}
use Rattle.c_memory.specs.Blocks as blocks
use Rattle.c_memory.specs.Access as access
use Rattle.c_memory.specs.Standing.{any_of}
use Rattle.c_memory.specs.Copies.{read_each, write_each}
use Rattle.c_memory.specs.Seen.{with_scalars}
use Rattle.c_memory.specs.Representations.{Representation}
use Rattle.std.proofs.lemmas.List.{length-drop, map-append}
use Rattle.c_objects.specs.declared.bytes.Byte.{Byte as CodeByte}
use Rattle.c_objects.specs.declared.bytes.Byte.TheVariants as code
use Rattle.c_objects.specs.Bytes.{byte_of}
use Rattle.c_memory.specs.Objects as memory
use Rattle.c_memory.specs.Bytes.{Byte, Unset}
use Rattle.c_ast.specs.Syntax.{Name}
use Rattle.c_meaning.specs.Values.{Address}
use Rattle.c_objects.specs.declared.objects.Object.{Object}
use Rattle.c_ast.specs.declared.CScalar.{CScalar}
use Rattle.c_ast.specs.declared.Target.{Target}
use Rattle.c_meaning.specs.Memory.{CObjects, memory_of}
use Rattle.c_objects.specs.Store.{representation, object_of, at_place}

abbrev pub CObject : Type 0
CObject = memory.Object CScalar Name (Byte Address)

-- ---- parts of lists

clip : {A : Type 0} (ys : List A) (k n : ℕ) → k ≡ min n (length ys) → take k ys ≡ take n ys
clip [] zero zero e = refl
clip [] zero (suc n) e = refl
clip [] (suc k) zero e = refl
clip [] (suc k) (suc n) e = refl
clip (y ∷ ys) zero zero e = refl
clip (y ∷ ys) zero (suc n) e = absurd (omega arith)
clip (y ∷ ys) (suc k) zero e = absurd (omega arith)
clip (y ∷ ys) (suc k) (suc n) e = ap (λ l. y ∷ l) (clip ys k n (omega arith))

taken : {A : Type 0} (k : ℕ) → take {A = A} k [] ≡ []
taken zero = refl
taken (suc k) = refl

pub window : {A : Type 0} (xs : List A) (at many from to : ℕ) → from ≡ min at (length xs) → to ≡ from + min many (length xs - from) → take (to - from) (drop from xs) ≡ take many (drop at xs)
window [] zero many zero to e f = clip [] (to - 0) many (omega arith)
window [] (suc at) zero zero to e f = taken (to - 0)
window [] (suc at) (suc many) zero to e f = taken (to - 0)
window [] at many (suc from) to e f = absurd (omega arith)
window (x ∷ xs) zero many zero to e f = clip (x ∷ xs) (to - 0) many (omega arith)
window (x ∷ xs) zero many (suc from) to e f = absurd (omega arith)
window (x ∷ xs) (suc at) many zero to e f = absurd (omega arith)
window (x ∷ xs) (suc at) many (suc from) zero e f = absurd (omega arith)
window (x ∷ xs) (suc at) many (suc from) (suc to) e f = ap (λ k. take k (drop from xs)) (let same : suc to - suc from ≡ to - from = omega arith in same) ∙ window xs at many from to (omega arith) (omega arith)

-- ---- rows

pub rows_step : {A : Type 0} (n i : ℕ) (f : ℕ → List A) (w b : ℕ) → i < n → rows (n - i) f w b ≡ f b ++ rows (n - (i + 1)) f w (b + w)
rows_step n i f w b lt = ap (λ k. rows k f w b) (let e : n - i ≡ suc (n - (i + 1)) = omega arith in e)

pub any_step : (n i : ℕ) (f : ℕ → Bool) (w b : ℕ) → i < n → any_of (n - i) f w b ≡ (f b || any_of (n - (i + 1)) f w (b + w))
any_step n i f w b lt = ap (λ k. any_of k f w b) (let e : n - i ≡ suc (n - (i + 1)) = omega arith in e)

-- ---- objects

pub leave_past : (mem : CObjects) (k : ℕ) → length mem ≤ k → blocks.leave k mem ≡ mem
leave_past [] zero h = refl
leave_past [] (suc k) h = refl
leave_past (ob ∷ mem) zero h = absurd (omega arith)
leave_past (ob ∷ mem) (suc k) h = ap (λ l. ob ∷ l) (leave_past mem k (omega arith))

leave_next : (mem : CObjects) (k : ℕ) → blocks.leave (suc k) (at_place k blocks.ended mem) ≡ blocks.leave k mem
leave_next [] zero = refl
leave_next [] (suc k) = refl
leave_next (ob ∷ mem) zero = refl
leave_next (ob ∷ mem) (suc k) = ap (λ l. ob ∷ l) (leave_next mem k)

pub leave_step : (mem new whole : CObjects) (k : ℕ) → new ≡ at_place k blocks.ended mem → blocks.leave k mem ≡ whole → blocks.leave (k + 1) new ≡ whole
leave_step mem new whole k is h = ap (λ i. blocks.leave i new) (let e : k + 1 ≡ suc k = omega arith in e) ∙ ap (blocks.leave (suc k)) is ∙ leave_next mem k ∙ h

set_place : (mem : CObjects) (o : ℕ) (ob : CObject) (f : CObject → CObject) → slice_get mem o ≡ Some ob → slice_set mem o (f ob) ≡ at_place o f mem
set_place [] o ob f h = absurd (cc)
set_place (x ∷ mem) zero ob f h = ap (λ y. f y ∷ mem) (let e : ob ≡ x = cc in e)
set_place (x ∷ mem) (suc o) ob f h = ap (λ l. x ∷ l) (set_place mem o ob f h)

-- where the write is not refused
pub write_step : (t : Target) (mem : CObjects) (o : ℕ) (x : ℕ × CScalar) (v : ℤ) → None ≡ (memory_of t).refuses mem o x
    → (memory_of t).write mem o x v ≡ Ok (at_place o (λ ob. access.written (representation t) ob x v) mem)
write_step t mem o x v h = go (slice_get mem o) refl
  where
    change : CObject → CObject
    change = λ ob. access.written (representation t) ob x v

    go : (g : Option CObject) → slice_get mem o ≡ g → (memory_of t).write mem o x v ≡ Ok (at_place o (λ ob. access.written (representation t) ob x v) mem)
    go None e = absurd (let no : None ≡ access.refusal {N = Name} (representation t) None x = h ∙ ap (λ g. access.refusal {N = Name} (representation t) g x) e in cc)
    go (Some ob) e =
        let free : None ≡ access.write_fault (representation t) ob x = h ∙ ap (λ g. access.refusal {N = Name} (representation t) g x) e in
        ap (λ g. access.of_object g (λ a. access.and_then (access.write_object (representation t) a x v) (λ new. Ok (slice_set mem o new)))) e
        ∙ ap (λ f. access.and_then (access.unless f (Ok (access.written (representation t) ob x v))) (λ new. Ok (slice_set mem o new))) (sym free)
        ∙ ap Ok (set_place mem o ob (λ a. access.written (representation t) a x v) e)

-- ---- objects of the code

pub place_changed : (items : List Object) (o : ℕ) (old new : Object) (f : CObject → CObject) → old ≡ slice_index_or items o old → object_of new ≡ f (object_of old) → o < length items
    → map object_of (slice_set items o new) ≡ at_place o f (map object_of items)
place_changed [] o old new f is e lt = absurd (omega arith)
place_changed (x ∷ items) zero old new f is e lt = ap (λ y. y ∷ map object_of items) (e ∙ ap (λ y. f (object_of y)) is)
place_changed (x ∷ items) (suc o) old new f is e lt = ap (λ l. object_of x ∷ l) (place_changed items o old new f is e (omega arith))

pub place_past : (items : List Object) (o : ℕ) (f : CObject → CObject) → length items ≤ o → map object_of items ≡ at_place o f (map object_of items)
place_past [] zero f h = refl
place_past [] (suc o) f h = refl
place_past (x ∷ items) zero f h = absurd (omega arith)
place_past (x ∷ items) (suc o) f h = ap (λ l. object_of x ∷ l) (place_past items o f (omega arith))

-- ---- bytes

pub replicate_more : {A : Type 0} (k : ℕ) (x : A) → replicate k x ++ x ∷ [] ≡ replicate (k + 1) x
replicate_more k x = go k ∙ ap (λ n. replicate n x) (let e : suc k ≡ k + 1 = omega arith in e)
  where
    go : (n : ℕ) → replicate n x ++ x ∷ [] ≡ replicate (suc n) x
    go zero = refl
    go (suc n) = ap (λ l. x ∷ l) (go n)

-- ---- several scalars

module _ {M S V : Type 0} (read : M → ℕ → ℕ × S → Result V access.Fault) (mem : M) (o : ℕ) where
  pub read_more : (x : ℕ × S) (xs : List (ℕ × S)) (v : V) (out : List V) → read mem o x ≡ Ok v
      → access.and_then (read_each read mem o (x ∷ xs)) (λ vs. Ok (out ++ vs)) ≡ access.and_then (read_each read mem o xs) (λ vs. Ok ((out ++ v ∷ []) ++ vs))
  read_more x xs v out is =
      ap (λ r. access.and_then (access.and_then r (λ a. access.and_then (read_each read mem o xs) (λ vs. Ok (a ∷ vs)))) (λ vs. Ok (out ++ vs))) is
      ∙ go (read_each read mem o xs)
    where
      go : (r : Result (List V) access.Fault) → access.and_then (access.and_then r (λ vs. Ok (v ∷ vs))) (λ vs. Ok (out ++ vs)) ≡ access.and_then r (λ vs. Ok ((out ++ v ∷ []) ++ vs))
      go (Ok vs) = ap Ok (sym (append_assoc out (v ∷ []) vs))
      go (Err f) = refl

  pub read_stops : (x : ℕ × S) (xs : List (ℕ × S)) (f : access.Fault) (out : List V) → read mem o x ≡ Err f → access.and_then (read_each read mem o (x ∷ xs)) (λ vs. Ok (out ++ vs)) ≡ Err f
  read_stops x xs f out is = ap (λ r. access.and_then (access.and_then r (λ a. access.and_then (read_each read mem o xs) (λ vs. Ok (a ∷ vs)))) (λ vs. Ok (out ++ vs))) is

module _ {S V B : Type 0} (r : Representation S V B) where
  pub fill_end : (bs : List B) (xs : List (ℕ × S)) (vs : List V) → min (length xs) (length vs) ≡ 0 → with_scalars r bs xs vs ≡ bs
  fill_end bs [] vs h = refl
  fill_end bs (x ∷ xs) [] h = refl
  fill_end bs (x ∷ xs) (v ∷ vs) h = absurd (omega arith)

module _ {M S V : Type 0} (write : M → ℕ → ℕ × S → V → Result M access.Fault) where
  pub write_end : (mem : M) (o : ℕ) (xs : List (ℕ × S)) (vs : List V) → min (length xs) (length vs) ≡ 0 → write_each write mem o xs vs ≡ Ok mem
  write_end mem o [] vs h = refl
  write_end mem o (x ∷ xs) [] h = refl
  write_end mem o (x ∷ xs) (v ∷ vs) h = absurd (omega arith)

pub none_left : {A C : Type 0} (xs : List A) (vs : List C) (i : ℕ) → min (length xs) (length vs) ≤ i → min (length (drop i xs)) (length (drop i vs)) ≡ 0
none_left xs vs i h = omega (arith, length-drop i xs, length-drop i vs)

-- ---- rows, one after another

pub lay_more : {A : Type 0} (f : ℕ → List A) (w n k next after wide : ℕ) (out new whole : List A) → k < n → wide ≡ w → after ≡ next + wide → new ≡ out ++ f next
    → out ++ rows (n - k) f w next ≡ whole → new ++ rows (n - (k + 1)) f w after ≡ whole
lay_more f w n k next after wide out new whole lt e p is h =
    ap (λ l. l ++ rows (n - (k + 1)) f w after) is
    ∙ append_assoc out (f next) (rows (n - (k + 1)) f w after)
    ∙ ap (λ b. out ++ (f next ++ rows (n - (k + 1)) f w b)) (p ∙ ap (λ v. next + v) e)
    ∙ ap (λ l. out ++ l) (sym (rows_step n k f w next lt))
    ∙ h

pub any_more : (f : ℕ → Bool) (w n k next after wide : ℕ) (whole : Bool) → k < n → wide ≡ w → after ≡ next + wide → f next ≡ false
    → any_of (n - k) f w next ≡ whole → any_of (n - (k + 1)) f w after ≡ whole
any_more f w n k next after wide whole lt e p miss h =
    ap (λ b. any_of (n - (k + 1)) f w b) (p ∙ ap (λ v. next + v) e)
    ∙ sym (any_step n k f w next lt ∙ ap (λ b. b || any_of (n - (k + 1)) f w (next + w)) miss)
    ∙ h

pub blank_step : (bytes : List CodeByte) (k : ℕ) → map byte_of bytes ≡ replicate k Unset → map byte_of (bytes ++ code.Unset ∷ []) ≡ replicate (k + 1) Unset
blank_step bytes k h = map-append byte_of bytes (code.Unset ∷ []) ∙ ap (λ l. l ++ Unset ∷ []) h ∙ replicate_more k Unset
