-- Where the imports end: a tree that stands for a module has as many imports first as the code counts, and only procedures after them.
use Rattle.std.proofs.Common.{◌≡◌, ℕ, zero, suc, ◌+◌, Bool, true, false, cond, List, [], ◌∷◌, ◌++◌, map, take, drop, refl, sym, ap, ◌∙◌, subst, arith}
use Rattle.std.specs.List.{AllZip, prefix_len}
use Rattle.std.proofs.lemmas.List.{take-append-drop, map-append}
use Rattle.ivory_tree.specs.Syntax.{ItemSyntax, Import, Procedure}
use Rattle.first_form.specs.Parts.{is_import}
use Rattle.first_form.specs.Stands.{ImportStands, ProcStands}
use Rattle.first_form.specs.declared.first.FirstImport.{FirstImport}
use Rattle.first_form.specs.declared.first.FirstProc.{FirstProc}

import_test : (names : List (List ℕ)) (item : ItemSyntax) (i : FirstImport) → ImportStands names item i → is_import item ≡ true
import_test names (Import h) i s = refl
import_test names item i s = absurd s

proc_test : (imports : List FirstImport) (item : ItemSyntax) (q : FirstProc) → ProcStands imports item q → is_import item ≡ false
proc_test imports (Procedure p) q s = refl
proc_test imports item q s = absurd s

-- the imports and the procedures are the items before the k-th and those from it on
pub record IsSplit (items : List ItemSyntax) (k : ℕ) (is ps : List ItemSyntax) : Type 0 where
  pub front : is ≡ take k items
  pub back : ps ≡ drop k items

module _ (names : List (List ℕ)) (imports : List FirstImport) where
  -- no import stands first
  none_first : (ps : List ItemSyntax) (qs : List FirstProc) → AllZip (ProcStands imports) ps qs → prefix_len is_import ps ≡ 0
  none_first [] qs all = refl
  none_first (p ∷ ps) [] all = absurd all
  none_first (p ∷ ps) (q ∷ qs) all = ap (λ b. cond b (1 + prefix_len is_import ps) 0) (proc_test imports p q all.0)

  all_first : (is ps : List ItemSyntax) (ms : List FirstImport) (qs : List FirstProc) → AllZip (ImportStands names) is ms → AllZip (ProcStands imports) ps qs → IsSplit (is ++ ps) (prefix_len is_import (is ++ ps)) is ps
  all_first [] ps ms qs all procs = subst (λ k. IsSplit ps k [] ps) (sym (none_first ps qs procs)) (record { front = refl; back = refl })
  all_first (i ∷ is) ps [] qs all procs = absurd all
  all_first (i ∷ is) ps (m ∷ ms) qs all procs =
      let w = all_first is ps ms qs all.1 procs in
      let more : prefix_len is_import (i ∷ (is ++ ps)) ≡ suc (prefix_len is_import (is ++ ps)) = ap (λ b. cond b (1 + prefix_len is_import (is ++ ps)) 0) (import_test names i m all.0) ∙ omega arith in
      subst (λ k. IsSplit (i ∷ (is ++ ps)) k (i ∷ is) ps) (sym more) (record { front = ap (λ xs. i ∷ xs) w.front; back = w.back })

  pub split_is : (items is ps : List ItemSyntax) (ms : List FirstImport) (qs : List FirstProc) → items ≡ is ++ ps → AllZip (ImportStands names) is ms → AllZip (ProcStands imports) ps qs → IsSplit items (prefix_len is_import items) is ps
  split_is items is ps ms qs e all procs = subst (λ xs. IsSplit xs (prefix_len is_import xs) is ps) (sym e) (all_first is ps ms qs all procs)

-- ---- items that are seen through their view

pub prefix_seen : {X Y : Type 0} (f : X → Y) (test : Y → Bool) (xs : List X) → prefix_len (λ x. test (f x)) xs ≡ prefix_len test (map f xs)
prefix_seen f test [] = refl
prefix_seen f test (x ∷ xs) = ap (λ n. cond (test (f x)) (1 + n) 0) (prefix_seen f test xs)

pub take_seen : {X Y : Type 0} (f : X → Y) (k : ℕ) (xs : List X) → take k (map f xs) ≡ map f (take k xs)
take_seen f zero xs = refl
take_seen f (suc k) [] = refl
take_seen f (suc k) (x ∷ xs) = ap (λ ys. f x ∷ ys) (take_seen f k xs)

pub parted : {X Y : Type 0} (f : X → Y) (k : ℕ) (xs : List X) → map f xs ≡ map f (take k xs) ++ map f (drop k xs)
parted f k xs = ap (map f) (sym (take-append-drop k xs)) ∙ map-append f (take k xs) (drop k xs)
