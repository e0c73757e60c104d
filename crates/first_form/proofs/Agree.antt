-- The names of a module are those of the tree that stands for it, and one tree's parts stand for one thing each.
use Rattle.std.proofs.Common.{◌≡◌, ℕ, pos, List, [], ◌∷◌, ◌++◌, length, map, take, Some, refl, sym, ap, ◌∙◌, subst}
use Rattle.std.specs.List.{AllZip}
use Rattle.std.proofs.lemmas.List.{map-append, length-map}
use Rattle.std.proofs.Math.Seq.{take-append_seam}
use Rattle.ivory_tree.specs.Syntax.{ExprSyntax, Literal, CallSyntax, StmtSyntax, Call, ProcSyntax, ItemSyntax, Import, Procedure, ModuleSyntax, Braces}
use Rattle.ivory_tree.specs.View.{stmts_from}
use Rattle.first_form.specs.Stands.{name_of, names_of, ByteStands, CallStands, StmtStands, ImportStands, BodyStands, ProcStands, Stands}
use Rattle.first_form.specs.Tables.{ImportsFirst}
use Rattle.first_form.specs.Valid.{AllDifferent, item_names}
use Rattle.first_form.specs.declared.first.FirstModule.{FirstModule}
use Rattle.first_form.specs.declared.first.FirstImport.{FirstImport}
use Rattle.first_form.specs.declared.first.FirstProc.{FirstProc}
use Rattle.first_form.specs.declared.first.FirstCall.{FirstCall}
use Rattle.first_form.proofs.Bodies.{stmts_same}
use Rattle.first_form.proofs.Calls.{place_of_call}
use Rattle.first_form.proofs.Split.{split_is}

-- ---- two lists, place by place

each_one : {A B : Type 0} {R S : A → B → Type 0} → ((x : A) (y z : B) → R x y → S x z → y ≡ z) → (xs : List A) (ys zs : List B) → AllZip R xs ys → AllZip S xs zs → ys ≡ zs
each_one one [] [] [] a b = refl
each_one one [] [] (z ∷ zs) a b = absurd b
each_one one [] (y ∷ ys) zs a b = absurd a
each_one one (x ∷ xs) [] zs a b = absurd a
each_one one (x ∷ xs) (y ∷ ys) [] a b = absurd b
each_one one (x ∷ xs) (y ∷ ys) (z ∷ zs) a b = ap (λ w. w ∷ ys) (one x y z a.0 b.0) ∙ ap (λ ws. z ∷ ws) (each_one one xs ys zs a.1 b.1)

each_same : {A B : Type 0} {R : A → B → Type 0} (f : A → List ℕ) (g : B → List ℕ) → ((x : A) (y : B) → R x y → g y ≡ f x) → (xs : List A) (ys : List B) → AllZip R xs ys → map g ys ≡ map f xs
each_same f g here [] [] all = refl
each_same f g here [] (y ∷ ys) all = absurd all
each_same f g here (x ∷ xs) [] all = absurd all
each_same f g here (x ∷ xs) (y ∷ ys) all = ap (λ n. n ∷ map g ys) (here x y all.0) ∙ ap (λ ns. f x ∷ ns) (each_same f g here xs ys all.1)

-- ---- names

import_named : (names : List (List ℕ)) (item : ItemSyntax) (i : FirstImport) → ImportStands names item i → i.name ≡ name_of item
import_named names (Import h) i s = s.named
import_named names item i s = absurd s

proc_named : (imports : List FirstImport) (item : ItemSyntax) (q : FirstProc) → ProcStands imports item q → q.name ≡ name_of item
proc_named imports (Procedure p) q s = s.named
proc_named imports item q s = absurd s

pub imports_named : (names : List (List ℕ)) (items : List ItemSyntax) (is : List FirstImport) → AllZip (ImportStands names) items is → map (λ (i : FirstImport). i.name) is ≡ names_of items
imports_named names items is all = each_same name_of (λ (i : FirstImport). i.name) (import_named names) items is all

pub same_names : (t : ModuleSyntax) (m : FirstModule) → Stands t m → item_names m ≡ names_of t.items
same_names t m s =
    ap (λ ns. ns ++ map (λ (q : FirstProc). q.name) m.procs) (imports_named (names_of t.items) s.imports m.imports s.each_import)
    ∙ ap (λ ns. names_of s.imports ++ ns) (each_same name_of (λ (q : FirstProc). q.name) (proc_named m.imports) s.procs m.procs s.each_proc)
    ∙ sym (ap names_of s.in_order ∙ map-append name_of s.imports s.procs)

-- the names of all items begin with those of the imports
pub first_names : (names : List (List ℕ)) (items front back : List ItemSyntax) (is : List FirstImport) → items ≡ front ++ back → AllZip (ImportStands names) front is → ImportsFirst is (names_of items)
first_names names items front back is e all =
    let named = imports_named names front is all in
    let seam : names_of items ≡ map (λ (i : FirstImport). i.name) is ++ names_of back = ap names_of e ∙ map-append name_of front back ∙ ap (λ ns. ns ++ names_of back) (sym named) in
    ap (take (length is)) seam
    ∙ ap (λ n. take n (map (λ (i : FirstImport). i.name) is ++ names_of back)) (sym (length-map is (λ (i : FirstImport). i.name)))
    ∙ take-append_seam (map (λ (i : FirstImport). i.name) is) (names_of back)

-- ---- one thing each

one_import : (names others : List (List ℕ)) (item : ItemSyntax) (i j : FirstImport) → ImportStands names item i → ImportStands others item j → i ≡ j
one_import names others (Import h) i j s r =
    let with_name : List ℕ → FirstImport = λ n. record { name = n; params = i.params } in
    let with_params : ℕ → FirstImport = λ n. record { name = j.name; params = n } in
    ap with_name (s.named ∙ sym r.named) ∙ ap with_params (s.counted ∙ sym r.counted)
one_import names others item i j s r = absurd s

pub same_imports : (names others : List (List ℕ)) (items : List ItemSyntax) (is js : List FirstImport) → AllZip (ImportStands names) items is → AllZip (ImportStands others) items js → is ≡ js
same_imports names others items is js a b = each_one (one_import names others) items is js a b

one_byte : (e : ExprSyntax) (v w : ℕ) → ByteStands e v → ByteStands e w → v ≡ w
one_byte (Literal s value) v w a b = let both : pos v ≡ pos w = sym a.0 ∙ b.0 in cc
one_byte e v w a b = absurd a

module _ (names : List (List ℕ)) (imports : List FirstImport) (first : ImportsFirst imports names) (different : AllDifferent names) where
  one_call : (c : CallSyntax) (d e : FirstCall) → CallStands imports c d → CallStands imports c e → d ≡ e
  one_call c d e s r =
      let places : Some d.import ≡ Some e.import = sym (place_of_call imports names c d first different s) ∙ place_of_call imports names c e first different r in
      let place : d.import ≡ e.import = cc in
      let with_place : ℕ → FirstCall = λ n. record { import = n; values = d.values } in
      let with_values : List ℕ → FirstCall = λ vs. record { import = e.import; values = vs } in
      ap with_place place ∙ ap with_values (each_one one_byte c.args d.values e.values s.values r.values)

  one_stmt : (s : StmtSyntax) (d e : FirstCall) → StmtStands imports s d → StmtStands imports s e → d ≡ e
  one_stmt (Call s c) d e a b = one_call c d e a b
  one_stmt s d e a b = absurd a

  one_body : (p : ProcSyntax) (q r : FirstProc) → BodyStands imports p q → BodyStands imports p r → q ≡ r
  one_body p q r s u =
      let bodies : Braces s.span (stmts_from s.stmts) ≡ Braces u.span (stmts_from u.stmts) = sym s.body ∙ u.body in
      let same : stmts_from s.stmts ≡ stmts_from u.stmts = cc in
      let calls = subst (λ xs. AllZip (StmtStands imports) xs q.calls) (stmts_same s.stmts u.stmts same) s.calls in
      let with_name : List ℕ → FirstProc = λ n. record { name = n; calls = q.calls } in
      let with_calls : List FirstCall → FirstProc = λ cs. record { name = r.name; calls = cs } in
      ap with_name (s.named ∙ sym u.named) ∙ ap with_calls (each_one one_stmt u.stmts q.calls r.calls calls u.calls)

  one_proc : (item : ItemSyntax) (q r : FirstProc) → ProcStands imports item q → ProcStands imports item r → q ≡ r
  one_proc (Procedure p) q r a b = one_body p q r a b
  one_proc item q r a b = absurd a

  pub same_procs : (items : List ItemSyntax) (qs rs : List FirstProc) → AllZip (ProcStands imports) items qs → AllZip (ProcStands imports) items rs → qs ≡ rs
  same_procs items qs rs a b = each_one one_proc items qs rs a b

pub one_module : (t : ModuleSyntax) (m n : FirstModule) → Stands t m → Stands t n → m ≡ n
one_module t m n s r =
    let names = names_of t.items in
    let a = split_is names m.imports t.items s.imports s.procs m.imports m.procs s.in_order s.each_import s.each_proc in
    let b = split_is names n.imports t.items r.imports r.procs n.imports n.procs r.in_order r.each_import r.each_proc in
    let imports : m.imports ≡ n.imports = same_imports names names r.imports m.imports n.imports (subst (λ xs. AllZip (ImportStands names) xs m.imports) (a.front ∙ sym b.front) s.each_import) r.each_import in
    let procs = subst (λ is. AllZip (ProcStands is) s.procs m.procs) imports s.each_proc in
    let same_items = subst (λ xs. AllZip (ProcStands n.imports) xs m.procs) (a.back ∙ sym b.back) procs in
    let first = first_names names t.items r.imports r.procs n.imports r.in_order r.each_import in
    let with_imports : List FirstImport → FirstModule = λ is. record { imports = is; procs = m.procs } in
    let with_procs : List FirstProc → FirstModule = λ ps. record { imports = n.imports; procs = ps } in
    ap with_imports imports ∙ ap with_procs (same_procs names n.imports first r.different r.procs m.procs n.procs same_items r.each_proc)
