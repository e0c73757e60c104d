-- What a tree with names of the language stands for is valid.
use Rattle.std.proofs.Common.{ℕ, ◌<◌, ◌^◌, List, [], ◌∷◌, ◌++◌, All, sym, ◌∙◌, subst}
use Rattle.std.specs.List.{AllZip, AllByRecursion, flat_map}
use Rattle.std.proofs.lemmas.List.Elements.{All-from_recursion, recursion_from_All}
use Rattle.std.proofs.lemmas.Slice.Zip.{AllZip-long}
use Rattle.ivory_tree.specs.Syntax.{ExprSyntax, Literal, CallSyntax, StmtSyntax, Call, ItemSyntax, BitsData, Struct, Global, Import, Procedure, ModuleSyntax}
use Rattle.ivory_tree.specs.Names as tree
use Rattle.ivory_tree.specs.TextLike.{TextLike}
use Rattle.ivory_lexer.specs.Tokens.{IsName}
use Rattle.first_form.specs.Stands.{name_of, names_of, ByteStands, CallStands, StmtStands, ProcStands, Stands}
use Rattle.first_form.specs.Valid.{AllDifferent, CallFits, Valid}
use Rattle.first_form.specs.declared.first.FirstModule.{FirstModule}
use Rattle.first_form.specs.declared.first.FirstImport.{FirstImport}
use Rattle.first_form.specs.declared.first.FirstProc.{FirstProc}
use Rattle.first_form.specs.declared.first.FirstCall.{FirstCall}
use Rattle.first_form.proofs.Agree.{same_names}

each_right : {A B : Type 0} {R : A → B → Type 0} (P : B → Type 0) → ((x : A) (y : B) → R x y → P y) → (xs : List A) (ys : List B) → AllZip R xs ys → AllByRecursion P ys
each_right P here [] [] all = tt
each_right P here [] (y ∷ ys) all = absurd all
each_right P here (x ∷ xs) [] all = absurd all
each_right P here (x ∷ xs) (y ∷ ys) all = (here x y all.0, each_right P here xs ys all.1)

-- ---- names

split_all : {A : Type 0} (P : A → Type 0) (xs ys : List A) → AllByRecursion P (xs ++ ys) → AllByRecursion P xs × AllByRecursion P ys
split_all P [] ys a = (tt, a)
split_all P (x ∷ xs) ys a = let w = split_all P xs ys a.1 in ((a.0, w.0), w.1)

-- an item's name is the first of the names in it
own_name : (item : ItemSyntax) → AllByRecursion IsName (tree.item_names item) → IsName (name_of item)
own_name (BitsData i) a = a.0
own_name (Struct i) a = a.0
own_name (Global i) a = a.0
own_name (Import h) a = a.0
own_name (Procedure p) a = a.0

own_names : (items : List ItemSyntax) → AllByRecursion IsName (flat_map tree.item_names items) → AllByRecursion IsName (names_of items)
own_names [] a = tt
own_names (i ∷ items) a = let w = split_all IsName (tree.item_names i) (flat_map tree.item_names items) a in (own_name i w.0, own_names items w.1)

-- ---- calls

byte_small : (e : ExprSyntax) (v : ℕ) → ByteStands e v → v < 2 ^ 8
byte_small (Literal s value) v h = h.1
byte_small e v h = absurd h

call_fits : (imports : List FirstImport) (c : CallSyntax) (d : FirstCall) → CallStands imports c d → CallFits imports d
call_fits imports c d s = record {
  target = s.target;
  found = s.found;
  counted = AllZip-long ByteStands c.args d.values s.values ∙ sym s.counted;
  small = All-from_recursion (λ v. v < 2 ^ 8) d.values (each_right (λ v. v < 2 ^ 8) byte_small c.args d.values s.values);
}

stmt_fits : (imports : List FirstImport) (s : StmtSyntax) (d : FirstCall) → StmtStands imports s d → CallFits imports d
stmt_fits imports (Call s c) d h = call_fits imports c d h
stmt_fits imports s d h = absurd h

proc_fits : (imports : List FirstImport) (item : ItemSyntax) (q : FirstProc) → ProcStands imports item q → All (CallFits imports) q.calls
proc_fits imports (Procedure p) q s = All-from_recursion (CallFits imports) q.calls (each_right (CallFits imports) (stmt_fits imports) s.stmts q.calls s.calls)
proc_fits imports item q s = absurd s

pub valid : (t : ModuleSyntax) (m : FirstModule) → TextLike IsName t → Stands t m → Valid m
valid t m text s =
    let names = same_names t m s in
    let named = recursion_from_All IsName (tree.module_names t) text.names in
    record {
      named = subst (λ ns. All IsName ns) (sym names) (All-from_recursion IsName (names_of t.items) (own_names t.items named.1));
      different = subst (λ ns. AllDifferent ns) (sym names) s.different;
      calls = All-from_recursion (λ (q : FirstProc). All (CallFits m.imports) q.calls) m.procs
          (each_right (λ (q : FirstProc). All (CallFits m.imports) q.calls) (proc_fits m.imports) s.procs m.procs s.each_proc);
    }
