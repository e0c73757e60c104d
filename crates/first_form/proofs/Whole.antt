-- What a whole tree stands for, from what its imports and its procedures stand for.
use Rattle.std.proofs.Common.{◌≡◌, ℕ, ◌<◌, List, ◌++◌, length, map, take, drop, All, sym, ap, ◌∙◌, subst, arith, length-append}
use Rattle.std.specs.List.{AllZip, prefix_len}
use Rattle.std.proofs.lemmas.List.{length-map}
use Rattle.std.proofs.lemmas.List.Elements.{All-take}
use Rattle.std.proofs.lemmas.Slice.Zip.{AllZip-long}
use Rattle.std.specs.List.{drop-map}
use Rattle.ivory_tree.specs.Nodes.{item_node, node_count, nodes_count, module_nodes}
use Rattle.ivory_tree.specs.View.{item_of, module_of}
use Rattle.ivory_tree.specs.declared.Item.{Item}
use Rattle.ivory_tree.specs.declared.Module.{Module}
use Rattle.first_form.specs.Parts.{is_import}
use Rattle.first_form.specs.Stands.{names_of, ImportStands, ProcStands, Stands}
use Rattle.first_form.specs.Tables.{ImportsFirst}
use Rattle.first_form.specs.Valid.{AllDifferent}
use Rattle.first_form.specs.declared.first.FirstModule.{FirstModule}
use Rattle.first_form.specs.declared.first.FirstImport.{FirstImport}
use Rattle.first_form.specs.declared.first.FirstProc.{FirstProc}
use Rattle.first_form.proofs.Agree.{first_names, same_imports}
use Rattle.first_form.proofs.Few.{few_items, each_few}
use Rattle.first_form.proofs.Split.{split_is, prefix_seen, take_seen, parted}

-- these are the names of the tree's items, the imports that stand first, and the other items
pub record Parted (t : Module) (names : List (List ℕ)) (k : ℕ) (front back : List Item) : Type 0 where
  pub named : names ≡ names_of (map item_of t.items)
  pub counted : k ≡ prefix_len (λ item. is_import (item_of item)) t.items
  pub first : front ≡ take k t.items
  pub others : back ≡ drop k t.items

pub parted_by : (t : Module) (all : List Item) (names table : List (List ℕ)) (k : ℕ) (front back : List Item) → all ≡ t.items → names ≡ names_of (map item_of all) → table ≡ names
    → k ≡ prefix_len (λ item. is_import (item_of item)) all → front ≡ take k all → back ≡ drop k all → Parted t table k front back
parted_by t all names table k front back e named same counted first others = record {
  named = same ∙ named ∙ ap (λ xs. names_of (map item_of xs)) e;
  counted = counted ∙ ap (prefix_len (λ item. is_import (item_of item))) e;
  first = first ∙ ap (take k) e;
  others = others ∙ ap (drop k) e;
}

module _ (t : Module) (names : List (List ℕ)) (k : ℕ) (front back : List Item) (parts : Parted t names k front back) where
  in_order : map item_of t.items ≡ map item_of front ++ map item_of back
  in_order = parted item_of k t.items ∙ ap (λ xs. map item_of xs ++ map item_of (drop k t.items)) (sym parts.first) ∙ ap (λ xs. map item_of front ++ map item_of xs) (sym parts.others)

  pub whole_stands : (is : List FirstImport) (qs : List FirstProc) → AllDifferent names → AllZip (ImportStands names) (map item_of front) is → AllZip (ProcStands is) (map item_of back) qs
      → Stands (module_of t) (record { imports = is; procs = qs })
  whole_stands is qs different each_import each_proc = record {
    different = subst (λ ns. AllDifferent ns) parts.named different;
    imports = map item_of front;
    procs = map item_of back;
    in_order = in_order;
    each_import = subst (λ ns. AllZip (ImportStands ns) (map item_of front) is) parts.named each_import;
    each_proc = each_proc;
  }

  pub names_refused : (AllDifferent names → ⊥) → (m : FirstModule) → Stands (module_of t) m → ⊥
  names_refused same m s = same (subst (λ ns. AllDifferent ns) (sym parts.named) s.different)

  split : (m : FirstModule) (s : Stands (module_of t) m) → (s.imports ≡ map item_of front) × (s.procs ≡ map item_of back)
  split m s =
      let at = split_is (names_of (map item_of t.items)) m.imports (map item_of t.items) s.imports s.procs m.imports m.procs s.in_order s.each_import s.each_proc in
      let same : prefix_len is_import (map item_of t.items) ≡ k = sym (parts.counted ∙ prefix_seen item_of is_import t.items) in (
        at.front ∙ ap (λ n. take n (map item_of t.items)) same ∙ take_seen item_of k t.items ∙ ap (map item_of) (sym parts.first),
        at.back ∙ ap (λ n. drop n (map item_of t.items)) same ∙ drop-map item_of k t.items ∙ ap (map item_of) (sym parts.others),
      )

  its_imports : (m : FirstModule) → Stands (module_of t) m → AllZip (ImportStands names) (map item_of front) m.imports
  its_imports m s = subst (λ xs. AllZip (ImportStands names) xs m.imports) (split m s).0 (subst (λ ns. AllZip (ImportStands ns) s.imports m.imports) (sym parts.named) s.each_import)

  pub imports_refused : ((is : List FirstImport) → AllZip (ImportStands names) (map item_of front) is → ⊥) → (m : FirstModule) → Stands (module_of t) m → ⊥
  imports_refused none m s = none m.imports (its_imports m s)

  pub procs_refused : (is : List FirstImport) → AllZip (ImportStands names) (map item_of front) is → ((qs : List FirstProc) → AllZip (ProcStands is) (map item_of back) qs → ⊥)
      → (m : FirstModule) → Stands (module_of t) m → ⊥
  procs_refused is all none m s =
      let same = same_imports names names (map item_of front) m.imports is (its_imports m s) all in
      none m.procs (subst (λ xs. AllZip (ProcStands is) xs m.procs) (split m s).1 (subst (λ js. AllZip (ProcStands js) s.procs m.procs) same s.each_proc))

  pub imports_named_first : (is : List FirstImport) → AllZip (ImportStands names) (map item_of front) is → ImportsFirst is names
  imports_named_first is all = subst (λ ns. ImportsFirst is ns) (sym parts.named) (first_names names (map item_of t.items) (map item_of front) (map item_of back) is in_order all)

  pub each_import_few : (most : ℕ) → nodes_count (module_nodes (module_of t)) < most → All (λ item. node_count (item_node (item_of item)) < most) front
  each_import_few most few = subst (λ xs. All (λ item. node_count (item_node (item_of item)) < most) xs) (sym parts.first) (All-take (λ item. node_count (item_node (item_of item)) < most) k t.items (each_few t.items most few))

  pub imports_few : (most : ℕ) (is : List FirstImport) → nodes_count (module_nodes (module_of t)) < most → AllZip (ImportStands names) (map item_of front) is → length is < most
  imports_few most is few all =
      omega (arith, few_items t.items most few, AllZip-long (ImportStands names) (map item_of front) is all, ap length in_order, length-append (map item_of front) (map item_of back), length-map t.items item_of)
