-- What a module of the form of a text stands for is a valid core.
use Rattle.std.proofs.Common.{◌≡◌, ℕ, zero, suc, List, [], ◌∷◌, ◌++◌, map, length, take, slice_get, Some, IsTrue, refl, sym, ◌∙◌, ap, subst, arith, append_assoc, append-nil}
use Rattle.std.proofs.lemmas.List.Elements.{All-nil}
use Rattle.iv_words.specs.declared.IntKind.{IntKind}
use Rattle.ivory_tree.specs.Syntax.{ItemSyntax}
use Rattle.ivory_tree.specs.declared.items.BitsItem.{BitsItem}
use Rattle.area_types.specs.Tables.{structs_of, is_table}
use Rattle.bit_data.specs.declared.BitLayout.{BitLayout}
use Rattle.core_tree.specs.Syntax.{AreaCore, ImportCore, ProcCore, ModuleCore}
use Rattle.core_tree.specs.TypedItems.{ProcTyped}
use Rattle.source_types.specs.Environments.{Earlier, nothing_earlier, words}
use Rattle.typing_rules.specs.WellTyped as rule
use Rattle.typing_rules.specs.WellTyped.{StandItems, Stands}
use Rattle.typing_laws.proofs.Lookups.{some_same, map_last}
use Rattle.core_validity.specs.Laws.{StandingIsValid}
use Rattle.core_validity.proofs.Known.{HasAreas, Known}
use Rattle.core_validity.proofs.Items.{Whole, SoFar, ProcsFrom, bits_laid, items_table, items_fine}
use Rattle.core_validity.proofs.Apart.{names_apart}

-- ---- words

-- the words of the layouts are those of the bit data
words_are : {names : List (List ℕ)} {earlier end : Earlier} {items : List ItemSyntax} {bs : List BitLayout} {as' : List AreaCore} {is : List ImportCore} {ps : List ProcCore} → StandItems names earlier items end bs as' is ps
    → words end ≡ words earlier ++ map (λ l. l.word) bs
words_are (rule.no_items {earlier = earlier}) = sym (append-nil (words earlier))
words_are (rule.bits {earlier = earlier} {i = i} {b = b} {bs = bs} s more) =
    words_are more ∙ ap (λ xs. xs ++ map (λ l. l.word) bs) (map_last (λ (x : BitsItem). x.word) earlier.bits i)
    ∙ append_assoc (words earlier) (i.word ∷ []) (map (λ l. l.word) bs)
    ∙ ap (λ (x : IntKind). words earlier ++ x ∷ map (λ l. l.word) bs) (sym (bits_laid earlier i b s).word)
words_are (rule.struct s more) = words_are more
words_are (rule.area s more) = words_are more
words_are (rule.import s more) = words_are more
words_are (rule.procedure s more) = words_are more

-- ---- procedures, each by its number

take_next : {A : Type 0} (xs : List A) (ys : List A) → take (length xs) (xs ++ ys) ≡ xs
take_next [] ys = refl
take_next (x ∷ xs) ys = ap (λ zs. x ∷ zs) (take_next xs ys)

-- the procedure of that number, after those before it
at_number : (m : ModuleCore) (done ps : List ProcCore) (j : ℕ) (p : ProcCore) → ProcsFrom m done ps → slice_get ps j ≡ Some p → ProcTyped m (done ++ take j ps) p
at_number m done [] j p h e = let no : ⊥ = cc in absurd no
at_number m done (q ∷ ps) zero p h e = subst (λ xs. ProcTyped m xs p) (sym (append-nil done)) (subst (ProcTyped m done) (some_same e) h.0)
at_number m done (q ∷ ps) (suc j) p h e = subst (λ xs. ProcTyped m xs p) (append_assoc done (q ∷ []) (take j ps)) (at_number m (done ++ q ∷ []) ps j p h.1 e)

-- ---- the whole

none_known : (m : ModuleCore) → Known m [] nothing_earlier
none_known m = record {
  words_begin = record { rest = m.structs.words; is = refl };
  bits = tt;
  structs_begin = record { rest = structs_of m.structs; is = refl };
  struct_fields = All-nil (HasAreas m.structs);
  areas = tt;
  imports = tt;
  procedures = tt;
  determined = tt;
}

none_so_far : (m : ModuleCore) → SoFar m nothing_earlier [] [] [] []
none_so_far m = record { known = none_known m; table = refl; layouts = refl; areas = refl; imports = refl; procs = refl }

pub standing_is_valid : StandingIsValid
standing_is_valid m core formed few stands =
    let table_at_end = items_table stands.items formed.items (omega (arith, few)) refl in
    let table : IsTrue (is_table (structs_of core.structs) core.structs.words) =
    subst (λ ss. IsTrue (is_table ss core.structs.words)) (sym stands.structs) (subst (λ ws. IsTrue (is_table stands.end.structs ws)) (sym stands.words) table_at_end) in
    let whole : Whole core stands.end = record { structs = stands.structs; words_are = stands.words; table = table } in
    let fine = items_fine stands.items formed.items (omega (arith, few)) core whole [] [] [] [] (none_so_far core) refl refl refl in
    record {
      table = table;
      words = sym (words_are stands.items) ∙ sym stands.words;
      layouts = fine.layouts;
      names = names_apart core m.items stands.end stands.items stands.structs fine.layouts;
      areas = fine.areas;
      imports = fine.imports;
      procs = λ k p e. at_number core [] core.procs k p fine.procs e;
      sites = stands.sites;
      numbered = stands.numbered;
    }
