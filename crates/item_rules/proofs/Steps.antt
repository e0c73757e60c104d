-- Rows of fields, parameters, contracts and items, taken apart from the front.
use Rattle.std.proofs.Common.{◌≡◌, ℕ, ◌+◌, ◌<◌, List, [], ◌∷◌, ◌++◌, length, get_or, take, drop, drop-cons, add-one, map, refl, ap, sym, ◌∙◌}
use Rattle.std.specs.Prelude.{Option, Some, None}
use Rattle.std.proofs.lemmas.List.{map_more}
use Rattle.iv_words.specs.declared.Span.{Span}
use Rattle.ivory_tree.specs.Syntax.{Word, FieldSyntax, ParamSyntax, ContractSyntax, ItemSyntax, BitsData, Struct, Global, Import, Procedure}
use Rattle.ivory_tree.specs.View.{field_of, param_of, contract_of, item_of}
use Rattle.ivory_tree.specs.declared.items.BitField.{BitField}
use Rattle.ivory_tree.specs.declared.items.AreaField.{AreaField}
use Rattle.ivory_tree.specs.declared.items.Param.{Param}
use Rattle.ivory_tree.specs.declared.items.Contract.{Contract}
use Rattle.ivory_tree.specs.declared.items.Item.{Item}
use Rattle.source_types.specs.Environments.{Earlier}
use Rattle.source_types.specs.Items.{after, item_names}
use Rattle.rule_faults.specs.Contexts.{Context, outside}
use Rattle.rule_faults.specs.FirstFault.{first_of}
use Rattle.rule_faults.specs.ItemRows.{bit_fields_row, fields_row, params_row, with_params, contracts_row, items_row}
use Rattle.rule_faults.specs.Nodes.{Boundary}
use Rattle.rule_checker.specs.Faults.{either, at_place}
use Rattle.rule_checker.specs.Rows.{least}
use Rattle.rule_checker.proofs.Patterns.{first_joined}
use Rattle.item_rules.specs.Conditions.{condition_row}
use Rattle.item_rules.specs.Fields.{bit_names, field_names, field_row}
use Rattle.item_rules.specs.Names.{names_of}
use Rattle.item_rules.specs.Params.{param_row, with_param}
use Rattle.item_rules.specs.Rules.{bit_field_rows}
use Rattle.item_rules.specs.Within.{item_row}
use Rattle.item_rules.proofs.NodeRows.{bit_field_told, contract_told}

pub rest_of : {X Y : Type 0} (f : X → Y) (xs : List X) (i : ℕ) (x : X) → i < length xs → x ≡ get_or xs i x → map f (drop i xs) ≡ f x ∷ map f (drop (i + 1) xs)
rest_of f xs i x h e =
    let cut : drop i xs ≡ get_or xs i x ∷ drop (i + 1) xs = rw add-one (drop-cons xs i x h) in
    ap (map f) cut ∙ ap (λ y. f y ∷ map f (drop (i + 1) xs)) (sym e)

pub front_of : {X Y : Type 0} (f : X → Y) (xs : List X) (i : ℕ) (x : X) → i < length xs → x ≡ get_or xs i x → map f (take i xs) ++ f x ∷ [] ≡ map f (take (i + 1) xs)
front_of f xs i x h e = ap (λ y. map f (take i xs) ++ f y ∷ []) e ∙ sym (map_more f xs i x h)

same_list : {X : Type 0} (xs : List X) (i : ℕ) (x : X) → i < length xs → x ≡ get_or xs i x → drop i xs ≡ x ∷ drop (i + 1) xs
same_list xs i x h e =
    let cut : drop i xs ≡ get_or xs i x ∷ drop (i + 1) xs = rw add-one (drop-cons xs i x h) in
    cut ∙ ap (λ y. y ∷ drop (i + 1) xs) (sym e)

pub either_moves : {A : Type 0} (x y z : Option A) → either (either x y) z ≡ either x (either y z)
either_moves None y z = refl
either_moves (Some x) y z = refl

pub at_place_moves : (o : Option ℕ) (s : Span) (rest : Option (ℕ × Span)) → at_place o s rest ≡ either (at_place o s None) rest
at_place_moves None s rest = refl
at_place_moves (Some k) s rest = refl

-- ---- fields

pub next_bit_field : (fs : List BitField) (i : ℕ) (f : BitField) → i < length fs → f ≡ get_or fs i f
    → first_of (bit_fields_row (bit_names (take i fs)) (drop i fs)) ≡ either (at_place (least (bit_field_rows (bit_names (take i fs)) f)) f.span None) (first_of (bit_fields_row (bit_names (take (i + 1) fs)) (drop (i + 1) fs)))
next_bit_field fs i f h e =
    ap (λ (r : List BitField). first_of (bit_fields_row (bit_names (take i fs)) r)) (same_list fs i f h e)
    ∙ bit_field_told (bit_names (take i fs)) f (bit_fields_row (bit_names (take i fs) ++ f.name.text ∷ []) (drop (i + 1) fs))
    ∙ at_place_moves (least (bit_field_rows (bit_names (take i fs)) f)) f.span (first_of (bit_fields_row (bit_names (take i fs) ++ f.name.text ∷ []) (drop (i + 1) fs)))
    ∙ ap (λ (names : List Word). either (at_place (least (bit_field_rows (bit_names (take i fs)) f)) f.span None) (first_of (bit_fields_row names (drop (i + 1) fs)))) (front_of (λ (g : BitField). g.name.text) fs i f h e)

names_same : (fs : List AreaField) → field_names (map field_of fs) ≡ map (λ (f : AreaField). f.name.text) fs
names_same [] = refl
names_same (f ∷ fs) = ap (λ (ws : List Word). f.name.text ∷ ws) (names_same fs)

names_more : (fs : List AreaField) (i : ℕ) (f : AreaField) → i < length fs → f ≡ get_or fs i f → field_names (map field_of (take i fs)) ++ f.name.text ∷ [] ≡ field_names (map field_of (take (i + 1) fs))
names_more fs i f h e =
    ap (λ (ws : List Word). ws ++ f.name.text ∷ []) (names_same (take i fs)) ∙ front_of (λ (g : AreaField). g.name.text) fs i f h e ∙ sym (names_same (take (i + 1) fs))

pub next_field : (x : Earlier) (fs : List AreaField) (i : ℕ) (f : AreaField) → i < length fs → f ≡ get_or fs i f
    → first_of (fields_row x (field_names (map field_of (take i fs))) (map field_of (drop i fs))) ≡ either (first_of (field_row x (field_names (map field_of (take i fs))) (field_of f))) (first_of (fields_row x (field_names (map field_of (take (i + 1) fs))) (map field_of (drop (i + 1) fs))))
next_field x fs i f h e =
    ap (λ (r : List FieldSyntax). first_of (fields_row x (field_names (map field_of (take i fs))) r)) (rest_of field_of fs i f h e)
    ∙ first_joined (field_row x (field_names (map field_of (take i fs))) (field_of f)) (fields_row x (field_names (map field_of (take i fs)) ++ f.name.text ∷ []) (map field_of (drop (i + 1) fs)))
    ∙ ap (λ (names : List Word). either (first_of (field_row x (field_names (map field_of (take i fs))) (field_of f))) (first_of (fields_row x names (map field_of (drop (i + 1) fs))))) (names_more fs i f h e)

-- ---- parameters

params_step : (c : Context) (b : Boundary) (p : ParamSyntax) (ps : List ParamSyntax) → first_of (params_row c b (p ∷ ps)) ≡ either (first_of (param_row c b p)) (first_of (params_row (with_param c p) b ps))
params_step c b p ps = first_joined (param_row c b p) (params_row (with_param c p) b ps)

pub next_param : (c : Context) (b : Boundary) (ps : List Param) (i : ℕ) (p : Param) → i < length ps → p ≡ get_or ps i p
    → first_of (params_row c b (map param_of (drop i ps))) ≡ either (first_of (param_row c b (param_of p))) (first_of (params_row (with_param c (param_of p)) b (map param_of (drop (i + 1) ps))))
next_param c b ps i p h e = ap (λ (r : List ParamSyntax). first_of (params_row c b r)) (rest_of param_of ps i p h e) ∙ params_step c b (param_of p) (map param_of (drop (i + 1) ps))

pub next_with_param : (c : Context) (ps : List Param) (i : ℕ) (p : Param) → i < length ps → p ≡ get_or ps i p
    → with_params c (map param_of (drop i ps)) ≡ with_params (with_param c (param_of p)) (map param_of (drop (i + 1) ps))
next_with_param c ps i p h e = ap (with_params c) (rest_of param_of ps i p h e)

-- ---- contracts

pub next_contract : (c : Context) (ks : List Contract) (i : ℕ) (k : Contract) → i < length ks → k ≡ get_or ks i k
    → first_of (contracts_row c (map contract_of (drop i ks))) ≡ either (first_of (condition_row c (contract_of k))) (first_of (contracts_row c (map contract_of (drop (i + 1) ks))))
next_contract c ks i k h e =
    ap (λ (r : List ContractSyntax). first_of (contracts_row c r)) (rest_of contract_of ks i k h e)
    ∙ contract_told (contract_of k) (condition_row c (contract_of k) ++ contracts_row c (map contract_of (drop (i + 1) ks)))
    ∙ first_joined (condition_row c (contract_of k)) (contracts_row c (map contract_of (drop (i + 1) ks)))

-- ---- items

items_step : (names : List Word) (x : Earlier) (item : ItemSyntax) (items : List ItemSyntax) → first_of (items_row names x (item ∷ items)) ≡ either (first_of (item_row (outside names x) item)) (first_of (items_row names (after x item) items))
items_step names x item items = first_joined (item_row (outside names x) item) (items_row names (after x item) items)

pub next_item : (names : List Word) (x : Earlier) (items : List Item) (i : ℕ) (item : Item) → i < length items → item ≡ get_or items i item
    → first_of (items_row names x (map item_of (drop i items))) ≡ either (first_of (item_row (outside names x) (item_of item))) (first_of (items_row names (after x (item_of item)) (map item_of (drop (i + 1) items))))
next_item names x items i item h e = ap (λ (r : List ItemSyntax). first_of (items_row names x r)) (rest_of item_of items i item h e) ∙ items_step names x (item_of item) (map item_of (drop (i + 1) items))

names_step : (item : ItemSyntax) (items : List ItemSyntax) → item_names (item ∷ items) ≡ names_of item ++ item_names items
names_step (BitsData i) items = refl
names_step (Struct i) items = refl
names_step (Global i) items = refl
names_step (Import h) items = refl
names_step (Procedure p) items = refl

pub next_names : (items : List Item) (i : ℕ) (item : Item) → i < length items → item ≡ get_or items i item → item_names (map item_of (drop i items)) ≡ names_of (item_of item) ++ item_names (map item_of (drop (i + 1) items))
next_names items i item h e = ap item_names (rest_of item_of items i item h e) ∙ names_step (item_of item) (map item_of (drop (i + 1) items))
