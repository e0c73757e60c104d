-- The module with references is valid.
use Rattle.std.proofs.Common.{ℕ, zero, suc, ◌<◌, false, [], ◌∷◌, refl, sym, arith}
use Rattle.std.specs.Prelude.{Some, IsTrue, Contains}
use Rattle.std.proofs.lemmas.List.Elements.{All-nil, All-cons}
use Rattle.std.proofs.lemmas.List.Kept.{AllPairs-cons}
use Rattle.std.proofs.lemmas.List.Sorted.{IsPermutation-refl}
use Rattle.area_types.specs.Syntax as types
use Rattle.area_types.specs.Syntax.{Name, ValueType}
use Rattle.area_types.specs.declared.region.Region.TheVariants as region
use Rattle.core_tree.specs.Names.{AllDifferent, ParamsApart, NamesApart, item_names}
use Rattle.core_tree.specs.Syntax.{Alloc, One}
use Rattle.core_tree.specs.Environments.{Env, Point}
use Rattle.core_tree.specs.Examples.{u8}
use Rattle.core_tree.specs.TypedExpressions.{ExprTyped}
use Rattle.core_tree.specs.Types.{is_type}
use Rattle.source_types.specs.Values.{is_plain}
use Rattle.core_tree.specs.TypedItems.{AreaTyped, ProcTyped, is_local_type, env_of, start}
use Rattle.core_tree.specs.TypedStatements.{StmtTyped, StmtsTyped}
use Rattle.core_tree.specs.Valid.{ProcsTyped}
use Rattle.core_tree.specs.PickExample.{PickIsValid, cell, byte, local, out, pick, picked, kept, go, picker}
use Rattle.core_tree.proofs.Examples.{all_one, all_two, unequal, Different, none_different, one_different, only}

-- ---- names

abbrev Outside : Name → Type 0
Outside name = Contains (item_names picker) name → ⊥

not_among : (n : ℕ) → n < 111 → Outside (n ∷ [])
not_among n h (zero, within, e) = unequal n 111 h (sym e)
not_among n h (suc zero, within, e) = unequal n 112 (omega (arith, h)) (sym e)
not_among n h (suc (suc zero), within, e) = unequal n 113 (omega (arith, h)) (sym e)
not_among n h (suc (suc (suc k)), within, e) = absurd (omega (arith, within))

pick_apart : ParamsApart picker pick
pick_apart = record {
  different = AllPairs-cons Different (97 ∷ []) ((98 ∷ []) ∷ []) (all_one (Different (97 ∷ [])) (98 ∷ []) (unequal 97 98 (omega arith))) (one_different (98 ∷ []));
  outside = all_two Outside (97 ∷ []) (98 ∷ []) (not_among 97 (omega arith)) (not_among 98 (omega arith));
}

go_apart : ParamsApart picker go
go_apart = record { different = one_different (99 ∷ []); outside = all_one Outside (99 ∷ []) (not_among 99 (omega arith)) }

items_apart : AllDifferent (item_names picker)
items_apart =
    let last : AllDifferent ((112 ∷ []) ∷ (113 ∷ []) ∷ []) = AllPairs-cons Different (112 ∷ []) ((113 ∷ []) ∷ []) (all_one (Different (112 ∷ [])) (113 ∷ []) (unequal 112 113 (omega arith))) (one_different (113 ∷ [])) in
    AllPairs-cons Different (111 ∷ []) ((112 ∷ []) ∷ (113 ∷ []) ∷ []) (all_two (Different (111 ∷ [])) (112 ∷ []) (113 ∷ []) (unequal 111 112 (omega arith)) (unequal 111 113 (omega arith))) last

names_apart : NamesApart picker
names_apart = record {
  items = items_apart;
  types = none_different;
  struct_fields = All-nil _;
  bit_fields = All-nil _;
  params = all_two (ParamsApart picker) pick go pick_apart go_apart;
}

-- ---- procedures

pick_typed : ProcTyped picker [] pick
pick_typed = record {
  params = record { numbered = refl; types = all_two (λ t. IsTrue (is_type picker.structs 1 t)) (cell (region.Param 0)) (cell (region.Param 0)) refl refl };
  result = refl;
  exported = λ h. absurd (cc);
  params_first = refl;
  local_types = all_two (λ t. IsTrue (is_local_type picker.structs 1 t)) (cell (region.Param 0)) (cell (region.Param 0)) refl refl;
  counted = refl;
  contracts = All-nil _;
  body = ((refl, record { typed = record { in_scope = (0, omega arith, refl); type = refl; unchecked = refl }; fits = (refl, refl, refl); kept = refl }), refl, tt);
  returns = refl;
}

abbrev env : Env
env = env_of picker (pick ∷ []) go

-- the allocated byte, in the scope behind it
own_typed : ExprTyped env (1 ∷ 0 ∷ []) (local (cell region.Own) 1)
own_typed = record { in_scope = (0, omega arith, refl); type = refl; unchecked = refl }

abbrev LocalType : ValueType → Type 0
LocalType t = IsTrue (is_local_type picker.structs 0 t)

allocated : StmtTyped env (start go) (Alloc 1 (types.Stored u8) (Some (One (byte 1))))
allocated = record {
  allowed = refl;
  area_is = refl;
  first = record { typed = record { form = refl; type = refl; holds = refl; unchecked = refl }; type = refl };
  name = record { number_is = refl; type = refl };
}

abbrev inner : Point
inner = record (start go) { scope = 1 ∷ 0 ∷ []; next = 2 }

picked_typed : StmtsTyped env inner picked
picked_typed = (
  record {
    ty = cell region.Own;
    value = record {
      typed = record {
        header = record { params = cell (region.Param 0) ∷ cell (region.Param 0) ∷ []; result = Some (cell (region.Param 0)) };
        callee = refl;
        args = all_two (ExprTyped env (1 ∷ 0 ∷ [])) (local (cell region.Own) 1) (local (cell region.Own) 1) own_typed own_typed;
        regions = λ j. region.Own;
        fit = ((refl, refl, refl), ((refl, refl, refl), tt));
      };
      given = cell (region.Param 0);
      result = refl;
      type = refl;
    };
    name = record { number_is = refl; type = refl };
  },
  refl,
  (
    record {
      region = region.Own;
      typed = record { form = refl; type = refl; holds = refl; unchecked = refl };
      target_is = record { typed = record { in_scope = (0, omega arith, refl); type = refl; unchecked = refl }; type = refl };
    },
    refl,
    tt,
  ),
)

kept_typed : StmtsTyped env (record inner { next = 3 }) kept
kept_typed = (
  record {
    region = region.Global;
    typed = (own_typed, record { constant = false; region = region.Own; operand = refl; unchecked = refl });
    target_is = record { typed = record { area = out; found = refl; type = refl; unchecked = refl }; type = refl };
  },
  refl,
  tt,
)

go_typed : ProcTyped picker (pick ∷ []) go
go_typed = record {
  params = record { numbered = refl; types = all_one (λ t. IsTrue (is_type picker.structs 0 t)) types.Truth refl };
  result = refl;
  exported = λ h. record { params = all_one (λ t. IsTrue (is_plain t)) types.Truth refl; result = refl };
  params_first = refl;
  local_types = All-cons LocalType types.Truth (cell region.Own ∷ cell region.Own ∷ []) refl (all_two LocalType (cell region.Own) (cell region.Own) refl refl);
  counted = refl;
  contracts = All-nil _;
  body = (allocated, refl, ((record { typed = record { in_scope = (1, omega arith, refl); type = refl; unchecked = refl }; type = refl }, picked_typed), refl, kept_typed));
  returns = refl;
}

procs_typed : ProcsTyped picker
procs_typed zero p e = only (ProcTyped picker []) pick p pick_typed e
procs_typed (suc zero) p e = only (ProcTyped picker (pick ∷ [])) go p go_typed e
procs_typed (suc (suc k)) p e = absurd (cc)

pub pick_is_valid : PickIsValid
pick_is_valid = record {
  table = refl;
  words = refl;
  layouts = All-nil _;
  names = names_apart;
  areas = all_one (AreaTyped picker) out (record { area_is = refl; first = (refl, tt) });
  imports = All-nil _;
  procs = procs_typed;
  sites = [];
  numbered = record { all = IsPermutation-refl _; ascending = tt; numbered = tt };
}
