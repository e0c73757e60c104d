-- The first fault of a chain is what its links give one after another, and that of a postfix what its steps give.
use Rattle.std.proofs.Common.{◌≡◌, ℕ, suc, length, nat_lt, arith, Bool, true, false, not, ◌&&◌, ◌||◌, cond, List, [], ◌∷◌, map, refl, ap, sym, ◌∙◌}
use Rattle.std.specs.Prelude.{Option, Some, None}
use Rattle.std.proofs.lemmas.Bool.Decides.{nat_tests}
use Rattle.iv_words.specs.declared.Span.{Span}
use Rattle.ivory_tree.specs.Syntax.{ExprSyntax, Literal, Truth, Outcome, Variable, Cast, ToIndex, WrapIndex, MakeBits, Raw, SetField, Prefix, Binary, Field, Element, Cond, Bare}
use Rattle.ivory_tree.specs.Places.{expr_span}
use Rattle.ivory_tree.specs.View.{LinkSyntax, StepSyntax, FieldStep, IndexStep, prefix_span, linked, chain_from, step_span, part_of, stepped, postfix_from, expr_of, link_of, step_of}
use Rattle.ivory_tree.specs.declared.expr.Expr.{Expr}
use Rattle.ivory_tree.specs.declared.expr.ExprKind.TheVariants as kind
use Rattle.ivory_tree.specs.declared.expr.Link.{Link}
use Rattle.ivory_tree.specs.declared.expr.Step.{Step}
use Rattle.ivory_tree.specs.declared.expr.BinOp.{BinOp}
use Rattle.ivory_tree.specs.declared.expr.PrefixOp.TheVariants.{Neg, Not, Flip, Deref}
use Rattle.area_types.specs.Syntax as types
use Rattle.area_types.specs.Syntax.{ValueType}
use Rattle.source_types.specs.Operators.{is_logic, is_comparison, gives_truth, is_for}
use Rattle.source_types.specs.Settled.{settled}
use Rattle.rule_faults.specs.Contexts.{Context}
use Rattle.rule_faults.specs.Types.{type_of, own_type}
use Rattle.rule_faults.specs.Wants.{Want, Nothing, Unknown, Wants, Takes, Returns, wanted_type, wants, part, beside}
use Rattle.rule_faults.specs.Tests.{where_there}
use Rattle.rule_faults.specs.ExpressionRules.{operand_type}
use Rattle.rule_faults.specs.ExpressionRows.{expr_row}
use Rattle.rule_faults.specs.FirstFault.{first_of}
use Rattle.rule_checker.specs.Chains.{has_steps, link_type, step_type}
use Rattle.rule_checker.specs.Faults.{either, at_place}
use Rattle.rule_checker.specs.Rows.{least, node_rule, differ, binary_rows}
use Rattle.rule_checker.specs.Links.{has_links, step_fault, steps_fault, said, next_want, right_want, operand, link_fault, chain_fault}
use Rattle.rule_checker.proofs.Linked.{chain_view, postfix_view}
use Rattle.rule_checker.proofs.Patterns.{binary_told, field_told, element_told}

-- ---- postfixes

part_told : (c : Context) (w : Want) (s : Span) (base : ExprSyntax) (t : StepSyntax) → first_of (expr_row c w (part_of s base t)) ≡ step_fault c w (own_type c base) t s (first_of (expr_row c Nothing base))
part_told c w s base (FieldStep field) = field_told c w s base field
part_told c w s base (IndexStep index brackets) = element_told c w s brackets base index

part_typed : (c : Context) (s : Span) (base : ExprSyntax) (t : StepSyntax) → own_type c (part_of s base t) ≡ step_type c (own_type c base) t
part_typed c s base (FieldStep field) = refl
part_typed c s base (IndexStep index brackets) = refl

pub stepped_told : (c : Context) (w : Want) (s : Span) (base : ExprSyntax) (t : StepSyntax) (ts : List StepSyntax) → first_of (expr_row c w (stepped s base (t ∷ ts))) ≡ steps_fault c w s (own_type c base) (first_of (expr_row c Nothing base)) (t ∷ ts)
stepped_told c w s base t [] = part_told c w (prefix_span {A = StepSyntax} s (step_span t) []) base t
stepped_told c w s base t (u ∷ ts) =
    let p = prefix_span s (step_span t) (u ∷ ts) in
    stepped_told c w s (part_of p base t) u ts
    ∙ ap (λ (o : Option ValueType). steps_fault c w s o (first_of (expr_row c Nothing (part_of p base t))) (u ∷ ts)) (part_typed c p base t)
    ∙ ap (λ (f : Option (ℕ × Span)). steps_fault c w s (step_type c (own_type c base) t) f (u ∷ ts)) (part_told c Nothing p base t)

-- ---- a settled expression has its type whatever is wanted

one_of : (g sl sr : Bool) (truth l k r q : Option ValueType) → g || sl || sr ≡ true → (sl ≡ true → l ≡ k) → (sr ≡ true → r ≡ q) → cond g truth (cond (sl || not sr) l r) ≡ cond g truth (cond (sl || not sr) k q)
one_of true sl sr truth l k r q h f g = refl
one_of false true sr truth l k r q h f g = f refl
one_of false false true truth l k r q h f g = g refl
one_of false false false truth l k r q h f g = let no : ⊥ = cc in absurd no

arm_of : (sl sr : Bool) (l k r q : Option ValueType) → sl || sr ≡ true → (sl ≡ true → l ≡ k) → (sr ≡ true → r ≡ q) → cond (sl || not sr) l r ≡ cond (sl || not sr) k q
arm_of true sr l k r q h f g = f refl
arm_of false true l k r q h f g = g refl
arm_of false false l k r q h f g = let no : ⊥ = cc in absurd no

pub typed_anyway : (c : Context) (w : Option ValueType) (e : ExprSyntax) → settled e ≡ true → type_of c w e ≡ type_of c None e
typed_anyway c w (Literal s value) h = let no : ⊥ = cc in absurd no
typed_anyway c w (Truth s value) h = refl
typed_anyway c w (Outcome s) h = refl
typed_anyway c w (Variable s name) h = refl
typed_anyway c w (Cast s kind e) h = refl
typed_anyway c w (ToIndex s n e) h = refl
typed_anyway c w (WrapIndex s n e) h = refl
typed_anyway c w (MakeBits s name e) h = refl
typed_anyway c w (Raw s e) h = refl
typed_anyway c w (SetField s e field value) h = refl
typed_anyway c w (Prefix s Not e) h = refl
typed_anyway c w (Prefix s Deref e) h = refl
typed_anyway c w (Prefix s Neg e) h = typed_anyway c w e h
typed_anyway c w (Prefix s Flip e) h = typed_anyway c w e h
typed_anyway c w (Binary s op at l r) h = one_of (gives_truth op) (settled l) (settled r) (Some types.Truth) (type_of c w l) (type_of c None l) (type_of c w r) (type_of c None r) h (λ k. typed_anyway c w l k) (λ k. typed_anyway c w r k)
typed_anyway c w (Field s e field) h = refl
typed_anyway c w (Element s brackets e index) h = refl
typed_anyway c w (Cond s test l r) h = arm_of (settled l) (settled r) (type_of c w l) (type_of c None l) (type_of c w r) (type_of c None r) h (λ k. typed_anyway c w l k) (λ k. typed_anyway c w r k)
typed_anyway c w (Bare s e) h = typed_anyway c w e h

-- ---- wants along a chain

part_twice : (w : Want) → part (part w) ≡ part w
part_twice Nothing = refl
part_twice Unknown = refl
part_twice (Wants t) = refl
part_twice (Takes o r) = refl
part_twice (Returns r) = refl

next_said : (logic comparison sr : Bool) (o lead farther : Want) → part lead ≡ lead → part (cond logic (Wants types.Truth) (cond sr o (cond comparison Nothing farther))) ≡ lead → part (cond logic (Wants types.Truth) (cond comparison (cond sr o Nothing) (cond sr o lead))) ≡ lead
next_said true comparison sr o lead farther i h = h
next_said false true true o lead farther i h = h
next_said false true false o lead farther i h = h
next_said false false true o lead farther i h = h
next_said false false false o lead farther i h = i

-- what an unsettled operand before these links is wanted as, taken as a part
next_is : (c : Context) (w lead : Want) (ls : List LinkSyntax) → part (said c w ls) ≡ lead → part (next_want c w lead false ls) ≡ lead
next_is c w lead [] h = h
next_is c w lead (l ∷ ls) h =
    next_said (is_logic l.op) (is_comparison l.op) (settled l.right) (wants (own_type c l.right)) lead (said c w ls)
    (ap part (sym h) ∙ part_twice (said c w (l ∷ ls)) ∙ h) h

-- what a left operand is wanted as, by its link alone
left_is : (logic comparison sl sr : Bool) (o w lead : Want) → (logic || comparison || sl || sr ≡ false → part w ≡ lead) → cond logic (Wants types.Truth) (cond comparison (cond sl Nothing (cond sr o Nothing)) (cond sl Nothing (cond sr o (part w)))) ≡ cond logic (Wants types.Truth) (cond comparison (cond sl Nothing (cond sr o Nothing)) (cond sl Nothing (cond sr o lead)))
left_is true comparison sl sr o w lead h = refl
left_is false true sl sr o w lead h = refl
left_is false false true sr o w lead h = refl
left_is false false false true o w lead h = refl
left_is false false false false o w lead h = h refl

operand_is : (logic comparison sl sr : Bool) (o lead : Want) (ty : Want → Option ValueType) (own lead_type right : Option ValueType) → logic ≡ false → (sl ≡ true → (x : Want) → ty x ≡ own) → ty Nothing ≡ own → (sl ≡ false → ty lead ≡ lead_type) → cond (sl || not sr) (ty (cond logic (Wants types.Truth) (cond comparison (cond sl Nothing (cond sr o Nothing)) (cond sl Nothing (cond sr o lead))))) right ≡ cond (sl || not sr) (cond (sl || comparison) own lead_type) right
operand_is true comparison sl sr o lead ty own lead_type right h f g k = let no : ⊥ = cc in absurd no
operand_is false comparison true sr o lead ty own lead_type right h f g k = f refl _
operand_is false true false true o lead ty own lead_type right h f g k = refl
operand_is false true false false o lead ty own lead_type right h f g k = g
operand_is false false false true o lead ty own lead_type right h f g k = refl
operand_is false false false false o lead ty own lead_type right h f g k = k refl

-- rule 22 asks nothing of `&&` and `||`
unless_logic : (b : Bool) (x y : Option ValueType) (f : ValueType → Bool) → (b ≡ false → x ≡ y) → (not b && where_there x f) ≡ (not b && where_there y f)
unless_logic true x y f h = refl
unless_logic false x y f h = ap (λ (o : Option ValueType). where_there o f) (h refl)

same_rows : (op : BinOp) (sl sr : Bool) (l r x y : Option ValueType) → (is_logic op ≡ false → x ≡ y) → least (binary_rows op sl sr l r x) ≡ least (binary_rows op sl sr l r y)
same_rows op sl sr l r x y h = ap (λ (b : Bool). least ((21, differ sl sr l r) ∷ (22, b) ∷ [])) (unless_logic (is_logic op) x y (λ (t : ValueType). not (is_for op t)) h)

-- ---- chains

-- what is known of an operand before links
record Before (c : Context) (w lead : Want) (lead_type : Option ValueType) (left : ExprSyntax) (ls : List LinkSyntax) : Type 0 where
  typed : settled left ≡ false → type_of c (wanted_type lead) left ≡ lead_type
  leads : settled left ≡ false → part (said c w ls) ≡ lead

all_false : (a b x y : Bool) → a || b || x || y ≡ false → (a || b ≡ false) × (x ≡ false) × (y ≡ false)
all_false false false false false h = (refl, refl, refl)
all_false true b x y h = let no : ⊥ = cc in absurd no
all_false false true x y h = let no : ⊥ = cc in absurd no
all_false false false true y h = let no : ⊥ = cc in absurd no
all_false false false false true h = let no : ⊥ = cc in absurd no

neither : (a b : Bool) → a || b ≡ false → (a ≡ false) × (b ≡ false)
neither false false h = (refl, refl)
neither true b h = let no : ⊥ = cc in absurd no
neither false true h = let no : ⊥ = cc in absurd no

said_next : (logic comparison sr : Bool) (o w : Want) → logic || comparison ≡ false → sr ≡ false → cond logic (Wants types.Truth) (cond sr o (cond comparison Nothing w)) ≡ w
said_next false false false o w h g = refl
said_next false false true o w h g = let no : ⊥ = cc in absurd no
said_next true comparison sr o w h g = let no : ⊥ = cc in absurd no
said_next false true sr o w h g = let no : ⊥ = cc in absurd no

typed_next : (g sl sr : Bool) (truth l r : Option ValueType) → g ≡ false → sl ≡ false → sr ≡ false → cond g truth (cond (sl || not sr) l r) ≡ l
typed_next false false false truth l r h i j = refl
typed_next true sl sr truth l r h i j = let no : ⊥ = cc in absurd no
typed_next false true sr truth l r h i j = let no : ⊥ = cc in absurd no
typed_next false false true truth l r h i j = let no : ⊥ = cc in absurd no

three : (g sl sr : Bool) → g || sl || sr ≡ false → (g ≡ false) × (sl ≡ false) × (sr ≡ false)
three false false false h = (refl, refl, refl)
three true sl sr h = let no : ⊥ = cc in absurd no
three false true sr h = let no : ⊥ = cc in absurd no
three false false true h = let no : ⊥ = cc in absurd no

link_told : (c : Context) (w lead : Want) (lead_type : Option ValueType) (p : Span) (left : ExprSyntax) (l : LinkSyntax) (ls : List LinkSyntax) → Before c w lead lead_type left (l ∷ ls)
    → first_of (expr_row c (next_want c w lead (gives_truth l.op || settled left || settled l.right) ls) (Binary p l.op l.at left l.right))
    ≡ link_fault c (next_want c w lead (gives_truth l.op || settled left || settled l.right) ls) lead_type (settled left) (own_type c left) l p (first_of (expr_row c (next_want c w lead (settled left) (l ∷ ls)) left))
link_told c w lead lead_type p left l ls known =
    let x : Want = next_want c w lead (gives_truth l.op || settled left || settled l.right) ls in
    let wl : Want = next_want c w lead (settled left) (l ∷ ls) in
    let unsaid : (is_logic l.op || is_comparison l.op || settled left || settled l.right ≡ false → part x ≡ lead) =
    λ h. let q = all_false (is_logic l.op) (is_comparison l.op) (settled left) (settled l.right) h in
    ap (λ (b : Bool). part (next_want c w lead b ls)) (h)
    ∙ next_is c w lead ls (ap part (sym (said_next (is_logic l.op) (is_comparison l.op) (settled l.right) (wants (own_type c l.right)) (said c w ls) q.0 q.2)) ∙ known.leads q.1) in
    let wanted : beside c x l.op left l.right ≡ wl = left_is (is_logic l.op) (is_comparison l.op) (settled left) (settled l.right) (wants (own_type c l.right)) x lead unsaid in
    let operands : (is_logic l.op ≡ false → operand_type c x l.op left l.right ≡ operand c lead_type (settled left) (own_type c left) l) =
    λ h. ap (λ (v : Want). cond (settled left || not (settled l.right)) (type_of c (wanted_type v) left) (own_type c l.right)) wanted
    ∙ operand_is (is_logic l.op) (is_comparison l.op) (settled left) (settled l.right) (wants (own_type c l.right)) lead (λ (v : Want). type_of c (wanted_type v) left) (own_type c left) lead_type (own_type c l.right) h
    (λ k v. typed_anyway c (wanted_type v) left k) refl known.typed in
    let rows : least (binary_rows l.op (settled left) (settled l.right) (own_type c left) (own_type c l.right) (operand_type c x l.op left l.right)) ≡ least (binary_rows l.op (settled left) (settled l.right) (own_type c left) (own_type c l.right) (operand c lead_type (settled left) (own_type c left) l)) =
    same_rows l.op (settled left) (settled l.right) (own_type c left) (own_type c l.right) (operand_type c x l.op left l.right) (operand c lead_type (settled left) (own_type c left) l) operands in
    let settled_here = gives_truth l.op || settled left || settled l.right in
    let own_here = link_type c None (settled left) (own_type c left) l in
    let right = first_of (expr_row c (right_want x (settled left) (own_type c left) l) l.right) in
    binary_told c x p l.op l.at left l.right
    ∙ ap (λ (k : Option ℕ). at_place (node_rule None x settled_here own_here k) p (either (first_of (expr_row c (beside c x l.op left l.right) left)) right)) rows
    ∙ ap (λ (v : Want). at_place (node_rule None x settled_here own_here (least (binary_rows l.op (settled left) (settled l.right) (own_type c left) (own_type c l.right) (operand c lead_type (settled left) (own_type c left) l)))) p (either (first_of (expr_row c v left)) right)) wanted

before_next : (c : Context) (w lead : Want) (lead_type : Option ValueType) (p : Span) (left : ExprSyntax) (l : LinkSyntax) (ls : List LinkSyntax) → Before c w lead lead_type left (l ∷ ls) → Before c w lead lead_type (Binary p l.op l.at left l.right) ls
before_next c w lead lead_type p left l ls known = record {
  typed = λ h. let q = three (gives_truth l.op) (settled left) (settled l.right) h in
      typed_next (gives_truth l.op) (settled left) (settled l.right) (Some types.Truth) (type_of c (wanted_type lead) left) (type_of c (wanted_type lead) l.right) q.0 q.1 q.2 ∙ known.typed q.1;
  leads = λ h. let q = three (gives_truth l.op) (settled left) (settled l.right) h in
      ap part (sym (said_next (is_logic l.op) (is_comparison l.op) (settled l.right) (wants (own_type c l.right)) (said c w ls) q.0 q.2)) ∙ known.leads q.1;
}

linked_told : (c : Context) (w lead : Want) (lead_type : Option ValueType) (s : Span) (left : ExprSyntax) (ls : List LinkSyntax) → Before c w lead lead_type left ls
    → first_of (expr_row c w (linked s left ls)) ≡ chain_fault c w lead lead_type s (settled left) (own_type c left) (first_of (expr_row c (next_want c w lead (settled left) ls) left)) ls
linked_told c w lead lead_type s left [] known = refl
linked_told c w lead lead_type s left (l ∷ ls) known =
    let p = prefix_span s (expr_span l.right) ls in
    linked_told c w lead lead_type s (Binary p l.op l.at left l.right) ls (before_next c w lead lead_type p left l ls known)
    ∙ ap (λ (f : Option (ℕ × Span)). chain_fault c w lead lead_type s (gives_truth l.op || settled left || settled l.right) (link_type c None (settled left) (own_type c left) l) f ls) (link_told c w lead lead_type p left l ls known)

pub chain_told : (c : Context) (w : Want) (s : Span) (first : ExprSyntax) (l : LinkSyntax) (ls : List LinkSyntax)
    → first_of (expr_row c w (linked s first (l ∷ ls)))
    ≡ chain_fault c w (part (said c w (l ∷ ls))) (type_of c (wanted_type (part (said c w (l ∷ ls)))) first) s (settled first) (own_type c first) (first_of (expr_row c (next_want c w (part (said c w (l ∷ ls))) (settled first) (l ∷ ls)) first)) (l ∷ ls)
chain_told c w s first l ls = linked_told c w (part (said c w (l ∷ ls))) (type_of c (wanted_type (part (said c w (l ∷ ls)))) first) s first (l ∷ ls) (record { typed = λ h. refl; leads = λ h. refl })

-- ---- the trees of the code

positive : (n : ℕ) → nat_lt 0 (suc n) ≡ true
positive n = grind (arith, nat_tests)

pub some_links : (links : List Link) → nat_lt 0 (length links) ≡ has_links (map link_of links)
some_links [] = refl
some_links (x ∷ xs) = positive (length xs)

some_chain_told : (c : Context) (w : Want) (s : Span) (first : ExprSyntax) (ls : List LinkSyntax) → has_links ls ≡ true
    → first_of (expr_row c w (chain_from s first ls))
    ≡ chain_fault c w (part (said c w ls)) (type_of c (wanted_type (part (said c w ls))) first) s (settled first) (own_type c first) (first_of (expr_row c (next_want c w (part (said c w ls)) (settled first) ls) first)) ls
some_chain_told c w s first [] h = let no : ⊥ = cc in absurd no
some_chain_told c w s first (l ∷ ls) h = chain_told c w s first l ls

same_chain : (c : Context) (w : Want) (s : Span) (first : ExprSyntax) (ls : List LinkSyntax) {lead : Want} {lead_type own : Option ValueType} {done : Bool} {x : Option (ℕ × Span)}
    → lead ≡ part (said c w ls) → lead_type ≡ type_of c (wanted_type lead) first → done ≡ settled first → own ≡ own_type c first → x ≡ first_of (expr_row c (next_want c w lead done ls) first)
    → chain_fault c w lead lead_type s done own x ls ≡ chain_fault c w (part (said c w ls)) (type_of c (wanted_type (part (said c w ls))) first) s (settled first) (own_type c first) (first_of (expr_row c (next_want c w (part (said c w ls)) (settled first) ls) first)) ls
same_chain c w s first ls {lead} {lead_type} {own} {done} {x} a b d o h =
    let lead_is : Want = part (said c w ls) in
    let type_is : Option ValueType = type_of c (wanted_type lead_is) first in
    let within : Option (ℕ × Span) = first_of (expr_row c (next_want c w lead_is (settled first) ls) first) in
    let typed : lead_type ≡ type_is = b ∙ ap (λ (v : Want). type_of c (wanted_type v) first) a in
    let told : x ≡ within = h ∙ ap (λ (v : Want). first_of (expr_row c (next_want c w v done ls) first)) a ∙ ap (λ (k : Bool). first_of (expr_row c (next_want c w lead_is k ls) first)) d in
    ap (λ (v : Want). chain_fault c w v lead_type s done own x ls) a ∙ ap (λ (t : Option ValueType). chain_fault c w lead_is t s done own x ls) typed
    ∙ ap (λ (k : Bool). chain_fault c w lead_is type_is s k own x ls) d ∙ ap (λ (t : Option ValueType). chain_fault c w lead_is type_is s (settled first) t x ls) o
    ∙ ap (λ (f : Option (ℕ × Span)). chain_fault c w lead_is type_is s (settled first) (own_type c first) f ls) told

pub chain_then : (c : Context) (w : Want) (e first : Expr) (links : List Link) {lead : Want} {lead_type own : Option ValueType} {done : Bool} {x : Option (ℕ × Span)} → e.kind ≡ kind.Chain first links → has_links (map link_of links) ≡ true
    → lead ≡ part (said c w (map link_of links)) → lead_type ≡ type_of c (wanted_type lead) (expr_of first) → done ≡ settled (expr_of first) → own ≡ own_type c (expr_of first)
    → x ≡ first_of (expr_row c (next_want c w lead done (map link_of links)) (expr_of first))
    → chain_fault c w lead lead_type e.span done own x (map link_of links) ≡ first_of (expr_row c w (expr_of e))
chain_then c w e first links k n a b d o h =
    same_chain c w e.span (expr_of first) (map link_of links) a b d o h
    ∙ sym (ap (λ (y : ExprSyntax). first_of (expr_row c w y)) (chain_view e first links k) ∙ some_chain_told c w e.span (expr_of first) (map link_of links) n)

bare_chain : (s : Span) (first : ExprSyntax) (ls : List LinkSyntax) → has_links ls ≡ false → chain_from s first ls ≡ Bare s first
bare_chain s first [] h = refl
bare_chain s first (l ∷ ls) h = let no : ⊥ = cc in absurd no

pub chain_else : (c : Context) (w : Want) (e first : Expr) (links : List Link) → e.kind ≡ kind.Chain first links → has_links (map link_of links) ≡ false → first_of (expr_row c w (Bare e.span (expr_of first))) ≡ first_of (expr_row c w (expr_of e))
chain_else c w e first links k n = ap (λ (y : ExprSyntax). first_of (expr_row c w y)) (sym (chain_view e first links k ∙ bare_chain e.span (expr_of first) (map link_of links) n))

some_steps_told : (c : Context) (w : Want) (s : Span) (base : ExprSyntax) (ts : List StepSyntax) → has_steps ts ≡ true → first_of (expr_row c w (postfix_from s base ts)) ≡ steps_fault c w s (own_type c base) (first_of (expr_row c Nothing base)) ts
some_steps_told c w s base [] h = let no : ⊥ = cc in absurd no
some_steps_told c w s base (t ∷ ts) h = stepped_told c w s base t ts

pub postfix_then : (c : Context) (w : Want) (e base : Expr) (steps : List Step) {own : Option ValueType} {x : Option (ℕ × Span)} → e.kind ≡ kind.Postfix base steps → has_steps (map step_of steps) ≡ true
    → own ≡ own_type c (expr_of base) → x ≡ first_of (expr_row c Nothing (expr_of base)) → steps_fault c w e.span own x (map step_of steps) ≡ first_of (expr_row c w (expr_of e))
postfix_then c w e base steps {own} {x} k n o h =
    ap (λ (t : Option ValueType). steps_fault c w e.span t x (map step_of steps)) o ∙ ap (λ (f : Option (ℕ × Span)). steps_fault c w e.span (own_type c (expr_of base)) f (map step_of steps)) h
    ∙ sym (ap (λ (y : ExprSyntax). first_of (expr_row c w y)) (postfix_view e base steps k) ∙ some_steps_told c w e.span (expr_of base) (map step_of steps) n)

bare_postfix : (s : Span) (base : ExprSyntax) (ts : List StepSyntax) → has_steps ts ≡ false → postfix_from s base ts ≡ Bare s base
bare_postfix s base [] h = refl
bare_postfix s base (t ∷ ts) h = let no : ⊥ = cc in absurd no

pub postfix_else : (c : Context) (w : Want) (e base : Expr) (steps : List Step) → e.kind ≡ kind.Postfix base steps → has_steps (map step_of steps) ≡ false → first_of (expr_row c w (Bare e.span (expr_of base))) ≡ first_of (expr_row c w (expr_of e))
postfix_else c w e base steps k n = ap (λ (y : ExprSyntax). first_of (expr_row c w y)) (sym (postfix_view e base steps k ∙ bare_postfix e.span (expr_of base) (map step_of steps) n))
