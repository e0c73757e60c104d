-- Bytes are the text of one right unit or have one fault, and never both.
use Rattle.std.proofs.Common.{◌≡◌, ℕ, ◌+◌, ◌<◌, ◌≤◌, ◌⊎◌, inl, inr, List, length, take, refl, sym, ap, ◌∙◌, subst, arith}
use Rattle.std.proofs.lemmas.List.{length-append, take_all}
use Rattle.std.proofs.lemmas.Bool.{cases_order, cases_lt}
use Rattle.reading.specs.Exact.{Answer, Tree, UnexpectedToken, DeepToken}
use Rattle.c_ast.specs.declared.types.Target.{Target}
use Rattle.c_ast.specs.Syntax.{TranslationUnit}
use Rattle.c_text.specs.declared.fault.CFault.{CFault}
use Rattle.c_text.specs.declared.fault.CWhy.{CWhy}
use Rattle.c_text.specs.declared.fault.CWhy.TheVariants.{Syntax, TooDeep, BadName, BadType}
use Rattle.c_text.specs.Rules.{Rule, NameIsKnown, TagIsKnown, MemberIsKnown, NameIsNew, TagIsNew, MemberIsNew, NameIsOfFile, CalledIsEarlier, OperandsAreScalars, CastIsAllowed, StarHasPointer, DotHasStruct, IndexHasArray, AddressIsOfObject, ReadHasValue, NameIsPlace, AssignedIsScalar, GivenIsWanted, IndexIsScalar, TestIsScalar, ArgumentsAreCounted, ResultIsWanted, ReturnMatches, BreakIsInLoop, InitializersFit, BracesMatch, FileScopeHasNoNames, LengthIsAllowed, MemberEndsInTime, ConstantHasType, why_of}
use Rattle.c_text.specs.Spelling.{unit_text}
use Rattle.c_text.specs.UnitRules.{unit_demands}
use Rattle.c_text.specs.Right.{Right}
use Rattle.c_text.specs.ReadsBack.{open_brackets, Spells, IsShallow, ReadsBack}
use Rattle.c_text.specs.FirstFault.{IsFirst, HasFirst}
use Rattle.c_text.specs.Faults.{SyntaxAt, ShallowBefore, DeepAt, BreaksRule, FaultAt, HasFault}
use Rattle.c_text.proofs.FirstFault.{right_or_at_fault, not_both, one_first}
use Rattle.c_grammar.specs.Pieces.{joined, pieces}
use Rattle.c_grammar.specs.Subset.{parse}
use Rattle.c_grammar.proofs.Texts.{texts_apart}
use Rattle.c_reader.specs.Verdicts.{SomeUnit, SomeFault, UnitOrFault, NotUnitAndFault, OneUnit, OneFault, PlacesAreWithin}
use Rattle.c_reader.proofs.Begun.{syntax_pieces, spelled_is_expected, one_syntax}
use Rattle.c_reader.proofs.UnitPlaces.{asked_within}
use Rattle.c_reader.proofs.Answered.{place_of, bytes_are, unit_answered, syntax_answered, deep_answered}

-- ---- a rule that is broken

abbrev OfRules : CWhy → Type 0
OfRules why = (why ≡ BadName) ⊎ (why ≡ BadType)

of_rules : (r : Rule) → OfRules (why_of r)
of_rules NameIsKnown = inl refl
of_rules TagIsKnown = inl refl
of_rules MemberIsKnown = inl refl
of_rules NameIsNew = inl refl
of_rules TagIsNew = inl refl
of_rules MemberIsNew = inl refl
of_rules NameIsOfFile = inl refl
of_rules CalledIsEarlier = inl refl
of_rules OperandsAreScalars = inr refl
of_rules CastIsAllowed = inr refl
of_rules StarHasPointer = inr refl
of_rules DotHasStruct = inr refl
of_rules IndexHasArray = inr refl
of_rules AddressIsOfObject = inr refl
of_rules ReadHasValue = inr refl
of_rules NameIsPlace = inr refl
of_rules AssignedIsScalar = inr refl
of_rules GivenIsWanted = inr refl
of_rules IndexIsScalar = inr refl
of_rules TestIsScalar = inr refl
of_rules ArgumentsAreCounted = inr refl
of_rules ResultIsWanted = inr refl
of_rules ReturnMatches = inr refl
of_rules BreakIsInLoop = inr refl
of_rules InitializersFit = inr refl
of_rules BracesMatch = inr refl
of_rules FileScopeHasNoNames = inr refl
of_rules LengthIsAllowed = inr refl
of_rules MemberEndsInTime = inr refl
of_rules ConstantHasType = inr refl

abbrev fault : ℕ → CWhy → CFault
fault at why = record { at = at; why = why }

rule_fault : (target : Target) (bytes : List ℕ) (at : ℕ) (why : CWhy) → OfRules why → BreaksRule target bytes (fault at why) → FaultAt target bytes at why
rule_fault target bytes at Syntax (inl is) b = cc
rule_fault target bytes at Syntax (inr is) b = cc
rule_fault target bytes at TooDeep (inl is) b = cc
rule_fault target bytes at TooDeep (inr is) b = cc
rule_fault target bytes at BadName is b = b
rule_fault target bytes at BadType is b = b

-- the first rule that a unit breaks is the fault of its text
pub broken_answered : (target : Target) (bytes : List ℕ) (u : TranslationUnit) (f : CFault) → Spells u bytes → IsShallow bytes → IsFirst (unit_demands target u) f → HasFault target bytes f
broken_answered target bytes u f spelled shallow first =
    let why : OfRules f.why = subst (λ g. OfRules g.why) (sym first.is) (of_rules first.broken.rule) in
    rule_fault target bytes f.at f.why why record { unit = u; spelled = spelled; shallow = shallow; first = first }

-- ---- one of both

after_tree : (target : Target) (bytes : List ℕ) (u : TranslationUnit) → Spells u bytes → IsShallow bytes → Right target u ⊎ HasFirst (unit_demands target u) → SomeUnit target bytes ⊎ SomeFault target bytes
after_tree target bytes u spelled shallow (inl right) = inl (record { unit = u; back = record { spelled = spelled; right = right; shallow = shallow } })
after_tree target bytes u spelled shallow (inr first) = inr (record { fault = first.fault; is = broken_answered target bytes u first.fault spelled shallow first.is })

answered : (target : Target) (bytes : List ℕ) (a : Answer TranslationUnit) → parse 300 (pieces bytes) ≡ a → SomeUnit target bytes ⊎ SomeFault target bytes
answered target bytes (Tree u) e = let w = unit_answered bytes u e in after_tree target bytes u w.0 w.1 (right_or_at_fault target u)
answered target bytes (UnexpectedToken k) e = inr (record { fault = fault (place_of bytes k) Syntax; is = syntax_answered bytes k e })
answered target bytes (DeepToken k) e = inr (record { fault = fault (place_of bytes k) TooDeep; is = deep_answered bytes k e })

pub unit_or_fault : UnitOrFault
unit_or_fault target bytes = answered target bytes (parse 300 (pieces bytes)) refl

-- ---- never both

shallow_not_deep : (bytes : List ℕ) (at : ℕ) → open_brackets 0 (take (at + 1) bytes) ≤ 300 → DeepAt bytes at → ⊥
shallow_not_deep bytes at low deep = omega (arith, low, deep.opens)

broken_not_right : (target : Target) (bytes : List ℕ) (u : TranslationUnit) (f : CFault) → ReadsBack u bytes target → BreaksRule target bytes f → ⊥
broken_not_right target bytes u f back b =
    not_both target u f back.right (subst (λ v. IsFirst (unit_demands target v) f) (texts_apart b.unit u bytes b.spelled back.spelled) b.first)

not_at_fault : (target : Target) (bytes : List ℕ) (u : TranslationUnit) (at : ℕ) (why : CWhy) → ReadsBack u bytes target → FaultAt target bytes at why → ⊥
not_at_fault target bytes u at Syntax back f = spelled_is_expected u bytes at back.spelled f.0
not_at_fault target bytes u at TooDeep back f = shallow_not_deep bytes at (back.shallow (at + 1)) f.0
not_at_fault target bytes u at BadName back f = broken_not_right target bytes u (fault at BadName) back f
not_at_fault target bytes u at BadType back f = broken_not_right target bytes u (fault at BadType) back f

pub not_unit_and_fault : NotUnitAndFault
not_unit_and_fault target bytes u f back is = not_at_fault target bytes u f.at f.why back is

pub one_unit : OneUnit
one_unit target bytes u v s t = texts_apart u v bytes s.spelled t.spelled

-- ---- one fault

one_deep : (bytes : List ℕ) (a b : ℕ) → DeepAt bytes a → DeepAt bytes b → a ≡ b
one_deep bytes a b f g = at (cases_order a b)
  where
    at : (a ≡ b) ⊎ ((a < b) ⊎ (b < a)) → a ≡ b
    at (inl same) = same
    at (inr (inl less)) = absurd (shallow_not_deep bytes a (g.shallow_before (a + 1) (omega (arith, less))) f)
    at (inr (inr less)) = absurd (shallow_not_deep bytes b (f.shallow_before (b + 1) (omega (arith, less))) g)

one_broken : (target : Target) (bytes : List ℕ) (f g : CFault) → BreaksRule target bytes f → BreaksRule target bytes g → f ≡ g
one_broken target bytes f g b c =
    one_first (unit_demands target c.unit) f g (subst (λ v. IsFirst (unit_demands target v) f) (texts_apart b.unit c.unit bytes b.spelled c.spelled) b.first) c.first

syntax_not_deep : (bytes : List ℕ) (a b : ℕ) → SyntaxAt bytes a → ShallowBefore bytes a → DeepAt bytes b → ((place : ℕ) → SyntaxAt bytes place → b < place) → ⊥
syntax_not_deep bytes a b syntax low deep first =
    let less = first a syntax in
    shallow_not_deep bytes b (low (b + 1) (omega (arith, less))) deep

syntax_not_broken : (target : Target) (bytes : List ℕ) (a : ℕ) (g : CFault) → SyntaxAt bytes a → BreaksRule target bytes g → ⊥
syntax_not_broken target bytes a g syntax b = spelled_is_expected b.unit bytes a b.spelled syntax

deep_not_broken : (target : Target) (bytes : List ℕ) (a : ℕ) (g : CFault) → DeepAt bytes a → BreaksRule target bytes g → ⊥
deep_not_broken target bytes a g deep b = shallow_not_deep bytes a (b.shallow (a + 1)) deep

one_at : (target : Target) (bytes : List ℕ) (a b : ℕ) (v w : CWhy) → FaultAt target bytes a v → FaultAt target bytes b w → fault a v ≡ fault b w
one_at target bytes a b Syntax Syntax f g = ap (λ at. fault at Syntax) (one_syntax bytes a b f.0 g.0)
one_at target bytes a b Syntax TooDeep f g = absurd (syntax_not_deep bytes a b f.0 f.1 g.0 g.1)
one_at target bytes a b Syntax BadName f g = absurd (syntax_not_broken target bytes a (fault b BadName) f.0 g)
one_at target bytes a b Syntax BadType f g = absurd (syntax_not_broken target bytes a (fault b BadType) f.0 g)
one_at target bytes a b TooDeep Syntax f g = absurd (syntax_not_deep bytes b a g.0 g.1 f.0 f.1)
one_at target bytes a b TooDeep TooDeep f g = ap (λ at. fault at TooDeep) (one_deep bytes a b f.0 g.0)
one_at target bytes a b TooDeep BadName f g = absurd (deep_not_broken target bytes a (fault b BadName) f.0 g)
one_at target bytes a b TooDeep BadType f g = absurd (deep_not_broken target bytes a (fault b BadType) f.0 g)
one_at target bytes a b BadName Syntax f g = absurd (syntax_not_broken target bytes b (fault a BadName) g.0 f)
one_at target bytes a b BadName TooDeep f g = absurd (deep_not_broken target bytes b (fault a BadName) g.0 f)
one_at target bytes a b BadName BadName f g = one_broken target bytes (fault a BadName) (fault b BadName) f g
one_at target bytes a b BadName BadType f g = one_broken target bytes (fault a BadName) (fault b BadType) f g
one_at target bytes a b BadType Syntax f g = absurd (syntax_not_broken target bytes b (fault a BadType) g.0 f)
one_at target bytes a b BadType TooDeep f g = absurd (deep_not_broken target bytes b (fault a BadType) g.0 f)
one_at target bytes a b BadType BadName f g = one_broken target bytes (fault a BadType) (fault b BadName) f g
one_at target bytes a b BadType BadType f g = one_broken target bytes (fault a BadType) (fault b BadType) f g

pub one_fault : OneFault
one_fault target bytes f g is other = one_at target bytes f.at g.at f.why g.why is other

-- ---- where it is

syntax_within : (bytes : List ℕ) (at : ℕ) → SyntaxAt bytes at → at ≤ length bytes
syntax_within bytes at syntax =
    let f = syntax_pieces bytes at syntax in
    let size : length bytes ≡ length (joined f.first) + length (joined f.rest) = ap length (sym (bytes_are bytes f.first f.rest f.cut)) ∙ length-append (joined f.first) (joined f.rest) in
    let place : at ≡ length (joined f.first) = f.place in
    omega (arith, size, place)

deep_within : (bytes : List ℕ) (at : ℕ) → DeepAt bytes at → (length bytes < at) ⊎ (at ≤ length bytes) → at ≤ length bytes
deep_within bytes at deep (inl past) =
    let one = take_all at bytes (omega (arith, past)) in
    let two = take_all (at + 1) bytes (omega (arith, past)) in
    let same : open_brackets 0 (take (at + 1) bytes) ≡ open_brackets 0 (take at bytes) = ap (open_brackets 0) (two ∙ sym one) in
    let low : open_brackets 0 (take at bytes) ≤ 300 = deep.shallow_before at (omega arith) in
    absurd (shallow_not_deep bytes at (subst (λ k. k ≤ 300) (sym same) low) deep)
deep_within bytes at deep (inr there) = there

broken_within : (target : Target) (bytes : List ℕ) (f : CFault) → BreaksRule target bytes f → f.at ≤ length bytes
broken_within target bytes f b =
    let place : f.at ≡ b.first.broken.at = ap (λ g. g.at) b.first.is in
    let low = asked_within target b.unit b.first.broken b.first.asked in
    let text : length bytes ≡ length (unit_text b.unit) = ap length b.spelled.is in
    omega (arith, place, low, text)

within_at : (target : Target) (bytes : List ℕ) (at : ℕ) (why : CWhy) → FaultAt target bytes at why → at ≤ length bytes
within_at target bytes at Syntax f = syntax_within bytes at f.0
within_at target bytes at TooDeep f = deep_within bytes at f.0 (cases_lt (length bytes) at)
within_at target bytes at BadName f = broken_within target bytes (fault at BadName) f
within_at target bytes at BadType f = broken_within target bytes (fault at BadType) f

pub places_within : PlacesAreWithin
places_within target bytes f is = within_at target bytes f.at f.why is
