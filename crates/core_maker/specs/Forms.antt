-- What the code's open cores say.
use Rattle.std.specs.Prelude.{map}
use Rattle.area_types.specs.View.{type_of}
use Rattle.core_tree.specs.View.{linked, stepped, expr_of, link_of, step_of}
use Rattle.core_maker.specs.Opened.{Form, AfterLink, AfterStep, alone}
use Rattle.core_maker.specs.declared.joining.Opened.{Opened}
use Rattle.core_maker.specs.declared.joining.Opened.TheVariants as opened

abbrev pub form_of : Opened → Form
form_of (opened.Closed e) = alone (expr_of e)
form_of (opened.Chain p) = record { core = linked (expr_of p.first) (map link_of p.links); tail = AfterLink p.op (type_of p.ty) }
form_of (opened.Postfix p) = record { core = stepped (expr_of p.base) (map step_of p.steps); tail = AfterStep (type_of p.ty) }
