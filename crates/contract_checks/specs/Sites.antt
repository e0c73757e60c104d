-- A site and the check that it is.
use Rattle.core_tree.specs.declared.Check.{Check}
use Rattle.contract_checks.specs.declared.site.Site.{Site}

abbrev pub check_of : Site → Check
check_of s = record { site = s.id; kind = s.kind; span = s.span }

abbrev pub site_of : Check → Site
site_of c = record { id = c.site; kind = c.kind; span = c.span }
