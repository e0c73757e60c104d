use Rattle.std.proofs.Common.{◌≡◌, ◌++◌, map, drop}
use Rattle.contract_checks.specs.Sites.{check_of}
use Rattle.ivoryc.specs.Texts.{Stands, sites_text}
use Rattle.ivoryc.proofs.sites.add_lines.Given as goal

abbrev pub invariant-loop-site : goal.invariant-loop-site
invariant-loop-site l =
    (l.lines ++ sites_text l.text (map check_of (drop l.site-index l.sites)) ≡ l.initial.lines ++ sites_text l.text (map check_of l.sites))
    × Stands l.text l.reached
