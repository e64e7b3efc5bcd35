-- The circuit and the node of a site in memory.
use Rattle.spl_cell_rules.specs.Cells.{Site}
use Rattle.spl_cell.specs.declared.site.Site.{Site as Place}

abbrev pub site_of : Place → Site
site_of s = record { here = s.here; circuit = s.circuit }
