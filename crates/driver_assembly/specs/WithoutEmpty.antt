-- The citation of a request, of which cites without content aren't shown.
use Rattle.std.specs.Prelude.{ℕ, Bool, List, filter, map}
use Rattle.value_trees.specs.Child.{Child}
use Rattle.value_trees.specs.Tree.{has_content}
use Rattle.driver_passes.specs.Purposes.{has_no_purpose}
use Rattle.driver_passes.specs.Renders.{CiteRender}
use Rattle.driver_passes.specs.Request.{source_of}
use Rattle.driver_assembly.specs.Assembly.{Shown, assembled}
use Rattle.driver_assembly.specs.CitationTree.{shown, shown_cite}
use Rattle.driver_writers.specs.Writing.{Writing}

-- there is something to see of a cite
abbrev pub has_something : Shown → Bool
has_something cite = has_content cite.tree

-- the r-th citation; the layout encloses it where no cite has a purpose, and some cite is shown
abbrev pub citation_without_empty : {E P : Type 0} → Writing E P → ℕ → CiteRender E P → List Child
citation_without_empty writing r c =
    let layout = c.request.style.citation.layout in
    assembled (has_no_purpose c.items) layout
    (filter has_something (map (shown_cite writing r (source_of c.request) layout) (shown c.items)))
