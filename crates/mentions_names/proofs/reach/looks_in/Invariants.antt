use Rattle.std.proofs.Common.{◌≡◌, map, take}
use Rattle.std.specs.List.{enumerate_from}
use Rattle.mentions_names.specs.ByDocument.{document_form}
use Rattle.mentions_names.specs.Forms.{base}
use Rattle.mentions_names.specs.Looks.{look}
use Rattle.mentions_names.specs.Persons.{own_forms}
use Rattle.mentions_names.specs.Reaches.{reach_form}
use Rattle.mentions_names.proofs.reach.looks_in.Given as goal

abbrev pub invariant-loop-i : goal.invariant-loop-i
invariant-loop-i l =
    l.looks.items
    ≡ map (λ p. look (reach_form l.by_cite (base (own_forms l.mention.names)) (document_form l.mentions l.mention.rule p.0 p.1) p.1.own) p.1.person) (take l.i (enumerate_from 0 l.names))
