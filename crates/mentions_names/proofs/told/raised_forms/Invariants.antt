use Rattle.std.proofs.Common.{◌≡◌, map, take}
use Rattle.std.specs.List.{enumerate_from}
use Rattle.mentions_names.specs.ByDocument.{document_form}
use Rattle.mentions_names.specs.Forms.{base, greater, raised_form}
use Rattle.mentions_names.specs.Persons.{own_forms}
use Rattle.mentions_names.specs.Raising.{form_needed_by}
use Rattle.mentions_names.proofs.told.raised_forms.Given as goal

abbrev pub invariant-loop-i : goal.invariant-loop-i
invariant-loop-i l =
    l.forms.items
    ≡ map (λ p. raised_form (base (own_forms l.mention.names)) l.needs.count p.0 (greater (document_form l.mentions l.mention.rule p.0 p.1) (form_needed_by l.needs p.0)) p.1.own)
    (take l.i (enumerate_from 0 l.names))
