-- What a caller may conclude of writers that write and note as others.
use Rattle.std.proofs.Common.{refl, ◌∙◌}
use Rattle.driver_writers.specs.Writing.{WriterState}
use Rattle.mentions_cited.specs.Cited.{WritesOn}

module _ {E P N : Type 0} where
  pub writes-on-itself : (w : WriterState E P N) → WritesOn w w
  writes-on-itself w = record { cite = refl; item = refl; date = refl; noting = refl }

  pub writes-on-further : {u v w : WriterState E P N} → WritesOn u v → WritesOn v w → WritesOn u w
  writes-on-further first second = record {
    cite = second.cite ∙ first.cite;
    item = second.item ∙ first.item;
    date = second.date ∙ first.date;
    noting = second.noting ∙ first.noting;
  }
