use Rattle.write_html.proofs.markup.Markup.open_link.Goals as goal

pub open_as-requires-clause-opens : goal.open_as-requires-clause-opens
open_as-requires-clause-opens c outer = rw c.as_str.ensures.value (c.in_ok-opening.ensures.opens outer)

pub open_as-requires-clause-no_text : goal.open_as-requires-clause-no_text
open_as-requires-clause-no_text c = rw c.as_str.ensures.value c.in_ok-opening.ensures.no_text
