use Rattle.std.proofs.Common.{ap, sym, ◌&&◌, ◌∙◌}
use Rattle.std.specs.List.{list_any}
use Rattle.mentions_groups.specs.Suffixes.{is_mistaken_for}
use Rattle.mentions_groups.proofs.Reading.{for-none, mistaken}
use Rattle.mentions_groups.proofs.readings.is_mistaken.Goals as goal

pub returns-in-Some : goal.returns-in-Some
returns-in-Some c = λ ms is h.
    c.is_other_at.ensures ∙ mistaken ms c.args.mention.now c.args.readings.now _ (sym c.in-Some.is ∙ is) h
    ∙ ap (λ b. b && list_any (is_mistaken_for ms c.args.mention.now) ms) (sym c.if-not-mention.false)

pub returns-in-None : goal.returns-in-None
returns-in-None c = λ ms is h.
    for-none ms c.args.mention.now (sym c.in-None.is ∙ is) ∙ ap (λ b. b && list_any (is_mistaken_for ms c.args.mention.now) ms) (sym c.if-not-mention.false)
