use Rattle.driver_passes.specs.RendersView.{item_view}
use Rattle.rounds_ambiguity.proofs.Growing.{one-more-read}
use Rattle.rounds_ambiguity.proofs.ambiguity.add_cite.Goals as goal

pub returns-in_ok-add : goal.returns-in_ok-add
returns-in_ok-add g c = λ cites m there item h.
    one-more-read cites m (item_view c.args.item.now) c.args.place c.write_plain.new.text _ c.has_no_suffix.result c.args.classes.now c.add.new.self
    there item c.has_no_suffix.ensures c.if-has_no_suffix.true c.clear.ensures.bytes c.in_ok-write_plain.ensures
    c.in_ok-add.ensures h
