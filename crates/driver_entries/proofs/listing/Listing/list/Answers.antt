use Rattle.std.proofs.Common.{ap, not, ◌∙◌}
use Rattle.driver_entries.proofs.Numbers.{list-new, list-old, numbers-new}
use Rattle.driver_entries.proofs.listing.Listing.list.Goals as goal

pub returns-in_ok-push-clause-listed : goal.returns-in_ok-push-clause-listed
returns-in_ok-push-clause-listed c =
    c.in_ok-push.ensures.items
    ∙ list-new c.args.self.now.numbers.items c.args.self.now.order.items c.args.place c.index.result.now c.requires.sound c.requires.within c.index.ensures (c.is_none.ensures ∙ ap not c.if-is_none.true)

pub returns-in_ok-push-clause-sound : goal.returns-in_ok-push-clause-sound
returns-in_ok-push-clause-sound c =
    numbers-new c.args.self.now.numbers.items c.args.self.now.order.items c.args.place c.index.result.now c.requires.sound c.requires.within c.index.ensures (c.is_none.ensures ∙ ap not c.if-is_none.true)
    (c.len.ensures ∙ c.args.self.now.order.ok.0) c.in_ok-push.ensures.items

pub returns-else-is_none-clause-listed : goal.returns-else-is_none-clause-listed
returns-else-is_none-clause-listed c =
    list-old c.args.self.now.numbers.items c.args.self.now.order.items c.args.place c.index.result.now c.requires.sound c.requires.within c.index.ensures (c.is_none.ensures ∙ ap not c.if-is_none.false)
