use Rattle.std.proofs.Common.{◌∙◌}
use Rattle.mentions_groups.specs.Suffixes.{entry_class}
use Rattle.mentions_groups.proofs.Suffixing.{all-laters, later-next}
use Rattle.mentions_groups.proofs.suffixes.entry_classes.Goals as goal

pub loop-mention-preserved : goal.loop-mention-preserved
loop-mention-preserved c =
    let ms = c.args.mentions.now in
    later-next ms c.loop-mention.mention-index c.mention-item.result c.loop-mention-test.true c.mention-item.is (entry_class ms) c.loop-mention.entries.items c.push_entry.new.entries.items
    c.entry_class.result (c.entry_class.ensures ms c.requires.classes c.requires.asked) c.loop-mention.invariant c.in_ok-push_entry.ensures

pub returns : goal.returns
returns c =
    let ms = c.args.mentions.now in
    c.loop-mention.invariant ∙ all-laters (entry_class ms) ms c.loop-mention.mention-index c.loop-mention-test.false
