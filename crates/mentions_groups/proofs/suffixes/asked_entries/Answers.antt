use Rattle.std.proofs.Common.{ap, refl, ◌&&◌, ◌∙◌}
use Rattle.std.specs.Prelude.{nat_eq}
use Rattle.std.specs.List.{list_any}
use Rattle.std.proofs.lemmas.List.{take_all}
use Rattle.mentions_groups.specs.Readings.{reading_of}
use Rattle.mentions_groups.specs.Suffixes.{is_mistaken_for}
use Rattle.mentions_groups.proofs.Suffixing.{asked-next, at-place}
use Rattle.mentions_groups.proofs.suffixes.asked_entries.Goals as goal

pub loop-k-preserved : goal.loop-k-preserved
loop-k-preserved c =
    let ms = c.args.mentions.now in
    let k = c.loop-k.k in
    let m = c.index-mentions-k.result in
    let within = c.loop-k-test.true in
    let here = c.index-mentions-k.is in
    asked-next ms k m within here c.loop-k.asked.keys c.add_entry.new.asked.keys c.is_mistaken-is_asked.result
    (c.is_mistaken-is_asked.ensures ms (at-place ms k m within here (reading_of ms) c.args.readings.now _ _ refl c.requires) c.in_ok-known.ensures)
    c.loop-k.invariant c.in_ok-add_entry.ensures

pub returns : goal.returns
returns c = λ n.
    let ms = c.args.mentions.now in
    c.loop-k.invariant n ∙ ap (list_any (λ m. nat_eq n m.entry && (m.occurs && list_any (is_mistaken_for ms m) ms))) (take_all c.loop-k.k ms c.loop-k-test.false)
