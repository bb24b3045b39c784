use Rattle.std.proofs.Common.{ap, length, sym, ◌∙◌}
use Rattle.std.proofs.Math.ListN.{length-map}
use Rattle.std.specs.List.{zip}
use Rattle.mentions_groups.specs.Groups.{is_asked}
use Rattle.mentions_tables.specs.Steps.{all_changed, chosen_by}
use Rattle.mentions_tables.proofs.chosen.choose.Goals as goal

pub choose_in-requires : goal.choose_in-requires
choose_in-requires c = record {
  tested = c.requires.states ∙ sym c.requires.tested;
  asked = c.requires.states ∙ sym (ap length (c.deref.ensures.value ∙ c.in_ok-asked.ensures) ∙ length-map c.args.mentions.now (is_asked c.args.mentions.now));
}

pub returns : goal.returns
returns c =
    c.choose_in.ensures ∙ ap (λ bs. all_changed chosen_by (zip c.args.tested.now bs) c.args.states.now) (c.deref.ensures.value ∙ c.in_ok-asked.ensures)
