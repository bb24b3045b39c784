use Rattle.std.proofs.Common.{ap, ◌∙◌}
use Rattle.mentions_blocks.specs.Parts.{parts}
use Rattle.mentions_arranging.proofs.Walking.{same-items}
use Rattle.mentions_arranging.proofs.years.part_places.Goals as goal

pub returns : goal.returns
returns g c = same-items c.parts_of_blocks.result (λ v. v.items) _ _ (ap parts (c.deref.ensures.value ∙ c.in_ok-shown.ensures)) c.parts_of_blocks.ensures
