use Rattle.std.proofs.Common.{Bool, false, Option, ap, ◌∙◌}
use Rattle.std.specs.Option.{option_map_or}
use Rattle.rounds_ambiguity.specs.Members.{member_at, state_of}
use Rattle.driver_lookup.specs.declared.state.DisambiguateState.{DisambiguateState}
use Rattle.driver_passes.specs.RendersView.{renders_view}
use Rattle.rounds_runs.specs.RoundMarks.{raises}
use Rattle.rounds_rendering.proofs.Counted.{mapped-or}
use Rattle.rounds_rendering.proofs.counting.counts.Goals as goal

pub returns-in-Some : goal.returns-in-Some
returns-in-Some g c =
    let told : Option DisambiguateState → Bool = λ o. option_map_or (λ s. raises s c.args.mark.now) o false in
    c.raises.ensures ∙ ap told c.in-Some.ensures ∙ mapped-or state_of (λ s. raises s c.args.mark.now) (member_at (renders_view c.args.cites.now) c.args.place)

pub returns-in-None : goal.returns-in-None
returns-in-None g c =
    let told : Option DisambiguateState → Bool = λ o. option_map_or (λ s. raises s c.args.mark.now) o false in
    ap told c.in-None.ensures ∙ mapped-or state_of (λ s. raises s c.args.mark.now) (member_at (renders_view c.args.cites.now) c.args.place)
