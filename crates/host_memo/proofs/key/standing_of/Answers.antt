use Rattle.std.proofs.Common.{◌≡◌, ap, sym, ◌∙◌}
use Rattle.std.specs.Prelude.{option_map, Some}
use Rattle.driver_lookup.specs.PropertiesView.{locator_view}
use Rattle.driver_lookup.proofs.Copies.{state_copied}
use Rattle.host_memo.specs.Keys.{located}
use Rattle.host_memo.proofs.key.standing_of.Goals.{in-Some+in_ok-located-in-Some, in-None}
use Rattle.host_memo.proofs.key.standing_of.Goals as goal

pub returns : goal.returns
returns g c =
    let locator : c.match-speculative.locator ≡ option_map located (option_map locator_view c.args.properties.now.speculative.locator) =
    elim c.match-speculative.branch [
      | in-Some+in_ok-located-in-Some w ↦ w.locator-is ∙ ap Some w.in_ok-located-in-Some.ensures ∙ ap (λ l. option_map located (option_map locator_view l)) (sym w.in-Some.is)
      | in-None w ↦ w.locator-is ∙ ap (λ l. option_map located (option_map locator_view l)) (sym w.in-None.is)
    ] in
    let state : c.in_ok-clone.field-0 ≡ c.args.properties.now.speculative.disambiguation = state_copied _ _ c.in_ok-clone.ensures.cases in
    let means : c.in_ok-clone-2.field-0 ≡ c.args.properties.now.speculative.means = c.in_ok-clone-2.ensures.cases in
    λ i. record {
      note_number = c.args.properties.now.certain.note_number;
      first_note_number = c.args.properties.now.certain.first_note_number;
      is_near_note = c.args.properties.now.certain.is_near_note;
      is_first = c.args.properties.now.certain.is_first;
      ibid = c.args.properties.now.speculative.ibid;
      citation_number = c.args.properties.now.speculative.citation_number;
      locator = locator i;
      disambiguation = state i;
      means = means i;
      identifier_usage = c.args.properties.now.speculative.identifier_usage;
    }
