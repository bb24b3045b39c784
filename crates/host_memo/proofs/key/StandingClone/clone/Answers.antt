use Rattle.std.proofs.Common.{◌≡◌, Some, ap, sym, ◌∙◌}
use Rattle.driver_lookup.proofs.Copies.{state_copied}
use Rattle.host_memo.proofs.key.StandingClone.clone.Goals.{in-Some+in_ok-clone-in-Some, in-None}
use Rattle.host_memo.proofs.key.StandingClone.clone.Goals as goal

pub returns : goal.returns
returns c =
    let own = c.args.self.now in
    let locator : c.match-self.locator ≡ own.locator =
    elim c.match-self.branch [
      | in-Some+in_ok-clone-in-Some w ↦ w.locator-is ∙ ap (λ t. Some (w.in-Some.kind, t)) w.in_ok-clone-in-Some.ensures.cases ∙ sym w.in-Some.is
      | in-None w ↦ w.locator-is ∙ sym w.in-None.is
    ] in
    let state : c.in_ok-clone.field-0 ≡ own.disambiguation = state_copied _ _ c.in_ok-clone.ensures.cases in
    let means : c.in_ok-clone-2.field-0 ≡ own.means = c.in_ok-clone-2.ensures.cases in
    record {
      cases = λ i. record {
        note_number = own.note_number;
        first_note_number = own.first_note_number;
        is_near_note = own.is_near_note;
        is_first = own.is_first;
        ibid = own.ibid;
        citation_number = own.citation_number;
        locator = locator i;
        disambiguation = state i;
        means = means i;
        identifier_usage = own.identifier_usage;
      };
    }
