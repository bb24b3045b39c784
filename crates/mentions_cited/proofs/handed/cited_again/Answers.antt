use Rattle.std.proofs.Common.{List, ap, length, sym, ℕ, ◌≡◌, ◌∙◌}
use Rattle.std.specs.Prelude.{nat_eq}
use Rattle.std.specs.List.{list_any, zip}
use Rattle.std.proofs.lemmas.Result.{IfOk-weaker}
use Rattle.driver_entries.specs.Entries.{distinct}
use Rattle.driver_entries.specs.Listed.{IsListingOf}
use Rattle.driver_entries.specs.ListingView.{listing_view}
use Rattle.driver_entries.specs.TableView.{table_view}
use Rattle.mentions_notes.specs.Notes.{all_notes}
use Rattle.driver_passes.specs.Request.{cited}
use Rattle.driver_passes.specs.RequestView.{requests_view}
use Rattle.mentions_cited.specs.Handed.{are_cited_again, is_cited_again, is_later}
use Rattle.mentions_cited.specs.Steps.{handed_by}
use Rattle.mentions_cited.proofs.Handing.{named, notes-count}
use Rattle.mentions_cited.proofs.handed.cited_again.Goals as goal

pub again_among-requires : goal.again_among-requires
again_among-requires g c =
    ap length (c.deref-3.ensures.value ∙ c.in_ok-notes.ensures) ∙ notes-count c.deref.result.now ∙ ap length (c.deref.ensures.value ∙ sym c.deref-2.ensures.value)

pub returns : goal.returns
returns g c =
    let eq = g.T.PartialEq.eq in
    let entries = (table_view c.args.table.now).entries in
    let rs = requests_view c.args.requests.now in
    let l = listing_view c.args.listing.now in
    let cites = c.deref-2.result.now in
    let handed : cites ≡ handed_by eq entries l rs = c.deref-2.ensures.value ∙ c.in_ok-cites.ensures in
    let told : c.deref-3.result.now ≡ all_notes (handed_by eq entries l rs) = c.deref-3.ensures.value ∙ c.in_ok-notes.ensures ∙ ap all_notes (c.deref.ensures.value ∙ c.in_ok-cites.ensures) in
    IfOk-weaker c.again_among.result (λ s. (n : ℕ) → list_any (nat_eq n) s.keys ≡ list_any (is_later n) (zip cites c.deref-3.result.now))
    (λ s. (listed : List g.row.T.Denot) → IsListingOf eq (distinct eq (cited rs)) listed l → (n : ℕ) → list_any (nat_eq n) s.keys ≡ is_cited_again eq listed rs n)
    (λ s made listed is n. made n ∙ (λ i. list_any (is_later n) (zip (handed i) (told i)))
    ∙ ap (λ es. are_cited_again (handed_by eq es l rs) n) (ap (λ t. t.entries) c.requires) ∙ ap (λ cs. are_cited_again cs n) (named eq (distinct eq (cited rs)) l listed is rs))
    c.again_among.ensures
