use Rattle.std.proofs.Common.{◌≡◌, List, ap, length, map, sym, ◌∙◌}
use Rattle.std.proofs.lemmas.Result.{IfOk-weaker}
use Rattle.std.proofs.lemmas.Simd.{map-map}
use Rattle.driver_entries.specs.Entries.{distinct}
use Rattle.driver_entries.specs.Listed.{IsListingOf}
use Rattle.driver_entries.specs.ListingView.{listing_view}
use Rattle.driver_entries.specs.TableView.{table_view}
use Rattle.mentions_notes.specs.Notes.{all_notes}
use Rattle.driver_passes.specs.Request.{cited}
use Rattle.driver_passes.specs.RequestView.{requests_view}
use Rattle.mentions_cited.specs.Handed.{cite_counts, notes_of_cites, parts}
use Rattle.mentions_cited.specs.Steps.{handed_by}
use Rattle.mentions_cited.proofs.Cutting.{parts-counted}
use Rattle.mentions_cited.proofs.Handing.{counted, named, notes-count}
use Rattle.mentions_cited.proofs.handed.notes_of_cites.Goals as goal

pub by_request-requires : goal.by_request-requires
by_request-requires g c =
    let eq = g.T.PartialEq.eq in
    let entries = (table_view c.args.table.now).entries in
    let rs = requests_view c.args.requests.now in
    let l = listing_view c.args.listing.now in
    ap length (c.deref-2.ensures.value ∙ c.in_ok-notes.ensures) ∙ notes-count c.deref.result.now
    ∙ ap length (c.deref.ensures.value ∙ c.in_ok-cites.ensures) ∙ counted eq entries l rs

pub returns : goal.returns
returns g c =
    let eq = g.T.PartialEq.eq in
    let entries = (table_view c.args.table.now).entries in
    let rs = requests_view c.args.requests.now in
    let l = listing_view c.args.listing.now in
    let notes = c.deref-2.result.now in
    let told : notes ≡ all_notes (handed_by eq entries l rs) = c.deref-2.ensures.value ∙ c.in_ok-notes.ensures ∙ ap all_notes (c.deref.ensures.value ∙ c.in_ok-cites.ensures) in
    let long = ap length told ∙ notes-count (handed_by eq entries l rs) ∙ counted eq entries l rs in
    record {
      notes = IfOk-weaker c.by_request.result (λ v. map (λ n. n.items) v.items ≡ parts (cite_counts rs) notes)
          (λ v. (listed : List g.row.T.Denot) → IsListingOf eq (distinct eq (cited rs)) listed l → map (λ n. n.items) v.items ≡ notes_of_cites eq listed rs)
          (λ v made listed is. made ∙ ap (parts (cite_counts rs))
          (told ∙ ap (λ es. all_notes (handed_by eq es l rs)) (ap (λ t. t.entries) c.requires) ∙ ap all_notes (named eq (distinct eq (cited rs)) l listed is rs)))
          c.by_request.ensures;
      counts = IfOk-weaker c.by_request.result (λ v. map (λ n. n.items) v.items ≡ parts (cite_counts rs) notes) (λ v. map (λ n. length n.items) v.items ≡ cite_counts rs)
          (λ v made. sym (map-map length (λ n. n.items) v.items) ∙ ap (map length) made ∙ parts-counted rs notes long)
          c.by_request.ensures;
    }
