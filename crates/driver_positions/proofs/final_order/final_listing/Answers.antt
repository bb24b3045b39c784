use Rattle.std.proofs.Common.{All, length, subst, sym, ◌<◌, ◌≡◌, ◌∙◌}
use Rattle.std.proofs.lemmas.Result.{IfOk-weaker}
use Rattle.driver_entries.specs.Entries.{distinct}
use Rattle.driver_entries.specs.Listed.{IsListingOf, listed_places}
use Rattle.driver_entries.specs.ListingView.{listing_view}
use Rattle.driver_entries.specs.TableView.{table_view}
use Rattle.driver_entries.proofs.ListedPlaces.{all-cited, listing-of, places-below}
use Rattle.driver_passes.specs.RendersView.{renders_view}
use Rattle.driver_positions.specs.FinalProperties.{cited_finally}
use Rattle.driver_positions.proofs.final_order.final_listing.Goals as goal

pub of_indices-requires : goal.of_indices-requires
of_indices-requires g c =
    let eq = g.T.PartialEq.eq in
    let laws = g.met.T.Eq.laws in
    let es = (table_view c.args.table.now).entries in
    let cited = cited_finally (renders_view c.args.cites.now) in
    record {
      within = subst (λ n. All (λ p. p < n) c.deref.result.now) (sym c.len.ensures)
          (subst (λ ps. All (λ p. p < length es) ps) (sym (c.deref.ensures.value ∙ c.in_ok-places.ensures)) (places-below eq laws es cited (all-cited eq laws es cited c.requires.same)));
    }

pub returns : goal.returns
returns g c =
    let eq = g.T.PartialEq.eq in
    let es = (table_view c.args.table.now).entries in
    let cited = cited_finally (renders_view c.args.cites.now) in
    let places = c.deref.ensures.value ∙ c.in_ok-places.ensures in
    IfOk-weaker c.of_indices.result (λ l. listing_view l ≡ listed_places c.len.result c.deref.result.now) (λ l. IsListingOf eq es (distinct eq cited) (listing_view l))
    (λ l made. listing-of eq g.met.T.Eq.laws es cited c.requires.once c.requires.same (listing_view l) (made ∙ (λ i. listed_places (c.len.ensures i) (places i))))
    c.of_indices.ensures
