use Rattle.std.proofs.Common.{◌≡◌, ◌∙◌, ◌+◌, ◌++◌, [], ◌∷◌, refl, ap, arith, drop, length, map, None, option_map, slice_get, ◌-◌, sym, take}
use Rattle.std.specs.List.{last_or}
use Rattle.std.proofs.lemmas.List.{length-map, map-append, take_all}
use Rattle.driver_entries.specs.Table.{table_of}
use Rattle.driver_entries.specs.TableView.{table_view}
use Rattle.driver_entries.proofs.Placing.{grown}
use Rattle.driver_passes.specs.Request.{cited, cites_of, entries_of}
use Rattle.driver_passes.specs.RequestView.{cite_view, request_view, requests_view}
use Rattle.driver_positions.specs.FirstProperties.{first_properties, numbered_by, request_properties, with_earlier}
use Rattle.driver_positions.specs.Seen.{seen_of}
use Rattle.driver_positions.proofs.Earlier.{last-more, last_or-append, with_earlier-push}
use Rattle.driver_positions.proofs.Known.{unknown}
use Rattle.driver_positions.proofs.Steps.{refilled}
use Rattle.driver_positions.proofs.Tables.{cited-push, cites-push, parted}
use Rattle.driver_positions.proofs.first.first_properties.Goals as goal

pub loop-k-init : goal.loop-k-init
loop-k-init g c = record {
  made = ap (λ l. map (λ f. f.items) l) c.in_ok-properties.ensures.items;
  last = refl;
  seen = c.in_ok-seen.ensures.items_if_clones_equal (λ y same. same) ∙ unknown g.row.P.Denot g.T.PartialEq.eq (table_view c.args.table.now).entries c.len.result c.len.ensures;
}

pub request_properties-requires-clause-table : goal.request_properties-requires-clause-table
request_properties-requires-clause-table g c =
    let rest = requests_view (drop (c.loop-k.k + 1) c.args.requests.now) in (
      rest,
      c.requires.table ∙ ap (λ l. table_of g.T.PartialEq.eq l) (parted c.args.requests.now c.loop-k.k c.index-requests-k.result c.loop-k-test.true c.index-requests-k.is request_view),
    )

pub note_entries-requires-clause-table : goal.note_entries-requires-clause-table
note_entries-requires-clause-table g c =
    let rest = requests_view (drop (c.loop-k.k + 1) c.args.requests.now) in (
      rest,
      c.requires.table ∙ ap (λ l. table_of g.T.PartialEq.eq l) (parted c.args.requests.now c.loop-k.k c.index-requests-k.result c.loop-k-test.true c.index-requests-k.is request_view),
    )

pub loop-k-preserved : goal.loop-k-preserved
loop-k-preserved g c =
    let eq = g.T.PartialEq.eq in
    let entries = (table_view c.args.table.now).entries in
    let requests = c.args.requests.now in
    let k = c.loop-k.k in
    let before = requests_view (take k requests) in
    let r = request_view c.index-requests-k.result in
    let of = request_properties eq g.P.PartialEq.eq (numbered_by eq c.args.numbers.now entries) in
    let more : requests_view (take (k + 1) requests) ≡ before ++ r ∷ [] = grown requests k c.index-requests-k.result c.loop-k-test.true c.index-requests-k.is request_view in
    let count : length (map (seen_of eq (cited before ++ entries_of r.cites) (before ++ r ∷ [])) entries) ≡ c.loop-k.seen.len =
    omega (
      arith,
      length-map entries (seen_of eq (cited before ++ entries_of r.cites) (before ++ r ∷ [])),
      length-map entries (seen_of eq (cited before) before),
      ap length c.loop-k.invariant.seen,
      c.loop-k.seen.ok.0,
    ) in
    record {
      made = ap (λ l. map (λ f. f.items) l) c.in_ok-push.ensures.items ∙ map-append (λ f. f.items) c.loop-k.properties.items (c.in_ok-request_properties.field-0 ∷ [])
          ∙ ap (λ l. l ++ c.in_ok-request_properties.field-0.items ∷ []) c.loop-k.invariant.made
          ∙ ap (λ row. with_earlier of before ++ row ∷ []) c.in_ok-request_properties.ensures.properties
          ∙ sym (with_earlier-push of before r) ∙ ap (λ l. with_earlier of l) (sym more);
      last = ap (λ o. option_map (λ l. cite_view l.now) o) c.or-last.ensures
          ∙ last-more cite_view c.last.result c.loop-k.last c.index-requests-k.result.items.items (last_or None (cites_of before))
          (c.last.ensures.value ∙ ap (λ l. slice_get l (length l - 1)) c.deref.ensures.value) c.loop-k.invariant.last
          ∙ sym (last_or-append None (cites_of before) r.cites) ∙ ap (λ l. last_or None l) (sym (cites-push before r) ∙ ap (λ l. cites_of l) (sym more));
      seen = refilled c.note_entries.new.seen _ c.loop-k.seen.len (ap length c.note_entries.ensures ∙ count) ∙ c.note_entries.ensures
          ∙ ap (λ l. map (seen_of eq l (before ++ r ∷ [])) entries) (sym (cited-push before r))
          ∙ ap (λ l. map (seen_of eq (cited l) l) entries) (sym more);
    }

pub returns : goal.returns
returns g c =
    let eq = g.T.PartialEq.eq in
    let number_of = numbered_by eq c.args.numbers.now (table_view c.args.table.now).entries in
    c.loop-k.invariant.made ∙ ap (λ l. first_properties eq g.P.PartialEq.eq number_of (requests_view l)) (take_all c.loop-k.k c.args.requests.now c.loop-k-test.false)
