use Rattle.std.proofs.Common.{◌≡◌, ◌∙◌, ◌<◌, ◌≤◌, ◌++◌, [], ◌∷◌, None, Some, false, ap, arith, get_or, length, map, sym}
use Rattle.std.specs.Option.{option_and, option_or}
use Rattle.std.proofs.lemmas.List.{length-map, take_all}
use Rattle.driver_entries.specs.Table.{places_in}
use Rattle.driver_entries.specs.TableView.{table_view}
use Rattle.driver_passes.specs.Request.{cited, entries_of}
use Rattle.driver_passes.specs.RequestView.{request_view, requests_view}
use Rattle.driver_positions.specs.Seen.{seen_of}
use Rattle.driver_positions.specs.declared.first.Seen.{Seen}
use Rattle.driver_positions.proofs.Steps.{cite-count, cite-noted, cite-place, cite-within, member-at, none-noted}
use Rattle.driver_positions.proofs.Tables.{row-is}
use Rattle.driver_positions.proofs.first.note_entries.Goals as goal

pub loop-entry-init : goal.loop-entry-init
loop-entry-init g c =
    let before = requests_view c.args.before.now in
    let r = request_view c.args.request.now in
    c.requires.seen ∙ none-noted g.T.PartialEq.eq g.met.T.Eq.laws before r (table_view c.args.table.now) c.requires.table (cited before ++ entries_of r.cites)

pub bounds-seen-entry : goal.bounds-seen-entry
bounds-seen-entry g c =
    let eq = g.T.PartialEq.eq in
    let laws = g.met.T.Eq.laws in
    let before = requests_view c.args.before.now in
    let r = request_view c.args.request.now in
    let table = table_view c.args.table.now in
    let of = c.requires.table in
    let k = c.loop-entry.entry-index in
    let ps = c.deref-entry-items.result.now in
    let are : ps ≡ places_in eq table.entries r.cites =
    c.deref-entry-items.ensures.value
    ∙ row-is eq laws before r table of c.places.result.now c.places.ensures (length c.args.before.now) (length-map c.args.before.now request_view) c.index-places-place.result c.index-places-place.is in
    let within : k < length r.cites = omega (arith, cite-count eq laws before r table of ps are, c.loop-entry-test.true) in
    let m = member-at r.cites k within in
    cite-within eq laws before r table of k m.0 within m.1 _ _ (cite-place eq laws before r table of k m.0 within m.1 ps are 0)
    (sym (ap length c.loop-entry.invariant ∙ length-map table.entries _))

pub offset_bounds-seen-entry : goal.offset_bounds-seen-entry
offset_bounds-seen-entry g c = let within = bounds-seen-entry g c in omega arith

pub loop-entry-preserved : goal.loop-entry-preserved
loop-entry-preserved g c =
    let eq = g.T.PartialEq.eq in
    let laws = g.met.T.Eq.laws in
    let before = requests_view c.args.before.now in
    let r = request_view c.args.request.now in
    let table = table_view c.args.table.now in
    let of = c.requires.table in
    let k = c.loop-entry.entry-index in
    let ps = c.deref-entry-items.result.now in
    let are : ps ≡ places_in eq table.entries r.cites =
    c.deref-entry-items.ensures.value
    ∙ row-is eq laws before r table of c.places.result.now c.places.ensures (length c.args.before.now) (length-map c.args.before.now request_view) c.index-places-place.result c.index-places-place.is in
    let within : k < length r.cites = omega (arith, cite-count eq laws before r table of ps are, c.loop-entry-test.true) in
    let m = member-at r.cites k within in
    let so-far = cited before ++ entries_of r.cites in
    let at = cite-place eq laws before r table of k m.0 within m.1 ps are 0 in
    let unseen : Seen = record { cited = false; first_note = None; last_noted = None } in
    let s : Seen = get_or c.loop-entry.seen (get_or ps k 0) unseen in
    let first : c.or-noted.result ≡ option_or s.first_note r.note_number = c.or-noted.ensures ∙ ap (λ n. option_or s.first_note n) c.note_number-number.ensures in
    let last : c.or-noted-in-loop-entry.result ≡ option_or (option_and r.note_number (Some (length before))) s.last_noted =
    c.or-noted-in-loop-entry.ensures
    ∙ ap (λ o. option_or o s.last_noted)
    (c.and.ensures ∙ ap (λ n. option_and n (Some (length c.args.before.now))) c.note_number-number.ensures
    ∙ ap (λ n. option_and r.note_number (Some n)) (sym (length-map c.args.before.now request_view))) in
    cite-noted eq laws before r table of k m.0 within m.1 so-far (get_or ps k 0) at c.loop-entry.seen c.loop-entry.invariant unseen c.or-noted.result c.or-noted-in-loop-entry.result first last

pub returns : goal.returns
returns g c =
    let eq = g.T.PartialEq.eq in
    let before = requests_view c.args.before.now in
    let r = request_view c.args.request.now in
    let table = table_view c.args.table.now in
    let ps = c.deref-entry-items.result.now in
    let are : ps ≡ places_in eq table.entries r.cites =
    c.deref-entry-items.ensures.value
    ∙ row-is eq g.met.T.Eq.laws before r table c.requires.table c.places.result.now c.places.ensures (length c.args.before.now) (length-map c.args.before.now request_view)
    c.index-places-place.result c.index-places-place.is in
    let past : length r.cites ≤ c.loop-entry.entry-index = omega (arith, cite-count eq g.met.T.Eq.laws before r table c.requires.table ps are, c.loop-entry-test.false) in
    c.loop-entry.invariant
    ∙ ap (λ cites. map (seen_of eq (cited before ++ entries_of r.cites) (before ++ record r { cites = cites } ∷ [])) table.entries) (take_all c.loop-entry.entry-index r.cites past)
