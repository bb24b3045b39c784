use Rattle.std.proofs.Common.{◌≡◌, ◌∙◌, ◌+◌, ◌++◌, [], ◌∷◌, ◌<◌, None, false, refl, ap, append_assoc, arith, get_or, length, map, sym, take}
use Rattle.std.specs.List.{last_or}
use Rattle.std.proofs.lemmas.List.{length-map, length-take-le, map-append}
use Rattle.driver_entries.specs.Entries.{place}
use Rattle.driver_entries.specs.TableView.{table_view}
use Rattle.driver_entries.proofs.Placing.{grown}
use Rattle.driver_passes.specs.Positions.{with_last}
use Rattle.driver_passes.specs.Request.{cited, cites_of, entries_of}
use Rattle.driver_passes.specs.RequestView.{cite_view, cites_view, request_view, requests_view}
use Rattle.driver_passes.specs.declared.first.FirstProperties.{FirstProperties}
use Rattle.driver_positions.specs.FirstProperties.{cite_properties, certain_properties, numbered_by, with_earlier}
use Rattle.driver_positions.specs.Seen.{certain_by, seen_of}
use Rattle.driver_positions.specs.declared.first.Seen.{Seen}
use Rattle.driver_positions.proofs.Earlier.{last_or-append, last_or-push, with_earlier-push}
use Rattle.driver_positions.proofs.Known.{certain-known}
use Rattle.driver_positions.proofs.Steps.{cite-cited, cite-known, entry-at, entry-within, moved, noted-before, properties-same, row-within, shown-here, shown-within}
use Rattle.driver_positions.proofs.first.request_properties.Goals as goal

pub index-entry-requires : goal.index-entry-requires
index-entry-requires g c =
    let eq = g.T.PartialEq.eq in
    let laws = g.met.T.Eq.laws in
    let before = requests_view c.args.before.now in
    let r = request_view c.args.request.now in
    let table = table_view c.args.table.now in
    let of = c.requires.table in
    let xs = c.args.request.now.items.items in
    let k = c.loop-i.i in
    let x = c.item-item.result in
    let m = moved xs c.deref-item-items.result.now k x c.deref-item-items.ensures.value c.loop-i-test.true c.item-item.is in
    let row = c.index-places-place.result in
    let within : k < length row.items = row-within eq laws before r table of cite_view xs refl k x m.0 m.1 c.places.result.now c.places.ensures (length c.args.before.now) (length-map c.args.before.now request_view)
    c.index-places-place.result c.index-places-place.is in
    omega (arith, row.ok.0)

pub bounds-seen-entry : goal.bounds-seen-entry
bounds-seen-entry g c =
    let eq = g.T.PartialEq.eq in
    let laws = g.met.T.Eq.laws in
    let before = requests_view c.args.before.now in
    let r = request_view c.args.request.now in
    let table = table_view c.args.table.now in
    let of = c.requires.table in
    let xs = c.args.request.now.items.items in
    let k = c.loop-i.i in
    let x = c.item-item.result in
    let m = moved xs c.deref-item-items.result.now k x c.deref-item-items.ensures.value c.loop-i-test.true c.item-item.is in
    entry-within eq laws before r table of cite_view xs refl k x m.0 m.1 c.places.result.now c.places.ensures (length c.args.before.now) (length-map c.args.before.now request_view)
    c.index-places-place.result c.index-places-place.is
    c.index-entry.result.now c.index-entry.ensures (length c.loop-i.seen) (sym (ap length c.loop-i.invariant.seen ∙ length-map table.entries _))

pub offset_bounds-seen-entry : goal.offset_bounds-seen-entry
offset_bounds-seen-entry g c = let within = bounds-seen-entry g c in omega arith

pub certain_properties-requires : goal.certain_properties-requires
certain_properties-requires g c =
    let eq = g.T.PartialEq.eq in
    let laws = g.met.T.Eq.laws in
    let before = requests_view c.args.before.now in
    let r = request_view c.args.request.now in
    let table = table_view c.args.table.now in
    let of = c.requires.table in
    let xs = c.args.request.now.items.items in
    let k = c.loop-i.i in
    let x = c.item-item.result in
    let m = moved xs c.deref-item-items.result.now k x c.deref-item-items.ensures.value c.loop-i-test.true c.item-item.is in
    let p = c.index-entry.result.now in
    let at : p ≡ place eq x.entry.now table.entries = entry-at eq laws before r table of cite_view xs refl k x m.0 m.1 c.places.result.now c.places.ensures (length c.args.before.now) (length-map c.args.before.now request_view)
    c.index-places-place.result c.index-places-place.is
    p c.index-entry.ensures in
    let so-far = cited before ++ entries_of (cites_view (take k xs)) in
    noted-before eq laws before r table of so-far x.entry.now _
    (cite-known eq laws before r table of k (cite_view x) (shown-within eq laws before r table of cite_view xs refl k x m.0 m.1) (shown-here eq laws before r table of cite_view xs refl k x m.0 m.1)
    so-far before p at c.loop-i.seen c.loop-i.invariant.seen _)
    (length c.args.before.now) (length-map c.args.before.now request_view)

pub bounds-numbers-entry : goal.bounds-numbers-entry
bounds-numbers-entry g c =
    let eq = g.T.PartialEq.eq in
    let laws = g.met.T.Eq.laws in
    let before = requests_view c.args.before.now in
    let r = request_view c.args.request.now in
    let table = table_view c.args.table.now in
    let of = c.requires.table in
    let xs = c.args.request.now.items.items in
    let k = c.loop-i.i in
    let x = c.item-item.result in
    let m = moved xs c.deref-item-items.result.now k x c.deref-item-items.ensures.value c.loop-i-test.true c.item-item.is in
    let below = entry-within eq laws before r table of cite_view xs refl k x m.0 m.1 c.places.result.now c.places.ensures (length c.args.before.now) (length-map c.args.before.now request_view)
    c.index-places-place.result c.index-places-place.is
    c.index-entry.result.now c.index-entry.ensures (length table.entries) refl in
    omega (arith, below, c.requires.numbered)

pub offset_bounds-numbers-entry : goal.offset_bounds-numbers-entry
offset_bounds-numbers-entry g c =
    let eq = g.T.PartialEq.eq in
    let laws = g.met.T.Eq.laws in
    let before = requests_view c.args.before.now in
    let r = request_view c.args.request.now in
    let table = table_view c.args.table.now in
    let of = c.requires.table in
    let xs = c.args.request.now.items.items in
    let k = c.loop-i.i in
    let x = c.item-item.result in
    let m = moved xs c.deref-item-items.result.now k x c.deref-item-items.ensures.value c.loop-i-test.true c.item-item.is in
    let below = entry-within eq laws before r table of cite_view xs refl k x m.0 m.1 c.places.result.now c.places.ensures (length c.args.before.now) (length-map c.args.before.now request_view)
    c.index-places-place.result c.index-places-place.is
    c.index-entry.result.now c.index-entry.ensures (length table.entries) refl in
    omega (arith, below, c.requires.numbered)

pub bounds-seen-entry-in-loop-i : goal.bounds-seen-entry-in-loop-i
bounds-seen-entry-in-loop-i g c =
    let eq = g.T.PartialEq.eq in
    let laws = g.met.T.Eq.laws in
    let before = requests_view c.args.before.now in
    let r = request_view c.args.request.now in
    let table = table_view c.args.table.now in
    let of = c.requires.table in
    let xs = c.args.request.now.items.items in
    let k = c.loop-i.i in
    let x = c.item-item.result in
    let m = moved xs c.deref-item-items.result.now k x c.deref-item-items.ensures.value c.loop-i-test.true c.item-item.is in
    entry-within eq laws before r table of cite_view xs refl k x m.0 m.1 c.places.result.now c.places.ensures (length c.args.before.now) (length-map c.args.before.now request_view)
    c.index-places-place.result c.index-places-place.is
    c.index-entry.result.now c.index-entry.ensures (length c.loop-i.seen) (sym (ap length c.loop-i.invariant.seen ∙ length-map table.entries _))

pub offset_bounds-seen-entry-in-loop-i : goal.offset_bounds-seen-entry-in-loop-i
offset_bounds-seen-entry-in-loop-i g c = let within = bounds-seen-entry-in-loop-i g c in omega arith

pub loop-i-preserved : goal.loop-i-preserved
loop-i-preserved g c =
    let eq = g.T.PartialEq.eq in
    let laws = g.met.T.Eq.laws in
    let before = requests_view c.args.before.now in
    let r = request_view c.args.request.now in
    let table = table_view c.args.table.now in
    let of = c.requires.table in
    let xs = c.args.request.now.items.items in
    let k = c.loop-i.i in
    let x = c.item-item.result in
    let m = moved xs c.deref-item-items.result.now k x c.deref-item-items.ensures.value c.loop-i-test.true c.item-item.is in
    let p = c.index-entry.result.now in
    let at : p ≡ place eq x.entry.now table.entries = entry-at eq laws before r table of cite_view xs refl k x m.0 m.1 c.places.result.now c.places.ensures (length c.args.before.now) (length-map c.args.before.now request_view)
    c.index-places-place.result c.index-places-place.is
    p c.index-entry.ensures in
    let within = shown-within eq laws before r table of cite_view xs refl k x m.0 m.1 in
    let here = shown-here eq laws before r table of cite_view xs refl k x m.0 m.1 in
    let cites = cites_view (take k xs) in
    let item = cite_view x in
    let so-far = cited before ++ entries_of cites in
    let unseen : Seen = record { cited = false; first_note = None; last_noted = None } in
    let n = length c.args.before.now in
    let f = cite_properties eq g.P.PartialEq.eq (numbered_by eq c.args.numbers.now table.entries) before r in
    let more : cites_view (take (k + 1) xs) ≡ cites ++ item ∷ [] = grown xs k x m.0 m.1 cite_view in
    let counted : k ≡ length cites = sym (length-map (take k xs) cite_view ∙ length-take-le k xs (omega (arith, m.0))) in
    let certain : c.certain_properties.result ≡ certain_properties eq before r cites item =
    c.certain_properties.ensures
    ∙ ap (λ (s : Seen). certain_by r n s k) (cite-known eq laws before r table of k item within here so-far before p at c.loop-i.seen c.loop-i.invariant.seen unseen)
    ∙ ap (λ j. certain_by r j (seen_of eq so-far before item.entry) k) (sym (length-map c.args.before.now request_view))
    ∙ ap (λ j. certain_by r (length before) (seen_of eq so-far before item.entry) j) counted ∙ certain-known eq before r cites item in
    let ibid = c.with_last.ensures ∙ ap (λ l. with_last eq g.P.PartialEq.eq item l) c.loop-i.invariant.last in
    let v : FirstProperties = record { certain = c.certain_properties.result; number = get_or c.args.numbers.now p 0; ibid = c.with_last.result } in
    let one : v ≡ f cites item = properties-same certain (ap (λ q. get_or c.args.numbers.now q 0) at) ibid in
    record {
      made = c.in_ok-push.ensures.items ∙ ap (λ l. l ++ v ∷ []) c.loop-i.invariant.made ∙ ap (λ w. with_earlier f cites ++ w ∷ []) one
          ∙ sym (with_earlier-push f cites item) ∙ ap (λ l. with_earlier f l) (sym more);
      last = sym (ap (λ l. last_or None (cites_of before ++ l)) more ∙ last_or-append None (cites_of before) (cites ++ item ∷ []) ∙ last_or-push (last_or None (cites_of before)) cites item);
      seen = cite-cited eq laws before r table of k item within here so-far p at c.loop-i.seen c.loop-i.invariant.seen unseen
          ∙ ap (λ l. map (seen_of eq l before) table.entries)
          (append_assoc (cited before) (entries_of cites) (item.entry ∷ []) ∙ ap (λ l. cited before ++ l) (sym (map-append (λ d. d.entry) cites (item ∷ [])))
          ∙ ap (λ l. cited before ++ entries_of l) (sym more));
    }
