-- At each table a cite has the state of its entry; and the cites at the places of a group.
use Rattle.std.proofs.Common.{◌≡◌, zero, suc, Option, Some, None, List, [], ◌∷◌, map, refl, ap, sym, subst, ◌∙◌, arith}
use Rattle.std.specs.Prelude.{All, Contains, flat_map, option_map, slice_get, unwrap_or}
use Rattle.std.specs.Option.{option_and_then}
use Rattle.std.proofs.lemmas.List.Elements.{All-append, All-cons, All-map, All-nil, All-weaker, Contains-append_left, Contains-append_right}
use Rattle.std.proofs.lemmas.Option.{same_Some}
use Rattle.rounds_ambiguity.specs.Members.{Member, member_at, members, one_or_none}
use Rattle.driver_writers.specs.Writing.{Writing}
use Rattle.driver_lookup.specs.declared.state.DisambiguateState.{DisambiguateState}
use Rattle.driver_passes.specs.Places.{cite_at}
use Rattle.driver_passes.specs.Renders.{CiteRender, ItemRender, Place}
use Rattle.driver_passes.specs.Request.{Request}
use Rattle.rounds_runs.specs.FirstRenders.{AreBegun}
use Rattle.rounds_runs.specs.Rounds.{StateTable, at_table, told_by, with_any}
use Rattle.rounds_runs.proofs.Runs.{all-at, all-left, all-right, all-row}

module _ {E P : Type 0} where
  abbrev IsUntold : ItemRender E P → Type 0
  IsUntold i = i.properties.speculative.disambiguation ≡ DisambiguateState.None

  abbrev pub IsTold : StateTable E → ItemRender E P → Type 0
  IsTold t i = i.properties.speculative.disambiguation ≡ told_by (t i.entry)

  module _ (writing : Writing E P) (t : StateTable E) where
    again : (r : Request E P) (i : ItemRender E P) → IsUntold i → IsTold t (with_any writing r (t i.entry) i)
    again r i none = by (t i.entry) refl
      where
        by : (o : Option DisambiguateState) → t i.entry ≡ o → IsTold t (with_any writing r o i)
        by None e = none ∙ ap (λ o. unwrap_or o DisambiguateState.None) (sym e)
        by (Some s) e = ap (λ o. unwrap_or o DisambiguateState.None) (sym e)

    -- what is known of cites is known of them at a table, where rendering again keeps it
    pub rows-known : (Q R : ItemRender E P → Type 0) → ((r : Request E P) (i : ItemRender E P) → Q i → R (with_any writing r (t i.entry) i))
        → (rs : List (CiteRender E P)) → All Q (flat_map (λ c. c.items) rs) → All R (flat_map (λ c. c.items) (at_table writing t rs))
    rows-known Q R keep [] h = All-nil R
    rows-known Q R keep (c ∷ cs) h =
        All-append R (map (λ i. with_any writing c.request (t i.entry) i) c.items) (flat_map (λ c. c.items) (at_table writing t cs))
        (All-map R (λ i. with_any writing c.request (t i.entry) i) c.items
        (All-weaker Q (λ i. R (with_any writing c.request (t i.entry) i)) (λ i q. keep c.request i q) c.items (all-left Q c.items (flat_map (λ c. c.items) cs) h)))
        (rows-known Q R keep cs (all-right Q c.items (flat_map (λ c. c.items) cs) h))

    pub rows-told : (rs : List (CiteRender E P)) → AreBegun rs → All (IsTold t) (flat_map (λ c. c.items) (at_table writing t rs))
    rows-told rs h = rows-known IsUntold (IsTold t) again rs h

  module _ (cites : List (CiteRender E P)) where
    abbrev pub IsThere : Member E P → Type 0
    IsThere m = member_at cites m.place ≡ Some m

    -- what is known of all cites is known of one at a place
    pub item-known : (Q : ItemRender E P → Type 0) (p : Place) (c : Member E P) → All Q (flat_map (λ c. c.items) cites) → member_at cites p ≡ Some c → Q c.item
    item-known Q p c all found = outer (slice_get cites p.0) refl found
      where
        as_member : Request E P × ItemRender E P → Member E P
        as_member cite = record { place = p; item = cite.1; style = cite.0.style }

        inner : (r : CiteRender E P) → slice_get cites p.0 ≡ Some r → (o : Option (ItemRender E P)) → slice_get r.items p.1 ≡ o
            → option_map as_member (option_map (λ item. (r.request, item)) o) ≡ Some c → Q c.item
        inner r e None f h = cc
        inner r e (Some i) f h =
            subst (λ (m : Member E P). Q m.item) (same_Some (record { place = p; item = i; style = r.request.style }) c h)
            (all-at Q r.items p.1 i (all-row Q (λ c. c.items) cites p.0 r all e) f)

        outer : (o : Option (CiteRender E P)) → slice_get cites p.0 ≡ o
            → option_map as_member (option_and_then (λ cite. option_map (λ item. (cite.request, item)) (slice_get cite.items p.1)) o) ≡ Some c → Q c.item
        outer None e h = cc
        outer (Some r) e h = inner r e (slice_get r.items p.1) refl h

    at-place : (p : Place) (m : Member E P) → member_at cites p ≡ Some m → m.place ≡ p
    at-place p m h = by (cite_at cites p) h
      where
        by : (o : Option (Request E P × ItemRender E P)) → option_map (λ cite. record { place = p; item = cite.1; style = cite.0.style }) o ≡ Some m → m.place ≡ p
        by None h = cc
        by (Some x) h = ap (λ (m : Member E P). m.place) (sym (same_Some (record { place = p; item = x.1; style = x.0.style }) m h))

    found-there : (p : Place) → All IsThere (one_or_none (member_at cites p))
    found-there p = by (member_at cites p) refl
      where
        by : (o : Option (Member E P)) → member_at cites p ≡ o → All IsThere (one_or_none o)
        by None e = All-nil IsThere
        by (Some m) e = All-cons IsThere m [] (ap (member_at cites) (at-place p m e) ∙ e) (All-nil IsThere)

    -- members stand at their places
    pub members-there : (group : List Place) → All IsThere (members cites group)
    members-there [] = All-nil IsThere
    members-there (p ∷ ps) = All-append IsThere (one_or_none (member_at cites p)) (members cites ps) (found-there p) (members-there ps)

    -- a cite at a place of a group is one of its members
    pub in-members : (group : List Place) (p : Place) (m : Member E P) → Contains group p → member_at cites p ≡ Some m → Contains (members cites group) m
    in-members [] p m (k, w, e) found = absurd (omega (arith, w))
    in-members (q ∷ qs) p m (zero, w, e) found =
        let here : member_at cites q ≡ Some m = ap (member_at cites) e ∙ found in
        Contains-append_left (one_or_none (member_at cites q)) (members cites qs) m (subst (λ o. Contains (one_or_none o) m) (sym here) (0, omega arith, refl))
    in-members (q ∷ qs) p m (suc k, w, e) found =
        Contains-append_right (one_or_none (member_at cites q)) (members cites qs) m (in-members qs p m (k, omega (arith, w), e) found)
