use Rattle.std.proofs.Common.{◌≡◌, ap, map, sym, ◌∙◌}
use Rattle.std.specs.Vec.Iter.{into_iter_items}
use Rattle.std.proofs.lemmas.List.{nil_from_length}
use Rattle.driver_passes.specs.RendersView.{renders_view}
use Rattle.rounds_ambiguity.specs.Ambiguity.{ambiguous_groups}
use Rattle.rounds_ambiguity.proofs.Sifted.{groups-distinct, groups-exist, next-exists, sift-end, sift-more, sift-start}
use Rattle.rounds_ambiguity.proofs.ambiguity.find_ambiguous_sets.Goals as goal

pub loop-class-init : goal.loop-class-init
loop-class-init g c =
    sift-start (renders_view c.args.cites.now) g.T.PartialEq.eq _ _ (ap (map (λ v. v.items)) c.new-groups.ensures.items)
    (ap (map (λ v. v.items)) c.into_iter-class-iterator.ensures.into_iter_gives.0 ∙ c.in_ok-class-items.ensures)

pub keep_if_different-requires : goal.keep_if_different-requires
keep_if_different-requires g c = record {
  exist = next-exists (renders_view c.args.cites.now) g.T.PartialEq.eq _ _ (map (λ v. v.items) (into_iter_items c.next.new.self)) c.in-Some.class.items
      (ap (map (λ v. v.items)) c.in-Some.ensures.steps.0) c.loop-class.invariant;
}

pub loop-class-preserved : goal.loop-class-preserved
loop-class-preserved g c =
    sift-more (renders_view c.args.cites.now) g.T.PartialEq.eq _ _ (map (λ v. v.items) (into_iter_items c.next.new.self)) c.in-Some.class.items
    (ap (map (λ v. v.items)) c.in-Some.ensures.steps.0) c.loop-class.invariant _ c.in_ok-keep_if_different.ensures

groups : (g : _) (c : goal.After-drop-class-iterator-2 g) → map (λ v. v.items) c.loop-class.groups.items ≡ ambiguous_groups g.T.PartialEq.eq (renders_view c.args.cites.now)
groups g c =
    let rest = c.loop-class.class-iterator.rest in
    sift-end (renders_view c.args.cites.now) g.T.PartialEq.eq _ _ (ap (map (λ v. v.items)) (nil_from_length rest.items (sym rest.ok.0 ∙ c.in-None.ensures.steps.0)))
    c.loop-class.invariant

pub returns-clause-groups : goal.returns-clause-groups
returns-clause-groups g c = groups g c

pub returns-clause-exist : goal.returns-clause-exist
returns-clause-exist g c = groups-exist (renders_view c.args.cites.now) g.T.PartialEq.eq (λ v. v.items) c.loop-class.groups.items (groups g c)

pub returns-clause-distinct : goal.returns-clause-distinct
returns-clause-distinct g c = groups-distinct (renders_view c.args.cites.now) g.T.PartialEq.eq (λ v. v.items) c.loop-class.groups.items (groups g c)
