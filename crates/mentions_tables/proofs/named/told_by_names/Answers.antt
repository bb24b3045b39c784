use Rattle.std.proofs.Common.{◌≡◌, IfOk, ap, length, map, subst, ◌∙◌}
use Rattle.std.proofs.Math.ListN.{length-map}
use Rattle.mentions_groups.specs.Groups.{group_of}
use Rattle.mentions_names.specs.Told.{told_by_names}
use Rattle.mentions_tables.specs.Steps.{all_changed, in_group, state_of}
use Rattle.mentions_tables.proofs.named.told_by_names.Goals as goal

pub put_into_groups-requires : goal.put_into_groups-requires
put_into_groups-requires c =
    ap length (c.deref.ensures.value ∙ c.in_ok-groups.ensures) ∙ length-map c.args.mentions.now (group_of c.args.mentions.now) ∙ c.requires

pub returns : goal.returns
returns c =
    let grouped = c.put_into_groups.ensures ∙ ap (λ gs. all_changed in_group gs c.args.named.now) (c.deref.ensures.value ∙ c.in_ok-groups.ensures) in
    subst (λ ts. IfOk c.states_of.result (λ v. v.items ≡ ts))
    (ap (map state_of) (c.in_ok-told.ensures ∙ ap (λ ns. map (told_by_names ns) ns) grouped))
    c.states_of.ensures
