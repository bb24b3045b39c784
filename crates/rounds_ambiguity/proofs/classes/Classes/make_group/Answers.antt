use Rattle.std.proofs.Common.{Some, [], ◌∷◌, ◌++◌, ap, cond, map, refl, sym, ◌∙◌}
use Rattle.std.specs.BTreeMap.{get}
use Rattle.std.specs.String.{string_cmp, string_eq}
use Rattle.std.proofs.Math.ListN.{length-map}
use Rattle.std.proofs.lemmas.List.{map-append}
use Rattle.rounds_ambiguity.specs.ClassesSoFar.{groups_in}
use Rattle.rounds_ambiguity.specs.declared.classes.Class.TheVariants.{Group}
use Rattle.rounds_ambiguity.proofs.Setting.{set-text}
use Rattle.rounds_ambiguity.proofs.classes.Classes.make_group.Goals as goal

pub returns-in-Some : goal.returns-in-Some
returns-in-Some c =
    let old = c.args.self.now in
    let text = c.args.text.now in
    let i = c.len-i.result in
    let count = c.len-i.ensures ∙ old.groups.ok.0 ∙ sym (length-map old.groups.items (λ g. g.items)) in
    record {
      at = λ q. set-text text text (Group i) old.by_text (c.get_mut.follows.lender (Group i)) refl ((c.get_mut.follows.holds (Group i)).3 c.requires.stands).0 q
          ∙ ap (λ n. cond (string_eq text q) (Some (Group n)) (get string_cmp old.by_text q)) count;
      groups = ap (map (λ g. g.items)) c.in_ok-push.ensures.items ∙ map-append (λ g. g.items) old.groups.items (c.in_ok-vec.field-0 ∷ [])
          ∙ ap (λ g. groups_in old ++ g ∷ []) c.in_ok-vec.ensures.items;
    }
