use Rattle.std.proofs.Common.{◌≡◌, Bor, Option, Some, None, is_some, option_map, map, refl, ap, sym, ◌∙◌}
use Rattle.value_styles.specs.Element.{Name}
use Rattle.value_styles.specs.Ring.{has_name}
use Rattle.driver_styles.specs.Gathered.{with_new_name}
use Rattle.driver_styles.proofs.NameLists.{with_named}
use Rattle.driver_styles.proofs.suffix_text.add_new.Goals as goal

is_some-map : {A B : Type 0} (f : A → B) (o : Option A) → is_some (option_map f o) ≡ is_some o
is_some-map f None = refl
is_some-map f (Some x) = refl

pub returns-in_ok-insert : goal.returns-in_ok-insert
returns-in_ok-insert c =
    let name = c.args.name in
    let names = map (λ (s : Bor Name). s.now) c.args.names.now.keys in
    let there = c.if-is_some.ensures ∙ sym (is_some-map _ c.body_of.result) ∙ ap is_some c.body_of.ensures in
    ap (map (λ (s : Bor Name). s.now)) c.in_ok-insert.ensures.keys ∙ with_named name c.args.names.now.keys
    ∙ ap (λ b. with_new_name b (has_name name.now names) name.now names) there
