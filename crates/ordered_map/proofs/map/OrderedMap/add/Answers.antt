use Rattle.std.proofs.Common.{◌≡◌, ◌∷◌, ◌++◌, [], ap, subst, sym, ◌∙◌}
use Rattle.std.specs.Prelude.{option_copied}
use Rattle.std.proofs.lemmas.Result.{on_ok_weaker}
use Rattle.ordered_map.specs.Entries.{with_entry}
use Rattle.ordered_map.proofs.Lookups.{entry-new, entry-there}
use Rattle.ordered_map.proofs.map.OrderedMap.add.Goals as goal

pub returns-in-Some-clause-added : goal.returns-in-Some-clause-added
returns-in-Some-clause-added g c =
    let key = c.args.key in
    let eq = g.K.PartialEq.eq in
    subst (λ s. s.entries ≡ with_entry eq s.entries key c.args.value) c.self.view_is
    (entry-there eq c.self.inside.entries.items key c.args.value c.in-Some.field-0.now
    (sym (c.self.invariant key) ∙ sym c.get.ensures.value ∙ ap option_copied c.in-Some.is))

pub returns-in-None-clause-added : goal.returns-in-None-clause-added
returns-in-None-clause-added g c =
    let key = c.args.key in
    let eq = g.K.PartialEq.eq in
    let new : c.args.self.now.entries ++ (key, c.args.value) ∷ [] ≡ with_entry eq c.args.self.now.entries key c.args.value =
    subst (λ s. s.entries ++ (key, c.args.value) ∷ [] ≡ with_entry eq s.entries key c.args.value) c.self.view_is
    (entry-new eq c.self.inside.entries.items key c.args.value (sym (c.self.invariant key) ∙ sym c.get.ensures.value ∙ ap option_copied c.in-None.is)) in
    on_ok_weaker c.push.result (λ pushed. pushed ∙ new) c.push.ensures.added
