use Rattle.std.proofs.Common.{◌≡◌, Some, None, slice_index_or, ap, subst, sym, ◌∙◌}
use Rattle.std.specs.Prelude.{IfSome, option_copied}
use Rattle.ordered_map.specs.Entries.{value_at}
use Rattle.ordered_map.proofs.Lookups.{found-at, missing}
use Rattle.ordered_map.proofs.map.OrderedMap.get.Goals as goal

pub returns-in-Some-get : goal.returns-in-Some-get
returns-in-Some-get g c =
    let key = c.args.key.now in
    let entries = c.self.inside.entries.items in
    let index = c.in-Some.index.now in
    let entry = c.in-Some-get.entry.now in
    let at : entry ≡ slice_index_or c.deref.result.now index entry =
    subst (λ r. IfSome r (λ x. x.now ≡ slice_index_or c.deref.result.now index x.now)) c.in-Some-get.is c.get-in-Some.ensures.lookup.1 in
    subst (λ s. Some entry.1 ≡ value_at g.K.PartialEq.eq s.entries key) c.self.view_is
    (found-at (g.K.PartialEq.eq key) entries index entry
    (sym (c.self.invariant key) ∙ sym c.get.ensures.value ∙ ap option_copied c.in-Some.is)
    (at ∙ ap (λ es. slice_index_or es index entry) c.deref.ensures.value))

pub returns-in-None : goal.returns-in-None
returns-in-None g c =
    let key = c.args.key.now in
    subst (λ s. None ≡ value_at g.K.PartialEq.eq s.entries key) c.self.view_is
    (missing (g.K.PartialEq.eq key) c.self.inside.entries.items (sym (c.self.invariant key) ∙ sym c.get.ensures.value ∙ ap option_copied c.in-None.is))
