use Rattle.std.proofs.Common.{◌≡◌, length, arith, [], ◌∷◌, ◌++◌, Some, cond, ap, sym, ◌∙◌}
use Rattle.std.specs.BTreeMap.{get}
use Rattle.std.specs.List.{position}
use Rattle.std.specs.Map.{keys_of}
use Rattle.std.specs.Ordering.{is_eq}
use Rattle.std.proofs.lemmas.Map.Entries.{length-keys_of}
use Rattle.ordered_set.proofs.Adding.{added}
use Rattle.ordered_map.proofs.Lookups.{keys-with}
use Rattle.ordered_map.proofs.map.OrderedMap.push.Goals as goal

pub invariant_of-self-in-Ok : goal.invariant_of-self-in-Ok
invariant_of-self-in-Ok g c k =
    let entries = c.self.inside.entries.items in
    let keys = keys_of entries in
    let cmp = g.K.Ord.cmp in
    let at : c.len-index.result ≡ length keys = omega (arith, c.len-index.ensures, c.self.inside.entries.ok.0, length-keys_of entries) in
    added g.K.PartialEq.eq g.met.K.Eq.laws cmp g.met.K.Ord.matches_eq keys c.args.key (get cmp c.self.inside.indexes) (get cmp c.insert.new.self)
    (ap (λ s. position (g.K.PartialEq.eq c.args.key) (keys_of s.entries)) c.self.view_is ∙ c.requires.new) c.self.invariant
    (λ q. c.in-Ok.ensures.updates.0 q ∙ ap (λ i. cond (is_eq (cmp c.args.key q)) (Some i) (get cmp c.self.inside.indexes q)) at) k
    ∙ ap (λ x. position (g.K.PartialEq.eq k) (keys ++ x ∷ [])) (sym c.requires.same)
    ∙ ap (position (g.K.PartialEq.eq k)) (sym (ap keys_of c.in_ok-push.ensures.items ∙ keys-with entries c.args.copy c.args.value))
