use Rattle.std.proofs.Common.{◌≡◌, length, arith, [], ◌∷◌, ◌++◌, Some, cond, ap, sym, ◌∙◌}
use Rattle.std.specs.BTreeMap.{get}
use Rattle.std.specs.List.{position}
use Rattle.std.specs.Ordering.{is_eq}
use Rattle.ordered_set.proofs.Adding.{added}
use Rattle.ordered_set.proofs.set.OrderedSet.add.Goals as goal

pub invariant_of-self-in-Ok : goal.invariant_of-self-in-Ok
invariant_of-self-in-Ok g c k =
    let keys = c.self.inside.keys.items in
    let cmp = g.K.Ord.cmp in
    let at : c.len-index.result ≡ length keys = omega (arith, c.len-index.ensures, c.self.inside.keys.ok.0) in
    added g.K.PartialEq.eq g.met.K.Eq.laws cmp g.met.K.Ord.matches_eq keys c.args.key (get cmp c.self.inside.indexes) (get cmp c.insert.new.self)
    (ap (λ s. position (g.K.PartialEq.eq c.args.key) s.keys) c.self.view_is ∙ c.requires.new) c.self.invariant
    (λ q. c.in-Ok.ensures.updates.0 q ∙ ap (λ i. cond (is_eq (cmp c.args.key q)) (Some i) (get cmp c.self.inside.indexes q)) at) k
    ∙ ap (λ x. position (g.K.PartialEq.eq k) (keys ++ x ∷ [])) (sym c.requires.same)
    ∙ ap (position (g.K.PartialEq.eq k)) (sym c.in_ok-push.ensures.items)
