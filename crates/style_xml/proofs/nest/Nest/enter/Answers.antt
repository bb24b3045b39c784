use Rattle.std.proofs.Common.{arith, is_ok, ◌∷◌, [], ◌++◌, subst, sym, ap, vec_len}
use Rattle.style_xml.specs.Trees.{AreWithinLimits, IsStart}
use Rattle.style_xml.proofs.Greatest.{within-entered}
use Rattle.style_xml.proofs.nest.Nest.enter.Goals as goal

pub invariant_of-self-2 : goal.invariant_of-self-2
invariant_of-self-2 c =
    let nest = c.place_text.new.self in
    let outer = c.replace-outer.result in
    let whole = subst (λ e. AreWithinLimits nest.source.length (nest.around.items ++ e ∷ [])) (sym c.replace-outer.ensures.value) nest.within in
    let start = subst (λ source. IsStart source.length c.args.element) (sym c.place_text.ensures.source) c.requires in
    let entered = within-entered nest.source.length (is_ok c.push.result) nest.around.items c.push.new.self.items outer c.args.element c.push.ensures.items start (omega (arith, ap (λ v. vec_len v) c.place_text.ensures.around)) whole in
    record { within = subst (λ e. AreWithinLimits nest.source.length (c.push.new.self.items ++ e ∷ [])) (sym c.replace-outer.ensures.after) entered }
