use Rattle.std.proofs.Common.{arith, ap, subst, ◌∷◌, [], ◌++◌}
use Rattle.style_xml.specs.Trees.{AreWithinLimits, greatest_of}
use Rattle.style_xml.proofs.Greatest.{greatest_of_part-element, within-left}
use Rattle.style_xml.proofs.nest.Nest.leave.Goals as goal

pub invariant_of-self-2 : goal.invariant_of-self-2
invariant_of-self-2 c =
    let nest = c.place_text.new.self in
    let whole = subst (λ es. AreWithinLimits nest.source.length (es ++ nest.innermost ∷ [])) c.in-Some.ensures.items nest.within in
    record {
      within = within-left nest.source.length c.pop.new.self.items c.in-Some.outer nest.innermost c.push.new.self
          (λ own more. omega (
            arith,
            c.push.ensures own more,
            greatest_of_part-element own more c.replace-closed.result,
            ap (greatest_of own more) c.replace-closed.ensures.value,
            ap (greatest_of own more) c.replace-closed.ensures.after,
          ))
          whole;
    }
