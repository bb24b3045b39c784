use Rattle.std.proofs.Common.{arith}
use Rattle.style_xml.proofs.Greatest.{greatest_of_part-text, within-text}
use Rattle.style_xml.proofs.nest.Nest.place_text.Goals as goal

pub invariant_of-self : goal.invariant_of-self
invariant_of-self c =
    let old = c.args.self.now in
    record {
      within = within-text _ old.around.items old.innermost c.push.new.self
          (λ own more. omega (arith, c.push.ensures own more, greatest_of_part-text own more c.replace-text.result)) old.within;
    }
