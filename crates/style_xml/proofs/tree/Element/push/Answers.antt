use Rattle.std.proofs.Common.{refl, arith}
use Rattle.style_xml.proofs.Greatest.{greatest_of-push}
use Rattle.style_xml.specs.declared.tree.Content.TheViews.{roll-Element}
use Rattle.style_xml.proofs.tree.Element.push.Goals as goal

pub returns : goal.returns
returns c = λ own more.
    let old = c.args.self.now in
    let new = roll-Element (record { name = old.name; attributes = old.attributes; content = c.push.new.self; offset = old.offset }) in
    omega (arith, greatest_of-push own more old new c.args.part refl refl c.in_ok-push.ensures.items)
