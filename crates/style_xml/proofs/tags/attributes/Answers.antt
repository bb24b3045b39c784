use Rattle.std.proofs.Common.{arith, rules, suc}
use Rattle.style_xml.proofs.Greatest.{most_map-push}
use Rattle.style_xml.proofs.tags.attributes.Goals as goal

pub attributes-preserved : goal.attributes-preserved
attributes-preserved c = record {
  within = search rules;
  limit = search rules;
  offsets = rw (c.in_ok-push.ensures.items, most_map-push (λ a. suc a.offset) c.attributes.attributes.items c.in_ok-found.found) (omega (arith, c.attributes.invariant.offsets));
  utf8 = search rules;
}
