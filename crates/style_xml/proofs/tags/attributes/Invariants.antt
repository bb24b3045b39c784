use denote.Shadow.{shadow}
use denote.Text.{Utf8}
use Rattle.std.proofs.Common.{length, ◌≤◌, map, suc, vec_len}
use Rattle.style_xml.specs.Trees.{most}
use Rattle.style_xml.specs.declared.limits.TheConstants.{MAX_ATTRIBUTES}
use Rattle.style_xml.proofs.tags.attributes.Given as goal

abbrev pub invariant-attributes : goal.invariant-attributes
invariant-attributes l = record {
  within : length l.rest ≤ length l.fn.text;
  limit : vec_len l.attributes ≤ MAX_ATTRIBUTES;
  offsets : most (map (λ a. suc a.offset) l.attributes.items) ≤ l.source.length;
  utf8 : shadow (Utf8 l.rest);
}

abbrev pub decreases-attributes : goal.decreases-attributes
decreases-attributes l = length l.rest
