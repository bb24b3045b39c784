use Rattle.std.proofs.Common.{Some, ap, arith, map, refl, ◌∙◌}
use Rattle.mentions_groups.specs.Suffixes.{is_in_class, suffix_of}
use Rattle.list_lemmas.proofs.Stepping.{enumerate-all}
use Rattle.mentions_groups.proofs.Naming.{fewer}
use Rattle.mentions_groups.proofs.Numbering.{counts-next, suffix-is, suffixes-next}
use Rattle.mentions_groups.proofs.counted.suffixes_by.Goals as goal

pub loop-entry-preserved : goal.loop-entry-preserved
loop-entry-preserved c =
    let entries = c.args.entries.now in
    let k = c.loop-entry.entry-index in
    record {
      counts = counts-next entries k _ _ c.loop-entry-test.true refl c.loop-entry.counts c.next_suffix.new.counts c.loop-entry.invariant.counts c.in_ok-next_suffix.ensures.counted;
      found = suffixes-next entries k _ _ c.loop-entry-test.true refl c.loop-entry.found.items c.push.new.self.items c.in_ok-next_suffix.field-0 c.loop-entry.invariant.found
          (c.in_ok-next_suffix.ensures.suffix
          ∙ suffix-is entries k _ _ c.loop-entry-test.true refl c.in_ok-adding.adding.keys c.loop-entry.counts c.in_ok-adding.ensures c.loop-entry.invariant.counts)
          c.in_ok-push.ensures.items;
    }

pub returns : goal.returns
returns c =
    let entries = c.args.entries.now in
    c.loop-entry.invariant.found ∙ ap (map (suffix_of entries)) (enumerate-all entries c.loop-entry.entry-index c.loop-entry-test.false)

pub next_suffix-requires : goal.next_suffix-requires
next_suffix-requires c = λ n.
    let within = c.loop-entry-test.true in
    let few = fewer (is_in_class (Some n)) c.loop-entry.entry-index c.args.entries.now (omega arith) in
    let is = c.loop-entry.invariant.counts n in
    omega arith
