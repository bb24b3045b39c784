use Rattle.std.proofs.Common.{ap, map, refl, ◌∙◌}
use Rattle.driver_lookup.specs.declared.state.DisambiguateState.TheVariants.{YearSuffix}
use Rattle.rounds_ambiguity.proofs.Enumerated.{enumerated-all, mapped-more}
use Rattle.rounds_ambiguity.proofs.suffixes.numbered.Goals as goal

pub loop-k-preserved : goal.loop-k-preserved
loop-k-preserved g c =
    mapped-more (λ f. (f.entry.now, f.place)) (λ p. (p.1.1, YearSuffix p.0)) c.args.firsts.now c.loop-k.k c.index-firsts-k.result
    (c.index-firsts-k.result.place, YearSuffix c.loop-k.k) c.loop-k.marks.items c.push.new.self.items
    c.loop-k-test.true c.index-firsts-k.is refl c.loop-k.invariant c.in_ok-push.ensures.items

pub returns : goal.returns
returns g c =
    c.loop-k.invariant ∙ ap (map (λ p. (p.1.1, YearSuffix p.0))) (enumerated-all (λ f. (f.entry.now, f.place)) c.args.firsts.now c.loop-k.k c.loop-k-test.false)
