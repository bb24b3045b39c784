use Rattle.std.proofs.Common.{ap, not, ◌&&◌, ◌||◌, ◌∙◌}
use Rattle.std.specs.Prelude.{nat_eq}
use Rattle.std.specs.HashMap.{get}
use Rattle.mentions_notes.specs.Noted.{is_other}
use Rattle.mentions_notes.proofs.Noting.{all-noted, cites-noted}
use Rattle.mentions_notes.proofs.repeats.note_cites.Goals as goal

pub loop-cite-preserved : goal.loop-cite-preserved
loop-cite-preserved g c = λ n e.
    cites-noted (λ x. not (nat_eq e x.entry)) c.args.cites.now c.loop-cite.cite-index c.cite-item.result c.loop-cite-test.true c.cite-item.is
    (is_other e (get nat_eq c.args.noted.now n)) (nat_eq n c.args.number) (is_other e (get nat_eq c.loop-cite.noted n)) (is_other e (get nat_eq c.note_entry.new.noted n))
    (c.loop-cite.invariant n e) (c.in_ok-note_entry.ensures n e)

pub returns : goal.returns
returns g c = λ n e.
    c.loop-cite.invariant n e
    ∙ ap (λ b. is_other e (get nat_eq c.args.noted.now n) || (nat_eq n c.args.number && b)) (all-noted (λ x. not (nat_eq e x.entry)) c.args.cites.now c.loop-cite.cite-index c.loop-cite-test.false)
