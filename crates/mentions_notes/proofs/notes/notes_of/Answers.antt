use Rattle.std.proofs.Common.{ap, map, refl, take, ◌∙◌}
use Rattle.mentions_notes.specs.Notes.{notes_behind}
use Rattle.mentions_notes.proofs.Knowing.{known-next, known-none, notes-next}
use Rattle.list_lemmas.proofs.Stepping.{enumerate-all}
use Rattle.mentions_notes.proofs.notes.notes_of.Goals as goal

pub loop-cite-init : goal.loop-cite-init
loop-cite-init c = record { known = known-none c.new-known.result c.new-known.ensures.empty; notes = c.in_ok-notes.ensures.items }

pub loop-cite-preserved : goal.loop-cite-preserved
loop-cite-preserved c =
    let cites = c.args.cites.now in
    let k = c.loop-cite.cite-index in
    record {
      known = known-next cites k _ _ c.loop-cite.known c.loop-cite-test.true refl c.loop-cite.invariant.known c.note.new.known c.in_ok-note.ensures;
      notes = notes-next cites k _ _ c.loop-cite.known c.loop-cite-test.true refl c.loop-cite.invariant.known c.loop-cite.notes.items c.push.new.self.items c.known_at-before.result c.notes_by.result
          c.loop-cite.invariant.notes c.known_at-before.ensures c.notes_by.ensures c.in_ok-push.ensures.items;
    }

pub returns : goal.returns
returns c =
    c.loop-cite.invariant.notes
    ∙ ap (map (λ p. notes_behind (take p.0 c.args.cites.now) p.1)) (enumerate-all c.args.cites.now c.loop-cite.cite-index c.loop-cite-test.false)
