use Rattle.std.specs.Cmp.{unsigned_Decides}
use Rattle.value_sources.specs.Finds.{both, and-true, decides, finds, options_find}
use Rattle.value_styles.proofs.Seen.{codes_told}
use Rattle.value_sources.proofs.Told.{list_seen, some_seen}
use Rattle.driver_passes.proofs.Same.{lists_tell}
use Rattle.driver_passes.specs.Same.{IsSameCite}
use Rattle.driver_passes.proofs.laws.request_equality_decides.Goals as goal

pub returns : goal.returns
returns g c a b =
    let cites = lists_tell (IsSameCite g.T.PartialEq.eq g.P.PartialEq.eq) c.item_equality_decides.ensures a.items.items b.items.items in
    let styles = c.style_equality_decides.ensures.style a.style.now b.style.now in
    let files = list_seen c.locale_equality_decides.ensures.locale a.locale_files.now b.locale_files.now in
    let codes = some_seen codes_told in
    let notes = options_find (finds unsigned_Decides) in (
      λ e. let p = both _ _ e in let q = both _ _ p.1 in let r = both _ _ q.1 in let s = both _ _ r.1 in
          record {
            cites = cites.0 p.0;
            style = styles.0 q.0;
            locale = (codes a.locale b.locale).0 r.0;
            locales = files.0 s.0;
            note_number = notes.equal a.note_number b.note_number s.1;
          },
      λ e.
          and-true _ _ (cites.1 e.cites)
          (and-true _ _ (styles.1 e.style)
          (and-true _ _ ((codes a.locale b.locale).1 e.locale)
          (and-true _ _ (files.1 e.locales)
          ((decides notes a.note_number b.note_number).1 e.note_number)))),
    )
