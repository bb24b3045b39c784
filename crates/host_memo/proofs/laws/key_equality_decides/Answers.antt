use Rattle.std.proofs.Common.{◌≡◌, ap, sym, true≢false}
use Rattle.std.specs.Cmp.{booleans_Decides, unsigned_Decides}
use Rattle.value_sources.proofs.Told.{option_told}
use Rattle.value_sources.specs.Finds.{both, and-true, decides, finds, pairs_find, texts_find}
use Rattle.value_sources.specs.Tells.{TellsEqual}
use Rattle.driver_lookup.specs.contracts.purpose.CitePurposePartialEq.TheImpl as purpose_eq
use Rattle.driver_lookup.specs.contracts.state.CollapseVerdictPartialEq.TheImpl as verdict_eq
use Rattle.host_memo.specs.contracts.key.StandingPartialEq.TheImpl as standing_eq
use Rattle.host_memo.specs.contracts.key.TaskPartPartialEq.TheImpl as part_eq
use Rattle.host_memo.specs.declared.key.TaskPart.TheVariants as parts
use Rattle.host_memo.proofs.laws.key_equality_decides.Goals as goal

pub returns-clause-standing : goal.returns-clause-standing
returns-clause-standing c a b =
    let words = c.taxonomy_equality_decides.ensures in
    let states = c.state_equality_decides.ensures in
    let notes = option_told unsigned_Decides in
    let locators = option_told (decides (pairs_find (finds words.locator) texts_find)) in (
      λ e. let p = both _ _ e in let q = both _ _ p.1 in let r = both _ _ q.1 in let s = both _ _ r.1 in let t = both _ _ s.1 in let u = both _ _ t.1 in let v = both _ _ u.1 in let w = both _ _ v.1 in let x = both _ _ w.1 in
          λ i. record {
            note_number = (notes a.note_number b.note_number).0 p.0 i;
            first_note_number = (notes a.first_note_number b.first_note_number).0 q.0 i;
            is_near_note = (booleans_Decides a.is_near_note b.is_near_note).0 r.0 i;
            is_first = (booleans_Decides a.is_first b.is_first).0 s.0 i;
            ibid = (states.ibid a.ibid b.ibid).0 t.0 i;
            citation_number = (unsigned_Decides a.citation_number b.citation_number).0 u.0 i;
            locator = (locators a.locator b.locator).0 v.0 i;
            disambiguation = (states.state a.disambiguation b.disambiguation).0 w.0 i;
            means = (states.means a.means b.means).0 x.0 i;
            identifier_usage = (states.usage a.identifier_usage b.identifier_usage).0 x.1 i;
          },
      λ e.
          and-true _ _ ((notes a.note_number b.note_number).1 (ap (λ x. x.note_number) e))
          (and-true _ _ ((notes a.first_note_number b.first_note_number).1 (ap (λ x. x.first_note_number) e))
          (and-true _ _ ((booleans_Decides a.is_near_note b.is_near_note).1 (ap (λ x. x.is_near_note) e))
          (and-true _ _ ((booleans_Decides a.is_first b.is_first).1 (ap (λ x. x.is_first) e))
          (and-true _ _ ((states.ibid a.ibid b.ibid).1 (ap (λ x. x.ibid) e))
          (and-true _ _ ((unsigned_Decides a.citation_number b.citation_number).1 (ap (λ x. x.citation_number) e))
          (and-true _ _ ((locators a.locator b.locator).1 (ap (λ x. x.locator) e))
          (and-true _ _ ((states.state a.disambiguation b.disambiguation).1 (ap (λ x. x.disambiguation) e))
          (and-true _ _ ((states.means a.means b.means).1 (ap (λ x. x.means) e))
          ((states.usage a.identifier_usage b.identifier_usage).1 (ap (λ x. x.identifier_usage) e)))))))))),
    )

parts_told : TellsEqual (standing_eq.ghosts).eq → TellsEqual (purpose_eq.ghosts).eq → TellsEqual (verdict_eq.ghosts).eq → TellsEqual (part_eq.ghosts).eq
parts_told standing purpose verdict (parts.Cite s p v) (parts.Cite t q w) = (
  λ e. let x = both _ _ e in let y = both _ _ x.1 in
      λ i. parts.Cite ((standing s t).0 x.0 i) ((option_told purpose p q).0 y.0 i) ((option_told verdict v w).0 y.1 i),
  λ e.
      let standings : s ≡ t = cc in
      let purposes : p ≡ q = cc in
      let verdicts : v ≡ w = cc in
      and-true _ _ ((standing s t).1 standings) (and-true _ _ ((option_told purpose p q).1 purposes) ((option_told verdict v w).1 verdicts)),
)
parts_told standing purpose verdict (parts.Item s) (parts.Item t) = (
  λ e. ap parts.Item ((standing s t).0 e),
  λ e. let same : s ≡ t = cc in (standing s t).1 same,
)
parts_told standing purpose verdict (parts.Date m) (parts.Date n) = (
  λ e. ap parts.Date ((option_told unsigned_Decides m n).0 e),
  λ e. let same : m ≡ n = cc in (option_told unsigned_Decides m n).1 same,
)
parts_told standing purpose verdict _ _ = (λ e. absurd (true≢false (sym e)), λ e. cc)

pub returns-clause-part : goal.returns-clause-part
returns-clause-part c =
    let states = c.state_equality_decides.ensures in
    parts_told (returns-clause-standing c) states.purpose states.verdict

pub returns-clause-key : goal.returns-clause-key
returns-clause-key c a b =
    let texts = decides texts_find in
    let places = option_told (decides (pairs_find (finds unsigned_Decides) (finds unsigned_Decides))) in
    let told : TellsEqual (part_eq.ghosts).eq = returns-clause-part c in (
      λ e. let p = both _ _ e in let q = both _ _ p.1 in let r = both _ _ q.1 in let s = both _ _ r.1 in
          λ i. record {
            style = (texts a.style b.style).0 s.0 i;
            locale = (texts a.locale b.locale).0 s.1 i;
            entry = (texts a.entry b.entry).0 p.0 i;
            place = (places a.place b.place).0 q.0 i;
            part = (told a.part b.part).0 r.0 i;
          },
      λ e.
          and-true _ _ ((texts a.entry b.entry).1 (ap (λ k. k.entry) e))
          (and-true _ _ ((places a.place b.place).1 (ap (λ k. k.place) e))
          (and-true _ _ ((told a.part b.part).1 (ap (λ k. k.part) e))
          (and-true _ _ ((texts a.style b.style).1 (ap (λ k. k.style) e))
          ((texts a.locale b.locale).1 (ap (λ k. k.locale) e))))),
    )
