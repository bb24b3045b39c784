use Rattle.std.proofs.Common.{◌≡◌, ◌-◌, ◌∙◌, ap, leb, rules}
use Rattle.std.proofs.lemmas.Map.Made.{filter_same_pairs}
use Rattle.cite_kept.specs.KeptValues.{KeptValues, asked_within, entry_at}
use Rattle.cite_kept.specs.declared.kept.TheConstants.{ANSWERS}
use Rattle.cite_kept.proofs.Unused.{none-stays}
use Rattle.cite_kept.proofs.kept.Kept.begin_answer.Goals as goal

pub invariant_of-self : goal.invariant_of-self
invariant_of-self g c = λ version rest above.
    none-stays (entry_at g.K.Ord.cmp c.self.inside.values.entries (version, rest)) (entry_at g.K.Ord.cmp c.retain.new.self.entries (version, rest))
    (c.retain.ensures.no_new_key (version, rest)) (c.self.invariant version rest above)

pub returns-clause-recent : goal.returns-clause-recent
returns-clause-recent g c =
    let now = c.saturating_add-self-inside.result in
    let left : c.retain.new.self.entries ≡ asked_within ANSWERS now c.self.inside.values.entries =
    filter_same_pairs _ (λ e. leb (now - e.1.answer) ANSWERS) _ (λ k v b w f' t. search rules) _ _ c.retain.ensures.filtered in
    left ∙ ap (λ (k : KeptValues g.row.K.Denot g.row.V.Denot). asked_within ANSWERS now k.entries) c.self.view_is
