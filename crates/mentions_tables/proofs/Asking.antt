-- A writer asked for one thing after another.
use Rattle.std.proofs.Common.{◌≡◌, List, [], ◌∷◌, ◌++◌, refl, ap, sym, ◌∙◌}
use Rattle.mentions_groups.specs.declared.state.MentionState.{MentionState}
use Rattle.mentions_tables.specs.Asked.{MentionsWriter, asked_for, keeping, noted_all, reading}

noted-append : {A N : Type 0} (noting : A → N → N) (xs ys : List A) (notes : N) → noted_all noting (xs ++ ys) notes ≡ noted_all noting ys (noted_all noting xs notes)
noted-append noting [] ys notes = refl
noted-append noting (x ∷ xs) ys notes = noted-append noting xs ys (noting x notes)

module _ {M K N : Type 0} (before now after : MentionsWriter M K N) (tasks more : List (M × MentionState)) where
  pub asked-more : now ≡ asked_for tasks before → after ≡ asked_for more now → after ≡ asked_for (tasks ++ more) before
  asked-more p q =
      q ∙ ap (asked_for more) p ∙ (λ i. record before { notes = sym (noted-append before.noting tasks more before.notes) i })

-- what it writes stays
module _ {M K N : Type 0} (before now : MentionsWriter M K N) (tasks : List (M × MentionState)) (p : now ≡ asked_for tasks before) where
  pub writes-same : now.write ≡ before.write
  writes-same = ap (λ w. w.write) p

  pub reads-same : reading now ≡ reading before
  reads-same = ap reading p

  pub keeps-same : keeping now ≡ keeping before
  keeps-same = ap keeping p
