-- Cites that aren't the first ones of their entries, one cite more.
use mathlib.Core.Bool.{or-false}
use Rattle.std.proofs.Common.{◌≡◌, ℕ, ◌+◌, ◌<◌, ◌≤◌, not, ◌&&◌, ◌||◌, List, [], ◌∷◌, length, take, get_or, ap, sym, subst, ◌∙◌, arith}
use Rattle.std.specs.Prelude.{nat_eq}
use Rattle.std.specs.List.{list_any, zip}
use Rattle.std.proofs.lemmas.List.{get_or_default, take_all}
use Rattle.std.proofs.lemmas.List.Folds.{list_any-append}
use Rattle.mentions_notes.specs.declared.notes.CiteNotes.{CiteNotes}
use Rattle.mentions_notes.specs.declared.notes.HandedCite.{HandedCite}
use Rattle.mentions_tables.proofs.Changing.{take-next, zip-at, zip-length}
use Rattle.mentions_cited.specs.Handed.{is_later}

module _ (cites : List HandedCite) (notes : List CiteNotes) (k : ℕ) where
  pub again-next : (c d : HandedCite) (m o : CiteNotes) → k < length cites → length notes ≡ length cites → c ≡ get_or cites k d → m ≡ get_or notes k o → (old new : List ℕ)
      → ((n : ℕ) → list_any (nat_eq n) old ≡ list_any (is_later n) (take k (zip cites notes)))
      → ((n : ℕ) → list_any (nat_eq n) new ≡ (list_any (nat_eq n) old || (nat_eq n c.entry && not m.is_first)))
      → (n : ℕ) → list_any (nat_eq n) new ≡ list_any (is_later n) (take (k + 1) (zip cites notes))
  again-next c d m o within long is_c is_m old new so_far added n =
      let w : k < length notes = omega (arith, within, long) in
      let both : k < length (zip cites notes) = subst (λ l. k < l) (sym (zip-length cites notes (sym long))) within in
      let at = zip-at k cites notes c m within w (is_c ∙ get_or_default cites k d c within) (is_m ∙ get_or_default notes k o m w) in
      added n ∙ (λ i. so_far n i || sym (or-false (is_later n (c, m))) i)
      ∙ sym (list_any-append (is_later n) (take k (zip cites notes)) ((c, m) ∷ []))
      ∙ ap (list_any (is_later n)) (sym (take-next k (zip cites notes) (c, m) both at))

  pub again-all : (keys : List ℕ) → length cites ≤ k → length notes ≡ length cites → ((n : ℕ) → list_any (nat_eq n) keys ≡ list_any (is_later n) (take k (zip cites notes)))
      → (n : ℕ) → list_any (nat_eq n) keys ≡ list_any (is_later n) (zip cites notes)
  again-all keys past long so_far n =
      so_far n ∙ ap (list_any (is_later n)) (take_all k (zip cites notes) (subst (λ l. l ≤ k) (sym (zip-length cites notes (sym long))) past))
