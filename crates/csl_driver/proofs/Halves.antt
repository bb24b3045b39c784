-- Lists whose members are changed one after another.
use Rattle.std.proofs.Common.{◌≡◌, ℕ, ◌+◌, ◌<◌, ◌≤◌, List, ◌++◌, length, map, take, drop, get_or, ap, sym, ◌∙◌}
use Rattle.std.proofs.Math.ListN.{get_or-map, set}
use Rattle.std.proofs.lemmas.List.{append-nil, drop_all, map-set, take_all}
use Rattle.std.proofs.lemmas.List.Edits.{map_over_more}

module _ {A X : Type 0} (view : A → X) (f : X → X) (items : List A) (first : List X) (n : ℕ) (so_far : map view items ≡ map f (take n first) ++ drop n first) where
  -- one more is changed
  pub changed-more : (old new : A) → n < length first → old ≡ get_or items n old → view new ≡ f (view old)
      → map view (set items n new) ≡ map f (take (n + 1) first) ++ drop (n + 1) first
  changed-more old new within here made =
      map-set view items n new ∙ ap (set (map view items) n) made
      ∙ map_over_more f first (map view items) n (view old) within so_far (ap view here ∙ sym (get_or-map view items n old))

  -- in the end all are
  pub changed-all : length first ≤ n → map view items ≡ map f first
  changed-all past = so_far ∙ rw (take_all n first past, drop_all n first past) (append-nil (map f first))
