-- What is known of rivals after walks over lists, one member more.
use Rattle.std.proofs.Common.{◌≡◌, ℕ, ◌+◌, ◌<◌, ◌||◌, List, [], ◌∷◌, ◌++◌, length, take, get_or, ap, sym, subst, ◌∙◌}
use Rattle.std.specs.BTreeMap.{BTreeMap}
use Rattle.std.specs.List.{flat_map}
use Rattle.std.proofs.lemmas.Grind.{flat_map-append}
use Rattle.std.proofs.lemmas.List.Elements.{filter-append}
use Rattle.std.proofs.lemmas.List.Folds.{list_any-append}
use Rattle.list_lemmas.proofs.Stepping.{flat-next, next}
use Rattle.mentions_names.specs.Gathered.{asking, ends_of, is_end, same_node, shown_by}
use Rattle.mentions_names.specs.Rivals.{AreRivals, Shown, TellsMore}
use Rattle.mentions_names.specs.declared.rivals.Held.{Held}
use Rattle.mentions_names.specs.declared.rivals.Node.{Node}
use Rattle.mentions_names.specs.declared.rivals.SharedName.{SharedName}
use Rattle.mentions_names.specs.declared.ways.Way.{Way}
use Rattle.mentions_names.proofs.Beside.{then-more}

module _ {X : Type 0} (xs : List X) (k : ℕ) (x : X) (within : k < length xs) (here : x ≡ get_or xs k x) where
  module _ (f : X → Shown) (a b c : BTreeMap SharedName Held) where
    pub tells-next : TellsMore a b (flat_map f (take k xs)) → TellsMore b c (f x) → TellsMore a c (flat_map f (take (k + 1) xs))
    tells-next p q = subst (TellsMore a c) (sym (flat-next xs k x within here f)) (then-more a b c (flat_map f (take k xs)) (f x) p q)

  module _ (f : X → Shown) (b c : BTreeMap SharedName Held) where
    pub rivals-next : AreRivals b (flat_map f (take k xs)) → TellsMore b c (f x) → AreRivals c (flat_map f (take (k + 1) xs))
    rivals-next h q = subst (AreRivals c) (sym (flat-next xs k x within here f)) (q (flat_map f (take k xs)) h)

-- those of the mentions that occur, one more way
module _ (ways : List Way) (k : ℕ) (w : Way) (within : k < length ways) (here : w ≡ get_or ways k w) where
  asking-next : {Y : Type 0} (f : Way → List Y) → flat_map f (asking (take (k + 1) ways)) ≡ flat_map f (asking (take k ways)) ++ flat_map f (asking (w ∷ []))
  asking-next f =
      ap (λ l. flat_map f (asking l)) (next ways k w within here) ∙ ap (flat_map f) (filter-append (λ v. v.occurs) (take k ways) (w ∷ []))
      ∙ flat_map-append f (asking (take k ways)) (asking (w ∷ []))

  pub asked-next : (b c : BTreeMap SharedName Held) → AreRivals b (flat_map shown_by (asking (take k ways))) → TellsMore b c (flat_map shown_by (asking (w ∷ [])))
      → AreRivals c (flat_map shown_by (asking (take (k + 1) ways)))
  asked-next b c h q = subst (AreRivals c) (sym (asking-next shown_by)) (q (flat_map shown_by (asking (take k ways))) h)

  pub ends-next : (old new : List Node) → ((n : Node) → is_end n old ≡ is_end n (flat_map ends_of (asking (take k ways))))
      → ((n : Node) → is_end n new ≡ is_end n (old ++ flat_map ends_of (asking (w ∷ [])))) → (n : Node) → is_end n new ≡ is_end n (flat_map ends_of (asking (take (k + 1) ways)))
  ends-next old new so_far added n =
      let more = flat_map ends_of (asking (w ∷ [])) in
      added n ∙ list_any-append (same_node n) old more ∙ ap (λ b. b || is_end n more) (so_far n)
      ∙ sym (list_any-append (same_node n) (flat_map ends_of (asking (take k ways))) more) ∙ ap (is_end n) (sym (asking-next ends_of))
