-- What a round needs: its marks stand at cites, and what is known of the cites holds after it too.
use Rattle.std.proofs.Common.{◌≡◌, ℕ, Bool, true, false, cond, not, ◌&&◌, Option, Some, None, List, [], ◌∷◌, ◌++◌, map, filter, refl, ap, subst, ◌∙◌}
use Rattle.std.specs.Prelude.{⊤, All, find, fold, is_some, option_map}
use Rattle.std.specs.List.{filter_map}
use Rattle.std.proofs.lemmas.List.Elements.{All-append, All-cons, All-filter, All-head, All-map, All-nil, All-tail}
use Rattle.std.proofs.lemmas.Option.{same_Some}
use Rattle.rounds_ambiguity.specs.Ambiguity.{ambiguous_groups}
use Rattle.rounds_ambiguity.specs.ChooseMarks.{asks, chosen, may_be_chosen}
use Rattle.rounds_ambiguity.specs.Members.{Member, entry_of, member_at, members, one_or_none}
use Rattle.rounds_ambiguity.specs.SuffixMarks.{adds_suffix, first_cites, shows_dates, suffix_among}
use Rattle.driver_writers.specs.Writing.{Writing}
use Rattle.value_styles.specs.Ring.{HasNoRing}
use Rattle.driver_entries.specs.Entries.{distinct, place}
use Rattle.value_sources.specs.declared.names.NameDisambiguationProperties.{NameDisambiguationProperties}
use Rattle.driver_lookup.specs.declared.state.DisambiguateState.{DisambiguateState}
use Rattle.driver_lookup.specs.declared.state.DisambiguateState.TheVariants.{Choose}
use Rattle.rounds_names.specs.NamedCites.{first_adds_names, greatest_step, named_cite, named_cite_at, named_cites}
use Rattle.rounds_names.specs.NameMarks.{after_step, mark, marks_after, name_marks}
use Rattle.rounds_names.specs.Steps.{step, steps}
use Rattle.rounds_names.specs.declared.named_cite.NamedCite.{NamedCite}
use Rattle.driver_passes.specs.Places.{IsPlace, cite_at}
use Rattle.driver_passes.specs.Renders.{CiteRender, ItemRender, Place}
use Rattle.driver_passes.specs.Request.{Request}
use Rattle.rounds_runs.proofs.Twice.{same-entry}
use Rattle.rounds_runs.specs.RoundMarks.{Mark, all_ways, by_choice, by_full, by_suffix, by_three, counting, counts, has_any, marks_of, or_others, round_marks, waits}
use Rattle.rounds_runs.specs.Rounds.{StateTable, at_table, request_at, with_any}
use Rattle.rounds_runs.specs.declared.mode.RoundMode.{RoundMode}

module _ {X Y : Type 0} (P : X → Type 0) (Q : Y → Type 0) where
  pub all-kept : (f : X → Option Y) → ((x : X) (y : Y) → P x → f x ≡ Some y → Q y) → (xs : List X) → All P xs → All Q (filter_map f xs)
  all-kept f h [] all = All-nil Q
  all-kept f h (x ∷ xs) all = by (f x) refl (all-kept f h xs (All-tail P x xs all))
    where
      by : (o : Option Y) → f x ≡ o → All Q (filter_map f xs) → All Q (filter_map f (x ∷ xs))
      by None e more = rw e more
      by (Some y) e more = rw e (All-cons Q y (filter_map f xs) (h x y (All-head P x xs all) e) more)

module _ {X : Type 0} (P : X → Type 0) where
  pub all-chosen : (b : Bool) (xs ys : List X) → All P xs → All P ys → All P (cond b xs ys)
  all-chosen true xs ys h g = h
  all-chosen false xs ys h g = g

  pub all-distinct : (eq : X → X → Bool) (xs : List X) → All P xs → All P (distinct eq xs)
  all-distinct eq [] h = All-nil P
  all-distinct eq (x ∷ xs) h =
      All-cons P x _ (All-head P x xs h) (All-filter (λ y. not (eq x y)) P (distinct eq xs) (all-distinct eq xs (All-tail P x xs h)))

-- what holds of the marks of such groups in each way holds of those of a round
module _ (G : List Place → Type 0) (Q : Mark → Type 0) (n c s : List Place → List Mark)
    (hn : (g : List Place) → G g → All Q (n g)) (hc : (g : List Place) → G g → All Q (c g)) (hs : (g : List Place) → G g → All Q (s g)) where
  ways-kept : (g : List Place) → G g → All Q (all_ways n c s g)
  ways-kept g h = all-chosen Q (has_any (n g)) (n g) (or_others (c g) (s g)) (hn g h) (all-chosen Q (has_any (c g)) (c g) (s g) (hc g h) (hs g h))

  names-kept : (gs : List (List Place)) → All G gs → All Q (marks_of (map (λ h. (h, n h)) gs))
  names-kept [] h = All-nil Q
  names-kept (g ∷ gs) h = All-append Q (n g) (marks_of (map (λ h. (h, n h)) gs)) (hn g (All-head G g gs h)) (names-kept gs (All-tail G g gs h))

  pub three-kept : (gs : List (List Place)) → All G gs → All Q (marks_of (by_three n c s gs))
  three-kept [] h = All-nil Q
  three-kept (g ∷ gs) h = by (has_any (all_ways n c s g)) (three-kept gs (All-tail G g gs h))
    where
      by : (b : Bool) → All Q (marks_of (by_three n c s gs))
          → All Q (marks_of (cond b ((g, all_ways n c s g) ∷ map (λ h. (h, n h)) gs) ((g, []) ∷ by_three n c s gs)))
      by true more =
          All-append Q (all_ways n c s g) (marks_of (map (λ h. (h, n h)) gs)) (ways-kept g (All-head G g gs h)) (names-kept gs (All-tail G g gs h))
      by false more = more

  pub full-kept : (w : List Mark → List Place → Bool) (marks : List Mark) (gs : List (List Place)) → All G gs → All Q (marks_of (by_full n c s w marks gs))
  full-kept w marks [] h = All-nil Q
  full-kept w marks (g ∷ gs) h =
      let own : List Mark = cond (w marks g) [] (all_ways n c s g) in
      All-append Q own (marks_of (by_full n c s w (marks ++ own) gs))
      (all-chosen Q (w marks g) [] (all_ways n c s g) (All-nil Q) (ways-kept g (All-head G g gs h))) (full-kept w (marks ++ own) gs (All-tail G g gs h))

-- of any groups nothing is known
abbrev AnyGroup : List Place → Type 0
AnyGroup g = ⊤

any-groups : (gs : List (List Place)) → All AnyGroup gs
any-groups [] = All-nil AnyGroup
any-groups (g ∷ gs) = All-cons AnyGroup g gs tt (any-groups gs)

module _ {E P : Type 0} (cites : List (CiteRender E P)) where
  abbrev Marks-stand : List Mark → Type 0
  Marks-stand = All (λ m. IsPlace cites m.0)

  abbrev stands : Member E P → Type 0
  stands m = IsPlace cites m.place

  here : (p : Place) (x : Request E P × ItemRender E P) → cite_at cites p ≡ Some x → IsPlace cites p
  here p x e = ap is_some e

  -- a cite found at a place stands there
  found-at : (p : Place) → All stands (one_or_none (member_at cites p))
  found-at p = by (cite_at cites p) refl
    where
      by : (o : Option (Request E P × ItemRender E P)) → cite_at cites p ≡ o → All stands (one_or_none (option_map (λ cite. record { place = p; item = cite.1; style = cite.0.style }) o))
      by None e = All-nil stands
      by (Some x) e = All-cons stands (record { place = p; item = x.1; style = x.0.style }) [] (here p x e) (All-nil stands)

  members-stand : (group : List Place) → All stands (members cites group)
  members-stand [] = All-nil stands
  members-stand (p ∷ ps) = All-append stands (one_or_none (member_at cites p)) (members cites ps) (found-at p) (members-stand ps)

  module _ (eq : E → E → Bool) where
    chosen-stand : (ms : List (Member E P)) → All stands ms → (o : Option (Member E P))
        → All stands (elim o [
          | None ↦ []
          | Some first ↦ filter (λ m. asks m && not (eq (entry_of first) (entry_of m))) ms
        ])
    chosen-stand ms h None = All-nil stands
    chosen-stand ms h (Some first) = All-filter (λ m. asks m && not (eq (entry_of first) (entry_of m))) stands ms h

    pub choice-stands : (group : List Place) → Marks-stand (by_choice eq cites group)
    choice-stands group =
        let ms = members cites group in
        all-chosen (λ m. IsPlace cites m.0) (may_be_chosen ms) (map (λ m. (m.place, Choose)) (chosen eq ms)) []
        (All-map (λ m. IsPlace cites m.0) (λ m. (m.place, Choose)) (chosen eq ms) (chosen-stand ms (members-stand group) (find asks ms)))
        (All-nil (λ m. IsPlace cites m.0))

    pub suffixes-stand : (dated : Bool) (group : List Place) → Marks-stand (by_suffix eq cites dated group)
    suffixes-stand dated group =
        let ms = members cites group in
        all-chosen (λ m. IsPlace cites m.0) (dated && adds_suffix ms) (map (λ m. (m.place, suffix_among eq ms m)) (first_cites eq ms)) []
        (All-map (λ m. IsPlace cites m.0) (λ m. (m.place, suffix_among eq ms m)) (first_cites eq ms)
        (all-distinct stands (λ a b. eq (entry_of a) (entry_of b)) ms (members-stand group)))
        (All-nil (λ m. IsPlace cites m.0))

  -- a member that has forms, as name marks see it
  abbrev named-stands : NamedCite → Type 0
  named-stands x = IsPlace cites x.place

  named-found : (p : Place) (x : NamedCite) → named_cite_at cites p ≡ Some x → named-stands x
  named-found p x = by (cite_at cites p) refl
    where
      by : (o : Option (Request E P × ItemRender E P)) → cite_at cites p ≡ o → option_map (λ cite. named_cite p cite.0 cite.1) o ≡ Some x → named-stands x
      by None e h = cc
      by (Some y) e h = subst (λ q. IsPlace cites q) (ap (λ z. z.place) (same_Some _ x h)) (here p y e)

  name-stands : (group : List NamedCite) (is : List ℕ) (own : NamedCite → Option ℕ) → All named-stands group → Marks-stand (marks_after group is own)
  name-stands group [] own h = All-nil (λ m. IsPlace cites m.0)
  name-stands group (i ∷ is) own h = all-kept named-stands (λ m. IsPlace cites m.0) (λ x. mark group (i ∷ is) x (own x)) at group h
    where
      at : (x : NamedCite) (m : Mark) → named-stands x → mark group (i ∷ is) x (own x) ≡ Some m → IsPlace cites m.0
      at x m there e = by x.start e
        where
          by : (o : Option NameDisambiguationProperties)
              → option_map (λ start. (x.place, DisambiguateState.NameDisambiguation (record { forms = fold (after_step group x (own x)) start.forms (i ∷ is) }))) o ≡ Some m → IsPlace cites m.0
          by None g = cc
          by (Some start) g = subst (λ p. IsPlace cites p) (ap (λ y. y.0) (same_Some _ m g)) there

  pub names-stand : (group : List Place) → Marks-stand (name_marks cites group)
  unfolding name_marks
  names-stand group =
      let found = named_cites cites group in
      let greatest = greatest_step (first_adds_names cites) found in
      name-stands found (steps found greatest) (step found greatest)
      (all-kept (λ p. ⊤) named-stands (named_cite_at cites) (λ p x u e. named-found p x e) group (λ k d h. tt))

  -- those of a group that count stand too
  counting-stand : (way : List Place → List Mark) → ((g : List Place) → Marks-stand (way g)) → (g : List Place) → Marks-stand (counting cites way g)
  counting-stand way h g = All-filter (counts cites) (λ m. IsPlace cites m.0) (way g) (h g)

  -- the marks of a group that count, in any way
  pub ways-stand : (eq : E → E → Bool) (dated : Bool) (g : List Place)
      → Marks-stand (all_ways (counting cites (name_marks cites)) (counting cites (by_choice eq cites)) (counting cites (by_suffix eq cites dated)) g)
  ways-stand eq dated g =
      ways-kept AnyGroup (λ m. IsPlace cites m.0) (counting cites (name_marks cites)) (counting cites (by_choice eq cites)) (counting cites (by_suffix eq cites dated))
      (λ g h. counting-stand (name_marks cites) names-stand g) (λ g h. counting-stand (by_choice eq cites) (choice-stands eq) g)
      (λ g h. counting-stand (by_suffix eq cites dated) (suffixes-stand eq dated) g) g tt

  -- the marks of a round stand at cites
  pub marks-stand : (mode : RoundMode) (eq : E → E → Bool) (writing : Writing E P) → All (λ m. IsPlace cites m.0) (round_marks mode eq writing.answers cites)
  unfolding round_marks
  marks-stand RoundMode.Three eq writing =
      let dated = shows_dates writing.answers cites in
      three-kept AnyGroup (λ m. IsPlace cites m.0) (name_marks cites) (by_choice eq cites) (by_suffix eq cites dated)
      (λ g h. names-stand g) (λ g h. choice-stands eq g) (λ g h. suffixes-stand eq dated g) (ambiguous_groups eq cites) (any-groups (ambiguous_groups eq cites))
  marks-stand RoundMode.Full eq writing =
      let dated = shows_dates writing.answers cites in
      full-kept AnyGroup (λ m. IsPlace cites m.0) (counting cites (name_marks cites)) (counting cites (by_choice eq cites)) (counting cites (by_suffix eq cites dated))
      (λ g h. counting-stand (name_marks cites) names-stand g) (λ g h. counting-stand (by_choice eq cites) (choice-stands eq) g)
      (λ g h. counting-stand (by_suffix eq cites dated) (suffixes-stand eq dated) g) (waits eq cites) [] (ambiguous_groups eq cites) (any-groups (ambiguous_groups eq cites))

-- what is known of the cites holds after a round
module _ {E P : Type 0} (writing : Writing E P) (t : StateTable E) where
  pub rings-kept : (rs : List (CiteRender E P)) → All (λ c. HasNoRing c.request.style.macros) rs → All (λ c. HasNoRing c.request.style.macros) (at_table writing t rs)
  rings-kept rs h = All-map (λ c. HasNoRing c.request.style.macros) (request_at writing t) rs h

  module _ (eq : E → E → Bool) (es : List E) where
    row-kept : (request : Request E P) (xs : List (ItemRender E P)) → map (λ i. place eq i.entry es) (map (λ i. with_any writing request (t i.entry) i) xs) ≡ map (λ i. place eq i.entry es) xs
    row-kept request [] = refl
    row-kept request (i ∷ xs) =
        ap (λ e. place eq e es ∷ map (λ i. place eq i.entry es) (map (λ i. with_any writing request (t i.entry) i) xs)) (same-entry writing request (t i.entry) i)
        ∙ ap (λ ys. place eq i.entry es ∷ ys) (row-kept request xs)

    pub places-kept : (rs : List (CiteRender E P)) → map (λ c. map (λ i. place eq i.entry es) c.items) (at_table writing t rs) ≡ map (λ c. map (λ i. place eq i.entry es) c.items) rs
    places-kept [] = refl
    places-kept (c ∷ cs) =
        ap (λ r. r ∷ map (λ c. map (λ i. place eq i.entry es) c.items) (at_table writing t cs)) (row-kept c.request c.items)
        ∙ ap (λ rows. map (λ i. place eq i.entry es) c.items ∷ rows) (places-kept cs)
