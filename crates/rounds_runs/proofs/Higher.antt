-- In mode full each mark of a round has a higher rank than the state before it.
use Rattle.std.proofs.Common.{◌≡◌, ℕ, ◌<◌, Bool, true, false, ◌&&◌, Option, Some, None, List, [], ◌∷◌, map, filter, refl, ap, sym, subst, ◌∙◌, arith}
use Rattle.std.specs.Prelude.{All, option_map}
use Rattle.std.specs.Option.{option_map_or}
use Rattle.std.proofs.lemmas.List.Elements.{All-append, All-contains, All-cons, All-filter, All-map, All-nil, All-weaker, filter_passes}
use Rattle.std.proofs.lemmas.Option.{same_Some}
use Rattle.rounds_ambiguity.specs.ChooseMarks.{chosen, may_be_chosen}
use Rattle.rounds_ambiguity.specs.Ambiguity.{ambiguous_groups}
use Rattle.rounds_ambiguity.specs.MarkLaws.{HaveNoSuffix, IsMarkOf}
use Rattle.rounds_ambiguity.specs.Members.{Member, member_at, members, one_or_none, place_of, state_of}
use Rattle.rounds_ambiguity.specs.SuffixMarks.{adds_suffix, first_cites, shows_dates, suffix_among}
use Rattle.rounds_ambiguity.proofs.GroupLaws.{choose-go-on, no-suffix, suffixes-go-on}
use Rattle.rounds_ambiguity.proofs.Sifted.{StandsThere}
use Rattle.driver_writers.specs.Writing.{Writing}
use Rattle.driver_lookup.specs.GoingOn.{GoesOnTo, rank}
use Rattle.driver_lookup.specs.declared.state.DisambiguateState.TheVariants.{Choose}
use Rattle.driver_lookup.proofs.GoingOn.{go-on}
use Rattle.rounds_names.specs.MarkLaws.{IsNameMark}
use Rattle.rounds_names.specs.NameMarks.{name_marks}
use Rattle.rounds_names.proofs.Rising.{marks-go-on}
use Rattle.driver_passes.specs.Places.{cite_at}
use Rattle.driver_passes.specs.Renders.{CiteRender, ItemRender, Place}
use Rattle.driver_passes.specs.Request.{Request}
use Rattle.rounds_runs.specs.RoundMarks.{Mark, by_choice, by_suffix, counting, counts, raises, round_marks, waits}
use Rattle.rounds_runs.specs.declared.mode.RoundMode.{RoundMode}
use Rattle.rounds_runs.proofs.Kept.{all-chosen, full-kept}
use Rattle.rounds_runs.proofs.NameSizes.{HasFew, IsFew, names-few}
use Rattle.rounds_runs.proofs.Ranks.{IsShort, counts-higher}

module _ {E P : Type 0} (f : ℕ) (cites : List (CiteRender E P)) where
  -- a mark of higher rank than the state of the cite at its place
  abbrev pub IsHigher : Mark → Type 0
  IsHigher m = (c : Member E P) → member_at cites m.0 ≡ Some c → (rank f (state_of c) < rank f m.1) × IsShort f m.1

  module _ (few : HasFew f cites) where
    -- a mark that counts, of a cite whose state goes on to it
    higher : (m : Mark) (c : Member E P) → member_at cites m.0 ≡ Some c → counts cites m ≡ true → GoesOnTo (state_of c) m.1 → IsShort f m.1
        → (rank f (state_of c) < rank f m.1) × IsShort f m.1
    higher m c found counted on short =
        let more : raises (state_of c) m.1 ≡ true = sym (ap (λ o. option_map_or (λ c. raises (state_of c) m.1) o false) found) ∙ counted in
        (counts-higher f (state_of c) m.1 (few m.0 c found).0 on more, short)

    names-are-higher : (g : List Place) → All IsHigher (counting cites (name_marks cites) g)
    names-are-higher g =
        All-weaker (λ m. IsNameMark cites g m × IsFew f cites m × (counts cites m ≡ true)) IsHigher at (counting cites (name_marks cites) g)
        (λ k d w. (
          All-filter (counts cites) (IsNameMark cites g) (name_marks cites g) (marks-go-on go-on cites g) k d w,
          All-filter (counts cites) (IsFew f cites) (name_marks cites g) (names-few f cites few g) k d w,
          filter_passes (counts cites) (name_marks cites g) k d w,
        ))
      where
        at : (m : Mark) → IsNameMark cites g m × IsFew f cites m × (counts cites m ≡ true) → IsHigher m
        at m h c found =
            let same : record { place = m.0; item = h.0.cite.1; style = h.0.cite.0.style } ≡ c =
            same_Some _ c (sym (ap (option_map (λ cite. record { place = m.0; item = cite.1; style = cite.0.style })) h.0.stands_there) ∙ found) in
            higher m c found h.2 (subst (λ (n : Member E P). GoesOnTo (state_of n) m.1) same h.0.goes_on) (h.1 c found)

    found-there : (p : Place) → All (StandsThere cites) (one_or_none (member_at cites p))
    found-there p = by (cite_at cites p) refl
      where
        by : (o : Option (Request E P × ItemRender E P)) → cite_at cites p ≡ o → All (StandsThere cites) (one_or_none (option_map (λ cite. record { place = p; item = cite.1; style = cite.0.style }) o))
        by None e = All-nil (StandsThere cites)
        by (Some x) e =
            All-cons (StandsThere cites) (record { place = p; item = x.1; style = x.0.style }) []
            (ap (option_map (λ cite. record { place = p; item = cite.1; style = cite.0.style })) e) (All-nil (StandsThere cites))

    all-there : (g : List Place) → All (StandsThere cites) (members cites g)
    all-there [] = All-nil (StandsThere cites)
    all-there (p ∷ ps) = All-append (StandsThere cites) (one_or_none (member_at cites p)) (members cites ps) (found-there p) (all-there ps)

    module _ (eq : E → E → Bool) (g : List Place) (none : HaveNoSuffix (members cites g)) where
      abbrev ms : List (Member E P)
      ms = members cites g

      of-members : (marks : List Mark) → All (IsMarkOf ms) marks → All (λ m. IsShort f m.1) marks → All IsHigher (filter (counts cites) marks)
      of-members marks on short =
          All-weaker (λ m. IsMarkOf ms m × IsShort f m.1 × (counts cites m ≡ true)) IsHigher at (filter (counts cites) marks)
          (λ k d w. (
            All-filter (counts cites) (IsMarkOf ms) marks on k d w,
            All-filter (counts cites) (λ m. IsShort f m.1) marks short k d w,
            filter_passes (counts cites) marks k d w,
          ))
        where
          at : (m : Mark) → IsMarkOf ms m × IsShort f m.1 × (counts cites m ≡ true) → IsHigher m
          at m h c found =
              let there : member_at cites (place_of h.0.cite) ≡ Some h.0.cite = All-contains (StandsThere cites) ms h.0.cite (all-there g) h.0.among in
              let same : h.0.cite ≡ c = same_Some h.0.cite c (sym there ∙ ap (member_at cites) (sym h.0.stands_there) ∙ found) in
              higher m c found h.2 (subst (λ (n : Member E P). GoesOnTo (state_of n) m.1) same h.0.goes_on) h.1

      choice-is-higher : All IsHigher (counting cites (by_choice eq cites) g)
      choice-is-higher =
          of-members (by_choice eq cites g) (choose-go-on eq ms none)
          (all-chosen (λ m. IsShort f m.1) (may_be_chosen ms) (map (λ m. (m.place, Choose)) (chosen eq ms)) []
          (All-map (λ m. IsShort f m.1) (λ m. (m.place, Choose)) (chosen eq ms) (λ k d w. omega arith)) (All-nil (λ m. IsShort f m.1)))

      suffixes-are-higher : (dated : Bool) → All IsHigher (counting cites (by_suffix eq cites dated) g)
      suffixes-are-higher dated =
          of-members (by_suffix eq cites dated g) (suffixes-go-on eq ms dated none)
          (all-chosen (λ m. IsShort f m.1) (dated && adds_suffix ms) (map (λ m. (m.place, suffix_among eq ms m)) (first_cites eq ms)) []
          (All-map (λ m. IsShort f m.1) (λ m. (m.place, suffix_among eq ms m)) (first_cites eq ms) (λ k d w. omega arith)) (All-nil (λ m. IsShort f m.1)))

    pub marks-are-higher : (eq : E → E → Bool) (writing : Writing E P) → All IsHigher (round_marks RoundMode.Full eq writing.answers cites)
    unfolding round_marks
    marks-are-higher eq writing =
        let dated = shows_dates writing.answers cites in
        full-kept (λ g. HaveNoSuffix (members cites g)) IsHigher (counting cites (name_marks cites)) (counting cites (by_choice eq cites)) (counting cites (by_suffix eq cites dated))
        (λ g h. names-are-higher g) (λ g h. choice-is-higher eq g h) (λ g h. suffixes-are-higher eq g h dated) (waits eq cites) [] (ambiguous_groups eq cites) (no-suffix eq cites)
