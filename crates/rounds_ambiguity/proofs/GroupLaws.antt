-- Cites without suffix: their groups, and their marks.
use Rattle.std.proofs.Common.{◌≡◌, ℕ, zero, suc, Bool, true, false, cond, not, ◌&&◌, ◌||◌, List, [], ◌∷◌, Option, None, Some, filter, get_or, map, refl, sym, ap, subst, ◌∙◌, true≢false, arith}
use Rattle.std.specs.Prelude.{All, Contains, bytes_eq, find, if◌then◌else◌}
use Rattle.std.specs.Cmp.{IsEquivalence}
use Rattle.std.specs.List.{list_any}
use Rattle.std.proofs.lemmas.List.Elements.{All-contains_itself, All-filter, All-map, All-nil, All-weaker, filter_passes}
use Rattle.std.proofs.lemmas.Slice.Eq.{bytes_eq-Decides}
use Rattle.driver_entries.specs.Entries.{distinct}
use Rattle.driver_lookup.specs.GoingOn.{GoesOnTo}
use Rattle.driver_lookup.specs.States.{may_get_suffix}
use Rattle.driver_lookup.specs.declared.state.DisambiguateState.{DisambiguateState}
use Rattle.driver_passes.specs.Renders.{CiteRender}
use Rattle.rounds_ambiguity.specs.Ambiguity.{ambiguous_groups, cite_different, class_of, classes, seconds, without_suffix}
use Rattle.rounds_ambiguity.specs.ChooseMarks.{asks, chosen, may_be_chosen}
use Rattle.rounds_ambiguity.specs.ClassesSoFar.{texts}
use Rattle.rounds_ambiguity.specs.MarkLaws.{AmbiguousStandTogether, AreAmbiguous, ChooseMarksGoOn, GroupsHaveNoSuffix, HaveNoSuffix, IsMarkOf, StandInOneGroup, SuffixMarksGoOn, SuffixesCountEntries}
use Rattle.rounds_ambiguity.specs.Members.{Member, document, entry_of, members, place_of, shown_text, state_of}
use Rattle.rounds_ambiguity.specs.SuffixMarks.{adds_suffix, first_cites, suffix_among, suffix_marks}
use Rattle.rounds_ambiguity.proofs.Distinct.{all-filter, distinct-map}
use Rattle.rounds_ambiguity.proofs.FirstOnes.{enumerate-map, numbered-firsts}
use Rattle.rounds_ambiguity.proofs.Seconds.{are-texts, are_two}
use Rattle.rounds_ambiguity.proofs.Sifted.{StandsThere, document-stands, members-there}
use Rattle.rounds_ambiguity.proofs.Contained.{in-filter, in-map, any-in, some-in}

module _ {X : Type 0} where
  distinct-part : (P : X → Type 0) (eq : X → X → Bool) (xs : List X) → All P xs → All P (distinct eq xs)
  distinct-part P eq [] all = All-nil P
  distinct-part P eq (x ∷ xs) all = first (All-filter (λ y. not (eq x y)) P (distinct eq xs) (distinct-part P eq xs (λ k d w. all (suc k) d (omega (arith, w)))))
    where
      first : All P (filter (λ y. not (eq x y)) (distinct eq xs)) → All P (x ∷ filter (λ y. not (eq x y)) (distinct eq xs))
      first rest zero d w = all 0 x (omega arith)
      first rest (suc k) d w = rest k d (omega (arith, w))

to-choose : (s : DisambiguateState) → may_get_suffix s ≡ true → GoesOnTo s DisambiguateState.Choose
to-choose DisambiguateState.None h = omega arith
to-choose (DisambiguateState.NameDisambiguation forms) h = omega arith
to-choose DisambiguateState.Choose h = omega arith
to-choose (DisambiguateState.YearSuffix suffix) h = absurd (true≢false (sym h))

to-suffix : (s : DisambiguateState) (n : ℕ) → may_get_suffix s ≡ true → GoesOnTo s (DisambiguateState.YearSuffix n)
to-suffix DisambiguateState.None n h = omega arith
to-suffix (DisambiguateState.NameDisambiguation forms) n h = omega arith
to-suffix DisambiguateState.Choose n h = omega arith
to-suffix (DisambiguateState.YearSuffix suffix) n h = absurd (true≢false (sym h))

module _ {E P : Type 0} where
  -- a cite of these that has no suffix
  abbrev IsBare : List (Member E P) → Member E P → Type 0
  IsBare cites m = Contains cites m × (may_get_suffix (state_of m) ≡ true)

  all-bare : (cites : List (Member E P)) → HaveNoSuffix cites → All (IsBare cites) cites
  all-bare cites h = λ k d w. (All-contains_itself cites k d w, h k d w)

  module _ (eq : E → E → Bool) where
    pub choose-go-on : (cites : List (Member E P)) → ChooseMarksGoOn eq cites
    choose-go-on cites h = by (may_be_chosen cites)
      where
        marked : (ms : List (Member E P)) → All (IsBare cites) ms → All (IsMarkOf cites) (map (λ m. (m.place, DisambiguateState.Choose)) ms)
        marked ms all = All-map (IsMarkOf cites) (λ m. (m.place, DisambiguateState.Choose)) ms
            (All-weaker (IsBare cites) (λ m. IsMarkOf cites (m.place, DisambiguateState.Choose))
            (λ m b. record { cite = m; among = b.0; stands_there = refl; goes_on = to-choose (state_of m) b.1 }) ms all)

        those : (o : Option (Member E P)) → All (IsBare cites) (elim o [ None ↦ [] | Some first ↦ filter (λ m. asks m && not (eq (entry_of first) (entry_of m))) cites ])
        those None = All-nil (IsBare cites)
        those (Some first) = All-filter (λ m. asks m && not (eq (entry_of first) (entry_of m))) (IsBare cites) cites (all-bare cites h)

        by : (b : Bool) → All (IsMarkOf cites) (if b then map (λ m. (m.place, DisambiguateState.Choose)) (chosen eq cites) else [])
        by true = marked (chosen eq cites) (those (find asks cites))
        by false = All-nil (IsMarkOf cites)

    pub suffixes-go-on : (cites : List (Member E P)) → SuffixMarksGoOn eq cites
    suffixes-go-on cites dated h = by (dated && adds_suffix cites)
      where
        by : (b : Bool) → All (IsMarkOf cites) (if b then suffix_marks eq cites else [])
        by true = All-map (IsMarkOf cites) (λ m. (m.place, suffix_among eq cites m)) (first_cites eq cites)
            (All-weaker (IsBare cites) (λ m. IsMarkOf cites (m.place, suffix_among eq cites m))
            (λ m b. record { cite = m; among = b.0; stands_there = refl; goes_on = to-suffix (state_of m) _ b.1 }) (first_cites eq cites)
            (distinct-part (IsBare cites) (λ a b. eq (entry_of a) (entry_of b)) cites (all-bare cites h)))
        by false = All-nil (IsMarkOf cites)

    module _ (cites : List (CiteRender E P)) where
      abbrev bare : List (Member E P)
      bare = without_suffix (document cites)

      class-bare : (t : List ℕ) → HaveNoSuffix (members cites (map place_of (class_of bare t)))
      class-bare t =
          let there = members-there cites (class_of bare t)
          (all-filter (StandsThere cites) (λ x. bytes_eq t (shown_text x)) bare (all-filter (StandsThere cites) (λ x. may_get_suffix (state_of x)) (document cites) (document-stands cites [] cites refl))) in
          subst HaveNoSuffix (sym there) (All-filter (λ x. bytes_eq t (shown_text x)) (λ m. may_get_suffix (state_of m) ≡ true) bare (filter_passes (λ m. may_get_suffix (state_of m)) (document cites)))

      pub no-suffix : GroupsHaveNoSuffix eq cites
      no-suffix =
          All-map (λ group. HaveNoSuffix (members cites group)) (map place_of) (filter (cite_different eq) (classes bare))
          (All-filter (cite_different eq) (λ c. HaveNoSuffix (members cites (map place_of c))) (classes bare)
          (All-map (λ c. HaveNoSuffix (members cites (map place_of c))) (λ m. class_of bare (shown_text m)) (seconds bare) (λ k d w. class-bare (shown_text (get_or (seconds bare) k d)))))

      module _ (laws : IsEquivalence eq) (a b : Member E P) (h : AreAmbiguous eq cites a b) where
        abbrev text : List ℕ
        text = shown_text a

        -- they are two of a class
        two : (c : List (Member E P)) → Contains c a → Contains c b → are_two c ≡ true
        two [] (k, w, e) v = absurd (omega (arith, w))
        two (m ∷ []) u v =
            let one : m ≡ a = only m a u in
            let other : m ≡ b = only m b v in
            let same : eq (entry_of a) (entry_of b) ≡ true = ap (λ x. eq (entry_of a) (entry_of x)) (sym other ∙ one) ∙ laws.refl (entry_of a) in
            absurd (true≢false (sym same ∙ h.differ))
          where
            only : (m x : Member E P) → Contains (m ∷ []) x → m ≡ x
            only m x (zero, w, e) = e
            only m x (suc k, w, e) = absurd (omega (arith, w))
        two (m ∷ n ∷ ms) u v = refl

        in-class : (x : Member E P) → Contains (document cites) x → may_get_suffix (state_of x) ≡ true → text ≡ shown_text x → Contains (class_of bare text) x
        in-class x cited without alike =
            in-filter (λ m. bytes_eq text (shown_text m)) bare x (in-filter (λ m. may_get_suffix (state_of m)) (document cites) x cited without) ((bytes_eq-Decides text (shown_text x)).1 alike)

        pub together : StandInOneGroup (ambiguous_groups eq cites) (place_of a) (place_of b)
        together =
            let one = in-class a h.one_cited h.one_without refl in
            let other = in-class b h.other_cited h.other_without h.read_alike in
            let listed : list_any (bytes_eq text) (texts bare) ≡ true = (are-texts bare).listed text ∙ two (class_of bare text) one other in
            let second = some-in (λ m. bytes_eq text (shown_text m)) (seconds bare) (sym (any-of (seconds bare)) ∙ listed) in
            let same : shown_text second.0 ≡ text = sym ((bytes_eq-Decides text (shown_text second.0)).0 second.2) in
            let is_class : Contains (classes bare) (class_of bare text) =
            subst (λ t. Contains (classes bare) (class_of bare t)) same (in-map (λ m. class_of bare (shown_text m)) (seconds bare) second.0 second.1) in
            let differ : cite_different eq (class_of bare text) ≡ true =
            any-in (λ x. list_any (λ y. not (eq (entry_of x) (entry_of y))) (class_of bare text)) (class_of bare text) a one
            (any-in (λ y. not (eq (entry_of a) (entry_of y))) (class_of bare text) b other (ap not h.differ)) in
            record {
              group = map place_of (class_of bare text);
              is_group = in-map (map place_of) (filter (cite_different eq) (classes bare)) (class_of bare text) (in-filter (cite_different eq) (classes bare) (class_of bare text) is_class differ);
              one_inside = in-map place_of (class_of bare text) a one;
              other_inside = in-map place_of (class_of bare text) b other;
            }
          where
            any-of : (ms : List (Member E P)) → list_any (bytes_eq text) (map shown_text ms) ≡ list_any (λ m. bytes_eq text (shown_text m)) ms
            any-of [] = refl
            any-of (m ∷ ms) = ap (λ b. bytes_eq text (shown_text m) || b) (any-of ms)

    pub stand-together : IsEquivalence eq → (cites : List (CiteRender E P)) → AmbiguousStandTogether eq cites
    stand-together laws cites a b h = together cites laws a b h

    pub count-entries : IsEquivalence eq → (cites : List (Member E P)) → SuffixesCountEntries eq cites
    count-entries laws cites = record {
      one_each = sym (distinct-map entry_of eq cites);
      in_order = sym (numbered-firsts eq laws cites) ∙ enumerate-map eq laws cites 0 (first_cites eq cites);
    }
