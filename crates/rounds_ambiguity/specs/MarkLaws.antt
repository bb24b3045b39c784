-- What ambiguous groups, choose marks and suffix marks are, whatever the document.
use Rattle.std.specs.Prelude.{◌≡◌, Bool, true, false, All, Contains, List, map}
use Rattle.std.specs.List.{enumerate_from}
use Rattle.driver_entries.specs.Entries.{distinct}
use Rattle.driver_lookup.specs.GoingOn.{GoesOnTo}
use Rattle.driver_lookup.specs.States.{may_get_suffix}
use Rattle.driver_lookup.specs.declared.state.DisambiguateState.{DisambiguateState}
use Rattle.driver_lookup.specs.declared.state.DisambiguateState.TheVariants.{YearSuffix}
use Rattle.driver_passes.specs.Renders.{CiteRender, Place}
use Rattle.rounds_ambiguity.specs.Ambiguity.{ambiguous_groups}
use Rattle.rounds_ambiguity.specs.ChooseMarks.{choose_marks}
use Rattle.rounds_ambiguity.specs.Members.{Member, document, entry_of, members, place_of, shown_text, state_of}
use Rattle.rounds_ambiguity.specs.SuffixMarks.{first_cites, suffix_marks, year_suffix_marks}

-- both places stand in one of the groups
pub record StandInOneGroup (groups : List (List Place)) (p q : Place) : Type 0 where
  pub group : List Place
  pub is_group : Contains groups group
  pub one_inside : Contains group p
  pub other_inside : Contains group q

module _ {E P : Type 0} where
  -- no entry of these cites has a suffix
  abbrev pub HaveNoSuffix : List (Member E P) → Type 0
  HaveNoSuffix cites = All (λ m. may_get_suffix (state_of m) ≡ true) cites

  -- the mark stands at the place of one of the cites, whose state goes on to it
  pub record IsMarkOf (cites : List (Member E P)) (mark : Place × DisambiguateState) : Type 0 where
    pub cite : Member E P
    pub among : Contains cites cite
    pub stands_there : mark.0 ≡ place_of cite
    pub goes_on : GoesOnTo (state_of cite) mark.1

  module _ (eq : E → E → Bool) where
    -- two cites, of different entries, that read alike and whose entries have no suffix
    pub record AreAmbiguous (cites : List (CiteRender E P)) (a b : Member E P) : Type 0 where
      pub one_cited : Contains (document cites) a
      pub other_cited : Contains (document cites) b
      pub read_alike : shown_text a ≡ shown_text b
      pub differ : eq (entry_of a) (entry_of b) ≡ false
      pub one_without : may_get_suffix (state_of a) ≡ true
      pub other_without : may_get_suffix (state_of b) ≡ true

    -- the cites of the ambiguous groups have no suffix
    abbrev pub GroupsHaveNoSuffix : List (CiteRender E P) → Type 0
    GroupsHaveNoSuffix cites =
        All (λ group. HaveNoSuffix (members cites group)) (ambiguous_groups eq cites)

    -- two such cites stand in one of these groups
    abbrev pub AmbiguousStandTogether : List (CiteRender E P) → Type 0
    AmbiguousStandTogether cites = (a b : Member E P) → AreAmbiguous cites a b
        → StandInOneGroup (ambiguous_groups eq cites) (place_of a) (place_of b)

    -- of cites without suffix each choose mark, and each suffix mark, is a mark to which the state
    -- of its cite goes on
    abbrev pub ChooseMarksGoOn : List (Member E P) → Type 0
    ChooseMarksGoOn cites = HaveNoSuffix cites → All (IsMarkOf cites) (choose_marks eq cites)

    abbrev pub SuffixMarksGoOn : List (Member E P) → Type 0
    SuffixMarksGoOn cites = (dated : Bool) → HaveNoSuffix cites
        → All (IsMarkOf cites) (year_suffix_marks eq dated cites)

    -- the distinct entries of cites get the suffixes 0, 1, 2 and on, at their first cites, in the
    -- order of these
    pub record SuffixesCountEntries (cites : List (Member E P)) : Type 0 where
      pub one_each : map entry_of (first_cites eq cites) ≡ distinct eq (map entry_of cites)
      pub in_order : suffix_marks eq cites
          ≡ map (λ p. (place_of p.1, YearSuffix p.0)) (enumerate_from 0 (first_cites eq cites))
