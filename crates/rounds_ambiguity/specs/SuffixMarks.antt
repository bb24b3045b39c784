-- Suffix marks: the year suffixes by which the entries of an ambiguous group are disambiguated.
use Rattle.std.specs.Prelude.{Bool, ◌&&◌, ◌||◌, List, [], ◌∷◌, map, is_some, if◌then◌else◌}
use Rattle.std.specs.List.{flat_map, list_any}
use Rattle.value_sources.specs.Answers.{Answers}
use Rattle.value_trees.specs.Child.{Child}
use Rattle.value_trees.specs.Metas.{has_meta}
use Rattle.value_trees.specs.Tree.{find_elem}
use Rattle.value_trees.specs.declared.elem.ElemMeta.{ElemMeta}
use Rattle.value_trees.specs.declared.elem.ElemMeta.TheVariants as meta
use Rattle.value_sources.specs.declared.taxonomy.DateVariable.TheVariants.{Issued, Accessed, AvailableDate, EventDate, Submitted, OriginalDate}
use Rattle.driver_lookup.specs.declared.state.DisambiguateState.{DisambiguateState}
use Rattle.driver_lookup.specs.declared.state.DisambiguateState.TheVariants.{YearSuffix}
use Rattle.driver_entries.specs.Entries.{distinct, place}
use Rattle.driver_passes.specs.Renders.{CiteRender, ItemRender, Place}
use Rattle.rounds_ambiguity.specs.Members.{Member, entry_of}

-- the tree shows an element with this meta, at any depth
abbrev pub shows : ElemMeta → List Child → Bool
shows m tree = is_some (find_elem (has_meta m) tree)

-- the entry has a date
abbrev pub has_date : Answers → Bool
has_date answers = list_any (λ v. is_some (answers.date v))
    (Issued ∷ Accessed ∷ AvailableDate ∷ EventDate ∷ Submitted ∷ OriginalDate ∷ [])

module _ {E P : Type 0} where
  -- the cite shows a date, or the citation label of an entry that has one
  abbrev pub shows_date : (E → Answers) → ItemRender E P → Bool
  shows_date answers i = shows meta.Date i.rendered
      || (shows meta.CitationLabel i.rendered && has_date (answers i.entry))

  -- some cite of the whole document does
  abbrev pub shows_dates : (E → Answers) → List (CiteRender E P) → Bool
  shows_dates answers cites = list_any (shows_date answers) (flat_map (λ c. c.items) cites)

  -- the style of some of the cites adds suffixes
  abbrev pub adds_suffix : List (Member E P) → Bool
  adds_suffix cites = list_any (λ m. m.style.citation.disambiguate_add_year_suffix) cites

  module _ (eq : E → E → Bool) where
    -- the first cite of each entry, in order
    abbrev pub first_cites : List (Member E P) → List (Member E P)
    first_cites = distinct (λ a b. eq (entry_of a) (entry_of b))

    -- the place of the cite's entry among the distinct entries of the cites, as a suffix
    abbrev pub suffix_among : List (Member E P) → Member E P → DisambiguateState
    suffix_among cites m = YearSuffix (place eq (entry_of m) (distinct eq (map entry_of cites)))

    -- the marks of a group of cites: one for each entry, at its first cite
    abbrev pub suffix_marks : List (Member E P) → List (Place × DisambiguateState)
    suffix_marks cites = map (λ m. (m.place, suffix_among cites m)) (first_cites cites)

    -- the same where dates are shown and some style asks for suffixes, and else none
    abbrev pub year_suffix_marks : Bool → List (Member E P) → List (Place × DisambiguateState)
    year_suffix_marks dated cites = if dated && adds_suffix cites then suffix_marks cites else []
