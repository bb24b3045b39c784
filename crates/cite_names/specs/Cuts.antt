-- The options of et-al abbreviation that hold (CSL 1.0.2, "Inheritable Name Options").
use Rattle.std.specs.Prelude.{ℕ, Bool, false, Option, Some, None, if◌then◌else◌, option_map, unwrap_or}
use Rattle.std.specs.Option.{option_or}
use Rattle.cite_names.specs.declared.rules.Cut.{Cut}
use Rattle.style_file.specs.declared.names.NameOptions.{NameOptions}
use Rattle.style_file.specs.declared.sections.SortKey.{SortKey}

-- names are only truncated where both numbers are there
abbrev pub cut_at : Option ℕ → Option ℕ → Option Cut
cut_at (Some min) (Some use_first) = Some (record { min = min; use_first = use_first })
cut_at _ _ = None

module _ (own section style : NameOptions) where
  -- an option of the name, else of the citation or the bibliography, else of the style
  abbrev pub handed_down : {X : Type 0} → (NameOptions → Option X) → Option X
  handed_down option = option_or (option_or (option own) (option section)) (option style)

  abbrev pub use_last_of : Bool
  use_last_of = unwrap_or (handed_down (λ o. o.et_al_use_last)) false

  -- in later cites et-al-subsequent-min and et-al-subsequent-use-first stand for the others
  abbrev pub number_of : Bool → (NameOptions → Option ℕ) → (NameOptions → Option ℕ) → Option ℕ
  number_of is_subsequent usual later = if is_subsequent
      then option_or (handed_down later) (handed_down usual) else handed_down usual

  abbrev pub cut_of : Bool → Option Cut
  cut_of is_subsequent =
      cut_at (number_of is_subsequent (λ o. o.et_al_min) (λ o. o.et_al_subsequent_min))
      (number_of is_subsequent (λ o. o.et_al_use_first) (λ o. o.et_al_subsequent_use_first))

-- a key of sorting may have numbers of its own (CSL 1.0.2, "Sorting")
abbrev pub cut_by_key : Option SortKey → Option Cut → Option Cut
cut_by_key None cut = cut
cut_by_key (Some key) cut = cut_at (option_or key.names_min (option_map (λ c. c.min) cut))
    (option_or key.names_use_first (option_map (λ c. c.use_first) cut))

abbrev pub use_last_by_key : Option SortKey → Bool → Bool
use_last_by_key None use_last = use_last
use_last_by_key (Some key) use_last = unwrap_or key.names_use_last use_last
