-- The cites of a document, and those at the places of a group, each with its place and its style.
use Rattle.std.specs.Prelude.{ℕ, List, [], ◌∷◌, Option, None, Some, map, option_map}
use Rattle.std.specs.List.{enumerate_from, flat_map}
use Rattle.value_styles.specs.Style.{StyleValue}
use Rattle.value_trees.specs.Tree.{plain}
use Rattle.driver_lookup.specs.declared.state.DisambiguateState.{DisambiguateState}
use Rattle.driver_passes.specs.Places.{cite_at}
use Rattle.driver_passes.specs.Renders.{ItemRender, CiteRender, Place}

pub record Member (E P : Type 0) : Type 0 where
  pub place : Place
  pub item : ItemRender E P
  pub style : StyleValue

module _ {E P : Type 0} where
  abbrev pub place_of : Member E P → Place
  place_of m = m.place

  abbrev pub entry_of : Member E P → E
  entry_of m = m.item.entry

  -- the plain text of what was written
  abbrev pub shown_text : Member E P → List ℕ
  shown_text m = plain m.item.rendered

  -- by what means its entry is disambiguated
  abbrev pub state_of : Member E P → DisambiguateState
  state_of m = m.item.properties.speculative.disambiguation

  -- the cites of the r-th request
  abbrev pub request_cites : ℕ → CiteRender E P → List (Member E P)
  request_cites r c = map (λ p. record { place = (r, p.0); item = p.1; style = c.request.style })
      (enumerate_from 0 c.items)

  -- the cites of the whole document, in order
  abbrev pub document : List (CiteRender E P) → List (Member E P)
  document cites = flat_map (λ p. request_cites p.0 p.1) (enumerate_from 0 cites)

  -- the cite at a place, if there is one
  abbrev pub member_at : List (CiteRender E P) → Place → Option (Member E P)
  member_at cites place =
      option_map (λ cite. record { place = place; item = cite.1; style = cite.0.style })
      (cite_at cites place)

  -- a list of it, if there is one
  abbrev pub one_or_none : Option (Member E P) → List (Member E P)
  one_or_none None = []
  one_or_none (Some m) = m ∷ []

  -- the cites at these places
  abbrev pub members : List (CiteRender E P) → List Place → List (Member E P)
  members cites places = flat_map (λ p. one_or_none (member_at cites p)) places
