-- Cites as they are arranged in the end.
use Rattle.std.specs.Prelude.{ℕ, ◌||◌, List, None, Option, Some, codes, encode_utf8, slice_index_or, unwrap_or}
use Rattle.std.specs.List.{zip}
use Rattle.std.specs.Option.{option_or}
use Rattle.value_styles.specs.Style.{CitationValue}
use Rattle.driver_lookup.specs.declared.state.CollapseVerdict.{CollapseVerdict}
use Rattle.driver_lookup.specs.declared.state.IbidState.{IbidState}
use Rattle.mentions_notes.specs.declared.repeats.Position.{Position}
use Rattle.mentions_blocks.specs.declared.collapsed.YearCut.{YearCut}
use Rattle.mentions_blocks.specs.declared.collapsed.YearDelimiter.{YearDelimiter}
use Rattle.mentions_arranging.specs.Requests.{Request}
use Rattle.mentions_arranging.specs.declared.arranged.ArrangedCite.{ArrangedCite}
use Rattle.mentions_arranging.specs.declared.request.FinalCite.{FinalCite}
use Rattle.driver_passes.specs.Renders.{CiteRender, ItemRender}
use Rattle.mentions_tables.specs.Steps.{all_changed}

-- U+2013 as text
abbrev pub en_dash : List ℕ
en_dash = encode_utf8 0x2013

abbrev pub ibid_of : Position → IbidState
ibid_of Position.Different = IbidState.Different
ibid_of Position.Ibid = IbidState.Ibid
ibid_of Position.IbidWithLocator = IbidState.IbidWithLocator

-- how a cite is cut that is shown so far
abbrev pub verdict_of : YearCut → Option CollapseVerdict
verdict_of YearCut.Whole = None
verdict_of YearCut.WithoutNames = Some CollapseVerdict.First
verdict_of YearCut.Suffix = Some CollapseVerdict.YearSuffix

-- what stands before a cite in place of the layout's delimiter
abbrev pub delimiter_of : CitationValue → YearDelimiter → Option (List ℕ)
delimiter_of c YearDelimiter.Layout = None
delimiter_of c YearDelimiter.Group = Some (unwrap_or c.cite_group_delimiter (codes ", "))
delimiter_of c YearDelimiter.AfterCollapse =
    option_or c.after_collapse_delimiter c.layout.delimiter
delimiter_of c YearDelimiter.YearSuffix = option_or c.year_suffix_delimiter c.layout.delimiter
delimiter_of c YearDelimiter.Dash = Some en_dash

module _ {E P : Type 0} where
  -- a cite as it is arranged, whose entry has this number: inside a range it is hidden
  abbrev pub arranged_cite : CitationValue → ℕ → ArrangedCite → ItemRender E P → ItemRender E P
  arranged_cite citation number a i = record i {
    properties = record i.properties {
      speculative = record i.properties.speculative {
        ibid = ibid_of a.position;
        citation_number = number;
      };
    };
    hidden = i.hidden || a.is_inner;
    delimiter_override = delimiter_of citation a.delimiter;
    verdict = verdict_of a.cut;
  }

  module _ {L : Type 0} (numbers : List ℕ) where
    -- the same of a cite in the final order; the number of its entry is 0 where there is none
    abbrev pub arranged_by : CitationValue → FinalCite L × ArrangedCite → ItemRender E P
        → ItemRender E P
    arranged_by citation p =
        arranged_cite citation (slice_index_or numbers p.0.cite.entry 0) p.1

    -- the cites of a request in their final order
    abbrev pub arranged_request : Request (FinalCite L) × List ArrangedCite → CiteRender E P
        → CiteRender E P
    arranged_request p r = record r {
      items = all_changed (arranged_by r.request.style.citation) (zip p.0.cites p.1) r.items;
    }

    -- those of all requests
    abbrev pub arranged_finally : List (Request (FinalCite L)) → List (List ArrangedCite)
        → List (CiteRender E P) → List (CiteRender E P)
    arranged_finally requests arranged = all_changed arranged_request (zip requests arranged)
