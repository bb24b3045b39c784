-- The plain data that requests stand for.
use Rattle.std.specs.Prelude.{List, Option, Some, None, map, option_map}
use Rattle.std.specs.Borrow.{Bor}
use Rattle.value_styles.specs.StyleView.{code_view, locale_view, style_view}
use Rattle.driver_lookup.specs.PropertiesView.{locator_view}
use Rattle.driver_passes.specs.declared.item.CitationItem.{CitationItem}
use Rattle.driver_passes.specs.declared.request.BibliographyRequest.{BibliographyRequest}
use Rattle.driver_passes.specs.declared.request.CitationRequest.{CitationRequest}
use Rattle.driver_passes.specs.declared.request.Order.{Order}
use Rattle.driver_passes.specs.Request.{RequestedCite, Request, Wanted}

module _ {T P : Type 0} where
  abbrev pub cite_view : CitationItem T P → RequestedCite T P
  cite_view i = record {
    entry = i.entry.now;
    locator = option_map locator_view i.locator;
    locale = option_map code_view i.locale;
    hidden = i.hidden;
    purpose = i.purpose;
    apart = i.apart;
    place = i.initial_idx;
  }

  abbrev pub cites_view : List (CitationItem T P) → List (RequestedCite T P)
  cites_view = map cite_view

  abbrev pub request_view : CitationRequest T P → Request T P
  request_view r = record {
    cites = cites_view r.items.items;
    style = style_view r.style.now;
    locale = option_map code_view r.locale;
    locales = map locale_view r.locale_files.now;
    note_number = r.note_number;
  }

  abbrev pub requests_view : List (CitationRequest T P) → List (Request T P)
  requests_view = map request_view

module _ {T : Type 0} where
  abbrev pub entries_view : List (Bor T) → List T
  entries_view = map (λ e. e.now)

  abbrev pub order_view : Option (Order T) → Option (List T)
  order_view None = None
  order_view (Some order) = Some (entries_view order.0.now)

  abbrev pub wanted_view : BibliographyRequest T → Wanted T
  wanted_view w = record {
    style = style_view w.style.now;
    locale = option_map code_view w.locale;
    locales = map locale_view w.locale_files.now;
    order = order_view w.order;
  }
