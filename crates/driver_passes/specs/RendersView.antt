-- The plain data that renders of cites stand for.
use Rattle.std.specs.Prelude.{List, map, option_map}
use Rattle.std.specs.Borrow.{Bor}
use Rattle.value_styles.specs.StyleView.{code_view}
use Rattle.driver_lookup.specs.PropertiesView.{locator_view, properties_view}
use Rattle.driver_passes.specs.Renders.{ItemRender, CiteRender}
use Rattle.driver_passes.specs.RequestView.{request_view}
use Rattle.driver_passes.specs.declared.renders.SpeculativeCiteRender.{SpeculativeCiteRender}
use Rattle.driver_passes.specs.declared.renders.SpeculativeItemRender.{SpeculativeItemRender}

module _ {T P : Type 0} where
  abbrev pub item_view : SpeculativeItemRender T P → ItemRender T P
  item_view i = record {
    rendered = i.rendered;
    entry = i.entry.now;
    properties = properties_view i.cite_props;
    checked_disambiguate = i.checked_disambiguate;
    first_name = i.first_name;
    delimiter_override = option_map (λ s. s.now) i.delim_override;
    group = i.group_idx;
    locator = option_map locator_view i.locator;
    hidden = i.hidden;
    locale = option_map code_view i.locale;
    purpose = i.purpose;
    apart = i.apart;
    verdict = i.collapse_verdict;
  }

  abbrev pub items_view : List (SpeculativeItemRender T P) → List (ItemRender T P)
  items_view = map item_view

  -- of cites that are lent one by one
  abbrev pub lent_items_view : List (Bor (SpeculativeItemRender T P)) → List (ItemRender T P)
  lent_items_view = map (λ i. item_view i.now)

  abbrev pub render_view : SpeculativeCiteRender T P → CiteRender T P
  render_view r = record { items = items_view r.items.items; request = request_view r.request.now }

  abbrev pub renders_view : List (SpeculativeCiteRender T P) → List (CiteRender T P)
  renders_view = map render_view
