use Rattle.std.proofs.Common.{ap}
use Rattle.std.specs.Cmp.{booleans_Decides, signed_Decides, unsigned_Decides}
use Rattle.value_styles.proofs.Seen.{codes_told, elements_seen, texts_told}
use Rattle.value_sources.proofs.Told.{list_seen, list_told, option_told, some_seen, spacings_told}
use Rattle.value_sources.specs.Finds.{both, and-true}
use Rattle.value_styles.specs.StyleView.{layout_view, citation_view, bibliography_view}
use Rattle.value_sources.specs.Tells.{TellsSeen}
use Rattle.value_styles.specs.contracts.style.BibliographyPartialEq.TheImpl as bibliography_eq
use Rattle.value_styles.specs.contracts.style.CitationPartialEq.TheImpl as citation_eq
use Rattle.value_styles.specs.contracts.style.LayoutPartialEq.TheImpl as layout_eq
use Rattle.value_styles.proofs.laws.style_equality_decides.Goals as goal

pub returns-clause-layout : goal.returns-clause-layout
returns-clause-layout c a b =
    let elements = elements_seen c.element_equality_decides.ensures.element a.elements.items b.elements.items in
    let formatting = c.formatting_equality_decides.ensures.asked a.formatting b.formatting in (
      λ e. let p = both _ _ e in let q = both _ _ p.1 in let r = both _ _ q.1 in let s = both _ _ r.1 in
          λ i. record {
            elements = elements.0 p.0 i;
            formatting = formatting.0 q.0 i;
            prefix = (texts_told a.prefix b.prefix).0 r.0 i;
            suffix = (texts_told a.suffix b.suffix).0 s.0 i;
            delimiter = (texts_told a.delimiter b.delimiter).0 s.1 i;
          },
      λ e.
          and-true _ _ (elements.1 (ap (λ l. l.elements) e))
          (and-true _ _ (formatting.1 (ap (λ l. l.formatting) e))
          (and-true _ _ ((texts_told a.prefix b.prefix).1 (ap (λ l. l.prefix) e))
          (and-true _ _ ((texts_told a.suffix b.suffix).1 (ap (λ l. l.suffix) e))
          ((texts_told a.delimiter b.delimiter).1 (ap (λ l. l.delimiter) e))))),
    )

pub returns-clause-citation : goal.returns-clause-citation
returns-clause-citation c a b =
    let layouts : TellsSeen layout_view (layout_eq.ghosts).eq = returns-clause-layout c in
    let layout = layouts a.layout b.layout in
    let givenname = booleans_Decides a.disambiguate_add_givenname b.disambiguate_add_givenname in
    let rule = c.choice_equality_decides.ensures.givenname a.givenname_disambiguation_rule b.givenname_disambiguation_rule in
    let names = booleans_Decides a.disambiguate_add_names b.disambiguate_add_names in
    let suffix = booleans_Decides a.disambiguate_add_year_suffix b.disambiguate_add_year_suffix in
    let group = texts_told a.cite_group_delimiter b.cite_group_delimiter in
    let year = texts_told a.year_suffix_delimiter b.year_suffix_delimiter in
    let after = texts_told a.after_collapse_delimiter b.after_collapse_delimiter in
    let collapse = option_told c.choice_equality_decides.ensures.collapse a.collapse b.collapse in
    let near = unsigned_Decides a.near_note_distance b.near_note_distance in
    let options = c.options_equality_decides.ensures.options a.name_options b.name_options in (
      λ e.
          let p = both _ _ e in
          let q = both _ _ p.1 in
          let r = both _ _ q.1 in
          let s = both _ _ r.1 in
          let t = both _ _ s.1 in
          let u = both _ _ t.1 in
          let v = both _ _ u.1 in
          let w = both _ _ v.1 in
          let x = both _ _ w.1 in
          let y = both _ _ x.1 in
          λ i. record {
            layout = layout.0 p.0 i;
            disambiguate_add_givenname = givenname.0 q.0 i;
            givenname_disambiguation_rule = rule.0 r.0 i;
            disambiguate_add_names = names.0 s.0 i;
            disambiguate_add_year_suffix = suffix.0 t.0 i;
            cite_group_delimiter = group.0 u.0 i;
            year_suffix_delimiter = year.0 v.0 i;
            after_collapse_delimiter = after.0 w.0 i;
            collapse = collapse.0 x.0 i;
            near_note_distance = near.0 y.0 i;
            name_options = options.0 y.1 i;
          },
      λ e.
          and-true _ _ (layout.1 (ap (λ l. l.layout) e))
          (and-true _ _ (givenname.1 (ap (λ l. l.disambiguate_add_givenname) e))
          (and-true _ _ (rule.1 (ap (λ l. l.givenname_disambiguation_rule) e))
          (and-true _ _ (names.1 (ap (λ l. l.disambiguate_add_names) e))
          (and-true _ _ (suffix.1 (ap (λ l. l.disambiguate_add_year_suffix) e))
          (and-true _ _ (group.1 (ap (λ l. l.cite_group_delimiter) e))
          (and-true _ _ (year.1 (ap (λ l. l.year_suffix_delimiter) e))
          (and-true _ _ (after.1 (ap (λ l. l.after_collapse_delimiter) e))
          (and-true _ _ (collapse.1 (ap (λ l. l.collapse) e))
          (and-true _ _ (near.1 (ap (λ l. l.near_note_distance) e)) (options.1 (ap (λ l. l.name_options) e))))))))))),
    )

pub returns-clause-bibliography : goal.returns-clause-bibliography
returns-clause-bibliography c a b =
    let layouts : TellsSeen layout_view (layout_eq.ghosts).eq = returns-clause-layout c in
    let layout = layouts a.layout b.layout in
    let indent = booleans_Decides a.hanging_indent b.hanging_indent in
    let align = option_told c.choice_equality_decides.ensures.align a.second_field_align b.second_field_align in
    let line = spacings_told a.line_spacing b.line_spacing in
    let entry = signed_Decides a.entry_spacing b.entry_spacing in
    let substitute = texts_told a.subsequent_author_substitute b.subsequent_author_substitute in
    let rule = c.choice_equality_decides.ensures.substitute a.subsequent_author_substitute_rule b.subsequent_author_substitute_rule in
    let options = c.options_equality_decides.ensures.options a.name_options b.name_options in (
      λ e.
          let p = both _ _ e in
          let q = both _ _ p.1 in
          let r = both _ _ q.1 in
          let s = both _ _ r.1 in
          let t = both _ _ s.1 in
          let u = both _ _ t.1 in
          let v = both _ _ u.1 in
          λ i. record {
            layout = layout.0 p.0 i;
            hanging_indent = indent.0 q.0 i;
            second_field_align = align.0 r.0 i;
            line_spacing = line.0 s.0 i;
            entry_spacing = entry.0 t.0 i;
            subsequent_author_substitute = substitute.0 u.0 i;
            subsequent_author_substitute_rule = rule.0 v.0 i;
            name_options = options.0 v.1 i;
          },
      λ e.
          and-true _ _ (layout.1 (ap (λ l. l.layout) e))
          (and-true _ _ (indent.1 (ap (λ l. l.hanging_indent) e))
          (and-true _ _ (align.1 (ap (λ l. l.second_field_align) e))
          (and-true _ _ (line.1 (ap (λ l. l.line_spacing) e))
          (and-true _ _ (entry.1 (ap (λ l. l.entry_spacing) e))
          (and-true _ _ (substitute.1 (ap (λ l. l.subsequent_author_substitute) e))
          (and-true _ _ (rule.1 (ap (λ l. l.subsequent_author_substitute_rule) e)) (options.1 (ap (λ l. l.name_options) e)))))))),
    )

pub returns-clause-info : goal.returns-clause-info
returns-clause-info c a b = list_told c.choice_equality_decides.ensures.category a.category.items b.category.items

pub returns-clause-style : goal.returns-clause-style
returns-clause-style c a b =
    let told = c.choice_equality_decides.ensures in
    let citations : TellsSeen citation_view (citation_eq.ghosts).eq = returns-clause-citation c in
    let bibliographies : TellsSeen bibliography_view (bibliography_eq.ghosts).eq = returns-clause-bibliography c in
    let categories = list_told told.category a.info.category.items b.info.category.items in
    let class = told.class a.settings.class b.settings.class in
    let options = c.options_equality_decides.ensures.options a.settings.options b.settings.options in
    let code = some_seen codes_told a.default_locale b.default_locale in
    let locales = list_seen c.locale_equality_decides.ensures.locale a.locale.items b.locale.items in
    let macros = list_seen c.element_equality_decides.ensures.named a.macros.items b.macros.items in
    let citation = citations a.citation b.citation in
    let bibliography = some_seen bibliographies a.bibliography b.bibliography in (
      λ e.
          let p = both _ _ e in
          let q = both _ _ p.1 in
          let r = both _ _ q.1 in
          let s = both _ _ r.1 in
          let t = both _ _ s.1 in
          let u = both _ _ t.1 in
          let settings = both _ _ q.0 in
          λ i. record {
            categories = categories.0 p.0 i;
            class = class.0 settings.0 i;
            options = options.0 settings.1 i;
            default_locale = code.0 r.0 i;
            locale = locales.0 s.0 i;
            macros = macros.0 t.0 i;
            citation = citation.0 u.0 i;
            bibliography = bibliography.0 u.1 i;
          },
      λ e.
          and-true _ _ (categories.1 (ap (λ l. l.categories) e))
          (and-true _ _ (and-true _ _ (class.1 (ap (λ l. l.class) e)) (options.1 (ap (λ l. l.options) e)))
          (and-true _ _ (code.1 (ap (λ l. l.default_locale) e))
          (and-true _ _ (locales.1 (ap (λ l. l.locale) e))
          (and-true _ _ (macros.1 (ap (λ l. l.macros) e))
          (and-true _ _ (citation.1 (ap (λ l. l.citation) e)) (bibliography.1 (ap (λ l. l.bibliography) e))))))),
    )
