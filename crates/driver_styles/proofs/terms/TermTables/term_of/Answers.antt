-- The first table of the language, and none.
use Rattle.std.proofs.Common.{◌≡◌, ◌<◌, ◌∙◌, List, length, map, option_map, option_and_then, sym, ap, arith}
use Rattle.std.proofs.lemmas.Simd.{map-map}
use Rattle.std.specs.Prelude.{bytes_eq}
use Rattle.std.specs.Option.{option_eq}
use Rattle.value_styles.specs.Style.{LocaleValue}
use Rattle.value_styles.specs.StyleView.{locale_view}
use Rattle.value_styles.specs.declared.locale.Locale.{Locale}
use Rattle.driver_styles.specs.Terms.{locale_of, term_in}
use Rattle.driver_styles.specs.declared.term_table.TermTable.{TermTable}
use Rattle.driver_styles.proofs.FoundPlaces.{find-here, find-past}
use Rattle.driver_styles.proofs.terms.TermTables.term_of.Goals as goal

abbrev of_table : TermTable → LocaleValue
of_table t = locale_view t.locale.now

-- the tables are those of the locales
of_tables : (ts : List TermTable) (locales : List Locale) → map (λ (t : TermTable). t.locale.now) ts ≡ locales → map of_table ts ≡ map locale_view locales
of_tables ts locales e = sym (map-map locale_view (λ (t : TermTable). t.locale.now) ts) ∙ ap (map locale_view) e

pub returns-then-is_language : goal.returns-then-is_language
returns-then-is_language c =
    let s = c.args.self.now in
    let items = c.deref-table-items.result.now in
    let language = option_map (λ t. t.now) c.args.language in
    let lt : c.loop-table.table-index < length items = omega arith in
    let here = find-here of_table (λ (l : LocaleValue). option_eq bytes_eq l.lang language) items c.loop-table.table-index c.table-item.result lt c.table-item.is (sym c.is_language.ensures ∙ c.if-is_language.true) in
    let same = ap (map of_table) c.deref-table-items.ensures.value ∙ of_tables s.tables.items s.locales.now s.each in
    c.term.ensures ∙ ap (option_and_then (term_in c.args.name c.args.form)) (sym here ∙ c.loop-table.invariant ∙ ap (locale_of language) same)

pub returns : goal.returns
returns c =
    let s = c.args.self.now in
    let items = c.deref-table-items.result.now in
    let language = option_map (λ t. t.now) c.args.language in
    let past = find-past of_table (λ (l : LocaleValue). option_eq bytes_eq l.lang language) items c.loop-table.table-index (omega arith) in
    let same = ap (map of_table) c.deref-table-items.ensures.value ∙ of_tables s.tables.items s.locales.now s.each in
    ap (option_and_then (term_in c.args.name c.args.form)) (sym past ∙ c.loop-table.invariant ∙ ap (locale_of language) same)
