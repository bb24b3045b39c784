-- An item of a bibliography: how high its formats are, and what is written of it.
use Rattle.std.proofs.Common.{◌≡◌, ℕ, ◌≤◌, true, List, length, Option, None, Some, refl, ap, sym, subst, ◌∙◌, arith}
use Rattle.std.proofs.lemmas.List.{length-take-le}
use Rattle.std.specs.Prelude.{take}
use Rattle.std.specs.Str.{trim_end}
use Rattle.value_trees.specs.Child.{Child}
use Rattle.value_styles.specs.Element.{NameOptions}
use Rattle.value_styles.specs.Style.{BibliographyValue}
use Rattle.layout_picking.specs.declared.notes.Form.{Form}
use Rattle.layout_picking.specs.declared.notes.Notes.{Notes}
use Rattle.csl_writing.specs.declared.section.Section as declared
use Rattle.csl_writing.specs.CiteText.{enclosed, layout_affixes, rendered_item}
use Rattle.driver_lookup.specs.Lookup.{Lookup, lookup}
use Rattle.layout_picking.specs.Notes.{first_notes}
use Rattle.csl_writing.specs.Plans.{plan_of}
use Rattle.csl_writing.specs.SectionView.{IsSection}
use Rattle.csl_writing.specs.Sections.{Section, item_section}
use Rattle.layout_context.specs.Steps.{ClosingQuotes, term_text, opens_tight, has_letter, without_ending, pulled}
use Rattle.csl_writing.specs.StepsWritten.{steps_written, finished, IsCarriedOut}
use Rattle.csl_writing.specs.Subject.{Subject}
use Rattle.layout_context.specs.Wording.{closing_quotes, pushed, with_suffix, suffixed}
use Rattle.layout_context.specs.WritingState.{State, is_saved, saved, on_text_before, trimmed_for, unrepeated_for, may_pull, on_quoted_text, after_pull, left_by_pull, written, after_push_str, begun, prefixed, ends_so, closed_elem, discarded, has_content_since, flushed}
use Rattle.csl_writing.proofs.FormatHeights.{either_has, formats-saved}
use Rattle.csl_writing.proofs.CiteSteps.{tree_finished}

-- pushing a text keeps the formats
formats-on_text_before : (f : List ℕ → List ℕ) (a : State) → (on_text_before f a).formats ≡ a.formats
formats-on_text_before f a = either_has (λ x. x.formats ≡ a.formats) (is_saved a) _ _ refl refl

formats-on_quoted_text : (f : List ℕ → List ℕ) (a : State) → (on_quoted_text f a).formats ≡ a.formats
formats-on_quoted_text f a = either_has (λ x. x.formats ≡ a.formats) (is_saved a) _ _ refl refl

formats-trimmed_for : (s : List ℕ) (a : State) → (trimmed_for s a).formats ≡ a.formats
formats-trimmed_for s a = either_has (λ x. x.formats ≡ a.formats) (opens_tight s) _ _ (formats-on_text_before trim_end a) refl

formats-unrepeated_for : (s : List ℕ) (a : State) → (unrepeated_for s a).formats ≡ a.formats
formats-unrepeated_for s a = either_has (λ x. x.formats ≡ a.formats) (has_letter s) _ _ refl (formats-on_text_before (without_ending (trim_end s)) a)

formats-after_pull : (q : ClosingQuotes) (s : List ℕ) (a : State) → (after_pull q s a).formats ≡ a.formats
formats-after_pull q s a = either_has (λ x. x.formats ≡ a.formats) (may_pull s a) _ _ (formats-on_quoted_text (pulled q (take 1 s)) a) refl

formats-written : (s : List ℕ) (a : State) → (written s a).formats ≡ a.formats
unfolding written
formats-written s a = formats-unrepeated_for s (trimmed_for s a) ∙ formats-trimmed_for s a

formats-pushed : (k : Lookup) (s : List ℕ) (a : State) → (pushed k s a).formats ≡ a.formats
unfolding pushed after_push_str
formats-pushed k s a =
    let q = closing_quotes k in
    formats-written (left_by_pull q s a) (after_pull q s a) ∙ formats-after_pull q s a

formats-with_suffix : (k : Lookup) (suffix : Option (List ℕ)) (a : State) → (with_suffix k suffix a).formats ≡ a.formats
unfolding with_suffix
formats-with_suffix k None a = refl
formats-with_suffix k (Some s) a = either_has (λ x. x.formats ≡ a.formats) (ends_so s a) _ _ refl (formats-pushed k s a)

-- a frame that is closed with its suffix, or dropped, cuts the formats back
pub formats-suffixed : (k : Lookup) (suffix : Option (List ℕ)) (h n : ℕ) (a : State)
    → h ≤ length a.formats → length (suffixed k suffix h n a).formats ≡ h
unfolding suffixed closed_elem discarded
formats-suffixed k suffix h n a le =
    let b = with_suffix k suffix (saved a) in
    let shown : (saved b).formats ≡ a.formats = formats-saved b ∙ formats-with_suffix k suffix (saved a) ∙ formats-saved a in
    let dropped : (saved (saved a)).formats ≡ a.formats = formats-saved (saved a) ∙ formats-saved a in
    either_has (λ x. length x.formats ≡ h) (has_content_since n a) _ _
    (length-take-le h (saved b).formats (subst (λ l. h ≤ length l) (sym shown) le))
    (length-take-le h (saved (saved a)).formats (subst (λ l. h ≤ length l) (sym dropped) le))

pub item_rendered : (s : Subject) (bibliography : BibliographyValue) (section : declared.Section) (a b c d : State) (h n : ℕ) (m o : Notes) (tree : List Child)
    → a ≡ begun s.source.style.options → m ≡ first_notes s.cite.usage
    → IsSection section (item_section s bibliography Form.Full true m)
    → h ≡ length a.formats → n ≡ length (term_text bibliography.layout.prefix) → b ≡ prefixed bibliography.layout.prefix a
    → ((value : Section) → IsSection section value → IsCarriedOut (lookup s.source) (plan_of value) b c o)
    → d ≡ suffixed (lookup s.source) bibliography.layout.suffix h n c → flushed d ≡ Some tree
    → tree ≡ rendered_item s bibliography
item_rendered s bibliography section a b c d h n m o tree start e is high long opened inside closed out =
    let k = lookup s.source in
    let layout = bibliography.layout in
    let value = item_section s bibliography Form.Full true (first_notes s.cite.usage) in
    let steps = (plan_of value).steps in
    let here : IsSection section value = subst (λ x. IsSection section (item_section s bibliography Form.Full true x)) e is in
    let inner : c ≡ steps_written k steps (prefixed layout.prefix a) = (inside value here).written ∙ ap (λ x. steps_written k steps x) opened in
    let whole : d ≡ enclosed k (layout_affixes layout) steps a =
    closed ∙ ap (λ x. suffixed k layout.suffix x n c) high
    ∙ ap (λ x. suffixed k layout.suffix (length a.formats) x c) long
    ∙ ap (λ x. suffixed k layout.suffix (length a.formats) (length (term_text layout.prefix)) x) inner in
    tree_finished d tree out ∙ ap finished (whole ∙ ap (λ x. enclosed k (layout_affixes layout) steps x) start)

-- behind an item's suffix the formats are as few as before
pub item_flushes : (k : Lookup) (suffix : Option (List ℕ)) (options : NameOptions) (h n : ℕ) (a b c d : State)
    → a ≡ begun options → h ≡ length a.formats → length b.formats ≡ length a.formats → length c.formats ≡ length b.formats
    → d ≡ suffixed k suffix h n c → length d.formats ≡ 1
item_flushes k suffix options h n a b c d start high opened inside closed =
    let one : length a.formats ≡ 1 = ap (λ x. length x.formats) start in
    let le : h ≤ length c.formats = omega arith in
    ap (λ x. length x.formats) closed ∙ formats-suffixed k suffix h n c le ∙ high ∙ one
