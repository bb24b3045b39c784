-- The form that a person needs among those of a document, as their names tell it.
use mathlib.Core.Bool.{or-false}
use Rattle.std.proofs.Common.{◌≡◌, ℕ, Bool, true, false, cond, not, ◌&&◌, ◌||◌, List, Option, [], ◌∷◌, take, refl, sym, ◌∙◌}
use Rattle.std.specs.Prelude.{bytes_eq, filter}
use Rattle.std.specs.BTreeMap.{BTreeMap}
use Rattle.std.specs.List.{flat_map, list_any}
use Rattle.list_lemmas.proofs.Members.{any-map}
use Rattle.value_sources.specs.declared.names.DisambiguatedNameForm.{DisambiguatedNameForm}
use Rattle.value_styles.specs.declared.style.DisambiguationRule.{DisambiguationRule}
use Rattle.mentions_names.specs.ByDocument.{document_form, form_by_rule}
use Rattle.mentions_names.specs.Known.{KnowsDocument, everywhere, person_keys, rival_form}
use Rattle.mentions_names.specs.declared.document.Document.{Document}
use Rattle.mentions_names.specs.Looks.{full_look, has_given, is_namesake, needed, needed_beside, same_initials, same_look}
use Rattle.mentions_names.specs.Persons.{full_looks, names_asking}
use Rattle.mentions_names.specs.Rivals.{AreRivals, by_family, by_initials, form_by, is_other_shown, named_keys}
use Rattle.mentions_names.specs.declared.look.Look.{Look}
use Rattle.mentions_names.specs.declared.mention.MentionedName.{MentionedName}
use Rattle.mentions_names.specs.declared.mention.NamedMention.{NamedMention}
use Rattle.mentions_names.specs.declared.rivals.Held.{Held}
use Rattle.mentions_names.specs.declared.rivals.SharedName.{SharedName}
use Rattle.mentions_names.proofs.Logic.{any-filter, any-flat_map, any-same}

module _ (r : Look) where
  by-family : (s : Look) → is_other_shown (by_family everywhere r) r (named_keys everywhere s) ≡ is_namesake r s
  by-family s = by (bytes_eq r.name s.name) (not (same_look r s))
    where
      by : (f w : Bool) → (((true && (f && true)) && w) || (((true && (f && false)) && w) || false)) ≡ (f && w)
      by true w = or-false w
      by false w = refl

  by-both : (s : Look) → is_other_shown (by_initials everywhere r) r (named_keys everywhere s) ≡ (is_namesake r s && same_initials r s)
  by-both s = by (bytes_eq r.name s.name) (same_initials r s) (not (same_look r s))
    where
      by : (f t w : Bool) → (((true && (f && false)) && w) || (((true && (f && t)) && w) || false)) ≡ ((f && w) && t)
      by true true true = refl
      by true true false = refl
      by true false true = refl
      by true false false = refl
      by false t w = refl

  some-left : (ps : List Look) → list_any (is_namesake r) ps ≡ list_any (λ s. true) (filter (is_namesake r) ps)
  some-left [] = refl
  some-left (s ∷ ss) = by (is_namesake r s) (some-left ss)
    where
      by : (b : Bool) → list_any (is_namesake r) ss ≡ list_any (λ t. true) (filter (is_namesake r) ss)
          → (b || list_any (is_namesake r) ss) ≡ list_any (λ t. true) (cond b (s ∷ filter (is_namesake r) ss) (filter (is_namesake r) ss))
      by true rest = refl
      by false rest = rest

  beside-these : (qs : List Look) → form_by true (list_any (λ s. true) qs) (list_any (same_initials r) qs) ≡ needed_beside r qs
  beside-these [] = refl
  beside-these (q ∷ qs) = refl

  pub needed-by-tests : (ps : List Look)
      → form_by (has_given r) (list_any (is_namesake r) ps) (list_any (λ s. is_namesake r s && same_initials r s) ps) ≡ needed r ps
  needed-by-tests ps =
      (λ i. form_by (has_given r) (some-left ps i) (sym (any-filter (same_initials r) (is_namesake r) ps) i)) ∙ by (has_given r)
    where
      by : (g : Bool) → form_by g (list_any (λ s. true) (filter (is_namesake r) ps)) (list_any (same_initials r) (filter (is_namesake r) ps))
          ≡ cond g (needed_beside r (filter (is_namesake r) ps)) DisambiguatedNameForm.Short
      by true = beside-these (filter (is_namesake r) ps)
      by false = refl

  -- of what is shown by some of the names of mentions
  module _ (rivals : BTreeMap SharedName Held) (names : NamedMention → List MentionedName) (ms : List NamedMention)
      (h : AreRivals rivals (flat_map (λ m. flat_map person_keys (names m)) ms)) where
    persons : List Look
    persons = flat_map (λ m. full_looks (names m)) ms

    asked : (p : SharedName × Look → Bool) (q : Look → Bool) → ((s : Look) → list_any p (named_keys everywhere s) ≡ q s)
        → list_any p (flat_map (λ m. flat_map person_keys (names m)) ms) ≡ list_any q (flat_map (λ m. full_looks (names m)) ms)
    asked p q e =
        any-flat_map p (λ m. flat_map person_keys (names m)) ms
        ∙ any-same _ _ (λ m. any-flat_map p person_keys (names m) ∙ any-same _ _ (λ n. e (full_look n.person)) (names m)
        ∙ sym (any-map q (λ n. full_look n.person) (names m))) ms
        ∙ sym (any-flat_map q (λ m. full_looks (names m)) ms)

    pub form-among : rival_form rivals everywhere r ≡ needed r (flat_map (λ m. full_looks (names m)) ms)
    form-among =
        (λ i. form_by (has_given r)
        ((h.others (by_family everywhere r) r ∙ asked _ (is_namesake r) by-family) i)
        ((h.others (by_initials everywhere r) r ∙ asked _ (λ s. is_namesake r s && same_initials r s) by-both) i))
        ∙ needed-by-tests (flat_map (λ m. full_looks (names m)) ms)

-- the form of a name by the rule of its style, as the persons of the document tell it
pub document-form : (d : Document) (ms : List NamedMention) → KnowsDocument d ms → (rule : Option DisambiguationRule) (i : ℕ) (n : MentionedName)
    → form_by_rule rule i (rival_form d.all everywhere (full_look n.person)) (rival_form d.first everywhere (full_look n.person)) ≡ document_form ms rule i n
document-form d ms h rule i n =
    λ t. form_by_rule rule i (form-among (full_look n.person) d.all names_asking ms h.all t) (form-among (full_look n.person) d.first (λ m. take 1 (names_asking m)) ms h.first t)
