-- Names and forms of terms, as keys.
use Rattle.std.proofs.Common.{◌≡◌, ℕ, ◌+◌, ◌<◌, Bool, true, ◌&&◌, List, [], ◌∷◌, ◌++◌, map, length, take, get_or, sym, ap, ◌∙◌, arith}
use Rattle.std.proofs.lemmas.List.{map-append, take_more, length-map, length-take-le}
use Rattle.std.specs.Cmp.{IsEquivalence}
use Rattle.value_sources.specs.declared.taxonomy.Term.{Term}
use Rattle.value_sources.specs.declared.taxonomy.TermForm.{TermForm}
use Rattle.value_sources.specs.contracts.taxonomy.TermPartialEq.TheImpl as term_eq
use Rattle.value_sources.specs.contracts.taxonomy.TermFormPartialEq.TheImpl as form_eq
use Rattle.value_sources.specs.contracts.taxonomy.TermEq.TheImpl.Laws as names
use Rattle.value_sources.specs.contracts.taxonomy.TermFormEq.TheImpl.Laws as forms
use Rattle.value_sources.specs.Finds.{both}
use Rattle.value_styles.specs.declared.locale.LocalizedTerm.{LocalizedTerm}
use Rattle.value_styles.specs.Style.{TermValue}
use Rattle.value_styles.specs.StyleView.{term_view}
use Rattle.driver_styles.specs.Terms.{is_term}

name_laws : IsEquivalence (term_eq.ghosts).eq
name_laws = names.laws-law

form_laws : IsEquivalence (form_eq.ghosts).eq
form_laws = forms.laws-law

same_for : {K : Type 0} {E : K → K → Bool} (laws : IsEquivalence E) (a b y : K) → E a b ≡ true → E y a ≡ E y b
same_for laws a b y h = laws.symm y a ∙ laws.congr a b y h ∙ laws.symm b y

-- a name and a form for which a term is the one meant find what its own find
pub alike : (t : TermValue) (k : Term × TermForm) → true ≡ is_term k.0 k.1 t → is_term t.name t.form ≡ is_term k.0 k.1
alike t k e =
    let p = both _ _ (sym e) in
    λ i y. same_for name_laws t.name k.0 y.name p.0 i && same_for form_laws t.form k.1 y.form p.1 i

-- the terms up to the next one
pub terms-next : (xs : List LocalizedTerm) (i : ℕ) (x : LocalizedTerm) → i < length xs → x ≡ get_or xs i x → map term_view (take (i + 1) xs) ≡ map term_view (take i xs) ++ term_view x ∷ []
terms-next xs i x h e = ap (map term_view) (take_more xs i x h ∙ ap (λ y. take i xs ++ y ∷ []) (sym e)) ∙ map-append term_view (take i xs) (x ∷ [])

pub length-terms : (xs : List LocalizedTerm) (i : ℕ) → i < length xs → length (map term_view (take i xs)) ≡ i
length-terms xs i h = length-map (take i xs) term_view ∙ length-take-le i xs (omega arith)
