-- Tests that tell what is seen of texts, of codes and of lists of elements.
use Rattle.std.specs.Prelude.{◌≡◌, Bool, List, [], ◌∷◌, string_bytes, refl}
use Rattle.std.specs.Cmp.Lexicographic.{pointwise}
use Rattle.std.specs.Option.{option_eq}
use Rattle.std.proofs.Common.{ap}
use Rattle.std.proofs.lemmas.Slice.Eq.{bytes_eq-Decides}
use Rattle.value_styles.specs.Element.{Element, elements_of}
use Rattle.value_styles.specs.ElementView.{text_view, element_view, elements_view}
use Rattle.value_styles.specs.StyleView.{code_view}
use Rattle.value_sources.proofs.Told.{list_seen, same_strings, some_seen, strings_told}
use Rattle.value_sources.specs.Tells.{TellsSeen}
use Rattle.value_styles.specs.contracts.locale.LocaleCodePartialEq.TheImpl as code_eq
use Rattle.value_styles.specs.declared.element.LayoutRenderingElement.{LayoutRenderingElement}

pub texts_told : TellsSeen text_view (option_eq same_strings)
texts_told = some_seen {view = string_bytes} {test = same_strings} strings_told

pub codes_told : TellsSeen code_view (code_eq.ghosts).eq
codes_told a b = bytes_eq-Decides (code_view a) (code_view b)

-- where elements are told by what is seen of them, so are lists of them
pub elements_seen : {test : LayoutRenderingElement → LayoutRenderingElement → Bool} → TellsSeen element_view test → TellsSeen elements_view (pointwise test)
elements_seen told xs ys =
    let lists = list_seen told xs ys in (λ e. ap elements_of (lists.0 e), λ e. lists.1 (elements_of-inj _ _ e))
  where
    elements_of-inj : (es fs : List Element) → elements_of es ≡ elements_of fs → es ≡ fs
    elements_of-inj [] [] p = refl
    elements_of-inj (e ∷ es) (f ∷ fs) p =
        let first : e ≡ f = cc in
        let rest : elements_of es ≡ elements_of fs = cc in
        let more = elements_of-inj es fs rest in
        λ i. first i ∷ more i
    elements_of-inj _ _ p = cc
