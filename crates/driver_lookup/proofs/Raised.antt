-- Forms that are raised one after another.
use Rattle.std.proofs.Common.{◌≡◌, ℕ, ◌+◌, ◌<◌, [], ◌∷◌, ◌++◌, length, map, drop, get_or, Option, ap, sym, ◌∙◌, append_assoc, add-one, drop-cons}
use Rattle.std.specs.Prelude.{slice_get}
use Rattle.std.specs.List.{enumerate_from}
use Rattle.value_sources.specs.Forms.{Forms}
use Rattle.value_sources.specs.declared.names.DisambiguatedNameForm.{DisambiguatedNameForm}
use Rattle.driver_lookup.specs.Means.{at_least, raised_forms}

pub raised-more : (least forms : Forms) (k : ℕ) (old new : Forms) (told : Option DisambiguatedNameForm) (r d : DisambiguatedNameForm) → k < length forms
    → old ++ map (λ p. at_least (slice_get least p.0) p.1) (enumerate_from k (drop k forms)) ≡ raised_forms least forms
    → told ≡ slice_get least k → r ≡ at_least told (get_or forms k d) → new ≡ old ++ r ∷ []
    → new ++ map (λ p. at_least (slice_get least p.0) p.1) (enumerate_from (k + 1) (drop (k + 1) forms)) ≡ raised_forms least forms
raised-more least forms k old new told r d within so_far found made pushed =
    let raise : ℕ × DisambiguatedNameForm → DisambiguatedNameForm = λ p. at_least (slice_get least p.0) p.1 in
    let opened : drop k forms ≡ get_or forms k d ∷ drop (k + 1) forms = rw add-one (drop-cons forms k d within) in
    let rest = map raise (enumerate_from (k + 1) (drop (k + 1) forms)) in
    ap (λ l. l ++ rest) pushed ∙ append_assoc old (r ∷ []) rest
    ∙ ap (λ x. old ++ x ∷ rest) (made ∙ ap (λ o. at_least o (get_or forms k d)) found)
    ∙ ap (λ l. old ++ map raise (enumerate_from k l)) (sym opened) ∙ so_far
