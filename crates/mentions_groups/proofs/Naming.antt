-- Names by persons and forms, one more.
use Rattle.std.proofs.Common.{◌≡◌, ℕ, ◌+◌, ◌<◌, ◌≤◌, Bool, List, [], ◌∷◌, ◌++◌, length, map, min, take, get_or, ap, sym, subst, ◌∙◌, arith}
use Rattle.std.specs.Prelude.{filter}
use Rattle.std.specs.List.{zip}
use Rattle.std.proofs.lemmas.List.{get_or_default, length-take-le, map-append, take_all, take_more}
use Rattle.std.proofs.lemmas.List.Sums.{count_by-le-length, length-filter}
use Rattle.std.proofs.lemmas.Slice.Zip.{get_or-zip, length-zip}
use Rattle.value_sources.specs.declared.entry.Person.{Person}
use Rattle.value_sources.specs.declared.names.DisambiguatedNameForm.{DisambiguatedNameForm}
use Rattle.mentions_names.specs.declared.mention.MentionedName.{MentionedName}
use Rattle.mentions_groups.specs.Written.{named_as}

module _ (persons : List Person) (forms : List DisambiguatedNameForm) (k : ℕ) where
  pub names-next : (p q : Person) (o d : DisambiguatedNameForm) (found all : List MentionedName) → k < length persons → k < length forms → q ≡ p → p ≡ get_or persons k p → o ≡ get_or forms k d
      → found ≡ map named_as (take k (zip persons forms)) → all ≡ found ++ record { person = q; own = o } ∷ [] → all ≡ map named_as (take (k + 1) (zip persons forms))
  names-next p q o d found all v w copied here form so_far pushed =
      let both : k < length (zip persons forms) = subst (λ n. k < n) (sym (length-zip persons forms)) (omega arith) in
      let at : get_or (zip persons forms) k (p, o) ≡ (p, o) = get_or-zip persons forms k (p, o) v w ∙ (λ i. (sym here i, sym (form ∙ get_or_default forms k d o w) i)) in
      pushed ∙ (λ i. so_far i ++ record { person = copied i; own = o } ∷ [])
      ∙ sym (ap (map named_as) (take_more (zip persons forms) k (p, o) both ∙ ap (λ x. take k (zip persons forms) ++ x ∷ []) at) ∙ map-append named_as (take k (zip persons forms)) ((p, o) ∷ []))

  pub all-named : min (length persons) (length forms) ≤ k → take k (zip persons forms) ≡ zip persons forms
  all-named h = take_all k (zip persons forms) (subst (λ n. n ≤ k) (sym (length-zip persons forms)) h)

pub fewer : {X : Type 0} (p : X → Bool) (k : ℕ) (xs : List X) → k ≤ length xs → length (filter p (take k xs)) ≤ k
fewer p k xs h =
    let a = length-filter p (take k xs) in
    let b = count_by-le-length p (take k xs) in
    let c = length-take-le k xs h in
    omega arith
