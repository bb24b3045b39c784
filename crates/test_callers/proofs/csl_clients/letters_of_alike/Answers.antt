use Rattle.std.proofs.Common.{◌≡◌, ℕ, List, Option, None, Some, ap, sym, ◌∙◌}
use Rattle.mentions_table_laws.specs.SuffixLaws.{suffix_at}
use Rattle.test_callers.proofs.csl_clients.letters_of_alike.Goals as goal

-- where there is a suffix, there is one and no other
clash : {n : ℕ} {o : Option ℕ} → o ≡ None → o ≡ Some n → ⊥
clash p q = cc

one-suffix : {m n : ℕ} {o : Option ℕ} → o ≡ Some m → o ≡ Some n → m ≡ n
one-suffix p q = cc

pub returns-in_default : goal.returns-in_default
returns-in_default g c = λ asked writing rendered laws alike adds.
    let told = laws.telling.none_left.told_apart c.args.first c.args.second alike adds in
    clash (ap (λ (l : List (Option ℕ)). suffix_at l c.args.first) (sym c.deref.ensures.value) ∙ sym c.suffix_of.ensures ∙ c.in_default.is) told.is_one

pub returns-in_default-suffix_of : goal.returns-in_default-suffix_of
returns-in_default-suffix_of g c = λ asked writing rendered laws alike adds.
    let told = laws.telling.none_left.told_apart c.args.first c.args.second alike adds in
    clash (ap (λ (l : List (Option ℕ)). suffix_at l c.args.second) (sym c.deref-2.ensures.value) ∙ sym c.suffix_of-2.ensures ∙ c.in_default-suffix_of.is) told.is_other

pub returns : goal.returns
returns g c = λ asked writing rendered laws alike adds same.
    let told = laws.telling.none_left.told_apart c.args.first c.args.second alike adds in
    let one = one-suffix told.is_one (ap (λ (l : List (Option ℕ)). suffix_at l c.args.first) (sym c.deref.ensures.value) ∙ sym c.suffix_of.ensures ∙ c.in-Some.is) in
    let other = one-suffix told.is_other (ap (λ (l : List (Option ℕ)). suffix_at l c.args.second) (sym c.deref-2.ensures.value) ∙ sym c.suffix_of-2.ensures ∙ c.in-Some-suffix_of.is) in
    told.apart (one ∙ c.suffixes_differ.ensures.different c.in-Some.one c.in-Some-suffix_of.other (sym c.in_ok-letters_of_suffix.ensures ∙ same ∙ c.in_ok-letters_of_suffix-2.ensures) ∙ sym other)
