use Rattle.std.proofs.Common.{ℤ, List, ℕ, ◌++◌, ◌∙◌, refl, true, w32}
use Rattle.std.proofs.lemmas.Fmt.{contents_after_writes}
use Rattle.std.proofs.lemmas.Int.{to_z-of_z}
use Rattle.driver_lookup.specs.Years.{year_text}
use Rattle.driver_lookup.proofs.year.year_in_words.Goals as goal

pub returns-in-Ok : goal.returns-in-Ok
returns-in-Ok c =
    let a = c.args in
    let words : ℤ → List ℕ = λ year. year_text year a.short a.ad.now a.bc.now in
    let passed = to_z-of_z w32 a.year c.ranges.year in
    contents_after_writes _ (λ text. text) (λ w bs v h. h) _ _ _ (c.in-Ok.ensures (refl {a = true})) ∙ (λ i. c.in_ok-text.ensures i ++ words (passed i))
