use Rattle.std.proofs.Common.{◌≡◌, ℕ, ◌+◌, ◌-◌, ◌≤◌, [], ◌∷◌, ◌++◌, List, replicate, arith, ap, ◌∙◌, append_assoc}
use Rattle.std.proofs.lemmas.List.{replicate_more}
use Rattle.value_sources.specs.declared.names.DisambiguatedNameForm.{DisambiguatedNameForm}
use Rattle.value_sources.specs.declared.names.DisambiguatedNameForm.TheVariants.{Count}
use Rattle.cite_names.proofs.forms.first_in_form.Goals as goal

one-more : (form : DisambiguatedNameForm) (first i : ℕ) → first ≤ i → (replicate first form ++ replicate (i - first) Count) ++ (Count ∷ []) ≡ replicate first form ++ replicate (i + 1 - first) Count
one-more form first i h =
    let next : i - first + 1 ≡ i + 1 - first = omega arith in
    append_assoc (replicate first form) (replicate (i - first) Count) (Count ∷ [])
    ∙ ap (λ (s : List DisambiguatedNameForm). replicate first form ++ s) (replicate_more (i - first) Count ∙ ap (λ (n : ℕ). replicate n Count) next)

pub loop-2-preserved : goal.loop-2-preserved
loop-2-preserved c =
    let i = c.loop-2.counter in
    let more = one-more c.args.form c.args.first i c.loop-2.auto.counter in
    record {
      in_range = omega arith;
      pushed = c.in_ok-push-2.ensures.items ∙ (ap (λ (s : List DisambiguatedNameForm). s ++ (Count ∷ [])) c.loop-2.invariant.pushed ∙ more);
    }

pub returns : goal.returns
returns c =
    let left : c.loop-2.counter - c.args.first ≡ c.args.count - c.args.first = omega arith in
    c.loop-2.invariant.pushed ∙ ap (λ (n : ℕ). replicate c.args.first c.args.form ++ replicate n Count) left
