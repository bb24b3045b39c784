-- How many cites there are, from the first renders to the end.
use Rattle.std.proofs.Common.{◌≡◌, ℕ, ◌+◌, Bool, true, false, List, [], ◌∷◌, Option, Some, None, length, map, refl, ap, sym, ◌∙◌}
use Rattle.std.specs.Prelude.{if◌then◌else◌}
use Rattle.std.specs.List.{enumerate_from, range_with_len, sum_by}
use Rattle.std.proofs.Math.ListN.{length-map}
use Rattle.std.proofs.lemmas.List.FromFn.{length-enumerate_from}
use Rattle.std.proofs.lemmas.List.Concat.{length-flat_map}
use Rattle.std.proofs.lemmas.List.FromFn.{length-range_with_len}
use Rattle.std.proofs.lemmas.List.Sorted.{length_permutation}
use Rattle.std.proofs.lemmas.List.Sums.{sum_by-cons}
use Rattle.driver_writers.specs.Writing.{Writing}
use Rattle.value_styles.specs.Style.{CitationValue}
use Rattle.value_styles.specs.declared.style.Collapse.{Collapse}
use Rattle.rounds_grouping.specs.Collapsed.{collapsed, collapsed_cites, collapsed_finally}
use Rattle.csl_driver.specs.Answer.{Job, entries_listed, final_number, in_final_order, in_the_end, rendered_first}
use Rattle.csl_driver.proofs.FirstPlaced.{first-cited}
use Rattle.driver_entries.specs.Entries.{number}
use Rattle.rounds_grouping.specs.Blocks.{final_order, group_delimiter, grouped, grouped_cites, is_grouped}
use Rattle.rounds_grouping.specs.Laws.{bare}
use Rattle.rounds_grouping.proofs.OrderLaws.{ordered}
use Rattle.rounds_grouping.proofs.Whole.{final-permuted}
use Rattle.driver_passes.specs.Purposes.{has_no_purpose}
use Rattle.driver_passes.specs.Renders.{CiteRender, ItemRender}
use Rattle.driver_passes.specs.Request.{cites_of, entries_of}
use Rattle.driver_positions.specs.FinalProperties.{items_before, with_final_items}
use Rattle.rounds_runs.specs.Rounds.{request_at}
use Rattle.rounds_runs.specs.Tables.{disambiguated, last_states}
use Rattle.rounds_runs.specs.declared.mode.RoundMode.{RoundMode}

module _ {X : Type 0} where
  pub sum-same : (v w : X → ℕ) → ((x : X) → v x ≡ w x) → (xs : List X) → sum_by v xs ≡ sum_by w xs
  sum-same v w h [] = refl
  sum-same v w h (x ∷ xs) = sum_by-cons v x xs ∙ (λ i. h x i + sum-same v w h xs i) ∙ sym (sum_by-cons w x xs)

  sum-mapped : (v : X → ℕ) (f : X → X) → ((x : X) → v (f x) ≡ v x) → (xs : List X) → sum_by v (map f xs) ≡ sum_by v xs
  sum-mapped v f h [] = refl
  sum-mapped v f h (x ∷ xs) = sum_by-cons v (f x) (map f xs) ∙ (λ i. h x i + sum-mapped v f h xs i) ∙ sym (sum_by-cons v x xs)

  sum-changed : (v : X → ℕ) (f : ℕ → X → X) → ((k : ℕ) (x : X) → v (f k x) ≡ v x) → (n : ℕ) (xs : List X) → sum_by v (map (λ p. f p.0 p.1) (enumerate_from n xs)) ≡ sum_by v xs
  sum-changed v f h n [] = refl
  sum-changed v f h n (x ∷ xs) =
      sum_by-cons v (f n x) (map (λ p. f p.0 p.1) (enumerate_from (n + 1) xs)) ∙ (λ i. h n x i + sum-changed v f h (n + 1) xs i) ∙ sym (sum_by-cons v x xs)

module _ {E P : Type 0} where
  abbrev pub size : CiteRender E P → ℕ
  size c = length c.items

  grouped-length : (delimiter : Option (List ℕ)) (cites : List (ItemRender E P)) → length (grouped_cites delimiter cites) ≡ length cites
  grouped-length delimiter cites =
      sym (length-map (grouped_cites delimiter cites) (λ c. Some (bare c))) ∙ ap length (ordered cites delimiter)
      ∙ length-map (final_order cites) _ ∙ length_permutation (range_with_len 0 (length cites)) (final_order cites) (final-permuted cites) ∙ length-range_with_len 0 (length cites)

  grouped-size : (c : CiteRender E P) → size (grouped c) ≡ size c
  grouped-size c = by (is_grouped c.request.style.citation)
    where
      by : (b : Bool) → size (if b then record c { items = grouped_cites (group_delimiter c.request.style.citation) c.items } else c) ≡ size c
      by true = grouped-length (group_delimiter c.request.style.citation) c.items
      by false = refl

  collapsed-length : (kind : Option Collapse) (citation : CitationValue) (cites : List (ItemRender E P)) → length (collapsed_cites kind citation cites) ≡ length cites
  collapsed-length None citation cites = refl
  collapsed-length (Some kind) citation cites = length-map (enumerate_from 0 cites) _ ∙ length-enumerate_from 0 cites

  drawn-size : (c : CiteRender E P) → size (collapsed_finally c) ≡ size c
  drawn-size c = by (has_no_purpose c.items)
    where
      by : (b : Bool) → size (if b then collapsed c else c) ≡ size c
      by true = collapsed-length c.request.style.citation.collapse c.request.style.citation c.items
      by false = refl

module _ {E P : Type 0} (eq : E → E → Bool) (payload_eq : P → P → Bool) (writing : Writing E P) (mode : RoundMode) (job : Job E P) where
  pub first-size : sum_by size (rendered_first eq payload_eq writing job) ≡ length (cites_of job.requests)
  first-size =
      let firsts = rendered_first eq payload_eq writing job in
      let requests = job.requests in
      sum-same size (λ c. length (map (λ i. i.entry) c.items)) (λ c. sym (length-map c.items (λ i. i.entry))) firsts
      ∙ sym (length-flat_map (λ c. map (λ i. i.entry) c.items) firsts)
      ∙ ap length (first-cited eq payload_eq writing (number eq job.offset (entries_listed eq job.wanted requests)) [] requests)
      ∙ length-flat_map (λ r. entries_of r.cites) requests
      ∙ sum-same (λ r. length (entries_of r.cites)) (λ r. length r.cites) (λ r. length-map r.cites (λ c. c.entry)) requests
      ∙ sym (length-flat_map (λ r. r.cites) requests)

  told-size : sum_by size (disambiguated mode eq writing (rendered_first eq payload_eq writing job)) ≡ sum_by size (rendered_first eq payload_eq writing job)
  unfolding disambiguated
  told-size =
      let firsts = rendered_first eq payload_eq writing job in
      sum-mapped size (request_at writing (last_states mode eq writing firsts)) (λ c. length-map c.items _) firsts

  -- as many as the requests have
  pub last-size : sum_by size (map collapsed_finally (in_the_end eq payload_eq writing mode job)) ≡ length (cites_of job.requests)
  last-size =
      let told = disambiguated mode eq writing (rendered_first eq payload_eq writing job) in
      let number_of = final_number eq payload_eq writing mode job in
      sum-mapped size collapsed_finally drawn-size (in_the_end eq payload_eq writing mode job)
      ∙ sum-changed size (λ k c. record c { items = with_final_items eq payload_eq number_of (items_before (in_final_order eq payload_eq writing mode job) k) c.items })
      (λ k c. length-map (enumerate_from 0 c.items) _ ∙ length-enumerate_from 0 c.items) 0 (map grouped told)
      ∙ sum-mapped size grouped grouped-size told ∙ told-size ∙ first-size
