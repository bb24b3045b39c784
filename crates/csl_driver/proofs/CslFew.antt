-- Mentions are written as cites repeat them once a request at most, and once a cite.
use Rattle.std.proofs.Common.{◌≡◌, ℕ, suc, ◌+◌, ◌≤◌, Bool, Option, Some, None, List, [], ◌∷◌, length, map, refl, sym, ◌∙◌, arith, length-append}
use Rattle.std.specs.Prelude.{filter_map, flat_map, zip}
use Rattle.std.specs.List.{cons_option, range_with_len}
use Rattle.std.proofs.Math.ListN.{length-map}
use Rattle.std.proofs.lemmas.List.FromFn.{length-range_with_len}
use Rattle.std.proofs.lemmas.List.Sorted.{length_permutation}
use Rattle.std.proofs.lemmas.Slice.Zip.{length-zip}
use Rattle.std.specs.Option.{option_and_then}
use Rattle.mentions_arranging.specs.Order.{final_request}
use Rattle.mentions_arranging.specs.Repeating.{all_repeated, final_positions, first_repeated, handed_positions, is_looked_at, repeated_where}
use Rattle.mentions_arranging.specs.Requests.{Request as Arranged}
use Rattle.mentions_arranging.specs.declared.repeating.Repeated.{Repeated}
use Rattle.mentions_arranging.specs.declared.request.FinalCite.{FinalCite}
use Rattle.csl_driver.specs.Answer.{Job}
use Rattle.csl_driver.specs.CslAnswer.{cite_notes, entry_suffixes, keyed, listed, mentions, plain, repeated_cites, repeated_firsts, same_locator, shown_mentions, shown_repeated, states, tasks_repeated}
use Rattle.csl_driver.specs.CslTasks.{repeat_cite_tasks}
use Rattle.csl_driver.proofs.CslCounts.{once-in-order}
use Rattle.csl_driver.proofs.CslOnce.{AreWhole, handed_at}
use Rattle.driver_lookup.specs.Properties.{LocatorValue}
use Rattle.mentions_notes.specs.declared.notes.CiteNotes.{CiteNotes}
use Rattle.mentions_notes.specs.declared.repeats.Position.{Position}
use Rattle.driver_passes.specs.Request.{Request, cites_of}
use Rattle.mentions_cites.specs.Repeats.{repeat_task}
use Rattle.mentions_cites.specs.Requests.{plain_request}
use Rattle.driver_writers.specs.Tasks.{CiteTaskValue, cite_task}
use Rattle.driver_writers.specs.Writing.{Writing}

-- what is picked is no more than what there is
few : {A B : Type 0} (f : A → Option B) (xs : List A) → length (filter_map f xs) ≤ length xs
few f [] = omega arith
few f (x ∷ xs) = by (f x) (few f xs)
  where
    by : (o : Option _) → length (filter_map f xs) ≤ length xs → length (cons_option o (filter_map f xs)) ≤ suc (length xs)
    by None more = omega (arith, more)
    by (Some y) more = omega (arith, more)

module _ {L : Type 0} where
  -- how many cites requests have
  abbrev total : List (Arranged (FinalCite L)) → ℕ
  total [] = 0
  total (f ∷ fs) = length f.cites + total fs

  few-repeated : (f : Arranged (FinalCite L)) (ps : List Position) → length (all_repeated (f, ps)) ≤ length f.cites
  few-repeated f ps =
      let mapped = length-map (zip f.cites ps) (λ (c : FinalCite L × Position). repeated_where (is_looked_at f.facts (length f.cites)) (c.0.cite, c.1)) in
      let both = length-zip f.cites ps in
      omega (arith, mapped, both)

  few-rows : {B : Type 0} (pick : List (Option Repeated) → List B) → ((os : List (Option Repeated)) → length (pick os) ≤ length os) → (fs : List (Arranged (FinalCite L))) (ps : List (List Position))
      → length (flat_map pick (map all_repeated (zip fs ps))) ≤ total fs
  few-rows pick picks [] ps = omega arith
  few-rows pick picks (f ∷ fs) [] = omega arith
  few-rows pick picks (f ∷ fs) (p ∷ ps) =
      let seam = length-append (pick (all_repeated (f, p))) (flat_map pick (map all_repeated (zip fs ps))) in
      let own = picks (all_repeated (f, p)) in
      let own_few = few-repeated f p in
      let others = few-rows pick picks fs ps in
      omega (arith, seam, own, own_few, others)

whole-total : {E P : Type 0} (rs : List (Request E P)) (fs : List (Arranged (FinalCite (LocatorValue P)))) → AreWhole rs fs → total fs ≡ length (cites_of rs)
whole-total [] [] h = refl
whole-total [] (f ∷ fs) h = absurd h
whole-total (r ∷ rs) [] h = absurd h
whole-total (r ∷ rs) (f ∷ fs) h =
    let own : length f.cites ≡ length r.cites = sym (length-map f.cites handed_at) ∙ length_permutation (range_with_len 0 (length r.cites)) (map handed_at f.cites) h.0 ∙ length-range_with_len 0 (length r.cites) in
    let others = whole-total rs fs h.1 in
    let seam = length-append r.cites (cites_of rs) in
    omega (arith, own, others, seam)

module _ {E P : Type 0} (eq : E → E → Bool) (job : Job E P) (writing : Writing E P) (payload_eq : P → P → Bool) where
  abbrev pick : List (Option Repeated) → List (CiteTaskValue E P)
  pick = tasks_repeated eq job writing

  few-firsts : length (pick (repeated_firsts eq job writing payload_eq)) ≤ length job.requests
  few-firsts =
      let plains = plain eq job writing in
      let firsts = repeated_firsts eq job writing payload_eq in
      let positions = handed_positions (same_locator payload_eq) plains in
      let picked : length (pick firsts) ≤ length firsts = few (λ o. option_and_then (repeat_task (shown_mentions eq job writing) (mentions eq job) (states eq job writing)) o) firsts in
      let mapped = length-map (zip plains positions) first_repeated in
      let both = length-zip plains positions in
      let asked = length-map (zip job.requests (cite_notes eq job))
      (λ (p : Request E P × List CiteNotes). plain_request (shown_mentions eq job writing) (entry_suffixes eq job writing) eq (listed eq job) p.0 p.1) in
      let noted = length-zip job.requests (cite_notes eq job) in
      omega (arith, picked, mapped, both, asked, noted)

  few-cites : length (flat_map pick (repeated_cites eq job writing payload_eq)) ≤ length (cites_of job.requests)
  few-cites =
      let finals = map final_request (keyed eq job writing payload_eq) in
      let rows = few-rows pick (few (λ o. option_and_then (repeat_task (shown_mentions eq job writing) (mentions eq job) (states eq job writing)) o)) finals (final_positions (same_locator payload_eq) finals) in
      let all = whole-total job.requests finals
      (once-in-order eq job [] (shown_repeated eq job writing (repeated_firsts eq job writing payload_eq)) (shown_mentions eq job writing) (entry_suffixes eq job writing)) in
      omega (arith, rows, all)

  pub repeats-few : length (repeat_cite_tasks eq job writing payload_eq) ≤ length job.requests + length (cites_of job.requests)
  repeats-few =
      let firsts = pick (repeated_firsts eq job writing payload_eq) in
      let cites = flat_map pick (repeated_cites eq job writing payload_eq) in
      let seam = length-append (map cite_task firsts) (map cite_task cites) in
      let first_tasks = length-map firsts (λ t. cite_task t) in
      let later_tasks = length-map cites (λ t. cite_task t) in
      let in_firsts = few-firsts in
      let in_cites = few-cites in
      omega (arith, seam, first_tasks, later_tasks, in_firsts, in_cites)
