-- How many cites there are where works are told apart as CSL has it: as many as the requests have.
use Rattle.std.proofs.Common.{◌≡◌, ℕ, suc, ◌+◌, Bool, List, [], ◌∷◌, Option, Some, None, length, map, refl, sym, subst, ◌∙◌}
use Rattle.std.specs.List.{range_with_len, sum_by, zip}
use Rattle.std.specs.List.Sorted.{IsPermutation}
use Rattle.std.proofs.lemmas.List.{length-append, length-map}
use Rattle.std.proofs.lemmas.List.Concat.{length-flat_map}
use Rattle.std.proofs.lemmas.List.Sums.{sum_by-cons}
use Rattle.mentions_arranging.specs.Arranged.{arranged_cites}
use Rattle.mentions_arranging.specs.Order.{final_request}
use Rattle.mentions_arranging.specs.Requests.{Request as Arranged}
use Rattle.mentions_arranging.specs.declared.arranged.ArrangedCite.{ArrangedCite}
use Rattle.mentions_arranging.specs.declared.request.FinalCite.{FinalCite}
use Rattle.mentions_arranging.specs.declared.request.RequestedCite.{RequestedCite as PlainCite}
use Rattle.mentions_arranging.specs.declared.request.Shown.{Shown}
use Rattle.driver_lookup.specs.Properties.{LocatorValue}
use Rattle.mentions_notes.specs.Notes.{all_notes}
use Rattle.driver_passes.specs.Renders.{CiteRender}
use Rattle.driver_passes.specs.Request.{Request, cites_of}
use Rattle.mentions_cited.specs.Handed.{cite_counts, handed_cite, handed_cites}
use Rattle.mentions_cited.proofs.Cutting.{parts-counted}
use Rattle.mentions_cited.proofs.Handing.{notes-count}
use Rattle.mentions_tables.specs.Steps.{all_changed}
use Rattle.mentions_cites.specs.Arranging.{arranged_by, arranged_request}
use Rattle.mentions_cites.specs.Repeats.{cites_with_shown, with_first_key, with_key}
use Rattle.mentions_cites.specs.declared.mentions.ToldMention.{ToldMention}
use Rattle.mentions_cites.proofs.Whole.{finals-once, plain-lengths, told-lengths}
use Rattle.driver_writers.specs.Writing.{Writing}
use Rattle.csl_driver.specs.Answer.{Job}
use Rattle.csl_driver.specs.CslAnswer.{cite_notes, cites_arranged, cites_in_order, entry_suffixes, known, listed, numbers_in_the_end, ordered, plain_by, repeated_cites, repeated_firsts, same_locator, shown_mentions, shown_repeated}
use Rattle.csl_driver.proofs.CslBlocks.{places-stay}
use Rattle.csl_driver.proofs.CslOnce.{AreWhole}
use Rattle.csl_driver.proofs.Sizes.{size, sum-same}

-- arranging keeps how many there are
changed-length : {C X : Type 0} (f : C → X → X) (cs : List C) (xs : List X) → length (all_changed f cs xs) ≡ length xs
changed-length f [] xs = refl
changed-length f (c ∷ cs) [] = refl
changed-length f (c ∷ cs) (x ∷ xs) = λ i. suc (changed-length f cs xs i)

module _ {E P L : Type 0} (numbers : List ℕ) where
  sizes-stay : (zs : List (Arranged (FinalCite L) × List ArrangedCite)) (cs : List (CiteRender E P)) → sum_by size (all_changed (arranged_request numbers) zs cs) ≡ sum_by size cs
  sizes-stay [] cs = refl
  sizes-stay (z ∷ zs) [] = refl
  sizes-stay (z ∷ zs) (c ∷ cs) =
      sum_by-cons size (arranged_request numbers z c) (all_changed (arranged_request numbers) zs cs)
      ∙ (λ i. changed-length (arranged_by numbers c.request.style.citation) (zip z.0.cites z.1) c.items i + sizes-stay zs cs i)
      ∙ sym (sum_by-cons size c cs)

all-sizes : {E P : Type 0} (rs : List (Request E P)) (cs : List (CiteRender E P)) → map size cs ≡ cite_counts rs → sum_by size cs ≡ length (cites_of rs)
all-sizes [] [] h = refl
all-sizes [] (c ∷ cs) h = cc
all-sizes (r ∷ rs) [] h = cc
all-sizes {E} {P} (r ∷ rs) (c ∷ cs) h =
    let own : length c.items ≡ length r.cites = cc in
    let others : map (λ (d : CiteRender E P). length d.items) cs ≡ cite_counts rs = cc in
    sum_by-cons size c cs ∙ (λ i. own i + all-sizes rs cs others i) ∙ sym (length-append r.cites (cites_of rs))

-- whatever first cites are brought together by, and cites show
key-length : {L : Type 0} (key : Option Shown) (r : Arranged (PlainCite L)) → length (with_first_key key r).cites ≡ length r.cites
key-length None r = refl
key-length {L = L} (Some s) r = by r.cites
  where
    by : (cs : List (PlainCite L)) → length (with_key s.names cs) ≡ length cs
    by [] = refl
    by (c ∷ cs) = refl

keyed-lengths : {L : Type 0} (keys : List (Option Shown)) (rs : List (Arranged (PlainCite L))) → map (λ r. length r.cites) (all_changed with_first_key keys rs) ≡ map (λ r. length r.cites) rs
keyed-lengths [] rs = refl
keyed-lengths (key ∷ keys) [] = refl
keyed-lengths (key ∷ keys) (r ∷ rs) = λ i. key-length key r i ∷ keyed-lengths keys rs i

module _ {E P : Type 0} where
  whole-shown : (shown : List (List (Option Shown))) (rs : List (Request E P)) (fs : List (Arranged (FinalCite (LocatorValue P)))) → AreWhole rs fs → AreWhole rs (all_changed cites_with_shown shown fs)
  whole-shown [] rs fs h = h
  whole-shown (s ∷ shown) rs [] h = h
  whole-shown (s ∷ shown) [] (f ∷ fs) h = absurd h
  whole-shown (s ∷ shown) (r ∷ rs) (f ∷ fs) h = (subst (IsPermutation (range_with_len 0 (length r.cites))) (sym (places-stay s f.cites)) h.0, whole-shown shown rs fs h.1)

module _ {E P : Type 0} (eq : E → E → Bool) (job : Job E P) where
  -- something is known of each cite
  pub notes-counted : map length (cite_notes eq job) ≡ cite_counts job.requests
  notes-counted =
      let handed = handed_cite eq (listed eq job) in
      parts-counted job.requests (all_notes (handed_cites eq (listed eq job) job.requests))
      (notes-count (handed_cites eq (listed eq job) job.requests) ∙ length-flat_map (λ r. map (handed r) r.cites) job.requests
      ∙ sum-same (λ r. length (map (handed r) r.cites)) (λ r. length r.cites) (λ r. length-map r.cites (handed r)) job.requests
      ∙ sym (length-flat_map (λ r. r.cites) job.requests))

  -- each cite of a request stands once in an order of its cites
  pub once-in-order : (shown : List (List (Option Shown))) (keys : List (Option Shown)) (mentions : List ToldMention) (suffixes : List (Option ℕ))
      → AreWhole job.requests (all_changed cites_with_shown shown (map final_request (all_changed with_first_key keys (plain_by eq job mentions suffixes))))
  once-in-order shown keys mentions suffixes =
      let plains = plain_by eq job mentions suffixes in
      whole-shown shown job.requests (map final_request (all_changed with_first_key keys plains))
      (finals-once job.requests (all_changed with_first_key keys plains)
      (keyed-lengths keys plains ∙ plain-lengths mentions suffixes eq (listed eq job) job.requests (cite_notes eq job) notes-counted))

  pub ordered-once : (writing : Writing E P) (payload_eq : P → P → Bool) → AreWhole job.requests (ordered eq job writing payload_eq)
  ordered-once writing payload_eq =
      once-in-order (map (shown_repeated eq job writing) (repeated_cites eq job writing payload_eq)) (shown_repeated eq job writing (repeated_firsts eq job writing payload_eq))
      (shown_mentions eq job writing) (entry_suffixes eq job writing)

  -- there are as many as the requests have
  pub arranged-size : (writing : Writing E P) (payload_eq : P → P → Bool) → sum_by size (cites_arranged eq job writing payload_eq) ≡ length (cites_of job.requests)
  arranged-size writing payload_eq =
      let numbers = numbers_in_the_end eq job writing payload_eq in
      let finals = ordered eq job writing payload_eq in
      sizes-stay numbers (zip finals (arranged_cites (same_locator payload_eq) numbers finals)) (cites_in_order eq job writing payload_eq)
      ∙ all-sizes job.requests (cites_in_order eq job writing payload_eq) (told-lengths (known eq job writing) job.requests (cite_notes eq job) finals notes-counted (ordered-once writing payload_eq))
