-- What the laws say of the citation of one request.
use Rattle.std.proofs.Common.{◌≡◌, ℕ, zero, suc, ◌+◌, ◌<◌, List, [], ◌∷◌, get_or, length, map, true, refl, ap, sym, subst, ◌∙◌, arith}
use Rattle.std.specs.Prelude.{All, Contains}
use Rattle.std.specs.List.{AllZip, enumerate_from}
use Rattle.std.specs.List.Sorted.{IsPermutation}
use Rattle.std.proofs.lemmas.List.Elements.{All-head, All-tail}
use Rattle.std.proofs.lemmas.List.Sorted.{Contains-permutation, length_permutation}
use Rattle.driver_assembly.specs.CitationTree.{shown}
use Rattle.driver_assembly.specs.declared.rendered.RenderedCitation.{RenderedCitation}
use Rattle.rounds_grouping.specs.NumberLaws.{is_hidden}
use Rattle.csl_driver.specs.Answer.{citation_of}
use Rattle.csl_driver.specs.AnswerLaws.{HasOwnCites, IsReadBack, cite_of, places_of, uncollapsed}
use Rattle.csl_driver.specs.ShownEntries.{entries_shown}
use Rattle.driver_passes.specs.Renders.{CiteRender, ItemRender}
use Rattle.driver_passes.specs.Request.{Request, RequestedCite, with_places}
use Rattle.driver_writers.specs.Writing.{Writing}

module _ {E P : Type 0} (writing : Writing E P) where
  -- a citation, and the cites of the request that it came from
  pub record Answers (k : ℕ) (request : Request E P) (citation : RenderedCitation) : Type 0 where
    pub settled : CiteRender E P
    pub drawn : CiteRender E P
    pub same_request : drawn.request ≡ request
    pub own : HasOwnCites settled
    pub read : IsReadBack settled drawn
    pub made : citation ≡ citation_of writing k drawn
    pub shows : entries_shown citation.citation ≡ places_of (shown drawn.items)

  abbrev pub AllAnswer : ℕ → List (Request E P) → List RenderedCitation → Type 0
  AllAnswer k [] [] = Unit {0}
  AllAnswer k [] (c ∷ cs) = ⊥
  AllAnswer k (r ∷ rs) [] = ⊥
  AllAnswer k (r ∷ rs) (c ∷ cs) = Answers k r c × AllAnswer (k + 1) rs cs

  pub all-answer : (k : ℕ) (requests : List (Request E P)) (settled drawn : List (CiteRender E P)) (citations : List RenderedCitation)
      → map (λ c. c.request) drawn ≡ requests → AllZip IsReadBack settled drawn → All HasOwnCites settled
      → citations ≡ map (λ c. citation_of writing c.0 c.1) (enumerate_from k drawn)
      → map (λ c. entries_shown c.citation) citations ≡ map (λ c. places_of (shown c.items)) drawn
      → AllAnswer k requests citations
  all-answer k [] settled [] [] job runs own made shows = tt
  all-answer k [] settled [] (c ∷ cs) job runs own made shows = cc
  all-answer k [] settled (d ∷ ds) citations job runs own made shows = cc
  all-answer k (r ∷ rs) settled [] citations job runs own made shows = cc
  all-answer k (r ∷ rs) [] (d ∷ ds) citations job runs own made shows = absurd runs
  all-answer k (r ∷ rs) (s ∷ ss) (d ∷ ds) [] job runs own made shows = cc
  all-answer k (r ∷ rs) (s ∷ ss) (d ∷ ds) (c ∷ cs) job runs own made shows =
      let request_is : d.request ≡ r = cc in
      let rest_asked : map (λ x. x.request) ds ≡ rs = cc in
      let made_is : c ≡ citation_of writing k d = cc in
      let rest_made : cs ≡ map (λ x. citation_of writing x.0 x.1) (enumerate_from (k + 1) ds) = cc in
      let shows_are : entries_shown c.citation ≡ places_of (shown d.items) = cc in
      let rest_shows : map (λ x. entries_shown x.citation) cs ≡ map (λ x. places_of (shown x.items)) ds = cc in (
        record { settled = s; drawn = d; same_request = request_is; own = All-head HasOwnCites s ss own; read = runs.0; made = made_is; shows = shows_are },
        all-answer (k + 1) rs ss ds cs rest_asked runs.1 (All-tail HasOwnCites s ss own) rest_made rest_shows,
      )

module _ {E P : Type 0} where
  -- the only cite of a request is the only one that is drawn
  pub record IsOnly (q : RequestedCite E P) (items : List (ItemRender E P)) : Type 0 where
    pub item : ItemRender E P
    pub alone : items ≡ item ∷ []
    pub entry : item.entry ≡ q.entry
    pub purpose : item.purpose ≡ q.purpose
    pub place : item.properties.certain.initial_idx ≡ 0
    pub stays_hidden : q.hidden ≡ true → item.hidden ≡ true

  only-settled : (q : RequestedCite E P) (items : List (ItemRender E P)) → length (map cite_of items) ≡ 1 → Contains (map cite_of items) q → (i : ItemRender E P) × (items ≡ i ∷ []) × (cite_of i ≡ q)
  only-settled q [] long has = absurd (omega (arith, long))
  only-settled q (i ∷ j ∷ items) long has = absurd (omega (arith, long))
  only-settled q (i ∷ []) long (k, low, is) = (i, refl, at k low is)
    where
      at : (k : ℕ) → k < 1 → get_or (cite_of i ∷ []) k q ≡ q → cite_of i ≡ q
      at zero low is = is
      at (suc k) low is = absurd (omega (arith, low))

  only-drawn : (i : ItemRender E P) (drawn : List (ItemRender E P)) → map uncollapsed drawn ≡ uncollapsed i ∷ [] → (j : ItemRender E P) × (drawn ≡ j ∷ []) × (uncollapsed j ≡ uncollapsed i)
  only-drawn i [] same = absurd (omega (arith, ap length same))
  only-drawn i (j ∷ k ∷ drawn) same = absurd (omega (arith, ap length same))
  only-drawn i (j ∷ []) same = (j, refl, ap (λ cites. get_or cites 0 (uncollapsed i)) same)

  pub only : (q : RequestedCite E P) (c d : CiteRender E P) → HasOwnCites c → IsReadBack c d → (with_places c.request).cites ≡ record q { place = 0 } ∷ [] → IsOnly q d.items
  only q c d own read one =
      let requested : RequestedCite E P = record q { place = 0 } in
      let moved = subst (λ l. IsPermutation l (map cite_of c.items)) one own in
      let s = only-settled requested c.items (length_permutation (requested ∷ []) (map cite_of c.items) moved) (Contains-permutation (requested ∷ []) (map cite_of c.items) requested moved (0, omega arith, refl)) in
      let j = only-drawn s.0 d.items (read.same_cites ∙ ap (map uncollapsed) s.1) in
      record {
        item = j.0;
        alone = j.1;
        entry = ap (λ (i : ItemRender E P). i.entry) j.2 ∙ ap (λ (r : RequestedCite E P). r.entry) s.2;
        purpose = ap (λ (i : ItemRender E P). i.purpose) j.2 ∙ ap (λ (r : RequestedCite E P). r.purpose) s.2;
        place = ap (λ (i : ItemRender E P). i.properties.certain.initial_idx) j.2 ∙ ap (λ (r : RequestedCite E P). r.place) s.2;
        stays_hidden = λ h. ap (λ l. is_hidden l 0) (sym j.1) ∙ read.hidden_stays 0 (ap (λ l. is_hidden l 0) s.1 ∙ ap (λ (r : RequestedCite E P). r.hidden) s.2 ∙ h);
      }
