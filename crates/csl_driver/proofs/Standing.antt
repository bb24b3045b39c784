-- What holds of the cites of requests, from their first renders to the end: they know their places.
use Rattle.std.proofs.Common.{◌≡◌, ℕ, ◌+◌, Bool, true, false, List, [], ◌∷◌, ◌++◌, Option, Some, None, map, take, refl, ap, sym, subst, ◌∙◌}
use Rattle.std.specs.Prelude.{All, flat_map, if◌then◌else◌}
use Rattle.std.specs.Cmp.{IsEquivalence}
use Rattle.std.specs.List.{AllZip, enumerate_from}
use Rattle.std.proofs.lemmas.List.Elements.{All-cons, All-head, All-nil, All-tail}
use Rattle.driver_writers.specs.Writing.{Writing}
use Rattle.rounds_grouping.specs.Collapsed.{collapsed, collapsed_finally}
use Rattle.csl_driver.specs.Answer.{Job, entries_listed, rendered_first}
use Rattle.csl_driver.specs.AreCitesOf.{AreCitesOf}
use Rattle.csl_driver.proofs.FirstPlaced.{first-cited, first-placed, first-places, first-requests}
use Rattle.csl_driver.proofs.Listings.{table-within}
use Rattle.value_styles.specs.Ring.{HasNoRing}
use Rattle.driver_entries.specs.Entries.{distinct, is_in, number}
use Rattle.driver_entries.specs.PlacedItems.{IsPlaced}
use Rattle.driver_entries.specs.Table.{Table, table_of}
use Rattle.driver_entries.proofs.Distinct.{is_in-distinct}
use Rattle.rounds_grouping.specs.Blocks.{group_delimiter, grouped, grouped_cites, is_grouped}
use Rattle.rounds_grouping.proofs.Kept.{cited-same, grouped-placed}
use Rattle.driver_lookup.specs.declared.state.DisambiguateState.{DisambiguateState}
use Rattle.driver_passes.specs.Purposes.{has_no_purpose}
use Rattle.driver_passes.specs.Renders.{CiteRender, ItemRender}
use Rattle.driver_passes.specs.Request.{Request, cited}
use Rattle.driver_positions.specs.FinalProperties.{items_before, with_final, with_final_items, with_final_properties}
use Rattle.driver_positions.specs.FirstProperties.{first_properties}
use Rattle.rounds_runs.specs.FirstRenders.{first_renders}
use Rattle.rounds_runs.specs.Rounds.{StateTable, at_table, request_at, with_any}
use Rattle.rounds_runs.specs.Tables.{disambiguated, last_states}
use Rattle.rounds_rendering.specs.CitesOfTable.{AreCitesOfTable}
use Rattle.rounds_runs.specs.declared.mode.RoundMode.{RoundMode}

module _ {X : Type 0} (h : ℕ → X → X) where
  -- members changed by their places
  abbrev changed : ℕ → List X → List X
  changed n xs = map (λ p. h p.0 p.1) (enumerate_from n xs)

  pub all-changed : (Q : X → Type 0) → ((k : ℕ) (x : X) → Q x → Q (h k x)) → (n : ℕ) (xs : List X) → All Q xs → All Q (changed n xs)
  all-changed Q kept n [] a = All-nil Q
  all-changed Q kept n (x ∷ xs) a = All-cons Q (h n x) (changed (n + 1) xs) (kept n x (All-head Q x xs a)) (all-changed Q kept (n + 1) xs (All-tail Q x xs a))

  pub same-changed : {B : Type 0} (v : X → B) → ((k : ℕ) (x : X) → v (h k x) ≡ v x) → (n : ℕ) (xs : List X) → map v (changed n xs) ≡ map v xs
  same-changed v kept n [] = refl
  same-changed v kept n (x ∷ xs) = rw (kept n x, same-changed v kept (n + 1) xs) refl

  flat-changed : {B : Type 0} (v : X → List B) → ((k : ℕ) (x : X) → v (h k x) ≡ v x) → (n : ℕ) (xs : List X) → flat_map v (changed n xs) ≡ flat_map v xs
  flat-changed v kept n [] = refl
  flat-changed v kept n (x ∷ xs) = rw (kept n x, flat-changed v kept (n + 1) xs) refl

  zip-changed : {Y : Type 0} (R : Y → X → Type 0) → ((k : ℕ) (y : Y) (x : X) → R y x → R y (h k x)) → (n : ℕ) (ys : List Y) (xs : List X) → AllZip R ys xs → AllZip R ys (changed n xs)
  zip-changed R kept n [] [] a = a
  zip-changed R kept n [] (x ∷ xs) a = absurd a
  zip-changed R kept n (y ∷ ys) [] a = absurd a
  zip-changed R kept n (y ∷ ys) (x ∷ xs) a = (kept n y x a.0, zip-changed R kept (n + 1) ys xs a.1)

module _ {X : Type 0} (f : X → X) where
  pub all-mapped : (Q : X → Type 0) → ((x : X) → Q x → Q (f x)) → (xs : List X) → All Q xs → All Q (map f xs)
  all-mapped Q kept [] a = All-nil Q
  all-mapped Q kept (x ∷ xs) a = All-cons Q (f x) (map f xs) (kept x (All-head Q x xs a)) (all-mapped Q kept xs (All-tail Q x xs a))

  same-mapped : {B : Type 0} (v : X → B) → ((x : X) → v (f x) ≡ v x) → (xs : List X) → map v (map f xs) ≡ map v xs
  same-mapped v kept [] = refl
  same-mapped v kept (x ∷ xs) = rw (kept x, same-mapped v kept xs) refl

  flat-mapped : {B : Type 0} (v : X → List B) → ((x : X) → v (f x) ≡ v x) → (xs : List X) → flat_map v (map f xs) ≡ flat_map v xs
  flat-mapped v kept [] = refl
  flat-mapped v kept (x ∷ xs) = rw (kept x, flat-mapped v kept xs) refl

  zip-mapped : {Y : Type 0} (R : Y → X → Type 0) → ((y : Y) (x : X) → R y x → R y (f x)) → (ys : List Y) (xs : List X) → AllZip R ys xs → AllZip R ys (map f xs)
  zip-mapped R kept [] [] a = a
  zip-mapped R kept [] (x ∷ xs) a = absurd a
  zip-mapped R kept (y ∷ ys) [] a = absurd a
  zip-mapped R kept (y ∷ ys) (x ∷ xs) a = (kept y x a.0, zip-mapped R kept ys xs a.1)

-- the request stays
pub grouped-request : {E P : Type 0} (c : CiteRender E P) → (grouped c).request ≡ c.request
grouped-request c = by (is_grouped c.request.style.citation)
  where
    by : (b : Bool) → (if b then record c { items = grouped_cites (group_delimiter c.request.style.citation) c.items } else c).request ≡ c.request
    by true = refl
    by false = refl

drawn-request : {E P : Type 0} (c : CiteRender E P) → (collapsed_finally c).request ≡ c.request
drawn-request c = by (has_no_purpose c.items)
  where
    by : (b : Bool) → (if b then collapsed c else c).request ≡ c.request
    by true = refl
    by false = refl

-- drawing together keeps the requests
pub drawn-requests : {E P : Type 0} (cites : List (CiteRender E P)) → map (λ c. c.request) (map collapsed_finally cites) ≡ map (λ c. c.request) cites
drawn-requests cites = same-mapped collapsed_finally (λ c. c.request) drawn-request cites

-- what is asked of requests holds of the requests of their cites
pub of-requests : {E P : Type 0} (Q : Request E P → Type 0) (cites : List (CiteRender E P)) (requests : List (Request E P))
    → map (λ c. c.request) cites ≡ requests → All Q requests → All (λ c. Q c.request) cites
of-requests {E} {P} Q cites requests same all = from cites (subst (All Q) (sym same) all)
  where
    from : (cs : List (CiteRender E P)) → All Q (map (λ c. c.request) cs) → All (λ c. Q c.request) cs
    from [] a = All-nil (λ c. Q c.request)
    from (c ∷ cs) a = All-cons (λ d. Q d.request) c cs (All-head Q c.request (map (λ d. d.request) cs) a) (from cs (All-tail Q c.request (map (λ d. d.request) cs) a))

module _ {E P : Type 0} (eq : E → E → Bool) (laws : IsEquivalence eq) (writing : Writing E P) where
  -- the first renders
  pub first-stand : (payload_eq : P → P → Bool) (number_of : E → ℕ) (requests : List (Request E P))
      → AreCitesOf eq (table_of eq requests) requests (first_renders writing requests (first_properties eq payload_eq number_of requests))
  first-stand payload_eq number_of requests = record {
    of = first-requests eq payload_eq writing number_of (distinct eq (cited requests)) requests;
    placed = first-placed eq payload_eq writing number_of (distinct eq (cited requests)) requests;
    same = λ e. ap (is_in eq e) (first-cited eq payload_eq writing number_of (distinct eq (cited requests)) requests) ∙ sym (is_in-distinct eq laws e (cited requests));
  }

  module _ (entered : Table E) (requests : List (Request E P)) (cites : List (CiteRender E P)) (h : AreCitesOf eq entered requests cites) where
    entry-again : (table : StateTable E) (r : Request E P) (s : Option DisambiguateState) (i : ItemRender E P) → (with_any writing r s i).entry ≡ i.entry
    entry-again table r None i = refl
    entry-again table r (Some s) i = refl

    placed-again : (entries : List E) (places : List ℕ) (r : Request E P) (s : Option DisambiguateState) (i : ItemRender E P)
        → IsPlaced eq entries places i → IsPlaced eq entries places (with_any writing r s i)
    placed-again entries places r None i a = a
    placed-again entries places r (Some s) i a = a

    -- rendered again
    pub again-stand : (table : StateTable E) → AreCitesOf eq entered requests (at_table writing table cites)
    again-stand table = record {
      of = same-mapped (request_at writing table) (λ c. c.request) (λ c. refl) cites ∙ h.of;
      placed = zip-mapped (request_at writing table) (λ places c. All (IsPlaced eq entered.entries places) c.items)
          (λ places c a. all-mapped (λ i. with_any writing c.request (table i.entry) i) (IsPlaced eq entered.entries places)
          (λ i b. placed-again entered.entries places c.request (table i.entry) i b) c.items a) entered.places cites h.placed;
      same = λ e. ap (is_in eq e) (flat-mapped (request_at writing table) (λ c. map (λ i. i.entry) c.items)
          (λ c. same-mapped (λ i. with_any writing c.request (table i.entry) i) (λ i. i.entry) (λ i. entry-again table c.request (table i.entry) i) c.items) cites) ∙ h.same e;
    }

    -- disambiguated
    pub disambiguated-stand : (mode : RoundMode) → AreCitesOf eq entered requests (disambiguated mode eq writing cites)
    unfolding disambiguated
    disambiguated-stand mode = again-stand (last_states mode eq writing cites)

    -- in their blocks
    pub grouped-stand : AreCitesOf eq entered requests (map grouped cites)
    grouped-stand = record {
      of = same-mapped grouped (λ c. c.request) grouped-request cites ∙ h.of;
      placed = grouped-placed eq entered cites h.placed;
      same = λ e. cited-same eq laws e cites ∙ h.same e;
    }

    -- with their final properties
    pub final-stand : (payload_eq : P → P → Bool) (number_of : E → ℕ) → AreCitesOf eq entered requests (with_final_properties eq payload_eq number_of cites)
    final-stand payload_eq number_of = record {
      of = same-changed settled (λ c. c.request) (λ k c. refl) 0 cites ∙ h.of;
      placed = zip-changed settled (λ places c. All (IsPlaced eq entered.entries places) c.items)
          (λ k places c a. all-changed (item k c) (IsPlaced eq entered.entries places) (λ j i b. b) 0 c.items a) 0 entered.places cites h.placed;
      same = λ e. ap (is_in eq e) (flat-changed settled (λ c. map (λ i. i.entry) c.items)
          (λ k c. same-changed (item k c) (λ i. i.entry) (λ j i. refl) 0 c.items) 0 cites) ∙ h.same e;
    }
      where
        item : ℕ → CiteRender E P → ℕ → ItemRender E P → ItemRender E P
        item k c j i = with_final eq payload_eq number_of (items_before cites k ++ take j c.items) i

        settled : ℕ → CiteRender E P → CiteRender E P
        settled k c = record c { items = with_final_items eq payload_eq number_of (items_before cites k) c.items }

module _ {E P : Type 0} {eq : E → E → Bool} (laws : IsEquivalence eq) (writing : Writing E P) (payload_eq : P → P → Bool) (job : Job E P)
    {table : Table E} (is : table ≡ table_of eq job.requests) {begun : List (CiteRender E P)} (first : begun ≡ rendered_first eq payload_eq writing job) where
  -- the first renders, over the table
  begun-stand : AreCitesOf eq table job.requests begun
  begun-stand =
      subst (AreCitesOf eq table job.requests) (sym first)
      (subst (λ t. AreCitesOf eq t job.requests (rendered_first eq payload_eq writing job)) (sym is)
      (first-stand eq laws writing payload_eq (number eq job.offset (entries_listed eq job.wanted job.requests)) job.requests))

  -- they can be disambiguated
  pub begun-of-table : All (λ r. HasNoRing r.style.macros) job.requests → AreCitesOfTable eq table begun
  begun-of-table no_ring = record {
    no_ring = of-requests (λ r. HasNoRing r.style.macros) begun job.requests begun-stand.of no_ring;
    placed = first-places eq payload_eq writing (number eq job.offset (entries_listed eq job.wanted job.requests)) job.requests table is begun first;
    listed = table-within eq laws job.requests table is;
  }

  module _ (mode : RoundMode) {told ordered : List (CiteRender E P)} (apart : told ≡ disambiguated mode eq writing begun) (grouping : ordered ≡ map grouped told) where
    -- disambiguated and in their blocks
    pub ordered-stand : AreCitesOf eq table job.requests ordered
    ordered-stand =
        subst (AreCitesOf eq table job.requests) (sym grouping)
        (grouped-stand eq laws writing table job.requests told
        (subst (AreCitesOf eq table job.requests) (sym apart) (disambiguated-stand eq laws writing table job.requests begun begun-stand mode)))

    -- and with their final properties
    pub settled-stand : (number_of : E → ℕ) {settled : List (CiteRender E P)} → settled ≡ with_final_properties eq payload_eq number_of ordered → AreCitesOf eq table job.requests settled
    settled-stand number_of {settled} are =
        subst (AreCitesOf eq table job.requests) (sym are) (final-stand eq laws writing table job.requests ordered ordered-stand payload_eq number_of)
