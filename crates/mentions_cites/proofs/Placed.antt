-- Cites whose entries are named by their places in a table, as those of a bibliography.
use Rattle.std.proofs.Common.{◌≡◌, ℕ, ◌+◌, ◌<◌, Bool, Option, List, [], ◌∷◌, ◌++◌, length, map, take, get_or, refl, ◌∙◌}
use Rattle.std.specs.List.{zip}
use Rattle.std.proofs.lemmas.List.{get_or_default}
use Rattle.driver_lookup.specs.Properties.{LocatorValue}
use Rattle.mentions_arranging.specs.Requests.{Request as Arranged}
use Rattle.mentions_arranging.specs.declared.request.RequestedCite.{RequestedCite as PlainCite}
use Rattle.driver_entries.specs.Entries.{place}
use Rattle.driver_entries.specs.Listed.{IsListingOf, Listed}
use Rattle.driver_entries.specs.Table.{places_in}
use Rattle.mentions_notes.specs.declared.notes.CiteNotes.{CiteNotes}
use Rattle.driver_passes.specs.Request.{RequestedCite, Request}
use Rattle.mentions_cites.specs.ByPlaces.{index_at, plain_cites_at, plain_request_at, plain_requests_at}
use Rattle.mentions_cites.specs.Requests.{plain_cite, plain_requests, request_facts}
use Rattle.mentions_cites.specs.declared.mentions.ToldMention.{ToldMention}
use Rattle.mentions_cites.proofs.Triples.{seen-here, seen-there, triple-next}

module _ {E P : Type 0} (mentions : List ToldMention) (suffixes : List (Option ℕ)) (l : Listed) (eq : E → E → Bool) (entries listed : List E) (is : IsListingOf eq entries listed l) where
  of-request : (cs : List (RequestedCite E P)) (ns : List CiteNotes)
      → plain_cites_at mentions suffixes l cs (places_in eq entries cs) ns ≡ map (λ p. plain_cite mentions suffixes (place eq p.0.entry listed) p.0 p.1) (zip cs ns)
  of-request [] ns = refl
  of-request (c ∷ cs) [] = refl
  of-request (c ∷ cs) (n ∷ ns) = λ i. plain_cite mentions suffixes (is.numbered c.entry i) c n ∷ of-request cs ns i

  pub of-requests : (rs : List (Request E P)) (ns : List (List CiteNotes))
      → plain_requests_at mentions suffixes l rs (map (λ r. places_in eq entries r.cites) rs) ns ≡ plain_requests mentions suffixes eq listed rs ns
  of-requests [] ns = refl
  of-requests (r ∷ rs) [] = refl
  of-requests (r ∷ rs) (n ∷ ns) = λ i. record { facts = request_facts r; cites = of-request r.cites n i } ∷ of-requests rs ns i

module _ {E P : Type 0} (mentions : List ToldMention) (suffixes : List (Option ℕ)) (l : Listed) (k : ℕ) where
  -- one more cite of a request
  pub cite-next : {X Z : Type 0} (seen : X → RequestedCite E P) (view : Z → PlainCite (LocatorValue P)) (items : List X) (places : List ℕ) (notes : List CiteNotes) (item : X) (p q : ℕ) (n m : CiteNotes) (entry : ℕ)
      → k < length items → k < length places → k < length notes → item ≡ get_or items k item → p ≡ get_or places k q → n ≡ get_or notes k m → entry ≡ index_at l p
      → (found all : List Z) (one : Z) → map view found ≡ map (λ p. plain_cite mentions suffixes (index_at l p.0.1) p.0.0 p.1) (take k (zip (zip (map seen items) places) notes))
      → all ≡ found ++ one ∷ [] → view one ≡ plain_cite mentions suffixes entry (seen item) n
      → map view all ≡ map (λ p. plain_cite mentions suffixes (index_at l p.0.1) p.0.0 p.1) (take (k + 1) (zip (zip (map seen items) places) notes))
  cite-next seen view items places notes item p q n m entry v w u is_item is_place is_note is_entry found all one so_far pushed is =
      triple-next (map seen items) places notes k view (λ p. plain_cite mentions suffixes (index_at l p.0.1) p.0.0 p.1) (seen item) p n (seen-there seen items k v) w u
      (seen-here seen items k item is_item) (is_place ∙ get_or_default places k q p w) (is_note ∙ get_or_default notes k m n u) found all one so_far pushed
      (is ∙ (λ i. plain_cite mentions suffixes (is_entry i) (seen item) n))

  -- one more request
  pub request-next : {X Y N Z : Type 0} (seen : X → Request E P) (rows : Y → List ℕ) (lists : N → List CiteNotes) (view : Z → Arranged (PlainCite (LocatorValue P))) (requests : List X) (places : List Y)
      (notes : List N) (r : X) (p : Y) (n : N) (row : List ℕ) (known : List CiteNotes)
      → k < length requests → k < length places → k < length notes → r ≡ get_or requests k r → p ≡ get_or places k p → n ≡ get_or notes k n → row ≡ rows p → known ≡ lists n
      → (found all : List Z) (one : Z) → map view found ≡ map (λ p. plain_request_at mentions suffixes l p.0.0 p.0.1 p.1) (take k (zip (zip (map seen requests) (map rows places)) (map lists notes)))
      → all ≡ found ++ one ∷ [] → view one ≡ plain_request_at mentions suffixes l (seen r) row known
      → map view all ≡ map (λ p. plain_request_at mentions suffixes l p.0.0 p.0.1 p.1) (take (k + 1) (zip (zip (map seen requests) (map rows places)) (map lists notes)))
  request-next seen rows lists view requests places notes r p n row known v w u is_request is_place is_note is_row is_known found all one so_far pushed is =
      triple-next (map seen requests) (map rows places) (map lists notes) k view (λ p. plain_request_at mentions suffixes l p.0.0 p.0.1 p.1) (seen r) (rows p) (lists n)
      (seen-there seen requests k v) (seen-there rows places k w) (seen-there lists notes k u) (seen-here seen requests k r is_request) (seen-here rows places k p is_place)
      (seen-here lists notes k n is_note) found all one so_far pushed (is ∙ (λ i. plain_request_at mentions suffixes l (seen r) (is_row i) (is_known i)))
