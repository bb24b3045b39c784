-- Where no cite of a request repeats another, all is by what mentions show.
use Rattle.std.proofs.Common.{◌≡◌, ℕ, ◌+◌, Bool, true, false, Option, None, List, [], ◌∷◌, length, map, refl, ap, ◌∙◌, arith}
use Rattle.std.specs.Prelude.{if◌then◌else◌, slice_get, zip}
use Rattle.std.specs.List.{AllZip, enumerate_from}
use Rattle.std.specs.Option.{option_and_then}
use Rattle.std.proofs.lemmas.List.Elements.{All-head, All-tail}
use Rattle.mentions_arranging.specs.Order.{final_request}
use Rattle.mentions_arranging.specs.Repeating.{all_repeated, first_repeated, is_looked_at, repeated_at, repeated_where}
use Rattle.mentions_arranging.specs.Requests.{Request as Arranged}
use Rattle.mentions_arranging.specs.declared.repeating.Repeated.{Repeated}
use Rattle.mentions_arranging.specs.declared.request.FinalCite.{FinalCite}
use Rattle.mentions_arranging.specs.declared.request.RequestedCite.{RequestedCite as PlainCite}
use Rattle.mentions_arranging.specs.declared.request.Shown.{Shown}
use Rattle.mentions_notes.specs.declared.repeats.Position.{Position}
use Rattle.mentions_tables.specs.Steps.{all_changed}
use Rattle.mentions_cites.specs.Repeats.{cites_with_shown, with_first_key, with_shown}
use Rattle.mentions_laws.proofs.Standing.{shown_row}
use Rattle.mentions_laws.specs.Cites.{IsByMentionsAlone, NoneRepeats}

abbrev IsNone : Position → Type 0
IsNone p = p ≡ Position.Different

module _ {L : Type 0} (shows : ℕ × Option Repeated → Option Shown) (none : (k : ℕ) → shows (k, None) ≡ None) where
  none-repeated : (looked : Bool) (c : PlainCite L) (p : Position) → p ≡ Position.Different → repeated_where looked (c, p) ≡ None
  none-repeated looked c p e = ap (λ q. repeated_where looked (c, q)) e ∙ by looked
    where
      by : (b : Bool) → (if b then repeated_at c Position.Different else None) ≡ None
      by true = refl
      by false = refl

  first-none : (r : Arranged (PlainCite L)) (ps : List Position) → NoneRepeats ps → first_repeated (r, ps) ≡ None
  first-none r ps h = by r.cites ps h
    where
      by : (cs : List (PlainCite L)) (ps : List Position) → NoneRepeats ps → option_and_then (repeated_where (is_looked_at r.facts (length r.cites))) (slice_get (zip cs ps) 0) ≡ None
      by [] ps h = refl
      by (c ∷ cs) [] h = refl
      by (c ∷ cs) (p ∷ ps) h = none-repeated (is_looked_at r.facts (length r.cites)) c p (All-head IsNone p ps h)

  row-same : (looked : Bool) (k : ℕ) (fs : List (FinalCite L)) (ps : List Position) → NoneRepeats ps
      → all_changed with_shown (map shows (enumerate_from k (map (λ c. repeated_where looked (c.0.cite, c.1)) (zip fs ps)))) fs ≡ fs
  row-same looked k [] ps h = refl
  row-same looked k (f ∷ fs) [] h = refl
  row-same looked k (f ∷ fs) (p ∷ ps) h =
      let own : with_shown (shows (k, repeated_where looked (f.cite, p))) f ≡ f = ap (λ o. with_shown (shows (k, o)) f) (none-repeated looked f.cite p (All-head IsNone p ps h)) ∙ ap (λ o. with_shown o f) (none k) in
      λ i. own i ∷ row-same looked (k + 1) fs ps (All-tail IsNone p ps h) i

  pub rows-alone : (k : ℕ) (plains : List (Arranged (PlainCite L))) (hs ps : List (List Position)) → length hs ≡ length plains → length ps ≡ length plains
      → let finals = map final_request (all_changed with_first_key (map shows (enumerate_from k (map first_repeated (zip plains hs)))) plains) in
      AllZip IsByMentionsAlone (zip plains hs) (zip (all_changed cites_with_shown (map (shown_row shows) (map all_repeated (zip finals ps))) finals) ps)
  rows-alone k [] [] [] a b = tt
  rows-alone k [] [] (p ∷ ps) a b = absurd (omega (arith, b))
  rows-alone k [] (h ∷ hs) ps a b = absurd (omega (arith, a))
  rows-alone k (r ∷ rs) [] ps a b = absurd (omega (arith, a))
  rows-alone k (r ∷ rs) (h ∷ hs) [] a b = absurd (omega (arith, b))
  rows-alone k (r ∷ rs) (h ∷ hs) (p ∷ ps) a b = (
    (λ handed ordered.
        let final : Arranged (FinalCite L) = final_request (with_first_key (shows (k, first_repeated (r, h))) r) in
        let keyed : with_first_key (shows (k, first_repeated (r, h))) r ≡ r = ap (λ o. with_first_key (shows (k, o)) r) (first-none r h handed) ∙ ap (λ o. with_first_key o r) (none k) in
        ap (λ cs. record { facts = final.facts; cites = cs }) (row-same (is_looked_at final.facts (length final.cites)) 0 final.cites p ordered) ∙ ap final_request keyed),
    rows-alone (k + 1) rs hs ps (omega (arith, a)) (omega (arith, b)),
  )
