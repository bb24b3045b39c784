-- Members at distinct places stand apart.
use Rattle.std.proofs.Common.{◌≡◌, ◌<◌, ◌+◌, ◌++◌, ◌&&◌, ℕ, arith, Bool, true, false, Option, None, Some, List, [], ◌∷◌, refl, ap, subst, sym, ◌∙◌}
use Rattle.std.specs.Prelude.{nat_eq}
use Rattle.std.specs.Cmp.{unsigned_Decides}
use Rattle.std.specs.List.{AllByRecursion, IsDistinct, cons_option}
use Rattle.std.specs.Option.{option_map}
use Rattle.std.proofs.lemmas.Bool.{eqb-true}
use Rattle.std.proofs.lemmas.Map.Keys.{IsDistinct-cons, IsDistinct-head, IsDistinct-tail}
use Rattle.std.proofs.lemmas.Map.Made.{IsDistinct-from_AllPairs}
use Rattle.value_sources.specs.Finds.{Finds, decides, finds, pairs_find}
use Rattle.driver_passes.specs.Places.{AreDistinct, cite_at}
use Rattle.driver_passes.specs.Renders.{CiteRender, ItemRender, Place}
use Rattle.driver_passes.specs.Request.{Request}
use Rattle.rounds_names.specs.Classes.{StandApart}
use Rattle.rounds_names.specs.NamedCites.{named_cite, named_cite_at, named_cites}
use Rattle.rounds_names.specs.Steps.{same_place}
use Rattle.rounds_names.specs.declared.named_cite.NamedCite.{NamedCite}

pub places_find : Finds same_place
places_find = pairs_find (finds unsigned_Decides) (finds unsigned_Decides)

module _ {E P : Type 0} (cites : List (CiteRender E P)) where
  own-place : (p : Place) (m : NamedCite) → named_cite_at cites p ≡ Some m → m.place ≡ p
  own-place p m = by (cite_at cites p)
    where
      by : (o : Option (Request E P × ItemRender E P)) → option_map (λ cite. named_cite p cite.0 cite.1) o ≡ Some m → m.place ≡ p
      by None e = cc
      by (Some cite) e = let same : m ≡ named_cite p cite.0 cite.1 = cc in ap (λ x. x.place) same

  elsewhere : (p : Place) (ps : List Place) → AllByRecursion (λ q. same_place p q ≡ false) ps → AllByRecursion (λ x. same_place p x.place ≡ false) (named_cites cites ps)
  elsewhere p [] h = tt
  elsewhere p (q ∷ qs) h = by (named_cite_at cites q) (own-place q) (elsewhere p qs h.1)
    where
      by : (o : Option NamedCite) → ((m : NamedCite) → o ≡ Some m → m.place ≡ q) → AllByRecursion (λ x. same_place p x.place ≡ false) (named_cites cites qs)
          → AllByRecursion (λ x. same_place p x.place ≡ false) (cons_option o (named_cites cites qs))
      by None e rest = rest
      by (Some m) e rest = (ap (same_place p) (e m refl) ∙ h.0, rest)

  members-distinct : (ps : List Place) → IsDistinct same_place ps → StandApart (named_cites cites ps)
  unfolding IsDistinct
  members-distinct [] h = tt
  members-distinct (p ∷ ps) h =
      by (named_cite_at cites p) (own-place p) (elsewhere p ps (IsDistinct-head same_place p ps h)) (members-distinct ps (IsDistinct-tail same_place p ps h))
    where
      by : (o : Option NamedCite) → ((m : NamedCite) → o ≡ Some m → m.place ≡ p) → AllByRecursion (λ x. same_place p x.place ≡ false) (named_cites cites ps)
          → StandApart (named_cites cites ps) → StandApart (cons_option o (named_cites cites ps))
      by None e others rest = rest
      by (Some m) e others rest =
          IsDistinct-cons (λ x y. same_place x.place y.place) m (named_cites cites ps)
          (subst (λ q. AllByRecursion (λ x. same_place q x.place ≡ false) (named_cites cites ps)) (sym (e m refl)) others) rest

  pub members-apart : (ps : List Place) → AreDistinct ps → StandApart (named_cites cites ps)
  members-apart ps h = members-distinct ps (IsDistinct-from_AllPairs (decides places_find) ps h)

-- members apart, all in requests before this one
pub record StandBefore (r : ℕ) (group : List NamedCite) : Type 0 where
  pub apart : StandApart group
  pub before : AllByRecursion (λ x. x.place.0 < r) group

pub none-before : StandBefore 0 []
unfolding IsDistinct
none-before = record { apart = tt; before = tt }

other-request : (p q : Place) → (p.0 ≡ q.0 → ⊥) → same_place p q ≡ false
other-request p q h = by (nat_eq p.0 q.0) refl
  where
    by : (b : Bool) → nat_eq p.0 q.0 ≡ b → (b && nat_eq p.1 q.1) ≡ false
    by true e = absurd (h (eqb-true p.0 q.0 e))
    by false e = refl

pub one-after : (r : ℕ) (group : List NamedCite) (x : NamedCite) {all : List NamedCite} → all ≡ group ++ x ∷ [] → x.place ≡ (r, 0) → StandBefore r group → StandBefore (r + 1) all
one-after r group x e at h = subst (StandBefore (r + 1)) (sym e) (by group h.apart h.before)
  where
    one : AllByRecursion (λ y. y.place.0 < r + 1) (x ∷ [])
    one = (let same : x.place.0 ≡ r = ap (λ p. p.0) at in omega (arith, same), tt)

    unlike : (y : NamedCite) → y.place.0 < r → same_place y.place x.place ≡ false
    unlike y before = other-request y.place x.place (λ same. let own : x.place.0 ≡ r = ap (λ p. p.0) at in absurd (omega (arith, own, same, before)))

    apart : (y : NamedCite) (ys : List NamedCite) → y.place.0 < r → AllByRecursion (λ z. same_place y.place z.place ≡ false) ys
        → AllByRecursion (λ z. same_place y.place z.place ≡ false) (ys ++ x ∷ [])
    apart y [] before h = (unlike y before, tt)
    apart y (z ∷ zs) before h = (h.0, apart y zs before h.1)

    by : (ys : List NamedCite) → StandApart ys → AllByRecursion (λ y. y.place.0 < r) ys → StandBefore (r + 1) (ys ++ x ∷ [])
    by [] a b = record { apart = IsDistinct-cons (λ u v. same_place u.place v.place) x [] tt none-before.apart; before = one }
    by (y ∷ ys) a b =
        let rest = by ys (IsDistinct-tail (λ u v. same_place u.place v.place) y ys a) b.1 in
        record {
          apart = IsDistinct-cons (λ u v. same_place u.place v.place) y (ys ++ x ∷ [])
              (apart y ys b.0 (IsDistinct-head (λ u v. same_place u.place v.place) y ys a)) rest.apart;
          before = (let h = b.0 in omega (arith, h), rest.before);
        }

pub two-apart : (a b : NamedCite) (all : List NamedCite) → all ≡ a ∷ b ∷ [] → a.place ≡ (0, 0) → b.place ≡ (1, 0) → StandApart all
two-apart a b all e first second = (one-after 1 (a ∷ []) b e second (one-after 0 [] a refl first none-before)).apart
