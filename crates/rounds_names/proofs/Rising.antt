-- Name marks: no form falls in them.
use Rattle.std.proofs.Common.{◌≡◌, ℕ, zero, suc, ◌≤◌, Bool, true, false, ◌&&◌, List, [], ◌∷◌, Option, None, Some, filter, option_map, refl, sym, ap, subst, ◌∙◌, arith}
use Rattle.std.specs.Prelude.{All, Contains, fold, if◌then◌else◌, unwrap_or, slice_get, slice_set}
use Rattle.std.specs.List.{cons_option, filter_map, flat_map, list_any}
use Rattle.std.proofs.lemmas.List.Elements.{All-cons, All-contains_itself, All-nil}
use Rattle.value_sources.specs.Forms.{Forms, add_name, form_written}
use Rattle.value_sources.specs.Ordered.{extent}
use Rattle.value_sources.specs.declared.entry.Person.{Person}
use Rattle.value_sources.specs.declared.names.DisambiguatedNameForm.{DisambiguatedNameForm}
use Rattle.value_sources.specs.declared.names.NameDisambiguationProperties.{NameDisambiguationProperties}
use Rattle.driver_lookup.specs.GoingOn.{GoesOn, GoesOnTo, NoFormFalls}
use Rattle.driver_lookup.specs.States.{may_get_names}
use Rattle.driver_lookup.specs.declared.state.DisambiguateState.{DisambiguateState}
use Rattle.driver_passes.specs.Places.{cite_at}
use Rattle.driver_passes.specs.Renders.{CiteRender, ItemRender, Place}
use Rattle.driver_passes.specs.Request.{Request}
use Rattle.rounds_names.specs.MarkLaws.{IsNameMark, NameMarksGoOn}
use Rattle.rounds_names.specs.NamedCites.{first_adds_names, greatest_step, named_cite, named_cite_at, named_cites, start}
use Rattle.rounds_names.specs.NameMarks.{after_step, is_by_cite, mark, marks_after, name_marks}
use Rattle.rounds_names.specs.Raising.{fuller, is_namesake, raise, raised, raised_at, same_initials}
use Rattle.rounds_names.specs.Steps.{is_own_step, others, step, steps}
use Rattle.rounds_names.specs.declared.named_cite.NamedCite.{NamedCite}

written-rises : (f : DisambiguatedNameForm) → extent f ≤ extent (form_written f)
written-rises DisambiguatedNameForm.Count = omega arith
written-rises DisambiguatedNameForm.Short = omega arith
written-rises DisambiguatedNameForm.LongInitialized = omega arith
written-rises DisambiguatedNameForm.LongFull = omega arith

fuller-rises : (p : Person) (qs : List Person) (f : DisambiguatedNameForm) → extent f ≤ 2 → extent f ≤ extent (fuller p qs f)
fuller-rises p [] f h = omega arith
fuller-rises p (q ∷ qs) f h = by (list_any (same_initials p) (q ∷ qs))
  where
    by : (b : Bool) → extent f ≤ extent (if b then DisambiguatedNameForm.LongFull else DisambiguatedNameForm.LongInitialized)
    by true = omega arith
    by false = omega arith

raised-rises : (p : Person) (qs : List Person) (f : DisambiguatedNameForm) → extent f ≤ extent (raised p qs f)
raised-rises p qs DisambiguatedNameForm.Count = omega arith
raised-rises p qs DisambiguatedNameForm.LongFull = omega arith
raised-rises p qs DisambiguatedNameForm.Short = fuller-rises p (filter (is_namesake p) qs) DisambiguatedNameForm.Short (omega arith)
raised-rises p qs DisambiguatedNameForm.LongInitialized = fuller-rises p (filter (is_namesake p) qs) DisambiguatedNameForm.LongInitialized (omega arith)

stays : (fs : Forms) → NoFormFalls fs fs
stays [] = tt
stays (f ∷ fs) = (omega arith, stays fs)

-- one form, if there is one, made no lower
one-rises : (change : DisambiguatedNameForm → DisambiguatedNameForm) → ((f : DisambiguatedNameForm) → extent f ≤ extent (change f)) → (fs : Forms) (i : ℕ)
    → NoFormFalls fs (unwrap_or (option_map (λ f. slice_set fs i (change f)) (slice_get fs i)) fs)
one-rises change h fs i = by (slice_get fs i) refl
  where
    put : (gs : Forms) (i : ℕ) (f : DisambiguatedNameForm) → slice_get gs i ≡ Some f → NoFormFalls gs (slice_set gs i (change f))
    put [] i f e = cc
    put (g ∷ gs) zero f e = let same : g ≡ f = cc in (subst (λ x. extent x ≤ extent (change f)) (sym same) (h f), stays gs)
    put (g ∷ gs) (suc i) f e = (omega arith, put gs i f e)

    by : (o : Option DisambiguatedNameForm) → slice_get fs i ≡ o → NoFormFalls fs (unwrap_or (option_map (λ f. slice_set fs i (change f)) o) fs)
    by None e = stays fs
    by (Some f) e = put fs i f e

add-rises : (i : ℕ) (fs : Forms) → NoFormFalls fs (add_name i fs)
add-rises zero fs = stays fs
add-rises (suc i) fs = one-rises form_written written-rises fs i

raise-rises : (group : List NamedCite) (x : NamedCite) (i : ℕ) (fs : Forms) → NoFormFalls fs (raise group x i fs)
raise-rises group x zero fs = stays fs
raise-rises group x (suc i) fs = by (slice_get x.persons i)
  where
    by : (o : Option Person) → NoFormFalls fs (raised_at i o (flat_map (λ y. y.persons) (others group x)) fs)
    by None = stays fs
    by (Some p) = one-rises (raised p (flat_map (λ y. y.persons) (others group x))) (raised-rises p (flat_map (λ y. y.persons) (others group x))) fs i

abbrev Names : Forms → DisambiguateState
Names fs = DisambiguateState.NameDisambiguation (record { forms = fs })

module _ (law : GoesOn) where
  on : (a b c : Forms) → NoFormFalls a b → NoFormFalls b c → NoFormFalls a c
  on a b c p q = law.1 (Names a) (Names b) (Names c) p q

  module _ (group : List NamedCite) (x : NamedCite) (own : Option ℕ) where
    step-rises : (fs : Forms) (i : ℕ) → NoFormFalls fs (after_step group x own fs i)
    step-rises fs i = by (is_by_cite x.rule && is_own_step i own)
      where
        by : (b : Bool) → NoFormFalls fs (add_name i (if b then raise group x i fs else fs))
        by true = on fs (raise group x i fs) (add_name i (raise group x i fs)) (raise-rises group x i fs) (add-rises i (raise group x i fs))
        by false = add-rises i fs

    steps-rise : (is : List ℕ) (fs : Forms) → NoFormFalls fs (fold (after_step group x own) fs is)
    steps-rise [] fs = stays fs
    steps-rise (i ∷ is) fs =
        on fs (after_step group x own fs i) (fold (after_step group x own) (after_step group x own fs i) is) (step-rises fs i) (steps-rise is (after_step group x own fs i))

-- a state from which names are written goes on to what is written
record HasRoom (s m : DisambiguateState) : Type 0 where
  room : may_get_names s ≡ true
  goes_on : GoesOnTo s m

from-start : (s : DisambiguateState) (first : Option NameDisambiguationProperties) (begun : NameDisambiguationProperties) (fs : Forms) → start s first ≡ Some begun → NoFormFalls begun.forms fs → HasRoom s (Names fs)
from-start DisambiguateState.None first begun fs e h = record { room = refl; goes_on = omega arith }
from-start (DisambiguateState.NameDisambiguation forms) first begun fs e h =
    let same : begun ≡ forms = cc in
    record { room = refl; goes_on = subst (λ f. NoFormFalls f.forms fs) same h }
from-start DisambiguateState.Choose first begun fs e h = cc
from-start (DisambiguateState.YearSuffix suffix) first begun fs e h = cc

module _ {E P : Type 0} (cites : List (CiteRender E P)) (places : List Place) where
  -- a member of the group, from the cite at its place
  record IsNamed (x : NamedCite) : Type 0 where
    in_group : Contains places x.place
    cite : Request E P × ItemRender E P
    stands_there : cite_at cites x.place ≡ Some cite
    own : x ≡ named_cite x.place cite.0 cite.1

  named : (p : Place) → Contains places p → (x : NamedCite) → named_cite_at cites p ≡ Some x → IsNamed x
  named p inside x e = by (cite_at cites p) refl e
    where
      by : (o : Option (Request E P × ItemRender E P)) → cite_at cites p ≡ o → option_map (λ (c : Request E P × ItemRender E P). named_cite p c.0 c.1) o ≡ Some x → IsNamed x
      by None q h = cc
      by (Some c) q h =
          let same : named_cite p c.0 c.1 ≡ x = cc in
          let there : p ≡ x.place = ap (λ y. y.place) same in
          record {
            in_group = subst (Contains places) there inside;
            cite = c;
            stands_there = subst (λ r. cite_at cites r ≡ Some c) there q;
            own = sym same ∙ ap (λ r. named_cite r c.0 c.1) there;
          }

  -- of what is found member by member
  found-all : {X Y : Type 0} (P : X → Type 0) (Q : Y → Type 0) (h : X → Option Y) → ((x : X) → P x → (y : Y) → h x ≡ Some y → Q y) → (xs : List X) → All P xs → All Q (filter_map h xs)
  found-all P Q h each [] all = All-nil Q
  found-all P Q h each (x ∷ xs) all = by (h x) refl (found-all P Q h each xs (λ k d w. all (suc k) d (omega (arith, w))))
    where
      by : (o : Option _) → h x ≡ o → All Q (filter_map h xs) → All Q (cons_option o (filter_map h xs))
      by None e rest = rest
      by (Some y) e rest = All-cons Q y (filter_map h xs) (each x (all 0 x (omega arith)) y e) rest

  all-named : All IsNamed (named_cites cites places)
  all-named = found-all (Contains places) IsNamed (named_cite_at cites) (λ p inside x e. named p inside x e) places (All-contains_itself places)

  module _ (law : GoesOn) (group : List NamedCite) (is : List ℕ) where
    mark-goes-on : (x : NamedCite) (own : Option ℕ) → IsNamed x → (m : Place × DisambiguateState) → mark group is x own ≡ Some m → IsNameMark cites places m
    mark-goes-on x own n m e = by x.start refl e
      where
        by : (o : Option NameDisambiguationProperties) → x.start ≡ o
            → option_map (λ begun. (x.place, Names (fold (after_step group x own) begun.forms is))) o ≡ Some m → IsNameMark cites places m
        by None q h = cc
        by (Some begun) q h =
            let made : Place × DisambiguateState = (x.place, Names (fold (after_step group x own) begun.forms is)) in
            let same : made ≡ m = cc in
            let state = n.cite.1.properties.speculative.disambiguation in
            let from : start state n.cite.1.first_name ≡ Some begun = sym (ap (λ y. y.start) n.own) ∙ q in
            let r = from-start state n.cite.1.first_name begun (fold (after_step group x own) begun.forms is) from (steps-rise law group x own is begun.forms) in
            subst (IsNameMark cites places) same
            (record { in_group = n.in_group; cite = n.cite; stands_there = n.stands_there; may_be_named = r.room; goes_on = r.goes_on })

  after-go-on : (law : GoesOn) (group : List NamedCite) (is : List ℕ) (step_of : NamedCite → Option ℕ) → All IsNamed group → All (IsNameMark cites places) (marks_after group is step_of)
  after-go-on law group [] step_of all = All-nil (IsNameMark cites places)
  after-go-on law group (i ∷ is) step_of all =
      found-all IsNamed (IsNameMark cites places) (λ x. mark group (i ∷ is) x (step_of x)) (λ x n m e. mark-goes-on law group (i ∷ is) x (step_of x) n m e) group all

pub marks-go-on : GoesOn → {E P : Type 0} (cites : List (CiteRender E P)) (group : List Place) → NameMarksGoOn cites group
unfolding name_marks
marks-go-on law cites group =
    let found = named_cites cites group in
    let m = greatest_step (first_adds_names cites) found in
    after-go-on cites group law found (steps found m) (step found m) (all-named cites group)
