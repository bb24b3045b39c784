-- The classes of cites, of which those are kept that cite different entries.
use Rattle.std.proofs.Common.{◌≡◌, ℕ, ◌+◌, Bool, true, false, cond, Option, Some, None, List, [], ◌∷◌, ◌++◌, length, map, filter, refl, ap, sym, subst, ◌∙◌, append-nil, append_assoc, arith}
use Rattle.std.specs.Prelude.{All, IsSome, bytes_eq, option_map, slice_get}
use Rattle.std.specs.List.{AllByRecursion, enumerate_from, flat_map}
use Rattle.std.specs.Option.{option_and_then}
use Rattle.std.proofs.lemmas.List.{length-append}
use Rattle.std.proofs.lemmas.List.Elements.{All-cons}
use Rattle.driver_passes.specs.Places.{AreDistinct, IsPlace, cite_at}
use Rattle.driver_passes.specs.Renders.{CiteRender, ItemRender, Place}
use Rattle.driver_passes.specs.Request.{Request}
use Rattle.rounds_ambiguity.specs.Ambiguity.{ambiguous_groups, cite_different, class_of, classes, seconds, without_suffix}
use Rattle.rounds_ambiguity.specs.Members.{Member, document, member_at, members, one_or_none, place_of, request_cites, state_of, shown_text}
use Rattle.driver_lookup.specs.States.{may_get_suffix}
use Rattle.rounds_ambiguity.proofs.Apart.{classes-apart}
use Rattle.rounds_ambiguity.proofs.Distinct.{all-filter}

all-append : {X : Type 0} (Q : X → Type 0) (xs ys : List X) → AllByRecursion Q xs → AllByRecursion Q ys → AllByRecursion Q (xs ++ ys)
all-append Q [] ys h k = k
all-append Q (x ∷ xs) ys h k = (h.0, all-append Q xs ys h.1 k)

-- what stands after some others
pub after : {X : Type 0} (xs : List X) (y : X) (ys : List X) → slice_get (xs ++ y ∷ ys) (length xs) ≡ Some y
after [] y ys = refl
after (x ∷ xs) y ys = after xs y ys

module _ {E P : Type 0} (cites : List (CiteRender E P)) where
  -- the cite stands at its place
  abbrev pub StandsThere : Member E P → Type 0
  StandsThere m = member_at cites m.place ≡ Some m

  cite-stands : (r k : ℕ) (c : CiteRender E P) (i : ItemRender E P) → slice_get cites r ≡ Some c → slice_get c.items k ≡ Some i
      → member_at cites (r, k) ≡ Some (record { place = (r, k); item = i; style = c.request.style })
  cite-stands r k c i at there =
      let with_request : CiteRender E P → ItemRender E P → Request E P × ItemRender E P = λ x j. (x.request, j) in
      let found : cite_at cites (r, k) ≡ Some (c.request, i) =
      ap (option_and_then (λ x. option_map (with_request x) (slice_get x.items k))) at ∙ ap (option_map (with_request c)) there in
      ap (option_map (λ (x : Request E P × ItemRender E P). record { place = (r, k); item = x.1; style = x.0.style })) found

  cites-stand : (r : ℕ) (c : CiteRender E P) (before items : List (ItemRender E P)) → slice_get cites r ≡ Some c → c.items ≡ before ++ items
      → AllByRecursion StandsThere (map (λ p. record { place = (r, p.0); item = p.1; style = c.request.style }) (enumerate_from (length before) items))
  cites-stand r c before [] at e = tt
  cites-stand r c before (i ∷ is) at e =
      let there : slice_get c.items (length before) ≡ Some i = ap (λ xs. slice_get xs (length before)) e ∙ after before i is in
      let rest : AllByRecursion StandsThere (map (λ p. record { place = (r, p.0); item = p.1; style = c.request.style }) (enumerate_from (length before + 1) is)) =
      subst (λ n. AllByRecursion StandsThere (map (λ p. record { place = (r, p.0); item = p.1; style = c.request.style }) (enumerate_from n is))) (length-append before (i ∷ []))
      (cites-stand r c (before ++ i ∷ []) is at (e ∙ sym (append_assoc before (i ∷ []) is))) in
      (cite-stands r (length before) c i at there, rest)

  pub document-stands : (before cs : List (CiteRender E P)) → cites ≡ before ++ cs → AllByRecursion StandsThere (flat_map (λ p. request_cites p.0 p.1) (enumerate_from (length before) cs))
  document-stands before [] e = tt
  document-stands before (c ∷ cs) e =
      let there : slice_get cites (length before) ≡ Some c = ap (λ xs. slice_get xs (length before)) e ∙ after before c cs in
      all-append StandsThere (request_cites (length before) c) (flat_map (λ p. request_cites p.0 p.1) (enumerate_from (length before + 1) cs))
      (cites-stand (length before) c [] c.items there refl)
      (subst (λ n. AllByRecursion StandsThere (flat_map (λ p. request_cites p.0 p.1) (enumerate_from n cs))) (length-append before (c ∷ []))
      (document-stands (before ++ c ∷ []) cs (e ∙ sym (append_assoc before (c ∷ []) cs))))

  pub classes-stand : AllByRecursion (AllByRecursion StandsThere) (classes (without_suffix (document cites)))
  classes-stand = by (seconds (without_suffix (document cites)))
    where
      by : (ms : List (Member E P)) → AllByRecursion (AllByRecursion StandsThere) (map (λ m. class_of (without_suffix (document cites)) (shown_text m)) ms)
      by [] = tt
      by (m ∷ ms) = (
        all-filter StandsThere (λ x. bytes_eq (shown_text m) (shown_text x)) (without_suffix (document cites))
            (all-filter StandsThere (λ x. may_get_suffix (state_of x)) (document cites) (document-stands [] cites refl)),
        by ms,
      )

  -- the cites at the places of cites that stand there
  pub members-there : (ms : List (Member E P)) → AllByRecursion StandsThere ms → members cites (map place_of ms) ≡ ms
  members-there [] h = refl
  members-there (m ∷ ms) h = by (member_at cites m.place) h.0 (members-there ms h.1)
    where
      by : (o : Option (Member E P)) → o ≡ Some m → members cites (map place_of ms) ≡ ms → one_or_none o ++ members cites (map place_of ms) ≡ m ∷ ms
      by None e k = cc
      by (Some n) e k =
          let same : n ≡ m = cc in
          λ i. same i ∷ k i

  are-places : (ms : List (Member E P)) → AllByRecursion StandsThere ms → All (IsPlace cites) (map place_of ms)
  are-places [] h = λ k d within. absurd (omega (arith, within))
  are-places (m ∷ ms) h = All-cons (IsPlace cites) m.place (map place_of ms) (by (cite_at cites m.place) h.0) (are-places ms h.1)
    where
      by : (o : Option (Request E P × ItemRender E P)) → option_map (λ c. record { place = m.place; item = c.1; style = c.0.style }) o ≡ Some m → IsSome o
      by None e = cc
      by (Some c) e = refl

  places-exist : (cs : List (List (Member E P))) → AllByRecursion (AllByRecursion StandsThere) cs → AllByRecursion (λ c. All (IsPlace cites) (map place_of c)) cs
  places-exist [] h = tt
  places-exist (c ∷ cs) h = (are-places c h.0, places-exist cs h.1)

  module _ (eq : E → E → Bool) where
    -- the cites at these places cite different entries
    abbrev pub differ : List Place → Bool
    differ ps = cite_different eq (members cites ps)

    -- the groups that were made, and the classes that are left
    pub record IsSifted (made left : List (List Place)) : Type 0 where
      pub groups : made ++ filter differ left ≡ ambiguous_groups eq cites
      pub exist : AllByRecursion (All (IsPlace cites)) left

    sifted-classes : (cs : List (List (Member E P))) → AllByRecursion (AllByRecursion StandsThere) cs
        → (filter differ (map (map place_of) cs) ≡ map (map place_of) (filter (cite_different eq) cs)) × AllByRecursion (All (IsPlace cites)) (map (map place_of) cs)
    sifted-classes [] h = (refl, tt)
    sifted-classes (c ∷ cs) h =
        let rest = sifted-classes cs h.1 in
        let same : differ (map place_of c) ≡ cite_different eq c = ap (cite_different eq) (members-there c h.0) in
        (by (differ (map place_of c)) (cite_different eq c) same rest.0, (are-places c h.0, rest.1))
      where
        by : (a b : Bool) → a ≡ b → filter differ (map (map place_of) cs) ≡ map (map place_of) (filter (cite_different eq) cs)
            → cond a (map place_of c ∷ filter differ (map (map place_of) cs)) (filter differ (map (map place_of) cs))
            ≡ map (map place_of) (cond b (c ∷ filter (cite_different eq) cs) (filter (cite_different eq) cs))
        by true true e k = ap (λ t. map place_of c ∷ t) k
        by false false e k = k
        by true false e k = cc
        by false true e k = cc

    pub sift-start : (made left : List (List Place)) → made ≡ [] → left ≡ map (map place_of) (classes (without_suffix (document cites))) → IsSifted made left
    sift-start made left none all =
        let s = sifted-classes (classes (without_suffix (document cites))) classes-stand in
        record {
          groups = ap (λ gs. gs ++ filter differ left) none ∙ ap (filter differ) all ∙ s.0;
          exist = subst (AllByRecursion (All (IsPlace cites))) (sym all) s.1;
        }

    module _ (made left later : List (List Place)) (c : List Place) (split : left ≡ c ∷ later) (h : IsSifted made left) where
      pub next-exists : All (IsPlace cites) c
      next-exists = (subst (AllByRecursion (All (IsPlace cites))) split h.exist).0

      pub sift-more : (more : List (List Place)) → more ≡ made ++ cond (differ c) (c ∷ []) [] → IsSifted more later
      sift-more more e = record {
        groups = ap (λ gs. gs ++ filter differ later) e ∙ by (differ c) ∙ ap (λ gs. made ++ filter differ gs) (sym split) ∙ h.groups;
        exist = (subst (AllByRecursion (All (IsPlace cites))) split h.exist).1;
      }
        where
          by : (b : Bool) → (made ++ cond b (c ∷ []) []) ++ filter differ later ≡ made ++ cond b (c ∷ filter differ later) (filter differ later)
          by true = append_assoc made (c ∷ []) (filter differ later)
          by false = append_assoc made [] (filter differ later)

    pub sift-end : (made left : List (List Place)) → left ≡ [] → IsSifted made left → made ≡ ambiguous_groups eq cites
    sift-end made left none h = sym (append-nil made) ∙ ap (λ gs. made ++ filter differ gs) (sym none) ∙ h.groups

    -- what holds of the places of each class holds of those of each group
    module _ (Q : List Place → Type 0) (h : AllByRecursion (λ c. Q (map place_of c)) (classes (without_suffix (document cites)))) where
      of-places : (cs : List (List (Member E P))) → AllByRecursion (λ c. Q (map place_of c)) cs → AllByRecursion Q (map (map place_of) cs)
      of-places [] k = tt
      of-places (c ∷ cs) k = (k.0, of-places cs k.1)

      each-group : {V : Type 0} (items : V → List Place) (vs : List V) → map items vs ≡ ambiguous_groups eq cites → All (λ v. Q (items v)) vs
      each-group {V} items vs same =
          let all = classes (without_suffix (document cites)) in
          let kept = filter (cite_different eq) all in
          by vs (subst (AllByRecursion Q) (sym same) (of-places kept (all-filter (λ c. Q (map place_of c)) (cite_different eq) all h)))
        where
          by : (ws : List V) → AllByRecursion Q (map items ws) → All (λ v. Q (items v)) ws
          by [] k = λ n d within. absurd (omega (arith, within))
          by (w ∷ ws) k = All-cons (λ v. Q (items v)) w ws k.0 (by ws k.1)

    -- the cites of the groups exist
    pub groups-exist : {V : Type 0} (items : V → List Place) (vs : List V) → map items vs ≡ ambiguous_groups eq cites → All (λ v. All (IsPlace cites) (items v)) vs
    groups-exist items vs same = each-group (All (IsPlace cites)) (places-exist _ classes-stand) items vs same

    -- no place stands twice in a group
    pub groups-distinct : {V : Type 0} (items : V → List Place) (vs : List V) → map items vs ≡ ambiguous_groups eq cites → All (λ v. AreDistinct (items v)) vs
    groups-distinct items vs same = each-group AreDistinct (classes-apart cites) items vs same
