-- What is found for a mention is what tells it apart.
use Rattle.std.proofs.Common.{◌≡◌, ℕ, ◌+◌, ◌<◌, ◌≤◌, zero, suc, Bool, true, false, cond, ◌&&◌, Some, None, Option, List, [], ◌∷◌, ◌++◌, get_or, length, map, take, refl, ap, sym, subst, ◌∙◌, arith, inl, inr, ◌⊎◌}
use Rattle.std.specs.Prelude.{All, filter, option_map, slice_get, unwrap_or}
use Rattle.std.specs.List.{enumerate_from, range_with_len}
use Rattle.std.specs.Option.{option_and_then}
use Rattle.std.proofs.lemmas.Bool.{cases_lt, eqb-true, false≢true}
use Rattle.std.proofs.lemmas.List.{append_assoc, get_or-map, length-map, length_push}
use Rattle.std.proofs.lemmas.List.Elements.{All-cons, All-get_or, All-head, All-map, All-nil, All-tail}
use Rattle.std.proofs.lemmas.List.FromFn.{get_or-map-range_with_len, length-map-range_with_len}
use Rattle.std.proofs.lemmas.Option.{slice_get-get_or, slice_get_past}
use Rattle.list_lemmas.proofs.Stepping.{map-next}
use Rattle.value_sources.specs.Forms.{Forms}
use Rattle.value_sources.specs.declared.names.DisambiguatedNameForm.{DisambiguatedNameForm}
use Rattle.value_sources.specs.declared.names.NameDisambiguationProperties.{NameDisambiguationProperties}
use Rattle.mentions_names.specs.ByDocument.{document_form}
use Rattle.mentions_names.specs.Forms.{base, greater, greatest_form, raised_form, raised_forms, same_forms}
use Rattle.mentions_names.specs.Gathered.{IsGathered, needs, needs_on}
use Rattle.mentions_names.specs.Gathered.{asking as ways_asking}
use Rattle.mentions_names.specs.Persons.{own_forms}
use Rattle.mentions_names.specs.Raising.{form_needed_by, raised_by, raised_names}
use Rattle.mentions_names.specs.Reaches.{first_member, is_by_cite, reach, reach_by}
use Rattle.mentions_names.specs.Telling.{first_difference, form_against, form_beside, form_needed, greatest, group_of, in_one_group, names_against, names_needed}
use Rattle.mentions_names.specs.Told.{asking, least_form, told_by_names}
use Rattle.mentions_names.specs.Ways.{AllMade, AllMadeBy, way_of}
use Rattle.mentions_names.specs.declared.gathered.Gathered.{Gathered}
use Rattle.mentions_names.specs.declared.gathered.Needs.{Needs}
use Rattle.mentions_names.specs.declared.mention.NamedMention.{NamedMention}
use Rattle.mentions_names.specs.declared.reach.Reach.{Reach}
use Rattle.mentions_names.specs.declared.ways.Step.{Step}
use Rattle.mentions_names.specs.declared.ways.Way.{Way}
use Rattle.mentions_names.proofs.Counting.{greatest-short}
use Rattle.mentions_names.proofs.Differing.{is_place}
use Rattle.mentions_names.proofs.Needing.{needs-found}

-- of members with their places
enumerated-map : {X Y Z : Type 0} (f : ℕ × Y → Z) (v : X → Y) (a : ℕ) (xs : List X) → map f (enumerate_from a (map v xs)) ≡ map (λ p. f (p.0, v p.1)) (enumerate_from a xs)
enumerated-map f v a [] = refl
enumerated-map f v a (x ∷ xs) = ap (λ l. f (a, v x) ∷ l) (enumerated-map f v (a + 1) xs)

get-behind : {X : Type 0} (us : List X) (y : X) (ys : List X) (n : ℕ) → length us ≡ n → slice_get (us ++ y ∷ ys) n ≡ Some y
get-behind [] y ys zero h = refl
get-behind [] y ys (suc n) h = absurd (omega arith)
get-behind (u ∷ us) y ys zero h = absurd (omega arith)
get-behind (u ∷ us) y ys (suc n) h = get-behind us y ys n (omega arith)

enumerated-same : {X Y : Type 0} (f h : ℕ × X → Y) (us ys : List X) (n : ℕ) → length us ≡ n → ((k : ℕ) (x : X) → slice_get (us ++ ys) k ≡ Some x → f (k, x) ≡ h (k, x))
    → map f (enumerate_from n ys) ≡ map h (enumerate_from n ys)
enumerated-same f h us [] n l e = refl
enumerated-same f h us (y ∷ ys) n l e =
    let whole : (us ++ y ∷ []) ++ ys ≡ us ++ y ∷ ys = append_assoc us (y ∷ []) ys in
    let next : length (us ++ y ∷ []) ≡ n + 1 = omega (arith, length_push us y) in
    λ i. e n y (get-behind us y ys n l) i ∷ enumerated-same f h (us ++ y ∷ []) ys (n + 1) next (λ k x g. e k x (ap (λ l. slice_get l k) (sym whole) ∙ g)) i

-- names past the last one need nothing
past-short : (reaches : List Reach) (a : Reach) (i : ℕ) → slice_get a.looks i ≡ None → form_needed reaches a i ≡ DisambiguatedNameForm.Short
past-short reaches a i e = ap greatest_form (all-short (group_of reaches a)) ∙ greatest-short (group_of reaches a)
  where
    one : (b : Reach) (t : Bool) → cond t (form_beside (slice_get a.looks i) (slice_get b.looks i)) DisambiguatedNameForm.Short ≡ DisambiguatedNameForm.Short
    one b true = ap (λ o. form_beside o (slice_get b.looks i)) e
    one b false = refl

    all-short : (bs : List Reach) → map (form_against i a) bs ≡ map (λ b. DisambiguatedNameForm.Short) bs
    all-short [] = refl
    all-short (b ∷ bs) = λ t. one b (a.by_cite && is_place i (first_difference a.looks b.looks)) t ∷ all-short bs t

needed-there : (reaches : List Reach) (a : Reach) (i : ℕ) → form_needed_by (needs reaches a) i ≡ form_needed reaches a i
needed-there reaches a i = by (cases_lt i (length a.looks))
  where
    forms : Forms
    forms = map (form_needed reaches a) (range_with_len 0 (length a.looks))

    long : length forms ≡ length a.looks
    long = length-map-range_with_len (form_needed reaches a) 0 (length a.looks)

    by : (i < length a.looks) ⊎ (length a.looks ≤ i) → unwrap_or (slice_get forms i) DisambiguatedNameForm.Short ≡ form_needed reaches a i
    by (inl h) =
        ap (λ o. unwrap_or o DisambiguatedNameForm.Short) (slice_get-get_or forms i DisambiguatedNameForm.Short (omega (arith, long)))
        ∙ get_or-map-range_with_len (form_needed reaches a) 0 (length a.looks) i i DisambiguatedNameForm.Short h (omega arith)
    by (inr h) =
        ap (λ o. unwrap_or o DisambiguatedNameForm.Short) (slice_get_past forms i (omega (arith, long)))
        ∙ sym (past-short reaches a i (slice_get_past a.looks i h))

-- a mention in no group needs nothing
none-needed : (g : Gathered) (steps : List Step) (reaches : List Reach) (a : Reach) → a.group ≡ None → a.looks ≡ [] → needs_on g (way_of steps a) ≡ needs reaches a
none-needed g steps reaches a e l =
    (λ t. needs_on g (way_of steps (record { group = e t; by_cite = a.by_cite; looks = l t; occurs = a.occurs })))
    ∙ nothing
    ∙ sym (λ t. needs reaches (record { group = e t; by_cite = a.by_cite; looks = l t; occurs = a.occurs }))
  where
    plain : Reach
    plain = record { group = None; by_cite = a.by_cite; looks = []; occurs = a.occurs }

    alone : (bs : List Reach) → filter (λ b. in_one_group None b.group) bs ≡ []
    alone [] = refl
    alone (b ∷ bs) = alone bs

    nothing : needs_on g (way_of steps plain) ≡ needs reaches plain
    nothing = λ t. record { count = sym (ap (λ bs. greatest_against bs) (alone reaches)) t; forms = [] }
      where
        greatest_against : List Reach → ℕ
        greatest_against bs = greatest (map (names_against plain) bs)

-- what holds of all members holds of those that are kept
kept-all : {X : Type 0} (P : X → Type 0) (p : X → Bool) (xs : List X) → All P xs → All P (filter p xs)
kept-all P p [] all = All-nil P
kept-all P p (x ∷ xs) all = by (p x) (kept-all P p xs (All-tail P x xs all))
  where
    by : (b : Bool) → All P (filter p xs) → All P (cond b (x ∷ filter p xs) (filter p xs))
    by true rest = All-cons P x (filter p xs) (All-head P x xs all) rest
    by false rest = rest

-- the ways of the mentions that occur
asking-ways : (steps : List Step) (bs : List Reach) → ways_asking (map (way_of steps) bs) ≡ map (way_of steps) (filter (λ b. b.occurs) bs)
asking-ways steps [] = refl
asking-ways steps (b ∷ bs) = by b.occurs (asking-ways steps bs)
  where
    by : (o : Bool) → ways_asking (map (way_of steps) bs) ≡ map (way_of steps) (filter (λ b. b.occurs) bs)
        → cond o (way_of steps b ∷ ways_asking (map (way_of steps) bs)) (ways_asking (map (way_of steps) bs)) ≡ map (way_of steps) (cond o (b ∷ filter (λ b. b.occurs) bs) (filter (λ b. b.occurs) bs))
    by true rest = ap (λ ws. way_of steps b ∷ ws) rest
    by false rest = rest

module _ (ms : List NamedMention) where
  abbrev cited : Option NamedMention → Bool
  cited None = false
  cited (Some f) = is_by_cite f.rule

  by-first : (m : NamedMention) (o : Option NamedMention) → (reach_by ms m o).by_cite ≡ cited o
  by-first m None = refl
  by-first m (Some f) = refl

  own-group : (m : NamedMention) (o : Option NamedMention) → (reach_by ms m o).group ≡ m.group
  own-group m None = refl
  own-group m (Some f) = refl

  abbrev reaches : List Reach
  reaches = asking ms

  module _ (m : NamedMention) (steps : List Step) (made : All (AllMade steps) reaches) (g : Gathered) (known : IsGathered g (map (way_of steps) reaches)) (own : AllMade steps (reach ms m)) where
    abbrev a : Reach
    a = reach ms m

    in-its-group : (h : ℕ) → m.group ≡ Some h → needs_on g (way_of steps a) ≡ needs reaches a
    in-its-group h e =
        (λ t. needs_on g (way_of steps (record { group = is t; by_cite = a.by_cite; looks = a.looks; occurs = a.occurs })))
        ∙ needs-found steps reaches made g known h a.looks (subst (λ o. AllMadeBy steps o a.looks) is own) a.by_cite a.occurs alike
        ∙ sym (λ t. needs reaches (record { group = is t; by_cite = a.by_cite; looks = a.looks; occurs = a.occurs }))
      where
        is : a.group ≡ Some h
        is = own-group m (first_member ms m) ∙ e

        first-of : (x : NamedMention) (o : Option ℕ) → x.group ≡ o → in_one_group (Some h) o ≡ true → first_member ms x ≡ first_member ms m
        first-of x None k f = absurd (false≢true f)
        first-of x (Some j) k f =
            ap (option_and_then (slice_get ms)) (k ∙ ap Some (sym (eqb-true h j f)) ∙ sym e)

        alike : All (λ b. in_one_group (Some h) b.group ≡ true → b.by_cite ≡ a.by_cite) reaches
        alike =
            kept-all (λ b. in_one_group (Some h) b.group ≡ true → b.by_cite ≡ a.by_cite) (λ b. b.occurs) (map (reach ms) ms)
            (All-map (λ b. in_one_group (Some h) b.group ≡ true → b.by_cite ≡ a.by_cite) (reach ms) ms (each ms))
          where
            one : (x : NamedMention) → in_one_group (Some h) (reach ms x).group ≡ true → (reach ms x).by_cite ≡ a.by_cite
            one x f =
                by-first x (first_member ms x)
                ∙ ap cited (first-of x x.group refl (ap (in_one_group (Some h)) (sym (own-group x (first_member ms x))) ∙ f))
                ∙ sym (by-first m (first_member ms m))

            each : (xs : List NamedMention) → All (λ x. in_one_group (Some h) (reach ms x).group ≡ true → (reach ms x).by_cite ≡ a.by_cite) xs
            each [] = All-nil (λ x. in_one_group (Some h) (reach ms x).group ≡ true → (reach ms x).by_cite ≡ a.by_cite)
            each (x ∷ xs) = All-cons (λ y. in_one_group (Some h) (reach ms y).group ≡ true → (reach ms y).by_cite ≡ a.by_cite) x xs (one x) (each xs)

    pub needs-of : needs_on g (way_of steps a) ≡ needs reaches a
    needs-of = by m.group refl
      where
        by : (o : Option ℕ) → m.group ≡ o → needs_on g (way_of steps a) ≡ needs reaches a
        by None e = none-needed g steps reaches a (own-group m (first_member ms m) ∙ e) (ap (λ o. (reach_by ms m (option_and_then (slice_get ms) o)).looks) e)
        by (Some h) e = in-its-group h e

  pub names-raised : (m : NamedMention) → raised_names ms (needs reaches (reach ms m)) m
      ≡ raised_forms (own_forms m.names) (names_needed reaches (reach ms m)) (least_form ms m)
  names-raised m =
      enumerated-same _ _ [] m.names 0 refl (λ k x e. λ t. raised_form (base (own_forms m.names)) (names_needed reaches (reach ms m)) k
      (greater (sym (ap (λ o. unwrap_or (option_map (document_form ms m.rule k) o) DisambiguatedNameForm.Short) e) t) (needed-there reaches (reach ms m) k t)) x.own)
      ∙ sym (enumerated-map (λ p. raised_form (base (own_forms m.names)) (names_needed reaches (reach ms m)) p.0 (least_form ms m p.0) p.1) (λ n. n.own) 0 m.names)

  pub told-by : (m : NamedMention) → raised_by ms (needs reaches (reach ms m)) m ≡ told_by_names ms m
  told-by m = ap (λ forms. cond (same_forms forms (own_forms m.names)) None (Some (record { forms = forms }))) (names-raised m)

-- one mention more
pub found-next : (ms : List NamedMention) (steps : List Step) (g : Gathered) (ways : List Way) (k : ℕ) (m : NamedMention) (way : Way) (n : Needs) (t : Option NameDisambiguationProperties)
    (found all : List (Option NameDisambiguationProperties)) → k < length ms → m ≡ get_or ms k m → ways ≡ map (way_of steps) (map (reach ms) ms)
    → All (AllMade steps) (map (reach ms) ms) → IsGathered g (ways_asking ways) → way ≡ get_or ways k way → n ≡ needs_on g way → t ≡ raised_by ms n m
    → found ≡ map (told_by_names ms) (take k ms) → all ≡ found ++ t ∷ [] → all ≡ map (told_by_names ms) (take (k + 1) ms)
found-next ms steps g ways k m way n t found all within here are made known at_k is told so_far pushed =
    pushed ∙ (λ i. so_far i ++ own i ∷ []) ∙ sym (map-next ms k m within here (told_by_names ms))
  where
    h : k < length (map (reach ms) ms)
    h = subst (λ l. k < l) (sym (length-map ms (reach ms))) within

    own-reach : reach ms m ≡ get_or (map (reach ms) ms) k (reach ms m)
    own-reach = ap (reach ms) here ∙ sym (get_or-map (reach ms) ms k m (reach ms m) within)

    own-way : way ≡ way_of steps (reach ms m)
    own-way = at_k ∙ ap (λ l. get_or l k way) are ∙ get_or-map (way_of steps) (map (reach ms) ms) k (reach ms m) way h ∙ ap (way_of steps) (sym own-reach)

    own-made : AllMade steps (reach ms m)
    own-made = subst (AllMade steps) (sym own-reach) (All-get_or (AllMade steps) (map (reach ms) ms) k (reach ms m) h made)

    own : t ≡ told_by_names ms m
    own =
        told ∙ ap (λ x. raised_by ms x m) (is ∙ ap (needs_on g) own-way ∙ needs-of ms m steps (kept-all (AllMade steps) (λ b. b.occurs) (map (reach ms) ms) made) g
        (subst (IsGathered g) (ap ways_asking are ∙ asking-ways steps (map (reach ms) ms)) known) own-made)
        ∙ told-by ms m
