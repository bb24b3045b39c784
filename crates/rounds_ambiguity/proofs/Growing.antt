-- The classes of cites as one more cite is added.
use Rattle.std.proofs.Common.{◌≡◌, ℕ, Bool, true, false, cond, Some, List, [], ◌∷◌, ◌++◌, length, map, get_or, refl, ap, sym, subst, ◌∙◌, append-nil}
use Rattle.std.specs.Prelude.{bytes_eq, string_bytes}
use Rattle.std.proofs.Math.ListN.{length-map, set}
use Rattle.std.proofs.lemmas.List.{map-append}
use Rattle.std.proofs.lemmas.Slice.Eq.{bytes_eq-Decides}
use Rattle.std.proofs.lemmas.List.Elements.{filter-append}
use Rattle.value_trees.specs.Tree.{plain}
use Rattle.driver_lookup.specs.States.{may_get_suffix}
use Rattle.driver_passes.specs.Renders.{ItemRender, Place}
use Rattle.rounds_ambiguity.specs.Ambiguity.{class_of, classes, seconds, without_suffix}
use Rattle.rounds_ambiguity.specs.ClassesSoFar.{Adds, AddsTo, AreClassesOf, JoinsGroup, MakesGroup, StartsClass, class_at, class_found, class_of_text, groups_in, texts}
use Rattle.rounds_ambiguity.specs.InRange.{HeapText}
use Rattle.rounds_ambiguity.specs.Members.{Member, place_of, state_of, shown_text}
use Rattle.rounds_ambiguity.specs.declared.classes.Class.{Class}
use Rattle.rounds_ambiguity.specs.declared.classes.Class.TheVariants.{Single, Group}
use Rattle.rounds_ambiguity.specs.declared.classes.Classes.{Classes}
use Rattle.rounds_ambiguity.proofs.Groups.{at, at-append, at-new, is_listed, one-grows, unlisted}
use Rattle.rounds_ambiguity.proofs.Seconds.{are-texts, are_two, bytes_laws, class-push, is_one, texts-push, two-not-alone}

module _ {E P : Type 0} where
  -- where the class of a text is found doesn't matter unless it is a group
  found-anywhere : (c : List (Member E P)) (i j : ℕ) → are_two c ≡ false → class_found c i ≡ class_found c j
  found-anywhere [] i j h = refl
  found-anywhere (m ∷ []) i j h = refl
  found-anywhere (m ∷ n ∷ ms) i j h = cc

  -- the places of those with a text
  abbrev places : List (Member E P) → List ℕ → List Place
  places cites t = map place_of (class_of cites t)

  groups-of-texts : (cites : List (Member E P)) → map (map place_of) (classes cites) ≡ map (places cites) (texts cites)
  groups-of-texts cites = by (seconds cites)
    where
      by : (ms : List (Member E P)) → map (map place_of) (map (λ m. class_of cites (shown_text m)) ms) ≡ map (places cites) (map shown_text ms)
      by [] = refl
      by (m ∷ ms) = ap (λ t. places cites (shown_text m) ∷ t) (by ms)

module _ {E P : Type 0} (cites : List (Member E P)) (m : Member E P) (text : HeapText) (e : shown_text m ≡ string_bytes text) where
  abbrev t : List ℕ
  t = string_bytes text

  abbrev more : List (Member E P)
  more = cites ++ m ∷ []

  class-more : (u : List ℕ) → class_of more u ≡ class_of cites u ++ cond (bytes_eq u t) (m ∷ []) []
  class-more u = class-push cites m u ∙ ap (λ s. class_of cites u ++ cond (bytes_eq u s) (m ∷ []) []) e

  texts-more : texts more ≡ texts cites ++ cond (is_one (class_of cites t)) (t ∷ []) []
  texts-more = texts-push cites m ∙ ap (λ s. texts cites ++ cond (is_one (class_of cites s)) (s ∷ []) []) e

  places-more : (u : List ℕ) → places more u ≡ places cites u ++ cond (bytes_eq u t) (m.place ∷ []) []
  places-more u = ap (map place_of) (class-more u) ∙ map-append place_of (class_of cites u) (cond (bytes_eq u t) (m ∷ []) []) ∙ ap (λ ps. places cites u ++ ps) (by (bytes_eq u t))
    where
      by : (b : Bool) → map place_of (cond b (m ∷ []) []) ≡ cond b (m.place ∷ []) []
      by true = refl
      by false = refl

  -- other texts are found as before
  found-same : (u : List ℕ) → bytes_eq t u ≡ false → class_of_text more u ≡ class_of_text cites u
  found-same u h =
      ap (λ c. class_found c (at u (texts more))) (class-more u ∙ ap (λ b. class_of cites u ++ cond b (m ∷ []) []) (bytes_laws.symm u t ∙ h) ∙ append-nil (class_of cites u))
      ∙ ap (λ ts. class_found (class_of cites u) (at u ts)) texts-more
      ∙ by (is_listed u (texts cites)) refl
    where
      by : (b : Bool) → is_listed u (texts cites) ≡ b
          → class_found (class_of cites u) (at u (texts cites ++ cond (is_one (class_of cites t)) (t ∷ []) [])) ≡ class_found (class_of cites u) (at u (texts cites))
      by true l = ap (class_found (class_of cites u)) (at-append u (texts cites) (cond (is_one (class_of cites t)) (t ∷ []) []) l)
      by false l = found-anywhere (class_of cites u) _ _ (sym ((are-texts cites).listed u) ∙ l)

  -- the own text is found with one cite more
  found-own : (u : List ℕ) → bytes_eq t u ≡ true → class_of_text more u ≡ class_found (class_of cites t ++ m ∷ []) (at t (texts cites ++ cond (is_one (class_of cites t)) (t ∷ []) []))
  found-own u h =
      let same : t ≡ u = (bytes_eq-Decides t u).0 h in
      ap (class_of_text more) (sym same)
      ∙ ap (λ c. class_found c (at t (texts more))) (class-more t ∙ ap (λ b. class_of cites t ++ cond b (m ∷ []) []) (bytes_laws.refl t))
      ∙ ap (λ ts. class_found (class_of cites t ++ m ∷ []) (at t ts)) texts-more

  module _ (old new : Classes) (h : AreClassesOf cites old) where
    groups-old : groups_in old ≡ map (places cites) (texts cites)
    groups-old = h.groups ∙ groups-of-texts cites

    groups-new : (ts : List (List ℕ)) → cond (is_one (class_of cites t)) (t ∷ []) [] ≡ ts → groups_in new ≡ map (places more) (texts cites ++ ts) → groups_in new ≡ map (map place_of) (classes more)
    groups-new ts q g = g ∙ ap (λ us. map (places more) (texts cites ++ us)) (sym q) ∙ ap (map (places more)) (sym texts-more) ∙ sym (groups-of-texts more)

    -- the groups with other texts stay
    others-stay : is_listed t (texts cites) ≡ false → groups_in old ≡ map (places more) (texts cites)
    others-stay none = groups-old ∙ sym (unlisted (places cites) (places more) t m.place places-more (texts cites) none)

    -- what is found of each text, where a class is set
    sets : (class : Class) → ((q : HeapText) → class_at new q ≡ cond (bytes_eq t (string_bytes q)) (Some class) (class_at old q))
        → Some class ≡ class_found (class_of cites t ++ m ∷ []) (at t (texts cites ++ cond (is_one (class_of cites t)) (t ∷ []) []))
        → (q : HeapText) → class_at new q ≡ class_of_text more (string_bytes q)
    sets class is own q = is q ∙ by (bytes_eq t (string_bytes q)) refl
      where
        by : (b : Bool) → bytes_eq t (string_bytes q) ≡ b → cond b (Some class) (class_at old q) ≡ class_of_text more (string_bytes q)
        by true l = own ∙ sym (found-own (string_bytes q) l)
        by false l = h.at q ∙ sym (found-same (string_bytes q) l)

    starts : class_of cites t ≡ [] → StartsClass m.place text old new → AreClassesOf more new
    starts q s =
        let none : is_listed t (texts cites) ≡ false = (are-texts cites).listed t ∙ ap are_two q in
        record {
          groups = groups-new [] (ap (λ c. cond (is_one c) (t ∷ []) []) q) (s.groups ∙ others-stay none ∙ ap (map (places more)) (sym (append-nil (texts cites))));
          at = sets (Single m.place) s.at (ap (λ c. class_found (c ++ m ∷ []) (at t (texts cites ++ cond (is_one (class_of cites t)) (t ∷ []) []))) (sym q));
        }

    makes : (a : Member E P) → class_of cites t ≡ a ∷ [] → MakesGroup a.place m.place text old new → AreClassesOf more new
    makes a q s =
        let none : is_listed t (texts cites) ≡ false = (are-texts cites).listed t ∙ ap are_two q in
        let pair : a.place ∷ m.place ∷ [] ≡ places more t =
        ap (λ c. map place_of c ++ m.place ∷ []) (sym q) ∙ ap (λ b. places cites t ++ cond b (m.place ∷ []) []) (sym (bytes_laws.refl t)) ∙ sym (places-more t) in
        let count : length (groups_in old) ≡ at t (texts cites ++ t ∷ []) = ap length groups-old ∙ length-map (texts cites) (places cites) ∙ sym (at-new t (texts cites) none) in
        record {
          groups = groups-new (t ∷ []) (ap (λ c. cond (is_one c) (t ∷ []) []) q)
              (s.groups ∙ ap (λ gs. gs ++ (a.place ∷ m.place ∷ []) ∷ []) (others-stay none) ∙ ap (λ g. map (places more) (texts cites) ++ g ∷ []) pair
              ∙ sym (map-append (places more) (texts cites) (t ∷ [])));
          at = sets (Group (length (groups_in old))) s.at
              (ap (λ n. Some (Group n)) count ∙ ap (λ c. class_found (c ++ m ∷ []) (at t (texts cites ++ cond (is_one c) (t ∷ []) []))) (sym q));
        }

    joins : (a b : Member E P) (ms : List (Member E P)) → class_of cites t ≡ a ∷ b ∷ ms → JoinsGroup (at t (texts cites)) m.place old new → AreClassesOf more new
    joins a b ms q s =
        let listed : is_listed t (texts cites) ≡ true = (are-texts cites).listed t ∙ ap are_two q in
        let no_text : cond (is_one (class_of cites t)) (t ∷ []) [] ≡ [] = ap (λ c. cond (is_one c) (t ∷ []) []) q ∙ ap (λ x. cond x (t ∷ []) []) (two-not-alone a b ms) in
        record {
          groups = groups-new [] no_text
              (s.groups ∙ ap (λ gs. set gs (at t (texts cites)) (get_or gs (at t (texts cites)) [] ++ m.place ∷ [])) groups-old
              ∙ one-grows (places cites) (places more) t m.place places-more (texts cites) listed (are-texts cites).once
              ∙ ap (map (places more)) (sym (append-nil (texts cites))));
          at = λ u. s.at u ∙ h.at u ∙ by (string_bytes u) (bytes_eq t (string_bytes u)) refl no_text;
        }
      where
        by : (u : List ℕ) (c : Bool) → bytes_eq t u ≡ c → cond (is_one (class_of cites t)) (t ∷ []) [] ≡ [] → class_of_text cites u ≡ class_of_text more u
        by u false l no_text = sym (found-same u l)
        by u true l no_text =
            let same : t ≡ u = (bytes_eq-Decides t u).0 l in
            ap (class_of_text cites) (sym same) ∙ ap (λ c. class_found c (at t (texts cites))) q
            ∙ sym (found-own u l ∙ ap (λ c. class_found (c ++ m ∷ []) (at t (texts cites ++ cond (is_one (class_of cites t)) (t ∷ []) []))) q
            ∙ ap (λ us. Some (Group (at t us))) (ap (λ us. texts cites ++ us) no_text ∙ append-nil (texts cites)))

    pub one-more : Adds m.place text old new → AreClassesOf more new
    one-more adds = by (class_of cites t) refl (subst (λ o. AddsTo o m.place text old new) (h.at text) adds)
      where
        by : (c : List (Member E P)) → class_of cites t ≡ c → AddsTo (class_found c (at t (texts cites))) m.place text old new → AreClassesOf more new
        by [] q s = starts q s
        by (a ∷ []) q s = makes a q s
        by (a ∷ b ∷ ms) q s = joins a b ms q s

module _ {E P : Type 0} where
  -- one more cite of the document, whose entry has no suffix
  pub one-more-read : (cites : List (Member E P)) (m : Member E P) (i : ItemRender E P) (p : Place) (text : HeapText) (start : List ℕ) (may : Bool) (old new : Classes)
      → m.place ≡ p → m.item ≡ i → may ≡ may_get_suffix i.properties.speculative.disambiguation → may ≡ true → start ≡ [] → string_bytes text ≡ start ++ plain i.rendered
      → Adds p text old new → AreClassesOf (without_suffix cites) old → AreClassesOf (without_suffix (cites ++ m ∷ [])) new
  one-more-read cites m i p text start may old new there item is holds empty written adds h =
      let own : may_get_suffix (state_of m) ≡ true = ap (λ x. may_get_suffix x.properties.speculative.disambiguation) item ∙ sym is ∙ holds in
      let read : shown_text m ≡ string_bytes text = ap (λ x. plain x.rendered) item ∙ sym (written ∙ ap (λ s. s ++ plain i.rendered) empty) in
      let kept : without_suffix (cites ++ m ∷ []) ≡ without_suffix cites ++ m ∷ [] =
      filter-append (λ x. may_get_suffix (state_of x)) cites (m ∷ []) ∙ ap (λ b. without_suffix cites ++ cond b (m ∷ []) []) own in
      subst (λ ms. AreClassesOf ms new) (sym kept) (one-more (without_suffix cites) m text read old new h (subst (λ x. Adds x text old new) (sym there) adds))
