-- The states of entries by their places are those of the entries.
use Rattle.std.proofs.Common.{◌≡◌, ℕ, suc, ◌+◌, ◌<◌, Bool, true, false, cond, not, ◌||◌, Option, Some, None, List, [], ◌∷◌, ◌++◌, length, map, filter, get_or, refl, ap, sym, subst, ◌∙◌, arith}
use Rattle.std.specs.Prelude.{All, nat_eq, option_map, slice_get}
use Rattle.std.specs.Cmp.{IsEquivalence}
use Rattle.std.specs.List.{enumerate_from, flat_map, list_any}
use Rattle.std.specs.Option.{option_and_then, option_map_or}
use Rattle.std.proofs.lemmas.Bool.Decides.{nat_tests}
use Rattle.std.proofs.lemmas.Option.{get_or_from_slice_get, slice_get-map, slice_get_within}
use Rattle.std.proofs.lemmas.List.Folds.{flat_map-map}
use Rattle.rounds_ambiguity.specs.Members.{Member, entry_of, members, one_or_none}
use Rattle.driver_writers.specs.Writing.{Writing}
use Rattle.driver_entries.specs.Entries.{place}
use Rattle.driver_lookup.specs.declared.state.DisambiguateState.{DisambiguateState}
use Rattle.driver_passes.specs.Places.{cite_at}
use Rattle.driver_passes.specs.Renders.{CiteRender, ItemRender, Place}
use Rattle.driver_passes.specs.Request.{Request}
use Rattle.rounds_rendering.specs.Gathered.{AreGreatest, cite_again, document_again, document_tasks, entry_place, greatest_at, is_marked, is_of, request_again, request_tasks, state_at}
use Rattle.rounds_runs.specs.RoundMarks.{Mark, cites_entry, greatest_state, waits}
use Rattle.rounds_runs.specs.Rounds.{again_tasks, again_tasks_of, at_table, mark_of, request_at, tasks_with, with_any}

-- the same place is an equal entry
module _ {E : Type 0} (eq : E → E → Bool) (laws : IsEquivalence eq) where
  same-place : (x e : E) (es : List E) → place eq x es < length es → nat_eq (place eq x es) (place eq e es) ≡ eq e x
  same-place x e [] h = absurd (omega arith)
  same-place x e (f ∷ fs) h = by (eq x f) (eq e f) refl refl h (same-place x e fs)
    where
      next : (m n : ℕ) (b : Bool) → nat_eq m n ≡ b → nat_eq (1 + m) (1 + n) ≡ b
      next m n true h = grind (arith, nat_tests)
      next m n false h = grind (arith, nat_tests)

      none : (m : ℕ) → nat_eq 0 (1 + m) ≡ false
      none m = grind (arith, nat_tests)

      none-2 : (m : ℕ) → nat_eq (1 + m) 0 ≡ false
      none-2 m = grind (arith, nat_tests)

      by : (a b : Bool) → eq x f ≡ a → eq e f ≡ b → cond (not a) (1 + place eq x fs) 0 < suc (length fs)
          → (place eq x fs < length fs → nat_eq (place eq x fs) (place eq e fs) ≡ eq e x)
          → nat_eq (cond (not a) (1 + place eq x fs) 0) (cond (not b) (1 + place eq e fs) 0) ≡ eq e x
      by true true u v h k = sym (laws.congr e f x v ∙ laws.symm f x ∙ u)
      by true false u v h k = none (place eq e fs) ∙ sym (laws.symm e x ∙ laws.congr x f e u ∙ laws.symm f e ∙ v)
      by false true u v h k = none-2 (place eq x fs) ∙ sym (laws.congr e f x v ∙ laws.symm f x ∙ u)
      by false false u v h k = next (place eq x fs) (place eq e fs) (eq e x) (k (omega arith))

-- what makes something of each member by its place alike makes it of each
module _ {X Y : Type 0} (f : ℕ → X → Y) (g : X → Y) where
  alike-from : (b : ℕ) (xs : List X) → ((k : ℕ) (x : X) → slice_get xs k ≡ Some x → f (b + k) x ≡ g x) → map (λ p. f p.0 p.1) (enumerate_from b xs) ≡ map g xs
  alike-from b [] h = refl
  alike-from b (x ∷ xs) h =
      let shift : (k : ℕ) → (b + 1) + k ≡ b + suc k = λ k. omega arith in
      let here : b + 0 ≡ b = omega arith in
      ap (λ y. y ∷ map (λ p. f p.0 p.1) (enumerate_from (b + 1) xs)) (ap (λ k. f k x) (sym here) ∙ h 0 x refl)
      ∙ ap (λ ys. g x ∷ ys) (alike-from (b + 1) xs (λ k y e. ap (λ j. f j y) (shift k) ∙ h (suc k) y e))

  alike : (xs : List X) → ((k : ℕ) (x : X) → slice_get xs k ≡ Some x → f k x ≡ g x) → map (λ p. f p.0 p.1) (enumerate_from 0 xs) ≡ map g xs
  alike xs h = alike-from 0 xs (λ k x e. ap (λ j. f j x) (zero-more k) ∙ h k x e)
    where
      zero-more : (k : ℕ) → 0 + k ≡ k
      zero-more k = omega arith

all-alike : {X Y : Type 0} (f : ℕ → X → List Y) (g : X → List Y) (xs : List X) → ((k : ℕ) (x : X) → slice_get xs k ≡ Some x → f k x ≡ g x)
    → flat_map (λ p. f p.0 p.1) (enumerate_from 0 xs) ≡ flat_map g xs
all-alike f g xs h =
    sym (flat_map-map (λ y. y) (λ p. f p.0 p.1) (enumerate_from 0 xs)) ∙ ap (flat_map (λ y. y)) (alike f g xs h) ∙ flat_map-map (λ y. y) g xs

-- what is known of each is known of what stands at a place
known : {X : Type 0} (Q : X → Type 0) (xs : List X) → All Q xs → (k : ℕ) (x : X) → slice_get xs k ≡ Some x → Q x
known Q xs all k x h = subst Q (get_or_from_slice_get xs k x x h) (all k x (slice_get_within xs k x h))

module _ {E P : Type 0} (eq : E → E → Bool) (es : List E) (places : List (List ℕ)) (cites : List (CiteRender E P)) where
  abbrev place_of : ItemRender E P → ℕ
  place_of i = place eq i.entry es

  abbrev pub row : CiteRender E P → List ℕ
  row c = map place_of c.items

  module _ (placed : places ≡ map row cites) (listed : All (λ ps. All (λ p. p < length es) ps) places) where
    row-at : (r : ℕ) (c : CiteRender E P) → slice_get cites r ≡ Some c → slice_get places r ≡ Some (row c)
    row-at r c h = ap (λ l. slice_get l r) placed ∙ slice_get-map row cites r ∙ ap (option_map row) h

    at-row : (c : CiteRender E P) (k : ℕ) (i : ItemRender E P) → slice_get c.items k ≡ Some i → slice_get (row c) k ≡ Some (place_of i)
    at-row c k i f = slice_get-map place_of c.items k ∙ ap (option_map place_of) f

    -- the entry of a cite is one of these
    below : (r : ℕ) (c : CiteRender E P) → slice_get cites r ≡ Some c → (k : ℕ) (i : ItemRender E P) → slice_get c.items k ≡ Some i → place_of i < length es
    below r c h k i f = known (λ p. p < length es) (row c) (known (λ ps. All (λ p. p < length es) ps) places listed r (row c) (row-at r c h)) k (place_of i) (at-row c k i f)

    -- what holds of a place where no cite stands, and of one where a cite does, holds of any
    at-each : (Q : Option ℕ → Option (Request E P × ItemRender E P) → Type 0) → Q None None
        → ((c : CiteRender E P) (i : ItemRender E P) → place_of i < length es → Q (Some (place_of i)) (Some (c.request, i)))
        → (at : Place) → Q (entry_place places at) (cite_at cites at)
    at-each Q none some at = subst (λ p. Q p (cite_at cites at)) (sym (ap (λ l. option_and_then at_item (slice_get l at.0)) placed ∙ ap (option_and_then at_item) (slice_get-map row cites at.0) ∙ through (slice_get cites at.0)))
        (outer (slice_get cites at.0) refl)
      where
        at_item : List ℕ → Option ℕ
        at_item ps = slice_get ps at.1

        through : (o : Option (CiteRender E P)) → option_and_then at_item (option_map row o) ≡ option_and_then (λ c. option_map place_of (slice_get c.items at.1)) o
        through None = refl
        through (Some c) = slice_get-map place_of c.items at.1

        inner : (c : CiteRender E P) → slice_get cites at.0 ≡ Some c → (o : Option (ItemRender E P)) → slice_get c.items at.1 ≡ o → Q (option_map place_of o) (option_map (λ i. (c.request, i)) o)
        inner c h None f = none
        inner c h (Some i) f = some c i (below at.0 c h at.1 i f)

        outer : (o : Option (CiteRender E P)) → slice_get cites at.0 ≡ o
            → Q (option_and_then (λ c. option_map place_of (slice_get c.items at.1)) o) (option_and_then (λ c. option_map (λ i. (c.request, i)) (slice_get c.items at.1)) o)
        outer None h = none
        outer (Some c) h = inner c h (slice_get c.items at.1) refl

    module _ (laws : IsEquivalence eq) where
      abbrev member : Place → Request E P × ItemRender E P → Member E P
      member at cite = record { place = at; item = cite.1; style = cite.0.style }

      -- a cite of e stands where one of its place does
      agree : (e : E) (at : Place) → is_of places (place eq e es) at ≡ cites_entry eq cites e at
      agree e at =
          at-each (λ p c. option_map_or (λ n. nat_eq n (place eq e es)) p false ≡ option_map_or (λ m. eq e (entry_of m)) (option_map (member at) c) false)
          refl (λ c i inside. same-place eq laws i.entry e es inside) at

      -- by its place an entry has the greatest of its marks
      marks-at : (marks : List Mark) (e : E) → greatest_at places marks (place eq e es) ≡ mark_of eq cites marks e
      marks-at marks e = λ j. greatest_state (map (λ m. m.1) (filter (λ m. agree e m.0 j) marks))

      -- the flags of entries tell whether a group waits
      module _ (marks : List Mark) (flags : List Bool) (told : (p : ℕ) → p < length es → get_or flags p false ≡ list_any (λ m. is_of places p m.0) marks) where
        abbrev has_mark : Member E P → Bool
        has_mark m = list_any (λ n. cites_entry eq cites (entry_of m) n.0) marks

        pub waits-alike : (group : List Place) → list_any (λ at. is_marked flags (entry_place places at)) group ≡ waits eq cites marks group
        waits-alike [] = refl
        waits-alike (at ∷ group) =
            at-each (λ p c. (is_marked flags p || list_any (λ q. is_marked flags (entry_place places q)) group) ≡ list_any has_mark (one_or_none (option_map (member at) c) ++ members cites group))
            (waits-alike group) (λ c i inside. λ j. (told (place_of i) inside ∙ (λ k. list_any (λ m. agree i.entry m.0 k) marks)) j || waits-alike group j) at

      module _ (marks : List Mark) (states : List (Option DisambiguateState)) (great : AreGreatest places marks (length es) states) where
        abbrev table : E → Option DisambiguateState
        table = mark_of eq cites marks

        -- by its place an entry has its state
        pub state-at : (e : E) → place eq e es < length es → get_or states (place eq e es) None ≡ table e
        state-at e inside = great.at (place eq e es) inside ∙ marks-at marks e

        state-there : (r : ℕ) (c : CiteRender E P) → slice_get cites r ≡ Some c → (k : ℕ) (i : ItemRender E P) → slice_get c.items k ≡ Some i → state_at states (get_or places r []) k ≡ table i.entry
        state-there r c h k i f =
            ap (λ ps. state_at states ps k) (get_or_from_slice_get places r (row c) [] (row-at r c h))
            ∙ ap (option_and_then (λ p. get_or states p None)) (at-row c k i f) ∙ state-at i.entry (below r c h k i f)

        -- so the same cites are rendered again, with the same states
        pub document-alike : (writing : Writing E P) → document_again states writing places cites ≡ at_table writing table cites
        document-alike writing = alike (λ r. request_again states writing (get_or places r [])) (request_at writing table) cites (λ r c e.
            ap (λ xs. record c { items = xs })
            (alike (cite_again states writing c.request (get_or places r [])) (λ i. with_any writing c.request (table i.entry) i) c.items
            (λ k i f. ap (λ s. with_any writing c.request s i) (state-there r c e k i f))))

        pub tasks-alike : document_tasks states places cites ≡ again_tasks table cites
        tasks-alike = all-alike (λ r c. request_tasks states c.request (get_or places r []) c.items) (again_tasks_of table) cites (λ r c e.
            all-alike (λ k. tasks_with c.request (state_at states (get_or places r []) k)) (λ i. tasks_with c.request (table i.entry) i) c.items
            (λ k i f. ap (λ s. tasks_with c.request s i) (state-there r c e k i f)))
