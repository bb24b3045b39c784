-- The stops of a mention, as one step more is made.
use Rattle.std.proofs.Common.{◌≡◌, ℕ, ◌+◌, ◌<◌, ◌≤◌, true, Some, None, Option, List, [], ◌∷◌, ◌++◌, get_or, length, map, take, refl, ap, sym, subst, ◌∙◌, arith, inl, inr, ◌⊎◌}
use Rattle.std.specs.Prelude.{All, slice_get}
use Rattle.std.specs.List.{list_any, range_with_len}
use Rattle.std.proofs.lemmas.Bool.{cases_eq}
use Rattle.std.proofs.lemmas.List.{map-append, take_more}
use Rattle.std.proofs.lemmas.List.Elements.{All-head, All-push, All-tail, All-weaker}
use Rattle.std.proofs.lemmas.List.FromFn.{map-range_with_len_more}
use Rattle.std.proofs.lemmas.Option.{same_Some, slice_get-get_or, slice_get_past}
use Rattle.list_lemmas.proofs.Stepping.{map-next}
use Rattle.mentions_names.specs.Ways.{AllMade, AllMadeBy, AreMade, Extends, lead, next, same_step, step, stop_at, stops_of, way_of}
use Rattle.mentions_names.specs.declared.look.Look.{Look}
use Rattle.mentions_names.specs.declared.reach.Reach.{Reach}
use Rattle.mentions_names.specs.declared.rivals.Node.{Node}
use Rattle.mentions_names.specs.declared.ways.Step.{Step}
use Rattle.mentions_names.specs.declared.ways.Stop.{Stop}
use Rattle.mentions_names.specs.declared.ways.Way.{Way}
use Rattle.mentions_names.proofs.Deciding.{steps_find}
use Rattle.mentions_names.proofs.Leading.{lead-push, lead-stays, made-stays}
use Rattle.mentions_names.proofs.Needing.{map-range-same}
use Rattle.mentions_names.proofs.Numbered.{extends-then, extends-with, listed-own, number, number-own, with_key}

-- the stops so far, and where they lead
pub record AreSoFar (start steps : List Step) (g : ℕ) (looks : List Look) (k : ℕ) (node : Node) (stops : List Stop) : Type 0 where
  pub leads : node ≡ lead steps (Node.Start g) (take k looks)
  pub are_stops : stops ≡ map (stop_at steps g looks) (range_with_len 0 k)
  pub made : AreMade steps g looks k
  pub extends : Extends start steps

module _ (start old new : List Step) (g : ℕ) (looks : List Look) (k : ℕ) (x : Look) (n : Node) (index : ℕ) (stops all : List Stop)
    (within : k < length looks) (here : x ≡ get_or looks k x) (so_far : AreSoFar start old g looks k n stops)
    (keys : new ≡ with_key same_step old (step n x)) (numbered : index ≡ number same_step old (step n x))
    (pushed : all ≡ stops ++ record { node = n; look = Some x } ∷ []) where
  extended : Extends old new
  extended = subst (Extends old) (sym keys) (extends-with same_step old (step n x))

  stays : (i : ℕ) → i ≤ k → lead new (Node.Start g) (take i looks) ≡ lead old (Node.Start g) (take i looks)
  stays = lead-stays old new extended g looks k (omega arith) so_far.made

  there : slice_get looks k ≡ Some x
  there = slice_get-get_or looks k x within ∙ ap Some (sym here)

  at-k : lead new (Node.Start g) (take k looks) ≡ n
  at-k = stays k (omega arith) ∙ sym so_far.leads

  listed : list_any (same_step (step n x)) new ≡ true
  listed = ap (list_any (same_step (step n x))) keys ∙ listed-own same_step steps_find old (step n x)

  made : AreMade new g looks (k + 1)
  made i r h e = by (cases_eq i k)
    where
      by : (i ≡ k) ⊎ (i ≡ k → ⊥) → list_any (same_step (step (lead new (Node.Start g) (take i looks)) r)) new ≡ true
      by (inl same) =
          let own : r ≡ x = same_Some r x (sym e ∙ ap (slice_get looks) same ∙ there) in
          (λ t. list_any (same_step (step (lead new (Node.Start g) (take (same t) looks)) (own t))) new)
          ∙ ap (λ m. list_any (same_step (step m x)) new) at-k ∙ listed
      by (inr other) = made-stays old new extended g looks k (omega arith) so_far.made i r (omega (arith, other)) e

  pub one-more-stop : AreSoFar start new g looks (k + 1) (Node.Step index) all
  one-more-stop = record {
    leads =
        ap Node.Step (numbered ∙ sym (number-own same_step steps_find old (step n x)) ∙ ap (λ s. number same_step s (step n x)) (sym keys))
        ∙ ap (λ m. next new m x) (sym at-k) ∙ sym (lead-push new (Node.Start g) (take k looks) x)
        ∙ ap (lead new (Node.Start g)) (sym (take_more looks k x within ∙ ap (λ y. take k looks ++ y ∷ []) (sym here)));
    are_stops =
        pushed
        ∙ ap (λ l. l ++ record { node = n; look = Some x } ∷ [])
        (so_far.are_stops ∙ map-range-same (stop_at old g looks) (stop_at new g looks) 0 k (λ j l u. λ t. record { node = sym (stays j (omega arith)) t; look = slice_get looks j }))
        ∙ ap (λ s. map (stop_at new g looks) (range_with_len 0 k) ++ s ∷ []) (λ t. record { node = sym at-k t; look = sym there t })
        ∙ sym (map-range_with_len_more (stop_at new g looks) 0 k k (omega arith));
    made = made;
    extends = extends-then start old new so_far.extends extended;
  }

-- all stops
pub last-stop : (start steps : List Step) (g : ℕ) (looks : List Look) (k : ℕ) (n : Node) (stops all : List Stop) → k ≡ length looks
    → AreSoFar start steps g looks k n stops → all ≡ stops ++ record { node = n; look = None } ∷ [] → all ≡ stops_of steps (Some g) looks
last-stop start steps g looks k n stops all end h pushed =
    pushed ∙ ap (λ l. l ++ record { node = n; look = None } ∷ []) h.are_stops
    ∙ ap (λ s. map (stop_at steps g looks) (range_with_len 0 k) ++ s ∷ []) (λ t. record { node = h.leads t; look = sym (slice_get_past looks k (omega arith)) t })
    ∙ sym (map-range_with_len_more (stop_at steps g looks) 0 k k (omega arith))
    ∙ ap (λ m. map (stop_at steps g looks) (range_with_len 0 (m + 1))) end

-- ways stay when more steps are made
module _ (old new : List Step) (e : Extends old new) where
  stops-stay : (o : Option ℕ) (looks : List Look) → AllMadeBy old o looks → stops_of old o looks ≡ stops_of new o looks
  stops-stay None looks m = refl
  stops-stay (Some g) looks m =
      map-range-same (stop_at old g looks) (stop_at new g looks) 0 (length looks + 1)
      (λ j l u. λ t. record { node = sym (lead-stays old new e g looks (length looks) (omega arith) m j (omega arith)) t; look = slice_get looks j })

  made-too : (o : Option ℕ) (looks : List Look) → AllMadeBy old o looks → AllMadeBy new o looks
  made-too None looks m = m
  made-too (Some g) looks m = made-stays old new e g looks (length looks) (omega arith) m

  pub ways-stay : (bs : List Reach) → All (AllMade old) bs → map (way_of old) bs ≡ map (way_of new) bs
  ways-stay [] all = refl
  ways-stay (b ∷ bs) all =
      λ t. record { by_cite = b.by_cite; stops = stops-stay b.group b.looks (All-head (AllMade old) b bs all) t; occurs = b.occurs } ∷ ways-stay bs (All-tail (AllMade old) b bs all) t

  pub all-made-too : (bs : List Reach) → All (AllMade old) bs → All (AllMade new) bs
  all-made-too bs all = All-weaker (AllMade old) (AllMade new) (λ b m. made-too b.group b.looks m) bs all

  -- the way of one more mention
  module _ {X : Type 0} (f : X → Reach) (ms : List X) (k : ℕ) (m : X) (within : k < length ms) (here : m ≡ get_or ms k m) (own : AllMade new (f m))
      (made : All (AllMade old) (map f (take k ms))) where
    more : map f (take (k + 1) ms) ≡ map f (take k ms) ++ f m ∷ []
    more = map-next ms k m within here f

    pub next-ways : (ways all : List Way) (w : Way) → ways ≡ map (way_of old) (map f (take k ms)) → w ≡ way_of new (f m) → all ≡ ways ++ w ∷ []
        → all ≡ map (way_of new) (map f (take (k + 1) ms))
    next-ways ways all w so_far is pushed =
        pushed ∙ (λ t. (so_far ∙ ways-stay (map f (take k ms)) made) t ++ is t ∷ [])
        ∙ sym (map-append (way_of new) (map f (take k ms)) (f m ∷ [])) ∙ ap (map (way_of new)) (sym more)

    pub next-made : All (AllMade new) (map f (take (k + 1) ms))
    next-made = subst (All (AllMade new)) (sym more) (All-push (AllMade new) (map f (take k ms)) (f m) (all-made-too (map f (take k ms)) made) own)

-- the same where the look was copied twice
pub one-more-copied : (start old new : List Step) (g : ℕ) (looks : List Look) (k : ℕ) (x y z : Look) (n : Node) (index : ℕ) (stops all : List Stop)
    → k < length looks → x ≡ get_or looks k x → AreSoFar start old g looks k n stops → y ≡ x → z ≡ x → new ≡ with_key same_step old (step n z)
    → index ≡ number same_step old (step n z) → all ≡ stops ++ record { node = n; look = Some y } ∷ [] → AreSoFar start new g looks (k + 1) (Node.Step index) all
one-more-copied start old new g looks k x y z n index stops all within here so_far p q keys numbered pushed =
    one-more-stop start old new g looks k x n index stops all within here so_far (keys ∙ ap (λ r. with_key same_step old (step n r)) q)
    (numbered ∙ ap (λ r. number same_step old (step n r)) q) (pushed ∙ ap (λ r. stops ++ record { node = n; look = Some r } ∷ []) p)
