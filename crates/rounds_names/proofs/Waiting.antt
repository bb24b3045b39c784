-- The steps of the members of a rule, as more names are tried.
use Rattle.std.proofs.Common.{◌≡◌, ℕ, zero, suc, ◌+◌, ◌≤◌, ◌-◌, Bool, true, false, cond, ◌&&◌, ◌||◌, Option, Some, None, List, [], ◌∷◌, ◌++◌, length, map, add-one, arith, find, refl, ap, sym, ◌∙◌}
use Rattle.std.specs.List.{list_any, range_with_len, zip}
use Rattle.std.specs.Option.{is_none, option_or}
use Rattle.std.proofs.Math.ListN.{length-map}
use Rattle.std.proofs.lemmas.List.Folds.{find-append}
use Rattle.std.proofs.lemmas.Slice.Zip.{length-zip}
use Rattle.std.proofs.lemmas.Bool.{or_parts}
use Rattle.value_styles.specs.declared.style.DisambiguationRule.{DisambiguationRule}
use Rattle.rounds_names.specs.Classes.{first_step, is_alone, same_rule, step_after, waits_for_step}
use Rattle.rounds_names.specs.declared.named_cite.NamedCite.{NamedCite}
use Rattle.list_lemmas.proofs.Members.{range-more}
use Rattle.rounds_names.proofs.Zipped.{map-same, twice, zip-mapped, zip-seconds}

-- a step before, one among the names so far, and one at the next name
table : (s f : Option ℕ) (alone may own : Bool) (n : ℕ)
    → cond (alone && (is_none (option_or s (cond own f None)) && may && own)) (Some n) (option_or s (cond own f None))
    ≡ option_or s (cond own (option_or f (cond (may && alone) (Some n) None)) None)
table (Some v) f true may own n = refl
table (Some v) f false may own n = refl
table None (Some v) true may true n = refl
table None (Some v) false may true n = refl
table None f true true false n = refl
table None f true false false n = refl
table None f false may false n = refl
table None None true true true n = refl
table None None true false true n = refl
table None None false true true n = refl
table None None false false true n = refl

stays : (alone waiting : Bool) (n : ℕ) (own : Option ℕ) → waiting ≡ false → cond (alone && waiting) (Some n) own ≡ own
stays true waiting n own h = ap (λ b. cond b (Some n) own) h
stays false waiting n own h = refl

module _ (rule : Option DisambiguationRule) (group : List NamedCite) where
  abbrev pub so_far : ℕ → NamedCite × Option ℕ → Option ℕ
  so_far i p = option_or p.1 (first_step rule group i p.0)

  -- by one name more
  next-step : (i : ℕ) (p : NamedCite × Option ℕ) → step_after rule (i + 1) p.0 (so_far i p) (is_alone rule group (i + 1) p.0) ≡ so_far (i + 1) p
  next-step i p =
      let x = p.0 in
      let known : ℕ → Bool = λ j. x.may_be_named && is_alone rule group j x in
      let e : 1 + i ≡ i + 1 = omega arith in
      let more : find known (range_with_len 1 (i + 1)) ≡ option_or (find known (range_with_len 1 i)) (cond (known (i + 1)) (Some (i + 1)) None) =
      ap (λ n. find known (range_with_len 1 n)) (add-one i) ∙ ap (find known) (range-more 1 i ∙ ap (λ n. range_with_len 1 i ++ n ∷ []) e)
      ∙ find-append known (range_with_len 1 i) ((i + 1) ∷ []) in
      table p.1 (find known (range_with_len 1 i)) (is_alone rule group (i + 1) x) x.may_be_named (same_rule x.rule rule) (i + 1)
      ∙ ap (λ o. option_or p.1 (cond (same_rule x.rule rule) o None)) (sym more)

  -- who does not wait keeps its step
  kept-step : (i d : ℕ) (p : NamedCite × Option ℕ) → waits_for_step rule p.0 (so_far i p) ≡ false → so_far i p ≡ so_far (i + d) p
  kept-step i zero p h = let e : i + 0 ≡ i = omega arith in ap (λ n. so_far n p) (sym e)
  kept-step i (suc d) p h =
      let before = kept-step i d p h in
      let e : i + d + 1 ≡ i + suc d = omega arith in
      before ∙ sym (stays (is_alone rule group (i + d + 1) p.0) (waits_for_step rule p.0 (so_far (i + d) p)) (i + d + 1) (so_far (i + d) p) (ap (waits_for_step rule p.0) (sym before) ∙ h))
      ∙ next-step (i + d) p ∙ ap (λ n. so_far n p) e

  module _ (old : List (Option ℕ)) (long : length old ≡ length group) where
    abbrev pub steps_to : ℕ → List (Option ℕ)
    steps_to i = map (so_far i) (zip group old)

    pub steps-first : old ≡ steps_to 0
    steps-first = sym (zip-seconds group old long) ∙ map-same (λ p. p.1) (so_far 0) (zip group old) (λ p. by p.1 (same_rule p.0.rule rule))
      where
        by : (s : Option ℕ) (b : Bool) → s ≡ option_or s (cond b None None)
        by None true = refl
        by None false = refl
        by (Some v) b = refl

    pub steps-long : (i : ℕ) (steps : List (Option ℕ)) → steps ≡ steps_to i → length steps ≡ length group
    steps-long i steps s = ap length s ∙ length-map (zip group old) (so_far i) ∙ (let n = length-zip group old in omega (arith, n, long))

    pub steps-next : (i : ℕ) (steps more : List (Option ℕ)) → steps ≡ steps_to i
        → more ≡ map (λ p. step_after rule (i + 1) p.0 p.1 (is_alone rule group (i + 1) p.0)) (zip group steps) → more ≡ steps_to (i + 1)
    steps-next i steps more s m =
        let after : NamedCite × Option ℕ → Option ℕ = λ p. step_after rule (i + 1) p.0 p.1 (is_alone rule group (i + 1) p.0) in
        m ∙ ap (λ l. map after (zip group l)) s ∙ ap (map after) (zip-mapped group old (so_far i) long)
        ∙ twice after (λ p. (p.0, so_far i p)) (zip group old) ∙ map-same _ (so_far (i + 1)) (zip group old) (next-step i)

    none-waits : (i d : ℕ) (ps : List (NamedCite × Option ℕ)) → list_any (λ (p : NamedCite × Option ℕ). waits_for_step rule p.0 p.1) (map (λ p. (p.0, so_far i p)) ps) ≡ false
        → map (so_far i) ps ≡ map (so_far (i + d)) ps
    none-waits i d [] h = refl
    none-waits i d (p ∷ ps) h =
        let n = or_parts (waits_for_step rule p.0 (so_far i p)) _ h in
        let first = kept-step i d p n.0 in
        let rest = none-waits i d ps n.1 in
        λ j. first j ∷ rest j

    -- where none waits, all steps are found
    pub steps-all : (i greatest : ℕ) (steps : List (Option ℕ)) → i ≤ greatest → steps ≡ steps_to i → list_any (λ p. waits_for_step rule p.0 p.1) (zip group steps) ≡ false
        → steps ≡ steps_to greatest
    steps-all i greatest steps h s none =
        let e : i + (greatest - i) ≡ greatest = omega arith in
        s ∙ none-waits i (greatest - i) (zip group old)
        (ap (list_any (λ (p : NamedCite × Option ℕ). waits_for_step rule p.0 p.1)) (sym (ap (zip group) s ∙ zip-mapped group old (so_far i) long)) ∙ none)
        ∙ ap steps_to e
