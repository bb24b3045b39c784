-- The steps of the members of all rules, rule after rule.
use Rattle.std.proofs.Common.{◌≡◌, ℕ, ◌+◌, ◌<◌, Bool, true, false, cond, ◌||◌, Option, Some, None, List, [], ◌∷◌, ◌++◌, find, get_or, length, map, replicate, take, refl, ap, sym, ◌∙◌}
use Rattle.std.specs.Prelude.{◌&&◌}
use Rattle.std.specs.List.{list_any, range_with_len, zip}
use Rattle.std.specs.Option.{option_or}
use Rattle.std.proofs.lemmas.List.{take_more}
use Rattle.std.proofs.lemmas.List.Folds.{list_any-append}
use denote.Enum.Bare.{same_true}
use Rattle.value_styles.specs.contracts.style.DisambiguationRule as rule_type
use Rattle.value_styles.specs.declared.style.DisambiguationRule.{DisambiguationRule}
use Rattle.value_styles.specs.declared.style.DisambiguationRule.TheVariants.{AllNames, AllNamesWithInitials, ByCite, PrimaryName, PrimaryNameWithInitials}
use Rattle.rounds_names.specs.Classes.{first_step, is_alone, same_rule, step_by}
use Rattle.rounds_names.specs.Steps.{step}
use Rattle.rounds_names.specs.declared.named_cite.NamedCite.{NamedCite}
use Rattle.rounds_names.proofs.Zipped.{map-same, twice, zip-own}

rule-equal : (a b : Option DisambiguationRule) → same_rule a b ≡ true → a ≡ b
rule-equal None None e = refl
rule-equal (Some a) (Some b) e = ap Some (same_true rule_type.the_type tt a b e)
rule-equal None (Some b) e = cc
rule-equal (Some a) None e = cc

abbrev pub all_rules : List (Option DisambiguationRule)
all_rules = None ∷ Some AllNames ∷ Some AllNamesWithInitials ∷ Some PrimaryName ∷ Some PrimaryNameWithInitials ∷ Some ByCite ∷ []

all-listed : (rule : Option DisambiguationRule) → list_any (same_rule rule) all_rules ≡ true
all-listed None = refl
all-listed (Some AllNames) = refl
all-listed (Some AllNamesWithInitials) = refl
all-listed (Some PrimaryName) = refl
all-listed (Some PrimaryNameWithInitials) = refl
all-listed (Some ByCite) = refl

or-same : (s : Option ℕ) → option_or s s ≡ s
or-same None = refl
or-same (Some n) = refl

or-none : (s : Option ℕ) → option_or s None ≡ s
or-none None = refl
or-none (Some n) = refl

module _ (group : List NamedCite) (greatest : ℕ) where
  pub by-all : (rules : List (Option DisambiguationRule)) → rules ≡ all_rules → map (step_by rules group greatest) group ≡ map (step group greatest) group
  by-all rules e = map-same (step_by rules group greatest) (step group greatest) group
      (λ x. ap (λ l. step_by l group greatest x) e ∙ ap (λ b. cond b (step group greatest x) None) (all-listed x.rule))

  pub by-none : (found : List (Option ℕ)) → found ≡ replicate (length group) None → found ≡ map (step_by [] group greatest) group
  by-none found e = e ∙ constant group
    where
      constant : (xs : List NamedCite) → replicate {A = Option ℕ} (length xs) None ≡ map (λ x. None) xs
      constant [] = refl
      constant (x ∷ xs) = ap (λ l. None ∷ l) (constant xs)

  own-step : (rule : Option DisambiguationRule) (x : NamedCite) → same_rule x.rule rule ≡ true → first_step rule group greatest x ≡ step group greatest x
  unfolding step
  own-step rule x e =
      ap (λ b. cond b (find (λ i. x.may_be_named && is_alone rule group i x) (range_with_len 1 greatest)) None) e
      ∙ ap (λ r. find (λ i. x.may_be_named && is_alone r group i x) (range_with_len 1 greatest)) (sym (rule-equal x.rule rule e))

  joined : (s f : Option ℕ) (before own : Bool) → (own ≡ true → f ≡ s) → (own ≡ false → f ≡ None) → option_or (cond before s None) f ≡ cond (before || (own || false)) s None
  joined s f true true h k = ap (option_or s) (h refl) ∙ or-same s
  joined s f true false h k = ap (option_or s) (k refl) ∙ or-none s
  joined s f false true h k = h refl
  joined s f false false h k = k refl

  -- one rule more
  pub by-more : (rules : List (Option DisambiguationRule)) (k : ℕ) (rule : Option DisambiguationRule) (found more : List (Option ℕ)) → k < length rules → rule ≡ get_or rules k rule
      → found ≡ map (step_by (take k rules) group greatest) group → more ≡ map (λ p. option_or p.1 (first_step rule group greatest p.0)) (zip group found)
      → more ≡ map (step_by (take (k + 1) rules) group greatest) group
  by-more rules k rule found more within here f m =
      let own : NamedCite → Option ℕ = step_by (take k rules) group greatest in
      m ∙ ap (λ l. map (λ p. option_or p.1 (first_step rule group greatest p.0)) (zip group l)) f
      ∙ ap (map (λ p. option_or p.1 (first_step rule group greatest p.0))) (zip-own own group)
      ∙ twice (λ p. option_or p.1 (first_step rule group greatest p.0)) (λ x. (x, own x)) group
      ∙ map-same _ (step_by (take (k + 1) rules) group greatest) group (λ x.
      joined (step group greatest x) (first_step rule group greatest x) (list_any (same_rule x.rule) (take k rules)) (same_rule x.rule rule)
      (own-step rule x) (λ e. ap (λ b. cond b (find (λ i. x.may_be_named && is_alone rule group i x) (range_with_len 1 greatest)) None) e)
      ∙ ap (λ b. cond b (step group greatest x) None)
      (sym (ap (list_any (same_rule x.rule)) (take_more rules k rule within ∙ ap (λ r. take k rules ++ r ∷ []) (sym here))
      ∙ list_any-append (same_rule x.rule) (take k rules) (rule ∷ []))))
