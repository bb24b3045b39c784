-- Names as they are shown, numbered by the first mentions that show them.
use Rattle.std.proofs.Common.{◌≡◌, ℕ, ◌+◌, ◌/◌, ◌<◌, ◌≤◌, Bool, true, false, cond, min, Option, Some, None, List, [], ◌∷◌, ◌++◌, length, map, take, get_or, refl, ap, sym, subst, ◌∙◌, true≢false, arith, unwrap_or}
use Rattle.std.specs.Prelude.{find, is_some, option_map}
use Rattle.std.specs.BTreeMap.{BTreeMap, is_at}
use Rattle.std.specs.List.{enumerate_from, zip}
use Rattle.std.specs.Map.{lookup}
use Rattle.std.specs.Option.{option_map_or, option_or}
use Rattle.std.proofs.Math.ListN.{get_or-map}
use Rattle.std.proofs.lemmas.List.{get_or_default, length-map, length-take-le, take_all}
use Rattle.std.proofs.lemmas.List.Folds.{find-append}
use Rattle.std.proofs.lemmas.Slice.Zip.{length-zip}
use Rattle.list_lemmas.proofs.Members.{enumerate-push}
use Rattle.value_sources.specs.EqualEntries.{persons_find}
use Rattle.value_sources.specs.Finds.{Finds, and-true, both, lists_find, texts_find}
use Rattle.mentions_cited.specs.declared.kept.KeptOfMention.{KeptOfMention}
use Rattle.mentions_groups.specs.declared.shown.ShownNames.{ShownNames}
use Rattle.mentions_tables.proofs.Changing.{take-next, zip-at}
use Rattle.mentions_tables.proofs.Walking.{pushed-next}
use Rattle.mentions_cites.specs.Mentions.{first_with_names, kept_last, mention_index, same_names, told_mention}
use Rattle.mentions_cites.specs.NotedNames.{first_noted, names_cmp}
use Rattle.mentions_cites.specs.declared.mentions.ToldMention.{ToldMention}

names_find : Finds same_names
names_find = record {
  equal = λ a b e. let p = both _ _ e in let text = texts_find.equal a.text b.text p.0 in let persons = (lists_find persons_find).equal a.persons b.persons p.1 in
      λ i. record { text = text i; persons = persons i };
  self = λ a. and-true _ _ (texts_find.self a.text) ((lists_find persons_find).self a.persons);
}

names-differ : (m n : ShownNames) → same_names m n ≡ false → same_names n m ≡ false
names-differ m n e = by (same_names n m) refl
  where
    by : (b : Bool) → same_names n m ≡ b → b ≡ false
    by false p = refl
    by true p = absurd (true≢false (sym (names_find.self m) ∙ ap (same_names m) (sym (names_find.equal n m p)) ∙ e))

pub or-none : (o : Option ℕ) → o ≡ option_or o None
or-none None = refl
or-none (Some x) = refl

-- names that were noted before keep the first mention that shows them
pub noted-before : (noted : BTreeMap ShownNames ℕ) (names : ShownNames) (k : ℕ) → is_some (first_noted noted names) ≡ true
    → (n : ShownNames) → first_noted noted n ≡ option_or (first_noted noted n) (cond (same_names n names) (Some k) None)
noted-before noted names k there n = by (same_names n names) refl
  where
    is-first : (o : Option ℕ) → is_some o ≡ true → o ≡ option_or o (Some k)
    is-first (Some x) e = refl
    is-first None e = absurd (true≢false (sym e))

    by : (b : Bool) → same_names n names ≡ b → first_noted noted n ≡ option_or (first_noted noted n) (cond b (Some k) None)
    by true p = is-first (first_noted noted n) (ap (λ m. is_some (first_noted noted m)) (names_find.equal n names p) ∙ there)
    by false p = or-none (first_noted noted n)

-- new names keep the mention that shows them
pub noted-more : (old new : BTreeMap ShownNames ℕ) (names : ShownNames) (k : ℕ) → is_some (first_noted old names) ≡ false
    → ((n : ShownNames) → first_noted new n ≡ cond (same_names names n) (Some k) (first_noted old n))
    → (n : ShownNames) → first_noted new n ≡ option_or (first_noted old n) (cond (same_names n names) (Some k) None)
noted-more old new names k none at n = at n ∙ by (same_names names n) refl
  where
    is-new : (o : Option ℕ) → is_some o ≡ false → Some k ≡ option_or o (Some k)
    is-new None e = refl
    is-new (Some x) e = absurd (true≢false e)

    by : (b : Bool) → same_names names n ≡ b → cond b (Some k) (first_noted old n) ≡ option_or (first_noted old n) (cond (same_names n names) (Some k) None)
    by true p =
        let one : names ≡ n = names_find.equal names n p in
        let own : same_names n names ≡ true = ap (same_names n) one ∙ names_find.self n in
        is-new (first_noted old n) (ap (λ m. is_some (first_noted old m)) (sym one) ∙ none)
        ∙ ap (λ b. option_or (first_noted old n) (cond b (Some k) None)) (sym own)
    by false p = or-none (first_noted old n) ∙ ap (λ b. option_or (first_noted old n) (cond b (Some k) None)) (sym (names-differ names n p))

-- the first with names, once one more is there
first-push : (ms : List KeptOfMention) (m : KeptOfMention) (n : ShownNames)
    → first_with_names (ms ++ m ∷ []) n ≡ option_or (first_with_names ms n) (cond (option_map_or (same_names n) m.names false) (Some (length ms)) None)
first-push ms m n =
    ap (λ l. option_map (λ p. p.0) (find (λ p. option_map_or (same_names n) p.1.names false) l)) (enumerate-push 0 ms m)
    ∙ ap (option_map (λ p. p.0)) (find-append (λ p. option_map_or (same_names n) p.1.names false) (enumerate_from 0 ms) ((0 + length ms, m) ∷ []))
    ∙ by (find (λ p. option_map_or (same_names n) p.1.names false) (enumerate_from 0 ms)) (option_map_or (same_names n) m.names false)
  where
    by : (o : Option (ℕ × KeptOfMention)) (b : Bool) → option_map (λ p. p.0) (option_or o (cond b (Some (0 + length ms, m)) None))
        ≡ option_or (option_map (λ p. p.0) o) (cond b (Some (length ms)) None)
    by (Some p) b = refl
    by None false = refl
    by None true = ap Some (omega arith)

pub none-noted : (noted : BTreeMap ShownNames ℕ) (lasts : List KeptOfMention) → noted.entries ≡ [] → (n : ShownNames) → first_noted noted n ≡ first_with_names (take 0 lasts) n
none-noted noted [] empty n = ap (lookup (is_at (names_cmp n))) empty
none-noted noted (m ∷ lasts) empty n = ap (lookup (is_at (names_cmp n))) empty

-- the names of one more mention
pub known-next : (lasts : List KeptOfMention) (k : ℕ) (last : KeptOfMention) → k < length lasts → take (k + 1) lasts ≡ take k lasts ++ last ∷ [] → (known more : ShownNames → Option ℕ)
    → ((n : ShownNames) → known n ≡ first_with_names (take k lasts) n)
    → ((n : ShownNames) → more n ≡ option_or (known n) (cond (option_map_or (same_names n) last.names false) (Some k) None))
    → (n : ShownNames) → more n ≡ first_with_names (take (k + 1) lasts) n
known-next lasts k last within next known more so_far at n =
    let long : length (take k lasts) ≡ k = length-take-le k lasts (omega arith) in
    at n ∙ (λ i. option_or (so_far n i) (cond (option_map_or (same_names n) last.names false) (Some (sym long i)) None)) ∙ sym (first-push (take k lasts) last n)
    ∙ ap (λ l. first_with_names l n) (sym next)

-- what was kept of a mention at last
abbrev last_of_pair : KeptOfMention × Option KeptOfMention → KeptOfMention
last_of_pair p = unwrap_or p.1 p.0

module _ (firsts : List KeptOfMention) (again : List (Option KeptOfMention)) (k : ℕ) where
  pub lasts-all : min (length firsts) (length again) ≤ k → take k (kept_last firsts again) ≡ kept_last firsts again
  lasts-all past =
      take_all k (kept_last firsts again) (subst (λ n. n ≤ k) (sym (length-map (zip firsts again) last_of_pair ∙ length-zip firsts again)) past)

  module _ (first : KeptOfMention) (more : Option KeptOfMention) (within : k < length firsts) (there : k < length again) (here : first ≡ get_or firsts k first) (beside : more ≡ get_or again k more) where
    both-there : k < length (zip firsts again)
    both-there = omega (arith, length-zip firsts again)

    pair-here : (first, more) ≡ get_or (zip firsts again) k (first, more)
    pair-here = zip-at k firsts again first more within there here beside

    pub last-there : k < length (kept_last firsts again)
    last-there = subst (λ n. k < n) (sym (length-map (zip firsts again) last_of_pair)) both-there

    pub lasts-next : (last : KeptOfMention) → last ≡ unwrap_or more first → take (k + 1) (kept_last firsts again) ≡ take k (kept_last firsts again) ++ last ∷ []
    lasts-next last is =
        take-next k (kept_last firsts again) last last-there
        (is ∙ ap last_of_pair pair-here ∙ sym (get_or-map last_of_pair (zip firsts again) k (first, more)) ∙ ap (get_or (kept_last firsts again) k) (sym is))

    -- what is known of one more mention
    pub told-next : (texts : List (Option ℕ)) (text d : Option ℕ) → k < length texts → text ≡ get_or texts k d → (number : ShownNames → Option ℕ) (found all : List ToldMention) (one : ToldMention)
        → found ≡ map (λ p. told_mention number p.0.0 p.0.1 p.1) (take k (zip (zip firsts again) texts)) → all ≡ found ++ one ∷ [] → one ≡ told_mention number first more text
        → all ≡ map (λ p. told_mention number p.0.0 p.0.1 p.1) (take (k + 1) (zip (zip firsts again) texts))
    told-next texts text d third read number found all one so_far pushed is =
        let every : k < length (zip (zip firsts again) texts) = omega (arith, both-there, length-zip (zip firsts again) texts) in
        pushed-next (zip (zip firsts again) texts) k ((first, more), text) every
        (zip-at k (zip firsts again) texts (first, more) text both-there third pair-here (read ∙ get_or_default texts k d text third)) (λ p. told_mention number p.0.0 p.0.1 p.1)
        found all one so_far pushed is

  pub told-all : (texts : List (Option ℕ)) → min (min (length firsts) (length again)) (length texts) ≤ k → take k (zip (zip firsts again) texts) ≡ zip (zip firsts again) texts
  told-all texts past =
      take_all k (zip (zip firsts again) texts)
      (subst (λ n. n ≤ k) (sym (length-zip (zip firsts again) texts ∙ ap (λ n. min n (length texts)) (length-zip firsts again))) past)

-- where the mentions of an entry stand, behind all others
pub mention-past : (n entry : ℕ) (is_first : Bool) → n / 2 < entry → n ≤ mention_index entry is_first
mention-past n entry true h = omega arith
mention-past n entry false h = omega arith
