-- The first cites of entries, gathered place by place, and the suffixes that they get.
use Rattle.std.proofs.Common.{◌≡◌, ℕ, ◌+◌, ◌≤◌, Bool, cond, List, [], ◌∷◌, ◌++◌, length, drop, map, get_or, refl, ap, sym, ◌∙◌, zero-add}
use Rattle.std.specs.List.{enumerate_from, list_any}
use Rattle.std.specs.Cmp.{IsEquivalence}
use Rattle.driver_lookup.specs.declared.state.DisambiguateState.{DisambiguateState}
use Rattle.driver_lookup.specs.declared.state.DisambiguateState.TheVariants.{YearSuffix}
use Rattle.driver_entries.specs.Entries.{distinct, place, with_all_new, with_new}
use Rattle.driver_passes.specs.Renders.{CiteRender, ItemRender, Place}
use Rattle.rounds_ambiguity.specs.FirstCites.{first_cite_of, firsts_view, same_entry}
use Rattle.rounds_ambiguity.specs.Members.{Member, entry_of, members}
use Rattle.rounds_ambiguity.specs.SuffixMarks.{first_cites, suffix_among, suffix_marks}
use Rattle.rounds_ambiguity.specs.declared.first_cites.FirstCite.{FirstCite}
use Rattle.driver_entries.proofs.Distinct.{all_new_is_distinct}
use Rattle.driver_entries.proofs.Sets.{insert-view}
use Rattle.rounds_ambiguity.proofs.Distinct.{are-distinct, distinct-map, own-places}
use Rattle.rounds_ambiguity.proofs.Walks.{IsNext, rest-end}

same_entry-laws : {E : Type 0} (eq : E → E → Bool) → IsEquivalence eq → IsEquivalence (same_entry eq)
same_entry-laws eq laws = record {
  refl = λ p. laws.refl p.0;
  symm = λ p q. laws.symm p.0 q.0;
  congr = λ p q r. laws.congr p.0 q.0 r.0;
}

module _ {T P : Type 0} (eq : T → T → Bool) (cites : List (CiteRender T P)) (ps : List Place) (k : ℕ) where
  -- what the gathered cites come to, with those from the k-th place on
  abbrev pub gathered : List (T × Place) → ℕ → List (T × Place)
  gathered firsts n = with_all_new (same_entry eq) firsts (map first_cite_of (members cites (drop n ps)))

  -- one more cite
  pub first-more : (d : Place) (i : ItemRender T P) (x : FirstCite T) (keys new : List (FirstCite T)) (all : List (T × Place)) → IsNext cites ps k d (λ m. m.item) i
      → i.entry ≡ x.entry.now → get_or ps k d ≡ x.place
      → new ≡ cond (list_any (λ f. eq x.entry.now f.entry.now) keys) keys (keys ++ x ∷ [])
      → gathered (firsts_view keys) k ≡ all → gathered (firsts_view new) (k + 1) ≡ all
  first-more d i x keys new all n entry at inserted so_far =
      let later : List (Member T P) = members cites (drop (k + 1) ps) in
      let first : (x.entry.now, x.place) ≡ first_cite_of n.cite = λ j. (sym (ap (λ y. y.entry) n.known ∙ entry) j, sym (n.place ∙ at) j) in
      ap (λ fs. with_all_new (same_entry eq) fs (map first_cite_of later)) (insert-view (λ f. (f.entry.now, f.place)) (same_entry eq) x keys new inserted)
      ∙ ap (λ p. with_all_new (same_entry eq) (with_new (same_entry eq) (firsts_view keys) p) (map first_cite_of later)) first
      ∙ ap (λ ms. with_all_new (same_entry eq) (firsts_view keys) (map first_cite_of ms)) (sym n.split)
      ∙ so_far

  -- all of them
  pub first-all : (laws : IsEquivalence eq) (firsts : List (T × Place)) → length ps ≤ k
      → gathered firsts k ≡ with_all_new (same_entry eq) [] (map first_cite_of (members cites ps)) → firsts ≡ map first_cite_of (first_cites eq (members cites ps))
  first-all laws firsts h so_far =
      ap (λ ms. with_all_new (same_entry eq) firsts (map first_cite_of ms)) (sym (rest-end cites ps k h)) ∙ so_far
      ∙ all_new_is_distinct (same_entry eq) (same_entry-laws eq laws) (map first_cite_of (members cites ps))
      ∙ distinct-map first_cite_of (same_entry eq) (members cites ps)

module _ {T P : Type 0} (eq : T → T → Bool) (laws : IsEquivalence eq) (cites : List (Member T P)) where
  abbrev pub Mark : Type 0
  Mark = Place × DisambiguateState

  pub enumerate-map : (k : ℕ) (ms : List (Member T P))
      → map {B = Mark} (λ p. (p.1.1, YearSuffix p.0)) (enumerate_from k (map first_cite_of ms)) ≡ map {B = Mark} (λ p. (p.1.place, YearSuffix p.0)) (enumerate_from k ms)
  enumerate-map k [] = refl
  enumerate-map k (m ∷ ms) = ap (λ t. (m.place, YearSuffix k) ∷ t) (enumerate-map (k + 1) ms)

  same-places : (ms : List (Member T P))
      → map {B = Mark} (λ m. (m.place, YearSuffix (0 + place eq (entry_of m) (map entry_of (first_cites eq cites))))) ms
      ≡ map {B = Mark} (λ m. (m.place, suffix_among eq cites m)) ms
  same-places [] = refl
  same-places (m ∷ ms) =
      let same : 0 + place eq (entry_of m) (map entry_of (first_cites eq cites)) ≡ place eq (entry_of m) (distinct eq (map entry_of cites)) =
      zero-add (place eq (entry_of m) (map entry_of (first_cites eq cites))) ∙ ap (place eq (entry_of m)) (sym (distinct-map entry_of eq cites)) in
      let mark : ℕ → Mark = λ n. (m.place, YearSuffix n) in
      λ j. mark (same j) ∷ same-places ms j

  -- the numbers of the first cites are the places of their entries
  pub numbered-firsts : map {B = Mark} (λ p. (p.1.1, YearSuffix p.0)) (enumerate_from 0 (map first_cite_of (first_cites eq cites))) ≡ suffix_marks eq cites
  numbered-firsts =
      enumerate-map 0 (first_cites eq cites)
      ∙ own-places entry_of eq laws {Z = Mark} (λ m n. (m.place, YearSuffix n)) 0 (first_cites eq cites) (are-distinct (λ a b. eq (entry_of a) (entry_of b)) cites)
      ∙ same-places (first_cites eq cites)

  pub suffixes-made : (keys firsts : List (FirstCite T)) (marks : List Mark) → marks ≡ map (λ p. (p.1.1, YearSuffix p.0)) (enumerate_from 0 (firsts_view firsts)) → firsts ≡ keys
      → firsts_view keys ≡ map first_cite_of (first_cites eq cites) → marks ≡ suffix_marks eq cites
  suffixes-made keys firsts marks made same found =
      made ∙ ap (λ fs. map {B = Mark} (λ p. (p.1.1, YearSuffix p.0)) (enumerate_from 0 fs)) (ap firsts_view same ∙ found) ∙ numbered-firsts
